-- What a vector load or store leaves (vector extension 1.0, sections 3.4.3, 5.4, 7 and 17). It is said once for all
-- forms: an element has fields that stand side by side in memory, so it is moved as one range of bytes.
use Rattle.std.specs.Prelude.{ℕ, ◌+◌, ◌-◌, ◌*◌, ◌/◌, ◌%◌, Bool, false, cond, not, ◌&&◌, ◌||◌, List, Option, Some, None, is_some, unwrap_or, if◌then◌else◌}
use Rattle.std.specs.Option.{option_map}
use Rattle.std.specs.List.{find, filter, fold, range_with_len}
use lib.Dec.{ltb}
use Rattle.bit_laws.specs.Numbers.{low}
use Rattle.bit_laws.specs.Lists.{tabulate}
use Rattle.element_ops.specs.Elements.{element_of, group_byte, mask_bit_of, with_elements}
use Rattle.element_ops.specs.Places.{Place, prestart, active, masked_off, tail, place_of, agnostic_value, is_agnostic}
use Rattle.guest_mem.specs.Pages.{Pages, first_bad, loaded, written}
use Rattle.rvv_decode.specs.declared.instruction.VInstr.{VInstr}
use Rattle.rvv_decode.specs.declared.instruction.VOp.{VOp}
use Rattle.rvv_decode.specs.declared.instruction.VOp.TheVariants.{Memory}
use Rattle.vtype_cfg.specs.declared.configuration.Cfg.{Cfg}
use Rattle.rvv_meaning.specs.Elementwise.{size_of}
use Rattle.rvv_meaning.specs.Scalar.Accesses.{to_read, to_write}
use Rattle.rvv_meaning.specs.VectorAccesses.{access_of, is_store}
use Rattle.rvv_meaning.specs.declared.accesses.Offset.{Offset}
use Rattle.rvv_meaning.specs.declared.accesses.Offset.TheVariants.{Step, Index}
use Rattle.rvv_meaning.specs.declared.accesses.Access.{Access}

-- the bytes of a field, and those of an element with all its fields
abbrev pub field_size : Access → ℕ
field_size t = t.width / 8

abbrev pub element_size : Access → ℕ
element_size t = t.fields * field_size t

-- How many elements the registers of one field hold. The registers of all fields are one group: element e of field f is
-- element f * per_field + e of it.
abbrev pub per_field : Cfg → Access → ℕ
per_field c t = t.registers * size_of c / field_size t

-- how far after the base an element stands; v are the registers before the instruction
abbrev pub distance : Offset → Cfg → List (List ℕ) → ℕ → ℕ
distance (Step n) c v e = e * n
distance (Index r w) c v e = element_of (size_of c) v r w e

-- an access on a configuration, from a base, and the registers that it finds
module _ (c : Cfg) (t : Access) (base : ℕ) (v : List (List ℕ)) where
  -- where an element stands in memory, and where a field of it
  unfoldable pub address : ℕ → ℕ
  address e = low 32 (base + distance t.offset c v e)

  unfoldable pub field_address : ℕ → ℕ → ℕ
  field_address f e = low 32 (address e + f * field_size t)

  -- the mask leaves an element in
  abbrev pub is_unmasked : ℕ → Bool
  is_unmasked e = not t.masked || mask_bit_of v 0 e

  -- the elements that are moved, in their order: each is one access to the bytes of its fields
  unfoldable pub moved : List ℕ
  moved = filter is_unmasked (range_with_len c.vstart (t.len - c.vstart))

  -- the first byte of an element that lacks a permission
  unfoldable pub bad : (need : ℕ) → Pages → ℕ → Option ℕ
  bad need pages e = first_bad pages need (address e) (element_size t)

  -- the first element that cannot be moved whole
  unfoldable pub stop : (need : ℕ) → Pages → Option ℕ
  stop need pages = find (λ e. is_some (bad need pages e)) moved

-- The elements below the one that it stops at are done, with all their fields; else all are, the tail too.
abbrev pub done_below : Cfg → Access → Option ℕ → ℕ
done_below c t stop = unwrap_or stop (per_field c t)

-- a stop traps, but that of an access that trims the vector length, above element 0
abbrev pub traps_at : Access → ℕ → Bool
traps_at t e = not (t.trims && ltb 0 e)

abbrev pub trapped : Access → Option ℕ → Option ℕ
trapped t None = None
trapped t (Some e) = cond (traps_at t e) (Some e) None

-- vstart and vl after it
abbrev pub vstart_after : Access → Option ℕ → ℕ
vstart_after t stop = unwrap_or (trapped t stop) 0

abbrev pub vl_after : Cfg → Access → Option ℕ → ℕ
vl_after c t None = c.vl
vl_after c t (Some e) = cond (traps_at t e) c.vl e

unfoldable pub cfg_after : Cfg → Access → Option ℕ → Cfg
cfg_after c t stop = record c { vstart = vstart_after t stop; vl = vl_after c t stop }

-- what becomes of the registers that a load finds
module _ (c : Cfg) (t : Access) (base : ℕ) (v : List (List ℕ)) (pages : Pages) where
  -- how an element stands to the instruction
  abbrev pub place : ℕ → Place
  place e = place_of c.vstart c.vstart t.len t.masked (mask_bit_of v 0) e

  -- The elements of the tail are agnostic where vta is set, or whatever it is, but none of them is where vstart is not below
  -- the length.
  abbrev pub has_agnostic_tail : Bool
  has_agnostic_tail = ltb c.vstart t.len && (t.agnostic_tail || c.vtype.vta)

  -- whether an element in such a place is agnostic: one that is masked off is where vma is set
  abbrev pub is_agnostic_at : Place → Bool
  is_agnostic_at p = is_agnostic c.vtype.vma has_agnostic_tail p

  -- the number that a field of an element has in memory
  abbrev pub field_in_memory : ℕ → ℕ → ℕ
  field_in_memory f e = loaded pages (field_address c t base v f e) (field_size t)

  -- element s of the group of all fields, before the instruction
  abbrev pub old_slot : ℕ → ℕ
  old_slot s = element_of (size_of c) v t.register t.width s

  -- what becomes of it where it is done: it is loaded, or it is agnostic, or it stays
  abbrev pub slot_at_place : (ones : Bool) → Place → (s f e : ℕ) → ℕ
  slot_at_place ones active s f e = field_in_memory f e
  slot_at_place ones prestart s f e = old_slot s
  slot_at_place ones masked_off s f e = agnostic_value (ones && is_agnostic_at masked_off) t.width (old_slot s)
  slot_at_place ones tail s f e = agnostic_value (ones && is_agnostic_at tail) t.width (old_slot s)

  -- what becomes of it, where its element is done or not
  unfoldable pub slot_after : (ones done : Bool) → ℕ → ℕ
  slot_after ones done s = cond done (slot_at_place ones (place (s % per_field c t)) s (s / per_field c t) (s % per_field c t)) (old_slot s)

  -- the registers where some slots are done, and where `ones` says which of the agnostic ones become all ones
  unfoldable pub loaded_by : (ones done : ℕ → Bool) → List (List ℕ)
  loaded_by ones done = with_elements (size_of c) v t.register (t.fields * t.registers) t.width (λ s. slot_after (ones s) (done s) s)

  -- the slots of the elements below one
  abbrev pub slots_below : ℕ → ℕ → Bool
  slots_below e s = ltb (s % per_field c t) e

  -- the registers after a load, where `ones` says which of the agnostic elements become all ones
  unfoldable pub registers_loaded : (ones : ℕ → Bool) → List (List ℕ)
  registers_loaded ones = loaded_by ones (slots_below (done_below c t (stop c t base v to_read pages)))

-- byte k of an element with all its fields, in the order of memory, and all of them
abbrev pub byte_stored : Cfg → Access → List (List ℕ) → (e k : ℕ) → ℕ
byte_stored c t v e k = group_byte (size_of c) v t.register ((k / field_size t * per_field c t + e) * field_size t + k % field_size t)

unfoldable pub bytes_of : Cfg → Access → List (List ℕ) → ℕ → List ℕ
bytes_of c t v e = tabulate (element_size t) (byte_stored c t v e)

-- the pages after some elements were stored
unfoldable pub stored_all : Cfg → Access → (base : ℕ) → List (List ℕ) → Pages → List ℕ → Pages
stored_all c t base v pages es = fold (λ p e. written p (address c t base v e) (bytes_of c t v e)) pages es

-- the pages after a store: the elements below the one that it stops at are stored
unfoldable pub pages_stored : Cfg → Access → (base : ℕ) → List (List ℕ) → Pages → Pages
pages_stored c t base v pages =
    stored_all c t base v pages (filter (λ e. ltb e (done_below c t (stop c t base v to_write pages))) (moved c t base v))

-- ---- the outcome

-- What an access leaves, as one value: the configuration; the vector registers, where `ones` says which of the agnostic
-- elements become all ones; the pages; and the element that it traps at, with its first bad address.
pub record Outcome : Type 0 where
  pub cfg : Cfg
  pub vectors : (ones : ℕ → Bool) → List (List ℕ)
  pub pages : Pages
  pub fault : Option (ℕ × ℕ)

-- the element of a trap, with its first bad address
abbrev pub with_address : (ℕ → Option ℕ) → ℕ → ℕ × ℕ
with_address bad e = (e, unwrap_or (bad e) 0)

unfoldable pub loads : Cfg → Access → (base : ℕ) → List (List ℕ) → Pages → Outcome
loads c t base v pages = record {
  cfg = cfg_after c t (stop c t base v to_read pages);
  vectors = registers_loaded c t base v pages;
  pages = pages;
  fault = option_map (with_address (bad c t base v to_read pages)) (trapped t (stop c t base v to_read pages));
}

unfoldable pub stores : Cfg → Access → (base : ℕ) → List (List ℕ) → Pages → Outcome
stores c t base v pages = record {
  cfg = cfg_after c t (stop c t base v to_write pages);
  vectors = λ ones. v;
  pages = pages_stored c t base v pages;
  fault = option_map (with_address (bad c t base v to_write pages)) (trapped t (stop c t base v to_write pages));
}

-- an instruction that is no load and no store leaves all as it is
abbrev pub unchanged : Cfg → List (List ℕ) → Pages → Outcome
unchanged c v pages = record { cfg = c; vectors = λ ones. v; pages = pages; fault = None }

-- what an instruction leaves that finds a base and a stride in scalar registers: a load reads pages, and a store writes them
abbrev pub outcome_by : VOp → VInstr → Cfg → (base stride : ℕ) → List (List ℕ) → Pages → Outcome
outcome_by (Memory op) i c base stride v pages =
    if is_store op then stores c (access_of op i c stride) base v pages else loads c (access_of op i c stride) base v pages
outcome_by op i c base stride v pages = unchanged c v pages

unfoldable pub outcome : VInstr → Cfg → (base stride : ℕ) → List (List ℕ) → Pages → Outcome
outcome i c base stride v pages = outcome_by i.op i c base stride v pages
