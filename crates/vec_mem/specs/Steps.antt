-- What the code does to one element at a time.
use Rattle.std.specs.Prelude.{◌≡◌, ℕ, zero, suc, ◌+◌, ◌-◌, ◌*◌, ◌/◌, ◌^◌, ⊤, ◌<◌, ◌≤◌, Bool, true, cond, ◌&&◌, ◌||◌, ◌⊎◌, List, Option, None}
use lib.Dec.{ltb}
use Rattle.bit_laws.specs.Numbers.{low}
use Rattle.element_ops.specs.Elements.{IsSize, with_element}
use Rattle.guest_mem.specs.Pages.{Pages, loaded, written}
use Rattle.vtype_cfg.specs.declared.configuration.Cfg.{Cfg}
use Rattle.rvv_meaning.specs.Elementwise.{size_of, is_ones}
use Rattle.rvv_meaning.specs.declared.accesses.Offset.{Offset}
use Rattle.rvv_meaning.specs.declared.accesses.Offset.TheVariants.{Step, Index}
use Rattle.rvv_meaning.specs.declared.accesses.Access.{Access}
use Rattle.rvv_meaning.specs.LoadsAndStores.{field_size, per_field, address, is_unmasked, bad, bytes_of}

-- the registers with the first fields of element e written; each field has so many elements
unfoldable pub fields_written : (size : ℕ) → List (List ℕ) → (r w per e : ℕ) → (ℕ → ℕ) → ℕ → List (List ℕ)
fields_written size v r w per e value zero = v
fields_written size v r w per e value (suc n) = with_element size (fields_written size v r w per e value n) r w (n * per + e) (value n)

-- the same with all fields of an access
abbrev pub all_written : Cfg → Access → List (List ℕ) → (e : ℕ) → (ℕ → ℕ) → List (List ℕ)
all_written c t v e value = fields_written (size_of c) v t.register t.width (per_field c t) e value t.fields

-- the numbers that fields have in memory
abbrev pub values_at : Pages → (size address : ℕ) → ℕ → ℕ
values_at pages size a f = loaded pages (low 32 (a + f * size)) size

-- all ones, whatever the field
abbrev pub ones_of : ℕ → ℕ → ℕ
ones_of w f = 2 ^ w - 1

-- the registers after an element was moved, or was masked off
unfoldable pub element_loaded : Cfg → Access → (base : ℕ) → Pages → List (List ℕ) → ℕ → List (List ℕ)
element_loaded c t base pages u e =
    cond (is_unmasked c t base u e)
    (all_written c t u e (values_at pages (field_size t) (address c t base u e)))
    (cond (is_ones c.policy && c.vtype.vma) (all_written c t u e (ones_of t.width)) u)

-- the registers after n elements from e on became all ones
unfoldable pub tail_filled : Cfg → Access → List (List ℕ) → (e n : ℕ) → List (List ℕ)
tail_filled c t u e zero = u
tail_filled c t u e (suc n) = all_written c t (tail_filled c t u e n) (e + n) (ones_of t.width)

-- the tail becomes all ones
abbrev pub fills_tail : Cfg → Access → Bool
fills_tail c t = is_ones c.policy && (ltb c.vstart t.len && (t.agnostic_tail || c.vtype.vta))

-- the first bad address of an element that the mask leaves in
abbrev pub bad_if_moved : Cfg → Access → (base : ℕ) → List (List ℕ) → (need : ℕ) → Pages → ℕ → Option ℕ
bad_if_moved c t base u need pages e = cond (is_unmasked c t base u e) (bad c t base u need pages e) None

-- the pages after an element was stored, or was masked off
unfoldable pub element_stored : Cfg → Access → (base : ℕ) → List (List ℕ) → Pages → ℕ → Pages
element_stored c t base v pages e = cond (is_unmasked c t base v e) (written pages (address c t base v e) (bytes_of c t v e)) pages

-- Byte k of the index of element e lies outside the destination, or in it at or after the place of element e: so it is
-- read before it is written.
abbrev pub IsSpared : (size r x : ℕ) → Access → (e k : ℕ) → Type 0
IsSpared size r x t e k =
    (r * size + (e * x + k) < t.register * size)
    ⊎ (((t.register + t.fields * t.registers) * size ≤ r * size + (e * x + k))
    ⊎ ((t.fields ≡ 1) × (t.register * size + e * field_size t ≤ r * size + (e * x + k))))

-- the indices of x bytes lie in registers
pub record IndexFits (c : Cfg) (t : Access) (r w : ℕ) : Type 0 where
  pub size : IsSize (w / 8)
  pub whole : 8 * (w / 8) ≡ w
  pub register : r < 32
  pub room : t.len * (w / 8) ≤ (32 - r) * size_of c

abbrev pub OffsetFits : Offset → Cfg → Access → Type 0
OffsetFits (Step n) c t = ⊤
OffsetFits (Index r w) c t = IndexFits c t r w

-- no element of a load overwrites the index of a later one
abbrev pub SparesIndex : Offset → Cfg → Access → Type 0
SparesIndex (Step n) c t = ⊤
SparesIndex (Index r w) c t = (e k : ℕ) → e < t.len → k < w / 8 → IsSpared (size_of c) r (w / 8) t e k

-- what legality says of an access
pub record Fits (c : Cfg) (t : Access) : Type 0 where
  pub size : IsSize (field_size t)
  pub whole : 8 * field_size t ≡ t.width
  pub few : t.fields ≤ 8
  pub some : 0 < t.fields
  pub room : t.register + t.fields * t.registers ≤ 32
  pub register : t.register < 32
  pub len : t.len ≤ per_field c t
  pub short : t.len ≤ 8 * size_of c
  pub vlen : c.vlen ≤ 2 ^ 16
  pub wide : 32 ≤ c.vlen
  pub offset : OffsetFits t.offset c t

-- what it says of a load beside that
pub record FitsLoad (c : Cfg) (t : Access) : Type 0 where
  pub mask : t.masked ≡ true → 0 < t.register
  pub index : SparesIndex t.offset c t
