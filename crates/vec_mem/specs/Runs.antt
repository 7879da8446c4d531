-- Elements of one field that stand side by side in memory: they are moved as bytes.
use Rattle.std.specs.Prelude.{ℕ, ◌+◌, ◌-◌, ◌*◌, Bool, false, cond, not, ◌&&◌, eqb, List, is_none, unwrap_or}
use lib.Dec.{ltb, leb}
use Rattle.bit_laws.specs.Numbers.{low}
use Rattle.bit_laws.specs.Lists.{tabulate}
use Rattle.element_ops.specs.Elements.{with_bytes, byte_at, group_byte, place_in_group}
use Rattle.guest_mem.specs.Pages.{Pages, first_bad, byte_at as memory_byte}
use Rattle.vtype_cfg.specs.declared.configuration.Cfg.{Cfg}
use Rattle.rvv_meaning.specs.declared.accesses.Offset.{Offset}
use Rattle.rvv_meaning.specs.declared.accesses.Offset.TheVariants.{Step, Index}
use Rattle.rvv_meaning.specs.declared.accesses.Access.{Access}
use Rattle.rvv_meaning.specs.LoadsAndStores.{field_size}

-- the registers whose group from register r on, of `size` bytes each, holds these bytes from place `from` on and below `to`;
-- the other bytes stay
unfoldable pub with_run : (size : ℕ) → List (List ℕ) → (r from to : ℕ) → (ℕ → ℕ) → List (List ℕ)
with_run size v r from to byte =
    with_bytes v (λ q j.
    cond (leb r q && (leb from (place_in_group size r q j) && ltb (place_in_group size r q j) to)) (byte (place_in_group size r q j)) (byte_at v q j))

-- so many bytes of the group from register r on, of `size` bytes each, from a place on
abbrev pub span : (size : ℕ) → List (List ℕ) → (r from count : ℕ) → List ℕ
span size v r from count = tabulate count (λ k. group_byte size v r (from + k))

-- the byte of memory so many places after an address
abbrev pub byte_after : Pages → (address place : ℕ) → ℕ
byte_after pages address place = unwrap_or (memory_byte pages (low 32 (address + place))) 0

-- each element stands right after the one before it
abbrev pub is_step_of : Offset → ℕ → Bool
is_step_of (Step n) size = eqb n size
is_step_of (Index r w) size = false

-- the elements have one field, stand side by side, and are all left in
abbrev pub is_run : Access → Bool
is_run t = eqb t.fields 1 && (not t.masked && is_step_of t.offset (field_size t))

-- the first byte of those from vstart on, and their number
abbrev pub run_start : Cfg → Access → (base : ℕ) → ℕ
run_start c t base = low 32 (base + c.vstart * field_size t)

abbrev pub run_length : Cfg → Access → ℕ
run_length c t = t.len * field_size t - c.vstart * field_size t

-- they are a run, and all bytes may be reached as it is needed
abbrev pub runs : Cfg → Access → (base need : ℕ) → Pages → Bool
runs c t base need pages = is_run t && (leb c.vstart t.len && is_none (first_bad pages need (run_start c t base) (run_length c t)))
