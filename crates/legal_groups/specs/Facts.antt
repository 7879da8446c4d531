-- What legality says of the registers of an instruction: by the widths of its operands, and class by class.
use Rattle.std.specs.Prelude.{◌≡◌, ℕ, suc, ◌+◌, ◌-◌, ◌*◌, ◌/◌, ◌%◌, ◌<◌, ◌≤◌, Bool, true, false, ◌&&◌, nat_lt, nat_le, ◌⊎◌, IsTrue, max}
use Rattle.rvv_decode.specs.declared.instruction.VInstr.{VInstr}
use Rattle.rvv_decode.specs.declared.instruction.Form.TheVariants.{V}
use Rattle.vtype_cfg.specs.declared.vtype.Vtype.{Vtype}
use Rattle.vtype_cfg.specs.Settings.{is_supported, is_vill_or_supported}
use Rattle.vtype_cfg.specs.Groups.{emul_of, groups_at, group_registers}
use Rattle.vtype_cfg.specs.Classes.{Class, plain, move, compare, load, store, indexed_load, indexed_store, whole_load, whole_store, mask_load, mask_store, class_of, mask, group, row_of}
use Rattle.vtype_cfg.specs.Legality.{is_legal}

-- ---- groups by the widths of their elements

-- the bits of an element that a group may have
abbrev pub IsElementWidth : ℕ → Type 0
IsElementWidth width = (width ≡ 8) ⊎ ((width ≡ 16) ⊎ (width ≡ 32))

-- how many registers a group of elements of so many bits takes: EMUL, and one where that is less
abbrev pub registers_for : Vtype → ℕ → ℕ
registers_for vt width = group_registers (groups_at vt 1 width 0)

-- where the group of n registers from `first` on lies
pub record Group (n first : ℕ) : Type 0 where
  pub some : 0 < n
  pub few : n ≤ 8
  pub room : first + n ≤ 32
  pub aligned : first % n ≡ 0

-- Register r of the n registers from `first` on, which have elements of s bits, holds one with the same number as an element
-- in register g of a group of elements of d bits. In units of VLEN/(d·s) elements register k of the first group holds those
-- from k·d up to, but without, (k + 1)·d, and register g of the second one those from g·s up to (g + 1)·s.
abbrev pub is_read_for : (d s first n g r : ℕ) → Bool
is_read_for d s first n g r =
    nat_le first r && nat_lt r (first + n) && (nat_lt ((r - first) * d) (suc g * s) && nat_lt (g * s) (suc (r - first) * d))

-- A source that is a group of elements of s bits from `first` on, where the destination is one of elements of d bits from vd
-- on: for register g of the destination no register is read that the registers before g have overwritten.
pub record ReadBeside (vt : Vtype) (d vd s first : ℕ) : Type 0 where
  pub width : IsElementWidth s
  pub place : Group (registers_for vt s) first
  pub unwritten : (g r : ℕ) → g < registers_for vt d → is_read_for d s first (registers_for vt s) g r ≡ true → (r < 32) × ((r < vd) ⊎ (vd + g ≤ r))

-- A source that is a group of elements of s bits from `first` on, where the destination is the mask in vd: of the group's
-- registers only the lowest-numbered one may be the mask.
pub record ReadForMask (vt : Vtype) (vd s first : ℕ) : Type 0 where
  pub width : IsElementWidth s
  pub place : Group (registers_for vt s) first
  pub lowest : (g : ℕ) → g < registers_for vt s → first + g ≡ vd → g ≡ 0

-- a fact of the source in vs2, and of that in vs1, where it is a group of elements of s bits from the register named there on
pub record Sources (class : Class) (i : VInstr) (vt : Vtype) (fact : (s first : ℕ) → Type 0) : Type 0 where
  pub vs2 : (s : ℕ) → (row_of class vt.sew i).vs2 ≡ group s → fact s i.vs2
  pub vs1 : (s : ℕ) → i.form ≡ V → (row_of class vt.sew i).vs1 ≡ group s → fact s i.vs1

-- an instruction of a class whose destination is a group of elements of d bits, and which spares the mask that it reads
pub record GroupWritten (class : Class) (i : VInstr) (vt : Vtype) (d : ℕ) : Type 0 where
  pub vill : vt.vill ≡ false
  pub sew : IsElementWidth vt.sew
  pub width : IsElementWidth d
  pub place : Group (registers_for vt d) i.vd
  pub spares_mask : i.vm ≡ false → 0 < i.vd
  pub sources : Sources class i vt (ReadBeside vt d i.vd)

-- an instruction of a class whose destination is a mask; it may write the mask that it reads
pub record MaskWritten (class : Class) (i : VInstr) (vt : Vtype) : Type 0 where
  pub vill : vt.vill ≡ false
  pub sew : IsElementWidth vt.sew
  pub room : i.vd < 32
  pub sources : Sources class i vt (ReadForMask vt i.vd)

-- what a legal instruction of a class has
abbrev pub Follows : Class → (VInstr → Vtype → Type 0) → Type 0
Follows class fact =
    (i : VInstr) (vt : Vtype) (vstart : ℕ) → IsTrue (is_vill_or_supported vt) → is_legal i vt vstart ≡ true → class_of i.op ≡ class → fact i vt

-- every class whose destination is a group
abbrev pub LegalGroupLaw : Type 0
LegalGroupLaw = (class : Class) → Follows class (λ i vt. (d : ℕ) → (row_of class vt.sew i).vd ≡ group d → GroupWritten class i vt d)

-- every class whose destination is a mask
abbrev pub LegalMaskLaw : Type 0
LegalMaskLaw = (class : Class) → Follows class (λ i vt. (row_of class vt.sew i).vd ≡ mask → MaskWritten class i vt)

-- ---- classes whose groups have elements of SEW bits

-- how many registers a group of elements of SEW bits takes: LMUL, and one where that is less
abbrev pub group_count : Vtype → ℕ
group_count vt = max 1 (vt.lmul8 / 8)

-- The groups of n registers from vd on and from r on are the same or apart, and the second one ends with v31 at the latest.
abbrev pub SameOrApart : (n vd r : ℕ) → Type 0
SameOrApart n vd r = (r + n ≤ 32) × ((r ≡ vd) ⊎ ((r + n ≤ vd) ⊎ (vd + n ≤ r)))

-- an instruction whose destination and vs1 are groups of elements of SEW bits
pub record SewGroups (i : VInstr) (vt : Vtype) : Type 0 where
  pub vill : vt.vill ≡ false
  pub sew : IsElementWidth vt.sew
  pub few : group_count vt ≤ 8
  pub room : i.vd + group_count vt ≤ 32
  pub spares_mask : i.vm ≡ false → 0 < i.vd
  pub vs1 : i.form ≡ V → SameOrApart (group_count vt) i.vd i.vs1

-- The group of n registers from r on ends with v31 at the latest; and the one register vd is its lowest-numbered one or apart
-- from it.
abbrev pub LowestOrApart : (n vd r : ℕ) → Type 0
LowestOrApart n vd r = (r + n ≤ 32) × ((vd ≡ r) ⊎ ((vd < r) ⊎ (r + n ≤ vd)))

-- an instruction whose destination is a mask, and whose vs2 and vs1 are groups of elements of SEW bits; it may write the mask
-- that it reads
pub record MaskGroups (i : VInstr) (vt : Vtype) : Type 0 where
  pub vill : vt.vill ≡ false
  pub sew : IsElementWidth vt.sew
  pub few : group_count vt ≤ 8
  pub room : i.vd < 32
  pub vs2 : LowestOrApart (group_count vt) i.vd i.vs2
  pub vs1 : i.form ≡ V → LowestOrApart (group_count vt) i.vd i.vs1

-- a plain instruction has a third such group in vs2
abbrev pub LegalPlainLaw : Type 0
LegalPlainLaw = Follows plain (λ i vt. SewGroups i vt × SameOrApart (group_count vt) i.vd i.vs2)

abbrev pub LegalMoveLaw : Type 0
LegalMoveLaw = Follows move SewGroups

-- A comparison has two such groups and a mask as its destination, as a carry out has.
abbrev pub LegalCompareLaw : Type 0
LegalCompareLaw = Follows compare MaskGroups

-- ---- loads and stores

-- the instruction spares the mask that it reads
abbrev pub SparesMask : VInstr → Type 0
SparesMask i = i.vm ≡ false → 0 < i.vd

-- The registers that a load or a store moves under a setting: a group of elements of d bits for each field, one after the
-- other from vd on.
pub record FieldGroups (i : VInstr) (vt : Vtype) (d : ℕ) : Type 0 where
  pub supported : is_supported vt ≡ true
  pub vill : vt.vill ≡ false
  pub sew : IsElementWidth vt.sew
  pub few : i.nf * registers_for vt d ≤ 8
  pub room : i.vd + i.nf * registers_for vt d ≤ 32

-- How the indices of a load may lie to the one group of fields, or to the groups: before them; after them; from the same
-- register on, where they are no narrower than the elements; or as the last registers, where they are no wider and fill them.
abbrev pub IndexBeside : VInstr → Vtype → Type 0
IndexBeside i vt =
    (i.vs2 + registers_for vt i.eew ≤ i.vd)
    ⊎ ((i.vd + i.nf * registers_for vt vt.sew ≤ i.vs2)
    ⊎ (((i.nf ≡ 1) × (i.vs2 ≡ i.vd) × (vt.sew ≤ i.eew))
    ⊎ ((i.nf ≡ 1) × (i.vs2 + registers_for vt i.eew ≡ i.vd + registers_for vt vt.sew) × (i.eew ≤ vt.sew) × (8 ≤ emul_of vt i.eew))))

-- the indices lie within the registers
abbrev pub IndexRoom : VInstr → Vtype → Type 0
IndexRoom i vt = i.vs2 + registers_for vt i.eew ≤ 32

-- the whole registers, and the one of a mask
abbrev pub WholeRoom : VInstr → Vtype → Type 0
WholeRoom i vt = i.vd + i.nf ≤ 32

abbrev pub MaskRoom : VInstr → Vtype → Type 0
MaskRoom i vt = (vt.vill ≡ false) × (i.vd < 32)

-- what a legal load or store of a class has, which has a field at least
abbrev pub FollowsAccess : Class → (VInstr → Vtype → Type 0) → Type 0
FollowsAccess class fact = Follows class (λ i vt. 0 < i.nf → fact i vt)

-- every class of loads and stores
pub record LegalAccessLaw : Type 0 where
  pub loads : FollowsAccess load (λ i vt. SparesMask i × FieldGroups i vt i.eew)
  pub stores : FollowsAccess store (λ i vt. FieldGroups i vt i.eew)
  pub indexed_loads : FollowsAccess indexed_load (λ i vt. (SparesMask i × FieldGroups i vt vt.sew) × (IndexRoom i vt × IndexBeside i vt))
  pub indexed_stores : FollowsAccess indexed_store (λ i vt. FieldGroups i vt vt.sew × IndexRoom i vt)
  pub whole_loads : FollowsAccess whole_load WholeRoom
  pub whole_stores : FollowsAccess whole_store WholeRoom
  pub mask_loads : FollowsAccess mask_load MaskRoom
  pub mask_stores : FollowsAccess mask_store MaskRoom
