-- What the instructions leave that read whole groups or whole masks (vector extension 1.0, sections 14 to 16): elements of a
-- destination, as all instructions do that write elements, or a number for x[rd].
use Rattle.std.specs.Prelude.{ℕ, ◌+◌, ◌-◌, ◌*◌, ◌/◌, ◌^◌, Bool, true, false, cond, not, ◌&&◌, ◌||◌, eqb, List, Option, None, Some, max, min}
use Rattle.std.specs.Int.{from_bool}
use lib.Dec.{ltb}
use Rattle.bit_laws.specs.Signed.{extended}
use Rattle.fold_laws.specs.Folds.{any, count, least, nth, fold_chosen}
use Rattle.element_ops.specs.Elements.{element_of, mask_bit_of}
use Rattle.rvv_decode.specs.declared.instruction.VInstr.{VInstr}
use Rattle.rvv_decode.specs.declared.instruction.VOp.{VOp}
use Rattle.rvv_decode.specs.declared.instruction.VOp.TheVariants.{Opi, Opm}
use Rattle.rvv_decode.specs.declared.instruction.Form.{Form}
use Rattle.rvv_decode.specs.declared.instruction.Form.TheVariants.{V, X, I}
use Rattle.rvv_decode.specs.declared.instruction.OpiOp.{OpiOp}
use Rattle.rvv_decode.specs.declared.instruction.OpiOp.TheVariants.{Vslideup, Vslidedown, Vrgather, Vrgatherei16, VmvWhole, Vwredsumu, Vwredsum}
use Rattle.rvv_decode.specs.declared.instruction.OpmOp.{OpmOp}
use Rattle.rvv_decode.specs.declared.instruction.OpmOp.TheVariants.{Vredsum, Vredand, Vredor, Vredxor, Vredminu, Vredmin, Vredmaxu, Vredmax, Vslide1up, Vslide1down, VmvXS, VmvSX, Vcpop, Vfirst, Vmsbf, Vmsif, Vmsof, Viota, Vid, Vcompress, Vmand, Vmnand, Vmandn, Vmor, Vmnor, Vmorn, Vmxor, Vmxnor}
use Rattle.vtype_cfg.specs.declared.configuration.Cfg.{Cfg}
use Rattle.vtype_cfg.specs.Classes.{group as group_place, count_at}
use Rattle.vtype_cfg.specs.Settings.{vlmax}
use Rattle.rvv_meaning.specs.Elementwise.{Elementwise, size_of}
use Rattle.rvv_meaning.specs.Operations.{vadd, vand, vor, vxor, vminu, vmin, vmaxu, vmax}

-- What an instruction leaves that computes from the vector registers: elements of registers, or the number of a scalar
-- register.
pub data Left : Type 0 where
  elements : Elementwise → Left
  number : ℕ → Left

-- The number that says that no place is set.
abbrev pub no_place : ℕ
no_place = 2 ^ 32 - 1

-- An instruction, its configuration, its scalar and the registers that it finds. The registers come before what it leaves,
-- since a length may depend on them.
module _ (i : VInstr) (c : Cfg) (x : ℕ) (v : List (List ℕ)) where
  -- ---- what it reads

  -- element e of the group that a register begins, of w bits
  abbrev pub read : (w first : ℕ) → ℕ → ℕ
  read w first e = element_of (size_of c) v first w e

  -- an element of vs2 and one of vs1, of SEW bits, and a bit of each as a mask
  abbrev pub from_vs2 : ℕ → ℕ
  from_vs2 e = read c.vtype.sew i.vs2 e

  abbrev pub from_vs1 : ℕ → ℕ
  from_vs1 e = read c.vtype.sew i.vs1 e

  abbrev pub bit_of_vs2 : ℕ → Bool
  bit_of_vs2 e = mask_bit_of v i.vs2 e

  abbrev pub bit_of_vs1 : ℕ → Bool
  bit_of_vs1 e = mask_bit_of v i.vs1 e

  -- an element of vs2 at any number, which is 0 past the greatest vector length
  abbrev pub gathered : ℕ → ℕ
  gathered e = cond (ltb e (vlmax c.vtype c.vlen)) (from_vs2 e) 0

  -- whether the mask leaves an element in, and whether it is set: left in, with a bit of vs2 that is 1
  abbrev pub is_chosen : ℕ → Bool
  is_chosen e = i.vm || mask_bit_of v 0 e

  abbrev pub is_set : ℕ → Bool
  is_set e = is_chosen e && bit_of_vs2 e

  -- by how much a slide moves: the scalar, or the immediate without a sign
  abbrev pub amount_in : Form → ℕ
  amount_in V = 0
  amount_in X = x
  amount_in I = i.vs1

  abbrev pub amount : ℕ
  amount = amount_in i.form

  -- the index of an element: its own one, or one for all
  abbrev pub index_in : Form → ℕ → ℕ
  index_in V e = from_vs1 e
  index_in X e = x
  index_in I e = i.vs1

  -- ---- where it writes

  -- the elements of a group, from one on
  abbrev pub to_group_from : (from : ℕ) → (value : ℕ → ℕ) → Left
  to_group_from from value = elements record {
    vd = i.vd;
    registers = count_at c.vtype (group_place c.vtype.sew);
    width = c.vtype.sew;
    from = from;
    len = c.vl;
    vl = c.vl;
    masked = not i.vm;
    value = λ w e. value e;
    clipped = λ w e. false;
  }

  abbrev pub to_group : (value : ℕ → ℕ) → Left
  to_group value = to_group_from c.vstart value

  -- the lowest elements of a group, so many, whatever the mask is
  abbrev pub to_front : (len : ℕ) → (value : ℕ → ℕ) → Left
  to_front len value = elements record {
    vd = i.vd;
    registers = count_at c.vtype (group_place c.vtype.sew);
    width = c.vtype.sew;
    from = c.vstart;
    len = len;
    vl = c.vl;
    masked = false;
    value = λ w e. value e;
    clipped = λ w e. false;
  }

  -- element 0 of one register of elements of n bits, where the vector length is not 0
  abbrev pub to_first : (n z : ℕ) → Left
  to_first n z = elements record {
    vd = i.vd;
    registers = 1;
    width = n;
    from = c.vstart;
    len = min 1 c.vl;
    vl = c.vl;
    masked = false;
    value = λ w e. z;
    clipped = λ w e. false;
  }

  -- the bits of a mask
  abbrev pub to_mask : (masked : Bool) → (bit : ℕ → Bool) → Left
  to_mask masked bit = elements record {
    vd = i.vd;
    registers = 1;
    width = 1;
    from = c.vstart;
    len = c.vl;
    vl = c.vl;
    masked = masked;
    value = λ w e. from_bool (bit e);
    clipped = λ w e. false;
  }

  -- whole registers, as many as the field says: all their elements, whatever the vector length is, and bytes where no setting
  -- is in force
  abbrev pub whole_width : ℕ
  whole_width = cond c.vtype.vill 8 c.vtype.sew

  abbrev pub to_whole : (count : ℕ) → (value : ℕ → ℕ) → Left
  to_whole count value = elements record {
    vd = i.vd;
    registers = count;
    width = whole_width;
    from = c.vstart;
    len = count * (c.vlen / whole_width);
    vl = count * (c.vlen / whole_width);
    masked = false;
    value = λ w e. value e;
    clipped = λ w e. false;
  }

  -- ---- reductions (section 14)

  -- by a step on numbers of SEW bits: from element 0 of vs1, the elements of vs2 that are left in, the lowest first
  abbrev pub reduced : (step : (w a b : ℕ) → ℕ) → Left
  reduced step = to_first c.vtype.sew (fold_chosen (step c.vtype.sew) (from_vs1 0) is_chosen from_vs2 c.vl)

  -- the sum of elements that are extended, with or without a sign, to twice their width
  abbrev pub wide_sum : (signed : Bool) → Left
  wide_sum signed =
      to_first (2 * c.vtype.sew)
      (fold_chosen (vadd (2 * c.vtype.sew)) (read (2 * c.vtype.sew) i.vs1 0) is_chosen (λ e. extended signed c.vtype.sew (2 * c.vtype.sew) (from_vs2 e)) c.vl)

  -- ---- masks (section 15)

  -- a truth of the bits of vs2 and vs1
  abbrev pub mask_logic : (truth : (a b : Bool) → Bool) → Left
  mask_logic truth = to_mask false (λ e. truth (bit_of_vs2 e) (bit_of_vs1 e))

  -- how many places are set, and which is the first
  abbrev pub set_count : Left
  set_count = number (count c.vl is_set)

  abbrev pub first_set : Left
  first_set = number (least no_place c.vl is_set)

  -- where no set place is at or below; where none is below; and the first set place alone
  abbrev pub before_first : Left
  before_first = to_mask (not i.vm) (λ e. not (any (e + 1) is_set))

  abbrev pub up_to_first : Left
  up_to_first = to_mask (not i.vm) (λ e. not (any e is_set))

  abbrev pub only_first : Left
  only_first = to_mask (not i.vm) (λ e. is_set e && not (any e is_set))

  -- how many set places are below each element, and its number
  abbrev pub set_below : Left
  set_below = to_group (λ e. count e is_set)

  abbrev pub element_numbers : Left
  element_numbers = to_group (λ e. e)

  -- ---- permutations (section 16)

  -- the scalar moves (section 16.1): element 0 of vs2 with its sign, and the scalar in element 0
  abbrev pub first_element : Left
  first_element = number (extended true c.vtype.sew 32 (from_vs2 0))

  abbrev pub scalar_in_first : Left
  scalar_in_first = to_first c.vtype.sew x

  -- slides (section 16.3)
  abbrev pub slid_up : Left
  slid_up = to_group_from (max c.vstart amount) (λ e. from_vs2 (e - amount))

  abbrev pub slid_down : Left
  slid_down = to_group (λ e. gathered (e + amount))

  abbrev pub slid_up_by_one : Left
  slid_up_by_one = to_group (λ e. cond (eqb e 0) x (from_vs2 (e - 1)))

  abbrev pub slid_down_by_one : Left
  slid_down_by_one = to_group (λ e. cond (eqb (e + 1) c.vl) x (from_vs2 (e + 1)))

  -- gathers (section 16.4)
  abbrev pub gathered_by_index : Left
  gathered_by_index = to_group (λ e. gathered (index_in i.form e))

  abbrev pub gathered_by_sixteen : Left
  gathered_by_sixteen = to_group (λ e. gathered (read 16 i.vs1 e))

  -- the elements whose bit of vs1 is 1, one after the other (section 16.5)
  abbrev pub compressed : Left
  compressed = to_front (count c.vl bit_of_vs1) (λ e. from_vs2 (nth e c.vl bit_of_vs1))

  -- whole registers (section 16.6)
  abbrev pub moved_whole : Left
  moved_whole = to_whole (i.vs1 + 1) (λ e. read whole_width i.vs2 e)

-- what an instruction leaves of its configuration, its scalar and the registers that it finds
abbrev pub Leaving : Type 0
Leaving = VInstr → Cfg → (x : ℕ) → (v : List (List ℕ)) → Left

-- whether an operation leaves a number in a scalar register
abbrev pub makes_number : VOp → Bool
makes_number (Opm Vcpop) = true
makes_number (Opm Vfirst) = true
makes_number (Opm VmvXS) = true
makes_number op = false

-- the instructions of this kind
unfoldable pub whole_for : VOp → Option Leaving
whole_for (Opi Vslideup) = Some slid_up
whole_for (Opi Vslidedown) = Some slid_down
whole_for (Opi Vrgather) = Some gathered_by_index
whole_for (Opi Vrgatherei16) = Some gathered_by_sixteen
whole_for (Opi VmvWhole) = Some moved_whole
whole_for (Opi Vwredsumu) = Some (λ i c x v. wide_sum i c x v false)
whole_for (Opi Vwredsum) = Some (λ i c x v. wide_sum i c x v true)
whole_for (Opm Vredsum) = Some (λ i c x v. reduced i c x v vadd)
whole_for (Opm Vredand) = Some (λ i c x v. reduced i c x v vand)
whole_for (Opm Vredor) = Some (λ i c x v. reduced i c x v vor)
whole_for (Opm Vredxor) = Some (λ i c x v. reduced i c x v vxor)
whole_for (Opm Vredminu) = Some (λ i c x v. reduced i c x v vminu)
whole_for (Opm Vredmin) = Some (λ i c x v. reduced i c x v vmin)
whole_for (Opm Vredmaxu) = Some (λ i c x v. reduced i c x v vmaxu)
whole_for (Opm Vredmax) = Some (λ i c x v. reduced i c x v vmax)
whole_for (Opm Vslide1up) = Some slid_up_by_one
whole_for (Opm Vslide1down) = Some slid_down_by_one
whole_for (Opm VmvXS) = Some first_element
whole_for (Opm VmvSX) = Some scalar_in_first
whole_for (Opm Vcpop) = Some set_count
whole_for (Opm Vfirst) = Some first_set
whole_for (Opm Vmsbf) = Some before_first
whole_for (Opm Vmsif) = Some up_to_first
whole_for (Opm Vmsof) = Some only_first
whole_for (Opm Viota) = Some set_below
whole_for (Opm Vid) = Some element_numbers
whole_for (Opm Vcompress) = Some compressed
whole_for (Opm Vmand) = Some (λ i c x v. mask_logic i c x v (λ a b. a && b))
whole_for (Opm Vmnand) = Some (λ i c x v. mask_logic i c x v (λ a b. not (a && b)))
whole_for (Opm Vmandn) = Some (λ i c x v. mask_logic i c x v (λ a b. a && not b))
whole_for (Opm Vmor) = Some (λ i c x v. mask_logic i c x v (λ a b. a || b))
whole_for (Opm Vmnor) = Some (λ i c x v. mask_logic i c x v (λ a b. not (a || b)))
whole_for (Opm Vmorn) = Some (λ i c x v. mask_logic i c x v (λ a b. a || not b))
whole_for (Opm Vmxor) = Some (λ i c x v. mask_logic i c x v (λ a b. cond a (not b) b))
whole_for (Opm Vmxnor) = Some (λ i c x v. mask_logic i c x v (λ a b. not (cond a (not b) b)))
whole_for _ = None
