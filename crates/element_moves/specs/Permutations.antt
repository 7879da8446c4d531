-- What instructions leave that move elements of the vector registers without a program: permutations.
use Rattle.std.specs.Prelude.{◌≡◌, ℕ, Bool, false, not, List, Option, Some, None}
use Rattle.std.specs.Option.{option_map}
use Rattle.bit_rows.specs.Slices.{Slices}
use Rattle.cam_chain.specs.Views.{registers_of}
use Rattle.fold_laws.specs.Folds.{count, nth}
use Rattle.rvv_decode.specs.declared.instruction.VInstr.{VInstr}
use Rattle.rvv_decode.specs.declared.instruction.Form.{Form}
use Rattle.rvv_decode.specs.declared.instruction.Form.TheVariants.{V}
use Rattle.rvv_decode.specs.declared.instruction.VOp.{VOp}
use Rattle.rvv_decode.specs.declared.instruction.VOp.TheVariants.{Opi, Opm}
use Rattle.rvv_decode.specs.declared.instruction.OpiOp.TheVariants.{Vrgather, Vrgatherei16}
use Rattle.rvv_decode.specs.declared.instruction.OpmOp.TheVariants.{Vcompress, Viota}
use Rattle.vtype_cfg.specs.declared.configuration.Cfg.{Cfg}
use Rattle.vtype_cfg.specs.Classes.{group, count_at}
use Rattle.rvv_meaning.specs.Elementwise.{Elementwise, registers_after, clips}
use Rattle.rvv_meaning.specs.Whole.{Left, elements, number, Leaving, read, from_vs2, bit_of_vs1, is_set, gathered, gathered_by_index, gathered_by_sixteen, set_below, compressed}

-- The registers w are those that the instruction leaves of v, and it clips no element.
abbrev pub LeavesRegisters : Cfg → (v : List (List ℕ)) → Option Left → (w : List (List ℕ)) → Type 0
LeavesRegisters c v None w = ⊥
LeavesRegisters c v (Some (elements e)) w = (w ≡ registers_after c e v) × (clips c e v ≡ false)
LeavesRegisters c v (Some (number n)) w = ⊥

-- what an operation leaves whose elements are moved without a program; a gather by a scalar is none
abbrev pub permuted_by : VOp → Form → Option Leaving
permuted_by (Opi Vrgather) V = Some gathered_by_index
permuted_by (Opi Vrgatherei16) form = Some gathered_by_sixteen
permuted_by (Opm Viota) form = Some set_below
permuted_by (Opm Vcompress) form = Some compressed
permuted_by op form = None

abbrev pub permuted_for : VInstr → Option Leaving
permuted_for i = permuted_by i.op i.form

-- The registers w are those that such an instruction leaves of v, whatever its scalar is.
abbrev pub IsPermuted : VInstr → Cfg → (v w : List (List ℕ)) → Type 0
IsPermuted i c v w = (x : ℕ) → LeavesRegisters c v (option_map (λ leaving. leaving i c x v) (permuted_for i)) w

-- ---- one by one: what a group becomes, by the registers as they were

abbrev pub Permutation : Type 0
Permutation = List (List ℕ) → Elementwise

module _ (i : VInstr) (c : Cfg) where
  -- elements of the group from vd on, below a length
  abbrev pub in_group : (len : ℕ) (masked : Bool) (value : ℕ → ℕ) → Elementwise
  in_group len masked value = record {
    vd = i.vd;
    registers = count_at c.vtype (group c.vtype.sew);
    width = c.vtype.sew;
    from = c.vstart;
    len = len;
    vl = c.vl;
    masked = masked;
    value = λ w e. value e;
    clipped = λ w e. false;
  }

  -- the elements of vs2 at the indices in vs1, of w bits
  abbrev pub gathered_by : (w : ℕ) → Permutation
  gathered_by w v = in_group c.vl (not i.vm) (λ e. gathered i c 0 v (read i c 0 v w i.vs1 e))

  -- the numbers of set places below each element
  abbrev pub counted : Permutation
  counted v = in_group c.vl (not i.vm) (λ e. count e (is_set i c 0 v))

  -- the elements of vs2 whose bit of vs1 is 1
  abbrev pub packed : Permutation
  packed v = in_group (count c.vl (bit_of_vs1 i c 0 v)) false (λ e. from_vs2 i c 0 v (nth e c.vl (bit_of_vs1 i c 0 v)))

-- the registers of the slices t are those that a permutation leaves of the registers of s
abbrev pub Leaves : Cfg → Permutation → (s t : Slices) → Type 0
Leaves c permutation s t = registers_of t ≡ registers_after c (permutation (registers_of s)) (registers_of s)
