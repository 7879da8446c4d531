-- What lists compute and leave, as an operation takes them.
use Rattle.std.proofs.Common.{◌≡◌, ℕ, ◌*◌, ◌≤◌, Bool, true, false, ◌&&◌, List, refl, sym, subst, arith}
use Rattle.std.proofs.lemmas.Bool.{ne_eqb, false≢true}
use Rattle.gen_shift.specs.Laws.{LeavesValue}
use Rattle.gen_shift.specs.Rows.{is_among}
use Rattle.micro_ir.specs.declared.op.MicroOp.{MicroOp}
use Rattle.micro_ir.specs.Kinds.{Realises}
use Rattle.micro_ir.specs.WorkRows.{scalar_row, truth_row}
use Rattle.micro_ir.proofs.Valued.{realises-same}
use Rattle.rvv_decode.specs.declared.instruction.VInstr.{VInstr}
use Rattle.vtype_cfg.specs.declared.configuration.Cfg.{Cfg}
use Rattle.rvv_meaning.specs.Operations.{Operation, reads_mask}
use Rattle.frame_laws.specs.Classes.Halved.{LeavesLow, LeavesFlag, halves_row}
use Rattle.frame_laws.proofs.Classes.Halves.{leaves-low}
use Rattle.frame_meaning.specs.declared.Order.{Order}
use Rattle.frame_meaning.specs.Shapes.{width_in, value_by, value_in}
use Rattle.vec_exec.specs.declared.recipes.Listed.{Listed}
use Rattle.vec_exec.specs.declared.recipes.Listed.TheVariants.{Bits, Sums, Truths, Choices, Shifts, Products, Fractions, Roundings, Averages, Saturations, Divisions, Copies, Halves, Clips}
use Rattle.row_views.specs.Clips.{ClipsWhere}
use Rattle.vec_exec.specs.Recipes.{makes_bits, written_rows, tells_clips, takes_row, value_of, list_of, Computes}

-- ---- lists

-- a list that computes the operation's value as it takes the operands
pub lists-compute : (order : Order) (o : Operation) (i : VInstr) (c : Cfg) (list : Listed) (w ra rb rd to : ℕ) → w ≡ width_in order c.vtype.sew → makes_bits list ≡ false → takes_row list ≡ reads_mask i o
    → ((a b d : ℕ) (m : Bool) → value_of list w c.vxrm a b d m ≡ value_by order o w c.vxrm a b d (reads_mask i o && m))
    → Computes list w c.vxrm ra rb rd to
    → Realises w to (reads_mask i o) (λ n m. value_in order i c o (n ra) (n rb) (n rd) m) (list_of list w c.vxrm ra rb rd to)
unfolding Computes
lists-compute order o i c list w ra rb rd to wide bits takes same h = realises-same _ _ _ _ _ _ (λ n m small. rw (sym wide, same _ _ _ m) refl) (rw (bits, takes) at h)

-- a list that leaves a value leaves each that is the same
pub leaves-same : (w row : ℕ) (work : List ℕ) (u v : (ℕ → ℕ) → ℕ) (ops : List MicroOp) → ((n : ℕ → ℕ) → u n ≡ v n) → LeavesLow w row work u ops → LeavesLow w row work v ops
leaves-same w row work u v ops same leaves = subst (λ (f : (ℕ → ℕ) → ℕ). LeavesLow w row work f ops) (λ z n. same n z) leaves

-- a list that leaves a value at twice the width leaves its low half
pub leaves-half : (w d row : ℕ) (work : List ℕ) (value : (ℕ → ℕ) → ℕ) (ops : List MicroOp) → 2 * w ≡ d → LeavesValue d row work value ops → LeavesLow w row work value ops
leaves-half w d row work value ops wide leaves = leaves-low w row work value ops (subst (λ (n : ℕ). LeavesValue n row work value ops) (sym wide) leaves)

-- a list that sets the flag by one truth sets it by each that is the same
pub clips-same : (w : ℕ) (u v : (ℕ → ℕ) → Bool) (ops : List MicroOp) → ((n : ℕ → ℕ) → u n ≡ v n) → ClipsWhere w u ops → ClipsWhere w v ops
clips-same w u v ops same tells = subst (λ (f : (ℕ → ℕ) → Bool). ClipsWhere w f ops) (λ z n. same n z) tells

-- a list that tells truths for a mask tells no clips
pub bits-quiet : (list : Listed) → makes_bits list ≡ true → tells_clips list ≡ false
bits-quiet (Bits kind) bits = refl
bits-quiet (Sums kind) bits = refl
bits-quiet (Truths kind) bits = refl
bits-quiet (Choices kind) bits = refl
bits-quiet (Shifts kind) bits = refl
bits-quiet (Products kind) bits = refl
bits-quiet Fractions bits = absurd (false≢true bits)
bits-quiet (Saturations kind) bits = absurd (false≢true bits)
bits-quiet (Averages kind sub) bits = refl
bits-quiet (Roundings right) bits = refl
bits-quiet (Divisions kind) bits = refl
bits-quiet Copies bits = refl
bits-quiet (Halves kind) bits = refl
bits-quiet (Clips kind) bits = absurd (false≢true bits)

-- no row up to that of the scalar is one that a list of halves works in, nor is that of the halves, or that of truths
pub spared : (list : Listed) (q : ℕ) → q ≤ scalar_row → is_among (written_rows list) q ≡ false
spared (Clips kind) q small =
    rw (
      ne_eqb q 35 (omega arith),
      ne_eqb q 36 (omega arith),
      ne_eqb q 49 (omega arith),
      ne_eqb q 46 (omega arith),
      ne_eqb q 47 (omega arith),
      ne_eqb q 48 (omega arith),
      ne_eqb q 37 (omega arith),
      ne_eqb q 40 (omega arith),
      ne_eqb q 38 (omega arith),
      ne_eqb q 39 (omega arith),
      ne_eqb q 50 (omega arith),
      ne_eqb q 51 (omega arith),
    ) refl
spared _ q small = rw (ne_eqb q 49 (omega arith), ne_eqb q 37 (omega arith), ne_eqb q 40 (omega arith), ne_eqb q 38 (omega arith), ne_eqb q 39 (omega arith)) refl

pub spared-halves : (list : Listed) → is_among (written_rows list) halves_row ≡ false
spared-halves (Clips kind) = refl
spared-halves _ = refl

pub spared-flags : (list : Listed) → is_among (written_rows list) truth_row ≡ false
spared-flags (Clips kind) = refl
spared-flags _ = refl

-- a list that tells clips by one truth tells them by each that is the same
pub flags-same : (w row : ℕ) (u v : (ℕ → ℕ) → Bool) (ops : List MicroOp) → ((n : ℕ → ℕ) → u n ≡ v n) → LeavesFlag w row u ops → LeavesFlag w row v ops
flags-same w row u v ops same tells = subst (λ (f : (ℕ → ℕ) → Bool). LeavesFlag w row f ops) (λ z n. same n z) tells
