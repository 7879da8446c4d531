-- Lists that set no flag of clipped results.
use Rattle.std.proofs.Common.{◌≡◌, ℕ, Bool, true, false, cond, ◌||◌, List, [], ◌++◌, refl, ◌∙◌}
use Rattle.bit_rows.specs.Slices.{Slices}
use Rattle.micro_ir.specs.declared.op.MicroOp.{MicroOp}
use Rattle.micro_ir.specs.Replay.{replay, clips, all_keep_control}
use Rattle.micro_ir.specs.Steps.{Step, micros}
use Rattle.micro_ir.proofs.Keeping.{micros-keep}
use Rattle.micro_ir.proofs.Lists.{clips-append, clips-none}

abbrev pub IsQuiet : List MicroOp → Type 0
IsQuiet ops = (s : Slices) → clips ops s ≡ false

pub quiet-none : IsQuiet []
unfolding clips
quiet-none s = refl

-- one that leaves the control numbers
pub quiet-keep : (ops : List MicroOp) → all_keep_control ops ≡ true → IsQuiet ops
quiet-keep ops keep s = clips-none ops s keep

pub quiet-steps : (w : ℕ) (steps : List Step) → IsQuiet (micros w steps)
quiet-steps w steps = quiet-keep (micros w steps) (micros-keep w steps)

pub quiet-append : (xs ys : List MicroOp) → IsQuiet xs → IsQuiet ys → IsQuiet (xs ++ ys)
quiet-append xs ys first second s = clips-append xs ys s ∙ rw (first s, second (replay xs s)) refl

pub quiet-cond : (b : Bool) (ops : List MicroOp) → IsQuiet ops → IsQuiet (cond b ops [])
quiet-cond true ops quiet = quiet
quiet-cond false ops quiet = quiet-none
