-- When a list sets the flag that says that a result was clipped.
use Rattle.std.specs.Prelude.{◌≡◌, ℕ, Bool, true, ◌&&◌, List}
use Rattle.bit_laws.specs.Numbers.{number}
use Rattle.bit_rows.specs.Slices.{Slices}
use Rattle.steer_net.specs.Moves.{per_row}
use Rattle.micro_ir.specs.declared.op.MicroOp.{MicroOp}
use Rattle.micro_ir.specs.Replay.{clips}
use Rattle.micro_ir.specs.WorkRows.{active_row}
use Rattle.reduce_tree.specs.declared.weights.How.TheVariants.{Clip}
use Rattle.row_views.specs.Views.{view}
use Rattle.fold_laws.specs.Folds.{any}
use Rattle.row_views.specs.Lists.{count_bit}

-- what looks for an active element whose bit 0 of a row is 1
abbrev pub clip_test : (w row : ℕ) → List MicroOp
clip_test w row = count_bit w active_row row true Clip 0

-- The list sets the flag where an active element is clipped, as the numbers of its rows tell, and nowhere else.
unfoldable pub ClipsWhere : (w : ℕ) (clipped : (ℕ → ℕ) → Bool) → List MicroOp → Type 0
ClipsWhere w clipped ops =
    (s : Slices) → clips ops s ≡ any (per_row w s) (λ p. view w s p active_row 0 && clipped (λ r. number w (view w s p r)))
