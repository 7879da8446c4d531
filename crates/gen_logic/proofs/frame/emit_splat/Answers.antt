use Rattle.std.proofs.Common.{◌≡◌, ◌<◌, ◌++◌, ◌∙◌, append_assoc, arith}
use Rattle.micro_ir.specs.Steps.{micro}
use Rattle.micro_ir.specs.WorkRows.{scalar_row}
use Rattle.micro_ir.specs.Pieces.{clear}
use Rattle.gen_logic.proofs.FrameSteps.{splat-list, splat-makes, splat-measured}
use Rattle.gen_logic.proofs.frame.emit_splat.Goals as goal

pub returns-clause-ops : goal.returns-clause-ops
returns-clause-ops g c =
    let w = g.W.Width.BITS in
    let some : 0 < w = let h = g.met.W.Width.least in omega arith in
    let cleared : c.emit_clear.new.buf.ops ≡ c.args.buf.now.ops ++ micro w (clear w scalar_row) = c.emit_clear.ensures.ops w some in
    c.push_ones.ensures.ops ∙ rw (cleared, splat-list w c.args.scalar, c.ones_of.ensures) (simp append_assoc)

pub returns-clause-makes : goal.returns-clause-makes
returns-clause-makes g c = splat-makes g.W.Width.BITS c.args.scalar

pub returns-clause-measured : goal.returns-clause-measured
returns-clause-measured g c = splat-measured g.W.Width.BITS c.args.scalar
