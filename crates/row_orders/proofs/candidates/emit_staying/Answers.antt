use Rattle.std.proofs.Common.{◌≡◌, ◌++◌, refl, ◌∙◌}
use Rattle.micro_ir.specs.Steps.{micro}
use Rattle.micro_ir.proofs.StepLists.{micros-one}
use Rattle.row_orders.specs.Lists.{stay_step}
use Rattle.row_orders.proofs.candidates.emit_staying.Goals as goal

pub returns-clause-ops : goal.returns-clause-ops
returns-clause-ops g c =
    let w = g.W.Width.BITS in
    let step = stay_step c.args.row c.args.i c.args.start_bit c.args.above in
    let last : c.emit_below.new.buf.ops ≡ c.args.buf.now.ops ++ micro w step = rw (c.staying.ensures, c.candidate_row-candidates.ensures) at c.emit_below.ensures.ops in
    last ∙ rw (micros-one w step) refl
