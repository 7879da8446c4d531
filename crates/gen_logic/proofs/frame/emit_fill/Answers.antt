use Rattle.micro_ir.proofs.StepLists.{micros-one}
use Rattle.micro_ir.specs.Pieces.{fill_step}
use Rattle.gen_logic.proofs.FrameSteps.{fill-makes, fill-measured}
use Rattle.gen_logic.proofs.frame.emit_fill.Goals as goal

pub returns-clause-ops : goal.returns-clause-ops
returns-clause-ops g c = λ w some. rw (micros-one w (fill_step w c.args.at.now.to)) (c.emit_everywhere.ensures.ops w some)

pub returns-clause-makes : goal.returns-clause-makes
returns-clause-makes g c = λ w. fill-makes w c.args.at.now.to

pub returns-clause-measured : goal.returns-clause-measured
returns-clause-measured g c = λ w. fill-measured w c.args.at.now.to c.requires.to
