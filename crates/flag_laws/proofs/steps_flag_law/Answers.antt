use Rattle.micro_ir.proofs.Keeping.{micro-keep, micros-keep}
use Rattle.micro_ir.proofs.Lists.{clips-none}
use Rattle.micro_ir.specs.Steps.{micro, micros}
use Rattle.flag_laws.proofs.steps_flag_law.Goals as goal

pub returns : goal.returns
returns c = record {
  step = λ w step s. clips-none (micro w step) s (micro-keep w step);
  steps = λ w steps s. clips-none (micros w steps) s (micros-keep w steps);
}
