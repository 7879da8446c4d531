use Rattle.machine.proofs.Configurations.{valid-cfg}
use Rattle.machine.proofs.parts.Machine.cfg.Goals as goal

pub returns-clause-valid : goal.returns-clause-valid
returns-clause-valid c =
    valid-cfg _ c.self.invariant.legal c.from_bits.ensures.setting (rw c.from_bits.ensures.value c.self.invariant.most) c.self.invariant.starts c.self.invariant.rounding
