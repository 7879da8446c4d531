use Rattle.std.proofs.Common.{refl, ◌∙◌}
use Rattle.rvv_meaning.specs.Vectors.{configuration_effect}
use Rattle.machine.proofs.Configurations.{configured-is}
use Rattle.machine.proofs.parts.Machine.configure.Goals as goal

pub returns : goal.returns
unfolding configuration_effect
returns c =
    c.retire_to.ensures
    ∙ rw (
      configured-is c.args.i.now c.args.self.now.core c.args.op c.requires.named,
      c.next_pc.ensures,
      c.set.ensures,
      c.bits-self-inside.ensures.value,
      c.set_vl-vl.ensures.configured,
      c.from_bits-old.ensures.value,
      c.length_asked-asked.ensures,
      c.setting_asked-setting.ensures,
      ← c.self.view_is,
    ) refl
