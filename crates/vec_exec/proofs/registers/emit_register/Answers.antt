use Rattle.std.proofs.Common.{◌∙◌, append_assoc}
use Rattle.vec_exec.specs.Programs.{register_list}
use Rattle.vec_exec.proofs.registers.emit_register.Goals as goal

pub returns-clause-ops : goal.returns-clause-ops
unfolding register_list
returns-clause-ops g c =
    c.emit_free.ensures.ops
    ∙ rw (
      c.emit_body.ensures.ops,
      c.emit_windows.ensures.ops,
      c.first_of-first.ensures,
      c.use_of-mask.ensures.reads,
      c.use_of-mask.ensures.masked,
      c.requires.width,
    ) (simp append_assoc)
