use Rattle.std.proofs.Common.{◌∙◌, append_assoc}
use Rattle.move_exec.specs.Frames.{register_list}
use Rattle.move_exec.proofs.frames.emit_register.Goals as goal

pub returns-clause-ops : goal.returns-clause-ops
unfolding register_list
returns-clause-ops g c =
    c.emit_free.ensures.ops ∙ rw (c.emit_body.ensures.ops, c.emit_window.ensures.ops, c.first_of-first.ensures) (simp append_assoc)
