use Rattle.std.proofs.Common.{◌∙◌, append_assoc}
use Rattle.vec_exec.specs.Programs.{mask_register_list}
use Rattle.vec_exec.proofs.Written.{bits-no-halves}
use Rattle.vec_exec.proofs.registers.emit_mask_register.Goals as goal

pub emit_list-requires-clause-whole : goal.emit_list-requires-clause-whole
emit_list-requires-clause-whole g c = rw c.use_of-mask.ensures.list (bits-no-halves _ c.requires.bits)

pub emit_list-requires-clause-rows : goal.emit_list-requires-clause-rows
emit_list-requires-clause-rows g c = rw (c.use_of-mask.ensures.list, c.mask_place-at.ensures.a, c.mask_place-at.ensures.b) c.requires.placed.rows

pub returns-clause-ops : goal.returns-clause-ops
unfolding mask_register_list
returns-clause-ops g c =
    c.push.ensures.ops
    ∙ rw (
      c.emit_free_bits.ensures.ops,
      c.emit_list.ensures.ops,
      c.emit_windows.ensures.ops,
      c.mask_place-at.ensures.a,
      c.mask_place-at.ensures.b,
      c.mask_place-at.ensures.addend,
      c.mask_place-at.ensures.to,
      c.mask_place-at.ensures.mode,
      c.first_of-first.ensures,
      c.use_of-mask.ensures.reads,
      c.use_of-mask.ensures.masked,
      c.use_of-mask.ensures.list,
      c.requires.width,
    ) (simp append_assoc)
