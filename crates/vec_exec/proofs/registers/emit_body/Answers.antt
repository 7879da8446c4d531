use Rattle.std.proofs.Common.{◌∙◌, inl, arith, append_assoc}
use Rattle.vec_exec.proofs.Written.{measured-append}
use Rattle.vec_exec.proofs.registers.emit_body.Goals as goal

pub emit_first-requires-clause-room : goal.emit_first-requires-clause-room
emit_first-requires-clause-room g c = omega (arith, rw c.requires.width at c.requires.room)

pub emit_second-requires-clause-room : goal.emit_second-requires-clause-room
emit_second-requires-clause-room g c = omega (arith, rw c.requires.width at c.requires.room, c.emit_first.ensures.spare)

pub emit_list-requires-clause-whole : goal.emit_list-requires-clause-whole
emit_list-requires-clause-whole g c = rw c.use_of-list.ensures.list c.requires.whole

pub emit_list-requires-clause-rows : goal.emit_list-requires-clause-rows
emit_list-requires-clause-rows g c = rw (c.use_of-list.ensures.list, c.place-at.ensures.a, c.place-at.ensures.b) c.requires.placed.rows

pub emit_list-requires-clause-addend : goal.emit_list-requires-clause-addend
emit_list-requires-clause-addend g c = rw c.place-at.ensures.addend (inl c.requires.placed.addend)

pub emit_list-requires-clause-mode : goal.emit_list-requires-clause-mode
emit_list-requires-clause-mode g c = rw c.place-at.ensures.mode c.requires.placed.mode

pub emit_list-requires-clause-room : goal.emit_list-requires-clause-room
emit_list-requires-clause-room g c =
    rw (c.use_of-list.ensures.list, c.place-at.ensures.mode) (omega (arith, rw c.requires.width at c.requires.room, c.emit_first.ensures.spare, c.emit_second.ensures.spare))

pub returns-clause-ops : goal.returns-clause-ops
returns-clause-ops g c =
    c.emit_list.ensures.ops
    ∙ rw (
      c.emit_second.ensures.ops,
      c.emit_first.ensures.ops,
      c.place-at.ensures.a,
      c.place-at.ensures.b,
      c.place-at.ensures.addend,
      c.place-at.ensures.to,
      c.place-at.ensures.mode,
      c.use_of-list.ensures.list,
      c.requires.width,
    ) (simp append_assoc)

pub returns-clause-spare : goal.returns-clause-spare
returns-clause-spare g c =
    rw c.requires.width (omega (arith, c.emit_first.ensures.spare, c.emit_second.ensures.spare, rw (c.use_of-list.ensures.list, c.place-at.ensures.mode) at c.emit_list.ensures.spare))

pub returns-clause-made : goal.returns-clause-made
returns-clause-made g c = record {
  computes = rw c.requires.width (rw (c.place-at.ensures.a, c.place-at.ensures.b, c.place-at.ensures.addend, c.place-at.ensures.to, c.place-at.ensures.mode, c.use_of-list.ensures.list) at c.emit_list.ensures.computes);
  tells = rw c.requires.width (rw (c.place-at.ensures.a, c.place-at.ensures.b, c.place-at.ensures.addend, c.place-at.ensures.to, c.place-at.ensures.mode, c.use_of-list.ensures.list) at c.emit_list.ensures.tells);
  cost = rw c.requires.width
      (measured-append _ _ _ _ _ _ c.emit_first.ensures.cost
      (measured-append _ _ _ _ _ _ c.emit_second.ensures.cost
      (rw (c.place-at.ensures.a, c.place-at.ensures.b, c.place-at.ensures.addend, c.place-at.ensures.to, c.place-at.ensures.mode, c.use_of-list.ensures.list) at c.emit_list.ensures.cost)));
}
