use Rattle.std.proofs.Common.{◌≤◌, refl, sym, ◌∙◌}
use Rattle.move_exec.specs.Programs.{move_program}
use Rattle.move_exec.proofs.Emitted.{room}
use Rattle.move_exec.proofs.Realised.{planned}
use Rattle.move_exec.proofs.Valid.{length-bounded}
use Rattle.move_exec.proofs.planning.plan.Goals as goal

pub emit_program-requires-clause-emittable : goal.emit_program-requires-clause-emittable
emit_program-requires-clause-emittable c = rw (c.frame_of-frame.ensures, c.body_of-body.ensures) (planned c.args.kind c.args.i.now c.args.cfg.now c.args.scalar c.requires.kind c.requires.form c.requires.fields c.requires.valid c.requires.legal).emittable

pub emit_program-requires-clause-length : goal.emit_program-requires-clause-length
emit_program-requires-clause-length c = length-bounded c.args.cfg.now c.requires.valid

pub emit_program-requires-clause-room : goal.emit_program-requires-clause-room
emit_program-requires-clause-room c =
    let p = planned c.args.kind c.args.i.now c.args.cfg.now c.args.scalar c.requires.kind c.requires.form c.requires.fields c.requires.valid c.requires.legal in
    let few : c.frame_of-frame.result.registers ≤ 8 = rw c.frame_of-frame.ensures p.emittable.ready.few in
    rw c.requires.room (room c.args.kind c.frame_of-frame.result c.body_of-body.result few)

pub returns-clause-program : goal.returns-clause-program
unfolding move_program
returns-clause-program c = c.emit_program.ensures.ops ∙ rw (c.requires.empty, c.frame_of-frame.ensures, c.body_of-body.ensures) refl

pub returns-clause-realises : goal.returns-clause-realises
returns-clause-realises c = rw (returns-clause-program c) (planned c.args.kind c.args.i.now c.args.cfg.now c.args.scalar c.requires.kind c.requires.form c.requires.fields c.requires.valid c.requires.legal).fine.realises

pub returns-clause-cost : goal.returns-clause-cost
returns-clause-cost c = rw (returns-clause-program c) (planned c.args.kind c.args.i.now c.args.cfg.now c.args.scalar c.requires.kind c.requires.form c.requires.fields c.requires.valid c.requires.legal).fine.cost

pub returns-clause-range : goal.returns-clause-range
returns-clause-range c = rw (returns-clause-program c) (planned c.args.kind c.args.i.now c.args.cfg.now c.args.scalar c.requires.kind c.requires.form c.requires.fields c.requires.valid c.requires.legal).fine.range

pub returns-clause-spare : goal.returns-clause-spare
returns-clause-spare c = rw (returns-clause-program c, (planned c.args.kind c.args.i.now c.args.cfg.now c.args.scalar c.requires.kind c.requires.form c.requires.fields c.requires.valid c.requires.legal).fine.count, sym c.frame_of-frame.ensures, sym c.body_of-body.ensures) c.emit_program.ensures.spare
