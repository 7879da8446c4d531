use Rattle.std.proofs.Common.{ℕ, ◌≤◌, ◌+◌, ◌*◌, sym, ◌∙◌, append-nil, append_assoc, arith}
use Rattle.std.proofs.lemmas.Nat.{mul-le}
use Rattle.move_exec.specs.Bodies.{body_list}
use Rattle.move_exec.specs.Frames.{register_length}
use Rattle.move_exec.proofs.Listed.{registers-none, registers-more}
use Rattle.move_exec.proofs.frames.emit_registers.Goals as goal

pub loop-register-init : goal.loop-register-init
loop-register-init g c = record {
  ops = rw (registers-none c.args.frame.now c.args.cfg.now (body_list c.args.frame.now c.args.body c.args.cfg.now)) (sym (append-nil _));
  spare = omega arith;
}

pub emit_register-requires-clause-room : goal.emit_register-requires-clause-room
emit_register-requires-clause-room g c =
    let each : ℕ = register_length c.args.frame.now c.args.body in
    let next : c.loop-register.register + 1 ≤ c.args.frame.now.registers = omega (arith, c.loop-register-test.true) in
    let same : each ≤ each = omega arith in
    let most : (c.loop-register.register + 1) * each ≤ c.args.frame.now.registers * each = mul-le (c.loop-register.register + 1) each c.args.frame.now.registers each next same in
    omega (arith, most, c.loop-register.invariant.spare, c.requires.room)

pub loop-register-preserved : goal.loop-register-preserved
loop-register-preserved g c = record {
  ops = c.emit_register.ensures.ops ∙ rw (c.loop-register.invariant.ops, registers-more c.args.frame.now c.args.cfg.now (body_list c.args.frame.now c.args.body c.args.cfg.now) c.loop-register.register) (simp append_assoc);
  spare = omega (arith, c.emit_register.ensures.spare, c.loop-register.invariant.spare);
}
