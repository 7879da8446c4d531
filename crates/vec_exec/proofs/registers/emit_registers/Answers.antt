use Rattle.std.proofs.Common.{ℕ, ◌≤◌, ◌+◌, ◌*◌, sym, ◌∙◌, append-nil, append_assoc, arith}
use Rattle.std.proofs.lemmas.Nat.{mul-le}
use Rattle.vec_exec.specs.Programs.{IsMade, register_length}
use Rattle.vec_exec.proofs.Written.{registers-none, registers-more, one-more}
use Rattle.vec_exec.proofs.registers.emit_registers.Goals as goal

pub loop-register-init : goal.loop-register-init
loop-register-init g c = record {
  ops = rw (registers-none c.args.recipe c.args.i.now c.args.cfg.now) (sym (append-nil _));
  spare = omega arith;
  made = λ k inside. absurd (omega (arith, inside));
}

pub emit_register-requires-clause-room : goal.emit_register-requires-clause-room
emit_register-requires-clause-room g c =
    let each : ℕ = register_length c.args.recipe c.args.i.now c.args.cfg.now in
    let next : c.loop-register.register + 1 ≤ c.args.count = omega (arith, c.loop-register-test.true) in
    let same : each ≤ each = omega arith in
    let most : (c.loop-register.register + 1) * each ≤ c.args.count * each = mul-le (c.loop-register.register + 1) each c.args.count each next same in
    omega (arith, most, c.loop-register.invariant.spare, c.requires.room)

pub loop-register-preserved : goal.loop-register-preserved
loop-register-preserved g c = record {
  ops = c.emit_register.ensures.ops ∙ rw (c.loop-register.invariant.ops, registers-more c.args.recipe c.args.i.now c.args.cfg.now c.loop-register.register) (simp append_assoc);
  spare = omega (arith, c.emit_register.ensures.spare, c.loop-register.invariant.spare);
  made = one-more (IsMade c.args.recipe c.args.i.now c.args.cfg.now) c.loop-register.register c.loop-register.invariant.made c.emit_register.ensures.made;
}
