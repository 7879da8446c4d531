use Rattle.std.proofs.Common.{ℕ, ◌≤◌, ◌+◌, ◌*◌, sym, ◌∙◌, append-nil, append_assoc, arith}
use Rattle.std.proofs.lemmas.Nat.{mul-le}
use Rattle.vec_exec.specs.Programs.{IsHalfMade, half_register_length}
use Rattle.vec_exec.proofs.Written.{half-registers-none, half-registers-more, one-more}
use Rattle.vec_exec.proofs.halves.emit_half_registers.Goals as goal

pub loop-register-init : goal.loop-register-init
loop-register-init g c = record {
  ops = rw (half-registers-none c.args.recipe c.args.i.now c.args.cfg.now) (sym (append-nil _));
  spare = omega arith;
  made = λ k inside. absurd (omega (arith, inside));
}

pub emit_half_register-requires-clause-room : goal.emit_half_register-requires-clause-room
emit_half_register-requires-clause-room g c =
    let each : ℕ = half_register_length c.args.recipe c.args.i.now c.args.cfg.now in
    let next : c.loop-register.register + 1 ≤ c.args.count = omega (arith, c.loop-register-test.true) in
    let same : each ≤ each = omega arith in
    let most : (c.loop-register.register + 1) * each ≤ c.args.count * each = mul-le (c.loop-register.register + 1) each c.args.count each next same in
    omega (arith, most, c.loop-register.invariant.spare, c.requires.room)

pub loop-register-preserved : goal.loop-register-preserved
loop-register-preserved g c = record {
  ops = c.emit_half_register.ensures.ops ∙ rw (c.loop-register.invariant.ops, half-registers-more c.args.recipe c.args.i.now c.args.cfg.now c.loop-register.register) (simp append_assoc);
  spare = omega (arith, c.emit_half_register.ensures.spare, c.loop-register.invariant.spare);
  made = one-more (IsHalfMade c.args.recipe c.args.i.now c.args.cfg.now) c.loop-register.register c.loop-register.invariant.made c.emit_half_register.ensures.made;
}
