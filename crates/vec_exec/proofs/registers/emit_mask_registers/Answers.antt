use Rattle.std.proofs.Common.{◌≡◌, ℕ, ◌≤◌, ◌+◌, ◌*◌, sym, ◌∙◌, append-nil, append_assoc, arith}
use Rattle.std.proofs.lemmas.Nat.{mul-le}
use Rattle.rvv_meaning.specs.Elementwise.{is_ones}
use Rattle.vec_exec.specs.Programs.{IsMaskMade, mask_register_length}
use Rattle.vec_exec.proofs.Written.{mask-registers-none, mask-registers-more, one-more, free-few, free-more, free-all}
use Rattle.vec_exec.proofs.registers.emit_mask_registers.Goals as goal

pub loop-register-init : goal.loop-register-init
loop-register-init g c = record {
  ops = rw (mask-registers-none c.args.recipe c.args.i.now c.args.cfg.now) (sym (append-nil _));
  spare = omega arith;
  made = λ k inside. absurd (omega (arith, inside));
}

pub emit_mask_register-requires-clause-room : goal.emit_mask_register-requires-clause-room
emit_mask_register-requires-clause-room g c =
    let each : ℕ = mask_register_length c.args.recipe c.args.i.now c.args.cfg.now in
    let next : c.loop-register.register + 1 ≤ c.args.count = omega (arith, c.loop-register-test.true) in
    let same : each ≤ each = omega arith in
    let most : (c.loop-register.register + 1) * each ≤ c.args.count * each = mul-le (c.loop-register.register + 1) each c.args.count each next same in
    omega (arith, most, free-few (is_ones c.args.cfg.now.policy) c.loop-register.register, c.loop-register.invariant.spare, c.requires.room)

pub loop-register-preserved : goal.loop-register-preserved
loop-register-preserved g c = record {
  ops = c.emit_mask_register.ensures.ops ∙ rw (c.loop-register.invariant.ops, mask-registers-more c.args.recipe c.args.i.now c.args.cfg.now c.loop-register.register) (simp append_assoc);
  spare = omega (arith, c.emit_mask_register.ensures.spare, c.loop-register.invariant.spare, free-more (is_ones c.args.cfg.now.policy) c.loop-register.register);
  made = one-more (IsMaskMade c.args.recipe c.args.i.now c.args.cfg.now) c.loop-register.register c.loop-register.invariant.made c.emit_mask_register.ensures.made;
}

pub returns-clause-spare : goal.returns-clause-spare
returns-clause-spare g c =
    let all : c.loop-register.register ≡ c.args.count = omega arith in
    omega (arith, rw all at c.loop-register.invariant.spare, free-all (is_ones c.args.cfg.now.policy) c.args.count c.requires.some)
