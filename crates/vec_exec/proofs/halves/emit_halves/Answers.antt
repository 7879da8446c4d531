use Rattle.std.proofs.Common.{◌≡◌, ℕ, ◌≤◌, ◌+◌, ◌*◌, sym, ◌∙◌, append-nil, append_assoc, arith}
use Rattle.std.proofs.lemmas.Nat.{mul-le}
use Rattle.vec_exec.specs.Programs.{LeavesPart, FlagsPart, one_half_counts, one_half_length}
use Rattle.vec_exec.proofs.Written.{half-none, half-more, halves-none, halves-more, measured-none, measured-append, measured-same, one-more}
use Rattle.vec_exec.proofs.halves.emit_halves.Goals as goal

pub loop-half-init : goal.loop-half-init
loop-half-init g c =
    let none = half-none c.args.recipe c.args.i.now c.args.cfg.now c.args.register in
    let counts = one_half_counts c.args.recipe c.args.i.now c.args.cfg.now in
    let zero_long : 0 ≡ 0 * one_half_length c.args.recipe c.args.i.now c.args.cfg.now = omega arith in
    record {
      ops = rw none (sym (append-nil _));
      spare = omega arith;
      leaves = λ h inside. absurd (omega (arith, inside));
      flags = λ h inside. absurd (omega (arith, inside));
      cost = rw none (measured-same _ _ _ _ _ (halves-none counts) zero_long measured-none);
    }

pub emit_half-requires-clause-room : goal.emit_half-requires-clause-room
emit_half-requires-clause-room g c =
    let each : ℕ = one_half_length c.args.recipe c.args.i.now c.args.cfg.now in
    let next : c.loop-half.half + 1 ≤ c.args.count = omega (arith, c.loop-half-test.true) in
    let same : each ≤ each = omega arith in
    let most : (c.loop-half.half + 1) * each ≤ c.args.count * each = mul-le (c.loop-half.half + 1) each c.args.count each next same in
    omega (arith, most, c.loop-half.invariant.spare, c.requires.room)

pub loop-half-preserved : goal.loop-half-preserved
loop-half-preserved g c =
    let more = half-more c.args.recipe c.args.i.now c.args.cfg.now c.args.register c.loop-half.half in
    let counts = one_half_counts c.args.recipe c.args.i.now c.args.cfg.now in
    let long : ℕ = one_half_length c.args.recipe c.args.i.now c.args.cfg.now in
    let longer : c.loop-half.half * long + long ≡ (c.loop-half.half + 1) * long = omega arith in
    record {
      ops = c.emit_half.ensures.ops ∙ rw (c.loop-half.invariant.ops, more) (simp append_assoc);
      spare = omega (arith, c.emit_half.ensures.spare, c.loop-half.invariant.spare);
      leaves = one-more (LeavesPart c.args.recipe c.args.i.now c.args.cfg.now c.args.register) c.loop-half.half c.loop-half.invariant.leaves c.emit_half.ensures.leaves;
      flags = one-more (FlagsPart c.args.recipe c.args.i.now c.args.cfg.now c.args.register) c.loop-half.half c.loop-half.invariant.flags c.emit_half.ensures.flags;
      cost = rw more (measured-same _ _ _ _ _ (halves-more c.loop-half.half counts) longer (measured-append _ _ _ _ _ _ c.loop-half.invariant.cost c.emit_half.ensures.cost));
    }
