use Rattle.std.proofs.Common.{◌≡◌, ◌+◌, ◌-◌, ◌%◌, ◌^◌, [], ◌++◌, length, length-append, refl, sym, ◌∙◌, arith}
use Rattle.std.proofs.KnownBytes.{Consumes-nil, Consumes-trans}
use Rattle.guest_env.proofs.Taking.{stored-none, stored-more, takes-full, takes-ended}
use Rattle.guest_env.proofs.reads.fill.Goals as goal
use Rattle.guest_env.proofs.reads.fill.Goals.{else-loop-left-test, then-loop-left-test+in_ok-taken+then-taken-eq0}

pub loop-left-init : goal.loop-left-init
loop-left-init g c = record {
  moved = ([], omega arith, Consumes-nil _, stored-none c.args.mem.now c.args.address);
  at = omega arith;
  inside = omega arith;
  stays = λ empty. refl;
  quiet = refl;
}

pub loop-left-preserved : goal.loop-left-preserved
loop-left-preserved g c =
    let before = c.loop-left.invariant.moved in
    let piece = c.in_ok-taken.ensures.moved in
    let there : c.loop-left.at ≡ (c.args.address + length before.0) % 2 ^ 32 = rw before.1 c.loop-left.invariant.at in
    record {
      moved = (
        before.0 ++ piece.0,
        length-append before.0 piece.0 ∙ omega (arith, before.1, piece.1, c.in_ok-taken.ensures.bound),
        Consumes-trans _ _ _ _ _ before.2 piece.2,
        stored-more _ _ _ _ _ before.0 piece.0 (omega arith) there before.3 piece.3,
      );
      at = omega (arith, c.in_ok-taken.ensures.bound);
      inside = omega arith;
      stays = λ empty. absurd (omega arith);
      quiet = c.in_ok-taken.ensures.quiet ∙ c.loop-left.invariant.quiet;
    }

pub returns-clause-filled : goal.returns-clause-filled
returns-clause-filled g c =
    let before = c.loop-left.invariant.moved in
    elim c.loop-left-test.branch [
      | else-loop-left-test w ↦
          rw (w.mem-is, w.input-is) (before.0, takes-full _ _ before.0 c.args.count (omega arith) before.2, sym before.1, before.3)
      | then-loop-left-test+in_ok-taken+then-taken-eq0 w ↦
          let piece = w.in_ok-taken.ensures.moved in
          let whole : length (before.0 ++ piece.0) ≡ c.args.count - c.loop-left.left = length-append before.0 piece.0 ∙ omega (arith, before.1, piece.1) in
          let there : c.loop-left.at ≡ (c.args.address + length before.0) % 2 ^ 32 = rw before.1 c.loop-left.invariant.at in
          rw (w.mem-is, w.input-is) (
            before.0 ++ piece.0,
            takes-ended _ _ (before.0 ++ piece.0) c.args.count (omega arith) (Consumes-trans _ _ _ _ _ before.2 piece.2) (w.in_ok-taken.ensures.ended (omega arith)),
            sym whole,
            stored-more _ _ _ _ _ before.0 piece.0 (omega arith) there before.3 piece.3,
          )
    ]
