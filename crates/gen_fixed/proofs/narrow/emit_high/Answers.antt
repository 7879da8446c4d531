use Rattle.std.proofs.Common.{◌≡◌, ◌+◌, false, sym, append-nil, arith}
use Rattle.gen_arith.proofs.Written.{one-more}
use Rattle.row_sums.proofs.Fits.{one-row, one-pass}
use Rattle.gen_fixed.proofs.WideCosts.{high-none, high-more}
use Rattle.gen_fixed.proofs.narrow.emit_high.Goals as goal

pub loop-done-init : goal.loop-done-init
loop-done-init g c = record { ops = rw (high-none g.L.Width.BITS c.args.row c.args.bits) (sym (append-nil _)); spare = omega arith }

pub emit_below-requires-clause-rows : goal.emit_below-requires-clause-rows
emit_below-requires-clause-rows g c = one-row c.args.row c.requires.row

pub emit_below-requires-clause-room : goal.emit_below-requires-clause-room
emit_below-requires-clause-room g c =
    let one = one-pass false (c.loop-done.done + 1) (omega arith) in
    omega (arith, one, c.loop-done.invariant.spare, c.requires.room, c.loop-done-test.true)

pub loop-done-preserved : goal.loop-done-preserved
loop-done-preserved g c =
    let one = one-pass false (c.loop-done.done + 1) (omega arith) in
    record {
      ops = one-more _ _ _ c.emit_below.ensures.ops c.loop-done.invariant.ops (high-more g.L.Width.BITS c.args.row c.args.bits c.loop-done.done);
      spare = omega (arith, one, c.emit_below.ensures.spare, c.loop-done.invariant.spare);
    }

pub returns-clause-ops : goal.returns-clause-ops
returns-clause-ops g c = let all : c.loop-done.done ≡ c.args.bits = omega arith in rw all at c.loop-done.invariant.ops

pub returns-clause-spare : goal.returns-clause-spare
returns-clause-spare g c = let all : c.loop-done.done ≡ c.args.bits = omega arith in rw all at c.loop-done.invariant.spare
