use Rattle.std.proofs.Common.{◌≡◌, ℕ, zero, suc, ◌+◌, ◌-◌, ◌*◌, length, false, sym, append-nil, arith}
use Rattle.micro_ir.specs.Steps.{pass_of}
use Rattle.gen_arith.proofs.Written.{one-more}
use Rattle.gen_fixed.proofs.WideCosts.{differing-none, differing-more}
use Rattle.gen_fixed.proofs.narrow.emit_differing.Goals as goal

-- what a bit takes beside those below it
one-unlike : (n : ℕ) → (4 * n - 1) + (2 + (length (pass_of false n) + 1)) ≡ 4 * (n + 1) - 1
one-unlike zero = omega arith
one-unlike (suc n) = omega arith

pub loop-done-init : goal.loop-done-init
loop-done-init g c = record { ops = rw (differing-none g.L.Width.BITS c.args.row (c.args.bits - 1)) (sym (append-nil _)); spare = omega arith }

pub emit_below-requires-clause-room : goal.emit_below-requires-clause-room
emit_below-requires-clause-room g c = omega (arith, one-unlike c.loop-done.done, c.loop-done.invariant.spare, c.requires.room, c.loop-done-test.true)

pub loop-done-preserved : goal.loop-done-preserved
loop-done-preserved g c = record {
  ops = one-more _ _ _ c.emit_below.ensures.ops c.loop-done.invariant.ops (differing-more g.L.Width.BITS c.args.row (c.args.bits - 1) c.loop-done.done);
  spare = omega (arith, one-unlike c.loop-done.done, c.emit_below.ensures.spare, c.loop-done.invariant.spare);
}

pub returns-clause-ops : goal.returns-clause-ops
returns-clause-ops g c = let all : c.loop-done.done ≡ c.args.bits = omega arith in rw all at c.loop-done.invariant.ops

pub returns-clause-spare : goal.returns-clause-spare
returns-clause-spare g c = let all : c.loop-done.done ≡ c.args.bits = omega arith in rw all at c.loop-done.invariant.spare
