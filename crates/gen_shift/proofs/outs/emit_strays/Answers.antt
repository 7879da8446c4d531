use Rattle.std.proofs.Common.{◌≡◌, ℕ, zero, suc, ◌+◌, ◌-◌, ◌*◌, length, false, sym, append-nil, arith}
use Rattle.micro_ir.specs.Steps.{pass_of}
use Rattle.gen_shift.proofs.Stays.{two-rows}
use Rattle.gen_shift.proofs.Written.{one-more, strays-none, strays-more}
use Rattle.gen_shift.proofs.outs.emit_strays.Goals as goal

-- what a bit takes beside those below it
one-stray : (n : ℕ) → (3 * n - 1) + (1 + (length (pass_of false n) + 1)) ≡ 3 * (n + 1) - 1
one-stray zero = omega arith
one-stray (suc n) = omega arith

pub loop-bit-init : goal.loop-bit-init
loop-bit-init g c = record { ops = rw (strays-none g.W.Width.BITS c.args.former) (sym (append-nil _)); spare = omega arith }

pub emit_below-requires-clause-rows : goal.emit_below-requires-clause-rows
emit_below-requires-clause-rows g c = two-rows c.args.former c.requires.former

pub emit_below-requires-clause-room : goal.emit_below-requires-clause-room
emit_below-requires-clause-room g c =
    omega (arith, one-stray c.loop-bit.bit, c.loop-bit.invariant.spare, c.requires.room, c.loop-bit-test.true)

pub loop-bit-preserved : goal.loop-bit-preserved
loop-bit-preserved g c = record {
  ops = one-more _ _ _ c.emit_below.ensures.ops c.loop-bit.invariant.ops (strays-more g.W.Width.BITS c.args.former c.loop-bit.bit);
  spare = omega (arith, one-stray c.loop-bit.bit, c.emit_below.ensures.spare, c.loop-bit.invariant.spare);
}

pub returns-clause-ops : goal.returns-clause-ops
returns-clause-ops g c = let all : c.loop-bit.bit ≡ c.args.count = omega arith in rw all at c.loop-bit.invariant.ops

pub returns-clause-spare : goal.returns-clause-spare
returns-clause-spare g c = let all : c.loop-bit.bit ≡ c.args.count = omega arith in rw all at c.loop-bit.invariant.spare
