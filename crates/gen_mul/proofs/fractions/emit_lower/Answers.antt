use Rattle.std.proofs.Common.{◌≡◌, ℕ, zero, suc, ◌+◌, ◌-◌, ◌*◌, length, false, [], ◌∷◌, ◌++◌, sym, append-nil, arith}
use Rattle.micro_ir.specs.Pieces.{below}
use Rattle.micro_ir.specs.Steps.{pass_of, micro}
use Rattle.gen_shift.specs.Rows.{more_row}
use Rattle.gen_shift.proofs.Written.{one-more}
use Rattle.row_sums.specs.Sums.{half_after}
use Rattle.row_sums.proofs.Fits.{one-row}
use Rattle.gen_mul.proofs.FractionLists.{lower-none, lower-more}
use Rattle.gen_mul.proofs.fractions.emit_lower.Goals as goal

-- what a bit takes beside those below it
one-lower : (n : ℕ) → (3 * n - 1) + (1 + (length (pass_of false n) + 1)) ≡ 3 * (n + 1) - 1
one-lower zero = omega arith
one-lower (suc n) = omega arith

pub loop-bit-init : goal.loop-bit-init
loop-bit-init g c = record { ops = rw (lower-none g.W.Width.BITS) (sym (append-nil _)); spare = omega arith }

pub emit_below-requires-clause-rows : goal.emit_below-requires-clause-rows
emit_below-requires-clause-rows g c = one-row c.low_row-low.result c.low_row-low.ensures.row

pub emit_below-requires-clause-room : goal.emit_below-requires-clause-room
emit_below-requires-clause-room g c = omega (arith, one-lower c.loop-bit.bit, c.loop-bit.invariant.spare, c.requires.room, c.loop-bit-test.true)

pub loop-bit-preserved : goal.loop-bit-preserved
loop-bit-preserved g c =
    let made : c.emit_below.new.buf.ops ≡ c.loop-bit.buf.ops ++ micro g.W.Width.BITS (below (half_after g.W.Width.BITS ∷ []) (1 ∷ []) more_row c.loop-bit.bit c.loop-bit.bit) =
    rw c.low_row-low.ensures.role at c.emit_below.ensures.ops in
    record {
      ops = one-more _ _ _ made c.loop-bit.invariant.ops (lower-more g.W.Width.BITS c.loop-bit.bit);
      spare = omega (arith, one-lower c.loop-bit.bit, c.emit_below.ensures.spare, c.loop-bit.invariant.spare);
    }

pub returns-clause-ops : goal.returns-clause-ops
returns-clause-ops g c = let all : c.loop-bit.bit ≡ c.args.count = omega arith in rw all at c.loop-bit.invariant.ops

pub returns-clause-spare : goal.returns-clause-spare
returns-clause-spare g c = let all : c.loop-bit.bit ≡ c.args.count = omega arith in rw all at c.loop-bit.invariant.spare
