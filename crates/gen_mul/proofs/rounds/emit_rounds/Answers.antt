use Rattle.std.proofs.Common.{◌≡◌, ℕ, ◌+◌, ◌*◌, ◌≤◌, sym, append-nil, arith}
use Rattle.std.proofs.Math.Nat.{mul-le-mul_right}
use Rattle.gen_arith.proofs.Written.{one-more}
use Rattle.gen_mul.specs.Kinds.{round_length}
use Rattle.gen_mul.proofs.Written.{rounds-none, rounds-more}
use Rattle.gen_mul.proofs.rounds.emit_rounds.Goals as goal

pub loop-bit-init : goal.loop-bit-init
loop-bit-init g c = record { ops = rw (rounds-none g.W.Width.BITS c.args.a c.args.b) (sym (append-nil _)); spare = omega arith }

pub emit_round-requires-clause-room : goal.emit_round-requires-clause-room
emit_round-requires-clause-room g c =
    let each : ℕ = round_length g.W.Width.BITS in
    let before : c.loop-bit.bit + 1 ≤ g.W.Width.BITS = omega (arith, c.loop-bit-test.true, c.BITS-bit-end.ensures) in
    let most : (c.loop-bit.bit + 1) * each ≤ g.W.Width.BITS * each = mul-le-mul_right each before in
    omega (arith, most, c.loop-bit.invariant.spare, c.requires.room)

pub loop-bit-preserved : goal.loop-bit-preserved
loop-bit-preserved g c = record {
  ops = one-more _ _ _ c.emit_round.ensures.ops c.loop-bit.invariant.ops (rounds-more g.W.Width.BITS c.args.a c.args.b c.loop-bit.bit);
  spare = omega (arith, c.emit_round.ensures.spare, c.loop-bit.invariant.spare);
}

pub returns-clause-ops : goal.returns-clause-ops
returns-clause-ops g c = let all : c.loop-bit.bit ≡ g.W.Width.BITS = omega (arith, c.BITS-bit-end.ensures) in rw all at c.loop-bit.invariant.ops

pub returns-clause-spare : goal.returns-clause-spare
returns-clause-spare g c = let all : c.loop-bit.bit ≡ g.W.Width.BITS = omega (arith, c.BITS-bit-end.ensures) in rw all at c.loop-bit.invariant.spare
