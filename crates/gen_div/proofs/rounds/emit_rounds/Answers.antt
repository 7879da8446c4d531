use Rattle.std.proofs.Common.{◌≡◌, ℕ, ◌+◌, ◌*◌, ◌≤◌, sym, append-nil, arith}
use Rattle.std.proofs.Math.Nat.{mul-le-mul_right}
use Rattle.gen_arith.proofs.Written.{one-more}
use Rattle.gen_div.specs.Kinds.{round_length}
use Rattle.gen_div.proofs.Written.{rounds-none, rounds-more}
use Rattle.gen_div.proofs.rounds.emit_rounds.Goals as goal

pub loop-round-init : goal.loop-round-init
loop-round-init g c = record { ops = rw (rounds-none g.W.Width.BITS c.args.b) (sym (append-nil _)); spare = omega arith }

pub emit_round-requires-clause-room : goal.emit_round-requires-clause-room
emit_round-requires-clause-room g c =
    let each : ℕ = round_length g.W.Width.BITS in
    let before : c.loop-round.round + 1 ≤ g.W.Width.BITS = omega (arith, c.loop-round-test.true, c.BITS-round-end.ensures) in
    let most : (c.loop-round.round + 1) * each ≤ g.W.Width.BITS * each = mul-le-mul_right each before in
    omega (arith, most, c.loop-round.invariant.spare, c.requires.room)

pub loop-round-preserved : goal.loop-round-preserved
loop-round-preserved g c = record {
  ops = one-more _ _ _ c.emit_round.ensures.ops c.loop-round.invariant.ops (rounds-more g.W.Width.BITS c.args.b c.loop-round.round);
  spare = omega (arith, c.emit_round.ensures.spare, c.loop-round.invariant.spare);
}

pub returns-clause-ops : goal.returns-clause-ops
returns-clause-ops g c = let all : c.loop-round.round ≡ g.W.Width.BITS = omega (arith, c.BITS-round-end.ensures) in rw all at c.loop-round.invariant.ops

pub returns-clause-spare : goal.returns-clause-spare
returns-clause-spare g c = let all : c.loop-round.round ≡ g.W.Width.BITS = omega (arith, c.BITS-round-end.ensures) in rw all at c.loop-round.invariant.spare
