use Rattle.std.proofs.Common.{ℕ, ◌+◌, ◌-◌, ◌*◌, ◌<◌, ◌≤◌, [], ◌∷◌, length, sym, append-nil, arith}
use Rattle.std.proofs.Math.Nat.{mul-le-mul_right}
use Rattle.micro_ir.specs.WorkRows.{carry_row, result_row, truth_row}
use Rattle.gen_arith.proofs.Written.{ripple-none, ripple-carry, one-more}
use Rattle.gen_arith.proofs.steps.emit_carries.Goals as goal

pub loop-bit-init : goal.loop-bit-init
loop-bit-init g c = record { ops = rw (ripple-none g.W.Width.BITS (carry_row ∷ c.args.a ∷ c.args.b ∷ []) [] c.args.carries.now carry_row truth_row) (sym (append-nil _)); spare = omega arith }

pub emit_table_at-requires-clause-room : goal.emit_table_at-requires-clause-room
emit_table_at-requires-clause-room g c =
    let each : ℕ = length c.args.carries.now + 2 in
    let before : c.loop-bit.bit + 1 ≤ g.W.Width.BITS - 1 = omega (arith, c.loop-bit-test.true, c.BITS.ensures) in
    let most : (c.loop-bit.bit + 1) * each ≤ (g.W.Width.BITS - 1) * each = mul-le-mul_right each before in
    omega (arith, most, c.loop-bit.invariant.spare, c.requires.room)

pub loop-bit-preserved : goal.loop-bit-preserved
loop-bit-preserved g c =
    let w : ℕ = g.W.Width.BITS in
    let bit : ℕ = c.loop-bit.bit in
    let below : bit + 1 < w = omega (arith, c.loop-bit-test.true, c.BITS.ensures) in
    record {
      ops = one-more _ _ _ c.emit_table_at.ensures.ops c.loop-bit.invariant.ops (ripple-carry g.W.Width.BITS (carry_row ∷ c.args.a ∷ c.args.b ∷ []) c.args.carries.now carry_row truth_row bit below);
      spare = omega (arith, c.emit_table_at.ensures.spare, c.loop-bit.invariant.spare);
    }
