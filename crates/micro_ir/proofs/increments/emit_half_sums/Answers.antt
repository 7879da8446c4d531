use Rattle.std.proofs.Common.{◌≡◌, ℕ, ◌+◌, ◌-◌, ◌<◌, [], ◌∷◌, sym, append-nil, arith}
use Rattle.micro_ir.specs.WorkRows.{carry_row, result_row}
use Rattle.micro_ir.specs.Increments.{half_digits, half_carries}
use Rattle.micro_ir.proofs.Ripples.{ripple-none, ripple-more, ripple-last, one-more, two-more}
use Rattle.micro_ir.proofs.increments.emit_half_sums.Goals as goal

pub loop-bit-init : goal.loop-bit-init
loop-bit-init g c = record {
  ops = rw (ripple-none g.W.Width.BITS (c.args.from ∷ carry_row ∷ []) half_digits half_carries carry_row result_row) (sym (append-nil _));
  spare = omega arith;
}

pub loop-bit-preserved : goal.loop-bit-preserved
loop-bit-preserved g c =
    let bit : ℕ = c.loop-bit.bit in
    let below : bit + 1 < g.W.Width.BITS = omega (arith, c.loop-bit-test.true, c.BITS.ensures) in
    record {
      ops = two-more _ _ _ _ c.emit_above-in-loop-bit.ensures.ops c.emit_above.ensures.ops c.loop-bit.invariant.ops
          (ripple-more g.W.Width.BITS (c.args.from ∷ carry_row ∷ []) half_digits half_carries carry_row result_row bit below);
      spare = omega (arith, c.emit_above.ensures.spare, c.emit_above-in-loop-bit.ensures.spare, c.loop-bit.invariant.spare);
    }

pub returns-clause-ops : goal.returns-clause-ops
returns-clause-ops g c =
    let bit : ℕ = c.loop-bit.bit in
    let h = g.met.W.Width.least in
    let last : bit ≡ c.BITS.result - 1 = omega arith in
    let is : g.W.Width.BITS ≡ bit + 1 = omega (arith, last, c.BITS.ensures) in
    let top = ripple-last g.W.Width.BITS (c.args.from ∷ carry_row ∷ []) half_digits half_carries carry_row result_row bit is in
    one-more _ _ _ (rw (← last) at c.emit_above-2.ensures.ops) c.loop-bit.invariant.ops top
