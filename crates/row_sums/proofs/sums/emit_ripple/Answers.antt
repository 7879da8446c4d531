use Rattle.std.proofs.Common.{◌≡◌, ℕ, ◌+◌, ◌-◌, ◌*◌, ◌<◌, ◌≤◌, length, sym, append-nil, arith}
use Rattle.std.proofs.Math.Nat.{mul-le-mul_right}
use Rattle.micro_ir.specs.WorkRows.{carry_row}
use Rattle.gen_arith.proofs.Written.{ripple-none, ripple-more, ripple-last, one-more, two-more}
use Rattle.row_sums.proofs.sums.emit_ripple.Goals as goal

-- the room that is left before a bit
room-left : (n bit each room spare start : ℕ) → bit < n → spare + bit * each ≡ start → n * each + room ≤ start → each + room ≤ spare
room-left n bit each room spare start before left all =
    let most : (bit + 1) * each ≤ n * each = mul-le-mul_right each (omega arith) in
    omega (arith, most)

pub loop-bit-init : goal.loop-bit-init
loop-bit-init g c = record {
  ops = rw (ripple-none g.W.Width.BITS c.args.inputs.now c.args.digits.now c.args.carries.now carry_row c.args.out) (sym (append-nil _));
  spare = omega arith;
}

pub emit_above-requires-clause-room : goal.emit_above-requires-clause-room
emit_above-requires-clause-room g c =
    let d : ℕ = length c.args.digits.now in
    let each : ℕ = length c.args.digits.now + length c.args.carries.now + 3 in
    let left : each + (d + 1) ≤ c.loop-bit.buf.spare =
    room-left (g.W.Width.BITS - 1) c.loop-bit.bit each (d + 1) c.loop-bit.buf.spare c.args.buf.now.spare (omega (arith, c.loop-bit-test.true, c.BITS.ensures)) c.loop-bit.invariant.spare c.requires.room in
    omega (arith, left)

pub emit_above-requires-in-loop-bit-clause-room : goal.emit_above-requires-in-loop-bit-clause-room
emit_above-requires-in-loop-bit-clause-room g c =
    let d : ℕ = length c.args.digits.now in
    let each : ℕ = length c.args.digits.now + length c.args.carries.now + 3 in
    let left : each + (d + 1) ≤ c.loop-bit.buf.spare =
    room-left (g.W.Width.BITS - 1) c.loop-bit.bit each (d + 1) c.loop-bit.buf.spare c.args.buf.now.spare (omega (arith, c.loop-bit-test.true, c.BITS.ensures)) c.loop-bit.invariant.spare c.requires.room in
    omega (arith, left, c.emit_above.ensures.spare)

pub loop-bit-preserved : goal.loop-bit-preserved
loop-bit-preserved g c =
    let bit : ℕ = c.loop-bit.bit in
    let below : bit + 1 < g.W.Width.BITS = omega (arith, c.loop-bit-test.true, c.BITS.ensures) in
    record {
      ops = two-more _ _ _ _ c.emit_above-in-loop-bit.ensures.ops c.emit_above.ensures.ops c.loop-bit.invariant.ops
          (ripple-more g.W.Width.BITS c.args.inputs.now c.args.digits.now c.args.carries.now carry_row c.args.out bit below);
      spare = omega (arith, c.emit_above.ensures.spare, c.emit_above-in-loop-bit.ensures.spare, c.loop-bit.invariant.spare);
    }

pub emit_above-requires-2-clause-room : goal.emit_above-requires-2-clause-room
emit_above-requires-2-clause-room g c =
    let h = g.met.W.Width.least in
    let last : c.loop-bit.bit ≡ g.W.Width.BITS - 1 = omega (arith, c.BITS.ensures) in
    let spare = rw last at c.loop-bit.invariant.spare in
    omega (arith, spare, c.requires.room)

pub returns-clause-ops : goal.returns-clause-ops
returns-clause-ops g c =
    let bit : ℕ = c.loop-bit.bit in
    let h = g.met.W.Width.least in
    let last : bit ≡ c.BITS.result - 1 = omega arith in
    let is : g.W.Width.BITS ≡ bit + 1 = omega (arith, last, c.BITS.ensures) in
    let top = ripple-last g.W.Width.BITS c.args.inputs.now c.args.digits.now c.args.carries.now carry_row c.args.out bit is in
    one-more _ _ _ (rw (← last) at c.emit_above-2.ensures.ops) c.loop-bit.invariant.ops top

pub returns-clause-spare : goal.returns-clause-spare
returns-clause-spare g c =
    let h = g.met.W.Width.least in
    let last : c.loop-bit.bit ≡ g.W.Width.BITS - 1 = omega (arith, c.BITS.ensures) in
    let spare = rw last at c.loop-bit.invariant.spare in
    omega (arith, spare, c.emit_above-2.ensures.spare)
