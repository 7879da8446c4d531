use Rattle.std.proofs.Common.{◌≡◌, ℕ, ◌+◌, ◌-◌, ◌<◌, ◌≤◌, List, ◌++◌, sym, ap, ◌∙◌, append-nil, append_assoc, arith}
use Rattle.micro_ir.specs.declared.op.MicroOp.{MicroOp}
use Rattle.row_orders.specs.Lists.{sources, order_bit, order_bits, bit_length, bits_length}
use Rattle.row_orders.proofs.Written.{bits-none, bits-first, length-none, length-first}
use Rattle.row_orders.proofs.bits.emit_order_bits.Goals as goal

-- the bit that is next, and the one below which the rest lies
next : (w done : ℕ) → done < w → w - done ≡ (w - 1 - done) + 1
next w done l = omega arith

rest : (w done : ℕ) → w - (done + 1) ≡ w - 1 - done
rest w done = omega arith

pub emit_order_bit-requires-clause-room : goal.emit_order_bit-requires-clause-room
emit_order_bit-requires-clause-room g c =
    let w = g.W.Width.BITS in
    let done : ℕ = c.loop-done.done in
    let l : done < w = omega (arith, c.loop-done-test.true, c.BITS.ensures) in
    let span = c.args.span.now in
    let e : bits_length span (w - done) ≡ bit_length span (w - 1 - done) + bits_length span (w - 1 - done) = length-first span (w - done) (w - 1 - done) (next w done l) in
    let all : c.loop-done.buf.spare + bits_length span w ≡ c.args.buf.now.spare + bits_length span (w - done) = c.loop-done.invariant.spare in
    let room : bits_length span w ≤ c.args.buf.now.spare = c.requires.room in
    let here : bit_length span (w - 1 - done) ≤ c.loop-done.buf.spare = omega (arith, e, all, room) in
    rw c.BITS.ensures here

pub loop-done-preserved : goal.loop-done-preserved
loop-done-preserved g c =
    let w = g.W.Width.BITS in
    let n = c.args.span.now.regs + 1 in
    let src = sources c.args.span.now c.args.b in
    let start = c.args.start in
    let span = c.args.span.now in
    let done : ℕ = c.loop-done.done in
    let j = w - 1 - done in
    let l : done < w = omega (arith, c.loop-done-test.true, c.BITS.ensures) in
    let made : c.emit_order_bit.new.buf.ops ≡ c.loop-done.buf.ops ++ order_bit w n src start j = rw c.BITS.ensures at c.emit_order_bit.ensures.ops in
    let spent : c.emit_order_bit.new.buf.spare + bit_length span j ≡ c.loop-done.buf.spare = rw c.BITS.ensures at c.emit_order_bit.ensures.spare in
    let e : bits_length span (w - done) ≡ bit_length span j + bits_length span j = length-first span (w - done) j (next w done l) in
    let all : c.loop-done.buf.spare + bits_length span w ≡ c.args.buf.now.spare + bits_length span (w - done) = c.loop-done.invariant.spare in
    record {
      ops = rw (made, rest w done)
          (append_assoc c.loop-done.buf.ops (order_bit w n src start j) (order_bits w n src start j)
          ∙ rw (← bits-first w n src start (w - done) j (next w done l)) c.loop-done.invariant.ops);
      spare = rw (rest w done) (omega (arith, spent, e, all));
    }

pub returns-clause-ops : goal.returns-clause-ops
returns-clause-ops g c =
    let w = g.W.Width.BITS in
    let n = c.args.span.now.regs + 1 in
    let src = sources c.args.span.now c.args.b in
    let ops = c.loop-done.buf.ops in
    let none : w - c.loop-done.done ≡ 0 = omega (arith, c.BITS-done-end.ensures) in
    sym (append-nil ops)
    ∙ ap (λ (l : List MicroOp). ops ++ l) (sym (bits-none w n src c.args.start))
    ∙ ap (λ (m : ℕ). ops ++ order_bits w n src c.args.start m) (sym none)
    ∙ c.loop-done.invariant.ops

pub returns-clause-spare : goal.returns-clause-spare
returns-clause-spare g c =
    let w = g.W.Width.BITS in
    let span = c.args.span.now in
    let none : w - c.loop-done.done ≡ 0 = omega (arith, c.BITS-done-end.ensures) in
    let z : bits_length span (w - c.loop-done.done) ≡ 0 = ap (bits_length span) none ∙ length-none span in
    omega (arith, c.loop-done.invariant.spare, z)
