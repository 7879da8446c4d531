use Rattle.std.proofs.Common.{◌≡◌, ◌+◌, ◌-◌, ◌++◌}
use Rattle.row_orders.specs.Lists.{sources, order_bits, bits_length}
use Rattle.row_orders.proofs.bits.emit_order_bits.Given as goal

-- the bits that are left make the rest
abbrev pub invariant-loop-done : goal.invariant-loop-done
invariant-loop-done g l = record {
  ops : l.buf.ops ++ order_bits g.W.Width.BITS (l.span.regs + 1) (sources l.span l.b) l.start (g.W.Width.BITS - l.done)
      ≡ l.fn.buf.ops ++ order_bits g.W.Width.BITS (l.span.regs + 1) (sources l.span l.b) l.start g.W.Width.BITS;
  spare : l.buf.spare + bits_length l.span g.W.Width.BITS ≡ l.fn.buf.spare + bits_length l.span (g.W.Width.BITS - l.done);
}
