use Rattle.std.proofs.Common.{◌+◌, sym, append-nil, arith}
use Rattle.row_orders.specs.Lists.{sources}
use Rattle.row_orders.proofs.Written.{stays-none, stays-some}
use Rattle.row_orders.proofs.bits.emit_stays_to.Goals as goal

pub returns-then-bit-gt0-clause-ops : goal.returns-then-bit-gt0-clause-ops
returns-then-bit-gt0-clause-ops g c =
    rw (stays-some g.W.Width.BITS (c.args.span.now.regs + 1) (sources c.args.span.now c.args.b) c.args.start c.args.bit (omega arith)) c.emit_stayings.ensures.ops

pub returns-else-bit-gt0-clause-ops : goal.returns-else-bit-gt0-clause-ops
returns-else-bit-gt0-clause-ops g c =
    rw (stays-none g.W.Width.BITS (c.args.span.now.regs + 1) (sources c.args.span.now c.args.b) c.args.start c.args.bit (omega arith)) (sym (append-nil _))
