use Rattle.std.proofs.Common.{◌≡◌, ℕ, ◌++◌, sym, append-nil, arith}
use Rattle.row_counts.proofs.Written.{one-more}
use Rattle.row_orders.specs.Lists.{sources, begin_row}
use Rattle.row_orders.proofs.Written.{begin-none, begin-more}
use Rattle.row_orders.proofs.candidates.emit_beginnings.Goals as goal

pub loop-i-init : goal.loop-i-init
loop-i-init g c = record { ops = rw (begin-none g.W.Width.BITS (sources c.args.span.now c.args.b)) (sym (append-nil _)); spare = omega arith }

pub loop-i-preserved : goal.loop-i-preserved
loop-i-preserved g c =
    let w = g.W.Width.BITS in
    let i : ℕ = c.loop-i.i in
    let src = sources c.args.span.now c.args.b in
    let made : c.emit_beginning.new.buf.ops ≡ c.loop-i.buf.ops ++ begin_row w (src i) i = rw c.source_of.ensures.value at c.emit_beginning.ensures.ops in
    record {
      ops = one-more _ _ _ made c.loop-i.invariant.ops (begin-more w src i);
      spare = omega (arith, c.emit_beginning.ensures.spare, c.loop-i.invariant.spare);
    }
