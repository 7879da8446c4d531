use Rattle.std.proofs.Common.{◌≡◌, ℕ, not, ◌++◌, sym, append-nil, arith}
use Rattle.bit_laws.specs.Numbers.{bit_of}
use Rattle.row_views.specs.Lists.{count_bit}
use Rattle.row_counts.proofs.Written.{one-more}
use Rattle.row_orders.specs.Lists.{sources, cand, how_of}
use Rattle.row_orders.proofs.Written.{compare-none, compare-more}
use Rattle.row_orders.proofs.bits.emit_comparing.Goals as goal

pub loop-i-init : goal.loop-i-init
loop-i-init g c = record { ops = rw (compare-none g.W.Width.BITS (sources c.args.span.now c.args.b) c.args.start c.args.bit) (sym (append-nil _)); spare = omega arith }

pub loop-i-preserved : goal.loop-i-preserved
loop-i-preserved g c =
    let w = g.W.Width.BITS in
    let i : ℕ = c.loop-i.i in
    let start = c.args.start in
    let bit = c.args.bit in
    let src = sources c.args.span.now c.args.b in
    let made : c.push_counted.new.buf.ops ≡ c.loop-i.buf.ops ++ count_bit w (cand i) ((src i).row) (not (bit_of start bit)) (how_of (bit_of start bit)) bit =
    rw (c.lane.ensures, c.BITS.ensures, c.candidate_row.ensures, c.source_of-row.ensures.value, c.how_of.ensures, c.bit_of-start_bit.ensures) at c.push_counted.ensures.ops in
    record {
      ops = one-more _ _ _ made c.loop-i.invariant.ops (compare-more w src start bit i);
      spare = omega (arith, c.push_counted.ensures.spare, c.loop-i.invariant.spare);
    }
