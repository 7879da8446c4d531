use Rattle.std.proofs.Common.{◌≡◌, ℕ, ◌++◌, sym, append-nil, arith}
use Rattle.micro_ir.specs.WorkRows.{active_row}
use Rattle.row_views.specs.Lists.{count_bit}
use Rattle.row_counts.specs.Lists.{how_at}
use Rattle.row_counts.proofs.Written.{one-more, counts-none, counts-more}
use Rattle.row_counts.proofs.counts.emit_counts.Goals as goal

pub loop-bit-init : goal.loop-bit-init
loop-bit-init c = record { ops = rw (counts-none c.args.width c.args.row c.args.counting.now) (sym (append-nil _)); spare = omega arith }

pub loop-bit-preserved : goal.loop-bit-preserved
loop-bit-preserved c =
    let w = c.args.width in
    let bit : ℕ = c.loop-bit.bit in
    let k = c.args.counting.now in
    let made : c.push_counted.new.buf.ops ≡ c.loop-bit.buf.ops ++ count_bit w active_row c.args.row k.wanted (how_at k w bit) bit =
    rw (c.lane.ensures, c.how_at-how.ensures) at c.push_counted.ensures.ops in
    record {
      ops = one-more _ _ _ made c.loop-bit.invariant.ops (counts-more w c.args.row k bit);
      spare = omega (arith, c.push_counted.ensures.spare, c.loop-bit.invariant.spare);
    }
