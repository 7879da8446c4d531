use Rattle.std.proofs.Common.{◌≡◌, ℕ, [], ◌∷◌, ◌++◌, sym, append-nil, arith}
use Rattle.micro_ir.specs.Steps.{micros}
use Rattle.row_counts.proofs.Written.{one-more}
use Rattle.row_orders.specs.Lists.{sources, stay}
use Rattle.row_orders.proofs.Written.{stay-none, stay-more}
use Rattle.row_orders.proofs.candidates.emit_stayings.Goals as goal

pub loop-i-init : goal.loop-i-init
loop-i-init g c = record { ops = rw (stay-none g.W.Width.BITS (sources c.args.span.now c.args.b) c.args.start c.args.below) (sym (append-nil _)); spare = omega arith }

pub loop-i-preserved : goal.loop-i-preserved
loop-i-preserved g c =
    let w = g.W.Width.BITS in
    let i : ℕ = c.loop-i.i in
    let src = sources c.args.span.now c.args.b in
    let made : c.emit_staying.new.buf.ops ≡ c.loop-i.buf.ops ++ micros w (stay src c.args.start c.args.below i ∷ []) =
    rw (c.source_of-row.ensures.value, c.bit_of.ensures) at c.emit_staying.ensures.ops in
    record {
      ops = one-more _ _ _ made c.loop-i.invariant.ops (stay-more w src c.args.start c.args.below i);
      spare = omega (arith, c.emit_staying.ensures.spare, c.loop-i.invariant.spare);
    }
