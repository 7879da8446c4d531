use Rattle.std.proofs.Common.{◌≡◌, ℕ, ◌+◌, [], ◌∷◌, ◌++◌, sym, ◌∙◌, append-nil, append_assoc, arith}
use Rattle.row_counts.specs.Lists.{span_window, count_bits}
use Rattle.row_counts.proofs.Written.{one-more, rows-none, rows-more}
use Rattle.row_counts.proofs.counts.emit_group.Goals as goal

pub loop-register-init : goal.loop-register-init
loop-register-init c = record { ops = rw (rows-none c.args.width c.args.span.now c.args.counting.now) (sym (append-nil _)); spare = omega arith }

pub loop-register-preserved : goal.loop-register-preserved
loop-register-preserved c =
    let w = c.args.width in
    let g : ℕ = c.loop-register.register in
    let k = c.args.counting.now in
    let span = c.args.span.now in
    let window : c.push.new.self.ops ≡ c.loop-register.buf.ops ++ span_window w g span ∷ [] = rw c.from.ensures at c.push.ensures.ops in
    let made : c.emit_counts.new.buf.ops ≡ c.loop-register.buf.ops ++ (span_window w g span ∷ count_bits w (span.base + g) k w) =
    c.emit_counts.ensures.ops ∙ rw window (simp append_assoc) in
    record {
      ops = one-more _ _ _ made c.loop-register.invariant.ops (rows-more w span k g);
      spare = omega (arith, c.push.ensures.spare, c.emit_counts.ensures.spare, c.loop-register.invariant.spare);
    }
