use Rattle.std.proofs.Common.{◌≡◌, ◌≢◌, sym, ◌∙◌, append-nil, append_assoc, arith}
use Rattle.gen_mul.proofs.FractionLists.{rounding-down, rounding-up}
use Rattle.gen_mul.proofs.fractions.emit_rounding.Goals as goal

pub returns-then-mode-ne-DOWN-clause-ops : goal.returns-then-mode-ne-DOWN-clause-ops
returns-then-mode-ne-DOWN-clause-ops g c =
    let other : c.args.mode ≢ 2 = λ q. absurd (omega (arith, c.if-mode-ne-DOWN.true, q)) in
    c.emit_mode.ensures.ops ∙ rw (c.emit_left_over.ensures.ops, rounding-up c.args.mode g.W.Width.BITS other) (simp append_assoc)

pub returns-else-mode-ne-DOWN-clause-ops : goal.returns-else-mode-ne-DOWN-clause-ops
returns-else-mode-ne-DOWN-clause-ops g c =
    let is : c.args.mode ≡ 2 = omega (arith, c.if-mode-ne-DOWN.false) in
    rw (rounding-down c.args.mode g.W.Width.BITS is) (sym (append-nil _))
