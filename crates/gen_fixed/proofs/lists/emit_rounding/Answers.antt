use Rattle.std.proofs.Common.{sym, append-nil}
use Rattle.std.proofs.lemmas.Bool.{eq-eqb}
use Rattle.gen_fixed.proofs.Written.{rounding-none}
use Rattle.gen_fixed.proofs.lists.emit_rounding.Goals as goal

pub returns-else-mode-ne-DOWN-clause-ops : goal.returns-else-mode-ne-DOWN-clause-ops
returns-else-mode-ne-DOWN-clause-ops g c =
    rw (rounding-none c.args.mode g.W.Width.BITS (eq-eqb c.args.mode 2 c.if-mode-ne-DOWN.false)) (sym (append-nil _))
