use Rattle.std.proofs.Common.{sym, append-nil, arith}
use Rattle.vec_exec.proofs.Written.{unlaid-first}
use Rattle.vec_exec.proofs.laying.emit_first.Goals as goal

pub returns-in_default : goal.returns-in_default
returns-in_default g c =
    let none = unlaid-first c.args.recipe.order c.args.recipe.signs c.args.i.now c.args.cfg.now.vtype.sew g.W.Width.BITS c.args.register c.in_default.not-Widening c.in_default.not-Half c.in_default.not-Quarter in
    record {
      ops = rw none.list (sym (append-nil _));
      spare = rw none.long (omega arith);
      cost = none.cost;
    }
