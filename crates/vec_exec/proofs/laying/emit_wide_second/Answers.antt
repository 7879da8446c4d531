use Rattle.std.proofs.Common.{sym, append-nil, arith}
use Rattle.vec_exec.proofs.Written.{unlaid-wide}
use Rattle.vec_exec.proofs.laying.emit_wide_second.Goals as goal

pub returns-in_default : goal.returns-in_default
returns-in_default g c =
    let none = unlaid-wide c.args.i.now.form c.args.recipe.signs.b c.args.cfg.now.vtype.sew c.args.i.now.vs1 g.W.Width.BITS c.args.register c.in_default.not-V in
    record {
      ops = rw none.list (sym (append-nil _));
      spare = rw none.long (omega arith);
      cost = none.cost;
    }
