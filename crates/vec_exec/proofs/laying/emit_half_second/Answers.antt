use Rattle.std.proofs.Common.{sym, append-nil, arith}
use Rattle.vec_exec.proofs.Written.{unlaid-half}
use Rattle.vec_exec.proofs.laying.emit_half_second.Goals as goal

pub returns-in_default : goal.returns-in_default
returns-in_default g c =
    let none = unlaid-half c.args.i.now.form c.args.cfg.now.vtype.sew c.args.i.now.vs1 g.D.Width.BITS c.args.part c.in_default.not-V in
    record {
      ops = rw none.list (sym (append-nil _));
      spare = rw none.long (omega arith);
      cost = none.cost;
    }
