use Rattle.debug_commands.proofs.Desks.{line_is}
use Rattle.debug_commands.proofs.desk.Desk.write_ustep.Goals as goal

pub returns-clause-text : goal.returns-clause-text
returns-clause-text g c =
    let line = line_is c.args.k c.args.sub c.args.row _ _ c.replay_first.new.chain _ c.plan_at.ensures.program (rw c.ops.ensures.value at c.if-k-ops.false) c.replay_first.ensures.slices in
    rw line at c.write_replayed.ensures
