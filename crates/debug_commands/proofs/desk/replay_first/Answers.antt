use Rattle.std.proofs.Common.{◌≡◌, ◌/◌, arith, sym}
use Rattle.debug_commands.proofs.Desks.{first_in_range}
use Rattle.debug_commands.proofs.desk.replay_first.Goals as goal

pub replay-requires-clause-in_range : goal.replay-requires-clause-in_range
replay-requires-clause-in_range c =
    let same : c.copy_from.new.self.columns ≡ c.columns-columns.result = rw (c.copy_from.ensures, c.chain.ensures) (sym c.columns-columns.ensures.value) in
    let many : c.args.machine.now.core.csrs.vlen / 32 ≡ c.columns-columns.result = omega (arith, c.columns-columns.ensures.length) in
    rw (same, ← many) (first_in_range _ c.args.k _ c.requires.range)

pub returns-clause-slices : goal.returns-clause-slices
returns-clause-slices c = (c.replay.new.ctl.num, rw (c.copy_from.ensures, c.chain.ensures) at c.replay.ensures.slices)
