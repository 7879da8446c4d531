use Rattle.std.proofs.Common.{◌/◌, arith}
use Rattle.micro_ir.proofs.Lists.{tally-few}
use Rattle.vec_exec.proofs.planning.plan.Goals as goal

pub returns-clause-searches : goal.returns-clause-searches
returns-clause-searches c =
    let f = tally-few (c.args.cfg.now.vlen / 32) c.emit_by_operation.new.buf.ops c.emit_by_operation.ensures.range in
    omega (arith, f.searches, c.emit_by_operation.ensures.spare, c.requires.room)

pub returns-clause-updates : goal.returns-clause-updates
returns-clause-updates c =
    let f = tally-few (c.args.cfg.now.vlen / 32) c.emit_by_operation.new.buf.ops c.emit_by_operation.ensures.range in
    omega (arith, f.updates, c.emit_by_operation.ensures.spare, c.requires.room)

pub returns-clause-passes : goal.returns-clause-passes
returns-clause-passes c =
    let f = tally-few (c.args.cfg.now.vlen / 32) c.emit_by_operation.new.buf.ops c.emit_by_operation.ensures.range in
    omega (arith, f.passes, c.emit_by_operation.ensures.spare, c.requires.room)
