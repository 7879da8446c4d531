use Rattle.std.proofs.Common.{◌<◌, arith}
use Rattle.micro_ir.proofs.PieceLists.{ranged-rows}
use Rattle.micro_ir.proofs.TableLists.{rows-length}
use Rattle.micro_ir.proofs.pieces.emit_rows.Goals as goal

pub returns-clause-ops : goal.returns-clause-ops
returns-clause-ops g c =
    let w = g.W.Width.BITS in
    let some : 0 < w = let h = g.met.W.Width.least in omega arith in
    rw (← ranged-rows w c.args.inputs.now c.args.on.now c.args.out c.args.range c.lanes-subs.result some g.met.W.Width.divides c.requires.range (rw (c.from.ensures, c.from-2.ensures) at c.lanes-subs.ensures)) c.push_step.ensures.ops

pub returns-clause-spare : goal.returns-clause-spare
returns-clause-spare g c = omega (arith, c.push_step.ensures.spare, rows-length c.lanes-subs.result c.args.inputs.now c.args.on.now c.args.out c.args.range.up c.args.range.times c.requires.some)
