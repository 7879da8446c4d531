use Rattle.std.proofs.Common.{◌+◌, ◌<◌, sym, arith}
use Rattle.vec_exec.specs.Programs.{half_register_list}
use Rattle.vec_exec.proofs.Copied.{copied-measured}
use Rattle.vec_exec.proofs.Written.{five-parts, measured-append}
use Rattle.vec_exec.proofs.halves.emit_half_register.Goals as goal

pub emit_commit-requires-clause-room : goal.emit_commit-requires-clause-room
emit_commit-requires-clause-room g c = omega (arith, c.requires.room, rw c.use_of-mask.ensures.list at c.emit_flag_test.ensures.spare, rw c.requires.halves at c.emit_halves.ensures.spare, rw c.use_of-mask.ensures.reads at c.emit_windows.ensures.spare)

pub emit_halves-requires-clause-room : goal.emit_halves-requires-clause-room
emit_halves-requires-clause-room g c = rw c.requires.halves (omega (arith, c.requires.room, rw c.use_of-mask.ensures.reads at c.emit_windows.ensures.spare))

pub returns-clause-ops : goal.returns-clause-ops
unfolding half_register_list
returns-clause-ops g c =
    let some : 0 < g.W.Width.BITS = omega (arith, g.met.W.Width.least) in
    five-parts _ _ _ _ _ _ _ _ _ _ _
    (rw (c.first_of-first.ensures, c.use_of-mask.ensures.reads, c.use_of-mask.ensures.masked, sym c.requires.width) at c.emit_windows.ensures.ops)
    (rw c.requires.halves at c.emit_halves.ensures.ops)
    (rw (c.use_of-mask.ensures.list, sym c.requires.width) at c.emit_flag_test.ensures.ops)
    (rw (sym c.requires.width) at (c.emit_commit.ensures.ops g.W.Width.BITS some))
    (rw (c.first_of-first.ensures, c.use_of-mask.ensures.masked, sym c.requires.width) at c.emit_free.ensures.ops)

pub returns-clause-spare : goal.returns-clause-spare
returns-clause-spare g c =
    omega (arith, c.emit_free.ensures.spare, c.emit_commit.ensures.spare, rw c.use_of-mask.ensures.list at c.emit_flag_test.ensures.spare, rw c.requires.halves at c.emit_halves.ensures.spare, rw c.use_of-mask.ensures.reads at c.emit_windows.ensures.spare)

pub returns-clause-made : goal.returns-clause-made
returns-clause-made g c = record {
  leaves = rw c.requires.halves at c.emit_halves.ensures.leaves;
  flags = rw c.requires.halves at c.emit_halves.ensures.flags;
  cost = measured-append _ _ _ _ _ _ (rw c.requires.halves at c.emit_halves.ensures.cost) (measured-append _ _ _ _ _ _ (rw (c.use_of-mask.ensures.list, sym c.requires.width) at c.emit_flag_test.ensures.cost) (copied-measured c.args.cfg.now.vtype.sew 57 (c.args.i.now.vd + c.args.register) c.requires.placed.vd));
}
