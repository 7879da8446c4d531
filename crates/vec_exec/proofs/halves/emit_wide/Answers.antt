use Rattle.vec_exec.proofs.Listing.{leaves-half}
use Rattle.vec_exec.specs.Recipes.{list_of, counts_of, length_of}
use Rattle.vec_exec.proofs.Widths.{log2-is}
use Rattle.vec_exec.proofs.halves.emit_wide.Goals as goal

pub emit_raw-requires-clause-room : goal.emit_raw-requires-clause-room
unfolding length_of
emit_raw-requires-clause-room g c =
    let log = log2-is g.D.Width.BITS g.D.Width.LOG g.met.D.Width.power g.met.D.Width.divides g.met.D.Width.least in
    rw log at (rw c.requires.wide at (rw c.in-Halves.is at c.requires.room))

pub emit_clips-requires-clause-room : goal.emit_clips-requires-clause-room
emit_clips-requires-clause-room g c = rw c.in-Clips.is at c.requires.room

pub returns-in-Halves-clause-ops : goal.returns-in-Halves-clause-ops
unfolding list_of
returns-in-Halves-clause-ops g c =
    let log = log2-is g.D.Width.BITS g.D.Width.LOG g.met.D.Width.power g.met.D.Width.divides g.met.D.Width.least in
    rw (c.in-Halves.is, c.requires.wide, log) c.emit_raw.ensures.ops

pub returns-in-Halves-clause-spare : goal.returns-in-Halves-clause-spare
unfolding length_of
returns-in-Halves-clause-spare g c =
    let log = log2-is g.D.Width.BITS g.D.Width.LOG g.met.D.Width.power g.met.D.Width.divides g.met.D.Width.least in
    rw (c.in-Halves.is, c.requires.wide, log) c.emit_raw.ensures.spare

pub returns-in-Halves-clause-leaves : goal.returns-in-Halves-clause-leaves
unfolding list_of
returns-in-Halves-clause-leaves g c =
    let log = log2-is g.D.Width.BITS g.D.Width.LOG g.met.D.Width.power g.met.D.Width.divides g.met.D.Width.least in
    rw (c.in-Halves.is, c.requires.wide, log) (leaves-half c.args.width g.D.Width.BITS _ _ _ _ c.requires.wide c.emit_raw.ensures.leaves)

pub returns-in-Halves-clause-cost : goal.returns-in-Halves-clause-cost
unfolding list_of counts_of length_of
returns-in-Halves-clause-cost g c =
    let log = log2-is g.D.Width.BITS g.D.Width.LOG g.met.D.Width.power g.met.D.Width.divides g.met.D.Width.least in
    rw (c.in-Halves.is, c.requires.wide, log) c.emit_raw.ensures.cost
