use Rattle.std.proofs.Common.{◌≡◌, ◌≤◌, ◌+◌, sym, ◌∙◌, ap, arith, append_assoc}
use Rattle.gen_fixed.specs.Kinds.{clip_length}
use Rattle.gen_shift.specs.Kinds.{rounding_length}
use Rattle.vec_exec.specs.Recipes.{shift_of, moved_in, list_of, counts_of, length_of}
use Rattle.vec_exec.proofs.Clipped.{clips-leave, clips-flag}
use Rattle.vec_exec.proofs.Widths.{log2-is}
use Rattle.vec_exec.proofs.Written.{measured-append}
use Rattle.vec_exec.proofs.halves.emit_clips.Goals as goal

pub emit_rounding-requires-clause-room : goal.emit_rounding-requires-clause-room
unfolding length_of
emit_rounding-requires-clause-room g c =
    let log = log2-is g.D.Width.BITS g.D.Width.LOG g.met.D.Width.power g.met.D.Width.divides g.met.D.Width.least in
    let shift : c.shift_of.result ≡ shift_of (moved_in c.args.kind) = c.shift_of.ensures.value ∙ ap shift_of c.moved_in.ensures in
    let room : rounding_length (shift_of (moved_in c.args.kind)) c.args.at.now.mode g.D.Width.BITS g.D.Width.LOG + clip_length c.args.kind c.args.width ≤ c.args.buf.now.spare = rw (c.requires.wide, log) at c.requires.room in
    rw shift (omega (arith, room))

pub emit_clipping-requires-clause-room : goal.emit_clipping-requires-clause-room
unfolding length_of
emit_clipping-requires-clause-room g c =
    let log = log2-is g.D.Width.BITS g.D.Width.LOG g.met.D.Width.power g.met.D.Width.divides g.met.D.Width.least in
    let shift : c.shift_of.result ≡ shift_of (moved_in c.args.kind) = c.shift_of.ensures.value ∙ ap shift_of c.moved_in.ensures in
    let room : rounding_length (shift_of (moved_in c.args.kind)) c.args.at.now.mode g.D.Width.BITS g.D.Width.LOG + clip_length c.args.kind c.args.width ≤ c.args.buf.now.spare = rw (c.requires.wide, log) at c.requires.room in
    omega (arith, room, rw shift at c.emit_rounding.ensures.spare)

pub returns-clause-ops : goal.returns-clause-ops
unfolding list_of
returns-clause-ops g c =
    let log = log2-is g.D.Width.BITS g.D.Width.LOG g.met.D.Width.power g.met.D.Width.divides g.met.D.Width.least in
    let shift : c.shift_of.result ≡ shift_of (moved_in c.args.kind) = c.shift_of.ensures.value ∙ ap shift_of c.moved_in.ensures in
    c.emit_clipping.ensures.ops ∙ rw (c.emit_rounding.ensures.ops, c.rounding_row.ensures, shift, c.requires.wide, log) (simp append_assoc)

pub returns-clause-spare : goal.returns-clause-spare
unfolding length_of
returns-clause-spare g c =
    let log = log2-is g.D.Width.BITS g.D.Width.LOG g.met.D.Width.power g.met.D.Width.divides g.met.D.Width.least in
    let shift : c.shift_of.result ≡ shift_of (moved_in c.args.kind) = c.shift_of.ensures.value ∙ ap shift_of c.moved_in.ensures in
    rw (c.requires.wide, log) (omega (arith, c.emit_clipping.ensures.spare, rw shift at c.emit_rounding.ensures.spare))

pub returns-clause-leaves : goal.returns-clause-leaves
returns-clause-leaves g c =
    let log = log2-is g.D.Width.BITS g.D.Width.LOG g.met.D.Width.power g.met.D.Width.divides g.met.D.Width.least in
    let shift : c.shift_of.result ≡ shift_of (moved_in c.args.kind) = c.shift_of.ensures.value ∙ ap shift_of c.moved_in.ensures in
    clips-leave c.args.kind c.args.width c.args.at.now (omega (arith, c.requires.wide, g.met.D.Width.least)) (rw (shift, sym log, sym c.requires.wide) at c.emit_rounding.ensures.leaves) (rw (c.rounding_row.ensures, sym log, sym c.requires.wide) at c.emit_clipping.ensures.leaves)

pub returns-clause-flags : goal.returns-clause-flags
returns-clause-flags g c =
    let log = log2-is g.D.Width.BITS g.D.Width.LOG g.met.D.Width.power g.met.D.Width.divides g.met.D.Width.least in
    let shift : c.shift_of.result ≡ shift_of (moved_in c.args.kind) = c.shift_of.ensures.value ∙ ap shift_of c.moved_in.ensures in
    clips-flag c.args.kind c.args.width c.args.at.now (omega (arith, c.requires.wide, g.met.D.Width.least)) (rw (shift, sym log, sym c.requires.wide) at c.emit_rounding.ensures.leaves) (rw (c.rounding_row.ensures, sym log, sym c.requires.wide) at c.emit_clipping.ensures.flags)

pub returns-clause-cost : goal.returns-clause-cost
unfolding list_of counts_of length_of
returns-clause-cost g c =
    let log = log2-is g.D.Width.BITS g.D.Width.LOG g.met.D.Width.power g.met.D.Width.divides g.met.D.Width.least in
    let shift : c.shift_of.result ≡ shift_of (moved_in c.args.kind) = c.shift_of.ensures.value ∙ ap shift_of c.moved_in.ensures in
    measured-append _ _ _ _ _ _ (rw (shift, sym log, sym c.requires.wide) at c.emit_rounding.ensures.cost) (rw (c.rounding_row.ensures, sym log, sym c.requires.wide) at c.emit_clipping.ensures.cost)
