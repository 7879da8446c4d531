use Rattle.std.proofs.Common.{inl, refl, sym, arith}
use Rattle.vec_exec.proofs.Widths.{log2-is}
use Rattle.micro_ir.proofs.Lists.{counts_and-none}
use Rattle.vec_exec.proofs.Written.{four-parts, measured-append, measured-same, value-low, half-few}
use Rattle.vec_exec.proofs.halves.emit_half.Goals as goal

pub half_place-at-requires : goal.half_place-at-requires
half_place-at-requires g c = record { vs2 = c.requires.placed.a c.args.half c.requires.half }

pub emit_half_second-requires-clause-layable : goal.emit_half_second-requires-clause-layable
emit_half_second-requires-clause-layable g c = rw (sym c.requires.width) (c.requires.placed.b c.args.half c.requires.half).1

pub emit_half_second-requires-clause-room : goal.emit_half_second-requires-clause-room
emit_half_second-requires-clause-room g c = rw (sym c.requires.width) (omega (arith, c.requires.room))

pub emit_wide-requires-clause-halves : goal.emit_wide-requires-clause-halves
emit_wide-requires-clause-halves g c = rw c.use_of-list.ensures.list c.requires.halves

pub emit_wide-requires-clause-a : goal.emit_wide-requires-clause-a
emit_wide-requires-clause-a g c = rw c.half_place-at.ensures.a (inl (c.requires.placed.a c.args.half c.requires.half))

pub emit_wide-requires-clause-b : goal.emit_wide-requires-clause-b
emit_wide-requires-clause-b g c = rw (c.half_place-at.ensures.b c.args.cfg.now.vtype.sew) (c.requires.placed.b c.args.half c.requires.half).0

pub emit_wide-requires-clause-mode : goal.emit_wide-requires-clause-mode
emit_wide-requires-clause-mode g c = rw c.half_place-at.ensures.mode c.requires.placed.mode

pub emit_wide-requires-clause-room : goal.emit_wide-requires-clause-room
emit_wide-requires-clause-room g c =
    rw (c.use_of-list.ensures.list, c.half_place-at.ensures.mode) (omega (arith, c.requires.room, rw (sym c.requires.width) at c.emit_half_second.ensures.spare))

pub returns-clause-ops : goal.returns-clause-ops
returns-clause-ops g c =
    let log = log2-is g.D.Width.BITS g.D.Width.LOG g.met.D.Width.power g.met.D.Width.divides g.met.D.Width.least in
    four-parts _ _ _ _ _ _ _ _ _ (rw (sym c.requires.width) at c.emit_half_second.ensures.ops)
    (rw (
      c.half_place-at.ensures.a,
      c.half_place-at.ensures.b c.args.cfg.now.vtype.sew,
      c.half_place-at.ensures.addend,
      c.half_place-at.ensures.to,
      c.half_place-at.ensures.mode,
      c.use_of-list.ensures.list,
    ) at c.emit_wide.ensures.ops)
    (rw (c.value_row.ensures, c.use_of-list.ensures.list, sym log, sym c.requires.width) at c.emit_low.ensures.ops)
    (rw (c.use_of-list.ensures.list, sym c.requires.width) at c.emit_low_flags.ensures.ops)

pub emit_low-requires-clause-wide : goal.emit_low-requires-clause-wide
emit_low-requires-clause-wide g c = rw (sym c.requires.width) c.requires.placed.wide

pub emit_low-requires-clause-from : goal.emit_low-requires-clause-from
emit_low-requires-clause-from g c = rw c.value_row.ensures (value-low c.use_of-list.result.list g.D.Width.LOG)

pub emit_low-requires-clause-half : goal.emit_low-requires-clause-half
emit_low-requires-clause-half g c = omega (arith, half-few c.args.cfg.now.vtype, c.requires.half)

pub emit_low_flags-requires-clause-wide : goal.emit_low_flags-requires-clause-wide
emit_low_flags-requires-clause-wide g c = rw (sym c.requires.width) c.requires.placed.wide

pub emit_low_flags-requires-clause-half : goal.emit_low_flags-requires-clause-half
emit_low_flags-requires-clause-half g c = omega (arith, half-few c.args.cfg.now.vtype, c.requires.half)

pub returns-clause-spare : goal.returns-clause-spare
returns-clause-spare g c =
    omega (arith, c.emit_low.ensures.spare, rw c.use_of-list.ensures.list at c.emit_low_flags.ensures.spare, rw (c.use_of-list.ensures.list, c.half_place-at.ensures.mode) at c.emit_wide.ensures.spare, rw (sym c.requires.width) at c.emit_half_second.ensures.spare)

pub returns-clause-leaves : goal.returns-clause-leaves
returns-clause-leaves g c =
    rw (
      c.half_place-at.ensures.a,
      c.half_place-at.ensures.b c.args.cfg.now.vtype.sew,
      c.half_place-at.ensures.addend,
      c.half_place-at.ensures.to,
      c.half_place-at.ensures.mode,
      c.use_of-list.ensures.list,
    ) at c.emit_wide.ensures.leaves

pub returns-clause-flags : goal.returns-clause-flags
returns-clause-flags g c =
    rw (
      c.half_place-at.ensures.a,
      c.half_place-at.ensures.b c.args.cfg.now.vtype.sew,
      c.half_place-at.ensures.addend,
      c.half_place-at.ensures.to,
      c.half_place-at.ensures.mode,
      c.use_of-list.ensures.list,
    ) at c.emit_wide.ensures.flags

pub returns-clause-cost : goal.returns-clause-cost
returns-clause-cost g c =
    let wide = rw (
      c.half_place-at.ensures.a,
      c.half_place-at.ensures.b c.args.cfg.now.vtype.sew,
      c.half_place-at.ensures.addend,
      c.half_place-at.ensures.to,
      c.half_place-at.ensures.mode,
      c.use_of-list.ensures.list,
    ) at c.emit_wide.ensures.cost in
    let log = log2-is g.D.Width.BITS g.D.Width.LOG g.met.D.Width.power g.met.D.Width.divides g.met.D.Width.least in
    let laid = rw (sym c.requires.width) at c.emit_half_second.ensures.cost in
    let low = rw (c.value_row.ensures, c.use_of-list.ensures.list, sym log, sym c.requires.width) at c.emit_low.ensures.cost in
    let flags = rw (c.use_of-list.ensures.list, sym c.requires.width) at c.emit_low_flags.ensures.cost in
    let both = measured-append _ _ _ _ _ _ low flags in
    measured-append _ _ _ _ _ _ laid (measured-same _ _ _ _ _ (counts_and-none _) refl (measured-append _ _ _ _ _ _ wide both))
