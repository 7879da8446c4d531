use Rattle.std.proofs.Common.{refl, arith}
use Rattle.row_sums.proofs.Kept.{differ}
use Rattle.gen_fixed.specs.Laws.{clip_rows}
use Rattle.gen_fixed.proofs.Leaving.{leaves-clipped, leaves-flag}
use Rattle.gen_fixed.proofs.WideCosts.{clip-measured}
use Rattle.gen_fixed.proofs.narrow.emit_clipping.Goals as goal

pub emit_clip_signed-requires-clause-apart : goal.emit_clip_signed-requires-clause-apart
emit_clip_signed-requires-clause-apart g c = differ c.args.row 37 clip_rows c.requires.apart refl

pub returns-in-Clipu-clause-leaves : goal.returns-in-Clipu-clause-leaves
returns-in-Clipu-clause-leaves g c = let h = g.met.L.Width.least in leaves-clipped c.args.kind c.args.bits c.args.row (omega (arith, c.requires.wide)) c.requires.apart

pub returns-in-Clipu-clause-flags : goal.returns-in-Clipu-clause-flags
returns-in-Clipu-clause-flags g c = let h = g.met.L.Width.least in leaves-flag c.args.kind c.args.bits c.args.row (omega (arith, c.requires.wide)) c.requires.apart

pub returns-in-Clipu-clause-cost : goal.returns-in-Clipu-clause-cost
returns-in-Clipu-clause-cost g c = let h = g.met.L.Width.least in clip-measured c.args.kind c.args.bits c.args.row (omega (arith, c.requires.wide)) (omega (arith, c.requires.few))

pub returns-in-Clip-clause-leaves : goal.returns-in-Clip-clause-leaves
returns-in-Clip-clause-leaves g c = let h = g.met.L.Width.least in leaves-clipped c.args.kind c.args.bits c.args.row (omega (arith, c.requires.wide)) c.requires.apart

pub returns-in-Clip-clause-flags : goal.returns-in-Clip-clause-flags
returns-in-Clip-clause-flags g c = let h = g.met.L.Width.least in leaves-flag c.args.kind c.args.bits c.args.row (omega (arith, c.requires.wide)) c.requires.apart

pub returns-in-Clip-clause-cost : goal.returns-in-Clip-clause-cost
returns-in-Clip-clause-cost g c = let h = g.met.L.Width.least in clip-measured c.args.kind c.args.bits c.args.row (omega (arith, c.requires.wide)) (omega (arith, c.requires.few))
