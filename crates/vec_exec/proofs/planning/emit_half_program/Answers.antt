use Rattle.std.proofs.Common.{◌*◌, ◌≤◌, ◌∙◌, refl, sym, arith}
use Rattle.vtype_cfg.proofs.Supported.{vlen_bounded}
use Rattle.legal_groups.proofs.Widths.{width-least}
use Rattle.frame_meaning.specs.Costs.{length_of as program_length}
use Rattle.frame_meaning.specs.Shapes.{has_scalar}
use Rattle.vec_exec.proofs.Fits.{fitted}
use Rattle.vec_exec.proofs.Chosen.{halves-for, reads-for}
use Rattle.vec_exec.proofs.Planned.{half-plans, halves-fine, halves-program, halves-measured}
use Rattle.vec_exec.proofs.Placed.{valid-length, half-wide}
use Rattle.vec_exec.proofs.Written.{width-most, flag-few, half-registers-few}
use Rattle.vec_exec.proofs.planning.emit_half_program.Goals as goal

pub half_scalar_number-number-requires : goal.half_scalar_number-number-requires
half_scalar_number-number-requires g c =
    let fit = fitted c.args.i.now.op c.args.recipe c.requires.recipe in
    record { narrow = (half-plans c.args.recipe fit.operation c.args.i.now c.args.cfg.now c.args.scalar fit.fits c.requires.valid c.requires.legal c.requires.bits c.requires.halves).narrow }

pub registers-count-requires-clause-sew : goal.registers-count-requires-clause-sew
registers-count-requires-clause-sew g c =
    let fit = fitted c.args.i.now.op c.args.recipe c.requires.recipe in
    let least = width-least c.args.cfg.now.vtype.sew (half-wide (half-plans c.args.recipe fit.operation c.args.i.now c.args.cfg.now c.args.scalar fit.fits c.requires.valid c.requires.legal c.requires.bits c.requires.halves).narrow) in
    omega (arith, least)

pub registers-count-requires-clause-few : goal.registers-count-requires-clause-few
registers-count-requires-clause-few g c =
    let fit = fitted c.args.i.now.op c.args.recipe c.requires.recipe in
    (half-plans c.args.recipe fit.operation c.args.i.now c.args.cfg.now c.args.scalar fit.fits c.requires.valid c.requires.legal c.requires.bits c.requires.halves).few

pub emit_half_registers-requires-clause-list : goal.emit_half_registers-requires-clause-list
emit_half_registers-requires-clause-list g c =
    let fit = fitted c.args.i.now.op c.args.recipe c.requires.recipe in
    halves-for c.args.recipe fit.operation c.args.i.now c.args.cfg.now c.args.scalar fit.fits ∙ c.requires.halves

pub emit_half_registers-requires-clause-placed : goal.emit_half_registers-requires-clause-placed
emit_half_registers-requires-clause-placed g c =
    let fit = fitted c.args.i.now.op c.args.recipe c.requires.recipe in
    let count = c.registers-count.ensures in
    rw count (half-plans c.args.recipe fit.operation c.args.i.now c.args.cfg.now c.args.scalar fit.fits c.requires.valid c.requires.legal c.requires.bits c.requires.halves).placed

pub emit_half_registers-requires-clause-length : goal.emit_half_registers-requires-clause-length
emit_half_registers-requires-clause-length g c = vlen_bounded c.args.cfg.now.vlen (valid-length c.args.cfg.now c.requires.valid)

pub emit_half_registers-requires-clause-few : goal.emit_half_registers-requires-clause-few
emit_half_registers-requires-clause-few g c =
    let fit = fitted c.args.i.now.op c.args.recipe c.requires.recipe in
    let count = c.registers-count.ensures in
    rw count (half-plans c.args.recipe fit.operation c.args.i.now c.args.cfg.now c.args.scalar fit.fits c.requires.valid c.requires.legal c.requires.bits c.requires.halves).few

pub emit_half_registers-requires-clause-room : goal.emit_half_registers-requires-clause-room
emit_half_registers-requires-clause-room g c =
    let fit = fitted c.args.i.now.op c.args.recipe c.requires.recipe in
    let count = c.registers-count.ensures in
    let narrow : 2 * c.args.cfg.now.vtype.sew ≤ 32 = rw c.requires.wide (width-most g.D.Width.BITS g.met.D.Width.divides) in
    let halves = halves-for c.args.recipe fit.operation c.args.i.now c.args.cfg.now c.args.scalar fit.fits ∙ c.requires.halves in
    let all = half-registers-few c.args.recipe c.args.i.now c.args.cfg.now c.registers-count.result c.list_length_law.ensures (rw count (half-plans c.args.recipe fit.operation c.args.i.now c.args.cfg.now c.args.scalar fit.fits c.requires.valid c.requires.legal c.requires.bits c.requires.halves).few) halves narrow in
    omega (arith, all, flag-few (has_scalar c.args.i.now.form) 4, c.emit_scalar.ensures.spare, c.requires.room)

pub returns-clause-program : goal.returns-clause-program
returns-clause-program g c =
    let fit = fitted c.args.i.now.op c.args.recipe c.requires.recipe in
    let count = c.registers-count.ensures in
    c.emit_half_registers.ensures.ops
    ∙ rw (c.emit_scalar.ensures.ops, c.requires.empty, count, c.half_scalar_number-number.ensures, sym c.requires.wide, halves-program c.args.recipe fit.operation c.args.i.now c.args.cfg.now c.args.scalar fit.fits c.requires.valid c.requires.legal c.requires.bits c.requires.halves) refl

pub returns-clause-realises : goal.returns-clause-realises
returns-clause-realises g c =
    let fit = fitted c.args.i.now.op c.args.recipe c.requires.recipe in
    let count = c.registers-count.ensures in
    let made = rw count at c.emit_half_registers.ensures.made in
    let fine = halves-fine c.args.recipe fit.operation c.args.i.now c.args.cfg.now c.args.scalar fit.fits c.requires.valid c.requires.legal fit.is c.requires.bits c.requires.halves made c.requires.fields.vs1 in
    rw (returns-clause-program g c) fine.realises

pub returns-clause-cost : goal.returns-clause-cost
returns-clause-cost g c =
    let fit = fitted c.args.i.now.op c.args.recipe c.requires.recipe in
    let count = c.registers-count.ensures in
    let made = rw count at c.emit_half_registers.ensures.made in
    let fine = halves-fine c.args.recipe fit.operation c.args.i.now c.args.cfg.now c.args.scalar fit.fits c.requires.valid c.requires.legal fit.is c.requires.bits c.requires.halves made c.requires.fields.vs1 in
    rw (returns-clause-program g c) fine.cost

pub returns-clause-range : goal.returns-clause-range
returns-clause-range g c =
    let fit = fitted c.args.i.now.op c.args.recipe c.requires.recipe in
    let count = c.registers-count.ensures in
    let made = rw count at c.emit_half_registers.ensures.made in
    let fine = halves-fine c.args.recipe fit.operation c.args.i.now c.args.cfg.now c.args.scalar fit.fits c.requires.valid c.requires.legal fit.is c.requires.bits c.requires.halves made c.requires.fields.vs1 in
    rw (returns-clause-program g c) fine.range

pub returns-clause-spare : goal.returns-clause-spare
unfolding program_length
returns-clause-spare g c =
    let fit = fitted c.args.i.now.op c.args.recipe c.requires.recipe in
    let count = c.registers-count.ensures in
    let made = rw count at c.emit_half_registers.ensures.made in
    let m = halves-measured c.args.recipe fit.operation c.args.i.now c.args.cfg.now c.args.scalar fit.fits c.requires.valid c.requires.legal c.requires.bits c.requires.halves made c.requires.fields.vs1 in
    rw (returns-clause-program g c, halves-program c.args.recipe fit.operation c.args.i.now c.args.cfg.now c.args.scalar fit.fits c.requires.valid c.requires.legal c.requires.bits c.requires.halves, m.count, sym (reads-for c.args.recipe fit.operation c.args.i.now c.args.cfg.now c.args.scalar fit.fits))
    (omega (arith, rw count at c.emit_half_registers.ensures.spare, c.emit_scalar.ensures.spare))
