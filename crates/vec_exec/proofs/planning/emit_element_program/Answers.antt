use Rattle.std.proofs.Common.{◌≡◌, ◌≤◌, ◌∙◌, refl, sym, ap, arith}
use Rattle.vtype_cfg.proofs.Supported.{vlen_bounded}
use Rattle.legal_groups.specs.Facts.{registers_for}
use Rattle.legal_groups.proofs.Widths.{width-least}
use Rattle.frame_meaning.specs.Costs.{length_of as program_length}
use Rattle.frame_meaning.specs.Shapes.{has_scalar}
use Rattle.vec_exec.specs.Programs.{width_of, count_of}
use Rattle.vec_exec.proofs.Fits.{fitted}
use Rattle.vec_exec.proofs.Chosen.{halves-for, reads-for}
use Rattle.vec_exec.proofs.Planned.{plans, elements-fine, elements-program, elements-measured}
use Rattle.vec_exec.proofs.Placed.{valid-length}
use Rattle.vec_exec.proofs.Written.{width-most, flag-few, registers-few}
use Rattle.vec_exec.proofs.planning.emit_element_program.Goals as goal

pub scalar_number-number-requires-clause-sew : goal.scalar_number-number-requires-clause-sew
scalar_number-number-requires-clause-sew g c =
    let fit = fitted c.args.i.now.op c.args.recipe c.requires.recipe in
    (plans c.args.recipe fit.operation c.args.i.now c.args.cfg.now c.args.scalar fit.fits c.requires.valid c.requires.legal c.requires.bits c.requires.whole).sew

pub scalar_number-number-requires-clause-wide : goal.scalar_number-number-requires-clause-wide
scalar_number-number-requires-clause-wide g c =
    let fit = fitted c.args.i.now.op c.args.recipe c.requires.recipe in
    (plans c.args.recipe fit.operation c.args.i.now c.args.cfg.now c.args.scalar fit.fits c.requires.valid c.requires.legal c.requires.bits c.requires.whole).width

pub registers-count-requires-clause-sew : goal.registers-count-requires-clause-sew
registers-count-requires-clause-sew g c =
    let fit = fitted c.args.i.now.op c.args.recipe c.requires.recipe in
    let least = width-least c.args.cfg.now.vtype.sew (plans c.args.recipe fit.operation c.args.i.now c.args.cfg.now c.args.scalar fit.fits c.requires.valid c.requires.legal c.requires.bits c.requires.whole).sew in
    omega (arith, least)

pub registers-count-requires-clause-few : goal.registers-count-requires-clause-few
registers-count-requires-clause-few g c =
    let fit = fitted c.args.i.now.op c.args.recipe c.requires.recipe in
    rw c.width-bits.ensures (plans c.args.recipe fit.operation c.args.i.now c.args.cfg.now c.args.scalar fit.fits c.requires.valid c.requires.legal c.requires.bits c.requires.whole).few

pub width-bits-requires : goal.width-bits-requires
width-bits-requires g c =
    let fit = fitted c.args.i.now.op c.args.recipe c.requires.recipe in
    record { sew = (plans c.args.recipe fit.operation c.args.i.now c.args.cfg.now c.args.scalar fit.fits c.requires.valid c.requires.legal c.requires.bits c.requires.whole).sew }

pub emit_registers-requires-clause-whole : goal.emit_registers-requires-clause-whole
emit_registers-requires-clause-whole g c =
    let fit = fitted c.args.i.now.op c.args.recipe c.requires.recipe in
    halves-for c.args.recipe fit.operation c.args.i.now c.args.cfg.now c.args.scalar fit.fits ∙ c.requires.whole

pub emit_registers-requires-clause-placed : goal.emit_registers-requires-clause-placed
emit_registers-requires-clause-placed g c =
    let fit = fitted c.args.i.now.op c.args.recipe c.requires.recipe in
    let count : c.registers-count.result ≡ count_of c.args.recipe c.args.cfg.now = c.registers-count.ensures ∙ ap (registers_for c.args.cfg.now.vtype) c.width-bits.ensures in
    rw count (plans c.args.recipe fit.operation c.args.i.now c.args.cfg.now c.args.scalar fit.fits c.requires.valid c.requires.legal c.requires.bits c.requires.whole).placed

pub emit_registers-requires-clause-length : goal.emit_registers-requires-clause-length
emit_registers-requires-clause-length g c = vlen_bounded c.args.cfg.now.vlen (valid-length c.args.cfg.now c.requires.valid)

pub emit_registers-requires-clause-few : goal.emit_registers-requires-clause-few
emit_registers-requires-clause-few g c =
    let fit = fitted c.args.i.now.op c.args.recipe c.requires.recipe in
    let count : c.registers-count.result ≡ count_of c.args.recipe c.args.cfg.now = c.registers-count.ensures ∙ ap (registers_for c.args.cfg.now.vtype) c.width-bits.ensures in
    rw count (plans c.args.recipe fit.operation c.args.i.now c.args.cfg.now c.args.scalar fit.fits c.requires.valid c.requires.legal c.requires.bits c.requires.whole).few

pub emit_registers-requires-clause-room : goal.emit_registers-requires-clause-room
emit_registers-requires-clause-room g c =
    let fit = fitted c.args.i.now.op c.args.recipe c.requires.recipe in
    let count : c.registers-count.result ≡ count_of c.args.recipe c.args.cfg.now = c.registers-count.ensures ∙ ap (registers_for c.args.cfg.now.vtype) c.width-bits.ensures in
    let narrow : width_of c.args.recipe c.args.cfg.now ≤ 32 = rw c.requires.width (width-most g.W.Width.BITS g.met.W.Width.divides) in
    let all = registers-few c.args.recipe c.args.i.now c.args.cfg.now c.registers-count.result c.list_length_law.ensures (rw count (plans c.args.recipe fit.operation c.args.i.now c.args.cfg.now c.args.scalar fit.fits c.requires.valid c.requires.legal c.requires.bits c.requires.whole).few) narrow in
    omega (arith, all, flag-few (has_scalar c.args.i.now.form) 4, c.emit_scalar.ensures.spare, c.requires.room)

pub returns-clause-program : goal.returns-clause-program
returns-clause-program g c =
    let fit = fitted c.args.i.now.op c.args.recipe c.requires.recipe in
    let count : c.registers-count.result ≡ count_of c.args.recipe c.args.cfg.now = c.registers-count.ensures ∙ ap (registers_for c.args.cfg.now.vtype) c.width-bits.ensures in
    c.emit_registers.ensures.ops
    ∙ rw (c.emit_scalar.ensures.ops, c.requires.empty, count, c.scalar_number-number.ensures, sym c.requires.width, elements-program c.args.recipe fit.operation c.args.i.now c.args.cfg.now c.args.scalar fit.fits c.requires.valid c.requires.legal c.requires.bits c.requires.whole) refl

pub returns-clause-realises : goal.returns-clause-realises
returns-clause-realises g c =
    let fit = fitted c.args.i.now.op c.args.recipe c.requires.recipe in
    let count : c.registers-count.result ≡ count_of c.args.recipe c.args.cfg.now = c.registers-count.ensures ∙ ap (registers_for c.args.cfg.now.vtype) c.width-bits.ensures in
    let made = rw count at c.emit_registers.ensures.made in
    let fine = elements-fine c.args.recipe fit.operation c.args.i.now c.args.cfg.now c.args.scalar fit.fits c.requires.valid c.requires.legal fit.is c.requires.bits c.requires.whole made c.requires.fields.vs1 in
    rw (returns-clause-program g c) fine.realises

pub returns-clause-cost : goal.returns-clause-cost
returns-clause-cost g c =
    let fit = fitted c.args.i.now.op c.args.recipe c.requires.recipe in
    let count : c.registers-count.result ≡ count_of c.args.recipe c.args.cfg.now = c.registers-count.ensures ∙ ap (registers_for c.args.cfg.now.vtype) c.width-bits.ensures in
    let made = rw count at c.emit_registers.ensures.made in
    let fine = elements-fine c.args.recipe fit.operation c.args.i.now c.args.cfg.now c.args.scalar fit.fits c.requires.valid c.requires.legal fit.is c.requires.bits c.requires.whole made c.requires.fields.vs1 in
    rw (returns-clause-program g c) fine.cost

pub returns-clause-range : goal.returns-clause-range
returns-clause-range g c =
    let fit = fitted c.args.i.now.op c.args.recipe c.requires.recipe in
    let count : c.registers-count.result ≡ count_of c.args.recipe c.args.cfg.now = c.registers-count.ensures ∙ ap (registers_for c.args.cfg.now.vtype) c.width-bits.ensures in
    let made = rw count at c.emit_registers.ensures.made in
    let fine = elements-fine c.args.recipe fit.operation c.args.i.now c.args.cfg.now c.args.scalar fit.fits c.requires.valid c.requires.legal fit.is c.requires.bits c.requires.whole made c.requires.fields.vs1 in
    rw (returns-clause-program g c) fine.range

pub returns-clause-spare : goal.returns-clause-spare
unfolding program_length
returns-clause-spare g c =
    let fit = fitted c.args.i.now.op c.args.recipe c.requires.recipe in
    let count : c.registers-count.result ≡ count_of c.args.recipe c.args.cfg.now = c.registers-count.ensures ∙ ap (registers_for c.args.cfg.now.vtype) c.width-bits.ensures in
    let made = rw count at c.emit_registers.ensures.made in
    let m = elements-measured c.args.recipe fit.operation c.args.i.now c.args.cfg.now c.args.scalar fit.fits c.requires.valid c.requires.legal c.requires.bits c.requires.whole made c.requires.fields.vs1 in
    rw (returns-clause-program g c, elements-program c.args.recipe fit.operation c.args.i.now c.args.cfg.now c.args.scalar fit.fits c.requires.valid c.requires.legal c.requires.bits c.requires.whole, m.count, sym (reads-for c.args.recipe fit.operation c.args.i.now c.args.cfg.now c.args.scalar fit.fits))
    (omega (arith, rw count at c.emit_registers.ensures.spare, c.emit_scalar.ensures.spare))
