use Rattle.std.proofs.Common.{◌≡◌, ◌≤◌, ◌∙◌, sym, arith, append_assoc}
use Rattle.vtype_cfg.proofs.Supported.{vlen_bounded}
use Rattle.legal_groups.specs.Facts.{group_count}
use Rattle.legal_groups.proofs.Widths.{width-least}
use Rattle.frame_meaning.specs.Shapes.{has_scalar}
use Rattle.rvv_meaning.specs.Elementwise.{is_ones}
use Rattle.vec_exec.proofs.Fits.{fitted}
use Rattle.frame_meaning.specs.Masks.{compare_length_of}
use Rattle.vec_exec.proofs.Chosen.{mask-width, bits-for, reads-for}
use Rattle.vec_exec.proofs.Planned.{mask-plans, bits-fine, bits-program, bits-measured}
use Rattle.vec_exec.proofs.Placed.{valid-length}
use Rattle.vec_exec.proofs.Written.{sew-count, width-most, flag-few, fill-parts, mask-registers-few}
use Rattle.vec_exec.proofs.planning.emit_mask_program.Goals as goal

pub scalar_number-number-requires-clause-sew : goal.scalar_number-number-requires-clause-sew
scalar_number-number-requires-clause-sew g c =
    let fit = fitted c.args.i.now.op c.args.recipe c.requires.recipe in
    (mask-plans c.args.recipe fit.operation c.args.i.now c.args.cfg.now c.args.scalar fit.fits c.requires.valid c.requires.legal c.requires.bits).sew

pub scalar_number-number-requires-clause-wide : goal.scalar_number-number-requires-clause-wide
scalar_number-number-requires-clause-wide g c =
    let fit = fitted c.args.i.now.op c.args.recipe c.requires.recipe in
    rw (mask-width c.args.recipe fit.operation c.args.i.now c.args.cfg.now c.args.scalar fit.fits c.requires.bits) (mask-plans c.args.recipe fit.operation c.args.i.now c.args.cfg.now c.args.scalar fit.fits c.requires.valid c.requires.legal c.requires.bits).sew

pub registers-count-requires-clause-sew : goal.registers-count-requires-clause-sew
registers-count-requires-clause-sew g c =
    let fit = fitted c.args.i.now.op c.args.recipe c.requires.recipe in
    let least = width-least c.args.cfg.now.vtype.sew (mask-plans c.args.recipe fit.operation c.args.i.now c.args.cfg.now c.args.scalar fit.fits c.requires.valid c.requires.legal c.requires.bits).sew in
    omega (arith, least)

pub registers-count-requires-clause-few : goal.registers-count-requires-clause-few
registers-count-requires-clause-few g c =
    let fit = fitted c.args.i.now.op c.args.recipe c.requires.recipe in
    rw (sew-count c.args.cfg.now.vtype (mask-plans c.args.recipe fit.operation c.args.i.now c.args.cfg.now c.args.scalar fit.fits c.requires.valid c.requires.legal c.requires.bits).sew) (mask-plans c.args.recipe fit.operation c.args.i.now c.args.cfg.now c.args.scalar fit.fits c.requires.valid c.requires.legal c.requires.bits).few

pub emit_mask_registers-requires-clause-bits : goal.emit_mask_registers-requires-clause-bits
emit_mask_registers-requires-clause-bits g c =
    let fit = fitted c.args.i.now.op c.args.recipe c.requires.recipe in
    bits-for c.args.recipe fit.operation c.args.i.now c.args.cfg.now c.args.scalar fit.fits ∙ c.requires.bits

pub emit_mask_registers-requires-clause-placed : goal.emit_mask_registers-requires-clause-placed
emit_mask_registers-requires-clause-placed g c =
    let fit = fitted c.args.i.now.op c.args.recipe c.requires.recipe in
    let count : c.registers-count.result ≡ group_count c.args.cfg.now.vtype = c.registers-count.ensures ∙ sew-count c.args.cfg.now.vtype (mask-plans c.args.recipe fit.operation c.args.i.now c.args.cfg.now c.args.scalar fit.fits c.requires.valid c.requires.legal c.requires.bits).sew in
    rw count (mask-plans c.args.recipe fit.operation c.args.i.now c.args.cfg.now c.args.scalar fit.fits c.requires.valid c.requires.legal c.requires.bits).placed

pub emit_mask_registers-requires-clause-length : goal.emit_mask_registers-requires-clause-length
emit_mask_registers-requires-clause-length g c = vlen_bounded c.args.cfg.now.vlen (valid-length c.args.cfg.now c.requires.valid)

pub emit_mask_registers-requires-clause-few : goal.emit_mask_registers-requires-clause-few
emit_mask_registers-requires-clause-few g c =
    let fit = fitted c.args.i.now.op c.args.recipe c.requires.recipe in
    let count : c.registers-count.result ≡ group_count c.args.cfg.now.vtype = c.registers-count.ensures ∙ sew-count c.args.cfg.now.vtype (mask-plans c.args.recipe fit.operation c.args.i.now c.args.cfg.now c.args.scalar fit.fits c.requires.valid c.requires.legal c.requires.bits).sew in
    rw count (mask-plans c.args.recipe fit.operation c.args.i.now c.args.cfg.now c.args.scalar fit.fits c.requires.valid c.requires.legal c.requires.bits).few

pub emit_mask_registers-requires-clause-room : goal.emit_mask_registers-requires-clause-room
emit_mask_registers-requires-clause-room g c =
    let fit = fitted c.args.i.now.op c.args.recipe c.requires.recipe in
    let count : c.registers-count.result ≡ group_count c.args.cfg.now.vtype = c.registers-count.ensures ∙ sew-count c.args.cfg.now.vtype (mask-plans c.args.recipe fit.operation c.args.i.now c.args.cfg.now c.args.scalar fit.fits c.requires.valid c.requires.legal c.requires.bits).sew in
    let narrow : c.args.cfg.now.vtype.sew ≤ 32 = rw c.requires.width (width-most g.W.Width.BITS g.met.W.Width.divides) in
    let all = mask-registers-few c.args.recipe c.args.i.now c.args.cfg.now c.registers-count.result c.list_length_law.ensures (rw count (mask-plans c.args.recipe fit.operation c.args.i.now c.args.cfg.now c.args.scalar fit.fits c.requires.valid c.requires.legal c.requires.bits).few) narrow in
    omega (arith, all, flag-few (has_scalar c.args.i.now.form) 4, flag-few (is_ones c.args.cfg.now.policy) 1, c.emit_scalar.ensures.spare, c.requires.room)

pub emit_mask_fill-requires-clause-to : goal.emit_mask_fill-requires-clause-to
emit_mask_fill-requires-clause-to g c =
    let fit = fitted c.args.i.now.op c.args.recipe c.requires.recipe in
    (mask-plans c.args.recipe fit.operation c.args.i.now c.args.cfg.now c.args.scalar fit.fits c.requires.valid c.requires.legal c.requires.bits).vd

pub emit_mask_fill-requires-clause-room : goal.emit_mask_fill-requires-clause-room
emit_mask_fill-requires-clause-room g c =
    let fit = fitted c.args.i.now.op c.args.recipe c.requires.recipe in
    let count : c.registers-count.result ≡ group_count c.args.cfg.now.vtype = c.registers-count.ensures ∙ sew-count c.args.cfg.now.vtype (mask-plans c.args.recipe fit.operation c.args.i.now c.args.cfg.now c.args.scalar fit.fits c.requires.valid c.requires.legal c.requires.bits).sew in
    let narrow : c.args.cfg.now.vtype.sew ≤ 32 = rw c.requires.width (width-most g.W.Width.BITS g.met.W.Width.divides) in
    let all = mask-registers-few c.args.recipe c.args.i.now c.args.cfg.now c.registers-count.result c.list_length_law.ensures (rw count (mask-plans c.args.recipe fit.operation c.args.i.now c.args.cfg.now c.args.scalar fit.fits c.requires.valid c.requires.legal c.requires.bits).few) narrow in
    let four = flag-few (has_scalar c.args.i.now.form) 4 in
    let one = flag-few (is_ones c.args.cfg.now.policy) 1 in
    let two = flag-few (is_ones c.args.cfg.now.policy) 2 in
    omega (arith, all, one, two, four, c.emit_mask_registers.ensures.spare, c.emit_scalar.ensures.spare, c.requires.room)

pub returns-clause-program : goal.returns-clause-program
returns-clause-program g c =
    let fit = fitted c.args.i.now.op c.args.recipe c.requires.recipe in
    let count : c.registers-count.result ≡ group_count c.args.cfg.now.vtype = c.registers-count.ensures ∙ sew-count c.args.cfg.now.vtype (mask-plans c.args.recipe fit.operation c.args.i.now c.args.cfg.now c.args.scalar fit.fits c.requires.valid c.requires.legal c.requires.bits).sew in
    c.emit_mask_fill.ensures.ops
    ∙ rw (c.emit_mask_registers.ensures.ops, c.emit_scalar.ensures.ops, c.requires.empty, count, c.scalar_number-number.ensures, sym c.requires.width, bits-program c.args.recipe fit.operation c.args.i.now c.args.cfg.now c.args.scalar fit.fits c.requires.valid c.requires.legal c.requires.bits) (simp append_assoc)

pub returns-clause-realises : goal.returns-clause-realises
returns-clause-realises g c =
    let fit = fitted c.args.i.now.op c.args.recipe c.requires.recipe in
    let count : c.registers-count.result ≡ group_count c.args.cfg.now.vtype = c.registers-count.ensures ∙ sew-count c.args.cfg.now.vtype (mask-plans c.args.recipe fit.operation c.args.i.now c.args.cfg.now c.args.scalar fit.fits c.requires.valid c.requires.legal c.requires.bits).sew in
    let made = rw count at c.emit_mask_registers.ensures.made in
    let fine = bits-fine c.args.recipe fit.operation c.args.i.now c.args.cfg.now c.args.scalar fit.fits c.requires.valid c.requires.legal fit.is c.requires.bits made c.requires.fields.vs1 in
    rw (returns-clause-program g c) fine.realises

pub returns-clause-cost : goal.returns-clause-cost
returns-clause-cost g c =
    let fit = fitted c.args.i.now.op c.args.recipe c.requires.recipe in
    let count : c.registers-count.result ≡ group_count c.args.cfg.now.vtype = c.registers-count.ensures ∙ sew-count c.args.cfg.now.vtype (mask-plans c.args.recipe fit.operation c.args.i.now c.args.cfg.now c.args.scalar fit.fits c.requires.valid c.requires.legal c.requires.bits).sew in
    let made = rw count at c.emit_mask_registers.ensures.made in
    let fine = bits-fine c.args.recipe fit.operation c.args.i.now c.args.cfg.now c.args.scalar fit.fits c.requires.valid c.requires.legal fit.is c.requires.bits made c.requires.fields.vs1 in
    rw (returns-clause-program g c) fine.cost

pub returns-clause-range : goal.returns-clause-range
returns-clause-range g c =
    let fit = fitted c.args.i.now.op c.args.recipe c.requires.recipe in
    let count : c.registers-count.result ≡ group_count c.args.cfg.now.vtype = c.registers-count.ensures ∙ sew-count c.args.cfg.now.vtype (mask-plans c.args.recipe fit.operation c.args.i.now c.args.cfg.now c.args.scalar fit.fits c.requires.valid c.requires.legal c.requires.bits).sew in
    let made = rw count at c.emit_mask_registers.ensures.made in
    let fine = bits-fine c.args.recipe fit.operation c.args.i.now c.args.cfg.now c.args.scalar fit.fits c.requires.valid c.requires.legal fit.is c.requires.bits made c.requires.fields.vs1 in
    rw (returns-clause-program g c) fine.range

pub returns-clause-spare : goal.returns-clause-spare
unfolding compare_length_of
returns-clause-spare g c =
    let fit = fitted c.args.i.now.op c.args.recipe c.requires.recipe in
    let count : c.registers-count.result ≡ group_count c.args.cfg.now.vtype = c.registers-count.ensures ∙ sew-count c.args.cfg.now.vtype (mask-plans c.args.recipe fit.operation c.args.i.now c.args.cfg.now c.args.scalar fit.fits c.requires.valid c.requires.legal c.requires.bits).sew in
    let made = rw count at c.emit_mask_registers.ensures.made in
    let m = bits-measured c.args.recipe fit.operation c.args.i.now c.args.cfg.now c.args.scalar fit.fits c.requires.valid c.requires.legal c.requires.bits made c.requires.fields.vs1 in
    rw (returns-clause-program g c, bits-program c.args.recipe fit.operation c.args.i.now c.args.cfg.now c.args.scalar fit.fits c.requires.valid c.requires.legal c.requires.bits, m.count, sym (reads-for c.args.recipe fit.operation c.args.i.now c.args.cfg.now c.args.scalar fit.fits))
    (omega (arith, c.emit_mask_fill.ensures.spare, rw count at c.emit_mask_registers.ensures.spare, c.emit_scalar.ensures.spare, fill-parts (is_ones c.args.cfg.now.policy)))
