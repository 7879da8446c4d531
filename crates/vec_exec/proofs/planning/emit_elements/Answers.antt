use Rattle.std.proofs.Common.{◌∙◌}
use Rattle.vec_exec.specs.Programs.{width_of}
use Rattle.vec_exec.proofs.Fits.{fitted}
use Rattle.vec_exec.proofs.Planned.{plans}
use Rattle.vec_exec.proofs.Written.{last-width}
use Rattle.vec_exec.proofs.planning.emit_elements.Goals as goal

pub width-bits-requires : goal.width-bits-requires
width-bits-requires c =
    let fit = fitted c.args.i.now.op c.args.recipe c.requires.recipe in
    record { sew = (plans c.args.recipe fit.operation c.args.i.now c.args.cfg.now c.args.scalar fit.fits c.requires.valid c.requires.legal c.requires.bits c.requires.whole).sew }

pub emit_element_program-requires-else-bits-eq-HALF_BITS-clause-width : goal.emit_element_program-requires-else-bits-eq-HALF_BITS-clause-width
emit_element_program-requires-else-bits-eq-HALF_BITS-clause-width c =
    let fit = fitted c.args.i.now.op c.args.recipe c.requires.recipe in
    last-width (width_of c.args.recipe c.args.cfg.now) (plans c.args.recipe fit.operation c.args.i.now c.args.cfg.now c.args.scalar fit.fits c.requires.valid c.requires.legal c.requires.bits c.requires.whole).width (λ is. c.if-bits-eq-BYTE_BITS.false (c.width-bits.ensures ∙ is)) (λ is. c.if-bits-eq-HALF_BITS.false (c.width-bits.ensures ∙ is))
