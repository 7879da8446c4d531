use Rattle.vec_exec.proofs.Fits.{fitted}
use Rattle.vec_exec.proofs.Planned.{mask-plans}
use Rattle.vec_exec.proofs.Written.{last-width}
use Rattle.vec_exec.proofs.planning.emit_mask.Goals as goal

pub emit_mask_program-requires-else-cfg-eq-HALF_BITS-clause-width : goal.emit_mask_program-requires-else-cfg-eq-HALF_BITS-clause-width
emit_mask_program-requires-else-cfg-eq-HALF_BITS-clause-width c =
    let fit = fitted c.args.i.now.op c.args.recipe c.requires.recipe in
    last-width c.args.cfg.now.vtype.sew (mask-plans c.args.recipe fit.operation c.args.i.now c.args.cfg.now c.args.scalar fit.fits c.requires.valid c.requires.legal c.requires.bits).sew c.if-cfg-eq-BYTE_BITS.false c.if-cfg-eq-HALF_BITS.false
