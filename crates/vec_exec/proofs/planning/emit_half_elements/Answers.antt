use Rattle.std.proofs.Common.{◌≡◌, ℕ, ◌*◌, ⊎_elim, ap}
use Rattle.vec_exec.proofs.Fits.{fitted}
use Rattle.vec_exec.proofs.Planned.{half-plans}
use Rattle.vec_exec.proofs.planning.emit_half_elements.Goals as goal

pub emit_half_program-requires-else-cfg-eq-BYTE_BITS-clause-width : goal.emit_half_program-requires-else-cfg-eq-BYTE_BITS-clause-width
emit_half_program-requires-else-cfg-eq-BYTE_BITS-clause-width c =
    let fit = fitted c.args.i.now.op c.args.recipe c.requires.recipe in
    ⊎_elim (λ (is : c.args.cfg.now.vtype.sew ≡ 8). absurd (c.if-cfg-eq-BYTE_BITS.false is)) (λ (is : c.args.cfg.now.vtype.sew ≡ 16). is) (half-plans c.args.recipe fit.operation c.args.i.now c.args.cfg.now c.args.scalar fit.fits c.requires.valid c.requires.legal c.requires.bits c.requires.halves).narrow

pub emit_half_program-requires-else-cfg-eq-BYTE_BITS-clause-wide : goal.emit_half_program-requires-else-cfg-eq-BYTE_BITS-clause-wide
emit_half_program-requires-else-cfg-eq-BYTE_BITS-clause-wide c = ap (λ (w : ℕ). 2 * w) (emit_half_program-requires-else-cfg-eq-BYTE_BITS-clause-width c)
