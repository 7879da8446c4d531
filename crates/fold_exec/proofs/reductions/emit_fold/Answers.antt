use Rattle.fold_exec.proofs.Reduces.{reduces, last-width}
use Rattle.fold_exec.proofs.reductions.emit_fold.Goals as goal

pub emit_group-requires-else-cfg-eq-HALF_BITS-clause-width : goal.emit_group-requires-else-cfg-eq-HALF_BITS-clause-width
emit_group-requires-else-cfg-eq-HALF_BITS-clause-width c =
    last-width c.args.cfg.now.vtype.sew (reduces c.args.folding c.args.i.now c.args.cfg.now c.requires.kind c.requires.valid c.requires.legal).sew c.if-cfg-eq-BYTE_BITS.false c.if-cfg-eq-HALF_BITS.false
