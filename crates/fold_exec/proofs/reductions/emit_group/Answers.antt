use Rattle.std.proofs.Common.{◌≤◌, refl, sym, ◌∙◌, arith}
use Rattle.fold_exec.specs.Kinds.{is_widening}
use Rattle.fold_exec.specs.Programs.{span_of, folding_length, fold_program, fold_length}
use Rattle.fold_exec.proofs.Reduces.{reduces, narrow, span-is, vlen-is, folding-few}
use Rattle.fold_exec.proofs.Reducing.{fold-fine, rest-few}
use Rattle.fold_exec.proofs.reductions.emit_group.Goals as goal

pub emit_folding-requires-clause-span : goal.emit_folding-requires-clause-span
emit_folding-requires-clause-span g c =
    rw c.span_of-span.ensures
    (span-is c.args.folding c.args.i.now c.args.cfg.now c.requires.kind c.requires.valid c.requires.legal _ (vlen-is c.args.folding c.args.i.now c.args.cfg.now c.requires.kind c.requires.valid c.requires.legal))

pub emit_folding-requires-clause-wide : goal.emit_folding-requires-clause-wide
emit_folding-requires-clause-wide g c =
    rw (sym c.requires.width) (narrow (is_widening c.args.folding) c.args.cfg.now.vtype.sew (reduces c.args.folding c.args.i.now c.args.cfg.now c.requires.kind c.requires.valid c.requires.legal).most)

pub emit_folding-requires-clause-room : goal.emit_folding-requires-clause-room
emit_folding-requires-clause-room g c =
    let few : folding_length c.args.folding c.args.cfg.now.vtype.sew (span_of c.args.i.now c.args.cfg.now) ≤ 4096 = folding-few c.args.folding c.args.i.now c.args.cfg.now c.requires.kind c.requires.valid c.requires.legal in
    rw (sym c.requires.width, c.span_of-span.ensures) (omega (arith, few, c.requires.room))

pub emit_rest-requires-clause-room : goal.emit_rest-requires-clause-room
emit_rest-requires-clause-room g c =
    let few : folding_length c.args.folding c.args.cfg.now.vtype.sew (span_of c.args.i.now c.args.cfg.now) ≤ 4096 = folding-few c.args.folding c.args.i.now c.args.cfg.now c.requires.kind c.requires.valid c.requires.legal in
    omega (arith, few, rest-few c.args.cfg.now, rw (sym c.requires.width, c.span_of-span.ensures) at c.emit_folding.ensures.spare, c.requires.room)

pub returns-clause-program : goal.returns-clause-program
unfolding fold_program
returns-clause-program g c =
    c.emit_rest.ensures.ops ∙ rw (c.emit_folding.ensures.ops, c.requires.empty, c.result_bits.ensures, c.at_rows.ensures, c.span_of-span.ensures, sym c.requires.width) refl

pub returns-clause-spare : goal.returns-clause-spare
unfolding fold_length
returns-clause-spare g c = omega (arith, c.emit_rest.ensures.spare, rw (sym c.requires.width, c.span_of-span.ensures) at c.emit_folding.ensures.spare)

pub returns-clause-fine : goal.returns-clause-fine
returns-clause-fine g c = λ x.
    fold-fine c.args.folding c.args.i.now c.args.cfg.now x c.requires.kind c.requires.fields c.requires.valid c.requires.legal
    (rw (sym c.requires.width, c.at_rows.ensures, c.span_of-span.ensures) at c.emit_folding.ensures.folds)
    (rw (sym c.requires.width, c.at_rows.ensures, c.span_of-span.ensures) at c.emit_folding.ensures.cost)
