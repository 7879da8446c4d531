use Rattle.std.proofs.Common.{refl, ◌∙◌, arith}
use Rattle.fold_exec.specs.Programs.{fold_program, fold_length}
use Rattle.fold_exec.proofs.Counting.{number-fine}
use Rattle.fold_exec.proofs.numbers.emit_mask.Goals as goal

pub returns-clause-program : goal.returns-clause-program
unfolding fold_program
returns-clause-program c = c.emit_number.ensures.ops ∙ rw (c.active.ensures.ops, c.requires.empty) refl

pub returns-clause-spare : goal.returns-clause-spare
unfolding fold_length
returns-clause-spare c = omega (arith, c.emit_number.ensures.spare, c.active.ensures.spare)

pub returns-clause-fine : goal.returns-clause-fine
returns-clause-fine c = λ x.
    number-fine c.args.kind c.args.i.now c.args.cfg.now x c.requires.kind c.requires.fields c.requires.valid c.requires.legal c.emit_number.ensures.number c.emit_number.ensures.cost
