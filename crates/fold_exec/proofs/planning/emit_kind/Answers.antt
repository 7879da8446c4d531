use Rattle.fold_exec.proofs.planning.emit_kind.Goals as goal

pub returns-in-Number-clause-fine : goal.returns-in-Number-clause-fine
returns-in-Number-clause-fine c = λ x. rw c.in-Number.is (c.emit_mask.ensures.fine x)

pub returns-in-Fold-clause-fine : goal.returns-in-Fold-clause-fine
returns-in-Fold-clause-fine c = λ x. rw c.in-Fold.is (c.emit_fold.ensures.fine x)
