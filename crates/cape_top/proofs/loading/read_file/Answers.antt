use Rattle.std.proofs.Common.{refl, arith, ◌∙◌}
use Rattle.cape_top.proofs.ReadLemmas.{no_error, read_full, read_all, read_of}
use Rattle.cape_top.proofs.loading.read_file.Goals as goal

pub returns-then-len-limit-clause-read : goal.returns-then-len-limit-clause-read
returns-then-len-limit-clause-read g c = read_of c.args.limit _ _ (λ absent. no_error c.open.result c.if-is_err.ensures.value (c.open.ensures.missing absent)) (λ bytes told.
    let w = c.loop-turn.invariant.moved bytes told in
    read_full c.args.limit bytes c.loop-turn.bytes.items w.0 w.2 (omega arith))

pub returns-then-not-branch-clause-read : goal.returns-then-not-branch-clause-read
returns-then-not-branch-clause-read g c = read_of c.args.limit _ _ (λ absent. no_error c.open.result c.if-is_err.ensures.value (c.open.ensures.missing absent)) (λ bytes told.
    let w = c.loop-turn.invariant.moved bytes told in
    let v = c.in_ok-read_piece.ensures.moves w.0 w.1 in
    read_all c.args.limit bytes c.read_piece.new.bytes.items v.0 _ (w.2 ∙ v.2) v.1 (c.in_ok-read_piece.ensures.end (rw c.if-not-branch.true refl)) (omega (arith, c.in_ok-read_piece.ensures.limit)))

pub returns-clause-read : goal.returns-clause-read
returns-clause-read g c = read_of c.args.limit _ _ (λ absent. no_error c.open.result c.if-is_err.ensures.value (c.open.ensures.missing absent)) (λ bytes told.
    let w = c.loop-turn.invariant.moved bytes told in
    read_full c.args.limit bytes c.loop-turn.bytes.items w.0 w.2 (omega arith))
