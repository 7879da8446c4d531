use Rattle.std.proofs.Common.{[], arith, ◌∙◌}
use Rattle.std.proofs.lemmas.List.{ext_get_or}
use Rattle.cam_chain.proofs.row_moves.copy_rows.Goals as goal

pub returns : goal.returns
returns c =
    let p = c.loop-i.invariant in
    ext_get_or [] _ _ (p.0 ∙ c.requires.len) (λ k h. p.1 k (omega (arith, h, p.0, c.loop-i-test.false)))
