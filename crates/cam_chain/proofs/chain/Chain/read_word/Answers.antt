use Rattle.std.proofs.Common.{◌≡◌, ◌<◌, ap, sym, ◌∙◌}
use Rattle.cam_chain.specs.ChainValue.{ChainValue, slices_of}
use Rattle.cam_chain.proofs.Words.{row_place, read_set, read_skip}
use Rattle.cam_chain.proofs.chain.Chain.read_word.Goals as goal
use Rattle.cam_chain.proofs.chain.Chain.read_word.Goals.{then-get, else-get}

pub loop-sub-preserved : goal.loop-sub-preserved
loop-sub-preserved c =
    let sub : c.loop-sub.sub < 32 = c.loop-sub-test.true in
    let bit : c.get.result ≡ (slices_of c.args.self.now).bit c.loop-sub.sub c.args.row c.args.col =
    c.get.ensures ∙ row_place c.args.self.now _ _ _ c.args.col _ (ap (λ (v : ChainValue). v.rows) c.self.view_is) c.self.invariant.row_count c.index.ensures sub c.requires.row c.requires.column in
    elim c.if-get.branch [
      | then-get w ↦ rw w.word-is (read_set _ _ _ _ _ c.loop-sub.invariant sub (sym w.if-get.true ∙ bit))
      | else-get w ↦ rw w.word-is (read_skip _ _ _ _ _ c.loop-sub.invariant (sym w.if-get.false ∙ bit))
    ]
