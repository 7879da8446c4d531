use Rattle.std.proofs.Common.{sym, ◌∙◌}
use Rattle.steer_net.proofs.Mask.{read_set, read_skip}
use Rattle.steer_net.proofs.columns.row_word.Goals as goal
use Rattle.steer_net.proofs.columns.row_word.Goals.{then-bit, else-bit}

pub loop-sub-preserved : goal.loop-sub-preserved
loop-sub-preserved g c =
    elim c.if-bit.branch [
      | then-bit w ↦ rw w.word-is (read_set _ _ _ _ _ c.loop-sub.invariant c.loop-sub-test.true (sym w.if-bit.true ∙ c.bit.ensures))
      | else-bit w ↦ rw w.word-is (read_skip _ _ _ _ _ c.loop-sub.invariant (sym w.if-bit.false ∙ c.bit.ensures))
    ]
