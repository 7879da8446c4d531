use Rattle.std.proofs.Common.{◌≡◌, ◌∙◌, ap, arith, set}
use Rattle.cam_chain.proofs.Rows.{set-above, lent_below}
use Rattle.cam_chain.proofs.row_moves.copy_up.Goals as goal

pub returns : goal.returns
returns c =
    let s = c.split_at_mut-below.ensures in
    set-above c.args.rows.now _ _ c.args.to c.copy_from.new.self s.value s.front_len
    ∙ ap (set c.args.rows.now c.args.to) (c.copy_from.ensures.bits ∙ lent_below c.args.rows.now _ _ c.args.from c.index-below-from.result s.value (omega (arith, s.front_len)))
