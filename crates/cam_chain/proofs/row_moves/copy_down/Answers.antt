use Rattle.std.proofs.Common.{◌≡◌, ◌∙◌, ap, arith, set}
use Rattle.cam_chain.proofs.Rows.{set-below, lent_above}
use Rattle.cam_chain.proofs.row_moves.copy_down.Goals as goal

pub returns : goal.returns
returns c =
    let s = c.split_at_mut-below.ensures in
    set-below c.args.rows.now c.split_at_mut-below.result.0.now c.split_at_mut-below.result.1.now c.args.to c.copy_from.new.self s.value (omega (arith, s.front_len))
    ∙ ap (set c.args.rows.now c.args.to) (c.copy_from.ensures.bits ∙ lent_above c.args.rows.now c.split_at_mut-below.result.0.now c.split_at_mut-below.result.1.now c.args.from c.index-above-0.result s.value s.front_len (omega (arith, s.back_len)))
