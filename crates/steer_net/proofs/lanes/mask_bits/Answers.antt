use Rattle.std.proofs.Common.{◌≡◌, ◌+◌, ◌*◌, ◌&&◌, ltb, refl, sym, ◌∙◌, arith}
use Rattle.steer_net.specs.Network.{bit_in}
use Rattle.steer_net.proofs.LaneRows.{mask_start, mask_set, mask_clear}
use Rattle.steer_net.proofs.lanes.mask_bits.Goals as goal
use Rattle.steer_net.proofs.lanes.mask_bits.Goals.{then-mask_bit, else-mask_bit}

pub loop-col-init : goal.loop-col-init
loop-col-init g c = mask_start _ 32 0 refl refl

pub loop-col-preserved : goal.loop-col-preserved
loop-col-preserved g c =
    let s = g.P.Planes.slices c.args.p.now in
    let col = c.loop-col.col in
    let e = c.args.number + col * c.args.step in
    let told : c.mask_bit.result ≡ (ltb e (32 * s.columns) && bit_in s 0 e) = rw (← c.from.ensures) c.mask_bit.ensures in
    elim c.if-mask_bit.branch [
      | then-mask_bit w ↦ rw w.words-is (mask_set _ col c.loop-col.words c.loop-col.invariant (sym told ∙ w.if-mask_bit.true) (omega (arith, c.columns-col-end.ensures.few)))
      | else-mask_bit w ↦ rw w.words-is (mask_clear _ col c.loop-col.words c.loop-col.invariant (sym told ∙ w.if-mask_bit.false))
    ]
