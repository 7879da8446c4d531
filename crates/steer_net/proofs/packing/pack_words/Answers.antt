use Rattle.std.proofs.Common.{◌≡◌, ◌*◌, ◌/◌, refl, ◌∙◌, ap, arith}
use Rattle.steer_net.specs.Network.{top_bit}
use Rattle.steer_net.specs.Rows.{mask_bit}
use Rattle.steer_net.proofs.Packed.{packing, packing-more, packing-skip}
use Rattle.steer_net.proofs.packing.pack_words.Goals as goal
use Rattle.steer_net.proofs.packing.pack_words.Goals.{then-row_bit, else-row_bit}

pub loop-element-preserved : goal.loop-element-preserved
loop-element-preserved g c i =
    let s = g.P.Planes.slices c.args.p.now in
    let from = top_bit c.args.width s c.args.from in
    let under = top_bit c.args.width s c.args.under in
    let element = c.loop-element.element in
    let old = mask_bit c.args.words.now in
    let is_under : under element ≡ c.row_bit.result = rw (c.row_bit.ensures, c.from-in-loop-element.ensures, c.from-in-loop-element-2.ensures) refl in
    elim c.if-row_bit.branch [
      | then-row_bit w ↦
          let bit : w.row_bit-then-row_bit.result ≡ from element = rw (w.row_bit-then-row_bit.ensures, c.from-in-loop-element.ensures, c.from-in-loop-element-2.ensures) refl in
          rw (w.words-is, w.put_bit.ensures i, c.loop-element.invariant i) (packing-more from under c.args.first element old i _ (is_under ∙ w.if-row_bit.true) bit)
      | else-row_bit w ↦
          rw (w.words-is, c.loop-element.invariant i) (packing-skip from under c.args.first element old i (is_under ∙ w.if-row_bit.false))
    ]

pub returns : goal.returns
returns g c i =
    let s = g.P.Planes.slices c.args.p.now in
    let all : c.columns.result * c.from.result ≡ s.columns * (32 / c.args.width) = rw (c.columns.ensures.value, c.from.ensures) refl in
    let end : c.loop-element.element ≡ c.columns.result * c.from.result = let l = c.loop-element-test.false in let m = c.loop-element.auto.element-end in omega arith in
    c.loop-element.invariant i
    ∙ ap (λ n. packing (top_bit c.args.width s c.args.from) (top_bit c.args.width s c.args.under) c.args.first n (mask_bit c.args.words.now) i) (end ∙ all)
