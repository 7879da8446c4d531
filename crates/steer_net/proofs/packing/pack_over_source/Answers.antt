use Rattle.std.proofs.Common.{cond, ◌-◌, ◌∙◌, ap}
use Rattle.steer_net.specs.Network.{is_packed, top_bit}
use Rattle.steer_net.specs.Rows.{mask_bit}
use Rattle.steer_net.proofs.Packed.{by_packed}
use Rattle.steer_net.proofs.packing.pack_over_source.Goals as goal

pub returns-clause-slices : goal.returns-clause-slices
returns-clause-slices g c =
    let s = g.P.Planes.slices c.args.p.now in
    c.write_words.ensures.slices
    ∙ by_packed c.args.from c.args.under c.args.to c.args.width c.args.first (mask_bit c.pack_words.new.words) s
    (λ i l. c.pack_words.ensures i ∙ ap (λ b. cond (is_packed c.args.under c.args.width c.args.first s i) (top_bit c.args.width s c.args.from (i - c.args.first)) b) (c.read_row.ensures i l))
