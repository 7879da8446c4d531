use Rattle.std.proofs.Common.{◌∙◌}
use Rattle.steer_net.specs.Rows.{is_one, mask_bit}
use Rattle.steer_net.proofs.Parts.{element_more}
use Rattle.steer_net.proofs.columns.write_column.Goals as goal

pub loop-k-preserved : goal.loop-k-preserved
loop-k-preserved g c =
    let p = c.loop-k.invariant in
    record {
      slices = c.write_element.ensures.slices ∙ rw p.slices (element_more c.args.row c.args.width c.args.col c.args.number c.loop-k.k c.hold-bit.result (is_one c.args.ones (mask_bit c.args.mask.now)) (g.P.Planes.slices c.args.p.now) (rw (← c.from.ensures) c.hold-bit.ensures));
      searches = c.write_element.ensures.searches ∙ p.searches;
      updates = c.write_element.ensures.updates ∙ p.updates;
      passes = c.write_element.ensures.passes ∙ p.passes;
    }
