use Rattle.std.proofs.Common.{◌∙◌, refl}
use Rattle.steer_net.specs.Rows.{is_one, mask_bit}
use Rattle.steer_net.proofs.Parts.{column_more}
use Rattle.steer_net.proofs.columns.write_row.Goals as goal

pub loop-col-preserved : goal.loop-col-preserved
loop-col-preserved g c =
    let p = c.loop-col.invariant in
    record {
      slices = c.write_column.ensures.slices ∙ rw p.slices (column_more c.args.row c.args.width c.args.first c.loop-col.col _ (is_one c.args.ones (mask_bit c.args.mask.now)) (g.P.Planes.slices c.args.p.now) (rw (c.from.ensures, c.from-in-loop-col.ensures, c.from-per_column.ensures) refl));
      searches = c.write_column.ensures.searches ∙ p.searches;
      updates = c.write_column.ensures.updates ∙ p.updates;
      passes = c.write_column.ensures.passes ∙ p.passes;
    }
