use Rattle.std.proofs.Common.{◌≡◌, ◌*◌, refl, ◌∙◌, arith}
use Rattle.cam_chain.specs.ChainValue.{slices_of}
use Rattle.vec_mem.specs.Steps.{ones_of}
use Rattle.vec_mem.specs.Views.{vectors_of}
use Rattle.vec_mem.proofs.Numbering.{keeps-all, keeps-twice}
use Rattle.vec_mem.proofs.Loading.{fields-room, as-all-written}
use Rattle.vec_mem.proofs.Looping.{filled-more, filled-none}
use Rattle.vec_mem.proofs.loads.fill_tail.Goals as goal

pub per_field-per-requires-clause-short : goal.per_field-per-requires-clause-short
per_field-per-requires-clause-short c = c.requires.fits.vlen

pub loop-e-init : goal.loop-e-init
loop-e-init c = record {
  vectors = filled-none c.args.cfg.now c.args.access.now (vectors_of c.args.chain.now) _ (omega arith);
  rest = keeps-all (slices_of c.args.chain.now);
  columns = refl;
  counts = refl;
}

pub fill_fields-requires-clause-small : goal.fill_fields-requires-clause-small
fill_fields-requires-clause-small c =
    (fields-room c.args.cfg.now c.args.access.now c.args.chain.now.columns c.field_size-size.result c.per_field-per.result c.requires.columns c.requires.fits c.field_size-size.ensures c.per_field-per.ensures).1

pub fill_fields-requires-clause-room : goal.fill_fields-requires-clause-room
fill_fields-requires-clause-room c =
    rw c.loop-e.invariant.columns ((fields-room c.args.cfg.now c.args.access.now c.args.chain.now.columns c.field_size-size.result c.per_field-per.result c.requires.columns c.requires.fits c.field_size-size.ensures c.per_field-per.ensures).0)

pub loop-e-preserved : goal.loop-e-preserved
loop-e-preserved c =
    let p = c.loop-e.invariant in
    let vlen : c.args.cfg.now.vlen ≡ 32 * c.loop-e.chain.columns = omega (arith, c.requires.columns, p.columns) in
    let written = as-all-written c.args.cfg.now c.args.access.now c.loop-e.chain.columns c.field_size-size.result c.per_field-per.result c.loop-e.e (vectors_of c.loop-e.chain) (ones_of (8 * c.field_size-size.result)) vlen c.requires.fits c.field_size-size.ensures c.per_field-per.ensures in
    let width : 8 * c.field_size-size.result ≡ c.args.access.now.width = rw c.field_size-size.ensures c.requires.fits.whole in
    record {
      vectors = filled-more c.args.cfg.now c.args.access.now (vectors_of c.args.chain.now) (vectors_of c.loop-e.chain) (vectors_of c.fill_fields.new.chain) c.loop-e.e (omega arith) p.vectors (c.fill_fields.ensures.vectors ∙ written ∙ rw width refl);
      rest = keeps-twice (slices_of c.args.chain.now) (slices_of c.loop-e.chain) (slices_of c.fill_fields.new.chain) p.rest c.fill_fields.ensures.rest;
      columns = c.fill_fields.ensures.columns ∙ p.columns;
      counts = c.fill_fields.ensures.counts ∙ p.counts;
    }
