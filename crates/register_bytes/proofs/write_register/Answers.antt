use Rattle.std.proofs.Common.{◌*◌, refl, ◌∙◌, arith}
use Rattle.cam_chain.specs.ChainValue.{slices_of}
use Rattle.cam_chain.proofs.SlicesLemmas.{columns-slices_of}
use Rattle.register_bytes.proofs.Writing.{bit_of_bytes, bits-start, lane-more, lanes-all}
use Rattle.register_bytes.proofs.write_register.Goals as goal

pub loop-place-init : goal.loop-place-init
loop-place-init c = record {
  slices = bits-start 0 (8 * 0) c.args.register (bit_of_bytes c.args.bytes.now) (slices_of c.args.chain.now) (omega arith);
  columns = refl;
  counts = refl;
}

pub loop-place-preserved : goal.loop-place-preserved
loop-place-preserved c =
    let p = c.loop-place.invariant in
    record {
      slices = lane-more c.loop-place.place c.args.register c.gather-lane.result c.args.bytes.now (slices_of c.args.chain.now) (slices_of c.loop-place.chain) (slices_of c.write_lane.new.chain) p.slices c.write_lane.ensures.slices
          (λ k inside. c.gather-lane.ensures.inside k (omega (arith, columns-slices_of c.args.chain.now)));
      columns = c.write_lane.ensures.columns ∙ p.columns;
      counts = c.write_lane.ensures.counts ∙ p.counts;
    }

pub returns-clause-vectors : goal.returns-clause-vectors
returns-clause-vectors c =
    (lanes-all c.loop-place.place c.args.register c.args.bytes.now (slices_of c.args.chain.now) (slices_of c.loop-place.chain) (omega arith) c.requires.register (λ k. (c.type_inv.bytes k).fits) c.loop-place.invariant.slices).0

pub returns-clause-rest : goal.returns-clause-rest
returns-clause-rest c =
    (lanes-all c.loop-place.place c.args.register c.args.bytes.now (slices_of c.args.chain.now) (slices_of c.loop-place.chain) (omega arith) c.requires.register (λ k. (c.type_inv.bytes k).fits) c.loop-place.invariant.slices).1
