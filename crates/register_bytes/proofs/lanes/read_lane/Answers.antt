use Rattle.std.proofs.Common.{ℕ, ◌∙◌, ◌+◌, ◌*◌, get_or, refl, arith}
use Rattle.std.proofs.lemmas.Simd.{length-replicate}
use Rattle.bit_rows.specs.Words.{word_bit}
use Rattle.cam_chain.specs.ChainValue.{slices_of}
use Rattle.cam_chain.proofs.SlicesLemmas.{columns-slices_of}
use Rattle.register_bytes.proofs.Planes.{zeros}
use Rattle.register_bytes.proofs.Adding.{small-more, number-more}
use Rattle.register_bytes.proofs.lanes.read_lane.Goals as goal

pub loop-bit-init : goal.loop-bit-init
loop-bit-init c = record {
  len = length-replicate {A = ℕ} 2048 0;
  small = λ k. omega (arith, zeros 2048 0 k refl);
  done = λ k below. zeros 2048 0 k refl;
}

pub loop-bit-preserved : goal.loop-bit-preserved
loop-bit-preserved c = record {
  len = c.add_plane.auto.lane ∙ c.loop-bit.invariant.len;
  small = λ k. small-more (get_or c.loop-bit.lane k 0) (get_or c.add_plane.new.lane k 0) c.loop-bit.bit (word_bit c.words.result.now k) (c.loop-bit.invariant.small k) (c.add_plane.ensures k);
  done = λ k below.
      number-more c.loop-bit.bit (get_or c.loop-bit.lane k 0) (get_or c.add_plane.new.lane k 0) (word_bit c.words.result.now k) (λ b. (slices_of c.args.chain.now).bit (8 * c.args.place + b) c.args.register k)
      (c.loop-bit.invariant.done k below) (c.add_plane.ensures k) (c.words.ensures.bits k (omega (arith, columns-slices_of c.args.chain.now)));
}
