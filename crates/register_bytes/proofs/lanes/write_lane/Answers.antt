use Rattle.std.proofs.Common.{◌+◌, ◌*◌, ◌%◌, take, get_or, refl, sym, ◌∙◌, arith}
use Rattle.bit_laws.specs.Numbers.{bit_of}
use Rattle.cam_chain.specs.ChainValue.{slices_of}
use Rattle.cam_chain.proofs.SlicesLemmas.{columns-slices_of}
use Rattle.register_bytes.proofs.Writing.{bits-start, subarray-more, columns-stay, counts-stay}
use Rattle.register_bytes.proofs.Planes.{words-long, words-trimmed, words-bits}
use Rattle.register_bytes.proofs.lanes.write_lane.Goals as goal

pub loop-bit-init : goal.loop-bit-init
loop-bit-init c = record {
  slices = bits-start (8 * c.args.place) (8 * c.args.place + 0) c.args.register (λ sub k. bit_of (get_or c.args.lane.now k 0) (sub % 8)) (slices_of c.args.chain.now) (omega arith);
  columns = refl;
  counts = refl;
}

pub set_words-requires-clause-len : goal.set_words-requires-clause-len
set_words-requires-clause-len c =
    words-long c.columns.result c.div_ceil-count.result _ c.plane_of-words.result c.plane_of-words.ensures.all c.columns.ensures.few c.div_ceil-count.ensures
    (columns-slices_of c.loop-bit.chain ∙ c.loop-bit.invariant.columns ∙ sym c.columns.ensures.value)

pub set_words-requires-clause-trimmed : goal.set_words-requires-clause-trimmed
set_words-requires-clause-trimmed c =
    words-trimmed c.columns.result c.div_ceil-count.result (slices_of c.loop-bit.chain).columns c.loop-bit.bit c.plane_of-words.result c.args.lane.now c.plane_of-words.ensures.bits
    (λ k above. c.requires.past k (omega (arith, c.columns.ensures.value))) c.div_ceil-count.ensures
    (columns-slices_of c.loop-bit.chain ∙ c.loop-bit.invariant.columns ∙ sym c.columns.ensures.value)

pub loop-bit-preserved : goal.loop-bit-preserved
loop-bit-preserved c =
    let p = c.loop-bit.invariant in
    let e = c.set_words.ensures in
    let at = 8 * c.args.place + c.loop-bit.bit in
    let words = take c.div_ceil-count.result c.plane_of-words.result in
    record {
      slices = subarray-more (8 * c.args.place) c.loop-bit.bit c.args.register words (λ sub k. bit_of (get_or c.args.lane.now k 0) (sub % 8)) (slices_of c.args.chain.now) (slices_of c.loop-bit.chain) (slices_of c.set_words.new.self) p.slices e.slices
          (words-bits c.columns.result c.div_ceil-count.result c.args.place c.loop-bit.bit c.plane_of-words.result c.args.lane.now c.plane_of-words.ensures.bits (λ k above. c.requires.past k (omega (arith, c.columns.ensures.value))) c.div_ceil-count.ensures c.loop-bit-test.true);
      columns = columns-stay c.loop-bit.chain c.set_words.new.self at c.args.register words e.slices ∙ p.columns;
      counts = counts-stay c.set_words.new.self.counts c.loop-bit.chain.counts e.searches e.updates e.passes ∙ p.counts;
    }
