use Rattle.std.proofs.Common.{◌∙◌, sym, arith}
use Rattle.cam_chain.specs.ChainValue.{slices_of}
use Rattle.cam_chain.proofs.SlicesLemmas.{columns-slices_of}
use Rattle.register_bytes.proofs.Reading.{read-more, read-all}
use Rattle.register_bytes.proofs.read_register.Goals as goal

pub loop-place-init : goal.loop-place-init
loop-place-init c = λ j below inside. absurd (omega arith)

pub loop-place-preserved : goal.loop-place-preserved
loop-place-preserved c =
    read-more (slices_of c.args.chain.now) c.args.register c.loop-place.place c.args.chain.now.columns c.read_lane-lane.result c.loop-place.into c.scatter.new.into
    c.read_lane-lane.ensures.bytes (λ k inside. c.scatter.ensures.at k (omega (arith, c.columns-columns.ensures.value))) c.scatter.ensures.others c.loop-place.invariant

pub returns : goal.returns
returns c =
    read-all (slices_of c.args.chain.now) c.args.register c.args.chain.now.columns c.loop-place.into (sym (columns-slices_of c.args.chain.now)) (c.loop-place.auto.into ∙ c.requires.all)
    (λ j below. c.loop-place.invariant j (omega arith) below)
