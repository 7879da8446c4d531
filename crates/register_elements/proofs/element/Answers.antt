use Rattle.std.proofs.Common.{◌∙◌}
use Rattle.cam_chain.specs.ChainValue.{slices_of}
use Rattle.cam_chain.proofs.Registers.{element_read}
use Rattle.register_elements.proofs.element.Goals as goal

pub returns : goal.returns
unfolding slices_of
returns c =
    c.part_of.ensures ∙ element_read (slices_of c.args.chain.now) c.columns-columns.result c.args.first c.args.size c.args.at c.read_word.result c.columns-columns.ensures.value c.columns-columns.ensures.some c.requires.size c.requires.register c.requires.place c.read_word.ensures
