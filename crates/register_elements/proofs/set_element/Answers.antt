use Rattle.cam_chain.specs.ChainValue.{slices_of}
use Rattle.cam_chain.proofs.Registers.{element_written}
use Rattle.register_elements.proofs.set_element.Goals as goal

pub returns-clause-vectors : goal.returns-clause-vectors
unfolding slices_of
returns-clause-vectors c =
    (element_written (slices_of c.args.chain.now) (slices_of c.write_word.new.self) c.columns-columns.result c.args.first c.args.size c.args.at c.args.value c.read_word-old.result c.put_part-new.result c.columns-columns.ensures.value c.columns-columns.ensures.some c.requires.size c.requires.register c.requires.place c.read_word-old.ensures c.put_part-new.ensures c.write_word.ensures.slices).0

pub returns-clause-rest : goal.returns-clause-rest
unfolding slices_of
returns-clause-rest c =
    (element_written (slices_of c.args.chain.now) (slices_of c.write_word.new.self) c.columns-columns.result c.args.first c.args.size c.args.at c.args.value c.read_word-old.result c.put_part-new.result c.columns-columns.ensures.value c.columns-columns.ensures.some c.requires.size c.requires.register c.requires.place c.read_word-old.ensures c.put_part-new.ensures c.write_word.ensures.slices).1
