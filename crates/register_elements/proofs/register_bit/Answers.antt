use Rattle.std.proofs.Common.{◌∙◌, arith}
use Rattle.cam_chain.specs.ChainValue.{slices_of}
use Rattle.register_elements.proofs.Bits.{bit-here}
use Rattle.register_elements.proofs.register_bit.Goals as goal

pub bit-requires-clause-column : goal.bit-requires-clause-column
unfolding slices_of
bit-requires-clause-column c = omega (arith, c.requires.place)

pub returns : goal.returns
unfolding slices_of
returns c = c.bit.ensures ∙ bit-here (slices_of c.args.chain.now) c.args.register c.args.e c.requires.register c.requires.place
