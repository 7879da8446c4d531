use Rattle.std.proofs.Common.{◌∙◌, arith}
use Rattle.cam_chain.proofs.SlicesLemmas.{columns-slices_of}
use Rattle.cam_chain.proofs.chain.ChainPlanes.bit.Goals as goal

pub get-requires : goal.get-requires
get-requires c = omega (arith, columns-slices_of c.args.self.now, c.row.ensures.len)

pub returns : goal.returns
returns c = c.get.ensures ∙ c.row.ensures.bits c.args.col (omega (arith, columns-slices_of c.args.self.now))
