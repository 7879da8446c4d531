use Rattle.std.proofs.Common.{rules}
use Rattle.cam_chain.proofs.SlicesLemmas.{columns-slices_of}
use Rattle.cam_chain.proofs.chain.ChainPlanes.columns.Goals as goal

pub returns-clause-value : goal.returns-clause-value
returns-clause-value c = let e = columns-slices_of c.args.self.now in search rules
