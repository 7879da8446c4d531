use Rattle.std.proofs.Common.{arith, eq-eqb, w32}
use Rattle.std.proofs.lemmas.Nat.Bits.{bit_at-trailing_zeros}
use Rattle.cam_chain.proofs.subarray_sets.lowest_of.Goals as goal

pub returns-clause-within : goal.returns-clause-within
returns-clause-within c = (bit_at-trailing_zeros w32 c.args.subs (omega arith) c.ranges.subs.fits).0

pub returns-clause-chosen : goal.returns-clause-chosen
returns-clause-chosen c = eq-eqb _ 1 (bit_at-trailing_zeros w32 c.args.subs (omega arith) c.ranges.subs.fits).1
