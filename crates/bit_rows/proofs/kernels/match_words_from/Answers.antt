use Rattle.std.proofs.Common.{arith, bit_xor}
use Rattle.bit_rows.specs.Words.{flip_of}
use Rattle.bit_rows.proofs.Words.{joined_first, first_bits}
use Rattle.bit_rows.proofs.kernels.match_words_from.Goals as goal

pub returns-then-into-eq1 : goal.returns-then-into-eq1
returns-then-into-eq1 c k l = rw c.flip_of.ensures (first_bits c.args.want 1 c.args.into.now c.args.row.now _ (joined_first (λ a b. bit_xor b (flip_of c.args.want)) c.args.into.now c.args.row.now (omega arith)) k (omega arith))
