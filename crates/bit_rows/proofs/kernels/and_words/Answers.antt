use Rattle.std.proofs.Common.{◌&&◌, refl, arith, bit_and}
use Rattle.bit_rows.proofs.Words.{joined_first, joined_bits, and_bit}
use Rattle.bit_rows.proofs.kernels.and_words.Goals as goal

pub returns-then-into-eq1 : goal.returns-then-into-eq1
returns-then-into-eq1 c = joined_bits bit_and (λ x y. x && y) 1 c.args.into.now c.args.with.now _ (joined_first bit_and c.args.into.now c.args.with.now (omega arith)) (omega arith) c.requires and_bit refl
