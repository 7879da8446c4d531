use Rattle.std.proofs.Common.{◌&&◌, refl, sym, arith, bit_and, bit_xor}
use mathlib.Core.Bool.{beq}
use Rattle.bit_rows.specs.Words.{flip_of}
use Rattle.bit_rows.proofs.Words.{joined_first, joined_bits, match_bit}
use Rattle.bit_rows.proofs.kernels.match_words.Goals as goal

pub returns-then-into-eq1 : goal.returns-then-into-eq1
returns-then-into-eq1 c = rw c.flip_of.ensures (joined_bits (λ a b. bit_and a (bit_xor b (flip_of c.args.want))) (λ x y. x && beq y c.args.want) 1 c.args.into.now c.args.row.now _
    (joined_first (λ a b. bit_and a (bit_xor b (flip_of c.args.want))) c.args.into.now c.args.row.now (omega arith)) (omega arith) (sym c.requires) (match_bit c.args.want) refl)
