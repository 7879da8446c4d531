-- What a number of tags makes of a control number of 64 bits.
use Rattle.std.specs.Prelude.{ℕ, ◌+◌, ◌-◌, ◌*◌, ◌%◌, ◌^◌, cond}
use Rattle.std.specs.Int.{bit_at}
use lib.Dec.{ltb}
use Rattle.reduce_tree.specs.declared.weights.How.{How}
use Rattle.reduce_tree.specs.declared.weights.How.TheVariants.{Sum, Less, Or, Clear, Xor, Clip}

-- a number whose bit i becomes b, which is 0 or 1
abbrev pub bit_put : ℕ → ℕ → ℕ → ℕ
bit_put num i b = num - bit_at num i * 2 ^ i + b * 2 ^ i

-- Each of `count` tags stands for 2 ^ bit. A sum and a difference are taken modulo 2 ^ 64; an exclusive or makes the bit
-- the parity of itself and the count.
abbrev pub num_after : How → ℕ → ℕ → ℕ → ℕ
num_after Sum num count bit = (num + count * 2 ^ bit) % 2 ^ 64
num_after Less num count bit = (num + (2 ^ 64 - count * 2 ^ bit)) % 2 ^ 64
num_after Or num count bit = cond (ltb 0 count) (bit_put num bit 1) num
num_after Clear num count bit = cond (ltb 0 count) (bit_put num bit 0) num
num_after Xor num count bit = bit_put num bit ((bit_at num bit + count) % 2)
num_after Clip num count bit = num
