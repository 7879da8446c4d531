-- The kinds: their values, their operations with the rows of a place, and what these cost.
use Rattle.std.specs.Prelude.{ℕ, ◌+◌, ◌-◌, ◌*◌, ◌/◌, ◌^◌, ℤ, pos, ◌*ℤ◌, List}
use Rattle.std.specs.Int.{int_div_euclid}
use Rattle.bit_laws.specs.Numbers.{low}
use Rattle.bit_laws.specs.Signed.{signed}
use Rattle.cam_chain.specs.declared.counts.Counts.{Counts}
use Rattle.micro_ir.specs.Measures.{counts}
use Rattle.micro_ir.specs.Steps.{micros}
use Rattle.micro_ir.specs.declared.op.MicroOp.{MicroOp}
use Rattle.micro_ir.specs.declared.place.Place.{Place}
use Rattle.bit_laws.specs.Rounding.{low_int}
use Rattle.gen_mul.specs.declared.kinds.Product.{Product}
use Rattle.gen_mul.specs.declared.kinds.Product.TheVariants.{Mul, Mulhu, Mulhsu, Mulh, Macc, Nmsac}
use Rattle.gen_mul.specs.Lists.{product_steps}

-- a product with a sign over 2^w, rounded down, as w bits
abbrev pub high_part : (w : ℕ) → ℤ → ℕ
high_part w z = low_int w (int_div_euclid z (pos (2 ^ w)))

-- the high half of the product of two numbers with signs; and a number less a product, modulo 2^w
abbrev pub signed_high : (w a b : ℕ) → ℕ
signed_high w a b = high_part w (signed w a *ℤ signed w b)

abbrev pub less_product : (w a b addend : ℕ) → ℕ
less_product w a b addend = addend + (2 ^ w - low w (a * b))

-- the values of numbers of w bits, of which the low w bits count
abbrev pub product_value : Product → (w a b addend : ℕ) → ℕ
product_value Mul w a b addend = a * b
product_value Mulhu w a b addend = a * b / 2 ^ w
product_value Mulhsu w a b addend = high_part w (signed w a *ℤ pos b)
product_value Mulh w a b addend = signed_high w a b
product_value Macc w a b addend = a * b + addend
product_value Nmsac w a b addend = less_product w a b addend

abbrev pub product_ops : Product → (w : ℕ) → Place → List MicroOp
product_ops kind w at = micros w (product_steps kind w at.a at.b at.addend at.to)

abbrev pub product_counts : Product → (w : ℕ) → Counts
product_counts Mul w = counts (w * (15 * w + 10) + 4) (w * (3 * w + 10) + 4) (3 * w * w - w)
product_counts Mulhu w = counts (w * (15 * w + 10) + 4) (w * (3 * w + 10) + 4) (3 * w * w - w)
product_counts Mulhsu w = counts (w * (15 * w + 25) + 1) (w * (3 * w + 13) + 6) (w * (3 * w + 1) - 2)
product_counts Mulh w = counts (w * (15 * w + 40) - 2) (w * (3 * w + 16) + 8) (w * (3 * w + 3) - 4)
product_counts Macc w = counts (w * (15 * w + 18) + 2) (w * (3 * w + 12) + 5) (3 * w * w - 1)
product_counts Nmsac w = counts (w * (15 * w + 18) + 3) (w * (3 * w + 12) + 6) (3 * w * w - 1)

abbrev pub product_length : Product → (w : ℕ) → ℕ
product_length Mul w = w * (20 * w + 21) + 8
product_length Mulhu w = w * (20 * w + 21) + 8
product_length Mulhsu w = w * (20 * w + 41) + 5
product_length Mulh w = w * (20 * w + 61) + 2
product_length Macc w = w * (20 * w + 32) + 6
product_length Nmsac w = w * (20 * w + 32) + 8

-- their parts: a round, the product without a sign, and what a kind makes of it
abbrev pub round_length : (w : ℕ) → ℕ
round_length w = 20 * w + 21

abbrev pub multiplying_length : (w : ℕ) → ℕ
multiplying_length w = w * (20 * w + 21) + 4

abbrev pub correcting_length : (w : ℕ) → ℕ
correcting_length w = 20 * w - 3

abbrev pub adding_length : (w : ℕ) → ℕ
adding_length w = 11 * w - 2

abbrev pub taking_length : (w : ℕ) → ℕ
taking_length w = 11 * w

abbrev pub finishing_length : Product → (w : ℕ) → ℕ
finishing_length Mul w = 0
finishing_length Mulhu w = 0
finishing_length Mulhsu w = correcting_length w
finishing_length Mulh w = correcting_length w + correcting_length w
finishing_length Macc w = adding_length w
finishing_length Nmsac w = taking_length w
