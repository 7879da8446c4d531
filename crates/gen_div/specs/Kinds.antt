-- The kinds: their values, their operations with the rows of a place, and what these cost.
use Rattle.std.specs.Prelude.{ℕ, ◌+◌, ◌-◌, ◌*◌, ◌/◌, ◌%◌, ◌^◌, cond, eqb, int_div, int_rem, List}
use Rattle.bit_laws.specs.Signed.{signed}
use Rattle.cam_chain.specs.declared.counts.Counts.{Counts}
use Rattle.micro_ir.specs.Measures.{counts}
use Rattle.micro_ir.specs.Steps.{micros}
use Rattle.micro_ir.specs.declared.op.MicroOp.{MicroOp}
use Rattle.micro_ir.specs.declared.place.Place.{Place}
use Rattle.bit_laws.specs.Rounding.{low_int}
use Rattle.gen_div.specs.declared.kinds.Division.{Division}
use Rattle.gen_div.specs.declared.kinds.Division.TheVariants.{Divu, Remu, Div, Rem}
use Rattle.gen_div.specs.Lists.{division_steps}

-- The quotient and the remainder of numbers of w bits, without signs and with them. By 0 the quotient is all ones, and the
-- remainder the dividend.
abbrev pub quotient : (w a b : ℕ) → ℕ
quotient w a b = cond (eqb b 0) (2 ^ w - 1) (a / b)

abbrev pub remainder : (w a b : ℕ) → ℕ
remainder w a b = cond (eqb b 0) a (a % b)

abbrev pub signed_quotient_of : (w a b : ℕ) → ℕ
signed_quotient_of w a b = cond (eqb b 0) (2 ^ w - 1) (low_int w (int_div (signed w a) (signed w b)))

abbrev pub signed_remainder : (w a b : ℕ) → ℕ
signed_remainder w a b = cond (eqb b 0) a (low_int w (int_rem (signed w a) (signed w b)))

abbrev pub division_value : Division → (w a b : ℕ) → ℕ
division_value Divu w a b = quotient w a b
division_value Remu w a b = remainder w a b
division_value Div w a b = signed_quotient_of w a b
division_value Rem w a b = signed_remainder w a b

abbrev pub division_ops : Division → (w : ℕ) → Place → List MicroOp
division_ops kind w at = micros w (division_steps kind w at.a at.b at.to)

abbrev pub division_counts : Division → (w : ℕ) → Counts
division_counts Divu w = counts (w * (9 * w + 19) + 5) (w * (3 * w + 14) + 5) (3 * w * w - w)
division_counts Remu w = counts (w * (9 * w + 19) + 5) (w * (3 * w + 14) + 5) (3 * w * w - w)
division_counts Div w = counts (w * (9 * w + 43) + 11) (w * (3 * w + 24) + 14) (w * (3 * w + 6) - 7)
division_counts Rem w = counts (w * (9 * w + 40) + 11) (w * (3 * w + 23) + 14) (w * (3 * w + 5) - 6)

abbrev pub division_length : Division → (w : ℕ) → ℕ
division_length Divu w = w * (14 * w + 34) + 10
division_length Remu w = w * (14 * w + 34) + 10
division_length Div w = w * (14 * w + 75) + 18
division_length Rem w = w * (14 * w + 70) + 19

-- their parts
abbrev pub choosing_length : (w : ℕ) → ℕ
choosing_length w = 3 * w + 12

abbrev pub round_length : (w : ℕ) → ℕ
round_length w = 14 * w + 34

abbrev pub dividing_length : (w : ℕ) → ℕ
dividing_length w = w * (14 * w + 34) + 6

abbrev pub negating_length : (w : ℕ) → ℕ
negating_length w = 9 * w + 2

abbrev pub by_sign_length : (w : ℕ) → ℕ
by_sign_length w = 12 * w + 3

abbrev pub magnitudes_length : (w : ℕ) → ℕ
magnitudes_length w = w * (14 * w + 58) + 12

abbrev pub gathering_length : (w : ℕ) → ℕ
gathering_length w = (w - 1) * 5

abbrev pub signs_length : (w : ℕ) → ℕ
signs_length w = 8 * w

abbrev pub quotient_length : (w : ℕ) → ℕ
quotient_length w = 17 * w + 2

abbrev pub starting_length : Division → (w : ℕ) → ℕ
starting_length Divu w = dividing_length w
starting_length Remu w = dividing_length w
starting_length Div w = magnitudes_length w
starting_length Rem w = magnitudes_length w

abbrev pub finishing_length : Division → (w : ℕ) → ℕ
finishing_length Divu w = 0
finishing_length Remu w = 0
finishing_length Div w = quotient_length w
finishing_length Rem w = by_sign_length w
