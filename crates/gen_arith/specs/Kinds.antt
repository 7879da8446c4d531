-- The kinds: their tables, their values, their operations with the rows of a place, and what these cost.
use Rattle.std.specs.Prelude.{ℕ, ◌+◌, ◌-◌, ◌*◌, ◌^◌, Bool, true, false, cond, not, eqb, int_lt, int_le, List}
use Rattle.std.specs.Int.{from_bool}
use lib.Dec.{ltb, leb}
use Rattle.bit_laws.specs.Signed.{signed}
use Rattle.cam_chain.specs.declared.counts.Counts.{Counts}
use Rattle.micro_ir.specs.Measures.{counts}
use Rattle.micro_ir.specs.Steps.{micros}
use Rattle.micro_ir.specs.declared.op.MicroOp.{MicroOp}
use Rattle.micro_ir.specs.declared.place.Place.{Place}
use Rattle.gen_arith.specs.Recipes.{SumTables, sum_steps, add, sub, adc, sbc, TruthTables, truth_steps, madc, madc_in, msbc, msbc_in, eq, ne, ltu, lt, leu, le, gtu, gt, first_on, second_on, choice_steps}
use Rattle.gen_arith.specs.declared.kinds.Sum.{Sum}
use Rattle.gen_arith.specs.declared.kinds.Sum.TheVariants.{Add, Sub, Adc, Sbc}
use Rattle.gen_arith.specs.declared.kinds.Truth.{Truth}
use Rattle.gen_arith.specs.declared.kinds.Truth.TheVariants.{Madc, MadcIn, Msbc, MsbcIn, Eq, Ne, Ltu, Lt, Leu, Le, Gtu, Gt}
use Rattle.gen_arith.specs.declared.kinds.Choice.{Choice}
use Rattle.gen_arith.specs.declared.kinds.Choice.TheVariants.{Minu, Min, Maxu, Max}

-- ---- sums

abbrev pub sum_tables : Sum → SumTables
sum_tables Add = add
sum_tables Sub = sub
sum_tables Adc = adc
sum_tables Sbc = sbc

-- the mask is an operand
abbrev pub sum_takes_mask : Sum → Bool
sum_takes_mask Add = false
sum_takes_mask Sub = false
sum_takes_mask Adc = true
sum_takes_mask Sbc = true

-- the value of numbers of w bits and the mask bit, of which the low w bits count
abbrev pub sum_value : Sum → (w a b : ℕ) → Bool → ℕ
sum_value Add w a b m = a + b
sum_value Sub w a b m = a + (2 ^ w - b)
sum_value Adc w a b m = a + b + from_bool m
sum_value Sbc w a b m = a + (2 ^ w - (b + from_bool m))

abbrev pub sum_ops : Sum → (w : ℕ) → Place → List MicroOp
sum_ops kind w at = micros w (sum_steps (sum_tables kind) w at.a at.b at.to)

abbrev pub sum_counts : Sum → (w : ℕ) → Counts
sum_counts Add w = counts (8 * w) (2 * w + 3) (w - 1)
sum_counts _ w = counts (8 * w + 1) (2 * w + 4) (w - 1)

abbrev pub sum_length : Sum → (w : ℕ) → ℕ
sum_length Add w = 11 * w + 2
sum_length _ w = 11 * w + 4

-- ---- truths

abbrev pub truth_tables : Truth → TruthTables
truth_tables Madc = madc
truth_tables MadcIn = madc_in
truth_tables Msbc = msbc
truth_tables MsbcIn = msbc_in
truth_tables Eq = eq
truth_tables Ne = ne
truth_tables Ltu = ltu
truth_tables Lt = lt
truth_tables Leu = leu
truth_tables Le = le
truth_tables Gtu = gtu
truth_tables Gt = gt

abbrev pub truth_takes_mask : Truth → Bool
truth_takes_mask MadcIn = true
truth_takes_mask MsbcIn = true
truth_takes_mask _ = false

-- the truth of numbers of w bits and the mask bit
abbrev pub truth_value : Truth → (w a b : ℕ) → Bool → Bool
truth_value Madc w a b m = leb (2 ^ w) (a + b)
truth_value MadcIn w a b m = leb (2 ^ w) (a + b + from_bool m)
truth_value Msbc w a b m = ltb a b
truth_value MsbcIn w a b m = ltb a (b + from_bool m)
truth_value Eq w a b m = eqb a b
truth_value Ne w a b m = not (eqb a b)
truth_value Ltu w a b m = ltb a b
truth_value Lt w a b m = int_lt (signed w a) (signed w b)
truth_value Leu w a b m = leb a b
truth_value Le w a b m = int_le (signed w a) (signed w b)
truth_value Gtu w a b m = ltb b a
truth_value Gt w a b m = int_lt (signed w b) (signed w a)

abbrev pub truth_ops : Truth → (w : ℕ) → Place → List MicroOp
truth_ops kind w at = micros w (truth_steps (truth_tables kind) w at.a at.b)

abbrev pub truth_counts : Truth → (w : ℕ) → Counts
truth_counts MadcIn w = counts (4 * w + 3) (w + 3) (w - 1)
truth_counts MsbcIn w = counts (4 * w + 3) (w + 3) (w - 1)
truth_counts Eq w = counts (6 * w - 2) (w + 2) (w - 1)
truth_counts Ne w = counts (6 * w + 2) (w + 2) (w - 1)
truth_counts _ w = counts (4 * w + 2) (w + 2) (w - 1)

abbrev pub truth_length : Truth → (w : ℕ) → ℕ
truth_length MadcIn w = 6 * w + 5
truth_length MsbcIn w = 6 * w + 5
truth_length Eq w = 8 * w - 1
truth_length Ne w = 8 * w + 3
truth_length _ w = 6 * w + 3

-- ---- one of two

-- the comparison that decides, and the table of its truth and the two
abbrev pub order_of : Choice → Truth
order_of Minu = Ltu
order_of Min = Lt
order_of Maxu = Ltu
order_of Max = Lt

abbrev pub picks_of : Choice → List ℕ
picks_of Minu = first_on
picks_of Min = first_on
picks_of Maxu = second_on
picks_of Max = second_on

-- the lesser and the greater of two numbers, and of two of w bits with a sign
abbrev pub lesser : (a b : ℕ) → ℕ
lesser a b = cond (ltb a b) a b

abbrev pub greater : (a b : ℕ) → ℕ
greater a b = cond (ltb a b) b a

abbrev pub signed_lesser : (w a b : ℕ) → ℕ
signed_lesser w a b = cond (int_lt (signed w a) (signed w b)) a b

abbrev pub signed_greater : (w a b : ℕ) → ℕ
signed_greater w a b = cond (int_lt (signed w a) (signed w b)) b a

abbrev pub choice_value : Choice → (w a b : ℕ) → ℕ
choice_value Minu w a b = lesser a b
choice_value Min w a b = signed_lesser w a b
choice_value Maxu w a b = greater a b
choice_value Max w a b = signed_greater w a b

abbrev pub choice_ops : Choice → (w : ℕ) → Place → List MicroOp
choice_ops kind w at = micros w (choice_steps (truth_tables (order_of kind)) (picks_of kind) w at.a at.b at.to)

abbrev pub choice_counts : (w : ℕ) → Counts
choice_counts w = counts (5 * w + 8) (2 * w + 5) (2 * (w - 1))

abbrev pub choice_length : (w : ℕ) → ℕ
choice_length w = 9 * w + 11
