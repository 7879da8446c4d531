-- The laws of the families, kind by kind.
use Rattle.std.proofs.Common.{◌≡◌, ◌≢◌, ℕ, ◌+◌, ◌*◌, ◌-◌, ◌<◌, ◌≤◌, Bool, [], ◌∷◌, length, refl, ◌∙◌, arith}
use Rattle.micro_ir.specs.Measures.{Measured}
use Rattle.micro_ir.specs.WorkRows.{IsOperandRow, carry_row, result_row, truth_row}
use Rattle.micro_ir.specs.declared.place.Place.{Place}
use Rattle.micro_ir.proofs.Measuring.{measured-as}
use Rattle.gen_arith.specs.declared.kinds.Sum.{Sum}
use Rattle.gen_arith.specs.declared.kinds.Sum.TheVariants.{Add, Sub, Adc, Sbc}
use Rattle.gen_arith.specs.declared.kinds.Truth.{Truth}
use Rattle.gen_arith.specs.declared.kinds.Truth.TheVariants.{Madc, MadcIn, Msbc, MsbcIn, Eq, Ne, Ltu, Lt, Leu, Le, Gtu, Gt}
use Rattle.gen_arith.specs.declared.kinds.Choice.{Choice}
use Rattle.gen_arith.specs.declared.kinds.Choice.TheVariants.{Minu, Min, Maxu, Max}
use Rattle.gen_arith.specs.Kinds.{sum_tables, sum_ops, sum_counts, sum_length, truth_tables, truth_ops, truth_counts, truth_length, order_of, picks_of, choice_ops, choice_counts, choice_length}
use Rattle.gen_arith.specs.Laws.{Apart, RealisesSum, TellsTruth, RealisesChoice}
use Rattle.gen_arith.proofs.Costs.{add-measured, sub-measured, adc-measured, sbc-measured, madc-measured, madc_in-measured, msbc-measured, msbc_in-measured, eq-measured, ne-measured, ltu-measured, lt-measured, leu-measured, le-measured, gtu-measured, gt-measured, minu-measured, min-measured, maxu-measured, max-measured}
use Rattle.gen_arith.proofs.Sums.{add-numbers, sub-numbers, adc-numbers, sbc-numbers}
use Rattle.gen_arith.proofs.Truths.{madc-tells, madc_in-tells, msbc-tells, msbc_in-tells, eq-tells, ne-tells, ltu-tells, lt-tells, leu-tells, le-tells, gtu-tells, gt-tells}
use Rattle.gen_arith.proofs.Choices.{minu-numbers, min-numbers, maxu-numbers, max-numbers}

pub sum-realises : (kind : Sum) (w : ℕ) (at : Place) → 0 < w → Apart carry_row result_row (at.a ∷ at.b ∷ []) → at.to < 32 → RealisesSum kind w at
sum-realises Add w at some rows register reads = add-numbers w at.a at.b at.to reads some rows register
sum-realises Sub w at some rows register reads = sub-numbers w at.a at.b at.to reads some rows register
sum-realises Adc w at some rows register reads = adc-numbers w at.a at.b at.to some rows register
sum-realises Sbc w at some rows register reads = sbc-numbers w at.a at.b at.to some rows register

pub sum-measured : (kind : Sum) (w : ℕ) (at : Place) → 0 < w → at.to < 32 → Measured (sum_counts kind w) (sum_length kind w) (sum_ops kind w at)
sum-measured Add w at some register = measured-as _ _ _ _ (omega arith) (add-measured w at.a at.b at.to some register)
sum-measured Sub w at some register = measured-as _ _ _ _ (omega arith) (sub-measured w at.a at.b at.to some register)
sum-measured Adc w at some register = measured-as _ _ _ _ (omega arith) (adc-measured w at.a at.b at.to some register)
sum-measured Sbc w at some register = measured-as _ _ _ _ (omega arith) (sbc-measured w at.a at.b at.to some register)

pub truth-tells : (kind : Truth) (w : ℕ) (at : Place) → 0 < w → Apart carry_row truth_row (at.a ∷ at.b ∷ []) → TellsTruth kind w at
truth-tells Madc w at some rows reads = madc-tells w at.a at.b reads some rows
truth-tells MadcIn w at some rows reads = madc_in-tells w at.a at.b some rows
truth-tells Msbc w at some rows reads = msbc-tells w at.a at.b reads some rows
truth-tells MsbcIn w at some rows reads = msbc_in-tells w at.a at.b some rows
truth-tells Eq w at some rows reads = eq-tells w at.a at.b reads some rows
truth-tells Ne w at some rows reads = ne-tells w at.a at.b reads some rows
truth-tells Ltu w at some rows reads = ltu-tells w at.a at.b reads some rows
truth-tells Lt w at some rows reads = lt-tells w at.a at.b reads some rows
truth-tells Leu w at some rows reads = leu-tells w at.a at.b reads some rows
truth-tells Le w at some rows reads = le-tells w at.a at.b reads some rows
truth-tells Gtu w at some rows reads = gtu-tells w at.a at.b reads some rows
truth-tells Gt w at some rows reads = gt-tells w at.a at.b reads some rows

pub truth-measured : (kind : Truth) (w : ℕ) (at : Place) → 0 < w → Measured (truth_counts kind w) (truth_length kind w) (truth_ops kind w at)
truth-measured Madc w at some = measured-as _ _ _ _ (omega arith) (madc-measured w at.a at.b some)
truth-measured MadcIn w at some = measured-as _ _ _ _ (omega arith) (madc_in-measured w at.a at.b some)
truth-measured Msbc w at some = measured-as _ _ _ _ (omega arith) (msbc-measured w at.a at.b some)
truth-measured MsbcIn w at some = measured-as _ _ _ _ (omega arith) (msbc_in-measured w at.a at.b some)
truth-measured Eq w at some = measured-as _ _ _ _ (omega arith) (eq-measured w at.a at.b some)
truth-measured Ne w at some = measured-as _ _ _ _ (omega arith) (ne-measured w at.a at.b some)
truth-measured Ltu w at some = measured-as _ _ _ _ (omega arith) (ltu-measured w at.a at.b some)
truth-measured Lt w at some = measured-as _ _ _ _ (omega arith) (lt-measured w at.a at.b some)
truth-measured Leu w at some = measured-as _ _ _ _ (omega arith) (leu-measured w at.a at.b some)
truth-measured Le w at some = measured-as _ _ _ _ (omega arith) (le-measured w at.a at.b some)
truth-measured Gtu w at some = measured-as _ _ _ _ (omega arith) (gtu-measured w at.a at.b some)
truth-measured Gt w at some = measured-as _ _ _ _ (omega arith) (gt-measured w at.a at.b some)

pub choice-realises : (kind : Choice) (w : ℕ) (at : Place) → 0 < w → Apart carry_row truth_row (at.a ∷ at.b ∷ []) → at.a ≢ result_row → at.b ≢ result_row → at.to < 32
    → RealisesChoice kind w at
choice-realises Minu w at some rows first second register reads = minu-numbers w at.a at.b at.to reads some rows first second register
choice-realises Min w at some rows first second register reads = min-numbers w at.a at.b at.to reads some rows first second register
choice-realises Maxu w at some rows first second register reads = maxu-numbers w at.a at.b at.to reads some rows first second register
choice-realises Max w at some rows first second register reads = max-numbers w at.a at.b at.to reads some rows first second register

pub choice-measured : (kind : Choice) (w : ℕ) (at : Place) → 0 < w → at.to < 32 → Measured (choice_counts w) (choice_length w) (choice_ops kind w at)
choice-measured Minu w at some register = measured-as _ _ _ _ (omega arith) (minu-measured w at.a at.b at.to some register)
choice-measured Min w at some register = measured-as _ _ _ _ (omega arith) (min-measured w at.a at.b at.to some register)
choice-measured Maxu w at some register = measured-as _ _ _ _ (omega arith) (maxu-measured w at.a at.b at.to some register)
choice-measured Max w at some register = measured-as _ _ _ _ (omega arith) (max-measured w at.a at.b at.to some register)

-- ---- the sizes of the tables

-- the tables of a sum have four values each; and what it carries into the lowest bit, and what that takes
pub sum-digits : (kind : Sum) → length (sum_tables kind).digits ≡ 4
sum-digits Add = refl
sum-digits Sub = refl
sum-digits Adc = refl
sum-digits Sbc = refl

pub sum-carries : (kind : Sum) → length (sum_tables kind).carries ≡ 4
sum-carries Add = refl
sum-carries Sub = refl
sum-carries Adc = refl
sum-carries Sbc = refl

pub picks-four : (kind : Choice) → length (picks_of kind) ≡ 4
picks-four Minu = refl
picks-four Min = refl
picks-four Maxu = refl
picks-four Max = refl

-- no list of a kind is longer
pub sum-few : (kind : Sum) (w : ℕ) → sum_length kind w ≤ 11 * w + 4
sum-few Add w = omega arith
sum-few _ w = omega arith

pub truth-few : (kind : Truth) (w : ℕ) → truth_length kind w ≤ 8 * w + 5
truth-few MadcIn w = omega arith
truth-few MsbcIn w = omega arith
truth-few Eq w = omega arith
truth-few Ne w = omega arith
truth-few _ w = omega arith

-- the operations of a list, part by part
pub sum-size : (kind : Sum) (w : ℕ) → 11 * w + 2 + 2 * length (sum_tables kind).from_on ≡ sum_length kind w
sum-size Add w = omega arith
sum-size Sub w = omega arith
sum-size Adc w = omega arith
sum-size Sbc w = omega arith

pub truth-size : (kind : Truth) (w : ℕ) → 0 < w
    → 5 + 2 * length (truth_tables kind).from_on + (w - 1) * (length (truth_tables kind).carries + 2) + length (truth_tables kind).last ≡ truth_length kind w
truth-size Madc w some = omega arith
truth-size MadcIn w some = omega arith
truth-size Msbc w some = omega arith
truth-size MsbcIn w some = omega arith
truth-size Eq w some = omega arith
truth-size Ne w some = omega arith
truth-size Ltu w some = omega arith
truth-size Lt w some = omega arith
truth-size Leu w some = omega arith
truth-size Le w some = omega arith
truth-size Gtu w some = omega arith
truth-size Gt w some = omega arith

pub carries-some : (kind : Truth) → 0 < length (truth_tables kind).carries
carries-some Madc = omega arith
carries-some MadcIn = omega arith
carries-some Msbc = omega arith
carries-some MsbcIn = omega arith
carries-some Eq = omega arith
carries-some Ne = omega arith
carries-some Ltu = omega arith
carries-some Lt = omega arith
carries-some Leu = omega arith
carries-some Le = omega arith
carries-some Gtu = omega arith
carries-some Gt = omega arith

pub last-some : (kind : Truth) → 0 < length (truth_tables kind).last
last-some Madc = omega arith
last-some MadcIn = omega arith
last-some Msbc = omega arith
last-some MsbcIn = omega arith
last-some Eq = omega arith
last-some Ne = omega arith
last-some Ltu = omega arith
last-some Lt = omega arith
last-some Leu = omega arith
last-some Le = omega arith
last-some Gtu = omega arith
last-some Gt = omega arith

pub order-size : (kind : Choice) (w : ℕ) → truth_length (order_of kind) w ≡ 6 * w + 3
order-size Minu w = refl
order-size Min w = refl
order-size Maxu w = refl
order-size Max w = refl
