-- The laws of the kinds.
use Rattle.std.proofs.Common.{◌≡◌, ℕ, ◌^◌, ◌<◌, Bool, true, false, ◌++◌, refl, sym, ◌∙◌, ap, arith}
use Rattle.std.proofs.Math.Nat.{mod-eq_of_lt}
use Rattle.std.proofs.lemmas.Nat.{mod-mul-add}
use Rattle.bit_laws.specs.Numbers.{number, low}
use Rattle.bit_laws.proofs.Numbers.{number-lt}
use Rattle.micro_ir.specs.Steps.{steps_on}
use Rattle.micro_ir.specs.WorkRows.{IsOperandRow, scalar_row}
use Rattle.micro_ir.specs.declared.place.Place.{Place}
use Rattle.micro_ir.proofs.StepLists.{steps_on-append, AllFit-append}
use Rattle.gen_shift.specs.Rows.{is_odd, is_among}
use Rattle.bit_laws.proofs.Ints.{int-low}
use Rattle.gen_shift.proofs.Stays.{within-append}
use Rattle.row_sums.specs.Sums.{total_row, half_after}
use Rattle.row_sums.proofs.Kept.{operand-off, role-past}
use Rattle.row_sums.proofs.Fits.{work-realises}
use Rattle.gen_mul.specs.declared.kinds.Product.{Product}
use Rattle.gen_mul.specs.declared.kinds.Product.TheVariants.{Mul, Mulhu, Mulhsu, Mulh, Macc, Nmsac}
use Rattle.gen_mul.specs.Lists.{high_row, corrected_row, multiplying, correcting, finishing, result_row, adds, product_steps}
use Rattle.gen_mul.specs.Kinds.{product_value}
use Rattle.gen_mul.specs.Laws.{RealisesProduct}
use Rattle.gen_mul.proofs.Products.{product_works, product-halves, product-only}
use Rattle.gen_mul.proofs.Signs.{high-is, first-on, both-on, macc-on, nmsac-on, finishing-only}
use Rattle.gen_mul.proofs.Whole.{mulhsu-whole, mulh-whole}
use Rattle.gen_mul.proofs.Fits.{multiplying-fits, finishing-fits}

-- an operand is none of the rows that products write
pub operand-free : (r : ℕ) → IsOperandRow r → is_among product_works r ≡ false
operand-free r is = operand-off r product_works is refl refl refl

pub result-past : (kind : Product) (w : ℕ) → scalar_row < result_row kind w
result-past Mul w = role-past (is_odd w)
result-past Mulhu w = omega arith
result-past Mulhsu w = omega arith
result-past Mulh w = omega arith
result-past Macc w = omega arith
result-past Nmsac w = omega arith

-- what each kind leaves in its row
module _ (w a b d : ℕ) (e : ℕ → ℕ → Bool) (pos : 0 < w) (a_off : is_among product_works a ≡ false) (b_off : is_among product_works b ≡ false) where
  left : (kind : Product) → (adds kind ≡ true → is_among product_works d ≡ false)
      → number w (steps_on (finishing kind w a b d) (steps_on (multiplying w a b) e) (result_row kind w)) ≡ low w (product_value kind w (number w (e a)) (number w (e b)) (number w (e d)))
  unfolding steps_on
  left Mul d_off =
      let now = steps_on (multiplying w a b) e in
      rw (sym (product-halves w a b e a_off b_off)) (sym (mod-mul-add (number w (now high_row)) (2 ^ w) (number w (now (half_after w))) (number-lt w (now (half_after w)))))
  left Mulhu d_off = sym (mod-eq_of_lt (number-lt w (steps_on (multiplying w a b) e high_row))) ∙ ap (low w) (high-is w a b e a_off b_off)
  left Mulhsu d_off = first-on w a b e pos a_off b_off ∙ mulhsu-whole w (number w (e a)) (number w (e b)) (number-lt w (e a)) (number-lt w (e b)) ∙ int-low w _
  left Mulh d_off =
      ap (λ (s : ℕ → ℕ → Bool). number w (s corrected_row)) (steps_on-append (correcting w b a high_row total_row) (correcting w a b total_row corrected_row) (steps_on (multiplying w a b) e))
      ∙ both-on w a b e pos a_off b_off ∙ mulh-whole w (number w (e a)) (number w (e b)) (number-lt w (e a)) (number-lt w (e b)) ∙ int-low w _
  left Macc d_off = macc-on w a b d e pos a_off b_off (d_off refl)
  left Nmsac d_off = nmsac-on w a b d e pos a_off b_off (d_off refl)

pub realises-product : (kind : Product) (w : ℕ) (at : Place) → 1 < w → IsOperandRow at.a → IsOperandRow at.b → (adds kind ≡ true → IsOperandRow at.addend) → at.to < 32 → RealisesProduct kind w at
unfolding product_steps
realises-product kind w at wide a b d register reads =
    let first = multiplying w at.a at.b in
    let rest = finishing kind w at.a at.b at.addend in
    work-realises w (result_row kind w) at.to reads product_works (first ++ rest) (λ n c. product_value kind w (n at.a) (n at.b) (n at.addend))
    (AllFit-append w first rest (multiplying-fits w at.a at.b wide) (finishing-fits kind w at.a at.b at.addend (omega arith)))
    (within-append product_works first rest (product-only w at.a at.b) (finishing-only kind w at.a at.b at.addend)) refl (result-past kind w) register
    (λ e c. ap (λ (s : ℕ → ℕ → Bool). number w (s (result_row kind w))) (steps_on-append first rest e)
    ∙ left w at.a at.b at.addend e (omega arith) (operand-free at.a a) (operand-free at.b b) kind (λ h. operand-free at.addend (d h)))
