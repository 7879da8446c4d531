-- Corrections of the high half of a product by signs, and its low half beside an addend.
use Rattle.std.proofs.Common.{◌≡◌, ℕ, ◌+◌, ◌-◌, ◌*◌, ◌/◌, ◌^◌, ◌<◌, Bool, true, false, cond, not, eqb, ◌||◌, ◌&&◌, List, [], ◌∷◌, refl, sym, ◌∙◌, ap, arith}
use Rattle.std.proofs.Math.Nat.{mul-add-mod_self_right}
use Rattle.std.proofs.lemmas.Bool.{ne_eqb, lt-ltb}
use Rattle.std.proofs.lemmas.Nat.{mod-mul-add, div-mul-add}
use Rattle.bit_laws.specs.Numbers.{number, low}
use Rattle.bit_laws.proofs.Numbers.{number-lt}
use Rattle.micro_ir.specs.Steps.{steps_on}
use Rattle.micro_ir.proofs.StepLists.{steps_on-append}
use Rattle.micro_ir.proofs.Effects.{broadcast-on}
use Rattle.micro_ir.proofs.OneElement.{fires-hit}
use Rattle.micro_ir.specs.WorkRows.{carry_row, broadcast_row}
use Rattle.micro_ir.specs.Pieces.{broadcast}
use Rattle.gen_arith.specs.Recipes.{odd_on, most_on, odd_not_on, borrow_on}
use Rattle.gen_shift.specs.Rows.{is_odd, is_among}
use Rattle.gen_shift.proofs.Stays.{Within, within-append, within-broadcast}
use Rattle.row_sums.specs.Sums.{total_row, half_role, half_after, sum_from}
use Rattle.row_sums.proofs.Kept.{kept, differ, off_first, halves}
use Rattle.row_sums.proofs.Totals.{sum_from-on, sum_from-only}
use Rattle.row_sums.proofs.Numbers.{sum-low, difference-low, gated-number, not-number, negative, top-negative}
use Rattle.gen_mul.specs.declared.kinds.Product.{Product}
use Rattle.gen_mul.specs.declared.kinds.Product.TheVariants.{Mul, Mulhu, Mulhsu, Mulh, Macc, Nmsac}
use Rattle.gen_mul.specs.Lists.{high_row, corrected_row, gated, gated_sum_on, gated_borrow_on, multiplying, correcting, adding, taking, finishing}
use Rattle.gen_mul.proofs.Tables.{gated-reads, gated_sum, gated_borrow, odd_inverted, most_inverted}
use Rattle.gen_mul.proofs.Products.{product_works, product-halves, product-only}

pub correcting-only : (rows : List ℕ) (w x y h out : ℕ) → is_among rows carry_row ≡ true → is_among rows broadcast_row ≡ true → is_among rows out ≡ true → Within rows (correcting w x y h out)
unfolding correcting
correcting-only rows w x y h out c s o =
    within-append rows (broadcast w y (w - 1)) (sum_from w [] [] (gated h x) gated_sum_on gated_borrow_on out) (within-broadcast rows w y (w - 1) s)
    (sum_from-only rows w [] [] (gated h x) gated_sum_on gated_borrow_on out c o)

pub correcting-on : (w x y h out : ℕ) (e : ℕ → ℕ → Bool) → 0 < w → is_among (35 ∷ 37 ∷ out ∷ []) x ≡ false → is_among (35 ∷ 37 ∷ out ∷ []) y ≡ false → is_among (35 ∷ 37 ∷ out ∷ []) h ≡ false → is_among (35 ∷ 37 ∷ []) out ≡ false
    → number w (steps_on (correcting w x y h out) e out) ≡ low w (number w (e h) + (2 ^ w - cond (negative w (number w (e y))) (number w (e x)) 0))
unfolding correcting
correcting-on w x y h out e pos x_off y_off h_off o_off =
    let cast = broadcast w y (w - 1) in
    let inputs = gated h x in
    let sum = sum_from w [] [] inputs gated_sum_on gated_borrow_on out in
    let e1 = steps_on cast e in
    let k1 : (r : ℕ) → is_among (37 ∷ []) r ≡ false → e1 r ≡ e r = λ r. kept (37 ∷ []) cast e r (within-broadcast (37 ∷ []) w y (w - 1) refl) in
    let cast_is : (i : ℕ) → i < w → e1 broadcast_row i ≡ e y (w - 1) = λ i l. broadcast-on w y (w - 1) e (omega arith) (differ y 37 (35 ∷ 37 ∷ out ∷ []) y_off refl) broadcast_row i l ∙ rw (lt-ltb i w l) refl in
    let digits = sum_from-on w out [] [] inputs gated_sum_on gated_borrow_on odd_on borrow_on (λ f. f h) (λ f. f x && f broadcast_row)
    (gated-reads h x gated_sum_on odd_on gated_sum) (gated-reads h x gated_borrow_on borrow_on gated_borrow)
    (λ f g same. same h (drop (eqb h 35) (eqb h 37) (eqb h out) h_off)) (λ f g same n. same x (drop (eqb x 35) (eqb x 37) (eqb x out) x_off) n && same broadcast_row (rw (ne_eqb 37 out (λ q. differ out 37 (35 ∷ 37 ∷ []) o_off refl (sym q))) refl) n)
    (λ f g same. refl) (λ q. differ out 35 (35 ∷ 37 ∷ []) o_off refl (sym q)) e1 pos in
    rw (steps_on-append cast sum e)
    (difference-low w (steps_on sum e1 out) (e1 h) (λ i. e1 x i && e1 broadcast_row i) digits
    ∙ rw (gated-number w (e1 x) (e1 broadcast_row) (e y (w - 1)) cast_is, k1 h (middle (eqb h 35) (eqb h 37) (eqb h out) h_off), k1 x (middle (eqb x 35) (eqb x 37) (eqb x out) x_off), top-negative w (e y) pos) refl)
  where
    drop : (a b c : Bool) → a || (b || (c || false)) ≡ false → a || (c || false) ≡ false
    drop false false c p = p
    drop true b c p = absurd (cc)
    drop false true c p = absurd (cc)

    middle : (a b c : Bool) → a || (b || (c || false)) ≡ false → b || false ≡ false
    middle false false c p = refl
    middle true b c p = absurd (cc)
    middle false true c p = absurd (cc)

pub high-is : (w a b : ℕ) (e : ℕ → ℕ → Bool) → is_among product_works a ≡ false → is_among product_works b ≡ false → number w (steps_on (multiplying w a b) e high_row) ≡ number w (e a) * number w (e b) / 2 ^ w
high-is w a b e a_off b_off =
    let p = product-halves w a b e a_off b_off in
    rw (sym p) (sym (div-mul-add (number w (steps_on (multiplying w a b) e high_row)) (2 ^ w) (number w (steps_on (multiplying w a b) e (half_after w))) (number-lt w (steps_on (multiplying w a b) e (half_after w)))))

-- the high half where a is negative and b is not signed, where both are signed (floors of the products with signs)
abbrev pub high_first : (w a b : ℕ) → ℕ
high_first w a b = a * b / 2 ^ w + (2 ^ w - cond (negative w a) b 0)

abbrev pub high_both : (w a b : ℕ) → ℕ
high_both w a b = low w (high_first w a b) + (2 ^ w - cond (negative w b) a 0)

module _ (w a b : ℕ) (e : ℕ → ℕ → Bool) (pos : 0 < w) (a_off : is_among product_works a ≡ false) (b_off : is_among product_works b ≡ false) where
  not_in : (r x : ℕ) → is_among product_works r ≡ false → is_among product_works x ≡ true → eqb r x ≡ false
  not_in r x off on = ne_eqb r x (differ r x product_works off on)

  -- the corrections, after the product without a sign
  first : Within product_works (correcting w b a high_row total_row)
  first = correcting-only product_works w b a high_row total_row refl refl refl

  pub first-on : number w (steps_on (correcting w b a high_row total_row) (steps_on (multiplying w a b) e) total_row) ≡ low w (high_first w (number w (e a)) (number w (e b)))
  first-on =
      let e1 = steps_on (multiplying w a b) e in
      let ka : e1 a ≡ e a = kept product_works (multiplying w a b) e a (product-only w a b) a_off in
      let kb : e1 b ≡ e b = kept product_works (multiplying w a b) e b (product-only w a b) b_off in
      correcting-on w b a high_row total_row e1 pos (rw (not_in b 35 b_off refl, not_in b 37 b_off refl, not_in b 38 b_off refl) refl) (rw (not_in a 35 a_off refl, not_in a 37 a_off refl, not_in a 38 a_off refl) refl) refl refl
      ∙ rw (ka, kb, high-is w a b e a_off b_off) refl

  pub both-on : number w (steps_on (correcting w a b total_row corrected_row) (steps_on (correcting w b a high_row total_row) (steps_on (multiplying w a b) e)) corrected_row)
      ≡ low w (high_both w (number w (e a)) (number w (e b)))
  both-on =
      let e1 = steps_on (multiplying w a b) e in
      let e2 = steps_on (correcting w b a high_row total_row) e1 in
      let ka : e2 a ≡ e a = kept product_works (correcting w b a high_row total_row) e1 a first a_off ∙ kept product_works (multiplying w a b) e a (product-only w a b) a_off in
      let kb : e2 b ≡ e b = kept product_works (correcting w b a high_row total_row) e1 b first b_off ∙ kept product_works (multiplying w a b) e b (product-only w a b) b_off in
      correcting-on w a b total_row corrected_row e2 pos (rw (not_in a 35 a_off refl, not_in a 37 a_off refl, not_in a 39 a_off refl) refl) (rw (not_in b 35 b_off refl, not_in b 37 b_off refl, not_in b 39 b_off refl) refl) refl refl
      ∙ rw (ka, kb, first-on) refl

-- ---- the low half and an addend

module _ (w a b d : ℕ) (e : ℕ → ℕ → Bool) (pos : 0 < w) (a_off : is_among product_works a ≡ false) (b_off : is_among product_works b ≡ false) (d_off : is_among product_works d ≡ false) where
  half_off : (rows : List ℕ) → is_among rows 43 ≡ false → is_among rows 44 ≡ false → is_among rows (half_after w) ≡ false
  half_off = off_first (half_after w) (half_role (not (is_odd w))) (halves (is_odd w))

  d_here : is_among (35 ∷ 38 ∷ []) d ≡ false
  d_here = rw (ne_eqb d 35 (differ d 35 product_works d_off refl), ne_eqb d 38 (differ d 38 product_works d_off refl)) refl

  pub macc-on : number w (steps_on (adding w d) (steps_on (multiplying w a b) e) total_row) ≡ low w (number w (e a) * number w (e b) + number w (e d))
  unfolding adding
  macc-on =
      let rows = carry_row ∷ half_after w ∷ d ∷ [] in
      let sum = sum_from w [] [] rows odd_on most_on total_row in
      let e1 = steps_on (multiplying w a b) e in
      let kd : e1 d ≡ e d = kept product_works (multiplying w a b) e d (product-only w a b) d_off in
      let p = product-halves w a b e a_off b_off in
      let q = number w (e1 (half_after w)) in
      let h = number w (e1 high_row) in
      let digits = sum_from-on w total_row [] [] rows odd_on most_on odd_on most_on (λ f. f (half_after w)) (λ f. f d)
      (λ f. fires-hit rows odd_on f) (λ f. fires-hit rows most_on f) (λ f g same. same (half_after w) (half_off (35 ∷ 38 ∷ []) refl refl)) (λ f g same. same d d_here) (λ f g same. refl) (omega arith) e1 pos in
      let s : h * 2 ^ w + q + number w (e d) ≡ h * 2 ^ w + (q + number w (e d) + 0) = omega arith in
      sum-low w (steps_on sum e1 total_row) (e1 (half_after w)) (e1 d) false digits
      ∙ rw (kd, sym p, s) (sym (mul-add-mod_self_right h (2 ^ w) (q + number w (e d) + 0)))

  pub nmsac-on : number w (steps_on (taking w d) (steps_on (multiplying w a b) e) total_row) ≡ low w (number w (e d) + (2 ^ w - low w (number w (e a) * number w (e b))))
  unfolding taking
  nmsac-on =
      let rows = carry_row ∷ half_after w ∷ d ∷ [] in
      let sum = sum_from w [] (0 ∷ []) rows odd_not_on borrow_on total_row in
      let e1 = steps_on (multiplying w a b) e in
      let kd : e1 d ≡ e d = kept product_works (multiplying w a b) e d (product-only w a b) d_off in
      let p = product-halves w a b e a_off b_off in
      let q = number w (e1 (half_after w)) in
      let h = number w (e1 high_row) in
      let digits = sum_from-on w total_row [] (0 ∷ []) rows odd_not_on borrow_on odd_on most_on (λ f. not (f (half_after w))) (λ f. f d)
      (λ f. fires-hit rows odd_not_on f ∙ odd_inverted (f carry_row) (f (half_after w)) (f d)) (λ f. fires-hit rows borrow_on f ∙ most_inverted (f carry_row) (f (half_after w)) (f d))
      (λ f g same. ap not (same (half_after w) (half_off (35 ∷ 38 ∷ []) refl refl))) (λ f g same. same d d_here) (λ f g same. refl) (omega arith) e1 pos in
      let low_is : low w (h * 2 ^ w + q) ≡ q = mod-mul-add h (2 ^ w) q (number-lt w (e1 (half_after w))) in
      let inverse = not-number w (e1 (half_after w)) in
      let s : number w (λ i. not (e1 (half_after w) i)) + number w (e d) + 1 ≡ number w (e d) + (2 ^ w - q) = omega arith in
      sum-low w (steps_on sum e1 total_row) (λ i. not (e1 (half_after w) i)) (e1 d) true digits
      ∙ rw (kd, sym p, low_is, s) refl

-- ---- what the kinds write

pub finishing-only : (kind : Product) (w a b d : ℕ) → Within product_works (finishing kind w a b d)
unfolding adding taking
finishing-only Mul w a b d = tt
finishing-only Mulhu w a b d = tt
finishing-only Mulhsu w a b d = correcting-only product_works w b a high_row total_row refl refl refl
finishing-only Mulh w a b d =
    within-append product_works (correcting w b a high_row total_row) (correcting w a b total_row corrected_row)
    (correcting-only product_works w b a high_row total_row refl refl refl) (correcting-only product_works w a b total_row corrected_row refl refl refl)
finishing-only Macc w a b d = sum_from-only product_works w [] [] (carry_row ∷ half_after w ∷ d ∷ []) odd_on most_on total_row refl refl
finishing-only Nmsac w a b d = sum_from-only product_works w [] (0 ∷ []) (carry_row ∷ half_after w ∷ d ∷ []) odd_not_on borrow_on total_row refl refl
