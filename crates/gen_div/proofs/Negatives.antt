-- Numbers negated by signs, and the sign of the quotient.
use Rattle.std.proofs.Common.{◌≡◌, ◌≢◌, ℕ, ◌+◌, ◌-◌, ◌^◌, ◌<◌, ◌≤◌, Bool, true, false, cond, not, eqb, ◌||◌, ◌&&◌, List, [], ◌∷◌, ◌++◌, zero, suc, refl, sym, ◌∙◌, ap, arith, ⊎_elim}
use Rattle.std.proofs.Math.Nat.{mod-eq_of_lt}
use Rattle.std.proofs.lemmas.Bool.{ne_eqb, eq-eqb, cases_lt, lt-ltb, le-ltb}
use Rattle.std.proofs.lemmas.Nat.{pow_pos}
use Rattle.bit_laws.specs.Numbers.{number, low}
use Rattle.bit_laws.proofs.Numbers.{number-lt, number-same}
use Rattle.micro_ir.specs.Steps.{fires, step_on, steps_on}
use Rattle.micro_ir.proofs.StepLists.{steps_on-append}
use Rattle.micro_ir.proofs.OneElement.{hit, fires-hit, step-row, clear-here, above-here, above-else}
use Rattle.micro_ir.proofs.Effects.{broadcast-on, downs-here}
use Rattle.micro_ir.specs.WorkRows.{carry_row, broadcast_row}
use Rattle.micro_ir.specs.Pieces.{above, clear, downs, broadcast}
use Rattle.gen_arith.specs.Recipes.{odd_on, most_on}
use Rattle.gen_shift.specs.Rows.{is_among}
use Rattle.gen_shift.proofs.Stays.{Within, within-append, within-downs, within-broadcast}
use Rattle.row_sums.specs.Sums.{half_after}
use Rattle.row_sums.proofs.Kept.{kept, differ, within-more}
use Rattle.row_sums.proofs.Totals.{made, sum_from-on, sum_from-only}
use Rattle.row_sums.proofs.Numbers.{sum-low, not-number, number-none, negative, top-negative}
use Rattle.gen_div.specs.declared.kinds.Division.{Division}
use Rattle.gen_div.specs.declared.kinds.Division.TheVariants.{Divu, Remu, Div, Rem}
use Rattle.gen_div.specs.Lists.{rest_row, nonzero_row, negate_on, negating, by_sign, magnitudes, dividing, gathering, unlike_signs_on, quotient_sign, quotient_signs}
use Rattle.gen_div.proofs.Tables.{flipped, odd_flipped, carry_flipped, either, unlike, sign_table}
use Rattle.gen_div.proofs.Quotients.{division_works, Halved, division-on, division-only}

-- the rows that a division with signs writes
abbrev pub signed_works : List ℕ
signed_works = division_works ++ (53 ∷ 55 ∷ 56 ∷ [])

abbrev pub works : Division → List ℕ
works Divu = division_works
works Remu = division_works
works Div = signed_works
works Rem = signed_works

bit_found : (s : Bool) → hit (1 ∷ []) (s ∷ []) ≡ s
bit_found true = refl
bit_found false = refl

-- the number, or its negative
abbrev pub signed_by : (w : ℕ) (s : Bool) (n : ℕ) → ℕ
signed_by w s n = cond s (2 ^ w - n) n

-- where the broadcast row has this sign in each bit
pub negating-on : (w x out : ℕ) (s : Bool) (e : ℕ → ℕ → Bool) → 0 < w → is_among (35 ∷ out ∷ []) x ≡ false → is_among (35 ∷ 37 ∷ []) out ≡ false → ((i : ℕ) → i < w → e broadcast_row i ≡ s)
    → number w (steps_on (negating w x out) e out) ≡ low w (signed_by w s (number w (e x)))
unfolding negating
negating-on w x out s e pos x_off o_off sign =
    let rows = x ∷ broadcast_row ∷ carry_row ∷ [] in
    let from = broadcast_row ∷ [] in
    let oc : carry_row ≢ out = λ q. differ out 35 (35 ∷ 37 ∷ []) o_off refl (sym q) in
    let s_here : is_among (35 ∷ out ∷ []) broadcast_row ≡ false = rw (ne_eqb 37 out (λ q. differ out 37 (35 ∷ 37 ∷ []) o_off refl (sym q))) refl in
    let digits = sum_from-on w out from (1 ∷ []) rows odd_on negate_on odd_on most_on (λ f. flipped (f x) (f broadcast_row)) (λ f. false)
    (λ f. fires-hit rows odd_on f ∙ odd_flipped (f x) (f broadcast_row) (f carry_row)) (λ f. fires-hit rows negate_on f ∙ carry_flipped (f x) (f broadcast_row) (f carry_row))
    (λ f g same n. flipped (same x x_off n) (same broadcast_row s_here n)) (λ f g same. refl) (λ f g same. fires-hit from (1 ∷ []) f ∙ ap (λ z. hit (1 ∷ []) (z ∷ [])) (same broadcast_row s_here) ∙ sym (fires-hit from (1 ∷ []) g)) oc e pos in
    let first : made (fires from (1 ∷ [])) e 0 ≡ s = fires-hit from (1 ∷ []) (λ r. e r 0) ∙ bit_found (e broadcast_row 0) ∙ sign 0 pos in
    let p = sum-low w (steps_on (negating w x out) e out) (λ i. flipped (e x i) (e broadcast_row i)) (λ i. false) (made (fires from (1 ∷ [])) e 0) digits in
    let q = number-same w (λ i. flipped (e x i) (e broadcast_row i)) (λ i. flipped (e x i) s) (λ i l. ap (flipped (e x i)) (sign i l)) in
    let none = number-none w (λ i. false) (λ i l. refl) in
    p ∙ rw (q, first, none) (value s)
  where
    value : (s : Bool) → low w (number w (λ i. flipped (e x i) s) + 0 + cond s 1 0) ≡ low w (signed_by w s (number w (e x)))
    value true = let n = not-number w (e x) in let v : number w (λ i. not (e x i)) + 0 + 1 ≡ 2 ^ w - number w (e x) = omega arith in ap (low w) v
    value false = let v : number w (e x) + 0 + 0 ≡ number w (e x) = omega arith in ap (low w) v

pub negating-only : (rows : List ℕ) (w x out : ℕ) → is_among rows carry_row ≡ true → is_among rows out ≡ true → Within rows (negating w x out)
unfolding negating
negating-only rows w x out c o = sum_from-only rows w (broadcast_row ∷ []) (1 ∷ []) (x ∷ broadcast_row ∷ carry_row ∷ []) odd_on negate_on out c o

-- ---- a row negated where another is negative

pub by_sign-on : (w y x out : ℕ) (e : ℕ → ℕ → Bool) → 0 < w → y ≢ broadcast_row → is_among (35 ∷ out ∷ []) x ≡ false → is_among (37 ∷ []) x ≡ false → is_among (35 ∷ 37 ∷ []) out ≡ false
    → number w (steps_on (by_sign w y x out) e out) ≡ low w (signed_by w (negative w (number w (e y))) (number w (e x)))
by_sign-on w y x out e pos y_off x_off x_not o_off =
    let cast = broadcast w y (w - 1) in
    let e1 = steps_on cast e in
    let kx : e1 x ≡ e x = kept (37 ∷ []) cast e x (within-broadcast (37 ∷ []) w y (w - 1) refl) x_not in
    rw (steps_on-append cast (negating w x out) e)
    (negating-on w x out (e y (w - 1)) e1 pos x_off o_off (λ i l. broadcast-on w y (w - 1) e (omega arith) y_off broadcast_row i l ∙ rw (lt-ltb i w l) refl)
    ∙ rw (kx, top-negative w (e y) pos) refl)

pub by_sign-only : (rows : List ℕ) (w y x out : ℕ) → is_among rows carry_row ≡ true → is_among rows broadcast_row ≡ true → is_among rows out ≡ true → Within rows (by_sign w y x out)
by_sign-only rows w y x out c s o = within-append rows (broadcast w y (w - 1)) (negating w x out) (within-broadcast rows w y (w - 1) s) (negating-only rows w x out c o)

-- the number without its sign
abbrev pub magnitude : (w n : ℕ) → ℕ
magnitude w n = signed_by w (negative w n) n

magnitude-low : (w n : ℕ) → n < 2 ^ w → low w (magnitude w n) ≡ magnitude w n
magnitude-low w n l =
    let p : 0 < 2 ^ (w - 1) = pow_pos (w - 1) in
    ⊎_elim
    (λ (s : n < 2 ^ (w - 1)). rw (lt-ltb n (2 ^ (w - 1)) s) (mod-eq_of_lt l))
    (λ (s : 2 ^ (w - 1) ≤ n). rw (le-ltb n (2 ^ (w - 1)) s) (mod-eq_of_lt (omega arith)))
    (cases_lt n (2 ^ (w - 1)))

module _ (w a b : ℕ) (e : ℕ → ℕ → Bool) (pos : 0 < w) (a_off : is_among signed_works a ≡ false) (b_off : is_among signed_works b ≡ false) where
  a_not : (x : ℕ) → is_among signed_works x ≡ true → eqb a x ≡ false
  a_not x on = ne_eqb a x (differ a x signed_works a_off on)

  b_not : (x : ℕ) → is_among signed_works x ≡ true → eqb b x ≡ false
  b_not x on = ne_eqb b x (differ b x signed_works b_off on)

  pub magnitudes-on : (let now = steps_on (magnitudes w a b) e in Halved (2 ^ w) (magnitude w (number w (e a))) (magnitude w (number w (e b))) (number w (now (half_after w))) (number w (now rest_row)))
  unfolding magnitudes
  magnitudes-on =
      let one = by_sign w a a 55 in
      let two = by_sign w b b 56 in
      let e1 = steps_on one e in
      let e2 = steps_on two e1 in
      let kb : e1 b ≡ e b = kept (35 ∷ 37 ∷ 55 ∷ []) one e b (by_sign-only (35 ∷ 37 ∷ 55 ∷ []) w a a 55 refl refl refl) (rw (b_not 35 refl, b_not 37 refl, b_not 55 refl) refl) in
      let kl : e2 55 ≡ e1 55 = kept (35 ∷ 37 ∷ 56 ∷ []) two e1 55 (by_sign-only (35 ∷ 37 ∷ 56 ∷ []) w b b 56 refl refl refl) refl in
      let l : number w (e1 55) ≡ magnitude w (number w (e a)) =
      by_sign-on w a a 55 e pos (differ a 37 signed_works a_off refl) (rw (a_not 35 refl, a_not 55 refl) refl) (rw (a_not 37 refl) refl) refl ∙ magnitude-low w (number w (e a)) (number-lt w (e a)) in
      let r0 : number w (e2 56) ≡ magnitude w (number w (e1 b)) =
      by_sign-on w b b 56 e1 pos (differ b 37 signed_works b_off refl) (rw (b_not 35 refl, b_not 56 refl) refl) (rw (b_not 37 refl) refl) refl ∙ magnitude-low w (number w (e1 b)) (number-lt w (e1 b)) in
      let p = division-on w 55 56 e2 refl refl in
      rw (steps_on-append one (two ++ dividing w 55 56) e, steps_on-append two (dividing w 55 56) e1) (rw (kl, l, r0, kb) at p)

pub magnitudes-only : (w a b : ℕ) → Within signed_works (magnitudes w a b)
unfolding magnitudes
magnitudes-only w a b =
    within-append signed_works (by_sign w a a 55) (by_sign w b b 56 ++ dividing w 55 56) (by_sign-only signed_works w a a 55 refl refl refl)
    (within-append signed_works (by_sign w b b 56) (dividing w 55 56) (by_sign-only signed_works w b b 56 refl refl refl)
    (within-more division_works (53 ∷ 55 ∷ 56 ∷ []) (dividing w 55 56) (division-only w 55 56)))

-- ---- the sign of the quotient

-- a bit below n is 1
abbrev pub any_below : (n : ℕ) (f : ℕ → Bool) → Bool
any_below zero f = false
any_below (suc n) f = any_below n f || f n

any-number : (n : ℕ) (f : ℕ → Bool) → any_below n f ≡ not (eqb (number n f) 0)
any-number zero f = refl
any-number (suc n) f = ap (λ z. z || f n) (any-number n f) ∙ cases (f n) (number n f) (2 ^ n) (pow_pos n)
  where
    cases : (b : Bool) (m p : ℕ) → 0 < p → not (eqb m 0) || b ≡ not (eqb (m + cond b p 0) 0)
    cases true m p h = rw (ne_eqb (m + p) 0 (omega arith)) (on (not (eqb m 0)))
      where
        on : (b : Bool) → b || true ≡ true
        on true = refl
        on false = refl
    cases false m p h = let z : m + 0 ≡ m = omega arith in rw z (off (not (eqb m 0)))
      where
        off : (b : Bool) → b || false ≡ b
        off true = refl
        off false = refl

gathering-only : (rows : List ℕ) (row b n : ℕ) → is_among rows row ≡ true → Within rows (gathering row b n)
unfolding gathering
gathering-only rows row b zero p = tt
gathering-only rows row b (suc n) p = within-append rows (gathering row b n) (above (row ∷ b ∷ []) (1 ∷ 2 ∷ 3 ∷ []) row n 1 ∷ []) (gathering-only rows row b n p) (p, tt)

gathering-on : (w row b n : ℕ) (e : ℕ → ℕ → Bool) → b ≢ row → n < w → ((i : ℕ) → i < w → e row i ≡ false)
    → (steps_on (gathering row b n) e row n ≡ any_below n (e b)) × ((i : ℕ) → n < i → i < w → steps_on (gathering row b n) e row i ≡ false)
unfolding steps_on gathering
gathering-on w row b zero e other h off = (off 0 h, λ i l u. off i u)
gathering-on w row b (suc n) e other h off =
    let list = gathering row b n in
    let now = steps_on list e in
    let one = above (row ∷ b ∷ []) (1 ∷ 2 ∷ 3 ∷ []) row n 1 in
    let p = gathering-on w row b n e other (omega arith) off in
    let b_row : is_among (row ∷ []) b ≡ false = rw (ne_eqb b row other) refl in
    let row_in : is_among (row ∷ []) row ≡ true = rw (eq-eqb row row refl) refl in
    let kb : now b ≡ e b = kept (row ∷ []) list e b (gathering-only (row ∷ []) row b n row_in) b_row in
    let z : suc n ≡ n + 1 = omega arith in
    let here : step_on one now row (n + 1) ≡ any_below n (e b) || e b n =
    above-here (row ∷ b ∷ []) (1 ∷ 2 ∷ 3 ∷ []) row n 1 now ∙ rw (p.1 (n + 1) (omega arith) (omega arith), fires-hit (row ∷ b ∷ []) (1 ∷ 2 ∷ 3 ∷ []) (λ r. now r n)) (rw (p.0, kb) (either (any_below n (e b)) (e b n))) in
    rw (steps_on-append list (one ∷ []) e)
    (ap (step_on one now row) z ∙ here, λ i l u. above-else (row ∷ b ∷ []) (1 ∷ 2 ∷ 3 ∷ []) row n 1 now row i (omega arith) ∙ p.1 i (omega arith) u)

-- the sign's step, also where one row is both operands
sign-here : (w a b : ℕ) (e : ℕ → ℕ → Bool) → e broadcast_row (w - 1) ≡ false
    → step_on (quotient_sign w a b) e broadcast_row (w - 1) ≡ unlike (e a (w - 1)) (e b (w - 1)) && (e nonzero_row (w - 1) || e b (w - 1))
sign-here w a b e off =
    let at : w - 1 + 0 ≡ w - 1 = omega arith in
    let rows = a ∷ b ∷ nonzero_row ∷ [] in
    let found : step_on (quotient_sign w a b) e broadcast_row (w - 1 + 0) ≡ fires rows unlike_signs_on (λ r. e r (w - 1)) || e broadcast_row (w - 1 + 0) = above-here rows unlike_signs_on broadcast_row (w - 1) 0 e in
    (rw at at found) ∙ rw (off, fires-hit rows unlike_signs_on (λ r. e r (w - 1))) (sign_table (e a (w - 1)) (e b (w - 1)) (e nonzero_row (w - 1)))

sign-else : (w a b : ℕ) (e : ℕ → ℕ → Bool) (r i : ℕ) → i ≢ w - 1 → step_on (quotient_sign w a b) e r i ≡ e r i
sign-else w a b e r i other = above-else (a ∷ b ∷ nonzero_row ∷ []) unlike_signs_on broadcast_row (w - 1) 0 e r i (omega arith)

pub signs-only : (rows : List ℕ) (w a b : ℕ) → is_among rows broadcast_row ≡ true → is_among rows nonzero_row ≡ true → Within rows (quotient_signs w a b)
unfolding quotient_signs
signs-only rows w a b p q = (
  q,
  within-append rows (gathering nonzero_row b (w - 1)) (clear w broadcast_row ∷ quotient_sign w a b ∷ downs broadcast_row (w - 1)) (gathering-only rows nonzero_row b (w - 1) q)
      (p, (p, within-downs rows broadcast_row (w - 1) p)),
)

-- the sign of the quotient
abbrev pub quotient_negative : (w a b : ℕ) → Bool
quotient_negative w a b = unlike (negative w a) (negative w b) && not (eqb b 0)

pub signs-on : (w a b : ℕ) (e : ℕ → ℕ → Bool) → 0 < w → is_among signed_works a ≡ false → is_among signed_works b ≡ false
    → (i : ℕ) → i < w → steps_on (quotient_signs w a b) e broadcast_row i ≡ quotient_negative w (number w (e a)) (number w (e b))
unfolding steps_on quotient_signs
signs-on w a b e pos a_off b_off i inside =
    let e1 = step_on (clear w nonzero_row) e in
    let list = gathering nonzero_row b (w - 1) in
    let e2 = steps_on list e1 in
    let e3 = step_on (clear w broadcast_row) e2 in
    let e4 = step_on (quotient_sign w a b) e3 in
    let two = clear w broadcast_row ∷ quotient_sign w a b ∷ downs broadcast_row (w - 1) in
    let a_not : (x : ℕ) → is_among signed_works x ≡ true → a ≢ x = λ x. differ a x signed_works a_off in
    let b_not : (x : ℕ) → is_among signed_works x ≡ true → b ≢ x = λ x. differ b x signed_works b_off in
    let g = gathering-on w nonzero_row b (w - 1) e1 (b_not 53 refl) (omega arith) (λ i l. clear-here w nonzero_row e i l) in
    let only = gathering-only (53 ∷ []) nonzero_row b (w - 1) refl in
    let k1 : (r : ℕ) → r ≢ nonzero_row → e1 r ≡ e r = λ r n k i. step-row (clear w nonzero_row) e r i n k in
    let k3 : (r : ℕ) → r ≢ nonzero_row → r ≢ broadcast_row → e3 r ≡ e r =
    λ r n m. (λ k i. step-row (clear w broadcast_row) e2 r i m k) ∙ kept (53 ∷ []) list e1 r only (rw (ne_eqb r 53 n) refl) ∙ k1 r n in
    let z_is : e3 nonzero_row (w - 1) ≡ any_below (w - 1) (e b) =
    step-row (clear w broadcast_row) e2 nonzero_row (w - 1) (omega arith) ∙ g.0 ∙ ap (any_below (w - 1)) (k1 b (b_not 53 refl)) in
    let up : suc (w - 1) ≡ w = omega arith in
    let any : any_below (w - 1) (e b) || e b (w - 1) ≡ not (eqb (number w (e b)) 0) = any-number (suc (w - 1)) (e b) ∙ ap (λ (n : ℕ). not (eqb (number n (e b)) 0)) up in
    let off : (i : ℕ) → i < w → e3 broadcast_row i ≡ false = λ i l. clear-here w broadcast_row e2 i l in
    let top : e4 broadcast_row (w - 1) ≡ quotient_negative w (number w (e a)) (number w (e b)) =
    sign-here w a b e3 (off (w - 1) (omega arith))
    ∙ rw (z_is, k3 a (a_not 53 refl) (a_not 37 refl), k3 b (b_not 53 refl) (b_not 37 refl), any, top-negative w (e a) pos, top-negative w (e b) pos) refl in
    let under : (i : ℕ) → i < w - 1 → e4 broadcast_row i ≡ false = λ i l. sign-else w a b e3 broadcast_row i (omega arith) ∙ off i (omega arith) in
    rw (steps_on-append list two e1) (downs-here broadcast_row (w - 1) e4 under i (omega arith) ∙ top)
