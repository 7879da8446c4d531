-- Averages, rounded.
use Rattle.std.proofs.Common.{◌≡◌, ◌≢◌, ℕ, zero, suc, ◌+◌, ◌-◌, ◌<◌, ◌≤◌, Bool, true, false, cond, not, ltb, ℤ, ◌||◌, ◌&&◌, List, [], ◌∷◌, ◌++◌, map, refl, sym, ◌∙◌, ap, arith, inl, inr, ◌⊎◌, ⊎_elim}
use Rattle.std.specs.Int.{int_shr, from_bool}
use Rattle.std.proofs.lemmas.Bool.{cases_lt, cases_eq, lt-ltb, le-ltb, ne_eqb}
use Rattle.bit_laws.specs.Numbers.{number, low}
use Rattle.bit_laws.specs.Rounding.{bit_of_int, low_int, increment, rounded}
use Rattle.bit_laws.proofs.Numbers.{number-same}
use Rattle.bit_laws.proofs.Ints.{number-shr, int-low}
use Rattle.bit_laws.proofs.Rounding.{rounds, plus-zero}
use Rattle.micro_ir.specs.Steps.{fires, steps_on}
use Rattle.micro_ir.specs.Increments.{increment as increment_steps, ripple, half_sums}
use Rattle.micro_ir.specs.WorkRows.{carry_row, result_row, truth_row}
use Rattle.micro_ir.proofs.Incrementing.{incremented}
use Rattle.micro_ir.proofs.OneElement.{hit, fires-hit}
use Rattle.micro_ir.proofs.Ripples.{Without}
use Rattle.micro_ir.proofs.StepLists.{steps_on-append}
use Rattle.gen_shift.specs.Rows.{is_among, moved_row}
use Rattle.gen_shift.proofs.Stays.{Within, within-append}
use Rattle.row_sums.specs.Sums.{total_row, halved}
use Rattle.row_sums.proofs.Kept.{kept}
use Rattle.row_sums.proofs.Places.{halved-here}
use Rattle.gen_fixed.specs.Lists.{carries_of, beyond_on, beyond, halving, half_rows, half_on, is_down, rounding, averaging, average_row}
use Rattle.gen_fixed.specs.Kinds.{exact}
use Rattle.gen_fixed.proofs.Operands.{fewer, total_rows}
use Rattle.gen_fixed.proofs.Totals.{total_bits, beyond_bit, beyond-only, beyond-on, Exact, exact-is}

-- the rows that averages work in
abbrev pub average_rows : List ℕ
average_rows = carry_row ∷ result_row ∷ total_row ∷ truth_row ∷ moved_row ∷ []

abbrev moved_only : List ℕ
moved_only = moved_row ∷ []

halved-only : (rows : List ℕ) (w : ℕ) → is_among rows moved_row ≡ true → Within rows (halved w total_row moved_row truth_row (w - 1) 0)
halved-only rows w m = (m, (m, (m, tt)))

halving-only : (rows : List ℕ) (carries last : List ℕ) (w a b : ℕ) → is_among rows carry_row ≡ true → is_among rows total_row ≡ true → is_among rows truth_row ≡ true → is_among rows moved_row ≡ true
    → Within rows (halving carries last w a b)
halving-only rows carries last w a b c t k m =
    within-append rows (beyond carries last w a b) (halved w total_row moved_row truth_row (w - 1) 0) (beyond-only rows carries last w a b c t k) (halved-only rows w m)

half-sums-only : (rows : List ℕ) (w x n : ℕ) → is_among rows carry_row ≡ true → is_among rows result_row ≡ true → Within rows (half_sums w x n)
unfolding ripple
half-sums-only rows w x zero c d = tt
half-sums-only rows w x (suc n) c d =
    within-append rows (half_sums w x n) _ (half-sums-only rows w x n c d)
    (⊎_elim (λ (l : suc n < w). rw (lt-ltb (suc n) w l) (d, (c, tt))) (λ (l : w ≤ suc n). rw (le-ltb (suc n) w l) (d, tt)) (cases_lt (suc n) w))

rounding-only : (mode w : ℕ) → Within average_rows (rounding mode w)
unfolding increment_steps
rounding-only mode w =
    elim (is_down mode) as (λ b. Within average_rows (cond b [] (increment_steps w moved_row (half_rows mode) (half_on mode)))) [
      | true ↦ tt
      | false ↦ (refl, (refl, (refl, half-sums-only average_rows w moved_row w refl refl)))
    ]

pub averaging-only : (carries last : List ℕ) (mode w a b : ℕ) → Within average_rows (averaging carries last mode w a b)
unfolding averaging
averaging-only carries last mode w a b =
    within-append average_rows (halving carries last w a b) (rounding mode w) (halving-only average_rows carries last w a b refl refl refl refl) (rounding-only mode w)

-- ---- half of the total

record Halved (carries last : List ℕ) (w : ℕ) (x y : ℕ → Bool) (now : ℕ → ℕ → Bool) : Type 0 where
  half : (i : ℕ) → i < w → now moved_row i ≡ cond (ltb (1 + i) w) (total_bits carries x y (1 + i)) (beyond_bit carries last w x y)
  total : (i : ℕ) → i < w → now total_row i ≡ total_bits carries x y i

halving-on : (carries last : List ℕ) (w a b : ℕ) (e : ℕ → ℕ → Bool) → is_among total_rows a ≡ false → is_among total_rows b ≡ false → 0 < w
    → Halved carries last w (e a) (e b) (steps_on (halving carries last w a b) e)
halving-on carries last w a b e a_off b_off some =
    let first = beyond carries last w a b in
    let rest = halved w total_row moved_row truth_row (w - 1) 0 in
    let e1 = steps_on first e in
    let t = beyond-on carries last w a b e a_off b_off some in
    let d = halved-here w total_row moved_row truth_row (w - 1) 0 e1 some (omega arith) (omega arith) (omega arith) in
    rw (steps_on-append first rest e) (record {
      half = λ i l. ⊎_elim
          (λ (m : 1 + i < w). let y : 1 + i ≡ i + 1 = omega arith in rw (lt-ltb (1 + i) w m) (d.inner i (omega arith) ∙ ap (e1 total_row) (sym y) ∙ t.digits (1 + i) m))
          (λ (m : w ≤ 1 + i). let q : i ≡ w - 1 = omega arith in rw (le-ltb (1 + i) w m) (ap (steps_on rest e1 moved_row) q ∙ d.last ∙ t.top))
          (cases_lt (1 + i) w);
      total = λ i l. (λ n. kept moved_only rest e1 total_row (halved-only moved_only w refl) refl n i) ∙ t.digits i l;
    })

-- ---- what a mode adds

half-hit : (mode : ℕ) (bits : ℕ → Bool) → hit (half_on mode) (map bits (half_rows mode)) ≡ increment mode (bits moved_row) (bits total_row) false ⊎ (mode ≡ 2)
half-hit zero bits = inl (up (bits total_row))
  where
    up : (x : Bool) → hit (1 ∷ []) (x ∷ []) ≡ x
    up true = refl
    up false = refl
half-hit (suc zero) bits = inl (even (bits total_row) (bits moved_row))
  where
    even : (t x : Bool) → hit (3 ∷ []) (t ∷ x ∷ []) ≡ t && (x || false)
    even true true = refl
    even true false = refl
    even false true = refl
    even false false = refl
half-hit (suc (suc zero)) bits = inr refl
half-hit (suc (suc (suc mode))) bits = inl (odd (bits total_row) (bits moved_row))
  where
    odd : (t x : Bool) → hit (1 ∷ []) (t ∷ x ∷ []) ≡ not x && (t || false)
    odd true true = refl
    odd true false = refl
    odd false true = refl
    odd false false = refl

half-without : (mode : ℕ) → Without carry_row (half_rows mode)
half-without zero = (omega arith, tt)
half-without (suc mode) = (omega arith, (omega arith, tt))

module _ (carries last : List ℕ) (w a b : ℕ) (z : ℤ) (e : ℕ → ℕ → Bool) (a_off : is_among total_rows a ≡ false) (b_off : is_among total_rows b ≡ false) (some : 0 < w)
    (bits : Exact w z (total_bits carries (e a) (e b)) (beyond_bit carries last w (e a) (e b))) where
  quotient : number w (steps_on (halving carries last w a b) e moved_row) ≡ low_int w (int_shr z 1)
  quotient =
      let h = halving-on carries last w a b e a_off b_off some in
      number-same w (steps_on (halving carries last w a b) e moved_row) (λ i. bit_of_int z (1 + i)) (λ i l. h.half i l ∙ sym (bits (1 + i) (omega arith))) ∙ number-shr w z 1

  average-down : number w (steps_on (halving carries last w a b ++ []) e moved_row) ≡ low_int w (rounded 2 z 1)
  unfolding steps_on
  average-down = rw (steps_on-append (halving carries last w a b) [] e) (quotient ∙ ap (low_int w) (sym (plus-zero (int_shr z 1))))

  average-up : (mode : ℕ) → mode ≢ 2 → number w (steps_on (halving carries last w a b ++ increment_steps w moved_row (half_rows mode) (half_on mode)) e result_row) ≡ low_int w (rounded mode z 1)
  average-up mode other =
      let h = halving-on carries last w a b e a_off b_off some in
      let e1 = steps_on (halving carries last w a b) e in
      let i = incremented w moved_row (half_rows mode) (half_on mode) e1 some (half-without mode) (omega arith) (omega arith) in
      let n1 : 1 + 0 ≡ 1 = omega arith in
      let odd : e1 moved_row 0 ≡ bit_of_int z 1 = h.half 0 some ∙ sym (bits (1 + 0) (omega arith)) ∙ ap (bit_of_int z) n1 in
      let last_is : e1 total_row 0 ≡ bit_of_int z 0 = h.total 0 some ∙ sym (bits 0 (omega arith) ∙ rw (lt-ltb 0 w some) refl) in
      let adds : fires (half_rows mode) (half_on mode) (λ r. e1 r 0) ≡ increment mode (e1 moved_row 0) (e1 total_row 0) false =
      fires-hit (half_rows mode) (half_on mode) (λ r. e1 r 0) ∙ ⊎_elim (λ q. q) (λ (q : mode ≡ 2). absurd (other q)) (half-hit mode (λ r. e1 r 0)) in
      rw (steps_on-append (halving carries last w a b) (increment_steps w moved_row (half_rows mode) (half_on mode)) e)
      (rounds w mode z 1 _ (number w (e1 moved_row)) (e1 moved_row 0) (e1 total_row 0) false quotient (i.sum ∙ ap (λ c. low w (number w (e1 moved_row) + from_bool c)) adds) odd last_is refl)

  pub averaged : (mode : ℕ) → number w (steps_on (averaging carries last mode w a b) e (average_row mode)) ≡ low_int w (rounded mode z 1)
  unfolding averaging
  averaged mode =
      ⊎_elim
      (λ (q : mode ≡ 2). rw q average-down)
      (λ (q : mode ≢ 2). rw (ne_eqb mode 2 q) (average-up mode q))
      (cases_eq mode 2)

-- the value of each kind
pub average-made : (sign sub : Bool) (mode w a b : ℕ) (e : ℕ → ℕ → Bool) → is_among average_rows a ≡ false → is_among average_rows b ≡ false → 0 < w
    → number w (steps_on (averaging (carries_of sub) (beyond_on sign sub) mode w a b) e (average_row mode))
    ≡ low w (low_int w (rounded mode (exact sign sub w (number w (e a)) (number w (e b))) 1))
average-made sign sub mode w a b e a_off b_off some =
    let z = exact sign sub w (number w (e a)) (number w (e b)) in
    averaged (carries_of sub) (beyond_on sign sub) w a b z e (fewer total_rows average_rows a refl a_off) (fewer total_rows average_rows b refl b_off) some (exact-is sign sub w (e a) (e b) some) mode
    ∙ int-low w (rounded mode z 1)
