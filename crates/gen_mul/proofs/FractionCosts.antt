-- What the list of the product over 2^(w - 1) costs, how long it is, and that a chain can run it.
use Rattle.std.proofs.Common.{◌≡◌, ◌≢◌, ℕ, zero, suc, ◌+◌, ◌-◌, ◌*◌, ◌/◌, ◌<◌, ◌≤◌, Bool, true, false, cond, eqb, List, [], ◌∷◌, ◌++◌, length, refl, ◌∙◌, arith, length-append, ⊎_elim}
use Rattle.std.proofs.lemmas.Bool.{cases_eq, ne_eqb}
use Rattle.micro_ir.specs.Measures.{counts, Measured}
use Rattle.micro_ir.specs.Pieces.{above, below, clear, commit, downs}
use Rattle.micro_ir.specs.Replay.{AllInRange, counts_and, tally}
use Rattle.micro_ir.specs.Steps.{Step, micros}
use Rattle.micro_ir.proofs.Effects.{counts-same}
use Rattle.micro_ir.proofs.Incrementing.{increment-counts, increment-length, increment-rows}
use Rattle.micro_ir.proofs.Lists.{AllInRange-append, tally-append}
use Rattle.micro_ir.proofs.StepLists.{pass_length}
use Rattle.row_views.specs.Clips.{clip_test}
use Rattle.gen_shift.specs.Lists.{mode_on, mode_rows, mode_steps}
use Rattle.gen_shift.specs.Rows.{last_role, moved_row, more_row}
use Rattle.gen_shift.proofs.Adding.{mode-some}
use Rattle.gen_shift.proofs.OutCosts.{triangle}
use Rattle.row_sums.specs.Sums.{half_after}
use Rattle.row_sums.proofs.Costs.{Sized, sized-append, sized-as, measured, none-sized, commit-sized, downs-sized, doubled-sized}
use Rattle.gen_mul.specs.Lists.{high_row, corrected_row, multiplying, correcting, both_corrections}
use Rattle.row_sums.specs.Sums.{total_row}
use Rattle.gen_mul.specs.Fractions.{overflow_row, clipped_row, quotient, lower, left_over, rounding, rounded_row, flagging, clipping, fraction_steps, rounding_length, smul_counts, smul_length}
use Rattle.gen_mul.proofs.Costs.{multiplying-sized, correcting-sized}

twice-triangle : (n : ℕ) → 2 * triangle n + n ≡ n * n
twice-triangle zero = refl
twice-triangle (suc n) = let h : 2 * triangle n + n ≡ n * n = twice-triangle n in omega (arith, h)

-- ---- the bits below the quotient

lower-sized : (w n : ℕ) → n ≤ 32 → Sized n n (triangle n) (3 * n - 1) (lower w n)
unfolding lower
lower-sized w zero few = none-sized
lower-sized w (suc n) few =
    let step = below (half_after w ∷ []) (1 ∷ []) more_row n n in
    let one : Sized 1 1 n (1 + (pass_length n + 1)) (step ∷ []) = record { cost = counts-same _ _ _ _ _ _ refl refl (omega arith); long = omega arith; rows = (omega arith, omega arith, tt) } in
    sized-as (sized-append (lower w n) (step ∷ []) (lower-sized w n (omega arith)) one) (omega arith) (omega arith) (omega arith) (longer n)
  where
    longer : (n : ℕ) → (3 * n - 1) + (1 + (pass_length n + 1)) ≡ 3 * suc n - 1
    longer zero = omega arith
    longer (suc n) = omega arith

-- at m + 2 bits
left-sized : (m : ℕ) → m ≤ 30 → Sized (m + 3) (m + 3) (triangle m + m) (3 * m + 6) (left_over (suc (suc m)))
unfolding left_over
left-sized m few =
    let w = suc (suc m) in
    let z : suc (suc m) - 2 ≡ m = omega arith in
    let g = last_role false in
    let q = half_after w in
    let three : List Step = clear w g ∷ below (q ∷ []) (1 ∷ []) g m m ∷ clear w more_row ∷ [] in
    let front : Sized 3 3 m (4 + (1 + (pass_length m + 1))) three =
    record { cost = counts-same _ _ _ _ _ _ (omega arith) (omega arith) (omega arith); long = omega arith; rows = (omega arith, omega arith, (omega arith, omega arith, (omega arith, omega arith, tt))) } in
    rw z (sized-as (sized-append three (lower w m) front (lower-sized w m (omega arith))) (omega arith) (omega arith) (omega arith) (longer m))
  where
    longer : (m : ℕ) → (4 + (1 + (pass_length m + 1))) + (3 * m - 1) ≡ 3 * m + 6
    longer zero = refl
    longer (suc m) = omega arith

-- ---- what a mode adds

-- the searches, the updates and the passes
abbrev round_searches : (mode w : ℕ) → ℕ
round_searches mode w = cond (eqb mode 2) 0 (4 * w + 2 + length (mode_on mode))

abbrev round_updates : (mode w : ℕ) → ℕ
round_updates mode w = cond (eqb mode 2) 0 (3 * w + 3)

abbrev round_passes : (mode w : ℕ) → ℕ
round_passes mode w = cond (eqb mode 2) 0 (w * (w - 1) / 2)

half-square : (m : ℕ) → suc (suc m) * (suc (suc m) - 1) / 2 ≡ triangle m + m + (m + 1)
half-square m =
    let z : suc (suc m) - 1 ≡ m + 1 = omega arith in
    let t : 2 * triangle (suc (suc m)) + suc (suc m) ≡ suc (suc m) * suc (suc m) = twice-triangle (suc (suc m)) in
    let p : suc (suc m) * (m + 1) ≡ 2 * (triangle m + m + (m + 1)) = omega (arith, t) in
    rw (z, p) (omega arith)

rounding-sized : (mode m : ℕ) → m ≤ 30
    → Sized (round_searches mode (suc (suc m))) (round_updates mode (suc (suc m))) (round_passes mode (suc (suc m))) (rounding_length mode (suc (suc m))) (rounding mode (suc (suc m)))
unfolding rounding
rounding-sized mode m few = ⊎_elim (λ (is : mode ≡ 2). rw is none-sized) (λ (other : mode ≢ 2). rw (ne_eqb mode 2 other) (up other)) (cases_eq mode 2)
  where
    w : ℕ
    w = suc (suc m)

    g : ℕ
    g = last_role false

    up : mode ≢ 2 → Sized (4 * suc (suc m) + 2 + length (mode_on mode)) (3 * suc (suc m) + 3) (suc (suc m) * (suc (suc m) - 1) / 2) (9 * suc (suc m) + 2 + length (mode_on mode))
        (left_over (suc (suc m)) ++ mode_steps (suc (suc m)) mode moved_row (last_role false) more_row)
    up other =
        let last : Sized (3 * suc (suc m) + 1 + length (mode_on mode)) (2 * suc (suc m) + 2) (suc (suc m) - 1) (6 * suc (suc m) + 2 + length (mode_on mode)) (mode_steps w mode moved_row g more_row) = record {
          cost = increment-counts w moved_row (mode_rows mode moved_row g more_row) (mode_on mode) (omega arith) (mode-some mode other);
          long = increment-length w moved_row (mode_rows mode moved_row g more_row) (mode_on mode) (omega arith) (mode-some mode other);
          rows = increment-rows w moved_row (mode_rows mode moved_row g more_row) (mode_on mode);
        } in
        let h = half-square m in
        sized-as (sized-append (left_over w) (mode_steps w mode moved_row g more_row) (left-sized m few) last) (omega arith) (omega arith) (omega (arith, h)) (omega arith)

-- ---- the flag and the clipped number

flagging-sized : (n : ℕ) → n ≤ 31 → Sized (n + 2) (n + 2) n (3 * n + 4) (flagging (suc n))
unfolding flagging
flagging-sized n few =
    let z : suc n - 1 ≡ n = omega arith in
    let two : List Step = clear (suc n) overflow_row ∷ above (corrected_row ∷ moved_row ∷ []) (2 ∷ []) overflow_row n 0 ∷ [] in
    let front : Sized 2 2 0 4 two = record { cost = refl; long = refl; rows = (omega arith, omega arith, (omega arith, omega arith, tt)) } in
    rw z (sized-as (sized-append two (downs overflow_row n) front (downs-sized overflow_row n (omega arith))) (omega arith) (omega arith) (omega arith) (omega arith))

clipping-sized : (w row : ℕ) → Sized 5 3 0 8 (clipping w row)
unfolding clipping
clipping-sized w row = record { cost = refl; long = refl; rows = (omega arith, omega arith, (omega arith, omega arith, (omega arith, omega arith, tt))) }

-- ---- the whole list

abbrev body_searches : (mode w : ℕ) → ℕ
body_searches mode w = w * (15 * w + 41) + 5 + round_searches mode w

abbrev body_updates : (mode w : ℕ) → ℕ
body_updates mode w = w * (3 * w + 17) + 13 + round_updates mode w

abbrev body_passes : (mode w : ℕ) → ℕ
body_passes mode w = w * (3 * w + 5) - 5 + round_passes mode w

fraction-sized : (mode m a b : ℕ) → m ≤ 30
    → Sized (body_searches mode (suc (suc m))) (body_updates mode (suc (suc m))) (body_passes mode (suc (suc m))) (suc (suc m) * (20 * suc (suc m) + 64) + 15 + rounding_length mode (suc (suc m)))
    (fraction_steps mode (suc (suc m)) a b)
unfolding fraction_steps
fraction-sized mode m a b few =
    let n = suc m in
    let w = suc (suc m) in
    let one = correcting-sized n b a high_row total_row (omega arith) in
    let two = correcting-sized n a b total_row corrected_row (omega arith) in
    let both = sized-append (correcting w b a high_row total_row) (correcting w a b total_row corrected_row) one two in
    let first = sized-append (multiplying w a b) (both_corrections w a b) (multiplying-sized n a b (omega arith) (omega arith)) both in
    let row = rounded_row mode in
    sized-as (sized-append (multiplying w a b ++ both_corrections w a b) (quotient w ++ (rounding mode w ++ (flagging w ++ clipping w row))) first
    (sized-append (quotient w) (rounding mode w ++ (flagging w ++ clipping w row)) (doubled-sized w corrected_row moved_row (half_after w) (omega arith) (omega arith) (omega arith))
    (sized-append (rounding mode w) (flagging w ++ clipping w row) (rounding-sized mode m few)
    (sized-append (flagging w) (clipping w row) (flagging-sized n (omega arith)) (clipping-sized w row)))))
    (omega arith) (omega arith) (omega arith) (omega arith)

-- ---- measured

test-tally : (w row : ℕ) → tally (clip_test w row) ≡ counts 1 0 0
unfolding tally
test-tally w row = refl

test-range : (columns w row : ℕ) → AllInRange columns (clip_test w row)
unfolding AllInRange
test-range columns w row = (tt, (omega arith, tt))

counts-by : (mode w : ℕ) → 0 < w
    → counts_and (counts (body_searches mode w) (body_updates mode w) (body_passes mode w)) (counts_and (counts 1 0 0) (counts 2 2 0)) ≡ smul_counts mode w
counts-by mode w some = by (eqb mode 2)
  where
    by : (down : Bool)
        → counts_and (counts (w * (15 * w + 41) + 5 + cond down 0 (4 * w + 2 + length (mode_on mode))) (w * (3 * w + 17) + 13 + cond down 0 (3 * w + 3)) (w * (3 * w + 5) - 5 + cond down 0 (w * (w - 1) / 2))) (counts_and (counts 1 0 0) (counts 2 2 0))
        ≡ cond down (counts (w * (15 * w + 41) + 8) (w * (3 * w + 17) + 15) (w * (3 * w + 5) - 5))
        (counts (w * (15 * w + 45) + 10 + length (mode_on mode)) (w * (3 * w + 20) + 18) (w * (3 * w + 5) - 5 + w * (w - 1) / 2))
    by true = counts-same _ _ _ _ _ _ (omega arith) (omega arith) (omega arith)
    by false = counts-same _ _ _ _ _ _ (omega arith) (omega arith) (omega arith)

whole-measured : (mode m a b to : ℕ) → m ≤ 30 → to < 32
    → Measured (smul_counts mode (suc (suc m))) (smul_length mode (suc (suc m)))
    (micros (suc (suc m)) (fraction_steps mode (suc (suc m)) a b) ++ (clip_test (suc (suc m)) overflow_row ++ micros (suc (suc m)) (commit (suc (suc m)) clipped_row to)))
whole-measured mode m a b to few register =
    let w = suc (suc m) in
    let steps = fraction_steps mode w a b in
    let test = clip_test w overflow_row in
    let last = micros w (commit w clipped_row to) in
    let f = measured w steps (fraction-sized mode m a b few) in
    let c = measured w (commit w clipped_row to) (commit-sized w clipped_row to register) in
    record {
      cost = tally-append (micros w steps) (test ++ last)
          ∙ rw (f.cost, tally-append test last, test-tally w overflow_row, c.cost) (counts-by mode w (omega arith));
      count = length-append (micros w steps) (test ++ last) ∙ rw (f.count, c.count) (omega arith);
      range = λ columns. AllInRange-append columns (micros w steps) (test ++ last) (f.range columns) (AllInRange-append columns test last (test-range columns w overflow_row) (c.range columns));
    }

pub smul-measured : (mode w a b to : ℕ) → 1 < w → w ≤ 32 → to < 32
    → Measured (smul_counts mode w) (smul_length mode w) (micros w (fraction_steps mode w a b) ++ (clip_test w overflow_row ++ micros w (commit w clipped_row to)))
smul-measured mode zero a b to wide few register = absurd (omega arith)
smul-measured mode (suc zero) a b to wide few register = absurd (omega arith)
smul-measured mode (suc (suc m)) a b to wide few register = whole-measured mode m a b to (omega arith) register
