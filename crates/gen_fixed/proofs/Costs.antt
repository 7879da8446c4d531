-- What the lists of averages and of sums and differences that are clipped cost, how long they are, and that a chain can run them.
use Rattle.std.proofs.Common.{◌≡◌, ℕ, zero, suc, ◌+◌, ◌-◌, ◌*◌, ◌<◌, ◌≤◌, Bool, true, false, cond, List, [], ◌∷◌, ◌++◌, length, refl, ◌∙◌, arith, length-append}
use Rattle.cam_chain.specs.declared.counts.Counts.{Counts}
use Rattle.micro_ir.specs.Increments.{increment}
use Rattle.micro_ir.specs.Measures.{counts, Measured}
use Rattle.micro_ir.specs.Pieces.{everywhere, above, clear, commit, downs, broadcast}
use Rattle.micro_ir.specs.Replay.{AllInRange, tally}
use Rattle.micro_ir.specs.Steps.{Step, micros}
use Rattle.micro_ir.specs.WorkRows.{carry_row, result_row, truth_row}
use Rattle.micro_ir.specs.declared.op.MicroOp.{MicroOp}
use Rattle.micro_ir.proofs.Incrementing.{increment-counts, increment-length, increment-rows}
use Rattle.micro_ir.proofs.Lists.{tally-append, AllInRange-append}
use Rattle.row_views.specs.Clips.{clip_test}
use Rattle.gen_arith.specs.Recipes.{ripple, odd_on}
use Rattle.gen_arith.proofs.Costs.{counts-same}
use Rattle.gen_shift.specs.Rows.{moved_row}
use Rattle.row_sums.specs.Sums.{total_row, sum_from, halved}
use Rattle.row_sums.proofs.Costs.{Sized, sized-append, sized-as, measured, none-sized, clear-sized, commit-sized, downs-sized, broadcast-sized, ripple-sized, sum_from-sized, halved-sized}
use Rattle.gen_fixed.specs.declared.kinds.Saturating.{Saturating}
use Rattle.gen_fixed.specs.declared.kinds.Saturating.TheVariants.{Saddu, Sadd, Ssubu, Ssub}
use Rattle.gen_fixed.specs.Lists.{overflow_row, operands, carries_of, beyond_on, beyond, halving, half_rows, half_on, is_down, averaging, average_steps, bounded, bound_on, saturating_unsigned, overflow_on, overflowing, saturating_signed}
use Rattle.gen_fixed.specs.Kinds.{average_counts, average_length, has_sign, is_difference, saturating_list, saturating_counts, saturated_length, saturating_length}

-- ---- averages

ripple-made : (sub : Bool) (n a b : ℕ) → Sized (8 * n + 4) (2 * n + 1) n (11 * n + 5) (ripple (suc n) (operands a b) odd_on (carries_of sub) carry_row total_row (suc n))
ripple-made false n a b = sized-as (ripple-sized n (operands a b) 1 (2 ∷ 4 ∷ 7 ∷ []) 3 (5 ∷ 6 ∷ 7 ∷ []) carry_row total_row (omega arith) (omega arith)) (omega arith) (omega arith) (omega arith) (omega arith)
ripple-made true n a b = sized-as (ripple-sized n (operands a b) 1 (2 ∷ 4 ∷ 7 ∷ []) 1 (4 ∷ 5 ∷ 7 ∷ []) carry_row total_row (omega arith) (omega arith)) (omega arith) (omega arith) (omega arith) (omega arith)

last-made : (sign sub : Bool) (w a b : ℕ) → Sized 4 1 0 5 (above (operands a b) (beyond_on sign sub) truth_row (w - 1) 0 ∷ [])
last-made false false w a b = record { cost = refl; long = refl; rows = (omega arith, omega arith, tt) }
last-made false true w a b = record { cost = refl; long = refl; rows = (omega arith, omega arith, tt) }
last-made true false w a b = record { cost = refl; long = refl; rows = (omega arith, omega arith, tt) }
last-made true true w a b = record { cost = refl; long = refl; rows = (omega arith, omega arith, tt) }

beyond-sized : (sign sub : Bool) (n a b : ℕ) → Sized (8 * n + 11) (2 * n + 5) n (11 * n + 16) (beyond (carries_of sub) (beyond_on sign sub) (suc n) a b)
beyond-sized sign sub n a b =
    let w = suc n in
    let clears : List Step = clear w carry_row ∷ clear w total_row ∷ clear w truth_row ∷ [] in
    let three : Sized 3 3 0 6 clears = record { cost = refl; long = refl; rows = (omega arith, omega arith, (omega arith, omega arith, (omega arith, omega arith, tt))) } in
    let rip = ripple w (operands a b) odd_on (carries_of sub) carry_row total_row w in
    let last = above (operands a b) (beyond_on sign sub) truth_row (w - 1) 0 ∷ [] in
    sized-as (sized-append clears (rip ++ last) three (sized-append rip last (ripple-made sub n a b) (last-made sign sub w a b))) (omega arith) (omega arith) (omega arith) (omega arith)

one-value : (mode : ℕ) → length (half_on mode) ≡ 1
one-value zero = refl
one-value (suc zero) = refl
one-value (suc (suc mode)) = refl

increment-sized : (mode n : ℕ) → Sized (3 * n + 5) (2 * n + 4) n (6 * n + 9) (increment (suc n) moved_row (half_rows mode) (half_on mode))
increment-sized mode n =
    let one = one-value mode in
    record {
      cost = increment-counts (suc n) moved_row (half_rows mode) (half_on mode) (omega arith) (omega arith) ∙ counts-same _ _ _ _ _ _ (omega (arith, one)) (omega arith) (omega arith);
      long = increment-length (suc n) moved_row (half_rows mode) (half_on mode) (omega arith) (omega arith) ∙ omega (arith, one);
      rows = increment-rows (suc n) moved_row (half_rows mode) (half_on mode);
    }

halving-sized : (sign sub : Bool) (n a b : ℕ) → Sized (8 * n + 14) (2 * n + 8) (n + 1) (11 * n + 23) (halving (carries_of sub) (beyond_on sign sub) (suc n) a b)
halving-sized sign sub n a b =
    let half = halved (suc n) total_row moved_row truth_row (suc n - 1) 0 in
    sized-as (sized-append (beyond (carries_of sub) (beyond_on sign sub) (suc n) a b) half (beyond-sized sign sub n a b) (halved-sized (suc n) total_row moved_row truth_row (suc n - 1) (omega arith)))
    (omega arith) (omega arith) (omega arith) (omega arith)

abbrev averages : (down sign sub : Bool) (mode n a b to : ℕ) → List Step
averages down sign sub mode n a b to =
    (halving (carries_of sub) (beyond_on sign sub) (suc n) a b ++ cond down [] (increment (suc n) moved_row (half_rows mode) (half_on mode))) ++ commit (suc n) (cond down moved_row result_row) to

abbrev AverageSized : (down sign sub : Bool) (mode n a b to : ℕ) → Type 0
AverageSized down sign sub mode n a b to =
    (let c = cond down (counts (8 * suc n + 8) (2 * suc n + 8) (suc n)) (counts (11 * suc n + 10) (4 * suc n + 10) (2 * suc n - 1)) in
    Sized c.searches c.updates c.passes (cond down (11 * suc n + 16) (17 * suc n + 19)) (averages down sign sub mode n a b to))

average-sized : (down sign sub : Bool) (mode n a b to : ℕ) → to < 32 → AverageSized down sign sub mode n a b to
average-sized true sign sub mode n a b to register =
    let h = halving (carries_of sub) (beyond_on sign sub) (suc n) a b in
    sized-as (sized-append (h ++ []) (commit (suc n) moved_row to) (sized-append h [] (halving-sized sign sub n a b) none-sized) (commit-sized (suc n) moved_row to register))
    (omega arith) (omega arith) (omega arith) (omega arith)
average-sized false sign sub mode n a b to register =
    let h = halving (carries_of sub) (beyond_on sign sub) (suc n) a b in
    let i = increment (suc n) moved_row (half_rows mode) (half_on mode) in
    sized-as (sized-append (h ++ i) (commit (suc n) result_row to) (sized-append h i (halving-sized sign sub n a b) (increment-sized mode n)) (commit-sized (suc n) result_row to register))
    (omega arith) (omega arith) (omega arith) (omega arith)

as-counts : {s u p n : ℕ} (c : Counts) (steps : List Step) (w : ℕ) → c ≡ counts s u p → Sized s u p n steps → Measured c n (micros w steps)
as-counts c steps w is x = rw is (measured w steps x)

pub average-measured : (sign sub : Bool) (mode w a b to : ℕ) → 0 < w → to < 32 → Measured (average_counts mode w) (average_length mode w) (micros w (average_steps sign sub mode w a b to))
unfolding averaging
average-measured sign sub mode zero a b to some register = absurd (omega arith)
average-measured sign sub mode (suc n) a b to some register = by (is_down mode)
  where
    by : (down : Bool)
        → Measured (cond down (counts (8 * suc n + 8) (2 * suc n + 8) (suc n)) (counts (11 * suc n + 10) (4 * suc n + 10) (2 * suc n - 1))) (cond down (11 * suc n + 16) (17 * suc n + 19)) (micros (suc n) (averages down sign sub mode n a b to))
    by true = measured (suc n) (averages true sign sub mode n a b to) (average-sized true sign sub mode n a b to register)
    by false = measured (suc n) (averages false sign sub mode n a b to) (average-sized false sign sub mode n a b to register)

-- the length of the parts
pub average-size : (mode w : ℕ) → average_length mode w ≡ (11 * w + 12) + (cond (is_down mode) 0 (6 * w + 3) + 4)
average-size mode w = elim (is_down mode) as (λ (b : Bool). cond b (11 * w + 16) (17 * w + 19) ≡ (11 * w + 12) + (cond b 0 (6 * w + 3) + 4)) [
  | true ↦ omega arith
  | false ↦ omega arith
]

-- ---- sums and differences that are clipped

bound-made : (sub : Bool) (w : ℕ) → Sized (cond sub 1 3) 1 0 (cond sub 2 4) (everywhere w (total_row ∷ truth_row ∷ []) (bound_on sub) result_row true ∷ [])
bound-made false w = record { cost = refl; long = refl; rows = (omega arith, omega arith, tt) }
bound-made true w = record { cost = refl; long = refl; rows = (omega arith, omega arith, tt) }

pub bounded-sized : (lanes w row out : ℕ) → out < 64 → Sized 9 3 0 12 (bounded lanes w row out)
bounded-sized lanes w row out low = record { cost = refl; long = refl; rows = (low, omega arith, (low, omega arith, (low, omega arith, tt))) }

flag-made : (sub : Bool) (w a b : ℕ) → Sized 2 1 0 3 (above (a ∷ b ∷ total_row ∷ []) (overflow_on sub) overflow_row (w - 1) 0 ∷ [])
flag-made false w a b = record { cost = refl; long = refl; rows = (omega arith, omega arith, tt) }
flag-made true w a b = record { cost = refl; long = refl; rows = (omega arith, omega arith, tt) }

unsigned-sized : (sub : Bool) (n a b : ℕ) → Sized (9 * n + cond sub 13 15) (3 * n + 7) (2 * n) (14 * n + cond sub 20 22) (saturating_unsigned sub (suc n) a b)
unfolding saturating_unsigned
unsigned-sized false n a b =
    let w = suc n in
    let first = beyond (carries_of false) (carries_of false) w a b in
    let spread = downs truth_row (w - 1) in
    let c = clear w result_row ∷ [] in
    let d = everywhere w (total_row ∷ truth_row ∷ []) (bound_on false) result_row true ∷ [] in
    let z : suc n - 1 ≡ n = omega arith in
    let s : Sized n n n (3 * n) spread = rw z (downs-sized truth_row n (omega arith)) in
    sized-as (sized-append first (spread ++ (c ++ d)) (beyond-sized false false n a b) (sized-append spread (c ++ d) s (sized-append c d (clear-sized w result_row (omega arith)) (bound-made false w))))
    (omega arith) (omega arith) (omega arith) (omega arith)
unsigned-sized true n a b =
    let w = suc n in
    let first = beyond (carries_of true) (carries_of true) w a b in
    let spread = downs truth_row (w - 1) in
    let c = clear w result_row ∷ [] in
    let d = everywhere w (total_row ∷ truth_row ∷ []) (bound_on true) result_row true ∷ [] in
    let z : suc n - 1 ≡ n = omega arith in
    let s : Sized n n n (3 * n) spread = rw z (downs-sized truth_row n (omega arith)) in
    sized-as (sized-append first (spread ++ (c ++ d)) (beyond-sized false true n a b) (sized-append spread (c ++ d) s (sized-append c d (clear-sized w result_row (omega arith)) (bound-made true w))))
    (omega arith) (omega arith) (omega arith) (omega arith)

none-in : Sized 0 0 0 0 (above [] [] carry_row 0 0 ∷ [])
none-in = record { cost = refl; long = refl; rows = (omega arith, omega arith, tt) }

sum-made : (sub : Bool) (n a b : ℕ) → Sized (8 * n + 6) (2 * n + 3) n (11 * n + 9) (sum_from (suc n) [] [] (operands a b) odd_on (carries_of sub) total_row)
sum-made false n a b =
    let z : suc n - 1 ≡ n = omega arith in
    sized-as (sum_from-sized n [] [] (operands a b) 1 (2 ∷ 4 ∷ 7 ∷ []) 3 (5 ∷ 6 ∷ 7 ∷ []) total_row (omega arith) none-in) (omega arith) (omega arith) (omega arith) (omega (arith, z))
sum-made true n a b =
    let z : suc n - 1 ≡ n = omega arith in
    sized-as (sum_from-sized n [] [] (operands a b) 1 (2 ∷ 4 ∷ 7 ∷ []) 1 (4 ∷ 5 ∷ 7 ∷ []) total_row (omega arith) none-in) (omega arith) (omega arith) (omega arith) (omega (arith, z))

overflowing-sized : (sub : Bool) (n a b : ℕ) → Sized (n + 3) (n + 2) n (3 * n + 5) (overflowing sub (suc n) a b)
overflowing-sized sub n a b =
    let w = suc n in
    let z : suc n - 1 ≡ n = omega arith in
    let c = clear w overflow_row ∷ [] in
    let f = above (a ∷ b ∷ total_row ∷ []) (overflow_on sub) overflow_row (w - 1) 0 ∷ [] in
    let s : Sized n n n (3 * n) (downs overflow_row (w - 1)) = rw z (downs-sized overflow_row n (omega arith)) in
    sized-as (sized-append c (f ++ downs overflow_row (w - 1)) (clear-sized w overflow_row (omega arith)) (sized-append f (downs overflow_row (w - 1)) (flag-made sub w a b) s))
    (omega arith) (omega arith) (omega arith) (omega arith)

signed-sized : (sub : Bool) (n a b : ℕ) → Sized (10 * n + 20) (4 * n + 10) (3 * n) (17 * n + 30) (saturating_signed sub (suc n) a b)
unfolding saturating_signed
signed-sized sub n a b =
    let w = suc n in
    let sums = sum_from w [] [] (operands a b) odd_on (carries_of sub) total_row in
    let flag = overflowing sub w a b in
    let cast = broadcast w a (w - 1) in
    let last = bounded w w total_row result_row in
    sized-as (sized-append sums (flag ++ (cast ++ last)) (sum-made sub n a b) (sized-append flag (cast ++ last) (overflowing-sized sub n a b) (sized-append cast last (broadcast-sized w a (w - 1) (omega arith)) (bounded-sized w w total_row result_row (omega arith)))))
    (omega arith) (omega arith) (omega arith) (omega arith)

-- a list of steps, a look for the flag, and a commit
flagged-measured : {s u p n : ℕ} (w row to : ℕ) (steps : List Step) → 0 < w → to < 32 → Sized s u p n steps
    → Measured (counts (s + 3) (u + 2) p) (n + 6) (micros w steps ++ (clip_test w row ++ micros w (commit w result_row to)))
unfolding tally AllInRange
flagged-measured w row to steps some register x =
    let first = measured w steps x in
    let last = measured w (commit w result_row to) (commit-sized w result_row to register) in
    record {
      cost = tally-append (micros w steps) (clip_test w row ++ micros w (commit w result_row to))
          ∙ rw (first.cost, last.cost) (counts-same _ _ _ _ _ _ (omega arith) (omega arith) (omega arith));
      count = length-append (micros w steps) (clip_test w row ++ micros w (commit w result_row to)) ∙ rw (first.count, last.count) (omega arith);
      range = λ columns. AllInRange-append columns (micros w steps) (clip_test w row ++ micros w (commit w result_row to)) (first.range columns)
          (AllInRange-append columns (clip_test w row) (micros w (commit w result_row to)) (tt, (omega arith, tt)) (last.range columns));
    }

measured-same : {s u p n t v q m : ℕ} (ops : List MicroOp) → s ≡ t → u ≡ v → p ≡ q → n ≡ m → Measured (counts s u p) n ops → Measured (counts t v q) m ops
measured-same ops a b c d x = record { cost = x.cost ∙ counts-same _ _ _ _ _ _ a b c; count = x.count ∙ d; range = x.range }

pub saturating-measured : (kind : Saturating) (w a b to : ℕ) → 0 < w → to < 32 → Measured (saturating_counts kind w) (saturating_length kind w) (saturating_list (has_sign kind) (is_difference kind) w a b to)
saturating-measured kind zero a b to some register = absurd (omega arith)
saturating-measured Saddu (suc n) a b to some register =
    measured-same _ (omega arith) (omega arith) (omega arith) (omega arith) (flagged-measured (suc n) truth_row to (saturating_unsigned false (suc n) a b) some register (unsigned-sized false n a b))
saturating-measured Sadd (suc n) a b to some register =
    measured-same _ (omega arith) (omega arith) (omega arith) (omega arith) (flagged-measured (suc n) overflow_row to (saturating_signed false (suc n) a b) some register (signed-sized false n a b))
saturating-measured Ssubu (suc n) a b to some register =
    measured-same _ (omega arith) (omega arith) (omega arith) (omega arith) (flagged-measured (suc n) truth_row to (saturating_unsigned true (suc n) a b) some register (unsigned-sized true n a b))
saturating-measured Ssub (suc n) a b to some register =
    measured-same _ (omega arith) (omega arith) (omega arith) (omega arith) (flagged-measured (suc n) overflow_row to (saturating_signed true (suc n) a b) some register (signed-sized true n a b))

-- the lengths of the parts
pub saturating-size : (kind : Saturating) (w : ℕ) → saturating_length kind w ≡ saturated_length (has_sign kind) (is_difference kind) w + 6
saturating-size Saddu w = omega arith
saturating-size Sadd w = omega arith
saturating-size Ssubu w = omega arith
saturating-size Ssub w = omega arith

pub unsigned-size : (sub : Bool) (w : ℕ) → 0 < w → saturated_length false sub w ≡ (11 * w + 5) + (3 * (w - 1) + (2 + (length (bound_on sub) + 1)))
unsigned-size false w some = omega arith
unsigned-size true w some = omega arith

-- no list is longer
pub average-few : (mode w : ℕ) → average_length mode w ≤ 17 * w + 19
average-few mode w = elim (is_down mode) as (λ (b : Bool). cond b (11 * w + 16) (17 * w + 19) ≤ 17 * w + 19) [
  | true ↦ omega arith
  | false ↦ omega arith
]

pub saturating-few : (kind : Saturating) (w : ℕ) → saturating_length kind w ≤ 17 * w + 19
saturating-few Saddu w = omega arith
saturating-few Sadd w = omega arith
saturating-few Ssubu w = omega arith
saturating-few Ssub w = omega arith

-- the flag of a row
pub test-measured : (w row : ℕ) → Measured (counts 1 0 0) 2 (clip_test w row)
unfolding tally AllInRange
test-measured w row = record { cost = refl; count = refl; range = λ columns. (tt, (omega arith, tt)) }
