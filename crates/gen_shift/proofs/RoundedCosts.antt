-- What shifts that round cost, and how long their lists are.
use Rattle.std.proofs.Common.{◌≡◌, ◌≢◌, ℕ, ◌+◌, ◌-◌, ◌*◌, ◌/◌, ◌^◌, ◌<◌, ◌≤◌, Bool, true, false, cond, eqb, ◌++◌, length, ◌∙◌, ap, arith, ⊎_elim}
use Rattle.std.proofs.lemmas.Bool.{cases_eq, ne_eqb}
use Rattle.std.proofs.lemmas.Nat.{pow_pos}
use Rattle.cam_chain.specs.declared.counts.Counts.{Counts}
use Rattle.micro_ir.specs.Replay.{counts_and}
use Rattle.micro_ir.specs.Steps.{micros}
use Rattle.micro_ir.specs.Pieces.{commit}
use Rattle.micro_ir.specs.Measures.{counts, Measured}
use Rattle.micro_ir.proofs.Effects.{counts-same}
use Rattle.micro_ir.proofs.Incrementing.{increment-counts, increment-length, increment-rows}
use Rattle.micro_ir.proofs.StepLists.{RowsFit, RowsFit-append, steps_counts, steps_counts-append, tally-micros, steps_length, steps_length-append, length-micros, AllInRange-micros}
use Rattle.gen_shift.specs.declared.kinds.Shift.{Shift}
use Rattle.gen_shift.specs.Rows.{shifted_row, last_row, more_row, rounded_row}
use Rattle.gen_shift.specs.Lists.{shifting, mode_rows, mode_on, mode_steps, rounding, rounded_steps}
use Rattle.gen_shift.specs.Kinds.{raw_counts, raw_length, shifting_length, adding_length, mode_counts, rounding_counts, rounding_length, rounded_counts, rounded_length}
use Rattle.gen_shift.proofs.Adding.{mode-some}
use Rattle.gen_shift.proofs.OutCosts.{triangles-are}
use Rattle.gen_shift.proofs.Costs.{raw-counts, shifting-counts, plain-size, shift-size, shifting-steps, shifting-rows, more-counts}

-- ---- the list with what a mode adds

module _ (kind : Shift) (mode w l a b : ℕ) (is : w ≡ 2 ^ l) where
  some : 0 < w
  some = let p : 0 < 2 ^ l = pow_pos l in omega arith

  up-counts : mode ≢ 2
      → steps_counts (shifting kind true w l a b ++ mode_steps w mode (shifted_row l) (last_row l) more_row)
      ≡ counts_and (raw_counts kind w l) (counts (3 * l + 4 * w + 2 + length (mode_on mode)) (3 * l + 3 * w + 3) (w - 1 + (w - 1) * (w - 2) / 6))
  up-counts other =
      let first = shifting kind true w l a b in
      let last = mode_steps w mode (shifted_row l) (last_row l) more_row in
      let low = some in
      steps_counts-append first last
      ∙ rw (shifting-counts kind true w l a b is, increment-counts w (shifted_row l) (mode_rows mode (shifted_row l) (last_row l) more_row) (mode_on mode) some (mode-some mode other), triangles-are w l is)
      (counts-same _ _ _ _ _ _ (omega (arith, is, low)) (omega (arith, is, low)) (omega arith))

  up-steps : mode ≢ 2
      → steps_length (shifting kind true w l a b ++ mode_steps w mode (shifted_row l) (last_row l) more_row) ≡ raw_length kind w l + (5 * l + 9 * w + 3 + length (mode_on mode))
  up-steps other =
      let first = shifting kind true w l a b in
      let last = mode_steps w mode (shifted_row l) (last_row l) more_row in
      let low = some in
      steps_length-append first last
      ∙ rw (shifting-steps kind true w l a b is, increment-length w (shifted_row l) (mode_rows mode (shifted_row l) (last_row l) more_row) (mode_on mode) some (mode-some mode other))
      (omega (arith, is, low))

  rounding-steps-counts : steps_counts (rounding kind mode w l a b) ≡ rounding_counts kind mode w l
  rounding-steps-counts = ⊎_elim
      (λ (q : mode ≡ 2). rw q (raw-counts kind w l a b is ∙ counts-same _ _ _ _ _ _ (omega arith) (omega arith) (omega arith)))
      (λ (q : mode ≢ 2). rw (ne_eqb mode 2 q) (up-counts q))
      (cases_eq mode 2)

  rounding-steps-length : steps_length (rounding kind mode w l a b) ≡ rounding_length kind mode w l
  rounding-steps-length = ⊎_elim
      (λ (q : mode ≡ 2). rw q (shifting-steps kind false w l a b is ∙ plain-size kind w l ∙ omega arith))
      (λ (q : mode ≢ 2). rw (ne_eqb mode 2 q) (up-steps q))
      (cases_eq mode 2)

  rounding-rows : w ≤ 32 → RowsFit (rounding kind mode w l a b)
  rounding-rows room = by (eqb mode 2)
    where
      few : 2 ^ l ≤ 32
      few = omega arith

      by : (down : Bool) → RowsFit (cond down (shifting kind false w l a b) (shifting kind true w l a b ++ mode_steps w mode (shifted_row l) (last_row l) more_row))
      by true = shifting-rows kind false w l a b few
      by false =
          RowsFit-append (shifting kind true w l a b) (mode_steps w mode (shifted_row l) (last_row l) more_row) (shifting-rows kind true w l a b few)
          (increment-rows w (shifted_row l) (mode_rows mode (shifted_row l) (last_row l) more_row) (mode_on mode))

  pub rounding-measured : w ≤ 32 → Measured (rounding_counts kind mode w l) (rounding_length kind mode w l) (micros w (rounding kind mode w l a b))
  rounding-measured room = record {
    cost = tally-micros w (rounding kind mode w l a b) ∙ rounding-steps-counts;
    count = length-micros w (rounding kind mode w l a b) ∙ rounding-steps-length;
    range = λ columns. AllInRange-micros columns w (rounding kind mode w l a b) (rounding-rows room);
  }

  -- and committed
  pub rounded-measured : (to : ℕ) → w ≤ 32 → to < 32 → Measured (rounded_counts kind mode w l) (rounded_length kind mode w l) (micros w (rounded_steps kind mode w l a b to))
  unfolding rounded_steps
  rounded-measured to room register =
      let first = rounding kind mode w l a b in
      let last = commit w (rounded_row mode l) to in
      record {
        cost = tally-micros w (first ++ last) ∙ steps_counts-append first last ∙ ap (λ (c : Counts). counts_and c (counts 2 2 0)) rounding-steps-counts ∙ swapped (raw_counts kind w l) (mode_counts mode w l) ∙ ap (λ (c : Counts). counts_and c (mode_counts mode w l)) (more-counts kind w l);
        count = length-micros w (first ++ last) ∙ steps_length-append first last ∙ rw rounding-steps-length (let h = shift-size kind w l in omega (arith, h));
        range = λ columns. AllInRange-micros columns w (first ++ last) (RowsFit-append first last (rounding-rows room) (omega arith, omega arith, (omega arith, omega arith, tt)));
      }
    where
      swapped : (x y : Counts) → counts_and (counts_and x y) (counts 2 2 0) ≡ counts_and (counts_and x (counts 2 2 0)) y
      swapped x y = counts-same _ _ _ _ _ _ (omega arith) (omega arith) (omega arith)

-- the length of a list that rounds, part by part
pub down-size : (kind : Shift) (mode w l : ℕ) → mode ≡ 2 → rounding_length kind mode w l ≡ raw_length kind w l
down-size kind mode w l q = rw q (omega arith)

pub up-size : (kind : Shift) (mode w l : ℕ) → w ≡ 2 ^ l → mode ≢ 2 → rounding_length kind mode w l ≡ shifting_length kind true w l + adding_length mode w
up-size kind mode w l is q =
    let low : 0 < w = let p : 0 < 2 ^ l = pow_pos l in omega arith in
    rw (ne_eqb mode 2 q) (omega (arith, is, low))

pub rounded-size : (kind : Shift) (mode w l : ℕ) → rounding_length kind mode w l + 4 ≡ rounded_length kind mode w l
rounded-size kind mode w l = let h = shift-size kind w l in omega (arith, h)
