-- Shifts to the right that round, under the four modes.
use Rattle.std.proofs.Common.{◌≡◌, ◌≢◌, ℕ, ◌+◌, ◌-◌, ◌^◌, ◌<◌, ◌≤◌, Bool, true, false, ◌||◌, eqb, refl, sym, ap, ◌∙◌, arith, ⊎_elim}
use Rattle.std.specs.Int.{int_shr}
use Rattle.std.proofs.lemmas.Bool.{cases_eq, ne_eqb}
use Rattle.std.proofs.lemmas.Nat.{pow_pos}
use Rattle.bit_laws.specs.Numbers.{number, low}
use Rattle.bit_laws.specs.Rounding.{bit_of_int, low_int, rounded, last_out, more_out}
use Rattle.bit_laws.proofs.Numbers.{number-lt, number-same}
use Rattle.bit_laws.proofs.Ints.{int-low}
use Rattle.bit_laws.proofs.Rounding.{rounds, plus-zero}
use Rattle.micro_ir.specs.Steps.{steps_on}
use Rattle.micro_ir.specs.WorkRows.{carry_row, result_row}
use Rattle.micro_ir.proofs.StepLists.{steps_on-append}
use Rattle.gen_shift.specs.declared.kinds.Shift.{Shift}
use Rattle.gen_shift.specs.Laws.{AreModeRows}
use Rattle.gen_shift.specs.Rows.{shift_role, shifted_row, last_role, last_row, more_row, sign_row, rounded_row, is_odd, is_among, stage_rows, work_rows, rounding_rows}
use Rattle.gen_shift.specs.Lists.{goes_up, moved_bits, shifting, mode_steps, rounding}
use Rattle.gen_shift.specs.Kinds.{read_as, rounded_value}
use Rattle.gen_shift.proofs.GoneOut.{last-same, more-same}
use Rattle.gen_shift.proofs.Shifts.{shift-done, read_bits, read-is, read-bit, moved-int, down-number, amount, low-room}
use Rattle.gen_shift.proofs.Adding.{mode-added}

-- the rows of the quotient and of what went out, after an odd number of stages or not
mode-roles : (p : Bool) → AreModeRows (shift_role p) (last_role p) more_row
mode-roles true = record {
  quotient_low = omega arith;
  last_low = omega arith;
  more_low = omega arith;
  quotient_high = omega arith;
  last_high = omega arith;
  more_high = omega arith;
  above_last = λ q. absurd (omega arith);
  above_more = λ q. absurd (omega arith);
  below = λ q. absurd (omega arith);
}
mode-roles false = record {
  quotient_low = omega arith;
  last_low = omega arith;
  more_low = omega arith;
  quotient_high = omega arith;
  last_high = omega arith;
  more_high = omega arith;
  above_last = λ q. absurd (omega arith);
  above_more = λ q. absurd (omega arith);
  below = λ q. absurd (omega arith);
}

pub are-mode-rows : (l : ℕ) → AreModeRows (shifted_row l) (last_row l) more_row
are-mode-rows l = mode-roles (is_odd l)

-- What such a shift leaves, from the state e.
pub record RoundingDone (kind : Shift) (mode w l a b : ℕ) (e now : ℕ → ℕ → Bool) : Type 0 where
  pub made : number w (now (rounded_row mode l)) ≡ low_int w (rounded mode (read_bits kind w (e a)) (number l (e b)))
  pub rest : (r i : ℕ) → is_among rounding_rows r ≡ false → now r i ≡ e r i

-- a row that is none of those of all shifts that round is none of those of one
record Free (keeps : Bool) (r : ℕ) : Type 0 where
  work : is_among (work_rows keeps) r ≡ false
  carry : r ≢ carry_row
  result : r ≢ result_row

free-of : (keeps : Bool) (r : ℕ) → is_among rounding_rows r ≡ false → Free keeps r
free-of keeps r h = record { work = by keeps; carry = λ q. apart carry_row refl q; result = λ q. apart result_row refl q }
  where
    apart : (x : ℕ) → is_among rounding_rows x ≡ true → r ≢ x
    apart x k q = let y : true ≡ false = sym k ∙ sym (ap (is_among rounding_rows) q) ∙ h in absurd (cc)

    later : (x y : Bool) → x || y ≡ false → y ≡ false
    later true y p = absurd (cc)
    later false y p = p

    first : (x y : Bool) → x || y ≡ false → x ≡ false
    first true y p = absurd (cc)
    first false y p = refl

    all : is_among (work_rows true) r ≡ false
    all = later (eqb r result_row) (is_among (work_rows true) r) (later (eqb r carry_row) (eqb r result_row || is_among (work_rows true) r) h)

    none : (s a b c t : Bool) → s || (a || (b || (c || t))) ≡ false → s || t ≡ false
    none true a b c t p = absurd (cc)
    none false true b c t p = absurd (cc)
    none false false true c t p = absurd (cc)
    none false false false true t p = absurd (cc)
    none false false false false t p = p

    by : (keeps : Bool) → is_among (work_rows keeps) r ≡ false
    by true = all
    by false = none (eqb r sign_row) (eqb r (last_role false)) (eqb r (last_role true)) (eqb r more_row) (is_among (stage_rows false) r) all

module _ (kind : Shift) (mode w l a b : ℕ) (e : ℕ → ℕ → Bool) (power : w ≡ 2 ^ l) (right : goes_up kind ≡ false) where
  -- a mode that adds nothing
  down : mode ≡ 2 → is_among (work_rows false) a ≡ false → is_among (work_rows false) b ≡ false → RoundingDone kind mode w l a b e (steps_on (rounding kind mode w l a b) e)
  down is a_free b_free =
      let n = number l (e b) in
      let z = read_bits kind w (e a) in
      let now = steps_on (shifting kind false w l a b) e in
      let s = shift-done kind false w l a b e power a_free b_free (λ y. right) in
      rw is (record {
        made = number-same w (now (shifted_row l)) (moved_bits kind (e a (w - 1)) w n (e a)) s.row ∙ down-number kind w n (e a) right ∙ ap (low_int w) (sym (plus-zero (int_shr z n)));
        rest = λ r i h. s.rest r i (free-of false r h).work;
      })

  -- a mode that may add one
  up : mode ≢ 2 → is_among (work_rows true) a ≡ false → is_among (work_rows true) b ≡ false → RoundingDone kind mode w l a b e (steps_on (rounding kind mode w l a b) e)
  up other a_free b_free =
      let some : 0 < w = let p : 0 < 2 ^ l = pow_pos l in omega arith in
      let t = shifted_row l in
      let g = last_row l in
      let e1 = steps_on (shifting kind true w l a b) e in
      let now = steps_on (mode_steps w mode t g more_row) e1 in
      let n = number l (e b) in
      let z = read_bits kind w (e a) in
      let s = shift-done kind true w l a b e power a_free b_free (λ y. right) in
      let i = mode-added w mode t g more_row e1 some (are-mode-rows l) in
      let small : n < 2 ^ l = number-lt l (e b) in
      let room : n ≤ w = omega arith in
      let no : eqb mode 2 ≡ false = ne_eqb mode 2 other in
      let parts : steps_on (rounding kind mode w l a b) e ≡ now = rw no (steps_on-append (shifting kind true w l a b) (mode_steps w mode t g more_row) e) in
      let row_is : rounded_row mode l ≡ result_row = rw no refl in
      let quotient : number w (e1 t) ≡ low_int w (int_shr z n) =
      number-same w (e1 t) (moved_bits kind (e a (w - 1)) w n (e a)) s.row ∙ down-number kind w n (e a) right in
      let zero_is : n + 0 ≡ n = omega arith in
      let odd : e1 t 0 ≡ bit_of_int z n = s.row 0 some ∙ moved-int kind w n (e a) right 0 ∙ ap (bit_of_int z) zero_is in
      let last : e1 g 0 ≡ last_out (bit_of_int z) n = s.last refl ∙ last-same n w (e a) (bit_of_int z) room (λ i l. read-bit kind w (e a) i l) in
      let more : e1 more_row 0 ≡ more_out (bit_of_int z) n = s.more refl ∙ more-same n w (e a) (bit_of_int z) room (λ i l. read-bit kind w (e a) i l) in
      let sum : number w (now result_row) ≡ low_int w (rounded mode z n) = rounds w mode z n _ (number w (e1 t)) (e1 t 0) (e1 g 0) (e1 more_row 0) quotient i.made odd last more in
      record {
        made = (λ x. number w (parts x (row_is x))) ∙ sum;
        rest = λ r j h. (let f = free-of true r h in ap (λ (x : ℕ → ℕ → Bool). x r j) parts ∙ i.kept r j f.carry f.result ∙ s.rest r j f.work);
      }

  -- under each mode
  pub rounding-done : ((keeps : Bool) → is_among (work_rows keeps) a ≡ false) → ((keeps : Bool) → is_among (work_rows keeps) b ≡ false)
      → RoundingDone kind mode w l a b e (steps_on (rounding kind mode w l a b) e)
  rounding-done a_free b_free = ⊎_elim (λ (is : mode ≡ 2). down is (a_free false) (b_free false)) (λ (other : mode ≢ 2). up other (a_free true) (b_free true)) (cases_eq mode 2)

-- The number of the row is the kind's value.
pub rounded-is : (kind : Shift) (mode w l : ℕ) (x y : ℕ → Bool) → w ≡ 2 ^ l
    → low_int w (rounded mode (read_bits kind w x) (number l y)) ≡ low w (rounded_value kind mode w l (number w x) (number w y))
rounded-is kind mode w l x y power =
    let some : 0 < w = let p : 0 < 2 ^ l = pow_pos l in omega arith in
    rw (read-is kind w x some, amount w l y (low-room w l power)) (int-low w (rounded mode (read_as kind w (number w x)) (low l (number w y))))
