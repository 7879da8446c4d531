-- The quotient and the remainder of two rows without signs.
use Rattle.std.proofs.Common.{◌≡◌, ◌≢◌, ℕ, ◌+◌, ◌-◌, ◌*◌, ◌/◌, ◌%◌, ◌^◌, ◌<◌, ◌≤◌, Bool, true, false, cond, not, eqb, ◌||◌, List, [], ◌∷◌, ◌++◌, zero, suc, refl, sym, ◌∙◌, ap, arith, ◌⊎◌, ⊎_elim}
use Rattle.std.proofs.Math.Nat.{pow-suc, pow-le-pow_right}
use Rattle.std.proofs.lemmas.Bool.{ne_eqb, eq-eqb, cases_eq}
use Rattle.std.proofs.lemmas.Nat.{mod-mul-add, div-mul-add}
use Rattle.bit_laws.specs.Numbers.{number}
use Rattle.bit_laws.proofs.Numbers.{number-same, number-lt}
use Rattle.micro_ir.specs.Steps.{fires, step_on, steps_on}
use Rattle.micro_ir.proofs.StepLists.{steps_on-append}
use Rattle.micro_ir.proofs.OneElement.{hit, fires-hit, clear-here, step-row, everywhere-here, above-here, above-else}
use Rattle.micro_ir.proofs.Effects.{above-copy, downs-here}
use Rattle.micro_ir.specs.WorkRows.{carry_row, broadcast_row, truth_row}
use Rattle.micro_ir.specs.Pieces.{clear, above, everywhere, downs}
use Rattle.gen_arith.specs.Recipes.{odd_on, borrow_on, first_on}
use Rattle.gen_shift.specs.Rows.{is_odd, is_among}
use Rattle.gen_shift.proofs.Stays.{Within, within-append, within-downs}
use Rattle.row_sums.specs.Sums.{total_row, half_role, half_after, total, shifted_once, doubled}
use Rattle.row_sums.proofs.Kept.{kept, differ, Halves, off_first, turned, apart, halves, half-next}
use Rattle.row_sums.proofs.Places.{doubled-here, raised-here, Up, up-number, number-low}
use Rattle.row_sums.proofs.Totals.{total-on, total-only}
use Rattle.row_sums.proofs.Numbers.{total-difference, number-none}
use Rattle.gen_div.specs.Kinds.{quotient}
use Rattle.gen_div.specs.Lists.{moved_row, rest_row, borrow_row, borrow_last_on, fits_on, entering, choosing, division_round, division_rounds, dividing}
use Rattle.gen_div.proofs.Tables.{borrow_last, odd_last, fits, picks}

-- ---- the numbers of a round

-- r the rest, qt the next bit, x and k their sum and its carry, t and h the difference and its borrow
div_round : (k h : Bool) (r qt x t b m : ℕ) → 2 * r + qt ≡ x + cond k m 0 → t + b ≡ x + cond h m 0 → t < m → x < m → b < m → r < b → qt ≤ 1
    → (2 * r + qt ≡ cond (k || not h) b 0 + cond (k || not h) t x) × (cond (k || not h) t x < b)
div_round true true r qt x t b m e f g i j l o = (omega arith, omega arith)
div_round true false r qt x t b m e f g i j l o = (omega arith, omega arith)
div_round false true r qt x t b m e f g i j l o = (omega arith, omega arith)
div_round false false r qt x t b m e f g i j l o = (omega arith, omega arith)

-- the same by 0
div_round_zero : (k h : Bool) (r qt x t m : ℕ) → 2 * r + qt ≡ x + cond k m 0 → t + 0 ≡ x + cond h m 0 → t < m → x < m → 2 * r + qt < m
    → ((k || not h) ≡ true) × (2 * r + qt ≡ cond (k || not h) t x)
div_round_zero true true r qt x t m e f g i j = (refl, omega arith)
div_round_zero true false r qt x t m e f g i j = (refl, omega arith)
div_round_zero false true r qt x t m e f g i j = (absurd (omega arith), omega arith)
div_round_zero false false r qt x t m e f g i j = (refl, omega arith)

div_more : (s : Bool) (high q r r2 qt b : ℕ) → high ≡ q * b + r → 2 * r + qt ≡ cond s b 0 + r2 → 2 * high + qt ≡ (cond s 1 0 + 2 * q) * b + r2
div_more true high q r r2 qt b e f = omega arith
div_more false high q r r2 qt b e f = omega arith

picked : (w : ℕ) (p : Bool) (x y : ℕ → Bool) → number w (λ j. cond p (x j) (y j)) ≡ cond p (number w x) (number w y)
picked w true x y = refl
picked w false x y = refl

-- ---- one round

abbrev pub division_works : List ℕ
division_works = 35 ∷ 37 ∷ 38 ∷ 40 ∷ 41 ∷ 43 ∷ 44 ∷ 45 ∷ 54 ∷ []

pub record DivisionRound (w b q r : ℕ) (e now : ℕ → ℕ → Bool) : Type 0 where
  pub k : Bool
  pub h : Bool
  pub x : ℕ
  pub t : ℕ
  pub twice : 2 * number w (e rest_row) + cond (e q (w - 1)) 1 0 ≡ x + cond k (2 ^ w) 0
  pub less : t + number w (e b) ≡ x + cond h (2 ^ w) 0
  pub x_small : x < 2 ^ w
  pub t_small : t < 2 ^ w
  pub rest : number w (now rest_row) ≡ cond (k || not h) t x
  pub bit : now r 0 ≡ k || not h
  pub bits : (i : ℕ) → suc i < w → now r (suc i) ≡ e q i

module _ (w b q r : ℕ) (e : ℕ → ℕ → Bool) (b_off : is_among division_works b ≡ false) (pos : 0 < w) (h : Halves q r) where
  q_not : (rows : List ℕ) → is_among rows 43 ≡ false → is_among rows 44 ≡ false → is_among rows q ≡ false
  q_not = off_first q r h

  r_not : (rows : List ℕ) → is_among rows 43 ≡ false → is_among rows 44 ≡ false → is_among rows r ≡ false
  r_not = off_first r q (turned q r h)

  b_not : (x : ℕ) → is_among division_works x ≡ true → b ≢ x
  b_not x = differ b x division_works b_off

  away : (x : ℕ) → is_among (x ∷ []) 43 ≡ false → is_among (x ∷ []) 44 ≡ false → is_among (x ∷ []) x ≡ true → r ≢ x
  away x one two s = differ r x (x ∷ []) (r_not (x ∷ []) one two) s

  pub division_round-on : DivisionRound w b q r e (steps_on (division_round w b q r) e)
  unfolding steps_on division_round
  division_round-on =
      let inputs = moved_row ∷ b ∷ carry_row ∷ [] in
      let d = doubled w rest_row moved_row q in
      let top = above (rest_row ∷ []) (1 ∷ []) truth_row (w - 1) 0 in
      let half = shifted_once w true q r in
      let adds = total w inputs odd_on borrow_last_on total_row borrow_row in
      let f1 = steps_on d e in
      let f2 = step_on (clear w truth_row) f1 in
      let f3 = step_on top f2 in
      let e1 = steps_on half f3 in
      let e2 = steps_on adds e1 in
      let fit = above (truth_row ∷ borrow_row ∷ []) fits_on broadcast_row (w - 1) 0 in
      let down = downs broadcast_row (w - 1) in
      let merge = everywhere w (broadcast_row ∷ total_row ∷ moved_row ∷ []) first_on rest_row true in
      let last = above (broadcast_row ∷ []) (1 ∷ []) r 0 0 in
      let tail = clear w rest_row ∷ merge ∷ last ∷ [] in
      let g1 = step_on (clear w broadcast_row) e2 in
      let g2 = step_on fit g1 in
      let g3 = steps_on down g2 in
      let g4 = step_on (clear w rest_row) g3 in
      let g5 = step_on merge g4 in
      let g6 = step_on last g5 in
      let at : w - 1 + 0 ≡ w - 1 = omega arith in
      let kd : (x : ℕ) → is_among (40 ∷ []) x ≡ false → f1 x ≡ e x = λ x. kept (40 ∷ []) d e x (refl, (refl, (refl, tt))) in
      let kt : (x : ℕ) → is_among (41 ∷ []) x ≡ false → f3 x ≡ f1 x = λ x. kept (41 ∷ []) (clear w truth_row ∷ top ∷ []) f1 x (refl, (refl, tt)) in
      let kh : (x : ℕ) → is_among (43 ∷ 44 ∷ []) x ≡ false → e1 x ≡ f3 x = λ x. kept (43 ∷ 44 ∷ []) half f3 x (r_in, (r_in, tt)) in
      let ka : (x : ℕ) → is_among (35 ∷ 38 ∷ 54 ∷ []) x ≡ false → e2 x ≡ e1 x = λ x. kept (35 ∷ 38 ∷ 54 ∷ []) adds e1 x (total-only (35 ∷ 38 ∷ 54 ∷ []) w inputs odd_on borrow_last_on total_row borrow_row refl refl refl) in
      let kg : (x : ℕ) → is_among (37 ∷ []) x ≡ false → g3 x ≡ e2 x = λ x a. kept (37 ∷ []) down g2 x (within-downs (37 ∷ []) broadcast_row (w - 1) refl) a ∙ kept (37 ∷ []) (clear w broadcast_row ∷ fit ∷ []) e2 x (refl, (refl, tt)) a in
      let x_up : Up w (e rest_row) (e q (w - 1)) (f1 moved_row) = doubled-here w rest_row moved_row q e pos (omega arith) (differ q 40 (40 ∷ []) (q_not (40 ∷ []) refl refl) refl) in
      let r_up : Up w (f3 q) false (e1 r) = raised-here w q r f3 pos (apart q r h) in
      let same_x : e1 moved_row ≡ f1 moved_row = kh moved_row refl ∙ kt moved_row refl in
      let same_b : e1 b ≡ e b = kh b (rw (ne_eqb b 43 (b_not 43 refl), ne_eqb b 44 (b_not 44 refl)) refl) ∙ kt b (rw (ne_eqb b 41 (b_not 41 refl)) refl) ∙ kd b (rw (ne_eqb b 40 (b_not 40 refl)) refl) in
      let same_q : f3 q ≡ e q = kt q (q_not (41 ∷ []) refl refl) ∙ kd q (q_not (40 ∷ []) refl refl) in
      let truth_in : f3 truth_row (w - 1 + 0) ≡ f2 rest_row (w - 1) = above-copy rest_row truth_row (w - 1) 0 f2 (clear-here w truth_row f1 (w - 1 + 0) (omega arith)) in
      let truth_is : e2 truth_row (w - 1) ≡ e rest_row (w - 1) =
      rw (ka truth_row refl, kh truth_row refl) ((rw at at truth_in) ∙ step-row (clear w truth_row) f1 rest_row (w - 1) (omega arith) ∙ rw (kd rest_row refl) refl) in
      let t = total-on w total_row borrow_row inputs odd_on borrow_last_on odd_on borrow_on (λ f. f moved_row) (λ f. f b)
      (λ f. fires-hit inputs odd_on f ∙ odd_last (f moved_row) (f b) (f carry_row)) (λ f. fires-hit inputs borrow_last_on f ∙ borrow_last (f moved_row) (f b) (f carry_row))
      (λ f g same. same moved_row refl) (λ f g same. same b (rw (ne_eqb b 35 (b_not 35 refl), ne_eqb b 38 (b_not 38 refl), ne_eqb b 54 (b_not 54 refl)) refl))
      (omega arith) (omega arith) (omega arith) e1 pos in
      let difference = total-difference w total_row borrow_row (e1 moved_row) (e1 b) e2 t in
      let s = e rest_row (w - 1) || not (e2 borrow_row (w - 1)) in
      let fit0 : g2 broadcast_row (w - 1 + 0) ≡ fires (truth_row ∷ borrow_row ∷ []) fits_on (λ r. g1 r (w - 1)) || g1 broadcast_row (w - 1 + 0) = above-here (truth_row ∷ borrow_row ∷ []) fits_on broadcast_row (w - 1) 0 g1 in
      let fit_is : g2 broadcast_row (w - 1) ≡ s =
      (rw at at fit0) ∙ rw (clear-here w broadcast_row e2 (w - 1) (omega arith), fires-hit (truth_row ∷ borrow_row ∷ []) fits_on (λ r. g1 r (w - 1)))
      (rw (step-row (clear w broadcast_row) e2 truth_row (w - 1) (omega arith), step-row (clear w broadcast_row) e2 borrow_row (w - 1) (omega arith), truth_is) (fits (e rest_row (w - 1)) (e2 borrow_row (w - 1)))) in
      let alone : (i : ℕ) → i < w - 1 → g2 broadcast_row i ≡ false =
      λ i l. above-else (truth_row ∷ borrow_row ∷ []) fits_on broadcast_row (w - 1) 0 g1 broadcast_row i (omega arith) ∙ clear-here w broadcast_row e2 i (omega arith) in
      let all : (i : ℕ) → i < w → g3 broadcast_row i ≡ s = λ i l. downs-here broadcast_row (w - 1) g2 alone i (omega arith) ∙ fit_is in
      let total_stays : g3 total_row ≡ e2 total_row = kg total_row refl in
      let moved_stays : g3 moved_row ≡ f1 moved_row = kg moved_row refl ∙ ka moved_row refl ∙ same_x in
      let rest_at : (i : ℕ) → i < w → g6 rest_row i ≡ cond s (e2 total_row i) (f1 moved_row i) =
      λ i l. step-row last g5 rest_row i (λ z. away 45 refl refl refl (sym z))
      ∙ everywhere-here w (broadcast_row ∷ total_row ∷ moved_row ∷ []) first_on rest_row true g4 i l
      ∙ rw (clear-here w rest_row g3 i l, fires-hit (broadcast_row ∷ total_row ∷ moved_row ∷ []) first_on (λ r. g4 r i))
      (picks (g4 broadcast_row i) (g4 total_row i) (g4 moved_row i)
      ∙ rw (step-row (clear w rest_row) g3 broadcast_row i (omega arith), step-row (clear w rest_row) g3 total_row i (omega arith), step-row (clear w rest_row) g3 moved_row i (omega arith), all i l, total_stays, moved_stays) refl) in
      let half_stays : g5 r ≡ e1 r =
      kept (45 ∷ []) (clear w rest_row ∷ merge ∷ []) g3 r (refl, (refl, tt)) (r_not (45 ∷ []) refl refl) ∙ kg r (r_not (37 ∷ []) refl refl) ∙ ka r (r_not (35 ∷ 38 ∷ 54 ∷ []) refl refl) in
      let bit_off : g5 r 0 ≡ false = rw half_stays r_up.first in
      let bit_is : g6 r 0 ≡ s = above-copy broadcast_row r 0 0 g5 bit_off ∙ step-row merge g4 broadcast_row 0 (omega arith) ∙ step-row (clear w rest_row) g3 broadcast_row 0 (omega arith) ∙ all 0 pos in
      let split : steps_on (entering w q r ++ (adds ++ choosing w r)) e ≡ g6 =
      steps_on-append (entering w q r) (adds ++ choosing w r) e
      ∙ ap (steps_on (adds ++ choosing w r)) (steps_on-append d (clear w truth_row ∷ top ∷ half) e)
      ∙ steps_on-append adds (choosing w r) e1 ∙ steps_on-append down tail g2 in
      rw split (record {
        k = e rest_row (w - 1);
        h = e2 borrow_row (w - 1);
        x = number w (f1 moved_row);
        t = number w (e2 total_row);
        twice = sym (up-number w (e rest_row) (e q (w - 1)) (f1 moved_row) pos x_up);
        less = rw (same_x, same_b) at difference;
        x_small = number-lt w (f1 moved_row);
        t_small = number-lt w (e2 total_row);
        rest = number-same w (g6 rest_row) (λ i. cond s (e2 total_row i) (f1 moved_row i)) rest_at ∙ picked w s (e2 total_row) (f1 moved_row);
        bit = bit_is;
        bits = λ i l. above-else (broadcast_row ∷ []) (1 ∷ []) r 0 0 g5 r (suc i) (omega arith) ∙ (λ n. half_stays n (suc i)) ∙ r_up.inner i l ∙ (λ n. same_q n i);
      })
    where
      r_in : is_among (43 ∷ 44 ∷ []) r ≡ true
      r_in = ⊎_elim (λ (p : (q ≡ 43) × (r ≡ 44)). rw p.1 refl) (λ (p : (q ≡ 44) × (r ≡ 43)). rw p.1 refl) h

-- ---- all rounds

pub division_round-only : (w b q r : ℕ) → Halves q r → Within division_works (division_round w b q r)
unfolding division_round
division_round-only w b q r h =
    let inputs = moved_row ∷ b ∷ carry_row ∷ [] in
    let adds = total w inputs odd_on borrow_last_on total_row borrow_row in
    let r_in : is_among division_works r ≡ true = ⊎_elim (λ (p : (q ≡ 43) × (r ≡ 44)). rw p.1 refl) (λ (p : (q ≡ 44) × (r ≡ 43)). rw p.1 refl) h in
    let merge = everywhere w (broadcast_row ∷ total_row ∷ moved_row ∷ []) first_on rest_row true in
    let tail = clear w rest_row ∷ merge ∷ above (broadcast_row ∷ []) (1 ∷ []) r 0 0 ∷ [] in
    within-append division_works (entering w q r) (adds ++ choosing w r)
    (refl, (refl, (refl, (refl, (refl, (r_in, (r_in, tt)))))))
    (within-append division_works adds (choosing w r) (total-only division_works w inputs odd_on borrow_last_on total_row borrow_row refl refl refl)
    (refl, (refl, within-append division_works (downs broadcast_row (w - 1)) tail (within-downs division_works broadcast_row (w - 1) refl) (refl, (refl, (r_in, tt))))))

pub division_rounds-only : (w b n : ℕ) → Within division_works (division_rounds w b n)
unfolding division_rounds
division_rounds-only w b zero = tt
division_rounds-only w b (suc j) =
    within-append division_works (division_rounds w b j) (division_round w b (half_after j) (half_role (not (is_odd j)))) (division_rounds-only w b j) (division_round-only w b (half_after j) (half_role (not (is_odd j))) (halves (is_odd j)))

-- the highest j bits of w bits
abbrev pub taken : (w j : ℕ) (x : ℕ → Bool) → ℕ
taken w j x = number j (λ i. x (w - j + i))

taken-more : (w j : ℕ) (x : ℕ → Bool) → j < w → taken w (suc j) x ≡ 2 * taken w j x + cond (x (w - suc j)) 1 0
taken-more w j x inside =
    let z : w - suc j + 0 ≡ w - suc j = omega arith in
    let same : number j (λ i. x (w - suc j + suc i)) ≡ taken w j x = number-same j (λ i. x (w - suc j + suc i)) (λ i. x (w - j + i)) (λ i l. let y : w - suc j + suc i ≡ w - j + i = omega arith in ap x y) in
    let p : taken w (suc j) x ≡ cond (x (w - suc j + 0)) 1 0 + 2 * number j (λ i. x (w - suc j + suc i)) = number-low j (λ i. x (w - suc j + i)) in
    let p2 : taken w (suc j) x ≡ cond (x (w - suc j)) 1 0 + 2 * taken w j x = p ∙ rw (z, same) refl in
    omega (arith, p2)

-- After j rounds: w - j bits of the dividend stand above j bits of the quotient. By 0 the quotient is all ones, and the rest is what was taken.
pub record Divided (w j q : ℕ) (x : ℕ → Bool) (d : ℕ) (now : ℕ → ℕ → Bool) : Type 0 where
  pub left : (i : ℕ) → j + i < w → now q (j + i) ≡ x i
  pub value : 0 < d → taken w j x ≡ number j (now q) * d + number w (now rest_row)
  pub small : 0 < d → number w (now rest_row) < d
  pub zero_rest : d ≡ 0 → number w (now rest_row) ≡ taken w j x
  pub zero_ones : d ≡ 0 → (i : ℕ) → i < j → now q i ≡ true

bit_le : (b : Bool) → cond b 1 0 ≤ 1
bit_le true = omega arith
bit_le false = omega arith

ones_more : (f g : ℕ → Bool) (j w : ℕ) → j < w → f 0 ≡ true → ((i : ℕ) → suc i < w → f (suc i) ≡ g i) → ((i : ℕ) → i < j → g i ≡ true) → (i : ℕ) → i < suc j → f i ≡ true
ones_more f g j w h first up low zero l = first
ones_more f g j w h first up low (suc i) l = up i (omega arith) ∙ low i (omega arith)

next : (w b j : ℕ) (x : ℕ → Bool) (d : ℕ) (now end : ℕ → ℕ → Bool) → j < w → number w (now b) ≡ d → Divided w j (half_after j) x d now
    → DivisionRound w b (half_after j) (half_role (not (is_odd j))) now end → Divided w (suc j) (half_role (not (is_odd j))) x d end
next w b j x d now end inside is p o =
    let q = half_after j in
    let r = half_role (not (is_odd j)) in
    let z : j + (w - suc j) ≡ w - 1 = omega arith in
    let left0 : now q (j + (w - suc j)) ≡ x (w - suc j) = p.left (w - suc j) (omega arith) in
    let top : now q (w - 1) ≡ x (w - suc j) = ap (now q) (sym z) ∙ left0 in
    let qt : ℕ = cond (x (w - suc j)) 1 0 in
    let s : Bool = o.k || not o.h in
    let rest : ℕ = number w (now rest_row) in
    let twice : 2 * rest + qt ≡ o.x + cond o.k (2 ^ w) 0 = rw top at o.twice in
    let less : o.t + d ≡ o.x + cond o.h (2 ^ w) 0 = rw is at o.less in
    let d_small : d < 2 ^ w = rw is at (number-lt w (now b)) in
    let shifted : number j (λ i. end r (suc i)) ≡ number j (now q) = number-same j (λ i. end r (suc i)) (now q) (λ i l. o.bits i (omega arith)) in
    let quotient : number (suc j) (end r) ≡ cond s 1 0 + 2 * number j (now q) = number-low j (end r) ∙ rw (shifted, o.bit) refl in
    let high : taken w (suc j) x ≡ 2 * taken w j x + qt = taken-more w j x inside in
    let round : 0 < d → (2 * rest + qt ≡ cond s d 0 + cond s o.t o.x) × (cond s o.t o.x < d) =
    λ pos. div_round o.k o.h rest qt o.x o.t d (2 ^ w) twice less o.t_small o.x_small d_small (p.small pos) (bit_le (x (w - suc j))) in
    let by_zero : d ≡ 0 → (s ≡ true) × (2 * rest + qt ≡ cond s o.t o.x) =
    λ none.
    let less0 : o.t + 0 ≡ o.x + cond o.h (2 ^ w) 0 = rw none at less in
    let under : taken w (suc j) x < 2 ^ suc j = number-lt (suc j) (λ i. x (w - suc j + i)) in
    let most : 2 ^ suc j ≤ 2 ^ w = pow-le-pow_right (omega arith) inside in
    let same : rest ≡ taken w j x = p.zero_rest none in
    div_round_zero o.k o.h rest qt o.x o.t (2 ^ w) twice less0 o.t_small o.x_small (omega arith) in
    record {
      left = λ i l. let y : suc j + i ≡ suc (j + i) = omega arith in ap (end r) y ∙ o.bits (j + i) (omega arith) ∙ p.left i (omega arith);
      value = λ pos. rw (high, quotient, o.rest) (div_more s (taken w j x) (number j (now q)) rest (cond s o.t o.x) qt d (p.value pos) (round pos).0);
      small = λ pos. rw o.rest (round pos).1;
      zero_rest = λ none. let m = by_zero none in let same : rest ≡ taken w j x = p.zero_rest none in rw (o.rest, high) (sym m.1 ∙ rw same refl);
      zero_ones = λ none i l. ones_more (end r) (now q) j w inside (o.bit ∙ (by_zero none).0) o.bits (p.zero_ones none) i l;
    }

pub divided-on : (w b j : ℕ) (x : ℕ → Bool) (e : ℕ → ℕ → Bool) → is_among division_works b ≡ false → j ≤ w
    → ((i : ℕ) → i < w → e 43 i ≡ x i) → ((i : ℕ) → i < w → e rest_row i ≡ false) → Divided w j (half_after j) x (number w (e b)) (steps_on (division_rounds w b j) e)
unfolding steps_on division_rounds
divided-on w b zero x e b_off h start off = record {
  left = λ i l. let y : 0 + i ≡ i = omega arith in rw y (start i (omega arith));
  value = λ pos. rw (number-none w (e rest_row) off) (omega arith);
  small = λ pos. rw (number-none w (e rest_row) off) pos;
  zero_rest = λ none. number-none w (e rest_row) off;
  zero_ones = λ none i l. absurd (omega arith);
}
divided-on w b (suc j) x e b_off h start off =
    let now = steps_on (division_rounds w b j) e in
    let last = division_round w b (half_after j) (half_role (not (is_odd j))) in
    let kb : now b ≡ e b = kept division_works (division_rounds w b j) e b (division_rounds-only w b j) b_off in
    rw (half-next j, steps_on-append (division_rounds w b j) last e)
    (next w b j x (number w (e b)) now (steps_on last now) (omega arith) (ap (number w) kb) (divided-on w b j x e b_off (omega arith) start off)
    (division_round-on w b (half_after j) (half_role (not (is_odd j))) now b_off (omega arith) (halves (is_odd j))))

-- ---- quotient and rest

-- what a division leaves: the quotient and the rest, of numbers below m
pub record Halved (m a b q r : ℕ) : Type 0 where
  pub value : 0 < b → a ≡ q * b + r
  pub small : 0 < b → r < b
  pub zero_rest : b ≡ 0 → r ≡ a
  pub zero_ones : b ≡ 0 → q + 1 ≡ m

number-ones : (n : ℕ) (f : ℕ → Bool) → ((i : ℕ) → i < n → f i ≡ true) → number n f + 1 ≡ 2 ^ n
number-ones zero f h = refl
number-ones (suc n) f h = rw (h n (omega arith), pow-suc 2 n) (omega (arith, number-ones n f (λ i l. h i (omega arith))))

one_row : (x : Bool) → cond (hit (1 ∷ []) (x ∷ [])) true false ≡ x
one_row true = refl
one_row false = refl

pub division-on : (w a b : ℕ) (e : ℕ → ℕ → Bool) → is_among division_works a ≡ false → is_among division_works b ≡ false
    → (let now = steps_on (dividing w a b) e in Halved (2 ^ w) (number w (e a)) (number w (e b)) (number w (now (half_after w))) (number w (now rest_row)))
unfolding steps_on dividing
division-on w a b e a_off b_off =
    let e1 = step_on (clear w rest_row) e in
    let e2 = step_on (clear w (half_role false)) e1 in
    let copy = everywhere w (a ∷ []) (1 ∷ []) (half_role false) true in
    let e3 = step_on copy e2 in
    let now = steps_on (division_rounds w b w) e3 in
    let a_not : (x : ℕ) → is_among division_works x ≡ true → a ≢ x = λ x. differ a x division_works a_off in
    let start : (i : ℕ) → i < w → e3 43 i ≡ e a i =
    λ i l. everywhere-here w (a ∷ []) (1 ∷ []) 43 true e2 i l ∙ rw (clear-here w 43 e1 i l, fires-hit (a ∷ []) (1 ∷ []) (λ r. e2 r i))
    (one_row (e2 a i) ∙ step-row (clear w (half_role false)) e1 a i (a_not 43 refl) ∙ step-row (clear w rest_row) e a i (a_not 45 refl)) in
    let off : (i : ℕ) → i < w → e3 rest_row i ≡ false = λ i l. step-row copy e2 rest_row i (omega arith) ∙ step-row (clear w (half_role false)) e1 rest_row i (omega arith) ∙ clear-here w rest_row e i l in
    let kb : e3 b ≡ e b = kept division_works (clear w rest_row ∷ clear w (half_role false) ∷ copy ∷ []) e b (refl, (refl, (refl, tt))) b_off in
    let p0 = divided-on w b w (e a) e3 b_off (omega arith) start off in
    let p : Divided w w (half_after w) (e a) (number w (e b)) now = rw kb at p0 in
    let all : taken w w (e a) ≡ number w (e a) = number-same w (λ i. e a (w - w + i)) (e a) (λ i l. let y : w - w + i ≡ i = omega arith in ap (e a) y) in
    record {
      value = λ pos. rw all at (p.value pos);
      small = p.small;
      zero_rest = λ none. rw all at (p.zero_rest none);
      zero_ones = λ none. number-ones w (now (half_after w)) (p.zero_ones none);
    }

pub division-only : (w a b : ℕ) → Within division_works (dividing w a b)
unfolding dividing
division-only w a b = (refl, (refl, (refl, division_rounds-only w b w)))

-- ---- the numbers

pub quotient-is : (m a b q r : ℕ) → Halved m a b q r → q ≡ cond (eqb b 0) (m - 1) (a / b)
quotient-is m a b q r p =
    ⊎_elim
    (λ (none : b ≡ 0). let o = p.zero_ones none in rw (eq-eqb b 0 none) (omega arith))
    (λ (some : b ≢ 0). let v = p.value (omega arith) in rw (ne_eqb b 0 some, v) (sym (div-mul-add q b r (p.small (omega arith)))))
    (cases_eq b 0)

pub rest-is : (m a b q r : ℕ) → Halved m a b q r → r ≡ cond (eqb b 0) a (a % b)
rest-is m a b q r p =
    ⊎_elim
    (λ (none : b ≡ 0). rw (eq-eqb b 0 none) (p.zero_rest none))
    (λ (some : b ≢ 0). let v = p.value (omega arith) in rw (ne_eqb b 0 some, v) (sym (mod-mul-add q b r (p.small (omega arith)))))
    (cases_eq b 0)
