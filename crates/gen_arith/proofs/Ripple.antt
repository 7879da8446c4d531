-- Steps from bit to bit, on one element: of any inputs, for any tables of digits and of carries.
use Rattle.std.proofs.Common.{◌≡◌, ◌≢◌, ℕ, ◌+◌, ◌<◌, ◌≤◌, Bool, true, false, ◌||◌, List, [], ◌∷◌, zero, suc, map, refl, sym, ◌∙◌, ap, arith, inl, inr, ⊎_elim}
use Rattle.std.proofs.lemmas.Bool.{cases_lt, cases_eq, lt-ltb, le-ltb}
use Rattle.micro_ir.specs.Folding.{has_whole}
use Rattle.micro_ir.specs.Steps.{fires, step_on, steps_on, AllFit}
use Rattle.micro_ir.proofs.StepLists.{steps_on-append, AllFit-append}
use Rattle.micro_ir.proofs.OneElement.{hit, fires-hit, step-row, above-else, above-here, above-fits}
use Rattle.micro_ir.specs.Pieces.{above}
use Rattle.gen_arith.specs.Recipes.{digit, ripple}
use Rattle.gen_arith.specs.Laws.{Apart}

-- ---- the carries

-- the carry into each bit, from the bits of the other inputs
abbrev pub carries : (on : List ℕ) (first : Bool) (bits : ℕ → List Bool) → ℕ → Bool
carries on first bits zero = first
carries on first bits (suc i) = hit on (carries on first bits i ∷ bits i)

-- the bits of the inputs at each place
abbrev pub bits_in : (inputs : List ℕ) (e : ℕ → ℕ → Bool) → ℕ → List Bool
bits_in inputs e k = map (λ r. e r k) inputs

-- After n places the digits stand in row d below n, the carry into n and those below stand in row c, the two rows are
-- clear beyond, and every other row stays.
pub record Rippled (w : ℕ) (inputs digits on : List ℕ) (c d : ℕ) (first : Bool) (e : ℕ → ℕ → Bool) (n : ℕ) (now : ℕ → ℕ → Bool) : Type 0 where
  pub rest : (r i : ℕ) → r ≢ c → r ≢ d → now r i ≡ e r i
  pub done : (i : ℕ) → i < n → now d i ≡ hit digits (carries on first (bits_in inputs e) i ∷ bits_in inputs e i)
  pub beyond : (i : ℕ) → n ≤ i → i < w → now d i ≡ false
  pub here : (i : ℕ) → i ≤ n → i < w → now c i ≡ carries on first (bits_in inputs e) i
  pub ahead : (i : ℕ) → n < i → i < w → now c i ≡ false

pub same_inputs : (c d : ℕ) (inputs : List ℕ) (f g : ℕ → Bool) → Apart c d inputs → ((r : ℕ) → r ≢ c → r ≢ d → f r ≡ g r) → map f inputs ≡ map g inputs
same_inputs c d [] f g a h = refl
same_inputs c d (r ∷ rs) f g a h = rw (h r a.0 a.1, same_inputs c d rs f g a.2 h) refl

pub or_no : (b : Bool) → b || false ≡ b
or_no true = refl
or_no false = refl

-- the digit's step
digit-step : (w : ℕ) (inputs digits on : List ℕ) (c d : ℕ) (first : Bool) (e now : ℕ → ℕ → Bool) (n : ℕ) → Apart c d inputs → n < w
    → Rippled w inputs digits on c d first e n now
    → step_on (above (c ∷ inputs) digits d n 0) now d n ≡ hit digits (carries on first (bits_in inputs e) n ∷ bits_in inputs e n)
digit-step w inputs digits on c d first e now n a h p =
    let z : n + 0 ≡ n = omega arith in
    ap (λ (k : ℕ). step_on (above (c ∷ inputs) digits d n 0) now d k) (sym z)
    ∙ above-here (c ∷ inputs) digits d n 0 now
    ∙ rw (z, p.beyond n (omega arith) h, fires-hit (c ∷ inputs) digits (λ r. now r n))
    (or_no (hit digits (map (λ r. now r n) (c ∷ inputs)))
    ∙ rw (p.here n (omega arith) h, same_inputs c d inputs (λ r. now r n) (λ r. e r n) a (λ r q s. p.rest r n q s)) refl)

-- the carry's step, after the digit's
carry-step : (w : ℕ) (inputs digits on : List ℕ) (c d : ℕ) (first : Bool) (e now : ℕ → ℕ → Bool) (n : ℕ) → Apart c d inputs → c ≢ d → suc n < w
    → Rippled w inputs digits on c d first e n now
    → step_on (above (c ∷ inputs) on c n 1) (step_on (above (c ∷ inputs) digits d n 0) now) c (suc n) ≡ carries on first (bits_in inputs e) (suc n)
carry-step w inputs digits on c d first e now n a cd h p =
    let mid = step_on (above (c ∷ inputs) digits d n 0) now in
    let z : suc n ≡ n + 1 = omega arith in
    let same : (r : ℕ) (i : ℕ) → r ≢ d → mid r i ≡ now r i = λ r i q. step-row (above (c ∷ inputs) digits d n 0) now r i q in
    let clear_above : mid c (n + 1) ≡ false = same c (n + 1) cd ∙ p.ahead (n + 1) (omega arith) (omega arith) in
    ap (λ (k : ℕ). step_on (above (c ∷ inputs) on c n 1) mid c k) z
    ∙ above-here (c ∷ inputs) on c n 1 mid
    ∙ rw (clear_above, fires-hit (c ∷ inputs) on (λ r. mid r n))
    (or_no (hit on (map (λ r. mid r n) (c ∷ inputs)))
    ∙ rw (same c n cd, p.here n (omega arith) (omega arith), same_inputs c d inputs (λ r. mid r n) (λ r. e r n) a (λ r q s. same r n s ∙ p.rest r n q s)) refl)

one-more : (w : ℕ) (inputs digits on : List ℕ) (c d : ℕ) (first : Bool) (e now : ℕ → ℕ → Bool) (n : ℕ) → Apart c d inputs → c ≢ d → n < w
    → Rippled w inputs digits on c d first e n now
    → Rippled w inputs digits on c d first e (suc n) (steps_on (digit w (c ∷ inputs) digits on c d n) now)
unfolding steps_on
one-more w inputs digits on c d first e now n a cd h p =
    let one = above (c ∷ inputs) digits d n 0 in
    let two = above (c ∷ inputs) on c n 1 in
    let mid = step_on one now in
    let dc : d ≢ c = λ q. cd (sym q) in
    let mid_done : (i : ℕ) → i < suc n → mid d i ≡ hit digits (carries on first (bits_in inputs e) i ∷ bits_in inputs e i) =
    λ i l. ⊎_elim (λ (m : i < n). above-else (c ∷ inputs) digits d n 0 now d i (omega arith) ∙ p.done i m)
    (λ (m : n ≤ i). let q : i ≡ n = omega arith in rw q (digit-step w inputs digits on c d first e now n a h p)) (cases_lt i n) in
    let mid_beyond : (i : ℕ) → suc n ≤ i → i < w → mid d i ≡ false = λ i l u. above-else (c ∷ inputs) digits d n 0 now d i (omega arith) ∙ p.beyond i (omega arith) u in
    let mid_ahead : (i : ℕ) → suc n < i → i < w → mid c i ≡ false = λ i l u. step-row one now c i cd ∙ p.ahead i (omega arith) u in
    let mid_rest : (r i : ℕ) → r ≢ c → r ≢ d → mid r i ≡ e r i = λ r i q s. step-row one now r i s ∙ p.rest r i q s in
    ⊎_elim
    (λ (l : suc n < w).
    rw (lt-ltb (suc n) w l) (record {
      rest = λ r i q s. step-row two mid r i q ∙ mid_rest r i q s;
      done = λ i m. step-row two mid d i dc ∙ mid_done i m;
      beyond = λ i m u. step-row two mid d i dc ∙ mid_beyond i m u;
      here = λ i m u. ⊎_elim (λ (x : i ≡ suc n). rw x (carry-step w inputs digits on c d first e now n a cd l p)) (λ (x : i ≢ suc n). above-else (c ∷ inputs) on c n 1 mid c i (omega arith) ∙ step-row one now c i cd ∙ p.here i (omega arith) u) (cases_eq i (suc n));
      ahead = λ i m u. above-else (c ∷ inputs) on c n 1 mid c i (omega arith) ∙ mid_ahead i m u;
    }))
    (λ (l : w ≤ suc n).
    rw (le-ltb (suc n) w l) (record {
      rest = mid_rest;
      done = mid_done;
      beyond = mid_beyond;
      here = λ i m u. step-row one now c i cd ∙ p.here i (omega arith) u;
      ahead = mid_ahead;
    }))
    (cases_lt (suc n) w)

-- All n places: from clear rows c and d but for the carry into the lowest bit.
pub rippled : (w : ℕ) (inputs digits on : List ℕ) (c d : ℕ) (first : Bool) (e : ℕ → ℕ → Bool) (n : ℕ) → Apart c d inputs → c ≢ d → n ≤ w
    → ((i : ℕ) → i < w → e d i ≡ false) → e c 0 ≡ first → ((i : ℕ) → 0 < i → i < w → e c i ≡ false)
    → Rippled w inputs digits on c d first e n (steps_on (ripple w (c ∷ inputs) digits on c d n) e)
unfolding steps_on ripple
rippled w inputs digits on c d first e zero a cd h clear first_is ahead_is = record {
  rest = λ r i q s. refl;
  done = λ i l. absurd (omega arith);
  beyond = λ i l u. clear i u;
  here = λ i l u. let z : i ≡ 0 = omega arith in rw z first_is;
  ahead = λ i l u. ahead_is i l u;
}
rippled w inputs digits on c d first e (suc n) a cd h clear first_is ahead_is =
    rw (steps_on-append (ripple w (c ∷ inputs) digits on c d n) (digit w (c ∷ inputs) digits on c d n) e)
    (one-more w inputs digits on c d first e (steps_on (ripple w (c ∷ inputs) digits on c d n) e) n a cd h
    (rippled w inputs digits on c d first e n a cd (omega arith) clear first_is ahead_is))

-- whether a table of the carry and the inputs has their value, after so many places
pub carry-out : (w : ℕ) (inputs digits on last : List ℕ) (c d : ℕ) (first : Bool) (e now : ℕ → ℕ → Bool) (n i : ℕ) → Apart c d inputs → i < w → i ≤ n
    → Rippled w inputs digits on c d first e n now
    → fires (c ∷ inputs) last (λ r. now r i) ≡ hit last (carries on first (bits_in inputs e) i ∷ bits_in inputs e i)
carry-out w inputs digits on last c d first e now n i a inside low p =
    fires-hit (c ∷ inputs) last (λ r. now r i)
    ∙ rw (p.here i low inside, same_inputs c d inputs (λ r. now r i) (λ r. e r i) a (λ r q s. p.rest r i q s)) refl

pub ripple-fits : (w : ℕ) (inputs digits on : List ℕ) (c d n : ℕ) → has_whole inputs on ≡ true → n ≤ w → AllFit w (ripple w inputs digits on c d n)
unfolding ripple
ripple-fits w inputs digits on c d zero whole h = tt
ripple-fits w inputs digits on c d (suc n) whole h =
    AllFit-append w (ripple w inputs digits on c d n) (digit w inputs digits on c d n) (ripple-fits w inputs digits on c d n whole (omega arith)) (
      above-fits w inputs digits d n 0 (omega arith) (inr (refl, refl)),
      ⊎_elim (λ (l : suc n < w). rw (lt-ltb (suc n) w l) (above-fits w inputs on c n 1 (omega arith) (inl whole), tt))
          (λ (l : w ≤ suc n). rw (le-ltb (suc n) w l) tt) (cases_lt (suc n) w),
    )
