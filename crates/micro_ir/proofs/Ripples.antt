-- Steps from bit to bit, on one element: of any inputs, the row of carries at any place among them.
use Rattle.std.proofs.Common.{◌≡◌, ◌≢◌, ℕ, ◌+◌, ◌<◌, ◌≤◌, Bool, true, false, cond, eqb, ◌||◌, List, [], ◌∷◌, ◌++◌, zero, suc, map, refl, sym, ◌∙◌, ap, arith, inl, inr, ⊎_elim, append-nil, append_assoc}
use Rattle.std.proofs.lemmas.Bool.{cases_lt, cases_eq, lt-ltb, le-ltb, eq-eqb, ne_eqb}
use Rattle.micro_ir.specs.declared.op.MicroOp.{MicroOp}
use Rattle.micro_ir.specs.Folding.{has_whole}
use Rattle.micro_ir.specs.Steps.{micro, micros, step_on, steps_on, AllFit}
use Rattle.micro_ir.proofs.StepLists.{steps_on-append, AllFit-append, micros-append}
use Rattle.micro_ir.proofs.OneElement.{hit, fires-hit, step-row, above-else, above-here, above-fits}
use Rattle.micro_ir.specs.Pieces.{above}
use Rattle.micro_ir.specs.Increments.{digit, ripple}

-- the inputs' bits, the carry in the place of its row
abbrev pub bits_with : (inputs : List ℕ) (c : ℕ) (carry : Bool) (e : ℕ → ℕ → Bool) → ℕ → List Bool
bits_with inputs c carry e i = map (λ r. cond (eqb r c) carry (e r i)) inputs

-- the carry into each bit
abbrev pub carries_in : (inputs on : List ℕ) (c : ℕ) (first : Bool) (e : ℕ → ℕ → Bool) → ℕ → Bool
carries_in inputs on c first e zero = first
carries_in inputs on c first e (suc i) = hit on (bits_with inputs c (carries_in inputs on c first e i) e i)

-- none of them is the row
abbrev pub Without : ℕ → List ℕ → Type 0
Without d [] = Unit {0}
Without d (r ∷ rs) = (r ≢ d) × Without d rs

-- After n places the digits stand in row d below n, the carry into n and those below stand in row c, the two rows are
-- clear beyond, and every other row stays.
pub record Rippled (w : ℕ) (inputs digits on : List ℕ) (c d : ℕ) (first : Bool) (e : ℕ → ℕ → Bool) (n : ℕ) (now : ℕ → ℕ → Bool) : Type 0 where
  pub rest : (r i : ℕ) → r ≢ c → r ≢ d → now r i ≡ e r i
  pub done : (i : ℕ) → i < n → now d i ≡ hit digits (bits_with inputs c (carries_in inputs on c first e i) e i)
  pub beyond : (i : ℕ) → n ≤ i → i < w → now d i ≡ false
  pub here : (i : ℕ) → i ≤ n → i < w → now c i ≡ carries_in inputs on c first e i
  pub ahead : (i : ℕ) → n < i → i < w → now c i ≡ false

pub inputs-now : (c d : ℕ) (inputs : List ℕ) (carry : Bool) (e now : ℕ → ℕ → Bool) (i : ℕ) → Without d inputs → now c i ≡ carry → ((r : ℕ) → r ≢ c → r ≢ d → now r i ≡ e r i)
    → map (λ r. now r i) inputs ≡ bits_with inputs c carry e i
inputs-now c d [] carry e now i w is same = refl
inputs-now c d (r ∷ rs) carry e now i w is same =
    ⊎_elim
    (λ (q : r ≡ c). rw (q, eq-eqb c c refl, is, inputs-now c d rs carry e now i w.1 is same) refl)
    (λ (q : r ≢ c). rw (ne_eqb r c q, same r q w.0, inputs-now c d rs carry e now i w.1 is same) refl)
    (cases_eq r c)

or_no : (b : Bool) → b || false ≡ b
or_no true = refl
or_no false = refl

one-bit : (w : ℕ) (inputs digits on : List ℕ) (c d : ℕ) (first : Bool) (e now : ℕ → ℕ → Bool) (n : ℕ) → Without d inputs → c ≢ d → n < w
    → Rippled w inputs digits on c d first e n now
    → Rippled w inputs digits on c d first e (suc n) (steps_on (digit w inputs digits on c d n) now)
unfolding steps_on
one-bit w inputs digits on c d first e now n a cd h p =
    let one = above inputs digits d n 0 in
    let two = above inputs on c n 1 in
    let mid = step_on one now in
    let dc : d ≢ c = λ q. cd (sym q) in
    let z0 : n + 0 ≡ n = omega arith in
    let z1 : suc n ≡ n + 1 = omega arith in
    let carry = carries_in inputs on c first e n in
    let same : (r i : ℕ) → r ≢ d → mid r i ≡ now r i = λ r i q. step-row one now r i q in
    let digit_is : mid d n ≡ hit digits (bits_with inputs c carry e n) =
    ap (λ (k : ℕ). step_on one now d k) (sym z0) ∙ above-here inputs digits d n 0 now
    ∙ rw (z0, p.beyond n (omega arith) h, fires-hit inputs digits (λ r. now r n)) (or_no (hit digits (map (λ r. now r n) inputs))
    ∙ ap (hit digits) (inputs-now c d inputs carry e now n a (p.here n (omega arith) h) (λ r q s. p.rest r n q s))) in
    let carry_is : suc n < w → step_on two mid c (suc n) ≡ hit on (bits_with inputs c carry e n) =
    λ l. ap (λ (k : ℕ). step_on two mid c k) z1 ∙ above-here inputs on c n 1 mid
    ∙ rw (same c (n + 1) cd ∙ p.ahead (n + 1) (omega arith) (omega arith), fires-hit inputs on (λ r. mid r n)) (or_no (hit on (map (λ r. mid r n) inputs))
    ∙ ap (hit on) (inputs-now c d inputs carry e mid n a (same c n cd ∙ p.here n (omega arith) h) (λ r q s. same r n s ∙ p.rest r n q s))) in
    let mid_done : (i : ℕ) → i < suc n → mid d i ≡ hit digits (bits_with inputs c (carries_in inputs on c first e i) e i) =
    λ i l. ⊎_elim (λ (m : i < n). above-else inputs digits d n 0 now d i (omega arith) ∙ p.done i m)
    (λ (m : n ≤ i). let q : i ≡ n = omega arith in rw q digit_is) (cases_lt i n) in
    let mid_beyond : (i : ℕ) → suc n ≤ i → i < w → mid d i ≡ false = λ i l u. above-else inputs digits d n 0 now d i (omega arith) ∙ p.beyond i (omega arith) u in
    let mid_ahead : (i : ℕ) → suc n < i → i < w → mid c i ≡ false = λ i l u. same c i cd ∙ p.ahead i (omega arith) u in
    let mid_rest : (r i : ℕ) → r ≢ c → r ≢ d → mid r i ≡ e r i = λ r i q s. same r i s ∙ p.rest r i q s in
    ⊎_elim
    (λ (l : suc n < w).
    rw (lt-ltb (suc n) w l) (record {
      rest = λ r i q s. step-row two mid r i q ∙ mid_rest r i q s;
      done = λ i m. step-row two mid d i dc ∙ mid_done i m;
      beyond = λ i m u. step-row two mid d i dc ∙ mid_beyond i m u;
      here = λ i m u. ⊎_elim (λ (x : i ≡ suc n). rw x (carry_is l)) (λ (x : i ≢ suc n). above-else inputs on c n 1 mid c i (omega arith) ∙ same c i cd ∙ p.here i (omega arith) u) (cases_eq i (suc n));
      ahead = λ i m u. above-else inputs on c n 1 mid c i (omega arith) ∙ mid_ahead i m u;
    }))
    (λ (l : w ≤ suc n).
    rw (le-ltb (suc n) w l) (record {
      rest = mid_rest;
      done = mid_done;
      beyond = mid_beyond;
      here = λ i m u. same c i cd ∙ p.here i (omega arith) u;
      ahead = mid_ahead;
    }))
    (cases_lt (suc n) w)

-- all n places, from clear rows c and d but for the carry into the lowest bit
pub rippled : (w : ℕ) (inputs digits on : List ℕ) (c d : ℕ) (first : Bool) (e : ℕ → ℕ → Bool) (n : ℕ) → Without d inputs → c ≢ d → n ≤ w
    → ((i : ℕ) → i < w → e d i ≡ false) → e c 0 ≡ first → ((i : ℕ) → 0 < i → i < w → e c i ≡ false)
    → Rippled w inputs digits on c d first e n (steps_on (ripple w inputs digits on c d n) e)
unfolding steps_on ripple
rippled w inputs digits on c d first e zero a cd h clear first_is ahead_is = record {
  rest = λ r i q s. refl;
  done = λ i l. absurd (omega arith);
  beyond = λ i l u. clear i u;
  here = λ i l u. let z : i ≡ 0 = omega arith in rw z first_is;
  ahead = λ i l u. ahead_is i l u;
}
rippled w inputs digits on c d first e (suc n) a cd h clear first_is ahead_is =
    rw (steps_on-append (ripple w inputs digits on c d n) (digit w inputs digits on c d n) e)
    (one-bit w inputs digits on c d first e (steps_on (ripple w inputs digits on c d n) e) n a cd h
    (rippled w inputs digits on c d first e n a cd (omega arith) clear first_is ahead_is))

pub ripple-fits : (w : ℕ) (inputs digits on : List ℕ) (c d n : ℕ) → has_whole inputs on ≡ true → n ≤ w → AllFit w (ripple w inputs digits on c d n)
unfolding ripple
ripple-fits w inputs digits on c d zero whole h = tt
ripple-fits w inputs digits on c d (suc n) whole h =
    AllFit-append w (ripple w inputs digits on c d n) (digit w inputs digits on c d n) (ripple-fits w inputs digits on c d n whole (omega arith)) (
      above-fits w inputs digits d n 0 (omega arith) (inr (refl, refl)),
      ⊎_elim (λ (l : suc n < w). rw (lt-ltb (suc n) w l) (above-fits w inputs on c n 1 (omega arith) (inl whole), tt))
          (λ (l : w ≤ suc n). rw (le-ltb (suc n) w l) tt) (cases_lt (suc n) w),
    )

-- ---- the list, as it is written

module _ (w : ℕ) (inputs digits carries : List ℕ) (carry out : ℕ) where
  -- no bit yet
  pub ripple-none : micros w (ripple w inputs digits carries carry out 0) ≡ []
  unfolding ripple micros
  ripple-none = refl

  -- a bit below the highest
  pub ripple-more : (n : ℕ) → n + 1 < w
      → micros w (ripple w inputs digits carries carry out (n + 1))
      ≡ micros w (ripple w inputs digits carries carry out n) ++ (micro w (above inputs digits out n 0) ++ micro w (above inputs carries carry n 1))
  unfolding ripple micros
  ripple-more n h =
      let e : n + 1 ≡ suc n = omega arith in
      let l : suc n < w = omega arith in
      rw e (micros-append w (ripple w inputs digits carries carry out n) (digit w inputs digits carries carry out n) ∙ rw (lt-ltb (suc n) w l, append-nil (micro w (above inputs carries carry n 1))) refl)

  -- the highest bit
  pub ripple-last : (n : ℕ) → w ≡ n + 1
      → micros w (ripple w inputs digits carries carry out w) ≡ micros w (ripple w inputs digits carries carry out n) ++ micro w (above inputs digits out n 0)
  unfolding ripple micros
  ripple-last n is =
      let e : w ≡ suc n = omega arith in
      let l : w ≤ suc n = omega arith in
      ap (λ (k : ℕ). micros w (ripple w inputs digits carries carry out k)) e
      ∙ micros-append w (ripple w inputs digits carries carry out n) (digit w inputs digits carries carry out n) ∙ rw (le-ltb (suc n) w l, append-nil (micro w (above inputs digits out n 0))) refl

-- a list that has grown by a part, or by two
pub one-more : (first done m : List MicroOp) {all now last : List MicroOp} → last ≡ now ++ m → now ≡ first ++ done → all ≡ done ++ m → last ≡ first ++ all
one-more first done m p q r = p ∙ rw (q, r) (simp append_assoc)

pub two-more : (first done m n : List MicroOp) {all now mid last : List MicroOp} → last ≡ mid ++ n → mid ≡ now ++ m → now ≡ first ++ done → all ≡ done ++ (m ++ n) → last ≡ first ++ all
two-more first done m n p q r s = p ∙ rw (q, r, s) (simp append_assoc)
