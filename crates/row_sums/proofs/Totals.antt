-- Sums of rows of which a table makes two numbers' bits, on one element.
use Rattle.std.proofs.Common.{◌≡◌, ◌≢◌, ℕ, ◌+◌, ◌-◌, ◌<◌, ◌≤◌, Bool, true, false, ◌||◌, ltb, eqb, cond, List, [], ◌∷◌, zero, suc, refl, sym, ◌∙◌, ap, arith, ⊎_elim}
use Rattle.std.proofs.lemmas.Bool.{cases_lt, cases_eq, lt-ltb, le-ltb, eq-eqb, ne_eqb}
use Rattle.micro_ir.specs.Steps.{fires, step_on, steps_on}
use Rattle.micro_ir.specs.WorkRows.{carry_row}
use Rattle.micro_ir.proofs.StepLists.{steps_on-append}
use Rattle.micro_ir.proofs.OneElement.{step-row, clear-here, above-else, above-here}
use Rattle.micro_ir.specs.Pieces.{above, clear}
use Rattle.gen_arith.specs.Recipes.{digit, ripple}
use Rattle.gen_arith.proofs.Rows.{finds, carried}
use Rattle.gen_shift.specs.Rows.{is_among}
use Rattle.gen_shift.proofs.Stays.{Within, within-append}
use Rattle.row_sums.specs.Sums.{total, sum_from}
use Rattle.row_sums.proofs.Kept.{kept, differ}

-- ---- what sums write

pub ripple-only : (rows : List ℕ) (w : ℕ) (inputs ds cs : List ℕ) (c d n : ℕ) → is_among rows c ≡ true → is_among rows d ≡ true → Within rows (ripple w inputs ds cs c d n)
unfolding ripple
ripple-only rows w inputs ds cs c d zero p q = tt
ripple-only rows w inputs ds cs c d (suc n) p q =
    within-append rows (ripple w inputs ds cs c d n) (digit w inputs ds cs c d n) (ripple-only rows w inputs ds cs c d n p q) (
      q,
      elim (ltb (suc n) w) as (λ x. Within rows (cond x (above inputs cs c n 1 ∷ []) [])) [
        | true ↦ (p, tt)
        | false ↦ tt
      ],
    )

pub total-only : (rows : List ℕ) (w : ℕ) (inputs ds cs : List ℕ) (d k : ℕ) → is_among rows carry_row ≡ true → is_among rows d ≡ true → is_among rows k ≡ true → Within rows (total w inputs ds cs d k)
total-only rows w inputs ds cs d k p q r = (p, (q, (r, within-append rows (ripple w inputs ds cs carry_row d w) (above inputs cs k (w - 1) 0 ∷ []) (ripple-only rows w inputs ds cs carry_row d w p q) (r, tt))))

pub sum_from-only : (rows : List ℕ) (w : ℕ) (from from_on inputs ds cs : List ℕ) (d : ℕ) → is_among rows carry_row ≡ true → is_among rows d ≡ true → Within rows (sum_from w from from_on inputs ds cs d)
sum_from-only rows w from from_on inputs ds cs d p q = (p, (p, (q, ripple-only rows w inputs ds cs carry_row d w p q)))

-- ---- from bit to bit

-- The table of the inputs is a table of the carry and two bits that they make.
abbrev pub Reads : (inputs on : List ℕ) (c : ℕ) (base : List ℕ) (x y : (ℕ → Bool) → Bool) → Type 0
Reads inputs on c base x y = (f : ℕ → Bool) → fires inputs on f ≡ finds base (f c) (x f) (y f)

-- A bit that is made of none of these rows.
abbrev pub Blind : (rows : List ℕ) → ((ℕ → Bool) → Bool) → Type 0
Blind rows x = (f g : ℕ → Bool) → ((r : ℕ) → is_among rows r ≡ false → f r ≡ g r) → x f ≡ x g

-- the bits that they make at each place
abbrev pub made : ((ℕ → Bool) → Bool) → (ℕ → ℕ → Bool) → ℕ → Bool
made x e i = x (λ r. e r i)

pub record Rippled (w c d : ℕ) (dig cy : List ℕ) (first : Bool) (x y : ℕ → Bool) (n : ℕ) (now : ℕ → ℕ → Bool) : Type 0 where
  pub done : (i : ℕ) → i < n → now d i ≡ finds dig (carried cy first x y i) (x i) (y i)
  pub beyond : (i : ℕ) → n ≤ i → i < w → now d i ≡ false
  pub here : (i : ℕ) → i ≤ n → i < w → now c i ≡ carried cy first x y i
  pub ahead : (i : ℕ) → n < i → i < w → now c i ≡ false

or_no : (b : Bool) → b || false ≡ b
or_no true = refl
or_no false = refl

or_true : (a : Bool) → a || true ≡ true
or_true true = refl
or_true false = refl

first_in : (a b : ℕ) → is_among (a ∷ b ∷ []) a ≡ true
first_in a b = rw (eq-eqb a a refl) refl

second_in : (a b : ℕ) → is_among (a ∷ b ∷ []) b ≡ true
second_in a b = rw (eq-eqb b b refl) (or_true (eqb b a))

second_in3 : (a b c : ℕ) → is_among (a ∷ b ∷ c ∷ []) b ≡ true
second_in3 a b c = rw (eq-eqb b b refl) (or_true (eqb b a))

or_or_true : (a b : Bool) → a || (b || true) ≡ true
or_or_true true b = refl
or_or_true false true = refl
or_or_true false false = refl

third_in : (a b c : ℕ) → is_among (a ∷ b ∷ c ∷ []) c ≡ true
third_in a b c = rw (eq-eqb c c refl) (or_or_true (eqb c a) (eqb c b))

module _ (w c d : ℕ) (inputs ds cs dig cy : List ℕ) (x y : (ℕ → Bool) → Bool) (rd : Reads inputs ds c dig x y) (rc : Reads inputs cs c cy x y)
    (bx : Blind (c ∷ d ∷ []) x) (by : Blind (c ∷ d ∷ []) y) (cd : c ≢ d) (first : Bool) (e : ℕ → ℕ → Bool) where
  -- one more place
  one-more : (now : ℕ → ℕ → Bool) (n : ℕ) → n < w → ((r : ℕ) → is_among (c ∷ d ∷ []) r ≡ false → now r ≡ e r)
      → Rippled w c d dig cy first (made x e) (made y e) n now
      → Rippled w c d dig cy first (made x e) (made y e) (suc n) (steps_on (digit w inputs ds cs c d n) now)
  unfolding steps_on
  one-more now n h same p =
      let one = above inputs ds d n 0 in
      let two = above inputs cs c n 1 in
      let mid = step_on one now in
      let dc : d ≢ c = λ q. cd (sym q) in
      let z : n + 0 ≡ n = omega arith in
      let mx : x (λ r. now r n) ≡ made x e n = bx (λ r. now r n) (λ r. e r n) (λ r a k. same r a k n) in
      let my : y (λ r. now r n) ≡ made y e n = by (λ r. now r n) (λ r. e r n) (λ r a k. same r a k n) in
      let digit_is : mid d n ≡ finds dig (carried cy first (made x e) (made y e) n) (made x e n) (made y e n) =
      ap (mid d) (sym z) ∙ above-here inputs ds d n 0 now ∙ rw (z, p.beyond n (omega arith) h, rd (λ r. now r n), p.here n (omega arith) h, mx, my) (or_no _) in
      let mid_done : (i : ℕ) → i < suc n → mid d i ≡ finds dig (carried cy first (made x e) (made y e) i) (made x e i) (made y e i) =
      λ i l. ⊎_elim (λ (m : i < n). above-else inputs ds d n 0 now d i (omega arith) ∙ p.done i m)
      (λ (m : n ≤ i). let q : i ≡ n = omega arith in rw q digit_is) (cases_lt i n) in
      let mid_beyond : (i : ℕ) → suc n ≤ i → i < w → mid d i ≡ false = λ i l u. above-else inputs ds d n 0 now d i (omega arith) ∙ p.beyond i (omega arith) u in
      let mid_c : (i : ℕ) → mid c i ≡ now c i = λ i. step-row one now c i cd in
      ⊎_elim
      (λ (l : suc n < w).
      let s : suc n ≡ n + 1 = omega arith in
      let off : mid c (n + 1) ≡ false = mid_c (n + 1) ∙ p.ahead (n + 1) (omega arith) (omega arith) in
      let other : (r : ℕ) → is_among (c ∷ d ∷ []) r ≡ false → mid r n ≡ e r n = λ r a. step-row one now r n (differ r d (c ∷ d ∷ []) a (second_in c d)) ∙ (λ k. same r a k n) in
      let nx : x (λ r. mid r n) ≡ made x e n = bx (λ r. mid r n) (λ r. e r n) other in
      let ny : y (λ r. mid r n) ≡ made y e n = by (λ r. mid r n) (λ r. e r n) other in
      let carry_is : step_on two mid c (suc n) ≡ carried cy first (made x e) (made y e) (suc n) =
      ap (step_on two mid c) s ∙ above-here inputs cs c n 1 mid ∙ rw (off, rc (λ r. mid r n), mid_c n, p.here n (omega arith) h, nx, ny) (or_no _) in
      rw (lt-ltb (suc n) w l) (record {
        done = λ i m. step-row two mid d i dc ∙ mid_done i m;
        beyond = λ i m u. step-row two mid d i dc ∙ mid_beyond i m u;
        here = λ i m u. ⊎_elim (λ (x : i ≡ suc n). rw x carry_is) (λ (x : i ≢ suc n). above-else inputs cs c n 1 mid c i (omega arith) ∙ mid_c i ∙ p.here i (omega arith) u) (cases_eq i (suc n));
        ahead = λ i m u. above-else inputs cs c n 1 mid c i (omega arith) ∙ mid_c i ∙ p.ahead i (omega arith) u;
      }))
      (λ (l : w ≤ suc n).
      rw (le-ltb (suc n) w l) (record {
        done = mid_done;
        beyond = mid_beyond;
        here = λ i m u. mid_c i ∙ p.here i (omega arith) u;
        ahead = λ i m u. mid_c i ∙ p.ahead i (omega arith) u;
      }))
      (cases_lt (suc n) w)

  -- all n places
  pub rippled : (n : ℕ) → n ≤ w → ((i : ℕ) → i < w → e d i ≡ false) → e c 0 ≡ first → ((i : ℕ) → 0 < i → i < w → e c i ≡ false)
      → Rippled w c d dig cy first (made x e) (made y e) n (steps_on (ripple w inputs ds cs c d n) e)
  unfolding steps_on ripple
  rippled zero h off first_is ahead_is = record {
    done = λ i l. absurd (omega arith);
    beyond = λ i l u. off i u;
    here = λ i l u. let z : i ≡ 0 = omega arith in rw z first_is;
    ahead = λ i l u. ahead_is i l u;
  }
  rippled (suc n) h off first_is ahead_is =
      rw (steps_on-append (ripple w inputs ds cs c d n) (digit w inputs ds cs c d n) e)
      (one-more (steps_on (ripple w inputs ds cs c d n) e) n h
      (λ r a. kept (c ∷ d ∷ []) (ripple w inputs ds cs c d n) e r (ripple-only (c ∷ d ∷ []) w inputs ds cs c d n (first_in c d) (second_in c d)) a)
      (rippled n (omega arith) off first_is ahead_is))

-- ---- a whole sum, with the carry out of it

pub record Totalled (w d k : ℕ) (dig cy : List ℕ) (x y : ℕ → Bool) (now : ℕ → ℕ → Bool) : Type 0 where
  pub digits : (i : ℕ) → i < w → now d i ≡ finds dig (carried cy false x y i) (x i) (y i)
  pub top : now k (w - 1) ≡ carried cy false x y w

fewer : (a b c : Bool) → a || (b || (c || false)) ≡ false → a || (b || false) ≡ false
fewer false false c h = refl
fewer true b c h = absurd (cc)
fewer false true c h = absurd (cc)

module _ (w d k : ℕ) (inputs ds cs dig cy : List ℕ) (x y : (ℕ → Bool) → Bool) (rd : Reads inputs ds carry_row dig x y) (rc : Reads inputs cs carry_row cy x y)
    (bx : Blind (carry_row ∷ d ∷ k ∷ []) x) (by : Blind (carry_row ∷ d ∷ k ∷ []) y) (cd : carry_row ≢ d) (ck : carry_row ≢ k) (dk : d ≢ k) where
  pub total-on : (e : ℕ → ℕ → Bool) → 0 < w → Totalled w d k dig cy (made x e) (made y e) (steps_on (total w inputs ds cs d k) e)
  unfolding steps_on
  total-on e pos =
      let e1 = step_on (clear w carry_row) e in
      let e2 = step_on (clear w d) e1 in
      let e3 = step_on (clear w k) e2 in
      let rip = ripple w inputs ds cs carry_row d w in
      let e4 = steps_on rip e3 in
      let last = above inputs cs k (w - 1) 0 in
      let kd : k ≢ d = λ q. dk (sym q) in
      let kc : k ≢ carry_row = λ q. ck (sym q) in
      let same : (r : ℕ) → is_among (carry_row ∷ d ∷ k ∷ []) r ≡ false → e3 r ≡ e r =
      λ r a n i. kept (carry_row ∷ d ∷ k ∷ []) (clear w carry_row ∷ clear w d ∷ clear w k ∷ []) e r (first_in carry_row d, (second_in3 carry_row d k, (third_in carry_row d k, tt))) a n i in
      let mx : made x e3 ≡ made x e = λ n i. bx (λ r. e3 r i) (λ r. e r i) (λ r a m. same r a m i) n in
      let my : made y e3 ≡ made y e = λ n i. by (λ r. e3 r i) (λ r. e r i) (λ r a m. same r a m i) n in
      let bx2 : Blind (carry_row ∷ d ∷ []) x = λ f g h. bx f g (λ r a. h r (fewer (eqb r carry_row) (eqb r d) (eqb r k) a)) in
      let by2 : Blind (carry_row ∷ d ∷ []) y = λ f g h. by f g (λ r a. h r (fewer (eqb r carry_row) (eqb r d) (eqb r k) a)) in
      let c_off : (i : ℕ) → i < w → e3 carry_row i ≡ false = λ i l. step-row (clear w k) e2 carry_row i ck ∙ step-row (clear w d) e1 carry_row i cd ∙ clear-here w carry_row e i l in
      let d_off : (i : ℕ) → i < w → e3 d i ≡ false = λ i l. step-row (clear w k) e2 d i dk ∙ clear-here w d e1 i l in
      let p0 = rippled w carry_row d inputs ds cs dig cy x y rd rc bx2 by2 cd false e3 w (omega arith) d_off (c_off 0 pos) (λ i l u. c_off i u) in
      let p : Rippled w carry_row d dig cy false (made x e) (made y e) w e4 = rw (mx, my) at p0 in
      let at : w - 1 + 0 ≡ w - 1 = omega arith in
      let up : suc (w - 1) ≡ w = omega arith in
      let rip_only = ripple-only (carry_row ∷ d ∷ []) w inputs ds cs carry_row d w (first_in carry_row d) (second_in carry_row d) in
      let k_off : e4 k (w - 1) ≡ false = (λ n. kept (carry_row ∷ d ∷ []) rip e3 k rip_only (rw (ne_eqb k carry_row kc, ne_eqb k d kd) refl) n (w - 1)) ∙ clear-here w k e2 (w - 1) (omega arith) in
      let still : (r : ℕ) → is_among (carry_row ∷ d ∷ k ∷ []) r ≡ false → e4 r (w - 1) ≡ e r (w - 1) =
      λ r a. (λ n. kept (carry_row ∷ d ∷ []) rip e3 r rip_only (fewer (eqb r carry_row) (eqb r d) (eqb r k) a) n (w - 1)) ∙ (λ n. same r a n (w - 1)) in
      let top0 : step_on last e4 k (w - 1 + 0) ≡ fires inputs cs (λ r. e4 r (w - 1)) || e4 k (w - 1 + 0) = above-here inputs cs k (w - 1) 0 e4 in
      let fired : fires inputs cs (λ r. e4 r (w - 1)) ≡ carried cy false (made x e) (made y e) (suc (w - 1)) =
      rc (λ r. e4 r (w - 1)) ∙ rw (p.here (w - 1) (omega arith) (omega arith), bx (λ r. e4 r (w - 1)) (λ r. e r (w - 1)) still, by (λ r. e4 r (w - 1)) (λ r. e r (w - 1)) still) refl in
      rw (steps_on-append rip (last ∷ []) e3) (record {
        digits = λ i l. step-row last e4 d i dk ∙ p.done i l;
        top = (rw at at top0) ∙ rw (k_off, fired) (or_no _) ∙ ap (carried cy false (made x e) (made y e)) up;
      })

-- ---- a sum without a carry out

module _ (w d : ℕ) (from from_on inputs ds cs dig cy : List ℕ) (x y : (ℕ → Bool) → Bool) (rd : Reads inputs ds carry_row dig x y) (rc : Reads inputs cs carry_row cy x y)
    (bx : Blind (carry_row ∷ d ∷ []) x) (by : Blind (carry_row ∷ d ∷ []) y) (bf : Blind (carry_row ∷ d ∷ []) (fires from from_on)) (cd : carry_row ≢ d) where
  pub sum_from-on : (e : ℕ → ℕ → Bool) → 0 < w → (i : ℕ) → i < w
      → steps_on (sum_from w from from_on inputs ds cs d) e d i ≡ finds dig (carried cy (made (fires from from_on) e 0) (made x e) (made y e) i) (made x e i) (made y e i)
  unfolding steps_on
  sum_from-on e pos i inside =
      let e1 = step_on (clear w carry_row) e in
      let start = above from from_on carry_row 0 0 in
      let e2 = step_on start e1 in
      let e3 = step_on (clear w d) e2 in
      let dc : d ≢ carry_row = λ q. cd (sym q) in
      let f = made (fires from from_on) e 0 in
      let c_in = first_in carry_row d in
      let same : (r : ℕ) → is_among (carry_row ∷ d ∷ []) r ≡ false → e3 r ≡ e r =
      λ r a n i. kept (carry_row ∷ d ∷ []) (clear w carry_row ∷ start ∷ clear w d ∷ []) e r (c_in, (c_in, (second_in carry_row d, tt))) a n i in
      let same1 : (r : ℕ) → is_among (carry_row ∷ d ∷ []) r ≡ false → e1 r ≡ e r =
      λ r a n i. kept (carry_row ∷ d ∷ []) (clear w carry_row ∷ []) e r (c_in, tt) a n i in
      let mx : made x e3 ≡ made x e = λ n i. bx (λ r. e3 r i) (λ r. e r i) (λ r a m. same r a m i) n in
      let my : made y e3 ≡ made y e = λ n i. by (λ r. e3 r i) (λ r. e r i) (λ r a m. same r a m i) n in
      let d_off : (i : ℕ) → i < w → e3 d i ≡ false = λ i l. clear-here w d e2 i l in
      let first_is : e3 carry_row 0 ≡ f =
      step-row (clear w d) e2 carry_row 0 cd ∙ above-here from from_on carry_row 0 0 e1
      ∙ rw (clear-here w carry_row e 0 pos) (or_no (fires from from_on (λ r. e1 r 0))) ∙ bf (λ r. e1 r 0) (λ r. e r 0) (λ r a n. same1 r a n 0) in
      let ahead : (i : ℕ) → 0 < i → i < w → e3 carry_row i ≡ false =
      λ i l u. step-row (clear w d) e2 carry_row i cd ∙ above-else from from_on carry_row 0 0 e1 carry_row i (omega arith) ∙ clear-here w carry_row e i u in
      let p0 = rippled w carry_row d inputs ds cs dig cy x y rd rc bx by cd f e3 w (omega arith) d_off first_is ahead in
      let p : Rippled w carry_row d dig cy f (made x e) (made y e) w (steps_on (ripple w inputs ds cs carry_row d w) e3) = rw (mx, my) at p0 in
      p.done i inside
