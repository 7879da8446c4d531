-- The product of two rows without a sign.
use Rattle.std.proofs.Common.{◌≡◌, ◌≢◌, ℕ, ◌+◌, ◌-◌, ◌*◌, ◌^◌, ◌<◌, ◌≤◌, Bool, true, false, cond, not, ◌&&◌, List, [], ◌∷◌, ◌++◌, zero, suc, refl, sym, ◌∙◌, ap, arith, ⊎_elim}
use Rattle.std.proofs.Math.Nat.{pow-suc}
use Rattle.std.proofs.lemmas.Bool.{ne_eqb, lt-ltb}
use Rattle.bit_laws.specs.Numbers.{number}
use Rattle.bit_laws.proofs.Numbers.{number-same}
use Rattle.micro_ir.specs.Steps.{step_on, steps_on}
use Rattle.micro_ir.proofs.StepLists.{steps_on-append}
use Rattle.micro_ir.proofs.Effects.{broadcast-on}
use Rattle.micro_ir.proofs.OneElement.{clear-here, step-row}
use Rattle.micro_ir.specs.WorkRows.{broadcast_row, truth_row}
use Rattle.micro_ir.specs.Pieces.{clear, broadcast}
use Rattle.gen_arith.specs.Recipes.{odd_on, most_on}
use Rattle.gen_shift.specs.Rows.{is_odd, is_among}
use Rattle.gen_shift.proofs.Stays.{Within, within-append, within-broadcast}
use Rattle.row_sums.specs.Sums.{total_row, half_role, half_after, halved, total}
use Rattle.row_sums.proofs.Kept.{kept, differ, Halves, off_first, turned, apart, halves, half-next}
use Rattle.row_sums.proofs.Places.{halved-here, down-number, Down}
use Rattle.row_sums.proofs.Totals.{total-on, total-only}
use Rattle.row_sums.proofs.Numbers.{total-sum, gated-number, number-none}
use Rattle.gen_mul.specs.Lists.{high_row, gated, gated_sum_on, gated_carry_on, product_round, product_rounds, multiplying}
use Rattle.gen_mul.proofs.Tables.{gated-reads, gated_sum, gated_carry}

-- the rows that a product writes
abbrev pub product_works : List ℕ
product_works = 35 ∷ 37 ∷ 38 ∷ 39 ∷ 41 ∷ 42 ∷ 43 ∷ 44 ∷ []

pub round-only : (w a b q r j : ℕ) → Halves q r → Within product_works (product_round w a b q r j)
unfolding product_round
round-only w a b q r j h =
    let adds = total w (gated high_row a) gated_sum_on gated_carry_on total_row truth_row in
    let p = halved w total_row high_row truth_row (w - 1) 0 in
    let l = halved w q r total_row 0 (w - 1) in
    let r_in : is_among product_works r ≡ true = ⊎_elim (λ (p : (q ≡ 43) × (r ≡ 44)). rw p.1 refl) (λ (p : (q ≡ 44) × (r ≡ 43)). rw p.1 refl) h in
    within-append product_works (broadcast w b j) (adds ++ (p ++ l)) (within-broadcast product_works w b j refl)
    (within-append product_works adds (p ++ l) (total-only product_works w (gated high_row a) gated_sum_on gated_carry_on total_row truth_row refl refl refl)
    (refl, (refl, (refl, (r_in, (r_in, (r_in, tt)))))))

pub record Round (w a b q r j : ℕ) (e now : ℕ → ℕ → Bool) : Type 0 where
  pub high : 2 * number w (now high_row) + cond (now r (w - 1)) 1 0 ≡ number w (e high_row) + cond (e b j) (number w (e a)) 0
  pub low : (i : ℕ) → i + 1 < w → now r i ≡ e q (i + 1)

pub round-on : (w a b q r j : ℕ) (e : ℕ → ℕ → Bool) → is_among product_works a ≡ false → is_among product_works b ≡ false → Halves q r → j < w
    → Round w a b q r j e (steps_on (product_round w a b q r j) e)
unfolding product_round
round-on w a b q r j e a_off b_off h inside =
    let inputs = gated high_row a in
    let cast = broadcast w b j in
    let adds = total w inputs gated_sum_on gated_carry_on total_row truth_row in
    let p = halved w total_row high_row truth_row (w - 1) 0 in
    let l = halved w q r total_row 0 (w - 1) in
    let e1 = steps_on cast e in
    let e2 = steps_on adds e1 in
    let e3 = steps_on p e2 in
    let e4 = steps_on l e3 in
    let k1 : (x : ℕ) → is_among (37 ∷ []) x ≡ false → e1 x ≡ e x = λ x. kept (37 ∷ []) cast e x (within-broadcast (37 ∷ []) w b j refl) in
    let k2 : (x : ℕ) → is_among (35 ∷ 38 ∷ 41 ∷ []) x ≡ false → e2 x ≡ e1 x = λ x. kept (35 ∷ 38 ∷ 41 ∷ []) adds e1 x (total-only (35 ∷ 38 ∷ 41 ∷ []) w inputs gated_sum_on gated_carry_on total_row truth_row refl refl refl) in
    let k3 : (x : ℕ) → is_among (42 ∷ []) x ≡ false → e3 x ≡ e2 x = λ x. kept (42 ∷ []) p e2 x (refl, (refl, (refl, tt))) in
    let a_not : (x : ℕ) → is_among product_works x ≡ true → a ≢ x = λ x. differ a x product_works a_off in
    let b_not : (x : ℕ) → is_among product_works x ≡ true → b ≢ x = λ x. differ b x product_works b_off in
    let q_not = off_first q r h in
    let r_not = off_first r q (turned q r h) in
    let t = total-on w total_row truth_row inputs gated_sum_on gated_carry_on odd_on most_on (λ f. f high_row) (λ f. f a && f broadcast_row)
    (gated-reads high_row a gated_sum_on odd_on gated_sum) (gated-reads high_row a gated_carry_on most_on gated_carry)
    (λ f g same. same high_row refl) (λ f g same n. same a (rw (ne_eqb a 35 (a_not 35 refl), ne_eqb a 38 (a_not 38 refl), ne_eqb a 41 (a_not 41 refl)) refl) n && same broadcast_row refl n)
    (omega arith) (omega arith) (omega arith) e1 (omega arith) in
    let cast_is : (i : ℕ) → i < w → e1 broadcast_row i ≡ e b j = λ i u. broadcast-on w b j e inside (b_not 37 refl) broadcast_row i u ∙ rw (lt-ltb i w u) refl in
    let sum : number w (e2 total_row) + cond (e2 truth_row (w - 1)) (2 ^ w) 0 ≡ number w (e high_row) + cond (e b j) (number w (e a)) 0 =
    total-sum w total_row truth_row (e1 high_row) (λ i. e1 a i && e1 broadcast_row i) e2 t
    ∙ rw (gated-number w (e1 a) (e1 broadcast_row) (e b j) cast_is, k1 high_row refl, k1 a (rw (ne_eqb a 37 (a_not 37 refl)) refl)) refl in
    let p_down : Down w (e2 total_row) (e2 truth_row (w - 1)) (e3 high_row) = halved-here w total_row high_row truth_row (w - 1) 0 e2 (omega arith) (omega arith) (omega arith) (omega arith) in
    let r_t : total_row ≢ r = λ z. differ r 38 (38 ∷ []) (r_not (38 ∷ []) refl refl) refl (sym z) in
    let l_down : Down w (e3 q) (e3 total_row 0) (e4 r) = halved-here w q r total_row 0 (w - 1) e3 (omega arith) (omega arith) (apart q r h) r_t in
    let p_stays : e4 high_row ≡ e3 high_row = kept (43 ∷ 44 ∷ []) l e3 high_row (r_in (43 ∷ 44 ∷ []) refl refl, (r_in (43 ∷ 44 ∷ []) refl refl, (r_in (43 ∷ 44 ∷ []) refl refl, tt))) refl in
    let split : steps_on (cast ++ (adds ++ (p ++ l))) e ≡ e4 = steps_on-append cast (adds ++ (p ++ l)) e ∙ steps_on-append adds (p ++ l) e1 ∙ steps_on-append p l e2 in
    rw split (record {
      high = rw (p_stays, l_down.last, k3 total_row refl) (down-number w (e2 total_row) (e2 truth_row (w - 1)) (e3 high_row) (omega arith) p_down ∙ sum);
      low = λ i u. l_down.inner i u ∙ rw (k3 q (q_not (42 ∷ []) refl refl), k2 q (q_not (35 ∷ 38 ∷ 41 ∷ []) refl refl), k1 q (q_not (37 ∷ []) refl refl)) refl;
    })
  where
    r_in : (rows : List ℕ) → is_among rows 43 ≡ true → is_among rows 44 ≡ true → is_among rows r ≡ true
    r_in rows one two = ⊎_elim (λ (p : (q ≡ 43) × (r ≡ 44)). rw p.1 two) (λ (p : (q ≡ 44) × (r ≡ 43)). rw p.1 one) h

-- ---- all rounds

pub rounds-only : (w a b n : ℕ) → Within product_works (product_rounds w a b n)
unfolding product_rounds
rounds-only w a b zero = tt
rounds-only w a b (suc j) =
    within-append product_works (product_rounds w a b j) (product_round w a b (half_after j) (half_role (not (is_odd j))) j) (rounds-only w a b j) (round-only w a b (half_after j) (half_role (not (is_odd j))) j (halves (is_odd j)))

-- the sum so far: its high half stands in the high row, and j bits of its low half at the top of the half row
pub Summed : (w a b j q : ℕ) (e now : ℕ → ℕ → Bool) → Type 0
Summed w a b j q e now = number w (now high_row) * 2 ^ j + number j (λ i. now q (w - j + i)) ≡ number w (e a) * number j (e b)

more : (high next low big n m : ℕ) (t bit : Bool) → 2 * next + cond t 1 0 ≡ high + cond bit big 0 → high * m + low ≡ big * n
    → next * (m * 2) + (low + cond t m 0) ≡ big * (n + cond bit m 0)
more high next low big n m true true p q = let g : (2 * next + 1) * m ≡ (high + big) * m = ap (λ (x : ℕ). x * m) p in omega arith
more high next low big n m true false p q = let g : (2 * next + 1) * m ≡ (high + 0) * m = ap (λ (x : ℕ). x * m) p in omega arith
more high next low big n m false true p q = let g : (2 * next + 0) * m ≡ (high + big) * m = ap (λ (x : ℕ). x * m) p in omega arith
more high next low big n m false false p q = let g : (2 * next + 0) * m ≡ (high + 0) * m = ap (λ (x : ℕ). x * m) p in omega arith

pub product-on : (w a b j : ℕ) (e : ℕ → ℕ → Bool) → is_among product_works a ≡ false → is_among product_works b ≡ false → j ≤ w
    → ((i : ℕ) → i < w → e high_row i ≡ false) → Summed w a b j (half_after j) e (steps_on (product_rounds w a b j) e)
unfolding steps_on product_rounds Summed
product-on w a b zero e a_off b_off h off = rw (number-none w (e high_row) off) (omega arith)
product-on w a b (suc j) e a_off b_off h off =
    let now = steps_on (product_rounds w a b j) e in
    let ih = product-on w a b j e a_off b_off (omega arith) off in
    let q = half_after j in
    let r = half_role (not (is_odd j)) in
    let last = product_round w a b q r j in
    let end = steps_on last now in
    let p = round-on w a b q r j now a_off b_off (halves (is_odd j)) (omega arith) in
    let ka : now a ≡ e a = kept product_works (product_rounds w a b j) e a (rounds-only w a b j) a_off in
    let kb : now b ≡ e b = kept product_works (product_rounds w a b j) e b (rounds-only w a b j) b_off in
    let high : 2 * number w (end high_row) + cond (end r (w - 1)) 1 0 ≡ number w (now high_row) + cond (e b j) (number w (e a)) 0 = rw (ka, kb) at p.high in
    let same : number j (λ i. end r (w - suc j + i)) ≡ number j (λ i. now q (w - j + i)) =
    number-same j (λ i. end r (w - suc j + i)) (λ i. now q (w - j + i)) (λ i l. let z : w - suc j + i + 1 ≡ w - j + i = omega arith in p.low (w - suc j + i) (omega arith) ∙ rw z refl) in
    let z : w - suc j + j ≡ w - 1 = omega arith in
    rw (half-next j, steps_on-append (product_rounds w a b j) last e, same, z, pow-suc 2 j)
    (more (number w (now high_row)) (number w (end high_row)) (number j (λ i. now q (w - j + i))) (number w (e a)) (number j (e b)) (2 ^ j) (end r (w - 1)) (e b j) high ih)

-- the two halves of the product
pub product-halves : (w a b : ℕ) (e : ℕ → ℕ → Bool) → is_among product_works a ≡ false → is_among product_works b ≡ false
    → number w (steps_on (multiplying w a b) e high_row) * 2 ^ w + number w (steps_on (multiplying w a b) e (half_after w)) ≡ number w (e a) * number w (e b)
unfolding steps_on multiplying Summed
product-halves w a b e a_off b_off =
    let e1 = step_on (clear w high_row) e in
    let e2 = step_on (clear w (half_role false)) e1 in
    let e3 = steps_on (product_rounds w a b w) e2 in
    let two = clear w high_row ∷ clear w (half_role false) ∷ [] in
    let off : (i : ℕ) → i < w → e2 high_row i ≡ false = λ i l. step-row (clear w (half_role false)) e1 high_row i (omega arith) ∙ clear-here w high_row e i l in
    let ka : e2 a ≡ e a = kept product_works two e a (refl, (refl, tt)) a_off in
    let kb : e2 b ≡ e b = kept product_works two e b (refl, (refl, tt)) b_off in
    let p : number w (e3 high_row) * 2 ^ w + number w (λ i. e3 (half_after w) (w - w + i)) ≡ number w (e2 a) * number w (e2 b) = product-on w a b w e2 a_off b_off (omega arith) off in
    let same : number w (λ i. e3 (half_after w) (w - w + i)) ≡ number w (e3 (half_after w)) =
    number-same w (λ i. e3 (half_after w) (w - w + i)) (e3 (half_after w)) (λ i l. let z : w - w + i ≡ i = omega arith in rw z refl) in
    rw (same, ka, kb) at p

pub product-only : (w a b : ℕ) → Within product_works (multiplying w a b)
unfolding multiplying
product-only w a b = (refl, (refl, rounds-only w a b w))
