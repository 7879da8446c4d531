-- What the parts cost, how long they are, and that a chain can run them.
use Rattle.std.proofs.Common.{◌≡◌, ℕ, ◌+◌, ◌-◌, ◌*◌, ◌<◌, ◌≤◌, Bool, true, false, cond, ltb, List, [], ◌∷◌, ◌++◌, length, zero, suc, refl, sym, ◌∙◌, arith}
use Rattle.std.proofs.lemmas.Bool.{lt-ltb, le-ltb}
use Rattle.micro_ir.specs.Measures.{counts, Measured}
use Rattle.micro_ir.specs.Pieces.{above, below, clear, commit, ups, downs, broadcast}
use Rattle.micro_ir.specs.Steps.{Step, micros}
use Rattle.micro_ir.specs.WorkRows.{broadcast_row, carry_row}
use Rattle.micro_ir.proofs.Effects.{downs-counts, broadcast-tally, broadcast-length}
use Rattle.micro_ir.proofs.StepLists.{RowsFit, RowsFit-append, pass_length, steps_counts, steps_counts-append, tally-micros, steps_length, steps_length-append, length-micros, AllInRange-micros}
use Rattle.gen_arith.specs.Recipes.{digit, ripple}
use Rattle.gen_arith.proofs.Costs.{counts-same, counts-add, whole-counts}
use Rattle.row_sums.specs.Sums.{ripple_length, total, total_length, sum_from, shifted_once, halved, doubled}

-- the searches, updates and passes of a list of steps, its operations, and that its rows are a subarray's
pub record Sized (s u p n : ℕ) (steps : List Step) : Type 0 where
  pub cost : steps_counts steps ≡ counts s u p
  pub long : steps_length steps ≡ n
  pub rows : RowsFit steps

pub sized-append : (xs ys : List Step) {s u p n t v q m : ℕ} → Sized s u p n xs → Sized t v q m ys → Sized (s + t) (u + v) (p + q) (n + m) (xs ++ ys)
sized-append xs ys x y = record {
  cost = steps_counts-append xs ys ∙ counts-add _ _ _ _ _ _ _ _ x.cost y.cost;
  long = steps_length-append xs ys ∙ rw (x.long, y.long) refl;
  rows = RowsFit-append xs ys x.rows y.rows;
}

pub sized-as : {s u p n t v q m : ℕ} {xs : List Step} → Sized s u p n xs → s ≡ t → u ≡ v → p ≡ q → n ≡ m → Sized t v q m xs
sized-as x a b c d = record { cost = x.cost ∙ counts-same _ _ _ _ _ _ a b c; long = x.long ∙ d; rows = x.rows }

-- the list of its operations is measured
pub measured : {s u p n : ℕ} (w : ℕ) (steps : List Step) → Sized s u p n steps → Measured (counts s u p) n (micros w steps)
measured w steps x = record {
  cost = tally-micros w steps ∙ x.cost;
  count = length-micros w steps ∙ x.long;
  range = λ columns. AllInRange-micros columns w steps x.rows;
}

-- ---- pieces

pub none-sized : Sized 0 0 0 0 []
none-sized = record { cost = refl; long = refl; rows = tt }

pub clear-sized : (w r : ℕ) → r < 64 → Sized 1 1 0 2 (clear w r ∷ [])
clear-sized w r low = record { cost = refl; long = refl; rows = (low, omega arith, tt) }

pub commit-sized : (w row to : ℕ) → to < 32 → Sized 2 2 0 4 (commit w row to)
commit-sized w row to low = record { cost = refl; long = refl; rows = (omega arith, omega arith, (omega arith, omega arith, tt)) }

downs-long : (row n : ℕ) → steps_length (downs row n) ≡ 3 * n
unfolding downs
downs-long row zero = refl
downs-long row (suc n) = rw (downs-long row n) (omega arith)

downs-rows : (row n : ℕ) → row < 64 → RowsFit (downs row n)
unfolding downs
downs-rows row zero low = tt
downs-rows row (suc n) low = (low, omega arith, downs-rows row n low)

pub downs-sized : (row n : ℕ) → row < 64 → Sized n n n (3 * n) (downs row n)
downs-sized row n low = record { cost = downs-counts row n; long = downs-long row n; rows = downs-rows row n low }

ups-rows : (row j n : ℕ) → row < 64 → RowsFit (ups row j n)
unfolding ups
ups-rows row j zero h = tt
ups-rows row j (suc n) h = RowsFit-append (ups row j n) (above (row ∷ []) (1 ∷ []) row (j + n) 1 ∷ []) (ups-rows row j n h) (h, omega arith, tt)

broadcast-rows : (w b j : ℕ) → RowsFit (broadcast w b j)
unfolding broadcast
broadcast-rows w b j =
    (omega arith, omega arith, (omega arith, omega arith, RowsFit-append (ups broadcast_row j (w - 1 - j)) (downs broadcast_row j) (ups-rows broadcast_row j (w - 1 - j) (omega arith)) (downs-sized broadcast_row j (omega arith)).rows))

pub broadcast-sized : (w b j : ℕ) → j < w → Sized (w + 1) (w + 1) (w - 1) (3 * w + 1) (broadcast w b j)
broadcast-sized w b j low = record {
  cost = sym (tally-micros w (broadcast w b j)) ∙ broadcast-tally w b j low;
  long = sym (length-micros w (broadcast w b j)) ∙ broadcast-length w b j low;
  rows = broadcast-rows w b j;
}

-- ---- sums, by tables that have some value

module _ (w : ℕ) (inputs : List ℕ) (t : ℕ) (ts : List ℕ) (v : ℕ) (vs : List ℕ) where
  ds : List ℕ
  ds = t ∷ ts

  cs : List ℕ
  cs = v ∷ vs

  ripple-rows : (c d n : ℕ) → c < 64 → d < 64 → RowsFit (ripple w inputs (t ∷ ts) (v ∷ vs) c d n)
  unfolding ripple
  ripple-rows c d zero p q = tt
  ripple-rows c d (suc n) p q =
      RowsFit-append (ripple w inputs (t ∷ ts) (v ∷ vs) c d n) (digit w inputs (t ∷ ts) (v ∷ vs) c d n) (ripple-rows c d n p q) (
        q,
        omega arith,
        elim (ltb (suc n) w) as (λ x. RowsFit (cond x (above inputs (v ∷ vs) c n 1 ∷ []) [])) [
          | true ↦ (p, omega arith, tt)
          | false ↦ tt
        ],
      )

  ripple-long : (c d n : ℕ) → n < w → steps_length (ripple w inputs (t ∷ ts) (v ∷ vs) c d n) ≡ n * (length (t ∷ ts) + length (v ∷ vs) + 3)
  unfolding ripple
  ripple-long c d zero h = omega arith
  ripple-long c d (suc n) h =
      steps_length-append (ripple w inputs (t ∷ ts) (v ∷ vs) c d n) (digit w inputs (t ∷ ts) (v ∷ vs) c d n)
      ∙ rw (ripple-long c d n (omega arith), lt-ltb (suc n) w h) (omega arith)

  whole-long : (c d n : ℕ) → w ≡ suc n → steps_length (ripple w inputs (t ∷ ts) (v ∷ vs) c d (suc n)) ≡ n * (length (t ∷ ts) + length (v ∷ vs) + 3) + (length (t ∷ ts) + 1)
  unfolding ripple
  whole-long c d n is =
      steps_length-append (ripple w inputs (t ∷ ts) (v ∷ vs) c d n) (digit w inputs (t ∷ ts) (v ∷ vs) c d n)
      ∙ rw (ripple-long c d n (omega arith), le-ltb (suc n) w (omega arith)) (omega arith)

pub ripple-sized : (n : ℕ) (inputs : List ℕ) (t : ℕ) (ts : List ℕ) (v : ℕ) (vs : List ℕ) (c d : ℕ) → c < 64 → d < 64
    → (let x = length (t ∷ ts) in let y = length (v ∷ vs) in
    Sized (n * (x + y) + x) (2 * n + 1) n (n * (x + y + 3) + (x + 1)) (ripple (suc n) inputs (t ∷ ts) (v ∷ vs) c d (suc n)))
ripple-sized n inputs t ts v vs c d p q = record {
  cost = whole-counts inputs (t ∷ ts) (v ∷ vs) c d n ∙ counts-same _ _ _ _ _ _ refl (omega arith) (omega arith);
  long = whole-long (suc n) inputs t ts v vs c d n refl;
  rows = ripple-rows (suc n) inputs t ts v vs c d (suc n) p q;
}

pub total-sized : (n : ℕ) (inputs : List ℕ) (t : ℕ) (ts : List ℕ) (v : ℕ) (vs : List ℕ) (d k : ℕ) → d < 64 → k < 64
    → (let x = length (t ∷ ts) in let y = length (v ∷ vs) in
    Sized (suc n * (x + y) + 3) (2 * n + 5) n (total_length (suc n) (t ∷ ts) (v ∷ vs)) (total (suc n) inputs (t ∷ ts) (v ∷ vs) d k))
total-sized n inputs t ts v vs d k p q =
    let w = suc n in
    let x : ℕ = length (t ∷ ts) in
    let y : ℕ = length (v ∷ vs) in
    let z : suc n - 1 ≡ n = omega arith in
    let rip = ripple w inputs (t ∷ ts) (v ∷ vs) carry_row d w in
    let last = above inputs (v ∷ vs) k (w - 1) 0 ∷ [] in
    let clears : Sized 3 3 0 6 (clear w carry_row ∷ clear w d ∷ clear w k ∷ []) = record { cost = refl; long = refl; rows = (omega arith, omega arith, (p, omega arith, (q, omega arith, tt))) } in
    let top : Sized y 1 0 (y + 1) last = record { cost = counts-same _ _ _ _ _ _ (omega arith) (omega arith) (omega arith); long = omega arith; rows = (q, omega arith, tt) } in
    sized-as (sized-append (clear w carry_row ∷ clear w d ∷ clear w k ∷ []) (rip ++ last) clears (sized-append rip last (ripple-sized n inputs t ts v vs carry_row d (omega arith) p) top))
    (omega arith) (omega arith) (omega arith) (rw z (omega arith))

-- what is carried in, and a sum from it
pub sum_from-sized : (n : ℕ) (from from_on inputs : List ℕ) (t : ℕ) (ts : List ℕ) (v : ℕ) (vs : List ℕ) (d : ℕ) {s u m : ℕ} → d < 64
    → Sized s u 0 m (above from from_on carry_row 0 0 ∷ [])
    → (let x = length (t ∷ ts) in let y = length (v ∷ vs) in
    Sized (s + (n * (x + y) + x + 2)) (u + (2 * n + 3)) n (m + (ripple_length (suc n) (t ∷ ts) (v ∷ vs) + 4)) (sum_from (suc n) from from_on inputs (t ∷ ts) (v ∷ vs) d))
sum_from-sized n from from_on inputs t ts v vs d p start =
    let w = suc n in
    let z : suc n - 1 ≡ n = omega arith in
    let rip = ripple w inputs (t ∷ ts) (v ∷ vs) carry_row d w in
    let begin = above from from_on carry_row 0 0 in
    sized-as (sized-append (clear w carry_row ∷ []) (begin ∷ (clear w d ∷ rip)) (clear-sized w carry_row (omega arith))
    (sized-append (begin ∷ []) (clear w d ∷ rip) start (sized-append (clear w d ∷ []) rip (clear-sized w d p) (ripple-sized n inputs t ts v vs carry_row d (omega arith) p))))
    (omega arith) (omega arith) (omega arith) (rw z (omega arith))

-- ---- rows moved by one place

pub pass-one : (h : ℕ) → 0 < h → pass_length h ≡ 1
pass-one zero some = absurd (omega arith)
pass-one (suc h) some = refl

pub once-sized : (w : ℕ) (up : Bool) (from out : ℕ) → out < 64 → Sized 2 2 1 5 (shifted_once w up from out)
once-sized w true from out low = record { cost = refl; long = refl; rows = (low, omega arith, (low, omega arith, tt)) }
once-sized w false from out low = record { cost = refl; long = refl; rows = (low, omega arith, (low, omega arith, tt)) }

-- the bit at the top from the same place, and from one below it
pub halved-sized : (w from out other j : ℕ) → out < 64 → Sized 3 3 1 7 (halved w from out other j 0)
halved-sized w from out other j low =
    sized-append (shifted_once w false from out) (above (other ∷ []) (1 ∷ []) out j 0 ∷ []) (once-sized w false from out low) (record { cost = refl; long = refl; rows = (low, omega arith, tt) })

pub halved-far : (w from out other j h : ℕ) → out < 64 → 0 < h → h ≤ 31 → Sized 3 3 (h + 1) 8 (halved w from out other j h)
halved-far w from out other j h low some most =
    let far : Sized 1 1 h 3 (above (other ∷ []) (1 ∷ []) out j h ∷ []) =
    record { cost = counts-same _ _ _ _ _ _ refl refl (omega arith); long = rw (pass-one h some) refl; rows = (low, most, tt) } in
    sized-as (sized-append (shifted_once w false from out) (above (other ∷ []) (1 ∷ []) out j h ∷ []) (once-sized w false from out low) far) refl refl (omega arith) refl

pub doubled-sized : (w from out other : ℕ) → out < 64 → 1 < w → w ≤ 32 → Sized 3 3 w 8 (doubled w from out other)
doubled-sized w from out other low wide most =
    let far : Sized 1 1 (w - 1) 3 (below (other ∷ []) (1 ∷ []) out (w - 1) (w - 1) ∷ []) =
    record { cost = counts-same _ _ _ _ _ _ refl refl (omega arith); long = rw (pass-one (w - 1) (omega arith)) refl; rows = (low, omega arith, tt) } in
    sized-as (sized-append (shifted_once w true from out) (below (other ∷ []) (1 ∷ []) out (w - 1) (w - 1) ∷ []) (once-sized w true from out low) far) refl refl (omega arith) refl
