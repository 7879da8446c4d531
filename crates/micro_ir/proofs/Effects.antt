-- The pieces have their effects at every width, and what they cost.
use Rattle.std.proofs.Common.{◌≡◌, ◌≢◌, ℕ, ◌+◌, ◌-◌, ◌*◌, ◌<◌, ◌≤◌, Bool, true, false, cond, ◌&&◌, ◌||◌, eqb, ltb, List, [], ◌∷◌, zero, suc, length, refl, sym, ◌∙◌, ap, arith, ◌⊎◌, inl, inr, ⊎_elim}
use Rattle.std.proofs.lemmas.Bool.{cases_lt, cases_eq, lt-ltb, le-ltb, eq-eqb, ne_eqb}
use Rattle.cam_chain.specs.declared.counts.Counts.{Counts}
use Rattle.micro_ir.specs.Replay.{replay, AllInRange, tally}
use Rattle.micro_ir.specs.Steps.{Step, searches, micro, micros, element, step_on, steps_on, AllFit}
use Rattle.micro_ir.specs.WorkRows.{active_row, broadcast_row}
use Rattle.micro_ir.specs.Pieces.{above, below, clear, commit, ups, downs, broadcast}
use Rattle.micro_ir.specs.Effects.{Makes, Clears, Commits, Broadcasts, Costs}
use Rattle.micro_ir.proofs.Lists.{replay-num}
use Rattle.micro_ir.proofs.Keeping.{micros-keep}
use Rattle.micro_ir.proofs.Lift.{element-outside, replay-columns, micros-element}
use Rattle.micro_ir.proofs.OneElement.{hit, fires-hit, step-row, clear-here, commit-here, commit-row, clear-fits, commit-fits, above-else, above-here, above-fits, below-else, below-here, below-fits}
use Rattle.micro_ir.proofs.Folds.{copy-whole}
use Rattle.micro_ir.proofs.PieceLists.{clear-list, commit-list}
use Rattle.micro_ir.proofs.StepLists.{micros-one, steps_on-append, AllFit-append, RowsFit, RowsFit-append, AllInRange-micros, steps_counts, steps_counts-append, tally-micro, tally-micros, steps_length, steps_length-append, length-micros}

-- ---- from one element to all

-- what a list of steps makes of each element, from what it makes of one
pub makes : (w : ℕ) (what : (ℕ → ℕ → Bool) → ℕ → ℕ → Bool) (steps : List Step) → AllFit w steps
    → ((e : ℕ → ℕ → Bool) (r i : ℕ) → i < w → steps_on steps e r i ≡ what e r i)
    → ((e : ℕ → ℕ → Bool) (r i : ℕ) → w ≤ i → ((row : ℕ) → e row i ≡ false) → what e r i ≡ false)
    → Makes w what (micros w steps)
makes w what steps fits inside outside = record {
  elements = λ s k col q c.
      let e = element w k col s in
      let place : (r i : ℕ) → element w k col (replay (micros w steps) s) r i ≡ what e r i =
      λ r i. ⊎_elim
      (λ (l : i < w). ap (λ (f : ℕ → ℕ → Bool). f r i) (micros-element w k col steps s fits q c) ∙ inside e r i l)
      (λ (l : w ≤ i). element-outside w k col (replay (micros w steps) s) r i l ∙ sym (outside e r i l (λ row. element-outside w k col s row i l)))
      (cases_lt i w) in
      λ x r i. place r i x;
  num = λ s. replay-num (micros w steps) s (micros-keep w steps);
  columns = replay-columns (micros w steps);
}

none_of : (a x y : Bool) → cond (a && false) x y ≡ y
none_of true x y = refl
none_of false x y = refl

-- ---- the pieces

-- a row is clear
pub clears : (w row : ℕ) → 0 < w → Clears row (micro w (clear w row))
unfolding steps_on
clears w row some v wide =
    rw (clear-list w row some ∙ sym (clear-list v row wide) ∙ sym (micros-one v (clear v row)))
    (makes v _ (clear v row ∷ []) (clear-fits v row, tt) inside (λ e r i l none. rw (le-ltb i v l, none r) (none_of (eqb r row) false false)))
  where
    inside : (e : ℕ → ℕ → Bool) (r i : ℕ) → i < v → steps_on (clear v row ∷ []) e r i ≡ cond (eqb r row && ltb i v) false (e r i)
    inside e r i l = ⊎_elim
        (λ (same : r ≡ row). rw (same, eq-eqb row row refl, lt-ltb i v l) (clear-here v row e i l))
        (λ (other : r ≢ row). rw (ne_eqb r row other) (step-row (clear v row) e r i other))
        (cases_eq r row)

-- a row is committed
pub commits : (w row to : ℕ) → 0 < w → row ≢ active_row → row ≢ to → to ≢ active_row → Commits row to (micros w (commit w row to))
commits w row to some work other passive v wide =
    rw (commit-list w row to some work ∙ sym (commit-list v row to wide work))
    (makes v _ (commit v row to) (commit-fits v row to work) inside (λ e r i l none. rw (none active_row, none r) (none_of (eqb r to) (e row i) false)))
  where
    inside : (e : ℕ → ℕ → Bool) (r i : ℕ) → i < v → steps_on (commit v row to) e r i ≡ cond (eqb r to && e active_row i) (e row i) (e r i)
    inside e r i l = ⊎_elim
        (λ (same : r ≡ to). rw (same, eq-eqb to to refl) (commit-here v row to e i other passive l))
        (λ (apart : r ≢ to). rw (ne_eqb r to apart) (commit-row v row to e r i apart))
        (cases_eq r to)

-- ---- a copy of one bit

copied : (x : Bool) → hit (1 ∷ []) (x ∷ []) || false ≡ x
copied true = refl
copied false = refl

-- to a clear place above it
pub above-copy : (from out j times : ℕ) (e : ℕ → ℕ → Bool) → e out (j + times) ≡ false → step_on (above (from ∷ []) (1 ∷ []) out j times) e out (j + times) ≡ e from j
above-copy from out j times e clear = above-here (from ∷ []) (1 ∷ []) out j times e ∙ rw (clear, fires-hit (from ∷ []) (1 ∷ []) (λ r. e r j)) (copied (e from j))

-- to a clear place below it
pub below-copy : (from out j times : ℕ) (e : ℕ → ℕ → Bool) → e out j ≡ false → step_on (below (from ∷ []) (1 ∷ []) out (j + times) times) e out j ≡ e from (j + times)
below-copy from out j times e clear =
    below-here (from ∷ []) (1 ∷ []) out j times e ∙ rw (clear, fires-hit (from ∷ []) (1 ∷ []) (λ r. e r (j + times))) (copied (e from (j + times)))

-- ---- a bit into those above it, and into those below it

pub ups-row : (row j n : ℕ) (e : ℕ → ℕ → Bool) (r i : ℕ) → r ≢ row → steps_on (ups row j n) e r i ≡ e r i
unfolding steps_on ups
ups-row row j zero e r i other = refl
ups-row row j (suc n) e r i other =
    let one = above (row ∷ []) (1 ∷ []) row (j + n) 1 in
    rw (steps_on-append (ups row j n) (one ∷ []) e) (step-row one (steps_on (ups row j n) e) r i other ∙ ups-row row j n e r i other)

-- the places up to the bit stay, and those past the last one
pub ups-else : (row j n : ℕ) (e : ℕ → ℕ → Bool) (r i : ℕ) → (i ≤ j) ⊎ (j + n < i) → steps_on (ups row j n) e r i ≡ e r i
unfolding steps_on ups
ups-else row j zero e r i away = refl
ups-else row j (suc n) e r i away =
    let one = above (row ∷ []) (1 ∷ []) row (j + n) 1 in
    let apart : i ≢ j + n + 1 = ⊎_elim (λ (l : i ≤ j). λ q. omega arith) (λ (l : j + suc n < i). λ q. omega arith) away in
    let less : (i ≤ j) ⊎ (j + n < i) = ⊎_elim (λ (l : i ≤ j). inl l) (λ (l : j + suc n < i). inr (omega arith)) away in
    rw (steps_on-append (ups row j n) (one ∷ []) e)
    (above-else (row ∷ []) (1 ∷ []) row (j + n) 1 (steps_on (ups row j n) e) r i apart ∙ ups-else row j n e r i less)

-- from clear places above it
pub ups-here : (row j n : ℕ) (e : ℕ → ℕ → Bool) → ((i : ℕ) → j < i → i ≤ j + n → e row i ≡ false) → (i : ℕ) → j ≤ i → i ≤ j + n → steps_on (ups row j n) e row i ≡ e row j
unfolding steps_on ups
ups-here row j zero e clear i low high = let z : i ≡ j = omega arith in rw z refl
ups-here row j (suc n) e clear i low high =
    let one = above (row ∷ []) (1 ∷ []) row (j + n) 1 in
    let e1 = steps_on (ups row j n) e in
    let under : (i : ℕ) → j < i → i ≤ j + n → e row i ≡ false = λ i a b. clear i a (omega arith) in
    let next : e1 row (j + n + 1) ≡ false = ups-else row j n e row (j + n + 1) (inr (omega arith)) ∙ clear (j + n + 1) (omega arith) (omega arith) in
    rw (steps_on-append (ups row j n) (one ∷ []) e)
    (⊎_elim
    (λ (l : i < j + n + 1). above-else (row ∷ []) (1 ∷ []) row (j + n) 1 e1 row i (omega arith) ∙ ups-here row j n e under i low (omega arith))
    (λ (l : j + n + 1 ≤ i). let q : i ≡ j + n + 1 = omega arith in
    rw q (above-copy row row (j + n) 1 e1 next) ∙ ups-here row j n e under (j + n) (omega arith) (omega arith))
    (cases_lt i (j + n + 1)))

pub ups-fit : (w row j n : ℕ) → j + n < w → AllFit w (ups row j n)
unfolding ups
ups-fit w row j zero inside = tt
ups-fit w row j (suc n) inside =
    AllFit-append w (ups row j n) (above (row ∷ []) (1 ∷ []) row (j + n) 1 ∷ []) (ups-fit w row j n (omega arith)) (above-fits w (row ∷ []) (1 ∷ []) row (j + n) 1 (omega arith) (inl (copy-whole row)), tt)

-- the places from the bit on stay
pub downs-above : (row n : ℕ) (e : ℕ → ℕ → Bool) (r i : ℕ) → n ≤ i → steps_on (downs row n) e r i ≡ e r i
unfolding steps_on downs
downs-above row zero e r i high = refl
downs-above row (suc n) e r i high =
    let one = below (row ∷ []) (1 ∷ []) row (suc n) 1 in
    downs-above row n (step_on one e) r i (omega arith) ∙ below-else (row ∷ []) (1 ∷ []) row (suc n) 1 e r i (omega arith)

pub downs-row : (row n : ℕ) (e : ℕ → ℕ → Bool) (r i : ℕ) → r ≢ row → steps_on (downs row n) e r i ≡ e r i
unfolding steps_on downs
downs-row row zero e r i other = refl
downs-row row (suc n) e r i other =
    let one = below (row ∷ []) (1 ∷ []) row (suc n) 1 in
    downs-row row n (step_on one e) r i other ∙ step-row one e r i other

-- from clear places below it
pub downs-here : (row n : ℕ) (e : ℕ → ℕ → Bool) → ((i : ℕ) → i < n → e row i ≡ false) → (i : ℕ) → i ≤ n → steps_on (downs row n) e row i ≡ e row n
unfolding steps_on downs
downs-here row zero e clear i low = let z : i ≡ 0 = omega arith in rw z refl
downs-here row (suc n) e clear i low =
    let one = below (row ∷ []) (1 ∷ []) row (suc n) 1 in
    let e1 = step_on one e in
    let z : suc n ≡ n + 1 = omega arith in
    let next : e1 row n ≡ e row (suc n) =
    ap (λ (k : ℕ). step_on (below (row ∷ []) (1 ∷ []) row k 1) e row n) z ∙ below-copy row row n 1 e (clear n (omega arith)) ∙ ap (e row) (sym z) in
    let still : (i : ℕ) → i < n → e1 row i ≡ false = λ i l. below-else (row ∷ []) (1 ∷ []) row (suc n) 1 e row i (omega arith) ∙ clear i (omega arith) in
    ⊎_elim
    (λ (l : i < suc n). downs-here row n e1 still i (omega arith) ∙ next)
    (λ (l : suc n ≤ i). let q : i ≡ suc n = omega arith in
    downs-above row n e1 row i (omega arith) ∙ below-else (row ∷ []) (1 ∷ []) row (suc n) 1 e row i (omega arith) ∙ ap (e row) q)
    (cases_lt i (suc n))

pub downs-fit : (w row n : ℕ) → n < w → AllFit w (downs row n)
unfolding downs
downs-fit w row zero inside = tt
downs-fit w row (suc n) inside = (below-fits w (row ∷ []) (1 ∷ []) row (suc n) 1 (omega arith) inside (inl (copy-whole row)), downs-fit w row n (omega arith))

-- ---- a broadcast

-- the broadcast row once the bit stands in it alone
pub broadcast-on : (w from j : ℕ) (e : ℕ → ℕ → Bool) → j < w → from ≢ broadcast_row → (r i : ℕ) → i < w
    → steps_on (broadcast w from j) e r i ≡ cond (eqb r broadcast_row && ltb i w) (e from j) (e r i)
unfolding steps_on broadcast
broadcast-on w from j e below other r i inside =
    let e1 = step_on (clear w broadcast_row) e in
    let e2 = step_on (above (from ∷ []) (1 ∷ []) broadcast_row j 0) e1 in
    let e3 = steps_on (ups broadcast_row j (w - 1 - j)) e2 in
    let top : j + (w - 1 - j) ≡ w - 1 = omega arith in
    let z : j + 0 ≡ j = omega arith in
    let off : (i : ℕ) → i < w → e1 broadcast_row i ≡ false = λ i l. clear-here w broadcast_row e i l in
    let start : e2 broadcast_row j ≡ e from j =
    ap (λ (n : ℕ). step_on (above (from ∷ []) (1 ∷ []) broadcast_row j 0) e1 broadcast_row n) (sym z)
    ∙ above-copy from broadcast_row j 0 e1 (off (j + 0) (omega arith)) ∙ step-row (clear w broadcast_row) e from j other in
    let alone : (i : ℕ) → i < w → i ≢ j → e2 broadcast_row i ≡ false =
    λ i l apart. above-else (from ∷ []) (1 ∷ []) broadcast_row j 0 e1 broadcast_row i (omega arith) ∙ off i l in
    let upper : (i : ℕ) → j ≤ i → i < w → e3 broadcast_row i ≡ e from j =
    λ i low l. ups-here broadcast_row j (w - 1 - j) e2 (λ i a b. alone i (omega arith) (omega arith)) i low (omega arith) ∙ start in
    let lower : (i : ℕ) → i < j → e3 broadcast_row i ≡ false =
    λ i l. ups-else broadcast_row j (w - 1 - j) e2 broadcast_row i (inl (omega arith)) ∙ alone i (omega arith) (omega arith) in
    let here : steps_on (downs broadcast_row j) e3 broadcast_row i ≡ e from j =
    ⊎_elim
    (λ (l : i < j). downs-here broadcast_row j e3 lower i (omega arith) ∙ upper j (omega arith) below)
    (λ (l : j ≤ i). downs-above broadcast_row j e3 broadcast_row i l ∙ upper i l inside)
    (cases_lt i j) in
    rw (steps_on-append (ups broadcast_row j (w - 1 - j)) (downs broadcast_row j) e2)
    (⊎_elim
    (λ (same : r ≡ broadcast_row). rw (same, lt-ltb i w inside) here)
    (λ (apart : r ≢ broadcast_row). rw (ne_eqb r broadcast_row apart)
    (downs-row broadcast_row j e3 r i apart ∙ ups-row broadcast_row j (w - 1 - j) e2 r i apart
    ∙ step-row (above (from ∷ []) (1 ∷ []) broadcast_row j 0) e1 r i apart ∙ step-row (clear w broadcast_row) e r i apart))
    (cases_eq r broadcast_row))

pub broadcast-fits : (w from j : ℕ) → j < w → AllFit w (broadcast w from j)
unfolding broadcast
broadcast-fits w from j below = (
  clear-fits w broadcast_row,
  (
    above-fits w (from ∷ []) (1 ∷ []) broadcast_row j 0 (omega arith) (inl (copy-whole from)),
    AllFit-append w (ups broadcast_row j (w - 1 - j)) (downs broadcast_row j) (ups-fit w broadcast_row j (w - 1 - j) (omega arith)) (downs-fit w broadcast_row j below),
  ),
)

-- a bit is broadcast
pub broadcasts : (w from j : ℕ) → j < w → from ≢ broadcast_row → Broadcasts w from j (micros w (broadcast w from j))
broadcasts w from j below other =
    makes w _ (broadcast w from j) (broadcast-fits w from j below) (λ e r i l. broadcast-on w from j e below other r i l)
    (λ e r i l none. rw (le-ltb i w l, none r) (none_of (eqb r broadcast_row) (e from j) false))

-- ---- what the pieces cost

pub clear-cost : (w row : ℕ) → Costs 1 1 0 (micro w (clear w row))
clear-cost w row = tally-micro w (clear w row)

pub commit-cost : (w row to : ℕ) → Costs 2 2 0 (micros w (commit w row to))
commit-cost w row to = tally-micros w (commit w row to)

abbrev counts : (searches updates passes : ℕ) → Counts
counts searches updates passes = record { searches = searches; updates = updates; passes = passes }

pub counts-same : (a b c x y z : ℕ) → a ≡ x → b ≡ y → c ≡ z → counts a b c ≡ counts x y z
counts-same a b c x y z p q r = λ i. counts (p i) (q i) (r i)

pub ups-counts : (row j n : ℕ) → steps_counts (ups row j n) ≡ counts n n n
unfolding ups
ups-counts row j zero = refl
ups-counts row j (suc n) =
    rw (steps_counts-append (ups row j n) (above (row ∷ []) (1 ∷ []) row (j + n) 1 ∷ []), ups-counts row j n) (counts-same _ _ _ _ _ _ (omega arith) (omega arith) (omega arith))

pub downs-counts : (row n : ℕ) → steps_counts (downs row n) ≡ counts n n n
unfolding downs
downs-counts row zero = refl
downs-counts row (suc n) = rw (downs-counts row n) (counts-same _ _ _ _ _ _ (omega arith) (omega arith) (omega arith))

ups-length : (row j n : ℕ) → steps_length (ups row j n) ≡ 3 * n
unfolding ups
ups-length row j zero = refl
ups-length row j (suc n) = rw (steps_length-append (ups row j n) (above (row ∷ []) (1 ∷ []) row (j + n) 1 ∷ []), ups-length row j n) (omega arith)

downs-length : (row n : ℕ) → steps_length (downs row n) ≡ 3 * n
unfolding downs
downs-length row zero = refl
downs-length row (suc n) = rw (downs-length row n) (omega arith)

ups-rows : (row j n : ℕ) → row < 64 → RowsFit (ups row j n)
unfolding ups
ups-rows row j zero h = tt
ups-rows row j (suc n) h = RowsFit-append (ups row j n) (above (row ∷ []) (1 ∷ []) row (j + n) 1 ∷ []) (ups-rows row j n h) (h, omega arith, tt)

downs-rows : (row n : ℕ) → row < 64 → RowsFit (downs row n)
unfolding downs
downs-rows row zero h = tt
downs-rows row (suc n) h = (h, omega arith, downs-rows row n h)

-- the searches, updates and passes of a broadcast
pub broadcast-tally : (w from j : ℕ) → j < w → tally (micros w (broadcast w from j)) ≡ record { searches = w + 1; updates = w + 1; passes = w - 1 }
unfolding broadcast
broadcast-tally w from j below =
    tally-micros w (broadcast w from j)
    ∙ rw (steps_counts-append (ups broadcast_row j (w - 1 - j)) (downs broadcast_row j), ups-counts broadcast_row j (w - 1 - j), downs-counts broadcast_row j)
    (counts-same _ _ _ _ _ _ (omega arith) (omega arith) (omega arith))

-- its operations
pub broadcast-length : (w from j : ℕ) → j < w → length (micros w (broadcast w from j)) ≡ 3 * w + 1
unfolding broadcast
broadcast-length w from j below =
    length-micros w (broadcast w from j)
    ∙ rw (steps_length-append (ups broadcast_row j (w - 1 - j)) (downs broadcast_row j), ups-length broadcast_row j (w - 1 - j), downs-length broadcast_row j) (omega arith)

-- a chain can run it
pub broadcast-range : (columns w from j : ℕ) → AllInRange columns (micros w (broadcast w from j))
unfolding broadcast
broadcast-range columns w from j =
    AllInRange-micros columns w (broadcast w from j)
    (omega arith, omega arith, (omega arith, omega arith, RowsFit-append (ups broadcast_row j (w - 1 - j)) (downs broadcast_row j) (ups-rows broadcast_row j (w - 1 - j) (omega arith)) (downs-rows broadcast_row j (omega arith))))
