-- What a search of one bit of each element tags, and what a count makes of it.
use Rattle.std.proofs.Common.{◌≡◌, ℕ, zero, suc, ◌+◌, ◌*◌, ◌/◌, ◌%◌, ◌<◌, Bool, true, false, cond, ◌&&◌, ◌||◌, eqb, List, [], ◌∷◌, refl, ◌∙◌, ap, arith}
use mathlib.Core.Bool.{beq}
use Rattle.std.specs.List.{count_by, range_with_len}
use Rattle.std.proofs.lemmas.Bool.{lt-ltb, eq-eqb, ne_eqb}
use Rattle.std.proofs.Math.Nat.{mod-lt}
use Rattle.bit_rows.specs.Slices.{Slices}
use Rattle.cam_chain.specs.Slices.{selected, matches, searched}
use Rattle.steer_net.specs.Moves.{per_row}
use Rattle.steer_net.specs.Network.{bit_in}
use Rattle.reduce_tree.proofs.Counting.{count_more}
use Rattle.reduce_tree.specs.Tags.{is_tagged, is_selected, tags_in}
use Rattle.micro_ir.specs.Subs.{subs_of}
use Rattle.micro_ir.proofs.Subs.{selected-of}
use Rattle.row_views.specs.Views.{view}
use Rattle.fold_laws.specs.Folds.{total}
use Rattle.row_views.specs.Lists.{lane}
use Rattle.row_views.proofs.Views.{spot, view-in}
use Rattle.fold_laws.proofs.Totals.{total-same, total-lanes}

-- a count is a sum
pub count-total : (p : ℕ → Bool) (n : ℕ) → count_by p (range_with_len 0 n) ≡ total n (λ k. cond (p k) 1 0)
unfolding total
count-total p zero = refl
count-total p (suc n) = count_more p n (suc n) (omega arith) ∙ rw (count-total p n) refl

or_nothing : (b : Bool) → (b || false) ≡ b
or_nothing true = refl
or_nothing false = refl

-- the tag of a place in the searched subarrays
pub searched-tag : (subs : ℕ) (keys : List (ℕ × Bool)) (s : Slices) (n : ℕ) → n < 32 * s.columns → selected subs (n % 32) ≡ true
    → is_tagged (searched subs keys false s) n ≡ matches (λ row. bit_in s row n) keys
searched-tag subs keys s n inside chosen =
    let l : n % 32 < 32 = mod-lt n (omega arith) in
    let c : n / 32 < s.columns = omega arith in
    rw (lt-ltb (n % 32) 32 l, lt-ltb (n / 32) s.columns c, chosen) (or_nothing (matches (λ row. bit_in s row n) keys))

-- a set of places selects the bits of each element that it names
pub selected-spot : (w : ℕ) (set : ℕ → Bool) (columns p j : ℕ) → 0 < w → 32 / w * w ≡ 32 → p < columns * (32 / w) → j < w
    → selected (subs_of w set) ((p * w + j) % 32) ≡ set j
selected-spot w set columns p j pos lanes below inside =
    let a = spot w (32 / w) columns p pos lanes below in
    rw (a.sub j inside) (selected-of w set (p % (32 / w)) j inside a.fits)

both : (a b : Bool) → (beq a true && (b && true)) ≡ (a && b)
both true true = refl
both true false = refl
both false b = refl

-- how many tags a search of two rows at one bit makes
pub lane-count : (w j gate row : ℕ) (want : Bool) (s : Slices) → 0 < w → 32 / w * w ≡ 32 → j < w
    → tags_in (lane w j) (searched (lane w j) ((gate, true) ∷ (row, want) ∷ []) false s)
    ≡ total (per_row w s) (λ p. cond (view w s p gate j && beq (view w s p row j) want) 1 0)
lane-count w j gate row want s pos lanes inside =
    let keys : List (ℕ × Bool) = (gate, true) ∷ (row, want) ∷ [] in
    let s1 : Slices = searched (lane w j) keys false s in
    let f : ℕ → ℕ = λ n. cond (is_selected (lane w j) n && is_tagged s1 n) 1 0 in
    let all : 32 * s.columns ≡ per_row w s * w = omega (arith, ap (λ x. s.columns * x) lanes) in
    count-total (λ n. is_selected (lane w j) n && is_tagged s1 n) (32 * s.columns)
    ∙ ap (λ (m : ℕ). total m f) all
    ∙ total-lanes (per_row w s) w j f inside (λ p i a b other.
    rw (selected-spot w (λ i. eqb i j) s.columns p i pos lanes a b, ne_eqb i j other) refl)
    ∙ total-same (per_row w s) (λ p. f (p * w + j)) _ (λ p a.
    let spot_here = spot w (32 / w) s.columns p pos lanes a in
    let chosen : selected (lane w j) ((p * w + j) % 32) ≡ true = selected-spot w (λ i. eqb i j) s.columns p j pos lanes a inside ∙ eq-eqb j j refl in
    told (is_selected (lane w j) (p * w + j)) (is_tagged s1 (p * w + j)) (matches (λ r. bit_in s r (p * w + j)) keys) chosen (searched-tag (lane w j) keys s (p * w + j) (spot_here.here j inside) chosen)
    ∙ rw (view-in w s p gate j inside, view-in w s p row j inside) (ap (λ (b : Bool). cond {A = ℕ} b 1 0) (both (bit_in s gate (p * w + j)) (beq (bit_in s row (p * w + j)) want))))
  where
    told : (a b c : Bool) → a ≡ true → b ≡ c → ◌≡◌ {A = ℕ} (cond (a && b) 1 0) (cond c 1 0)
    told a b c p q = rw (p, q) refl
