-- What counts make of the control number as a fold: of the active elements of a row, of a group, and of element 0 of a row.
use Rattle.std.proofs.Common.{◌≡◌, ◌≢◌, ℕ, zero, suc, ◌+◌, ◌-◌, ◌*◌, ◌/◌, ◌<◌, ◌≤◌, Bool, true, false, ◌&&◌, ◌||◌, not, min, leb, List, ◌∷◌, refl, sym, ◌∙◌, ap, arith}
use Rattle.std.proofs.lemmas.Bool.{lt-ltb, le-ltb, le-leb, ne_eqb}
use Rattle.bit_laws.specs.Numbers.{number}
use Rattle.bit_laws.proofs.Numbers.{number-same}
use Rattle.bit_rows.specs.Slices.{Slices}
use Rattle.fold_laws.specs.Folds.{fold_chosen}
use Rattle.row_counts.proofs.Chosen.{fold-same, fold-cat, fold-none}
use Rattle.steer_net.specs.Moves.{per_row}
use Rattle.steer_net.specs.Network.{bit_in, is_within, windowed}
use Rattle.micro_ir.specs.declared.op.MicroOp.{MicroOp}
use Rattle.micro_ir.specs.Replay.{replay}
use Rattle.micro_ir.specs.WorkRows.{active_row}
use Rattle.micro_ir.proofs.Lift.{replay-columns}
use Rattle.micro_ir.proofs.Lists.{replay-append}
use Rattle.row_views.specs.Views.{view}
use Rattle.row_views.proofs.Views.{view-in, view-numbered}
use Rattle.row_counts.specs.declared.counts.Counting.{Counting}
use Rattle.row_counts.specs.declared.span.Span.{Span}
use Rattle.row_counts.specs.Folds.{group_element}
use Rattle.row_counts.specs.Lists.{count_bits, span_window, count_rows, count_first}
use Rattle.row_counts.proofs.Rows.{group-bits, row-element}

-- Counting a row takes each active element, as `value` makes it, into what is measured of the control number.
unfoldable pub Takes : (w : ℕ) → Counting → (measure : ℕ → ℕ) (take : (a e : ℕ) → ℕ) (value : ℕ → ℕ) → Type 0
Takes w counting measure take value =
    (row : ℕ) (active : ℕ → Bool) (s : Slices) → s.columns ≤ 8192
    → ((p j : ℕ) → p < per_row w s → j < w → view w s p active_row j ≡ active p)
    → measure (replay (count_bits w row counting w) s).num ≡ fold_chosen take (measure s.num) active (λ p. value (number w (view w s p row))) (per_row w s)

-- a row under its window
row-takes : (w row : ℕ) (counting : Counting) (measure : ℕ → ℕ) (take : (a e : ℕ) → ℕ) (value : ℕ → ℕ) (first from to : ℕ) (masked : Bool) (s : Slices)
    → Takes w counting measure take value → 0 < w → 32 / w * w ≡ 32 → row ≢ active_row → s.columns ≤ 8192
    → measure (replay (count_bits w row counting w) (windowed active_row w first from to masked s)).num
    ≡ fold_chosen take (measure s.num) (λ p. is_within from to masked (bit_in s 0) (first + p)) (λ p. value (number w (view w s p row))) (per_row w s)
unfolding Takes
row-takes w row counting measure take value first from to masked s takes pos lanes other few =
    let u : Slices = windowed active_row w first from to masked s in
    let within : ℕ → Bool = is_within from to masked (bit_in s 0) in
    takes row (λ p. within (first + p)) u few (λ p j a l. view-numbered w active_row first within s p active_row j pos lanes a l)
    ∙ fold-same take (measure s.num) (λ p. within (first + p)) (λ p. within (first + p)) (λ p. value (number w (view w u p row))) (λ p. value (number w (view w s p row))) (per_row w s) (λ p a.
    (refl, ap value (number-same w (view w u p row) (view w s p row) (λ j l. view-numbered w active_row first within s p row j pos lanes a l ∙ rw (ne_eqb row 32 other) refl))))

-- the first g registers of a group
pub group-takes : (w : ℕ) (span : Span) (counting : Counting) (measure : ℕ → ℕ) (take : (a e : ℕ) → ℕ) (value : ℕ → ℕ) (s : Slices)
    → Takes w counting measure take value → 0 < w → 32 / w * w ≡ 32 → s.columns ≤ 8192 → span.per ≡ per_row w s → (g : ℕ) → span.base + g ≤ 32
    → measure (replay (count_rows w span counting g) s).num
    ≡ fold_chosen take (measure s.num) (is_within span.from span.to span.masked (bit_in s 0)) (λ e. value (group_element w span.base s e)) (g * per_row w s)
unfolding count_rows replay fold_chosen
group-takes w span counting measure take value s takes pos lanes few fits zero room = let z : 0 * per_row w s ≡ 0 = omega arith in rw z refl
group-takes w span counting measure take value s takes pos lanes few fits (suc g) room =
    let per = per_row w s in
    let row = span.base + g in
    let before = count_rows w span counting g in
    let more : List MicroOp = span_window w g span ∷ count_bits w row counting w in
    let t : Slices = replay before s in
    let cols : t.columns ≡ s.columns = replay-columns before s in
    let within : (ℕ → Bool) → ℕ → Bool = is_within span.from span.to span.masked in
    let f : ℕ → ℕ = λ e. value (group_element w span.base s e) in
    let same : (r : ℕ) → r < 32 → (n : ℕ) → bit_in t r n ≡ bit_in s r n = λ r l n. group-bits w span counting g s r n (omega arith) in
    let mask : bit_in t 0 ≡ bit_in s 0 = λ x n. same 0 (omega arith) n x in
    let e : suc g * per ≡ g * per + per = omega arith in
    let n : row ≢ active_row = omega arith in
    let first : g * span.per ≡ g * per = ap (λ (x : ℕ). g * x) fits in
    let few_t : t.columns ≤ 8192 = rw cols few in
    ap (λ (z : Slices). measure z.num) (replay-append before more s)
    ∙ row-takes w row counting measure take value (g * span.per) span.from span.to span.masked t takes pos lanes n few_t
    ∙ ap (λ (c : ℕ). fold_chosen take (measure t.num) (λ p. within (bit_in t 0) (g * span.per + p)) (λ p. value (number w (view w t p row))) (c * (32 / w))) cols
    ∙ fold-same take (measure t.num) (λ p. within (bit_in t 0) (g * span.per + p)) (λ p. within (bit_in s 0) (g * per + p)) (λ p. value (number w (view w t p row))) (λ p. f (g * per + p)) per (λ p a. (
      ap (λ (x : ℕ). within (bit_in t 0) (x + p)) first ∙ ap (λ (m : ℕ → Bool). within m (g * per + p)) mask,
      ap value (number-same w (view w t p row) (view w s p row) (λ j l. view-in w t p row j l ∙ same row (omega arith) (p * w + j) ∙ sym (view-in w s p row j l))
          ∙ row-element w span.base g p s pos lanes a),
    ))
    ∙ ap (λ (a : ℕ). fold_chosen take a (λ p. within (bit_in s 0) (g * per + p)) (λ p. f (g * per + p)) per) (group-takes w span counting measure take value s takes pos lanes few fits g (omega arith))
    ∙ sym (ap (λ (n : ℕ). fold_chosen take (measure s.num) (within (bit_in s 0)) f n) e ∙ fold-cat take (measure s.num) (within (bit_in s 0)) f (g * per) per)

-- elements past `to` are not within
pub up-to : (take : (a e : ℕ) → ℕ) (start : ℕ) (from to n : ℕ) (masked : Bool) (mask : ℕ → Bool) (f : ℕ → ℕ) → from ≡ 0 → to ≤ n
    → fold_chosen take start (is_within from to masked mask) f n ≡ fold_chosen take start (λ e. not masked || mask e) f to
up-to take start from to n masked mask f zero_from le =
    let within : ℕ → Bool = is_within 0 to masked mask in
    let e : n ≡ to + (n - to) = omega arith in
    ap (λ (x : ℕ). fold_chosen take start (is_within x to masked mask) f n) zero_from
    ∙ ap (λ (m : ℕ). fold_chosen take start within f m) e
    ∙ fold-cat take start within f to (n - to)
    ∙ fold-none take (fold_chosen take start within f to) (λ k. within (to + k)) (λ k. f (to + k)) (n - to) (λ k l. rw (le-ltb (to + k) to (omega arith)) (none (leb 0 (to + k)) (not masked || mask (to + k))))
    ∙ fold-same take start within (λ e. not masked || mask e) f f to (λ k l. (rw (lt-ltb k to l, le-leb 0 k (omega arith)) refl, refl))
  where
    none : (b c : Bool) → ((b && false) && c) ≡ false
    none true c = refl
    none false c = refl

-- element 0 of a row
pub first-takes : (w b : ℕ) (span : Span) (counting : Counting) (measure : ℕ → ℕ) (take : (a e : ℕ) → ℕ) (value : ℕ → ℕ) (s : Slices)
    → Takes w counting measure take value → 0 < w → 32 / w * w ≡ 32 → s.columns ≤ 8192 → 0 < per_row w s → b ≢ active_row → span.from ≡ 0 → 0 < span.to
    → measure (replay (count_first w b span counting) s).num ≡ take (measure s.num) (value (group_element w b s 0))
unfolding replay fold_chosen
first-takes w b span counting measure take value s takes pos lanes few some other from any =
    let one : min 1 span.to ≡ 1 = omega arith in
    let within : ℕ → ℕ → Bool = λ to. is_within span.from to false (bit_in s 0) in
    let f : ℕ → ℕ = λ p. value (number w (view w s p b)) in
    let plain : (λ (p : ℕ). within 1 (0 + p)) ≡ within 1 = λ x p. ap (within 1) (zero_plus p) x in
    let z : b + 0 ≡ b = omega arith in
    let y : 0 * per_row w s + 0 ≡ 0 = omega arith in
    let el : number w (view w s 0 b) ≡ group_element w b s 0 = rw (z, y) at (row-element w b 0 0 s pos lanes some) in
    row-takes w b counting measure take value 0 span.from (min 1 span.to) false s takes pos lanes other few
    ∙ ap (λ (to : ℕ). fold_chosen take (measure s.num) (λ p. within to (0 + p)) f (per_row w s)) one
    ∙ ap (λ (chosen : ℕ → Bool). fold_chosen take (measure s.num) chosen f (per_row w s)) plain
    ∙ up-to take (measure s.num) span.from 1 (per_row w s) false (bit_in s 0) f from some
    ∙ ap (λ (x : ℕ). take (measure s.num) (value x)) el
  where
    zero_plus : (x : ℕ) → 0 + x ≡ x
    zero_plus x = omega arith
