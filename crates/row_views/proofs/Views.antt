-- A list of steps acts on each element by its position in the row.
use Rattle.std.proofs.Common.{◌≡◌, ℕ, suc, ◌+◌, ◌*◌, ◌/◌, ◌%◌, ◌<◌, ◌≤◌, Bool, true, cond, eqb, List, refl, sym, ◌∙◌, ap, arith, ⊎_elim}
use Rattle.std.proofs.lemmas.Bool.{cases_lt, lt-ltb, le-ltb}
use Rattle.std.proofs.lemmas.Nat.{div-mul-add, mod-mul-add, div-add-mod'}
use Rattle.std.proofs.Math.Nat.{mul-le-mul_right, mod-lt}
use Rattle.bit_rows.specs.Slices.{Slices, placed}
use Rattle.steer_net.specs.Network.{bit_in, position, numbered}
use Rattle.steer_net.specs.Moves.{rewritten, per_row}
use Rattle.micro_ir.specs.Replay.{replay}
use Rattle.micro_ir.specs.Steps.{Step, micros, AllFit, element, steps_on}
use Rattle.micro_ir.proofs.Lift.{replay-columns, micros-element}
use Rattle.row_views.specs.Views.{view}

-- where element p of a row lies, with n elements to a column
pub record Spot (w n columns p : ℕ) : Type 0 where
  pub fits : p % n * w + w ≤ 32
  pub inside : p / n < columns
  pub sub : (j : ℕ) → j < w → (p * w + j) % 32 ≡ p % n * w + j
  pub col : (j : ℕ) → j < w → (p * w + j) / 32 ≡ p / n
  pub here : (j : ℕ) → j < w → p * w + j < 32 * columns

pub spot : (w n columns p : ℕ) → 0 < w → n * w ≡ 32 → p < columns * n → Spot w n columns p
spot w n columns p pos lanes below =
    let some : 0 < n = ⊎_elim (λ (l : 0 < n). l) (λ (l : n ≤ 0). let z : n * w ≤ 0 * w = mul-le-mul_right w l in absurd (omega arith)) (cases_lt 0 n) in
    let m : p % n < n = mod-lt p some in
    let d : p / n * n + p % n ≡ p = div-add-mod' p n in
    let f : suc (p % n) * w ≤ n * w = mul-le-mul_right w m in
    let c : p / n < columns = ⊎_elim (λ (l : p / n < columns). l) (λ (l : columns ≤ p / n). let z : columns * n ≤ p / n * n = mul-le-mul_right n l in absurd (omega arith)) (cases_lt (p / n) columns) in
    let e : p * w ≡ p / n * 32 + p % n * w = omega (arith, ap (λ x. x * w) d, ap (λ x. p / n * x) lanes) in
    let g : suc (p / n) * 32 ≤ columns * 32 = mul-le-mul_right 32 c in
    let split : (j : ℕ) → p * w + j ≡ p / n * 32 + (p % n * w + j) = λ j. omega (arith, e) in
    record {
      fits = omega arith;
      inside = c;
      sub = λ j l. let s : p % n * w + j < 32 = omega arith in ap (λ x. x % 32) (split j) ∙ mod-mul-add (p / n) 32 (p % n * w + j) s;
      col = λ j l. let s : p % n * w + j < 32 = omega arith in ap (λ x. x / 32) (split j) ∙ div-mul-add (p / n) 32 (p % n * w + j) s;
      here = λ j l. omega (arith, split j);
    }

-- the element at a position is the element of its column
pub view-element : (w : ℕ) (s : Slices) (p : ℕ) → 0 < w → 32 / w * w ≡ 32 → p < per_row w s → view w s p ≡ element w (p % (32 / w)) (p / (32 / w)) s
unfolding view element
view-element w s p pos lanes below =
    let a = spot w (32 / w) s.columns p pos lanes below in
    let each : (r j : ℕ) → view w s p r j ≡ element w (p % (32 / w)) (p / (32 / w)) s r j =
    λ r j. ⊎_elim (λ (l : j < w). rw (lt-ltb j w l, bit_in, a.sub j l, a.col j l) refl) (λ (l : w ≤ j). rw (le-ltb j w l) refl) (cases_lt j w) in
    λ x r j. each r j x

-- and back
pub element-view : (w k col : ℕ) (s : Slices) → 0 < w → 32 / w * w ≡ 32 → k * w + w ≤ 32 → col < s.columns
    → (element w k col s ≡ view w s (col * (32 / w) + k)) × (col * (32 / w) + k < per_row w s)
element-view w k col s pos lanes fits inside =
    let n = 32 / w in
    let kn : k < n = ⊎_elim (λ (l : k < n). l) (λ (l : n ≤ k). let z : n * w ≤ k * w = mul-le-mul_right w l in absurd (omega arith)) (cases_lt k n) in
    let cn : suc col * n ≤ s.columns * n = mul-le-mul_right n inside in
    let below : col * n + k < per_row w s = omega arith in
    let m : (col * n + k) % n ≡ k = mod-mul-add col n k kn in
    let d : (col * n + k) / n ≡ col = div-mul-add col n k kn in
    (sym (view-element w s (col * n + k) pos lanes below ∙ ap (λ x. element w x ((col * n + k) / n) s) m ∙ ap (λ x. element w k x s) d), below)

pub view-in : (w : ℕ) (s : Slices) (p r j : ℕ) → j < w → view w s p r j ≡ bit_in s r (p * w + j)
unfolding view
view-in w s p r j below = rw (lt-ltb j w below) refl

-- a list of steps acts on each element by itself
pub view-micros : (w : ℕ) (steps : List Step) (s : Slices) (p : ℕ) → AllFit w steps → 0 < w → 32 / w * w ≡ 32 → p < per_row w s
    → view w (replay (micros w steps) s) p ≡ steps_on steps (view w s p)
view-micros w steps s p fits pos lanes below =
    let s1 = replay (micros w steps) s in
    let cols : s1.columns ≡ s.columns = replay-columns (micros w steps) s in
    let a = spot w (32 / w) s.columns p pos lanes below in
    view-element w s1 p pos lanes (rw cols below)
    ∙ micros-element w (p % (32 / w)) (p / (32 / w)) steps s fits a.fits a.inside
    ∙ ap (steps_on steps) (sym (view-element w s p pos lanes below))

-- a row that is rewritten by the positions of its elements
pub view-rewritten : (w row : ℕ) (what : ℕ → ℕ → Bool) (s : Slices) (p r j : ℕ) → 0 < w → 32 / w * w ≡ 32 → p < per_row w s → j < w
    → view w (rewritten row w what s) p r j ≡ cond (eqb r row) (what p j) (view w s p r j)
view-rewritten w row what s p r j pos lanes below inside =
    let n = 32 / w in
    let a = spot w n s.columns p pos lanes below in
    let k = p % n in
    let q : k * w + j < 32 = omega (arith, a.fits) in
    let t : placed s.columns (k * w + j) (p / n) ≡ true = rw (lt-ltb (k * w + j) 32 q, lt-ltb (p / n) s.columns a.inside) refl in
    let here : position w (k * w + j) (p / n) ≡ p = rw (div-mul-add k w j inside) (div-add-mod' p n) in
    view-in w (rewritten row w what s) p r j inside
    ∙ rw (view-in w s p r j inside, bit_in, a.sub j inside, a.col j inside, t, here, mod-mul-add k w j inside) refl

-- and a row that is numbered, as windows are
pub view-numbered : (w row first : ℕ) (what : ℕ → Bool) (s : Slices) (p r j : ℕ) → 0 < w → 32 / w * w ≡ 32 → p < per_row w s → j < w
    → view w (numbered row w first what s) p r j ≡ cond (eqb r row) (what (first + p)) (view w s p r j)
view-numbered w row first what s p r j pos lanes below inside =
    let n = 32 / w in
    let a = spot w n s.columns p pos lanes below in
    let k = p % n in
    let q : k * w + j < 32 = omega (arith, a.fits) in
    let t : placed s.columns (k * w + j) (p / n) ≡ true = rw (lt-ltb (k * w + j) 32 q, lt-ltb (p / n) s.columns a.inside) refl in
    let here : position w (k * w + j) (p / n) ≡ p = rw (div-mul-add k w j inside) (div-add-mod' p n) in
    view-in w (numbered row w first what s) p r j inside
    ∙ rw (view-in w s p r j inside, bit_in, a.sub j inside, a.col j inside, t, here) refl
