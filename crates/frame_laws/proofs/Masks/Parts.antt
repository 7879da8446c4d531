-- What the operations on one register of the operands' groups make of the slices, part by part.
use Rattle.std.proofs.Common.{◌≡◌, ◌≢◌, ℕ, zero, suc, ◌+◌, ◌-◌, ◌*◌, ◌/◌, ◌%◌, ◌<◌, ◌≤◌, Bool, true, false, cond, ◌&&◌, eqb, List, [], ◌∷◌, refl, sym, ◌∙◌, ap, arith, ◌⊎◌, inl, inr, ⊎_elim}
use Rattle.std.specs.Int.{from_bool}
use Rattle.std.proofs.lemmas.Bool.{cases_lt, cases_eq, eq-eqb, ne_eqb, lt-ltb}
use Rattle.std.proofs.lemmas.Nat.{div-add-mod', div-mul-add}
use Rattle.std.proofs.Math.Nat.{mul-le-mul_right, mod-lt}
use Rattle.bit_laws.specs.Numbers.{low, bit_of}
use Rattle.bit_rows.specs.Slices.{Slices, placed}
use Rattle.steer_net.specs.Network.{bit_in, is_within, is_free, top_bit, is_packed, packed}
use Rattle.micro_ir.specs.declared.op.MicroOp.{MicroOp}
use Rattle.micro_ir.specs.declared.op.MicroOp.TheVariants.{Free}
use Rattle.micro_ir.specs.Replay.{replay}
use Rattle.micro_ir.specs.Steps.{element, steps_on, micros}
use Rattle.micro_ir.proofs.Lift.{replay-columns, micros-element, element-inside}
use Rattle.micro_ir.specs.WorkRows.{active_row, truth_row, free_row}
use Rattle.micro_ir.specs.Pieces.{fill_step}
use Rattle.frame_laws.specs.Shapes.{Shape, Bounds, element_number}
use Rattle.frame_laws.specs.Realising.{Splatted}
use Rattle.frame_laws.proofs.Elements.{in_element, bit_place}
use Rattle.micro_ir.proofs.OneElement.{step-row, everywhere-here, everywhere-fits}
use Rattle.frame_laws.proofs.Windows.{within_true, with_windows, windows-columns, windows-active, windows-mask, windows-rest, windows-bits, windows-stand, filled, nothing}
use Rattle.frame_laws.specs.Masks.Programs.{free_of_mask, mask_fill}
use Rattle.frame_laws.specs.Masks.Telling.{Told}

-- a bit of a register lies in the chain
placed-bit : (columns at : ℕ) → at < 32 * columns → placed columns (at % 32) (at / 32) ≡ true
placed-bit columns at inside =
    let m : at % 32 < 32 = mod-lt at (omega arith) in
    rw (lt-ltb (at % 32) 32 m, lt-ltb (at / 32) columns (omega arith)) refl

-- ---- the agnostic bits

-- marking them leaves the other rows
pub free-rest : (i : Shape) (b : Bounds) (g : ℕ) (s : Slices) (x r col : ℕ) → r ≢ free_row → (replay (free_of_mask i b g) s).bit x r col ≡ s.bit x r col
unfolding replay
free-rest i b zero s x r col other =
    elim i.ones as (λ z. (replay (cond z (Free free_row 1 0 b.from b.until i.masked i.tail (i.masked && i.vma) ∷ []) []) s).bit x r col ≡ s.bit x r col) [
      | true ↦ rw (ne_eqb r 52 other) refl
      | false ↦ refl
    ]
free-rest i b (suc g) s x r col other = refl

-- with the first register they are marked
pub free-first : (i : Shape) (b : Bounds) (s : Slices) (at : ℕ) → i.ones ≡ true → at < 32 * s.columns
    → bit_in (replay (free_of_mask i b 0) s) free_row at ≡ is_free b.from b.until i.masked i.tail (i.masked && i.vma) (bit_in s 0) at
unfolding replay
free-first i b s at ones inside =
    let e : at / 32 * 32 + at % 32 ≡ at = div-add-mod' at 32 in
    let z : 0 + (at / 32 * 32 + at % 32 / 1) ≡ at = omega (arith, div-add-mod' (at % 32) 1) in
    ap (λ (x : Bool). bit_in (replay (cond x (Free free_row 1 0 b.from b.until i.masked i.tail (i.masked && i.vma) ∷ []) []) s) free_row at) ones
    ∙ rw (placed-bit s.columns at inside) (ap (is_free b.from b.until i.masked i.tail (i.masked && i.vma) (bit_in s 0)) z)

-- and with later ones they stay
pub free-later : (i : Shape) (b : Bounds) (g : ℕ) (s : Slices) → g ≢ 0 → replay (free_of_mask i b g) s ≡ s
unfolding replay
free-later i b zero s other = absurd (other refl)
free-later i b (suc g) s other = refl

-- ---- the packing of the mask

-- a bit of the row that is packed
pub pack-here : (from under to w first at : ℕ) (s : Slices) → at < 32 * s.columns
    → bit_in (packed from under to w first s) to at ≡ cond (is_packed under w first s at) (top_bit w s from (at - first)) (bit_in s to at)
pack-here from under to w first at s inside =
    let e : at / 32 * 32 + at % 32 ≡ at = div-add-mod' at 32 in
    rw (eq-eqb to to refl, placed-bit s.columns at inside, e) refl

-- the highest bit of an element, by its number in its row
pub top-element : (w k col : ℕ) (s : Slices) (row : ℕ) → 0 < w → 32 / w * w ≡ 32 → k * w + w ≤ 32 → top_bit w s row (col * (32 / w) + k) ≡ element w k col s row (w - 1)
top-element w k col s row pos lanes fits =
    let e : (col * (32 / w) + k) * w + (w - 1) ≡ col * 32 + (k * w + (w - 1)) = omega (arith, ap (λ x. col * x) lanes) in
    let l : w - 1 < w = omega arith in
    ap (λ (x : ℕ). bit_in s row x) e ∙ bit_place s row col (k * w + (w - 1)) (omega arith) ∙ sym (element-inside w k col s row (w - 1) l)

-- the elements of a row
pub per-row : (w vlen columns : ℕ) → 0 < w → 32 / w * w ≡ 32 → vlen ≡ 32 * columns → vlen / w ≡ columns * (32 / w)
per-row w vlen columns pos lanes long =
    let e : vlen ≡ columns * (32 / w) * w + 0 = long ∙ omega (arith, ap (λ x. columns * x) lanes) in
    rw e (div-mul-add (columns * (32 / w)) w 0 pos)

-- an element by its number in its row
pub record InRow (w columns p k col : ℕ) : Type 0 where
  pub fits : k * w + w ≤ 32
  pub inside : col < columns
  pub back : col * (32 / w) + k ≡ p

-- each element of the row has such a place
pub in_row : (w columns p : ℕ) → 0 < w → 32 / w * w ≡ 32 → p < columns * (32 / w) → InRow w columns p (p % (32 / w)) (p / (32 / w))
in_row w columns p pos lanes below =
    let n = 32 / w in
    let some : 0 < n = ⊎_elim (λ (x : 0 < n). x) (λ (x : n ≤ 0). let z : n ≡ 0 = omega arith in let y : 0 * w ≡ 32 = rw (← z) lanes in absurd (omega arith)) (cases_lt 0 n) in
    let k : p % n < n = mod-lt p some in
    let e : p / n * n + p % n ≡ p = div-add-mod' p n in
    let m : suc (p % n) * w ≤ n * w = mul-le-mul_right w k in
    record {
      fits = omega arith;
      inside = ⊎_elim (λ (x : p / n < columns). x) (λ (x : columns ≤ p / n). let z : columns * n ≤ p / n * n = mul-le-mul_right n x in absurd (omega arith)) (cases_lt (p / n) columns);
      back = e;
    }

-- ---- the windows and the list

-- the bit of a bit that is told as a number
pub bit-itself : (t : Bool) → bit_of (from_bool t) 0 ≡ t
bit-itself true = refl
bit-itself false = refl

told-bit : (t : Bool) (z : ℕ) → from_bool t ≡ low 1 z → t ≡ bit_of (low 1 z) 0
told-bit t z e = rw (← e) (sym (bit-itself t))

-- What the slices `now` hold after the windows and the list of register g: of each element whether it is in the window, and if
-- so its truth. The registers, the scalar and the agnostic bits stay.
pub record Computed (i : Shape) (b : Bounds) (g : ℕ) (s now : Slices) : Type 0 where
  pub columns : now.columns ≡ s.columns
  pub kept : (r at : ℕ) → (r < 32) ⊎ (r ≡ free_row) → at < 32 * s.columns → bit_in now r at ≡ bit_in s r at
  pub scalar : Splatted i now
  pub active : (k col : ℕ) → k * i.width + i.width ≤ 32 → col < s.columns
      → top_bit i.width now active_row (col * (32 / i.width) + k) ≡ is_within b.from i.len i.masked (bit_in s 0) (element_number i g k col)
  pub truth : (k col : ℕ) → k * i.width + i.width ≤ 32 → col < s.columns → is_within b.from i.len i.masked (bit_in s 0) (element_number i g k col) ≡ true
      → top_bit i.width now truth_row (col * (32 / i.width) + k)
      ≡ bit_of (low 1 (i.result (bit_in (with_windows i b g s)) (element_number i g k col) (bit_in s 0 (element_number i g k col)))) 0

-- The windows and a list that tells the truths leave such slices.
pub computed : (i : Shape) (b : Bounds) (g : ℕ) (body : List MicroOp) (s : Slices) → 0 < i.width → 32 / i.width * i.width ≡ 32 → i.vlen ≡ 32 * s.columns
    → Told i b g body → Splatted i s → Computed i b g s (replay body (with_windows i b g s))
unfolding Told
computed i b g body s pos lanes long told splatted =
    let w = i.width in
    let s2 = with_windows i b g s in
    let s3 = replay body s2 in
    let cols2 : s2.columns ≡ s.columns = windows-columns i b g s in
    let cols3 : s3.columns ≡ s.columns = replay-columns body s2 ∙ cols2 in
    let long2 : i.vlen ≡ 32 * s2.columns = rw cols2 long in
    let splatted2 : Splatted i s2 = λ t at l. let l0 : at < 32 * s.columns = rw (sym cols2) l in
    windows-bits i b g s 34 at (omega arith) (omega arith) ∙ splatted t at l0 in
    let tells = told s2 long2 splatted2 (windows-stand i b g s) in
    let top : w - 1 < w = omega arith in
    record {
      columns = cols3;
      kept = λ r at row inside.
          let now : at < 32 * s3.columns = rw cols3 inside in
          let p = in_element w (32 / w) s r at pos lanes inside in
          let p3 = in_element w (32 / w) s3 r at pos lanes now in
          let c2 : at / 32 < s2.columns = rw cols2 p.inside in
          let low : (r ≤ 34) ⊎ (r ≡ free_row) = ⊎_elim (λ (x : r < 32). inl (omega arith)) (λ (x : r ≡ free_row). inr x) row in
          let m : r ≢ 32 = ⊎_elim (λ (x : r < 32). omega arith) (λ (x : r ≡ free_row). omega arith) row in
          let n : r ≢ 33 = ⊎_elim (λ (x : r < 32). omega arith) (λ (x : r ≡ free_row). omega arith) row in
          p3.bit ∙ (tells (at % 32 / w) (at / 32) p.fits c2).kept r (at % 32 % w) low p.below
          ∙ windows-rest i b g (at % 32 / w) (at / 32) s p.fits p.inside r (at % 32 % w) m n p.below ∙ sym p.bit;
      scalar = λ t at l.
          let l2 : at < 32 * s2.columns = rw (sym (replay-columns body s2)) l in
          let p2 = in_element w (32 / w) s2 34 at pos lanes l2 in
          let p3 = in_element w (32 / w) s3 34 at pos lanes l in
          p3.bit ∙ (tells (at % 32 / w) (at / 32) p2.fits p2.inside).kept 34 (at % 32 % w) (inl (omega arith)) p2.below ∙ sym p2.bit ∙ splatted2 t at l2;
      active = λ k col q l.
          let l2 : col < s2.columns = rw cols2 l in
          top-element w k col s3 active_row pos lanes q ∙ (tells k col q l2).kept 32 (w - 1) (inl (omega arith)) top ∙ windows-active i b g k col s q l (w - 1) top;
      truth = λ k col q l t.
          let l2 : col < s2.columns = rw cols2 l in
          let e = element_number i g k col in
          top-element w k col s3 truth_row pos lanes q
          ∙ told-bit (element w k col s3 truth_row (w - 1)) (i.result (bit_in s2) e (bit_in s 0 e))
          ((tells k col q l2).told (bit_in s 0 e) (λ reads j u. windows-mask i b g k col s q l reads j u ∙ within_true b.from i.len i.masked (bit_in s 0) e t));
    }

-- ---- the fill

-- ones into the bits that are marked as agnostic, and every other bit stays
fill-here : (w to : ℕ) (s : Slices) → 0 < w → 32 / w * w ≡ 32 → (r at : ℕ) → at < 32 * s.columns
    → bit_in (replay (micros w (fill_step w to ∷ [])) s) r at ≡ cond (eqb r to && bit_in s free_row at) true (bit_in s r at)
unfolding steps_on
fill-here w to s pos lanes r at inside =
    let update = fill_step w to in
    let s1 = replay (micros w (update ∷ [])) s in
    let now : at < 32 * s1.columns = rw (replay-columns (micros w (update ∷ [])) s) inside in
    let k = at % 32 / w in
    let col = at / 32 in
    let j = at % 32 % w in
    let e = element w k col s in
    let p1 = in_element w (32 / w) s1 r at pos lanes now in
    let p = in_element w (32 / w) s r at pos lanes inside in
    let f = in_element w (32 / w) s free_row at pos lanes inside in
    let d = in_element w (32 / w) s to at pos lanes inside in
    p1.bit ∙ ap (λ (z : ℕ → ℕ → Bool). z r j) (micros-element w k col (update ∷ []) s (everywhere-fits w (free_row ∷ []) (1 ∷ []) to, tt) p.fits p.inside)
    ∙ ⊎_elim
    (λ (x : r ≡ to). rw (x, eq-eqb to to refl) (everywhere-here w (free_row ∷ []) (1 ∷ []) to true e j p.below ∙ filled (e free_row j) (e to j)
    ∙ ap (λ (z : Bool). cond z true (e to j)) (sym f.bit) ∙ ap (λ (z : Bool). cond (bit_in s free_row at) true z) (sym d.bit)))
    (λ (x : r ≢ to). rw (ne_eqb r to x) (step-row update e r j x ∙ sym p.bit))
    (cases_eq r to)

-- the fill of the mask
pub mask_fill-here : (i : Shape) (s : Slices) → 0 < i.width → 32 / i.width * i.width ≡ 32 → (r at : ℕ) → at < 32 * s.columns
    → bit_in (replay (mask_fill i) s) r at ≡ cond (eqb r i.vd && (i.ones && bit_in s free_row at)) true (bit_in s r at)
unfolding replay
mask_fill-here i s pos lanes r at inside =
    elim i.ones as (λ x. bit_in (replay (cond x (micros i.width (fill_step i.width i.vd ∷ [])) []) s) r at ≡ cond (eqb r i.vd && (x && bit_in s free_row at)) true (bit_in s r at)) [
      | true ↦ fill-here i.width i.vd s pos lanes r at inside
      | false ↦ nothing (eqb r i.vd) (bit_in s r at)
    ]
