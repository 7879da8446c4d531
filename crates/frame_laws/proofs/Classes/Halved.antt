-- An instruction whose elements are half as wide as those of its first operand is one that the frame takes.
use Rattle.std.proofs.Common.{◌≡◌, ℕ, suc, ◌+◌, ◌-◌, ◌*◌, ◌/◌, ◌<◌, ◌≤◌, Bool, true, false, cond, ◌&&◌, ◌||◌, eqb, ltb, leb, not, [], ◌++◌, refl, sym, ◌∙◌, ap, subst, arith, ⊎_elim}
use Rattle.std.proofs.lemmas.Bool.{cases_lt, eq-eqb, eqb-true, lt-ltb, ltb-true, and_parts, or_cases, or_left, or_right, false≢true}
use Rattle.std.proofs.lemmas.Nat.{div-mul-add}
use Rattle.std.proofs.Math.Nat.{mul-le-mul_right}
use Rattle.bit_laws.specs.Numbers.{number, low}
use Rattle.bit_laws.proofs.Numbers.{number-same}
use Rattle.bit_rows.specs.Slices.{Slices}
use Rattle.cam_chain.specs.Views.{registers_of}
use Rattle.steer_net.specs.Network.{bit_in, is_within}
use Rattle.element_ops.specs.Elements.{Registers, element_in, bits_of, mask_bit_of}
use Rattle.micro_ir.specs.Pieces.{commit}
use Rattle.micro_ir.specs.Replay.{replay}
use Rattle.micro_ir.specs.Steps.{element, steps_on, micros}
use Rattle.micro_ir.specs.WorkRows.{active_row, scalar_row, truth_row}
use Rattle.micro_ir.proofs.Lists.{replay-append}
use Rattle.micro_ir.proofs.Lift.{replay-columns, element-inside, micros-element}
use Rattle.micro_ir.proofs.OneElement.{commit-here, commit-row, commit-fits}
use Rattle.row_views.specs.Clips.{clip_test}
use Rattle.frame_laws.specs.Shapes.{Shape, Bounds, first_of, element_number}
use Rattle.frame_laws.specs.Realising.{Windowed, Realised}
use Rattle.frame_laws.specs.Laws.{SameAt, Legal}
use Rattle.frame_laws.specs.Bytes.{size_of}
use Rattle.frame_laws.specs.Classes.Operands.{Operand, group, scalar, narrow, operand_number, operand_of, is_read, IsUnwritten}
use Rattle.frame_laws.specs.Classes.Halved.{halves_row, doubled, Pair, Lists, halves_list, flag_test, halved_list, HalfValue, half_value, IsHalfReadable, IsHalved, AllLeave, HalvedLaw, HalvedBytesLaw}
use Rattle.frame_laws.proofs.Elements.{bit_place}
use Rattle.frame_laws.proofs.Registers.{frame_law}
use Rattle.frame_laws.proofs.Bytes.{bytes_law}
use Rattle.frame_laws.proofs.Classes.Operands.{IsShaped, whole-register, same-operand, same-here}
use Rattle.frame_laws.proofs.Classes.Halves.{per, Done, halves-done}

-- ---- elements and halves

-- an element of a register lies in one of its halves
pub record Halfway (per p : ℕ) : Type 0 where
  pub t : ℕ
  pub rest : ℕ
  pub first : t < 2
  pub inside : rest < per
  pub is : t * per + rest ≡ p

pub halfway : (per p : ℕ) → p < 2 * per → Halfway per p
halfway per p below =
    ⊎_elim
    (λ (l : p < per). record { t = 0; rest = p; first = omega arith; inside = l; is = omega arith })
    (λ (l : per ≤ p). record { t = 1; rest = p - per; first = omega arith; inside = omega arith; is = omega arith })
    (cases_lt p per)

-- The numbers of the elements of a register and of those of the registers of the first operand: so many wide elements make a
-- register.
pub record Sizes (i : Shape) (columns : ℕ) : Type 0 where
  pub wide : i.vlen / (2 * i.width) ≡ columns * (32 / (2 * i.width))
  pub narrow_ones : i.vlen / i.width ≡ 2 * (columns * (32 / (2 * i.width)))
  pub lanes : columns * (32 / i.width) ≡ 2 * (columns * (32 / (2 * i.width)))

pub sizes : (i : Shape) (columns : ℕ) → 0 < i.width → 32 / i.width * i.width ≡ 32 → 32 / (2 * i.width) * (2 * i.width) ≡ 32 → i.vlen ≡ 32 * columns → Sizes i columns
sizes i columns pos narrow_lanes wide_lanes long =
    let w = i.width in
    let n = 32 / (2 * w) in
    let per = columns * n in
    let twice : 2 * n * w + 0 ≡ 32 = omega (arith, wide_lanes) in
    let more : 32 / w ≡ 2 * n = ap (λ (x : ℕ). x / w) (sym twice) ∙ div-mul-add (2 * n) w 0 pos in
    let all : columns * (n * (2 * w)) ≡ columns * 32 = ap (λ x. columns * x) wide_lanes in
    let v1 : i.vlen ≡ per * (2 * w) + 0 = omega (arith, long, all) in
    let v2 : i.vlen ≡ 2 * per * w + 0 = omega (arith, long, all) in
    record {
      wide = ap (λ (x : ℕ). x / (2 * w)) v1 ∙ div-mul-add per (2 * w) 0 (omega arith);
      narrow_ones = ap (λ (x : ℕ). x / w) v2 ∙ div-mul-add (2 * per) w 0 pos;
      lanes = ap (λ (x : ℕ). columns * x) more ∙ omega arith;
    }

-- the same element of the destination and of the first operand
same-element : (per g t rest : ℕ) → g * (2 * per) + (t * per + rest) ≡ (2 * g + t) * per + rest
same-element per g t rest = omega arith

-- the numbers of the same element, among those of the destination and among those of the first operand
pub same-number : (i : Shape) (columns g t rest p : ℕ) → Sizes i columns → t * (columns * (32 / (2 * i.width))) + rest ≡ p → g * (i.vlen / i.width) + p ≡ (2 * g + t) * (i.vlen / (2 * i.width)) + rest
same-number i columns g t rest p size is =
    let per = columns * (32 / (2 * i.width)) in
    ap (λ (n : ℕ). g * n + p) size.narrow_ones ∙ ap (λ (x : ℕ). g * (2 * per) + x) (sym is) ∙ same-element per g t rest ∙ sym (ap (λ (n : ℕ). (2 * g + t) * n + rest) size.wide)

-- what tests the flags changes no element
flag_test-element : (w : ℕ) (lists : Lists) (w2 k col : ℕ) (s : Slices) → element w2 k col (replay (flag_test w lists) s) ≡ element w2 k col s
unfolding replay element
flag_test-element w lists w2 k col s =
    elim lists.clips as (λ x. element w2 k col (replay (cond x (clip_test w truth_row) []) s) ≡ element w2 k col s) [
      | true ↦ refl
      | false ↦ refl
    ]

-- ---- one register

module _ (i : Shape) (b : Bounds) (with : Pair) (value : HalfValue) (count columns g : ℕ) (lists : Lists) (halved : IsHalved i with value count columns) (leave : AllLeave i with value lists count) (below : g < i.registers) where
  to-below : i.vd + g < 32
  to-below = let r : i.vd + i.registers ≤ 32 = halved.framed.room in let l = below in omega arith

  pub halved-realised : Realised i b g (halved_list i with lists count g)
  unfolding Realised
  halved-realised s long splatted stand k col fits inside =
      let w = i.width in
      let to = i.vd + g in
      let pos : 0 < i.width = halved.framed.width in
      let vlen : i.vlen ≡ 32 * columns = halved.framed.vlen in
      let there : s.columns ≡ columns = omega arith in
      let s1 = replay (halves_list i.width with lists g count) s in
      let same : count ≤ count = omega arith in
      let done : Done i with value count columns g lists halved leave below s there splatted count s1 = halves-done i with value count columns g lists halved leave below s there splatted count same in
      let l : col < columns = rw (sym there) inside in
      let l1 : col < s1.columns = rw done.columns_left l in
      let place : (j : ℕ) → j < w → col * 32 + (k * w + j) < 32 * columns = λ j inner. omega arith in
      -- a row that stays
      let kept : (r j : ℕ) → r ≤ scalar_row → j < w → element w k col s1 r j ≡ element w k col s r j =
      λ r j small inner.
      let fit : k * w + j < 32 = omega arith in
      element-inside w k col s1 r j inner ∙ sym (bit_place s1 r col (k * w + j) fit) ∙ done.kept r (col * 32 + (k * w + j)) small (place j inner)
      ∙ bit_place s r col (k * w + j) fit ∙ sym (element-inside w k col s r j inner) in
      let s2 = replay (flag_test i.width lists) s1 in
      let l2 : col < s2.columns = rw (replay-columns (flag_test i.width lists) s1) l1 in
      let after = element w k col (replay (micros w (commit w halves_row to)) s2) in
      let commits : after ≡ steps_on (commit w halves_row to) (element w k col s1) =
      micros-element w k col (commit w halves_row to) s2 (commit-fits w halves_row to (omega arith)) fits l2 ∙ ap (steps_on (commit w halves_row to)) (flag_test-element i.width lists w k col s1) in
      let whole : replay (halved_list i with lists count g) s ≡ replay (micros w (commit w halves_row to)) s2 =
      replay-append (halves_list i.width with lists g count) (flag_test i.width lists ++ micros w (commit w halves_row to)) s ∙ replay-append (flag_test i.width lists) (micros w (commit w halves_row to)) s1 in
      let small : i.vd + g < 32 = to-below in
      let here : (j : ℕ) → j < w → after to j ≡ cond (element w k col s active_row j) (element w k col s1 halves_row j) (element w k col s to j) =
      λ j inner. ap (λ (f : ℕ → ℕ → Bool). f to j) commits
      ∙ commit-here w halves_row to (element w k col s1) j (omega arith) (omega arith) inner
      ∙ rw (kept active_row j (omega arith) inner, kept to j (omega arith) inner) refl in
      let size = sizes i columns pos halved.framed.lanes halved.lanes vlen in
      let p = col * (32 / i.width) + k in
      let e = element_number i g k col in
      rw whole (record {
        active = λ all m mask.
            let h = halfway-of col k size l fits pos halved.framed.lanes in
            let within : h.t < count = active-half h.t h.rest (all-active s stand k col fits inside pos all) size h.is h.inside h.first in
            let made = done.made h.t h.rest within h.inside in
            let bit : (j : ℕ) → j < w → element w k col s1 halves_row j ≡ bit_in s1 halves_row ((h.t * (columns * (32 / (2 * i.width))) + h.rest) * w + j) =
            λ j inner.
            let fit : k * w + j < 32 = omega arith in
            let at : (h.t * (columns * (32 / (2 * i.width))) + h.rest) * w + j ≡ col * 32 + (k * w + j) = rw h.is (row-place col k j w (32 / i.width) halved.framed.lanes) in
            element-inside w k col s1 halves_row j inner ∙ sym (bit_place s1 halves_row col (k * w + j) fit) ∙ ap (bit_in s1 halves_row) (sym at) in
            number-same w _ _ (λ j inner. here j inner ∙ rw (all j inner) (bit j inner))
            ∙ made
            ∙ ap (low w) (result-here s h.t h.rest e m (sym (same-number i columns g h.t h.rest p size h.is)));
        idle = λ none j inner. here j inner ∙ rw (none j inner) refl;
        kept = λ r j low_row other inner. ap (λ (f : ℕ → ℕ → Bool). f r j) commits ∙ commit-row w halves_row to (element w k col s1) r j other ∙ kept r j low_row inner;
      })
    where
      row-place : (col k j w n : ℕ) → n * w ≡ 32 → (col * n + k) * w + j ≡ col * 32 + (k * w + j)
      row-place col k j w n lanes = let m : col * (n * w) ≡ col * 32 = ap (λ x. col * x) lanes in omega arith

      halfway-of : (col k : ℕ) → Sizes i columns → col < columns → k * i.width + i.width ≤ 32 → 0 < i.width → 32 / i.width * i.width ≡ 32 → Halfway (columns * (32 / (2 * i.width))) (col * (32 / i.width) + k)
      halfway-of col k size inside fits pos lanes =
          let n = 32 / i.width in
          let kn : k < n = ⊎_elim (λ (l : k < n). l) (λ (l : n ≤ k). let z : n * i.width ≤ k * i.width = mul-le-mul_right i.width l in absurd (omega arith)) (cases_lt k n) in
          let cn : suc col * n ≤ columns * n = mul-le-mul_right n inside in
          halfway (columns * (32 / (2 * i.width))) (col * n + k) (omega (arith, size.lanes))

      all-active : (s : Slices) (stand : Windowed i b g s) (k col : ℕ) → k * i.width + i.width ≤ 32 → col < s.columns → 0 < i.width → ((j : ℕ) → j < i.width → element i.width k col s active_row j ≡ true) → element_number i g k col < i.len
      all-active s stand k col fits inside pos all =
          let e = element_number i g k col in
          let within : is_within b.from i.len i.masked (bit_in s 0) e ≡ true = sym (stand.active k col 0 fits inside pos) ∙ all 0 pos in
          ltb-true e i.len (and_parts (leb b.from e) (ltb e i.len) (and_parts (leb b.from e && ltb e i.len) (not i.masked || bit_in s 0 e) within).0).1

      active-half : (t rest : ℕ) → element_number i g k col < i.len → Sizes i columns → t * (columns * (32 / (2 * i.width))) + rest ≡ col * (32 / i.width) + k → rest < (columns * (32 / (2 * i.width))) → t < 2 → t < count
      active-half t rest less size is inside first =
          let some : 0 < count = halved.some in
          ⊎_elim
          (λ (two : count ≡ 2). omega arith)
          (λ (few : i.len ≤ i.vlen / (2 * i.width)).
          let small : i.len ≤ (columns * (32 / (2 * i.width))) = omega (arith, few, size.wide) in
          let number : t * (columns * (32 / (2 * i.width))) + rest ≤ element_number i g k col = omega (arith, is) in
          ⊎_elim
          (λ (l : t < 1). omega arith)
          (λ (l : 1 ≤ t). let m : 1 * (columns * (32 / (2 * i.width))) ≤ t * (columns * (32 / (2 * i.width))) = mul-le-mul_right (columns * (32 / (2 * i.width))) l in absurd (omega arith))
          (cases_lt t 1))
          halved.halves

      result-here : (s : Slices) (t rest e : ℕ) (m : Bool) → (2 * g + t) * (i.vlen / (2 * i.width)) + rest ≡ e
          → value (element_in i.vlen (bit_in s) with.a (2 * i.width) ((2 * g + t) * (i.vlen / (2 * i.width)) + rest)) (operand_number with.b i.vlen (2 * i.width) i.scalar (bit_in s) ((2 * g + t) * (i.vlen / (2 * i.width)) + rest)) ≡ i.result (bit_in s) e m
      result-here s t rest e m number =
          ap (λ (x : ℕ). value (element_in i.vlen (bit_in s) with.a (2 * i.width) x) (operand_number with.b i.vlen (2 * i.width) i.scalar (bit_in s) x)) number ∙ sym (halved.result (bit_in s) e m)

-- ---- legality

-- the second operand has the widths of the first one
pub half-shaped : (i : Shape) (op : Operand) → 8 * (i.width / 8) ≡ i.width → IsHalfReadable i op → IsShaped (doubled i) op
half-shaped i (group r) whole readable = absurd readable
half-shaped i scalar whole readable = tt
half-shaped i (narrow signed by n r row) whole readable =
    let two : by ≡ 2 = readable.0 in
    let same : n ≡ i.width = readable.1 in
    let wide : by * n ≡ 2 * i.width = λ z. two z * same z in
    (omega arith, wide, rw same whole)

-- register r is read for register g of the destination: for the second operand, and for both
reads_second : Operand → (g r : ℕ) → Bool
reads_second (group x) g r = false
reads_second scalar g r = false
reads_second (narrow signed by n x row) g r = eqb r (x + g)

pub reads : Pair → (count g r : ℕ) → Bool
reads with count g r = eqb r (with.a + (2 * g + 0)) || ((ltb 1 count && eqb r (with.a + (2 * g + 1))) || reads_second with.b g r)

second-safe : (i : Shape) (op : Operand) (g r : ℕ) → IsHalfReadable i op → g < i.registers → reads_second op g r ≡ true → IsUnwritten i g r
unfolding reads_second
second-safe i (group x) g r readable below t = absurd readable
second-safe i scalar g r readable below t = absurd (false≢true t)
second-safe i (narrow signed by n x row) g r readable below t = let e : r ≡ x + g = eqb-true r (x + g) t in rw e (readable.3 g below)

-- a register that is read for half t of the second operand is one of its group
second-read : (i : Shape) (op : Operand) (g t r : ℕ) → IsHalfReadable i op → t < 2 → is_read op (2 * g + t) r ≡ true → reads_second op g r ≡ true
unfolding reads_second
second-read i (group x) g t r readable first is = absurd readable
second-read i scalar g t r readable first is = is
second-read i (narrow signed by n x row) g t r readable first is =
    let two : by ≡ 2 = readable.0 in
    let q : (2 * g + t) / 2 ≡ g = omega arith in
    let register : (2 * g + t) / by ≡ g = ap (λ (z : ℕ). (2 * g + t) / z) two ∙ q in
    let e : r ≡ x + (2 * g + t) / by = eqb-true r (x + (2 * g + t) / by) is in
    let e2 : r ≡ x + g = e ∙ ap (λ (z : ℕ). x + z) register in
    rw e2 (eq-eqb (x + g) (x + g) refl)

-- so is one of the first operand
first-read : (with : Pair) (count g t r : ℕ) → t < 2 → t < count → is_read (group with.a) (2 * g + t) r ≡ true → reads with count g r ≡ true
unfolding reads
first-read with count g t r first inside is =
    let e : r ≡ with.a + (2 * g + t) = eqb-true r (with.a + (2 * g + t)) is in
    ⊎_elim
    (λ (l : t < 1).
    let z : r ≡ with.a + (2 * g + 0) = omega arith in
    or_left (eqb r (with.a + (2 * g + 0))) _ (eq-eqb r (with.a + (2 * g + 0)) z))
    (λ (l : 1 ≤ t).
    let z : r ≡ with.a + (2 * g + 1) = omega arith in
    or_right (eqb r (with.a + (2 * g + 0))) _ (or_left (ltb 1 count && eqb r (with.a + (2 * g + 1))) (reads_second with.b g r) (rw (lt-ltb 1 count (omega arith), eq-eqb r (with.a + (2 * g + 1)) z) refl)))
    (cases_lt t 1)

-- a half that holds an active element is one of those that are computed
pub in-count : (i : Shape) (with : Pair) (value : HalfValue) (count columns : ℕ) → IsHalved i with value count columns → Sizes i columns → (g p t rest : ℕ) → t * (columns * (32 / (2 * i.width))) + rest ≡ p → t < 2
    → g * (i.vlen / i.width) + p < i.len → t < count
in-count i with value count columns halved size g p t rest is first less =
    let per = columns * (32 / (2 * i.width)) in
    let some : 0 < count = halved.some in
    ⊎_elim
    (λ (two : count ≡ 2). omega arith)
    (λ (few : i.len ≤ i.vlen / (2 * i.width)).
    let small : i.len ≤ per = omega (arith, few, size.wide) in
    ⊎_elim
    (λ (l : t < 1). omega arith)
    (λ (l : 1 ≤ t). let m : 1 * per ≤ t * per = mul-le-mul_right per l in absurd (omega (arith, is)))
    (cases_lt t 1))
    halved.halves

-- the operands of an element depend on the registers alone that are read for it
pub same-operands : (i : Shape) (with : Pair) (value : HalfValue) (count columns g p : ℕ) (u v : Registers) → IsHalved i with value count columns → p < i.vlen / i.width → first_of i g + p < i.len → SameAt (reads with count g) i.vlen u v
    → (element_in i.vlen u with.a (2 * i.width) (first_of i g + p) ≡ element_in i.vlen v with.a (2 * i.width) (first_of i g + p))
    × (operand_number with.b i.vlen (2 * i.width) i.scalar u (first_of i g + p) ≡ operand_number with.b i.vlen (2 * i.width) i.scalar v (first_of i g + p))
unfolding reads
same-operands i with value count columns g p u v halved inside less same =
    let f = halved.framed in
    let pos : 0 < i.width = f.width in
    let wide_pos : 0 < 2 * i.width = omega arith in
    let size = sizes i columns pos f.lanes halved.lanes f.vlen in
    let per_wide : i.vlen / (2 * i.width) * (2 * i.width) ≡ i.vlen = whole-register (2 * i.width) i.vlen columns wide_pos halved.lanes f.vlen in
    let per = columns * (32 / (2 * i.width)) in
    let h = halfway per p (omega (arith, inside, size.narrow_ones)) in
    let q = 2 * g + h.t in
    let number : g * (i.vlen / i.width) + p ≡ q * (i.vlen / (2 * i.width)) + h.rest = same-number i columns g h.t h.rest p size h.is in
    let within : h.t < count = in-count i with value count columns halved size g p h.t h.rest h.is h.first less in
    let place : h.rest < i.vlen / (2 * i.width) = subst (λ (n : ℕ). h.rest < n) (sym size.wide) h.inside in
    let a = same-operand (doubled i) (group with.a) q h.rest u v tt per_wide place (λ r at x inner. same r at (first-read with count g h.t r h.first within x) inner) in
    let b = same-operand (doubled i) with.b q h.rest u v (half-shaped i with.b halved.whole halved.b) per_wide place
    (λ r at x inner. same r at (or_right (eqb r (with.a + (2 * g + 0))) _ (or_right (ltb 1 count && eqb r (with.a + (2 * g + 1))) _ (second-read i with.b g h.t r halved.b h.first x))) inner) in
    let first_at : Registers → ℕ → ℕ = λ f x. element_in i.vlen f with.a (2 * i.width) x in
    let second_at : Registers → ℕ → ℕ = λ f x. operand_number with.b i.vlen (2 * i.width) i.scalar f x in
    (ap (first_at u) number ∙ a ∙ sym (ap (first_at v) number), ap (second_at u) number ∙ b ∙ sym (ap (second_at v) number))

pub halved-legal : (i : Shape) (with : Pair) (value : HalfValue) (count columns : ℕ) → IsHalved i with value count columns → Legal i (reads with count) columns
unfolding reads
halved-legal i with value count columns halved =
    let f = halved.framed in
    record {
      framed = f;
      sources = λ g r l t.
          ⊎_elim
          (λ (x : eqb r (with.a + (2 * g + 0)) ≡ true). let e : r ≡ with.a + (2 * g + 0) = eqb-true r (with.a + (2 * g + 0)) x in rw e (halved.a g 0 l halved.some))
          (λ (x : ((ltb 1 count && eqb r (with.a + (2 * g + 1))) || reads_second with.b g r) ≡ true).
          ⊎_elim
          (λ (y : (ltb 1 count && eqb r (with.a + (2 * g + 1))) ≡ true).
          let parts = and_parts (ltb 1 count) (eqb r (with.a + (2 * g + 1))) y in
          let e : r ≡ with.a + (2 * g + 1) = eqb-true r (with.a + (2 * g + 1)) parts.1 in
          rw e (halved.a g 1 l (ltb-true 1 count parts.0)))
          (λ (y : reads_second with.b g r ≡ true). second-safe i with.b g r halved.b l y)
          (or_cases (ltb 1 count && eqb r (with.a + (2 * g + 1))) (reads_second with.b g r) x))
          (or_cases (eqb r (with.a + (2 * g + 0))) ((ltb 1 count && eqb r (with.a + (2 * g + 1))) || reads_second with.b g r) t);
      reads_only = λ g u v p c l inside less same.
          let x = same-operands i with value count columns g p u v halved inside less same in
          halved.result u (first_of i g + p) c ∙ rw (x.0, x.1) (sym (halved.result v (first_of i g + p) c));
    }

-- ---- the laws

pub double-bytes : (w : ℕ) → 8 * (w / 8) ≡ w → 8 * (2 * w / 8) ≡ 2 * w
double-bytes w whole = omega (arith, whole)

pub halved_law : HalvedLaw
halved_law i b with value lists count v s halved bounded leave holds =
    frame_law i b (reads with count) (halved_list i with lists count) v s (halved-legal i with value count s.columns halved) bounded
    (λ g l. halved-realised i b with value count s.columns g lists halved leave l) holds

pub halved_bytes_law : HalvedBytesLaw
halved_bytes_law i b with value lists count s halved bounded leave some =
    let v = registers_of s in
    let pos : 0 < i.width = halved.framed.width in
    let whole : 8 * (2 * i.width / 8) ≡ 2 * i.width = double-bytes i.width halved.whole in
    let same : (op : Operand) (e : ℕ) → IsShaped (doubled i) op → operand_number op i.vlen (2 * i.width) i.scalar (bits_of v) e ≡ operand_of op (size_of i) (2 * i.width) i.scalar v e =
    λ op e has. same-here (doubled i) op s e has halved.framed.vlen some whole in
    bytes_law i b (reads with count) (halved_list i with lists count) (half_value i with value v) s (halved-legal i with value count s.columns halved) bounded
    (λ g l. halved-realised i b with value count s.columns g lists halved leave l) some halved.whole
    (λ e less. halved.result (bits_of v) e (mask_bit_of v 0 e) ∙ rw (same (group with.a) e tt, same with.b e (half-shaped i with.b halved.whole halved.b)) refl)
