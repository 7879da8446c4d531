-- What counts leave: they change the control number, and their windows the row of active elements. Elements of a group by
-- their rows; and the control number in the scalar row.
use Rattle.std.proofs.Common.{◌≡◌, ◌≢◌, ℕ, zero, suc, ◌+◌, ◌*◌, ◌/◌, ◌%◌, ◌<◌, Bool, true, false, cond, ◌&&◌, min, ltb, List, [], ◌∷◌, refl, ◌∙◌, ap, arith}
use Rattle.std.proofs.lemmas.Bool.{ne_eqb}
use Rattle.std.proofs.lemmas.Nat.{div-mul-add, mod-mul-add}
use Rattle.bit_laws.specs.Numbers.{number, bit_of}
use Rattle.bit_laws.proofs.Numbers.{number-same}
use Rattle.bit_rows.specs.Slices.{Slices, placed}
use Rattle.cam_chain.specs.Slices.{selected, searched}
use Rattle.element_ops.specs.Elements.{element_in}
use Rattle.steer_net.specs.Moves.{per_row}
use Rattle.steer_net.specs.Network.{bit_in, windowed}
use Rattle.micro_ir.specs.declared.op.MicroOp.{MicroOp}
use Rattle.micro_ir.specs.declared.op.MicroOp.TheVariants.{Search, UpdateBy}
use Rattle.micro_ir.specs.Pieces.{clear}
use Rattle.micro_ir.specs.Replay.{replay}
use Rattle.micro_ir.specs.Steps.{Step, micros}
use Rattle.micro_ir.specs.Subs.{subs_of}
use Rattle.micro_ir.specs.WorkRows.{active_row, scalar_row}
use Rattle.micro_ir.proofs.Lift.{replay-columns}
use Rattle.micro_ir.proofs.Lists.{replay-append}
use Rattle.row_views.specs.Lists.{count_bit, spread_num}
use Rattle.row_views.specs.Views.{view}
use Rattle.row_views.proofs.Elsewhere.{micros-else}
use Rattle.row_views.proofs.Spread.{spread-view}
use Rattle.row_views.proofs.Views.{spot, view-in}
use Rattle.row_counts.specs.declared.counts.Counting.{Counting}
use Rattle.row_counts.specs.declared.span.Span.{Span}
use Rattle.row_counts.specs.Lists.{how_at, count_bits, span_window, count_rows, count_first}
use Rattle.row_counts.specs.Puts.{Puts}

-- counting leaves the bits
pub bits-stay : (w row : ℕ) (counting : Counting) (n : ℕ) (s : Slices) → (replay (count_bits w row counting n) s).bit ≡ s.bit
unfolding count_bits replay
bits-stay w row counting zero s = refl
bits-stay w row counting (suc n) s =
    ap (λ (z : Slices). z.bit) (replay-append (count_bits w row counting n) (count_bit w active_row row counting.wanted (how_at counting w n) n) s)
    ∙ bits-stay w row counting n s

-- so the views stay
pub same-view : (w : ℕ) (s t : Slices) (p : ℕ) → t.bit ≡ s.bit → view w t p ≡ view w s p
unfolding view
same-view w s t p same = ap (λ (b : ℕ → ℕ → ℕ → Bool). (λ (r j : ℕ). cond (ltb j w) (b ((p * w + j) % 32) r ((p * w + j) / 32)) false)) same

-- a window with the counts of a row leaves every row but that of active elements
pub row-bits : (w row : ℕ) (counting : Counting) (first from to : ℕ) (masked : Bool) (s : Slices) (r n : ℕ) → r ≢ active_row
    → bit_in (replay (count_bits w row counting w) (windowed active_row w first from to masked s)) r n ≡ bit_in s r n
row-bits w row counting first from to masked s r n other =
    let u : Slices = windowed active_row w first from to masked s in
    ap (λ (b : ℕ → ℕ → ℕ → Bool). b (n % 32) r (n / 32)) (bits-stay w row counting w u) ∙ rw (ne_eqb r 32 other) refl

pub group-bits : (w : ℕ) (span : Span) (counting : Counting) (g : ℕ) (s : Slices) (r n : ℕ) → r ≢ active_row
    → bit_in (replay (count_rows w span counting g) s) r n ≡ bit_in s r n
unfolding count_rows replay
group-bits w span counting zero s r n other = refl
group-bits w span counting (suc g) s r n other =
    let before = count_rows w span counting g in
    let more : List MicroOp = span_window w g span ∷ count_bits w (span.base + g) counting w in
    ap (λ (z : Slices). bit_in z r n) (replay-append before more s)
    ∙ row-bits w (span.base + g) counting (g * span.per) span.from span.to span.masked (replay before s) r n other
    ∙ group-bits w span counting g s r n other

pub first-bits : (w row : ℕ) (span : Span) (counting : Counting) (s : Slices) (r n : ℕ) → r ≢ active_row
    → bit_in (replay (count_first w row span counting) s) r n ≡ bit_in s r n
unfolding replay
first-bits w row span counting s r n other = row-bits w row counting 0 span.from (min 1 span.to) false s r n other

-- an element of a group by its row
pub row-element : (w base g p : ℕ) (s : Slices) → 0 < w → 32 / w * w ≡ 32 → p < per_row w s
    → number w (view w s p (base + g)) ≡ element_in (32 * s.columns) (bit_in s) base w (g * per_row w s + p)
unfolding element_in
row-element w base g p s pos lanes below =
    number-same w _ _ (λ j inside.
    let a = spot w (32 / w) s.columns p pos lanes below in
    let e : (g * per_row w s + p) * w + j ≡ g * (32 * s.columns) + (p * w + j) = omega (arith, ap (λ x. g * (s.columns * x)) lanes) in
    view-in w s p (base + g) j inside
    ∙ rw (e, div-mul-add g (32 * s.columns) (p * w + j) (a.here j inside), mod-mul-add g (32 * s.columns) (p * w + j) (a.here j inside)) refl)

-- ---- the number in the scalar row

-- spreading the number leaves the registers
spread-bits : (w : ℕ) (s : Slices) (r at : ℕ) → r < 32 → bit_in (replay (spread_num w scalar_row) s) r at ≡ bit_in s r at
unfolding spread_num replay
spread-bits w s r at l =
    let n : r ≢ 34 = omega arith in
    let steps : List Step = clear w scalar_row ∷ [] in
    let s1 : Slices = replay (micros w steps) s in
    let s2 : Slices = searched (subs_of w (λ j. ltb j w)) [] false s1 in
    ap (λ (z : Slices). bit_in z r at) (replay-append (micros w steps) (Search (subs_of w (λ j. ltb j w)) [] false ∷ UpdateBy scalar_row w ∷ []) s)
    ∙ rw (ne_eqb r 34 n) (off (placed s1.columns (at % 32) (at / 32)) (selected (subs_of w (bit_of s1.num)) (at % 32)) (s2.tag (at % 32) (at / 32)) (s1.bit (at % 32) r (at / 32)))
    ∙ micros-else w steps s (at % 32) r (at / 32) (n, tt)
  where
    off : (p c t o : Bool) → cond (((p && c) && false) && t) true o ≡ o
    off true true t o = refl
    off true false t o = refl
    off false c t o = refl

-- a control number whose low bits are those of x, spread, is x in each element
pub spread-puts : (w x : ℕ) (s u : Slices) → 0 < w → 32 / w * w ≡ 32 → u.columns ≡ s.columns → ((r at : ℕ) → r < 32 → bit_in u r at ≡ bit_in s r at)
    → ((j : ℕ) → j < w → bit_of u.num j ≡ bit_of x j) → Puts w x s (replay (spread_num w scalar_row) u)
spread-puts w x s u pos lanes columns kept bits = record {
  columns = replay-columns (spread_num w scalar_row) u ∙ columns;
  kept = λ r at l a. spread-bits w u r at l ∙ kept r at l;
  scalar = λ p j a l. let inside : p < per_row w u = rw columns a in spread-view w scalar_row u p 34 j pos lanes inside l ∙ bits j l;
}
