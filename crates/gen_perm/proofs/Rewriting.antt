-- What the operations that move or number elements make of one element of a row.
use Rattle.std.proofs.Common.{◌≡◌, ℕ, zero, suc, ◌+◌, ◌-◌, ◌*◌, ◌/◌, ◌<◌, ◌≤◌, Bool, true, false, cond, ◌&&◌, eqb, ltb, leb, [], ◌∷◌, refl, sym, ◌∙◌, ap}
use Rattle.std.proofs.Math.Nat.{mod-eq_of_lt}
use Rattle.bit_laws.specs.Numbers.{number, low}
use Rattle.bit_laws.proofs.Numbers.{number-lt, number-bits}
use Rattle.bit_rows.specs.Slices.{Slices}
use Rattle.steer_net.specs.Network.{bit_in, is_within, numbered}
use Rattle.steer_net.specs.Moves.{rewritten, limited, slid_bit, bit_in_group}
use Rattle.element_ops.specs.Elements.{element_in}
use Rattle.micro_ir.specs.declared.op.MicroOp.{MicroOp}
use Rattle.micro_ir.specs.declared.op.MicroOp.TheVariants.{Window, Slide, Pick, Index}
use Rattle.micro_ir.specs.Replay.{replay}
use Rattle.micro_ir.specs.Steps.{element}
use Rattle.micro_ir.specs.WorkRows.{active_row, result_row}
use Rattle.row_views.proofs.Views.{element-view, view-rewritten, view-numbered}
use Rattle.gen_perm.specs.Moves.{IsSlide, IsPick, IsIndex, IsMove, IsWindow, slide_result, pick_result, moved_number, moved_bit}
use Rattle.gen_perm.specs.Laws.{window_bit}

-- a row that is rewritten
pub rewritten-element : (w k col row : ℕ) (what : ℕ → ℕ → Bool) (s : Slices) → 0 < w → 32 / w * w ≡ 32 → k * w + w ≤ 32 → col < s.columns → (r j : ℕ) → j < w
    → element w k col (rewritten row w what s) r j ≡ cond (eqb r row) (what (col * (32 / w) + k) j) (element w k col s r j)
rewritten-element w k col row what s pos lanes fits inside r j below =
    let before = element-view w k col s pos lanes fits inside in
    let now = element-view w k col (rewritten row w what s) pos lanes fits inside in
    ap (λ (f : ℕ → ℕ → Bool). f r j) now.0
    ∙ view-rewritten w row what s (col * (32 / w) + k) r j pos lanes before.1 below
    ∙ ap (λ (f : ℕ → ℕ → Bool). cond (eqb r row) (what (col * (32 / w) + k) j) (f r j)) (sym before.0)

-- a row that is numbered
pub numbered-element : (w k col row first : ℕ) (what : ℕ → Bool) (s : Slices) → 0 < w → 32 / w * w ≡ 32 → k * w + w ≤ 32 → col < s.columns → (r j : ℕ) → j < w
    → element w k col (numbered row w first what s) r j ≡ cond (eqb r row) (what (first + (col * (32 / w) + k))) (element w k col s r j)
numbered-element w k col row first what s pos lanes fits inside r j below =
    let before = element-view w k col s pos lanes fits inside in
    let now = element-view w k col (numbered row w first what s) pos lanes fits inside in
    ap (λ (f : ℕ → ℕ → Bool). f r j) now.0
    ∙ view-numbered w row first what s (col * (32 / w) + k) r j pos lanes before.1 below
    ∙ ap (λ (f : ℕ → ℕ → Bool). cond (eqb r row) (what (first + (col * (32 / w) + k))) (f r j)) (sym before.0)

-- slides, picks and numbers of elements are moves
pub slide-moves : (w : ℕ) (op : MicroOp) → IsSlide w op → IsMove w op
slide-moves w (Slide to base width first up by limit) is = is
slide-moves w _ is = absurd is

pub pick-moves : (w : ℕ) (op : MicroOp) → IsPick w op → IsMove w op
pick-moves w (Pick to base width index limit) is = is
pick-moves w _ is = absurd is

pub index-moves : (w : ℕ) (op : MicroOp) → IsIndex w op → IsMove w op
index-moves w (Index to width first) is = is
index-moves w _ is = absurd is

-- a move rewrites the result row
pub move-effect : (w : ℕ) (op : MicroOp) (s : Slices) → IsMove w op → replay (op ∷ []) s ≡ rewritten result_row w (moved_bit op s) s
unfolding replay
move-effect w (Slide to base width first up by limit) s is = rw (is.0, is.1) refl
move-effect w (Pick to base width index limit) s is = rw (is.0, is.1) refl
move-effect w (Index to width first) s is = rw (is.0, is.1) refl
move-effect w _ s is = absurd is

-- a window numbers the row of active elements
pub window-effect : (w : ℕ) (op : MicroOp) (s : Slices) (k col r j : ℕ) → 0 < w → 32 / w * w ≡ 32 → k * w + w ≤ 32 → col < s.columns → j < w → IsWindow w op
    → element w k col (replay (op ∷ []) s) r j ≡ cond (eqb r active_row) (window_bit op (bit_in s 0) (col * (32 / w) + k)) (element w k col s r j)
unfolding replay
window-effect w (Window row width first from to masked) s k col r j pos lanes fits inside below is =
    rw (is.0, is.1) (numbered-element w k col active_row first (is_within from to masked (bit_in s 0)) s pos lanes fits inside r j below)
window-effect w _ s k col r j pos lanes fits inside below is = absurd is

-- ---- the numbers that a move leaves

number-none : (w : ℕ) → number w (λ j. false) ≡ 0
number-none zero = refl
number-none (suc w) = rw (number-none w) refl

-- the number of an element of a group, where there is one
limited-number : (w base limit q : ℕ) (s : Slices) → number w (limited s base w limit q) ≡ cond (ltb q limit) (element_in (32 * s.columns) (bit_in s) base w q) 0
unfolding element_in
limited-number w base limit q s = elim (ltb q limit) as (λ t. number w (λ j. t && bit_in_group s base (q * w + j)) ≡ cond t (number w (λ j. bit_in_group s base (q * w + j))) 0) [
  | true ↦ refl
  | false ↦ number-none w
]

slid-number : (w base : ℕ) (up : Bool) (by limit e : ℕ) (s : Slices)
    → number w (slid_bit s base w up by limit e) ≡ slide_result (32 * s.columns) w base up by limit (bit_in s) e
slid-number w base true by limit e s = elim (leb by e) as (λ t. number w (λ j. t && limited s base w limit (e - by) j) ≡ cond (t && ltb (e - by) limit) (element_in (32 * s.columns) (bit_in s) base w (e - by)) 0) [
  | true ↦ limited-number w base limit (e - by) s
  | false ↦ number-none w
]
slid-number w base false by limit e s = limited-number w base limit (e + by) s

-- a number of so many bits is its own low bits
own-low : (w : ℕ) (f : ℕ → Bool) (z : ℕ) → number w f ≡ z → number w f ≡ low w z
own-low w f z is = is ∙ sym (mod-eq_of_lt (rw (← is) (number-lt w f)))

pub move-number : (w : ℕ) (op : MicroOp) (s : Slices) (p : ℕ) → IsMove w op → number w (moved_bit op s p) ≡ low w (moved_number op (32 * s.columns) (bit_in s) p)
move-number w (Slide to base width first up by limit) s p is =
    rw is.1 (own-low w (slid_bit s base w up by limit (first + p)) (slide_result (32 * s.columns) w base up by limit (bit_in s) (first + p)) (slid-number w base up by limit (first + p) s))
move-number w (Pick to base width index limit) s p is =
    rw is.1 (own-low w (limited s base w limit index) (pick_result (32 * s.columns) w base index limit (bit_in s)) (limited-number w base limit index s))
move-number w (Index to width first) s p is = number-bits w (first + p)
move-number w _ s p is = absurd is
