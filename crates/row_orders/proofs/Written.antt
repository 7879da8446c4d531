-- The lists, as they are written.
use Rattle.std.proofs.Common.{◌≡◌, ℕ, ◌+◌, ◌-◌, ◌*◌, ◌<◌, not, List, [], ◌∷◌, ◌++◌, zero, suc, refl, ap, arith, ⊎_elim}
use Rattle.std.proofs.lemmas.Bool.{lt-ltb}
use Rattle.bit_laws.specs.Numbers.{bit_of}
use Rattle.micro_ir.specs.declared.op.MicroOp.{MicroOp}
use Rattle.micro_ir.specs.declared.op.MicroOp.TheVariants.{Window}
use Rattle.micro_ir.specs.WorkRows.{active_row, IsOperandRow}
use Rattle.micro_ir.specs.Steps.{micro, micros}
use Rattle.micro_ir.specs.Pieces.{clear, above}
use Rattle.micro_ir.proofs.StepLists.{micros-one}
use Rattle.row_views.specs.Lists.{count_bit}
use Rattle.row_counts.specs.declared.span.Span.{Span}
use Rattle.row_orders.specs.declared.sources.Source.{Source}
use Rattle.row_orders.specs.Lists.{cand, begin_row, begin_rows, stay, stay_rows, stays_to, how_of, compare_rows, order_bit, order_bits, bit_length, bits_length}

pub begin-list : (w : ℕ) (r : Source) (i : ℕ)
    → begin_row w r i ≡ (Window active_row w r.first r.from r.to r.masked ∷ []) ++ (micro w (clear w (cand i)) ++ micro w (above (active_row ∷ []) (1 ∷ []) (cand i) (w - 1) 0))
unfolding micros
begin-list w r i =
    ap (λ (l : List MicroOp). Window active_row w r.first r.from r.to r.masked ∷ (micro w (clear w (cand i)) ++ l)) (micros-one w (above (active_row ∷ []) (1 ∷ []) (cand i) (w - 1) 0))

pub begin-none : (w : ℕ) (src : ℕ → Source) → begin_rows w src 0 ≡ []
unfolding begin_rows
begin-none w src = refl

pub begin-more : (w : ℕ) (src : ℕ → Source) (i : ℕ) → begin_rows w src (i + 1) ≡ begin_rows w src i ++ begin_row w (src i) i
unfolding begin_rows
begin-more w src i = let e : i + 1 ≡ suc i = omega arith in rw e refl

pub stay-none : (w : ℕ) (src : ℕ → Source) (start j : ℕ) → stay_rows w src start j 0 ≡ []
unfolding stay_rows
stay-none w src start j = refl

pub stay-more : (w : ℕ) (src : ℕ → Source) (start j i : ℕ) → stay_rows w src start j (i + 1) ≡ stay_rows w src start j i ++ micros w (stay src start j i ∷ [])
unfolding stay_rows
stay-more w src start j i = let e : i + 1 ≡ suc i = omega arith in rw e refl

pub compare-none : (w : ℕ) (src : ℕ → Source) (start j : ℕ) → compare_rows w src start j 0 ≡ []
unfolding compare_rows
compare-none w src start j = refl

pub compare-more : (w : ℕ) (src : ℕ → Source) (start j i : ℕ)
    → compare_rows w src start j (i + 1) ≡ compare_rows w src start j i ++ count_bit w (cand i) ((src i).row) (not (bit_of start j)) (how_of (bit_of start j)) j
unfolding compare_rows
compare-more w src start j i = let e : i + 1 ≡ suc i = omega arith in rw e refl

pub stays-none : (w n : ℕ) (src : ℕ → Source) (start j : ℕ) → j ≡ 0 → stays_to w n src start j ≡ []
unfolding stays_to
stays-none w n src start j is = rw is refl

pub stays-some : (w n : ℕ) (src : ℕ → Source) (start j : ℕ) → 0 < j → stays_to w n src start j ≡ stay_rows w src start (j - 1) n
unfolding stays_to
stays-some w n src start zero some = absurd (omega arith)
stays-some w n src start (suc j) some = let e : suc j - 1 ≡ j = omega arith in rw e refl

pub bits-none : (w n : ℕ) (src : ℕ → Source) (start : ℕ) → order_bits w n src start 0 ≡ []
unfolding order_bits
bits-none w n src start = refl

pub bits-first : (w n : ℕ) (src : ℕ → Source) (start m j : ℕ) → m ≡ j + 1 → order_bits w n src start m ≡ order_bit w n src start j ++ order_bits w n src start j
unfolding order_bits
bits-first w n src start m j is = let e : m ≡ suc j = omega arith in rw e refl

pub length-none : (span : Span) → bits_length span 0 ≡ 0
unfolding bits_length
length-none span = refl

pub length-first : (span : Span) (m j : ℕ) → m ≡ j + 1 → bits_length span m ≡ bit_length span j + bits_length span j
unfolding bits_length
length-first span m j is = let e : m ≡ suc j = omega arith in rw e refl

-- all bits but the lowest have candidates below
pub length-all : (span : Span) (j : ℕ) → bits_length span (suc j) + 5 * (span.regs + 1) ≡ suc j * (7 * (span.regs + 1) + 4)
unfolding bits_length
length-all span zero = omega arith
length-all span (suc j) = rw (lt-ltb 0 (suc j) (omega arith)) (omega (arith, length-all span j))

-- the rows of a step are apart
pub source-below : (r : ℕ) → IsOperandRow r → r < 64
source-below r is = ⊎_elim (λ (l : r < 32). omega arith) (λ is. ⊎_elim (λ (l : r ≡ 33). omega arith) (λ is. ⊎_elim (λ (l : r ≡ 34). omega arith) (λ is. ⊎_elim (λ (l : r ≡ 55). omega arith) (λ (l : r ≡ 56). omega arith) is) is) is) is

pub length-of : (span : Span) (w : ℕ) → 0 < w → bits_length span w + 5 * (span.regs + 1) ≡ w * (7 * (span.regs + 1) + 4)
length-of span zero some = absurd (omega arith)
length-of span (suc j) some = length-all span j
