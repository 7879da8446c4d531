-- The lists of the kinds set no flag of clipped results.
use Rattle.std.proofs.Common.{◌≡◌, ℕ, zero, suc, ◌+◌, ◌-◌, Bool, true, false, cond, not, eqb, List, [], ◌∷◌, ◌++◌, refl}
use Rattle.bit_laws.specs.Numbers.{bit_of}
use Rattle.frame_meaning.proofs.Quiet.{IsQuiet, quiet-none, quiet-keep, quiet-steps, quiet-append}
use Rattle.gen_reduce.specs.declared.kinds.Reduction.{Reduction}
use Rattle.gen_reduce.specs.declared.kinds.Reduction.TheVariants.{Redsum, Redand, Redor, Redxor, Wredsumu, Wredsum}
use Rattle.gen_reduce.specs.Kinds.{counting_of, first_counting_of, width_of, reduction_counts_list}
use Rattle.micro_ir.specs.declared.op.MicroOp.{MicroOp}
use Rattle.micro_ir.specs.Pieces.{clear, commit}
use Rattle.micro_ir.specs.Replay.{clips, sets_clip}
use Rattle.micro_ir.specs.Steps.{Step, micros}
use Rattle.micro_ir.specs.WorkRows.{active_row, scalar_row, free_row}
use Rattle.reduce_tree.specs.declared.weights.How.{How}
use Rattle.row_counts.specs.declared.counts.Counting.{Counting}
use Rattle.row_counts.specs.declared.span.Span.{Span}
use Rattle.row_counts.specs.Lists.{how_at, count_bits, span_window, count_rows, first_window, count_first, commit_first}
use Rattle.row_orders.specs.declared.sources.Source.{Source}
use Rattle.row_orders.specs.Kinds.{order_list}
use Rattle.row_orders.specs.Kinds as orders
use Rattle.row_orders.specs.Lists.{sources, cand, begin_row, begin_rows, stay, stay_rows, stays_to, how_of, compare_rows, order_bit, order_bits}
use Rattle.row_views.specs.Lists.{count_bit, spread_num}
use Rattle.fold_exec.specs.declared.kinds.Folding.{Folding}
use Rattle.fold_exec.specs.declared.kinds.Folding.TheVariants.{Counted, Ordered}
use Rattle.fold_exec.specs.Kinds.{result_bits}
use Rattle.fold_exec.specs.Programs.{folding_list}

-- ---- counts

-- a way to take tags that sets no flag
abbrev IsPlain : How → Type 0
IsPlain how = (tags : ℕ) → sets_clip how tags ≡ false

quiet-bit : (w gate row : ℕ) (want : Bool) (how : How) (j : ℕ) → IsPlain how → IsQuiet (count_bit w gate row want how j)
unfolding clips
quiet-bit w gate row want how j plain s = rw (plain _) refl

plain-at : (counting : Counting) (w j : ℕ) → IsPlain counting.how → IsPlain counting.top → IsPlain (how_at counting w j)
plain-at counting w j how top = chosen (eqb j (w - 1))
  where
    chosen : (b : Bool) → IsPlain (cond b counting.top counting.how)
    chosen true = top
    chosen false = how

quiet-bits : (w row : ℕ) (counting : Counting) → IsPlain counting.how → IsPlain counting.top → (n : ℕ) → IsQuiet (count_bits w row counting n)
unfolding count_bits
quiet-bits w row counting how top zero = quiet-none
quiet-bits w row counting how top (suc n) =
    quiet-append (count_bits w row counting n) (count_bit w active_row row counting.wanted (how_at counting w n) n) (quiet-bits w row counting how top n)
    (quiet-bit w active_row row counting.wanted (how_at counting w n) n (plain-at counting w n how top))

quiet-rows : (w : ℕ) (span : Span) (counting : Counting) → IsPlain counting.how → IsPlain counting.top → (g : ℕ) → IsQuiet (count_rows w span counting g)
unfolding count_rows
quiet-rows w span counting how top zero = quiet-none
quiet-rows w span counting how top (suc g) =
    let window : List MicroOp = span_window w g span ∷ [] in
    let bits : List MicroOp = count_bits w (span.base + g) counting w in
    quiet-append (count_rows w span counting g) (window ++ bits) (quiet-rows w span counting how top g)
    (quiet-append window bits (quiet-keep window refl) (quiet-bits w (span.base + g) counting how top w))

quiet-first : (w row : ℕ) (span : Span) (counting : Counting) → IsPlain counting.how → IsPlain counting.top → IsQuiet (count_first w row span counting)
quiet-first w row span counting how top =
    let window : List MicroOp = first_window w span ∷ [] in
    quiet-append window (count_bits w row counting w) (quiet-keep window refl) (quiet-bits w row counting how top w)

-- ---- the number in a row

quiet-spread : (w row : ℕ) → IsQuiet (spread_num w row)
unfolding spread_num
quiet-spread w row =
    let steps : List Step = clear w row ∷ [] in
    quiet-append (micros w steps) _ (quiet-steps w steps) (quiet-keep _ refl)

pub quiet-commit : (w : ℕ) (span : Span) (to : ℕ) → IsQuiet (commit_first w span to)
quiet-commit w span to =
    let window : List MicroOp = first_window w span ∷ [] in
    quiet-append window (micros w (commit w scalar_row to)) (quiet-keep window refl) (quiet-steps w (commit w scalar_row to))

-- ---- reductions that count

plain-how : (kind : Reduction) → IsPlain (counting_of kind).how
plain-how Redsum tags = refl
plain-how Redand tags = refl
plain-how Redor tags = refl
plain-how Redxor tags = refl
plain-how Wredsumu tags = refl
plain-how Wredsum tags = refl

plain-top : (kind : Reduction) → IsPlain (counting_of kind).top
plain-top Redsum tags = refl
plain-top Redand tags = refl
plain-top Redor tags = refl
plain-top Redxor tags = refl
plain-top Wredsumu tags = refl
plain-top Wredsum tags = refl

quiet-counts : (kind : Reduction) (w b : ℕ) (span : Span) → IsQuiet (reduction_counts_list kind w b span)
unfolding clips
quiet-counts kind w b span s =
    let group : List MicroOp = count_rows w span (counting_of kind) span.regs in
    let first : List MicroOp = count_first (width_of kind w) b span (first_counting_of kind) in
    quiet-append group first (quiet-rows w span (counting_of kind) (plain-how kind) (plain-top kind) span.regs)
    (quiet-first (width_of kind w) b span (first_counting_of kind) (plain-how kind) (plain-how kind)) _

-- ---- reductions that compare

quiet-begin : (w : ℕ) (src : ℕ → Source) (n : ℕ) → IsQuiet (begin_rows w src n)
unfolding begin_rows clips
quiet-begin w src zero s = refl
quiet-begin w src (suc i) s = quiet-append (begin_rows w src i) (begin_row w (src i) i) (quiet-begin w src i) (λ t. quiet-steps w _ _) s

plain-order : (b : Bool) → IsPlain (how_of b)
plain-order true tags = refl
plain-order false tags = refl

quiet-compare : (w : ℕ) (src : ℕ → Source) (start j n : ℕ) → IsQuiet (compare_rows w src start j n)
unfolding compare_rows
quiet-compare w src start j zero = quiet-none
quiet-compare w src start j (suc i) =
    quiet-append (compare_rows w src start j i) (count_bit w (cand i) ((src i).row) (not (bit_of start j)) (how_of (bit_of start j)) j) (quiet-compare w src start j i)
    (quiet-bit w (cand i) ((src i).row) (not (bit_of start j)) (how_of (bit_of start j)) j (plain-order (bit_of start j)))

quiet-stays : (w : ℕ) (src : ℕ → Source) (start j n : ℕ) → IsQuiet (stay_rows w src start j n)
unfolding stay_rows
quiet-stays w src start j zero = quiet-none
quiet-stays w src start j (suc i) =
    quiet-append (stay_rows w src start j i) (micros w (stay src start j i ∷ [])) (quiet-stays w src start j i) (quiet-steps w (stay src start j i ∷ []))

quiet-stays_to : (w n : ℕ) (src : ℕ → Source) (start j : ℕ) → IsQuiet (stays_to w n src start j)
unfolding stays_to
quiet-stays_to w n src start zero = quiet-none
quiet-stays_to w n src start (suc j) = quiet-stays w src start j n

quiet-order_bits : (w n : ℕ) (src : ℕ → Source) (start j : ℕ) → IsQuiet (order_bits w n src start j)
unfolding order_bits
quiet-order_bits w n src start zero = quiet-none
quiet-order_bits w n src start (suc j) =
    quiet-append (order_bit w n src start j) (order_bits w n src start j)
    (quiet-append (compare_rows w src start j n) (spread_num w free_row ++ stays_to w n src start j) (quiet-compare w src start j n)
    (quiet-append (spread_num w free_row) (stays_to w n src start j) (quiet-spread w free_row) (quiet-stays_to w n src start j)))
    (quiet-order_bits w n src start j)

quiet-order : (w n : ℕ) (src : ℕ → Source) (start : ℕ) → IsQuiet (order_list w n src start)
unfolding order_list clips
quiet-order w n src start s =
    quiet-append (begin_rows w src n) (order_bits w n src start w) (quiet-begin w src n) (quiet-order_bits w n src start w) _

-- ---- any reduction

pub quiet-folding : (folding : Folding) (w b : ℕ) (span : Span) → IsQuiet (folding_list folding w b span)
quiet-folding (Counted kind) w b span =
    quiet-append (reduction_counts_list kind w b span) (spread_num (result_bits (Counted kind) w) scalar_row) (quiet-counts kind w b span) (quiet-spread (result_bits (Counted kind) w) scalar_row)
quiet-folding (Ordered kind) w b span =
    let before : List MicroOp = order_list w (span.regs + 1) (sources span b) (orders.start_of kind w) in
    quiet-append before (spread_num w scalar_row) (quiet-order w (span.regs + 1) (sources span b) (orders.start_of kind w)) (quiet-spread w scalar_row)
