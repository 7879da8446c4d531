-- The lists of reductions that count the bits of elements: a row of the table of kinds makes each.
use Rattle.std.specs.Prelude.{ℕ, ◌+◌, ◌-◌, ◌*◌, ◌^◌, Bool, true, false, cond, List, ◌∷◌, ◌++◌}
use Rattle.cam_chain.specs.declared.counts.Counts.{Counts}
use Rattle.micro_ir.specs.declared.op.MicroOp.{MicroOp}
use Rattle.micro_ir.specs.declared.op.MicroOp.TheVariants.{SetNum}
use Rattle.micro_ir.specs.declared.place.Place.{Place}
use Rattle.micro_ir.specs.Measures.{counts}
use Rattle.reduce_tree.specs.declared.weights.How.{How}
use Rattle.reduce_tree.specs.declared.weights.How.TheVariants.{Sum, Less, Or, Clear, Xor}
use Rattle.row_counts.specs.declared.counts.Counting.{Counting}
use Rattle.row_counts.specs.declared.span.Span.{Span}
use Rattle.row_counts.specs.Lists.{count_rows, count_first, first_element}
use Rattle.gen_reduce.specs.declared.kinds.Reduction.{Reduction}
use Rattle.gen_reduce.specs.declared.kinds.Reduction.TheVariants.{Redsum, Redand, Redor, Redxor, Wredsumu, Wredsum}

abbrev pub counting : Bool → (how top : How) → Counting
counting wanted how top = record { wanted = wanted; how = how; top = top }

-- how the bits of the group are counted
abbrev pub counting_of : Reduction → Counting
counting_of Redsum = counting true Sum Sum
counting_of Redand = counting false Clear Clear
counting_of Redor = counting true Or Or
counting_of Redxor = counting true Xor Xor
counting_of Wredsumu = counting true Sum Sum
counting_of Wredsum = counting true Sum Less

-- and those of element 0, whose highest bit has the sign of the sum
abbrev pub first_counting_of : Reduction → Counting
first_counting_of kind = counting (counting_of kind).wanted (counting_of kind).how (counting_of kind).how

-- whether the result has twice the bits of an element of the group
abbrev pub is_wide : Reduction → Bool
is_wide Redsum = false
is_wide Redand = false
is_wide Redor = false
is_wide Redxor = false
is_wide Wredsumu = true
is_wide Wredsum = true

-- the bits of the result
abbrev pub width_of : Reduction → (w : ℕ) → ℕ
width_of kind w = cond (is_wide kind) (2 * w) w

-- the control number before the first count
abbrev pub start_of : Reduction → (w : ℕ) → ℕ
start_of Redsum w = 0
start_of Redand w = 2 ^ w - 1
start_of Redor w = 0
start_of Redxor w = 0
start_of Wredsumu w = 0
start_of Wredsum w = 0

-- what brings the number of a reduction into the control number: the counts of the group, and of element 0 of row b
abbrev pub reduction_counts_list : Reduction → (w b : ℕ) → Span → List MicroOp
reduction_counts_list kind w b span =
    SetNum (start_of kind w) ∷ (count_rows w span (counting_of kind) span.regs ++ count_first (width_of kind w) b span (first_counting_of kind))

-- the list of a reduction
abbrev pub reduction_ops : Reduction → (w : ℕ) → Place → Span → List MicroOp
reduction_ops kind w at span = reduction_counts_list kind w at.b span ++ first_element (width_of kind w) span at.to

-- its searches, updates and passes, and the number of its operations
abbrev pub reduction_counts : Reduction → (w : ℕ) → Span → Counts
reduction_counts kind w span = counts (span.regs * w + width_of kind w + 4) 4 0

abbrev pub reduction_length : Reduction → (w : ℕ) → Span → ℕ
reduction_length kind w span = span.regs * (2 * w + 1) + (2 * width_of kind w + 11)
