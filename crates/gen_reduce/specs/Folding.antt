-- What the lists of reductions that count bits compute: a fold by a step on numbers.
use Rattle.std.specs.Prelude.{ℕ, ◌+◌, ◌*◌, true, false, bit_and, bit_or, bit_xor, ◌++◌}
use Rattle.bit_laws.specs.Signed.{extended}
use Rattle.micro_ir.specs.WorkRows.{scalar_row}
use Rattle.row_views.specs.Lists.{spread_num}
use Rattle.row_counts.specs.declared.span.Span.{Span}
use Rattle.row_counts.specs.Folds.{Folds}
use Rattle.gen_reduce.specs.declared.kinds.Reduction.{Reduction}
use Rattle.gen_reduce.specs.declared.kinds.Reduction.TheVariants.{Redsum, Redand, Redor, Redxor, Wredsumu, Wredsum}
use Rattle.gen_reduce.specs.Kinds.{width_of, reduction_counts_list}

-- The step, on numbers of so many bits. Its value may have more; what reads the fold takes it at these.
abbrev pub step_of : Reduction → (wide a e : ℕ) → ℕ
step_of Redsum wide a e = a + e
step_of Redand wide a e = bit_and a e
step_of Redor wide a e = bit_or a e
step_of Redxor wide a e = bit_xor a e
step_of Wredsumu wide a e = a + e
step_of Wredsum wide a e = a + e

-- an element of w bits as a number of the bits of the result
abbrev pub extend_of : Reduction → (w e : ℕ) → ℕ
extend_of Redsum w e = e
extend_of Redand w e = e
extend_of Redor w e = e
extend_of Redxor w e = e
extend_of Wredsumu w e = extended false w (2 * w) e
extend_of Wredsum w e = extended true w (2 * w) e

-- What stands before the commit brings the fold of the group, from element 0 of row b on, into the scalar row.
abbrev pub FoldsAs : Reduction → (w b : ℕ) → Span → Type 0
FoldsAs kind w b span =
    Folds (step_of kind (width_of kind w)) (extend_of kind w) w (width_of kind w) b span
    (reduction_counts_list kind w b span ++ spread_num (width_of kind w) scalar_row)
