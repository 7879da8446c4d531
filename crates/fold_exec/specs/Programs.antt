-- The programs of the kinds, what their lists fold, and what they cost.
use Rattle.std.specs.Prelude.{ℕ, ◌+◌, ◌/◌, false, cond, not, min, List, [], ◌∷◌, ◌++◌}
use Rattle.bit_rows.specs.Slices.{Slices}
use Rattle.cam_chain.specs.ChainValue.{no_counts}
use Rattle.cam_chain.specs.declared.counts.Counts.{Counts}
use Rattle.gen_reduce.specs.Folding.{step_of as counted_step, extend_of as counted_extend}
use Rattle.gen_reduce.specs.Kinds.{reduction_counts_list, reduction_ops, reduction_counts, reduction_length}
use Rattle.gen_reduce.specs.Masks.{cpop_ops, first_ops, set_count, first_set}
use Rattle.legal_groups.specs.Facts.{group_count}
use Rattle.mask_window.specs.Operations.{active_operation, has_agnostic_tail}
use Rattle.micro_ir.specs.declared.op.MicroOp.{MicroOp}
use Rattle.micro_ir.specs.declared.op.MicroOp.TheVariants.{Free}
use Rattle.micro_ir.specs.declared.place.Place.{Place}
use Rattle.micro_ir.specs.Measures.{counts}
use Rattle.micro_ir.specs.Pieces.{fill_step}
use Rattle.micro_ir.specs.Replay.{counts_and}
use Rattle.micro_ir.specs.Steps.{micros}
use Rattle.micro_ir.specs.WorkRows.{scalar_row, free_row}
use Rattle.row_counts.specs.Costs.{Spends}
use Rattle.row_counts.specs.declared.span.Span.{Span}
use Rattle.row_counts.specs.Folds.{Folds}
use Rattle.row_counts.specs.Spans.{SpanFits}
use Rattle.row_orders.specs.Folds.{step_of as ordered_step}
use Rattle.row_orders.specs.Kinds.{start_of, order_list, order_ops, order_counts, order_length}
use Rattle.row_orders.specs.Lists.{sources}
use Rattle.row_views.specs.Lists.{spread_num}
use Rattle.rvv_decode.specs.declared.instruction.VInstr.{VInstr}
use Rattle.rvv_meaning.specs.Elementwise.{is_ones}
use Rattle.vtype_cfg.specs.declared.configuration.Cfg.{Cfg}
use Rattle.fold_exec.specs.declared.kinds.Folding.{Folding}
use Rattle.fold_exec.specs.declared.kinds.Folding.TheVariants.{Counted, Ordered}
use Rattle.fold_exec.specs.declared.kinds.Kind.{Kind}
use Rattle.fold_exec.specs.declared.kinds.Kind.TheVariants.{Number, Fold}
use Rattle.fold_exec.specs.declared.kinds.MaskNumber.{MaskNumber}
use Rattle.fold_exec.specs.declared.kinds.MaskNumber.TheVariants.{Count, First}
use Rattle.fold_exec.specs.Kinds.{result_bits}

-- a place with these rows
abbrev pub rows_at : (a b to : ℕ) → Place
rows_at a b to = record { a = a; b = b; addend = to; to = to; sub = false; mode = 0 }

-- ---- numbers of masks

-- the number of the active places of a row, and the list that makes it
abbrev pub number_of : MaskNumber → (row : ℕ) → Slices → ℕ
number_of Count row s = set_count row s
number_of First row s = first_set row s

abbrev pub number_list : MaskNumber → (row : ℕ) → List MicroOp
number_list Count row = cpop_ops row
number_list First row = first_ops row

-- the active places, and the list
abbrev pub number_program : MaskNumber → VInstr → Cfg → List MicroOp
number_program kind i c = active_operation c 1 0 (not i.vm) ∷ number_list kind i.vs2

-- ---- reductions

-- the group in vs2, and which of its elements are active
abbrev pub span_of : VInstr → Cfg → Span
span_of i c = record { base = i.vs2; regs = group_count c.vtype; per = c.vlen / c.vtype.sew; from = c.vstart; to = c.vl; masked = not i.vm }

-- The list of a reduction of elements of w bits; what stands in it before the commit; and what it costs, and how long it is.
abbrev pub folding_ops : Folding → (w : ℕ) → Place → Span → List MicroOp
folding_ops (Counted kind) w at span = reduction_ops kind w at span
folding_ops (Ordered kind) w at span = order_ops kind w at span

abbrev pub folding_list : Folding → (w b : ℕ) → Span → List MicroOp
folding_list (Counted kind) w b span = reduction_counts_list kind w b span ++ spread_num (result_bits (Counted kind) w) scalar_row
folding_list (Ordered kind) w b span = order_list w (span.regs + 1) (sources span b) (start_of kind w) ++ spread_num w scalar_row

abbrev pub folding_counts : Folding → (w : ℕ) → Span → Counts
folding_counts (Counted kind) w span = reduction_counts kind w span
folding_counts (Ordered kind) w span = order_counts w span

abbrev pub folding_length : Folding → (w : ℕ) → Span → ℕ
folding_length (Counted kind) w span = reduction_length kind w span
folding_length (Ordered kind) w span = order_length w span

-- the step on numbers of so many bits, and an element of w bits as such a number
abbrev pub folding_step : Folding → (wide a e : ℕ) → ℕ
folding_step (Counted kind) wide a e = counted_step kind wide a e
folding_step (Ordered kind) wide a e = ordered_step kind wide a e

abbrev pub folding_extend : Folding → (w e : ℕ) → ℕ
folding_extend (Counted kind) w e = counted_extend kind w e
folding_extend (Ordered kind) w e = e

-- What stands before the commit brings the fold into the scalar row.
abbrev pub FoldsTo : Folding → (w b : ℕ) → Span → Type 0
FoldsTo folding w b span =
    Folds (folding_step folding (result_bits folding w)) (folding_extend folding w) w (result_bits folding w) b span (folding_list folding w b span)

-- A chain can run the list where the group fits it.
abbrev pub SpendsFolding : Folding → (w : ℕ) → Place → Span → Type 0
SpendsFolding folding w at span = Spends (folding_counts folding w span) (folding_length folding w span) (λ columns. SpanFits w columns span) (folding_ops folding w at span)

-- ones into the other elements of the register, of so many bits, where agnostic elements become ones; what these cost, and how
-- many operations they are
abbrev pub rest_list : Cfg → (bits to : ℕ) → List MicroOp
rest_list c bits to =
    cond (is_ones c.policy) (Free free_row bits 0 c.vstart (min 1 c.vl) false (has_agnostic_tail c c.vtype.vta) false ∷ micros bits (fill_step bits to ∷ [])) []

abbrev pub rest_counts : Cfg → Counts
rest_counts c = cond (is_ones c.policy) (counts 1 1 0) no_counts

abbrev pub rest_length : Cfg → ℕ
rest_length c = cond (is_ones c.policy) 3 0

-- the list, and the rest of the register
abbrev pub folding_program : Folding → VInstr → Cfg → List MicroOp
folding_program folding i c = folding_ops folding c.vtype.sew (rows_at i.vs2 i.vs1 i.vd) (span_of i c) ++ rest_list c (result_bits folding c.vtype.sew) i.vd

-- ---- the program of an instruction

unfoldable pub fold_program : Kind → VInstr → Cfg → List MicroOp
fold_program (Number kind) i c = number_program kind i c
fold_program (Fold folding) i c = folding_program folding i c

-- its searches, updates and passes, and the number of its operations
unfoldable pub fold_cost : Kind → VInstr → Cfg → Counts
fold_cost (Number kind) i c = counts 1 0 0
fold_cost (Fold folding) i c = counts_and (folding_counts folding c.vtype.sew (span_of i c)) (rest_counts c)

unfoldable pub fold_length : Kind → VInstr → Cfg → ℕ
fold_length (Number kind) i c = 3
fold_length (Fold folding) i c = folding_length folding c.vtype.sew (span_of i c) + rest_length c
