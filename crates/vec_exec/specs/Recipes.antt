-- The recipes of operations: which lists compute them, what these lists are, and what they cost.
use Rattle.std.specs.Prelude.{◌≡◌, ◌+◌, ◌*◌, ℕ, Bool, true, false, List, ◌++◌, Option, Some, None}
use Rattle.cam_chain.specs.declared.counts.Counts.{Counts}
use Rattle.gen_arith.specs.Kinds.{sum_takes_mask, sum_value, sum_ops, sum_counts, sum_length, truth_takes_mask, truth_value, truth_ops, truth_counts, truth_length, choice_value, choice_ops, choice_counts, choice_length}
use Rattle.gen_arith.specs.declared.kinds.Sum.TheVariants.{Add, Sub, Adc, Sbc}
use Rattle.gen_arith.specs.declared.kinds.Truth.TheVariants.{Madc, MadcIn, Msbc, MsbcIn, Eq, Ne, Ltu, Lt, Leu, Le, Gtu, Gt}
use Rattle.gen_arith.specs.declared.kinds.Choice.TheVariants.{Minu, Min, Maxu, Max}
use Rattle.gen_div.specs.Kinds.{division_value, division_ops, division_counts, division_length}
use Rattle.gen_div.specs.Rows.{IsRowOf}
use Rattle.gen_div.specs.declared.kinds.Division.TheVariants.{Divu, Remu, Div, Rem}
use Rattle.gen_fixed.specs.Kinds.{average_value, average_ops, average_counts, average_length, saturating_value, saturating_clips, saturating_ops, saturating_counts, saturating_length, clip_ops, clip_counts, clip_length}
use Rattle.gen_fixed.specs.Laws.{clip_rows}
use Rattle.gen_fixed.specs.Lists.{clipped_row}
use Rattle.gen_fixed.specs.Values.{vnclipu, vnclipu_clips, vnclip, vnclip_clips}
use Rattle.gen_fixed.specs.declared.kinds.Average.TheVariants.{Avgu, Avg}
use Rattle.gen_fixed.specs.declared.kinds.Saturating.TheVariants.{Saddu, Sadd, Ssubu, Ssub}
use Rattle.gen_fixed.specs.declared.kinds.Clipping.{Clipping}
use Rattle.gen_fixed.specs.declared.kinds.Clipping.TheVariants.{Clipu, Clip}
use Rattle.gen_logic.specs.Recipes.{logic_ops, logic_counts, logic_length}
use Rattle.gen_logic.specs.Values.{takes_mask, value_of as logic_value}
use Rattle.gen_logic.specs.declared.kinds.Logic.TheVariants.{And, Or, Xor, Merge, First, Second}
use Rattle.gen_mul.specs.Fractions.{smul_value, smul_clips, smul_ops, smul_counts, smul_length}
use Rattle.gen_mul.specs.Kinds.{product_value, product_ops, product_counts, product_length}
use Rattle.gen_mul.specs.declared.kinds.Product.TheVariants.{Mul, Mulhu, Mulhsu, Mulh, Macc, Nmsac}
use Rattle.gen_shift.specs.Kinds.{shift_value, shift_ops, shift_counts, shift_length, raw_ops, raw_counts, raw_length, rounding_ops, rounding_counts, rounding_length, rounded_value, rounded_ops, rounded_counts, rounded_length}
use Rattle.gen_shift.specs.Rows.{shifted_row, rounded_row, shift_rows, rounding_rows}
use Rattle.gen_shift.specs.declared.kinds.Shift.{Shift}
use Rattle.gen_shift.specs.declared.kinds.Shift.TheVariants.{Sll, Srl, Sra}
use Rattle.micro_ir.specs.Kinds.{Realises, Tells}
use Rattle.micro_ir.specs.Measures.{counts}
use Rattle.micro_ir.specs.Pieces.{commit}
use Rattle.micro_ir.specs.Replay.{counts_and}
use Rattle.micro_ir.specs.Steps.{micros}
use Rattle.micro_ir.specs.WorkRows.{IsOperandRow, result_row}
use Rattle.micro_ir.specs.declared.op.MicroOp.{MicroOp}
use Rattle.micro_ir.specs.declared.place.Place.{Place}
use Rattle.row_views.specs.Clips.{ClipsWhere}
use Rattle.rvv_decode.specs.declared.instruction.OpiOp.TheVariants.{Vadd, Vsub, Vrsub, Vadc, Vsbc, Vmadc, Vmsbc, Vand, Vor, Vxor, Vsll, Vsrl, Vsra, Vmseq, Vmsne, Vmsltu, Vmslt, Vmsleu, Vmsle, Vmsgtu, Vmsgt, Vminu, Vmin, Vmaxu, Vmax, Vmerge, VmvV, Vnsrl, Vnsra, Vnclipu, Vnclip, Vsaddu, Vsadd, Vssubu, Vssub, Vsmul, Vssrl, Vssra}
use Rattle.rvv_decode.specs.declared.instruction.OpmOp.TheVariants.{Vdivu, Vdiv, Vremu, Vrem, Vmulhu, Vmul, Vmulhsu, Vmulh, Vmadd, Vnmsub, Vmacc, Vnmsac, VzextVf2, VzextVf4, VsextVf2, VsextVf4, Vwaddu, Vwadd, Vwsubu, Vwsub, VwadduW, VwaddW, VwsubuW, VwsubW, Vwmulu, Vwmulsu, Vwmul, Vwmaccu, Vwmacc, Vwmaccus, Vwmaccsu, Vaaddu, Vaadd, Vasubu, Vasub}
use Rattle.rvv_decode.specs.declared.instruction.VOp.{VOp}
use Rattle.rvv_decode.specs.declared.instruction.VOp.TheVariants.{Opi, Opm}
use Rattle.frame_meaning.specs.declared.Order.{Order}
use Rattle.frame_meaning.specs.declared.Order.TheVariants.{Straight, Reversed, Second as SecondAlone, Exchanged, Widening, WideSource, Half, Quarter}
use Rattle.rvv_meaning.specs.Operations.{log2}
use Rattle.vec_exec.specs.declared.recipes.Listed.{Listed}
use Rattle.vec_exec.specs.declared.recipes.Listed.TheVariants.{Bits, Sums, Truths, Choices, Shifts, Products, Fractions, Roundings, Averages, Saturations, Divisions, Copies, Halves, Clips}
use Rattle.vec_exec.specs.declared.recipes.Recipe.{Recipe}
use Rattle.vec_exec.specs.declared.recipes.Right.{Right}
use Rattle.vec_exec.specs.declared.recipes.Right.TheVariants.{Zeros, Sign}

-- one list, on operands that are as wide, or that are extended by zeros, and a signed immediate
abbrev pub of_two : Listed → Recipe
of_two list = record { plain = list; masked = list; takes_mask = false; order = Straight; signs = record { a = false; b = false; immediate = true } }

-- the same where an immediate has no sign
abbrev pub of_unsigned : Listed → Recipe
of_unsigned list = record (of_two list) { signs = record { a = false; b = false; immediate = false } }

-- two lists, of which the second takes the mask as an operand
abbrev pub with_mask : Listed → Listed → Recipe
with_mask plain masked = record (of_two plain) { masked = masked; takes_mask = true }

-- a list that takes the operands in another order, or at other widths
abbrev pub ordered : Listed → Order → Recipe
ordered list order = record (of_two list) { order = order }

-- the same, where narrower operands are extended by their sign
abbrev pub on_signed : Listed → Order → Recipe
on_signed list order = record (ordered list order) { signs = record { a = true; b = true; immediate = true } }

-- a recipe of wide results, where narrower operands are extended by their sign as is said of each
abbrev pub widened : Listed → (a b : Bool) → Recipe
widened list a b = record (ordered list Widening) { signs = record { a = a; b = b; immediate = true } }

-- the recipe of each operation on elements at the same place
unfoldable pub recipe_for : VOp → Option Recipe
recipe_for (Opi Vadd) = Some (of_two (Sums Add))
recipe_for (Opi Vsub) = Some (of_two (Sums Sub))
recipe_for (Opi Vrsub) = Some (ordered (Sums Sub) Reversed)
recipe_for (Opi Vadc) = Some (with_mask (Sums Add) (Sums Adc))
recipe_for (Opi Vsbc) = Some (with_mask (Sums Sub) (Sums Sbc))
recipe_for (Opi Vmadc) = Some (with_mask (Truths Madc) (Truths MadcIn))
recipe_for (Opi Vmsbc) = Some (with_mask (Truths Msbc) (Truths MsbcIn))
recipe_for (Opi Vand) = Some (of_two (Bits And))
recipe_for (Opi Vor) = Some (of_two (Bits Or))
recipe_for (Opi Vxor) = Some (of_two (Bits Xor))
recipe_for (Opi Vsll) = Some (of_unsigned (Shifts Sll))
recipe_for (Opi Vsrl) = Some (of_unsigned (Shifts Srl))
recipe_for (Opi Vsra) = Some (of_unsigned (Shifts Sra))
recipe_for (Opi Vmseq) = Some (of_two (Truths Eq))
recipe_for (Opi Vmsne) = Some (of_two (Truths Ne))
recipe_for (Opi Vmsltu) = Some (of_two (Truths Ltu))
recipe_for (Opi Vmslt) = Some (of_two (Truths Lt))
recipe_for (Opi Vmsleu) = Some (of_two (Truths Leu))
recipe_for (Opi Vmsle) = Some (of_two (Truths Le))
recipe_for (Opi Vmsgtu) = Some (of_two (Truths Gtu))
recipe_for (Opi Vmsgt) = Some (of_two (Truths Gt))
recipe_for (Opi Vminu) = Some (of_two (Choices Minu))
recipe_for (Opi Vmin) = Some (of_two (Choices Min))
recipe_for (Opi Vmaxu) = Some (of_two (Choices Maxu))
recipe_for (Opi Vmax) = Some (of_two (Choices Max))
recipe_for (Opi Vmerge) = Some (with_mask (Bits First) (Bits Merge))
recipe_for (Opi VmvV) = Some (ordered (Bits Second) SecondAlone)
recipe_for (Opm Vmul) = Some (of_two (Products Mul))
recipe_for (Opm Vmulh) = Some (of_two (Products Mulh))
recipe_for (Opm Vmulhu) = Some (of_two (Products Mulhu))
recipe_for (Opm Vmulhsu) = Some (of_two (Products Mulhsu))
recipe_for (Opm Vdivu) = Some (of_two (Divisions Divu))
recipe_for (Opm Vdiv) = Some (of_two (Divisions Div))
recipe_for (Opm Vremu) = Some (of_two (Divisions Remu))
recipe_for (Opm Vrem) = Some (of_two (Divisions Rem))
recipe_for (Opm Vmacc) = Some (of_two (Products Macc))
recipe_for (Opm Vnmsac) = Some (of_two (Products Nmsac))
recipe_for (Opm Vmadd) = Some (ordered (Products Macc) Exchanged)
recipe_for (Opm Vnmsub) = Some (ordered (Products Nmsac) Exchanged)
recipe_for (Opi Vnsrl) = Some (of_unsigned (Halves Srl))
recipe_for (Opi Vnsra) = Some (of_unsigned (Halves Sra))
recipe_for (Opi Vnclipu) = Some (of_unsigned (Clips Clipu))
recipe_for (Opi Vnclip) = Some (of_unsigned (Clips Clip))
recipe_for (Opi Vsmul) = Some (of_two Fractions)
recipe_for (Opi Vssrl) = Some (of_unsigned (Roundings Zeros))
recipe_for (Opi Vssra) = Some (of_unsigned (Roundings Sign))
recipe_for (Opi Vsaddu) = Some (of_two (Saturations Saddu))
recipe_for (Opi Vsadd) = Some (of_two (Saturations Sadd))
recipe_for (Opi Vssubu) = Some (of_two (Saturations Ssubu))
recipe_for (Opi Vssub) = Some (of_two (Saturations Ssub))
recipe_for (Opm Vaaddu) = Some (of_two (Averages Avgu false))
recipe_for (Opm Vaadd) = Some (of_two (Averages Avg false))
recipe_for (Opm Vasubu) = Some (of_two (Averages Avgu true))
recipe_for (Opm Vasub) = Some (of_two (Averages Avg true))
recipe_for (Opm VzextVf2) = Some (ordered Copies Half)
recipe_for (Opm VzextVf4) = Some (ordered Copies Quarter)
recipe_for (Opm VsextVf2) = Some (on_signed Copies Half)
recipe_for (Opm VsextVf4) = Some (on_signed Copies Quarter)
recipe_for (Opm Vwaddu) = Some (ordered (Sums Add) Widening)
recipe_for (Opm Vwadd) = Some (on_signed (Sums Add) Widening)
recipe_for (Opm Vwsubu) = Some (ordered (Sums Sub) Widening)
recipe_for (Opm Vwsub) = Some (on_signed (Sums Sub) Widening)
recipe_for (Opm Vwmulu) = Some (ordered (Products Mul) Widening)
recipe_for (Opm Vwmulsu) = Some (widened (Products Mul) true false)
recipe_for (Opm Vwmul) = Some (on_signed (Products Mul) Widening)
recipe_for (Opm Vwmaccu) = Some (ordered (Products Macc) Widening)
recipe_for (Opm Vwmacc) = Some (on_signed (Products Macc) Widening)
recipe_for (Opm Vwmaccus) = Some (widened (Products Macc) true false)
recipe_for (Opm Vwmaccsu) = Some (widened (Products Macc) false true)
recipe_for (Opm VwadduW) = Some (ordered (Sums Add) WideSource)
recipe_for (Opm VwaddW) = Some (on_signed (Sums Add) WideSource)
recipe_for (Opm VwsubuW) = Some (ordered (Sums Sub) WideSource)
recipe_for (Opm VwsubW) = Some (on_signed (Sums Sub) WideSource)
recipe_for _ = None

-- ---- lists

-- what moves a number to the right
abbrev pub shift_of : Right → Shift
shift_of Zeros = Srl
shift_of Sign = Sra

-- what comes in where a number is moved that is then clipped
abbrev pub moved_in : Clipping → Right
moved_in Clipu = Zeros
moved_in Clip = Sign

-- the list tells a truth of each element, and so makes the bits of a mask
abbrev pub makes_bits : Listed → Bool
makes_bits (Bits kind) = false
makes_bits (Sums kind) = false
makes_bits (Truths kind) = true
makes_bits (Choices kind) = false
makes_bits (Shifts kind) = false
makes_bits (Products kind) = false
makes_bits Fractions = false
makes_bits (Saturations kind) = false
makes_bits (Averages kind sub) = false
makes_bits (Roundings right) = false
makes_bits (Divisions kind) = false
makes_bits Copies = false
makes_bits (Halves kind) = false
makes_bits (Clips kind) = false

-- the list computes the elements of one half of a register at a time, at twice their width
abbrev pub makes_halves : Listed → Bool
makes_halves (Halves kind) = true
makes_halves (Clips kind) = true
makes_halves _ = false

-- the list takes the mask as an operand
abbrev pub takes_row : Listed → Bool
takes_row (Bits kind) = takes_mask kind
takes_row (Sums kind) = sum_takes_mask kind
takes_row (Truths kind) = truth_takes_mask kind
takes_row (Choices kind) = false
takes_row (Shifts kind) = false
takes_row (Products kind) = false
takes_row Fractions = false
takes_row (Saturations kind) = false
takes_row (Averages kind sub) = false
takes_row (Roundings right) = false
takes_row (Divisions kind) = false
takes_row Copies = false
takes_row (Halves kind) = false
takes_row (Clips kind) = false

-- the list takes an operand that is laid out in the row of results
abbrev pub takes_laid : Listed → Bool
takes_laid Copies = true
takes_laid _ = false

-- the list needs the rows of wide operands for itself
abbrev pub uses_wide_rows : Listed → Bool
uses_wide_rows (Divisions kind) = true
uses_wide_rows _ = false

-- the rows that the two operands of a list may have
abbrev pub FitsRows : Listed → (a b : ℕ) → Type 0
FitsRows Copies a b = (a ≡ result_row) × IsOperandRow b
FitsRows (Divisions kind) a b = IsRowOf kind a × IsRowOf kind b
FitsRows _ a b = IsOperandRow a × IsOperandRow b

-- a place of these rows, with a rounding mode
abbrev pub rows : (mode a b d to : ℕ) → Place
rows mode a b d to = record { a = a; b = b; addend = d; to = to; sub = false; mode = mode }

-- the list at w bits under a rounding mode, from the rows of its operands a, b and d and the register that it writes
unfoldable pub list_of : Listed → (w mode a b d to : ℕ) → List MicroOp
list_of (Bits kind) w mode a b d to = logic_ops kind w (rows mode a b d to)
list_of (Sums kind) w mode a b d to = sum_ops kind w (rows mode a b d to)
list_of (Truths kind) w mode a b d to = truth_ops kind w (rows mode a b d to)
list_of (Choices kind) w mode a b d to = choice_ops kind w (rows mode a b d to)
list_of (Shifts kind) w mode a b d to = shift_ops kind w (log2 w) (rows mode a b d to)
list_of (Products kind) w mode a b d to = product_ops kind w (rows mode a b d to)
list_of Fractions w mode a b d to = smul_ops w (rows mode a b d to)
list_of (Saturations kind) w mode a b d to = saturating_ops kind w (rows mode a b d to)
list_of (Averages kind sub) w mode a b d to = average_ops kind w (record (rows mode a b d to) { sub = sub })
list_of (Roundings right) w mode a b d to = rounded_ops (shift_of right) w (log2 w) (rows mode a b d to)
list_of (Divisions kind) w mode a b d to = division_ops kind w (rows mode a b d to)
list_of Copies w mode a b d to = micros w (commit w a to)
list_of (Halves kind) w mode a b d to = raw_ops kind (2 * w) (log2 (2 * w)) (rows mode a b d to)
list_of (Clips kind) w mode a b d to =
    rounding_ops (shift_of (moved_in kind)) (2 * w) (log2 (2 * w)) (rows mode a b d to) ++ clip_ops kind w (rounded_row mode (log2 (2 * w)))

-- the same, from the rows of a place
abbrev pub list_at : Listed → (w : ℕ) → Place → List MicroOp
list_at list w at = list_of list w at.mode at.a at.b at.addend at.to

-- The row where a list leaves what it computes that works at twice the width, 2^l bits, and the rows that it writes.
abbrev pub value_row : Listed → (l : ℕ) → ℕ
value_row (Clips kind) l = clipped_row
value_row _ l = shifted_row l

abbrev pub written_rows : Listed → List ℕ
written_rows (Clips kind) = rounding_rows ++ clip_rows
written_rows _ = shift_rows

-- its value, from the rounding mode, the numbers of its operands and the mask bit
abbrev pub value_of : Listed → (w mode a b d : ℕ) → Bool → ℕ
value_of (Bits kind) w mode a b d m = logic_value kind w a b m
value_of (Sums kind) w mode a b d m = sum_value kind w a b m
value_of (Truths kind) w mode a b d m = 0
value_of (Choices kind) w mode a b d m = choice_value kind w a b
value_of (Shifts kind) w mode a b d m = shift_value kind w (log2 w) a b
value_of (Products kind) w mode a b d m = product_value kind w a b d
value_of Fractions w mode a b d m = smul_value mode w a b
value_of (Saturations kind) w mode a b d m = saturating_value kind w mode a b
value_of (Averages kind sub) w mode a b d m = average_value kind sub w mode a b
value_of (Roundings right) w mode a b d m = rounded_value (shift_of right) mode w (log2 w) a b
value_of (Divisions kind) w mode a b d m = division_value kind w a b
value_of Copies w mode a b d m = a
value_of (Halves kind) w mode a b d m = shift_value kind (2 * w) (log2 (2 * w)) a b
value_of (Clips Clipu) w mode a b d m = vnclipu w mode a b
value_of (Clips Clip) w mode a b d m = vnclip w mode a b

-- the truth that it tells
abbrev pub truth_of : Listed → (w a b : ℕ) → Bool → Bool
truth_of (Truths kind) w a b m = truth_value kind w a b m
truth_of _ w a b m = false

-- it tells which of its results are clipped, and so sets the flag
abbrev pub tells_clips : Listed → Bool
tells_clips (Bits kind) = false
tells_clips (Sums kind) = false
tells_clips (Truths kind) = false
tells_clips (Choices kind) = false
tells_clips (Shifts kind) = false
tells_clips (Products kind) = false
tells_clips Fractions = true
tells_clips (Saturations kind) = true
tells_clips (Averages kind sub) = false
tells_clips (Roundings right) = false
tells_clips (Divisions kind) = false
tells_clips Copies = false
tells_clips (Halves kind) = false
tells_clips (Clips kind) = true

-- whether a result is clipped
abbrev pub clips_of : Listed → (w mode a b d : ℕ) → Bool
clips_of Fractions w mode a b d = smul_clips mode w a b
clips_of (Saturations kind) w mode a b d = saturating_clips kind w mode a b
clips_of (Clips Clipu) w mode a b d = vnclipu_clips w mode a b
clips_of (Clips Clip) w mode a b d = vnclip_clips w mode a b
clips_of _ w mode a b d = false

-- its searches, updates and passes
unfoldable pub counts_of : Listed → (w mode : ℕ) → Counts
counts_of (Bits kind) w mode = logic_counts kind
counts_of (Sums kind) w mode = sum_counts kind w
counts_of (Truths kind) w mode = truth_counts kind w
counts_of (Choices kind) w mode = choice_counts w
counts_of (Shifts kind) w mode = shift_counts kind w (log2 w)
counts_of (Products kind) w mode = product_counts kind w
counts_of Fractions w mode = smul_counts mode w
counts_of (Saturations kind) w mode = saturating_counts kind w
counts_of (Averages kind sub) w mode = average_counts mode w
counts_of (Roundings right) w mode = rounded_counts (shift_of right) mode w (log2 w)
counts_of (Divisions kind) w mode = division_counts kind w
counts_of Copies w mode = counts 2 2 0
counts_of (Halves kind) w mode = raw_counts kind (2 * w) (log2 (2 * w))
counts_of (Clips kind) w mode = counts_and (rounding_counts (shift_of (moved_in kind)) mode (2 * w) (log2 (2 * w))) (clip_counts kind w)

-- the number of its operations
unfoldable pub length_of : Listed → (w mode : ℕ) → ℕ
length_of (Bits kind) w mode = logic_length kind
length_of (Sums kind) w mode = sum_length kind w
length_of (Truths kind) w mode = truth_length kind w
length_of (Choices kind) w mode = choice_length w
length_of (Shifts kind) w mode = shift_length kind w (log2 w)
length_of (Products kind) w mode = product_length kind w
length_of Fractions w mode = smul_length mode w
length_of (Saturations kind) w mode = saturating_length kind w
length_of (Averages kind sub) w mode = average_length mode w
length_of (Roundings right) w mode = rounded_length (shift_of right) mode w (log2 w)
length_of (Divisions kind) w mode = division_length kind w
length_of Copies w mode = 4
length_of (Halves kind) w mode = raw_length kind (2 * w) (log2 (2 * w))
length_of (Clips kind) w mode = rounding_length (shift_of (moved_in kind)) mode (2 * w) (log2 (2 * w)) + clip_length kind w

-- ---- what a list computes

-- a list of elements, or of truths, that takes the mask as an operand or not
abbrev pub computes_as : (bits masked : Bool) → (w to : ℕ) → (value : (ℕ → ℕ) → Bool → ℕ) → (truth : (ℕ → ℕ) → Bool → Bool) → List MicroOp → Type 0
computes_as false masked w to value truth ops = Realises w to masked value ops
computes_as true masked w to value truth ops = Tells w masked truth ops

-- The list computes its value, or tells its truth, from operands in these rows.
unfoldable pub Computes : Listed → (w mode a b d to : ℕ) → Type 0
Computes list w mode a b d to =
    computes_as (makes_bits list) (takes_row list) w to (λ n m. value_of list w mode (n a) (n b) (n d) m) (λ n m. truth_of list w (n a) (n b) m)
    (list_of list w mode a b d to)

-- what a list that tells clips does besides
abbrev pub tells_as : (tells : Bool) → (w : ℕ) → (clipped : (ℕ → ℕ) → Bool) → List MicroOp → Type 0
tells_as false w clipped ops = Unit {0}
tells_as true w clipped ops = ClipsWhere w clipped ops

-- The list sets the flag where an active element is clipped, if it tells clips.
unfoldable pub TellsClips : Listed → (w mode a b d to : ℕ) → Type 0
TellsClips list w mode a b d to = tells_as (tells_clips list) w (λ n. clips_of list w mode (n a) (n b) (n d)) (list_of list w mode a b d to)
