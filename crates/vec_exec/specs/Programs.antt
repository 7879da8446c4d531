-- The program of an instruction, what it costs, and when a list realises an instruction.
use Rattle.std.specs.Prelude.{◌≡◌, ◌<◌, ◌≤◌, ℕ, zero, suc, ◌+◌, ◌-◌, ◌*◌, ◌/◌, Bool, true, false, cond, ◌&&◌, not, List, [], ◌∷◌, ◌++◌}
use Rattle.std.specs.Option.{option_map_or}
use Rattle.cam_chain.specs.ChainValue.{no_counts}
use Rattle.cam_chain.specs.declared.counts.Counts.{Counts}
use Rattle.frame_laws.specs.Classes.Halved.{Pair, Lists, LeavesLow, LeavesFlag, halves_row, halves_list, half_list, flag_test}
use Rattle.frame_laws.specs.Classes.Operands.{Operand, group, scalar, narrow, row_of, laid_out}
use Rattle.frame_laws.specs.Classes.Plain.{Operands, with_operands}
use Rattle.frame_laws.specs.Costs.{counts_times}
use Rattle.frame_meaning.specs.Costs.{cost_of}
use Rattle.frame_meaning.specs.Masks.{compare_cost_of, compare_operands}
use Rattle.frame_meaning.specs.Halves.{half_count, half_operands, half_scalar}
use Rattle.frame_meaning.specs.Shapes.{has_scalar, scalar_of, width_in, count_in, operands_in}
use Rattle.gen_fixed.specs.Lists.{overflow_row}
use Rattle.legal_groups.specs.Facts.{IsElementWidth, registers_for, group_count}
use Rattle.mask_window.specs.Operations.{active_operation, free_operation}
use Rattle.micro_ir.specs.Measures.{counts, Measured}
use Rattle.micro_ir.specs.Pieces.{splat, fill_step, commit}
use Rattle.micro_ir.specs.Steps.{micros}
use Rattle.micro_ir.specs.WorkRows.{IsOperandRow, active_row, mask_row, truth_row}
use Rattle.micro_ir.specs.declared.op.MicroOp.{MicroOp}
use Rattle.micro_ir.specs.declared.op.MicroOp.TheVariants.{Window, PackMask, Narrow}
use Rattle.micro_ir.specs.Replay.{counts_and}
use Rattle.row_views.specs.Clips.{clip_test}
use Rattle.rvv_decode.specs.declared.instruction.OpiOp.{OpiOp}
use Rattle.rvv_decode.specs.declared.instruction.OpiOp.TheVariants.{Vrgather, Vrgatherei16}
use Rattle.rvv_decode.specs.declared.instruction.OpmOp.{OpmOp}
use Rattle.rvv_decode.specs.declared.instruction.OpmOp.TheVariants.{VmvXS, Vcompress, Viota}
use Rattle.rvv_decode.specs.declared.instruction.Form.{Form}
use Rattle.rvv_decode.specs.declared.instruction.Form.TheVariants.{V, X, I}
use Rattle.rvv_decode.specs.declared.instruction.VInstr.{VInstr}
use Rattle.rvv_decode.specs.declared.instruction.VOp.{VOp}
use Rattle.rvv_decode.specs.declared.instruction.VOp.TheVariants.{Opi, Opm, Config, Memory}
use Rattle.steer_net.specs.Moves.{is_wide}
use Rattle.vtype_cfg.specs.declared.configuration.Cfg.{Cfg}
use Rattle.rvv_meaning.specs.Elementwise.{is_ones}
use Rattle.rvv_meaning.specs.Operations.{log2}
use Rattle.vec_exec.specs.declared.recipes.Listed.{Listed}
use Rattle.vec_exec.specs.declared.recipes.Recipe.{Recipe}
use Rattle.fold_exec.specs.Kinds.{kind_for as fold_for}
use Rattle.fold_exec.specs.Programs.{fold_program, fold_cost}
use Rattle.move_exec.specs.Kinds.{kind_for}
use Rattle.move_exec.specs.Programs.{move_program, move_cost}
use Rattle.vec_exec.specs.Recipes.{recipe_for, makes_bits, makes_halves, list_of, value_row, written_rows, value_of, tells_clips, clips_of, counts_of, length_of, FitsRows, Computes, TellsClips}

-- whether an instruction is carried out by a program: not a gather by a vector of indices, a compression, an iota, a move
-- to a scalar register, a configuration, a load or a store
abbrev pub gathers_by : Form → Bool
gathers_by V = false
gathers_by X = true
gathers_by I = true

abbrev pub is_opi_engine : OpiOp → Form → Bool
is_opi_engine Vrgather form = gathers_by form
is_opi_engine Vrgatherei16 form = false
is_opi_engine _ form = true

abbrev pub is_opm_engine : OpmOp → Bool
is_opm_engine VmvXS = false
is_opm_engine Vcompress = false
is_opm_engine Viota = false
is_opm_engine _ = true

abbrev pub is_engine_op : VOp → Form → Bool
is_engine_op (Opi op) form = is_opi_engine op form
is_engine_op (Opm op) form = is_opm_engine op
is_engine_op (Config op) form = false
is_engine_op (Memory op) form = false

unfoldable pub is_engine : VInstr → Bool
is_engine i = is_engine_op i.op i.form

-- whether the mask is an operand of an instruction with this recipe, and whether it leaves elements out
abbrev pub reads : Recipe → VInstr → Bool
reads r i = r.takes_mask && not i.vm

abbrev pub masked : Recipe → VInstr → Bool
masked r i = not r.takes_mask && not i.vm

-- the list that the instruction takes
abbrev pub list_for : Recipe → VInstr → Listed
list_for r i = cond (reads r i) r.masked r.plain

-- ---- operands

-- the width of the elements of the destination, and how many registers it takes
abbrev pub width_of : Recipe → Cfg → ℕ
width_of r c = width_in r.order c.vtype.sew

abbrev pub count_of : Recipe → Cfg → ℕ
count_of r c = count_in r.order c.vtype

-- the operands as the list takes them, and those of the halves of a register
abbrev pub operands_of : Recipe → VInstr → Cfg → Operands
operands_of r i c = operands_in r.order r.signs i c.vtype.sew

abbrev pub halves_of : Recipe → VInstr → Cfg → Pair
halves_of r i c = half_operands i c.vtype.sew

-- the searches, updates and passes that lay an operand out at w bits, and the number of these operations
abbrev pub laid_counts : Operand → (w : ℕ) → Counts
laid_counts (group r) w = no_counts
laid_counts scalar w = no_counts
laid_counts (narrow signed by n r row) w = cond signed (counts (w - n) (w - n) (w - n)) no_counts

abbrev pub laid_length : Operand → (w : ℕ) → ℕ
laid_length (group r) w = 0
laid_length scalar w = 0
laid_length (narrow signed by n r row) w = 1 + cond signed (3 * (w - n)) 0

-- what the operations cost that lay out an operand for register g
abbrev pub IsLaid : Operand → (w g : ℕ) → Type 0
IsLaid op w g = Measured (laid_counts op w) (laid_length op w) (laid_out op w g)

-- ---- the parts of a program

-- where a list tells which results are clipped: the low halves of what it tells, and the test of a register; how many
-- operations these are, and what the test costs
abbrev pub flags_list : Listed → (wide part : ℕ) → List MicroOp
flags_list list wide part = cond (tells_clips list) (Narrow overflow_row truth_row wide part ∷ []) []

abbrev pub flags_length : Listed → ℕ
flags_length list = cond (tells_clips list) 1 0

abbrev pub test_list : Listed → (w : ℕ) → List MicroOp
test_list list w = cond (tells_clips list) (clip_test w truth_row) []

abbrev pub test_length : Listed → ℕ
test_length list = cond (tells_clips list) 2 0

abbrev pub test_counts : Listed → Counts
test_counts list = cond (tells_clips list) (counts 1 0 0) no_counts

-- the operations that put a number into the scalar's row, at a width, where there is a scalar
abbrev pub scalar_list : VInstr → (width x : ℕ) → List MicroOp
scalar_list i width x = cond (has_scalar i.form) (micros width (splat width x)) []

-- the operations that mark the elements of a register, and lay out their mask bits where the mask is an operand
abbrev pub window_list : Cfg → (width : ℕ) → (reads masked : Bool) → (first : ℕ) → List MicroOp
window_list c width reads masked first =
    active_operation c width first masked ∷ cond reads (Window mask_row width first c.vstart c.vl true ∷ []) []

-- ones into the agnostic elements of a register, where agnostic elements become ones
abbrev pub fill_list : Cfg → (width first : ℕ) → (masked : Bool) → (to : ℕ) → List MicroOp
fill_list c width first masked to =
    cond (is_ones c.policy) (free_operation c width first masked c.vtype.vta ∷ micros width (fill_step width to ∷ [])) []

-- the operation that marks the free bits of a mask, with the first register alone; and how many there are
abbrev pub free_bits : Cfg → (masked : Bool) → (g : ℕ) → List MicroOp
free_bits c masked zero = cond (is_ones c.policy) (free_operation c 1 0 masked true ∷ []) []
free_bits c _ (suc g) = []

abbrev pub free_count : (ones : Bool) → (g : ℕ) → ℕ
free_count ones zero = cond ones 1 0
free_count ones (suc g) = 0

-- ones into the free bits of a mask, where agnostic elements become ones
abbrev pub mask_fill_list : Cfg → (to : ℕ) → List MicroOp
mask_fill_list c to = cond (is_ones c.policy) (micros c.vtype.sew (fill_step c.vtype.sew to ∷ [])) []

-- ---- the program

-- the list of register g of the destination, that of register g of the operands of a mask, and that of register q of the
-- operand of which each register has the elements of a half
abbrev pub kind_list : Recipe → VInstr → Cfg → (g : ℕ) → List MicroOp
kind_list r i c g =
    list_of (list_for r i) (width_of r c) c.vxrm (row_of (operands_of r i c).a g) (row_of (operands_of r i c).b g) ((operands_of r i c).addend + g) (i.vd + g)

abbrev pub truth_list : Recipe → VInstr → Cfg → (g : ℕ) → List MicroOp
truth_list r i c g = list_of (list_for r i) c.vtype.sew 0 (row_of (compare_operands i).a g) (row_of (compare_operands i).b g) i.vd i.vd

abbrev pub wide_list : Recipe → VInstr → Cfg → (q : ℕ) → List MicroOp
wide_list r i c q = list_of (list_for r i) c.vtype.sew c.vxrm ((halves_of r i c).a + q) (row_of (halves_of r i c).b q) i.vd i.vd

module _ (r : Recipe) (i : VInstr) (c : Cfg) where
  -- the first element of register g of a group
  abbrev pub first_in : (width g : ℕ) → ℕ
  first_in width g = g * (c.vlen / width)

  -- the kind's list with what lays its operands out; what it costs, and how long it is
  abbrev pub body_list : (g : ℕ) → List MicroOp
  body_list g = with_operands (width_of r c) (operands_of r i c) (kind_list r i c) g

  abbrev pub body_counts : Counts
  body_counts = counts_and (laid_counts (operands_of r i c).a (width_of r c)) (counts_and (laid_counts (operands_of r i c).b (width_of r c)) (counts_of (list_for r i) (width_of r c) c.vxrm))

  abbrev pub body_length : ℕ
  body_length = laid_length (operands_of r i c).a (width_of r c) + (laid_length (operands_of r i c).b (width_of r c) + length_of (list_for r i) (width_of r c) c.vxrm)

  -- the operations on register g of the destination: those that mark its elements, the kind's, and the fill
  unfoldable pub register_list : (g : ℕ) → List MicroOp
  register_list g =
      window_list c (width_of r c) (reads r i) (masked r i) (first_in (width_of r c) g)
      ++ (body_list g
      ++ fill_list c (width_of r c) (first_in (width_of r c) g) (masked r i) (i.vd + g))

  -- how many these are
  abbrev pub register_length : ℕ
  register_length = 1 + cond (reads r i) 1 0 + cond (is_ones c.policy) 3 0 + body_length

  -- the operations on the first registers of the destination
  unfoldable pub registers_list : (count : ℕ) → List MicroOp
  registers_list zero = []
  registers_list (suc g) = registers_list g ++ register_list g

  -- the operations on register g of the operands of a mask: those that mark its elements, the kind's, the free bits, and the
  -- one that packs the truths
  unfoldable pub mask_register_list : (g : ℕ) → List MicroOp
  mask_register_list g =
      window_list c c.vtype.sew (reads r i) (masked r i) (first_in c.vtype.sew g)
      ++ (truth_list r i c g
      ++ (free_bits c (masked r i) g ++ PackMask truth_row active_row i.vd c.vtype.sew (first_in c.vtype.sew g) ∷ []))

  -- how many these are, but for the free bits
  abbrev pub mask_register_length : ℕ
  mask_register_length = 2 + cond (reads r i) 1 0 + length_of (list_for r i) c.vtype.sew 0

  unfoldable pub mask_registers_list : (count : ℕ) → List MicroOp
  mask_registers_list zero = []
  mask_registers_list (suc g) = mask_registers_list g ++ mask_register_list g

  -- the lists of the halves of a register, the row where each leaves what it computes, and the row where it tells what is
  -- clipped, where it does
  abbrev pub wide_lists : Lists
  wide_lists = record { row = value_row (list_for r i) (log2 (2 * c.vtype.sew)); body = wide_list r i c; clips = tells_clips (list_for r i); flag = overflow_row }

  -- the operations on register g of a destination that is half as wide as its first operand: those that mark its elements,
  -- those on its halves, the test of what is clipped, the commit, and the fill
  abbrev pub half_list_of : (g : ℕ) → List MicroOp
  half_list_of g =
      halves_list c.vtype.sew (halves_of r i c) wide_lists g (half_count c.vtype)
      ++ (flag_test c.vtype.sew wide_lists ++ micros c.vtype.sew (commit c.vtype.sew halves_row (i.vd + g)))

  unfoldable pub half_register_list : (g : ℕ) → List MicroOp
  half_register_list g =
      window_list c c.vtype.sew (reads r i) (masked r i) (first_in c.vtype.sew g)
      ++ (half_list_of g
      ++ fill_list c c.vtype.sew (first_in c.vtype.sew g) (masked r i) (i.vd + g))

  -- what one half costs, and how many operations it has; and a register
  abbrev pub one_half_counts : Counts
  one_half_counts = counts_and (laid_counts (halves_of r i c).b (2 * c.vtype.sew)) (counts_of (list_for r i) c.vtype.sew c.vxrm)

  abbrev pub one_half_length : ℕ
  one_half_length = laid_length (halves_of r i c).b (2 * c.vtype.sew) + (length_of (list_for r i) c.vtype.sew c.vxrm + (1 + flags_length (list_for r i)))

  -- what half h of register g costs, and the first n halves
  abbrev pub IsHalfMeasured : (g h : ℕ) → Type 0
  IsHalfMeasured g h = Measured one_half_counts one_half_length (half_list c.vtype.sew (halves_of r i c) wide_lists g h)

  abbrev pub AreHalvesMeasured : (g n : ℕ) → Type 0
  AreHalvesMeasured g n =
      Measured (counts_times n one_half_counts) (n * one_half_length) (halves_list c.vtype.sew (halves_of r i c) wide_lists g n)

  abbrev pub half_counts : Counts
  half_counts = counts_and (counts_times (half_count c.vtype) one_half_counts) (counts_and (test_counts (list_for r i)) (counts 2 2 0))

  abbrev pub half_length : ℕ
  half_length = half_count c.vtype * one_half_length + (test_length (list_for r i) + 4)

  abbrev pub half_register_length : ℕ
  half_register_length = 1 + cond (reads r i) 1 0 + cond (is_ones c.policy) 3 0 + half_length

  unfoldable pub half_registers_list : (count : ℕ) → List MicroOp
  half_registers_list zero = []
  half_registers_list (suc g) = half_registers_list g ++ half_register_list g

  -- the program with a scalar: of results that are elements, of results that are the bits of a mask, and of elements that are
  -- half as wide as the first operand
  abbrev pub element_program : (scalar : ℕ) → List MicroOp
  element_program x = scalar_list i (width_of r c) (scalar_of r.order r.signs i c.vtype.sew x) ++ registers_list (count_of r c)

  abbrev pub mask_program : (scalar : ℕ) → List MicroOp
  mask_program x = scalar_list i c.vtype.sew (scalar_of r.order r.signs i c.vtype.sew x) ++ (mask_registers_list (group_count c.vtype) ++ mask_fill_list c i.vd)

  abbrev pub half_program : (scalar : ℕ) → List MicroOp
  half_program x = scalar_list i (2 * c.vtype.sew) (half_scalar i c.vtype.sew x) ++ half_registers_list (registers_for c.vtype c.vtype.sew)

  unfoldable pub program_by : (scalar : ℕ) → List MicroOp
  program_by x = cond (makes_bits r.masked) (mask_program x) (cond (makes_halves r.masked) (half_program x) (element_program x))

  -- what it costs
  unfoldable pub cost_by : Counts
  cost_by =
      cond (makes_bits r.masked) (compare_cost_of i c (counts_of (list_for r i) c.vtype.sew 0))
      (cond (makes_halves r.masked) (cost_of i c (registers_for c.vtype c.vtype.sew) half_counts) (cost_of i c (count_of r c) body_counts))

-- the program of an instruction that makes one number of a whole group or a whole mask, and what it costs
abbrev pub number_program : VInstr → Cfg → List MicroOp
number_program i c = option_map_or (λ kind. fold_program kind i c) (fold_for i.op) []

abbrev pub number_cost : VInstr → Cfg → Counts
number_cost i c = option_map_or (λ kind. fold_cost kind i c) (fold_for i.op) no_counts

-- those of an instruction that reads whole groups or masks
abbrev pub whole_program : VInstr → Cfg → (scalar : ℕ) → List MicroOp
whole_program i c x = option_map_or (λ kind. move_program kind i c x) (kind_for i.op) (number_program i c)

abbrev pub whole_cost : VInstr → Cfg → Counts
whole_cost i c = option_map_or (λ kind. move_cost kind i c) (kind_for i.op) (number_cost i c)

-- the program of an instruction that has one
unfoldable pub prog : VInstr → Cfg → (scalar : ℕ) → List MicroOp
prog i c x = option_map_or (λ r. program_by r i c x) (recipe_for i.op) (whole_program i c x)

-- The searches, updates and passes of the program of an instruction: of its scalar; for each register of the destination of
-- the kind and, where agnostic elements become ones, of the fill; but one fill where the result is a mask.
unfoldable pub cost : VInstr → Cfg → Counts
cost i c = option_map_or (λ r. cost_by r i c) (recipe_for i.op) (whole_cost i c)

-- ---- rows

-- an operand can be laid out at w bits for register g: its register is there, and its elements are narrower
abbrev pub IsLayable : Operand → (w g : ℕ) → Type 0
IsLayable (group r) w g = Unit {0}
IsLayable scalar w g = Unit {0}
IsLayable (narrow signed by n r row) w g = (r + g / by < 32) × IsElementWidth n × (1 < by) × (by * n ≡ w)

-- register g of the destination and the rows of its operands are there
pub record IsPlaced (r : Recipe) (i : VInstr) (c : Cfg) (g : ℕ) : Type 0 where
  pub mode : c.vxrm ≤ 3
  pub vd : i.vd + g < 32
  pub a : row_of (operands_of r i c).a g < 64
  pub b : row_of (operands_of r i c).b g < 64
  pub rows : FitsRows (list_for r i) (row_of (operands_of r i c).a g) (row_of (operands_of r i c).b g)
  pub addend : (operands_of r i c).addend + g < 32
  pub first : IsLayable (operands_of r i c).a (width_of r c) g
  pub second : IsLayable (operands_of r i c).b (width_of r c) g

-- register g of a destination, and those of its halves' operands
pub record IsHalfPlaced (r : Recipe) (i : VInstr) (c : Cfg) (g : ℕ) : Type 0 where
  pub mode : c.vxrm ≤ 3
  pub vd : i.vd + g < 32
  pub wide : is_wide (2 * c.vtype.sew) ≡ true
  pub a : (h : ℕ) → h < half_count c.vtype → (halves_of r i c).a + (2 * g + h) < 32
  pub b : (h : ℕ) → h < half_count c.vtype → IsOperandRow (row_of (halves_of r i c).b (2 * g + h)) × IsLayable (halves_of r i c).b (2 * c.vtype.sew) (2 * g + h)

-- the rows of the operands of a mask are there
pub record IsMaskPlaced (r : Recipe) (i : VInstr) (g : ℕ) : Type 0 where
  pub vd : i.vd < 32
  pub a : row_of (compare_operands i).a g < 64
  pub b : row_of (compare_operands i).b g < 64
  pub rows : FitsRows (list_for r i) (row_of (compare_operands i).a g) (row_of (compare_operands i).b g)

-- ---- what its lists compute

-- What the list of register g computes, from the rows of its operands, and what it costs with what lays these out.
pub record IsMade (r : Recipe) (i : VInstr) (c : Cfg) (g : ℕ) : Type 0 where
  pub computes : Computes (list_for r i) (width_of r c) c.vxrm (row_of (operands_of r i c).a g) (row_of (operands_of r i c).b g) ((operands_of r i c).addend + g) (i.vd + g)
  pub tells : TellsClips (list_for r i) (width_of r c) c.vxrm (row_of (operands_of r i c).a g) (row_of (operands_of r i c).b g) ((operands_of r i c).addend + g) (i.vd + g)
  pub cost : Measured (body_counts r i c) (body_length r i c) (body_list r i c g)

-- What the list of register q of an operand leaves and tells, of which each register has the elements of a half; and what the
-- operations on register g of the destination cost.
abbrev pub LeavesHalf : Listed → (w mode a b : ℕ) → List MicroOp → Type 0
LeavesHalf list w mode a b ops = LeavesLow w (value_row list (log2 (2 * w))) (written_rows list) (λ n. value_of list w mode (n a) (n b) 0 false) ops

abbrev pub LeavesPart : Recipe → VInstr → Cfg → (g h : ℕ) → Type 0
LeavesPart r i c g h = LeavesHalf (list_for r i) c.vtype.sew c.vxrm ((halves_of r i c).a + (2 * g + h)) (row_of (halves_of r i c).b (2 * g + h)) (wide_list r i c (2 * g + h))

-- the lowest bit of each element of the flag's row tells whether its result is clipped, if the list tells clips
abbrev pub flags_as : (tells : Bool) → (w : ℕ) → (clipped : (ℕ → ℕ) → Bool) → List MicroOp → Type 0
flags_as false w clipped ops = Unit {0}
flags_as true w clipped ops = LeavesFlag w overflow_row clipped ops

abbrev pub FlagsHalf : Listed → (w mode a b : ℕ) → List MicroOp → Type 0
FlagsHalf list w mode a b ops = flags_as (tells_clips list) w (λ n. clips_of list w mode (n a) (n b) 0) ops

abbrev pub FlagsPart : Recipe → VInstr → Cfg → (g h : ℕ) → Type 0
FlagsPart r i c g h = FlagsHalf (list_for r i) c.vtype.sew c.vxrm ((halves_of r i c).a + (2 * g + h)) (row_of (halves_of r i c).b (2 * g + h)) (wide_list r i c (2 * g + h))

pub record IsHalfMade (r : Recipe) (i : VInstr) (c : Cfg) (g : ℕ) : Type 0 where
  pub leaves : (h : ℕ) → h < half_count c.vtype → LeavesPart r i c g h
  pub flags : (h : ℕ) → h < half_count c.vtype → FlagsPart r i c g h
  pub cost : Measured (half_counts r i c) (half_length r i c) (half_list_of r i c g)

-- The same of a list that tells the truths of register g of the operands of a mask.
pub record IsMaskMade (r : Recipe) (i : VInstr) (c : Cfg) (g : ℕ) : Type 0 where
  pub computes : Computes (list_for r i) c.vtype.sew 0 (row_of (compare_operands i).a g) (row_of (compare_operands i).b g) i.vd i.vd
  pub cost : Measured (counts_of (list_for r i) c.vtype.sew 0) (length_of (list_for r i) c.vtype.sew 0) (truth_list r i c g)
