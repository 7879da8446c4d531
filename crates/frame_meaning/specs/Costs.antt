-- What the programs of instructions cost, how long they are, and that a chain can run them.
use Rattle.std.specs.Prelude.{◌≡◌, ℕ, ◌+◌, ◌*◌, ◌<◌, Bool, cond, List, length}
use Rattle.bit_rows.specs.Slices.{Slices}
use Rattle.cam_chain.specs.ChainValue.{no_counts}
use Rattle.cam_chain.specs.declared.counts.Counts.{Counts}
use Rattle.micro_ir.specs.declared.op.MicroOp.{MicroOp}
use Rattle.micro_ir.specs.Replay.{AllInRange, counts_and, tally}
use Rattle.rvv_decode.specs.declared.instruction.VInstr.{VInstr}
use Rattle.vtype_cfg.specs.declared.configuration.Cfg.{Cfg}
use Rattle.vtype_cfg.specs.Classes.{class_of}
use Rattle.rvv_meaning.specs.Elementwise.{is_ones}
use Rattle.rvv_meaning.specs.Operations.{Operation, reads_mask}
use Rattle.frame_laws.specs.Costs.{counts_times}
use Rattle.micro_ir.specs.Measures.{Measured}
use Rattle.frame_meaning.specs.declared.Order.{Order}
use Rattle.frame_meaning.specs.Shapes.{has_scalar, count_in, class_in, body_in, program_in}
use Rattle.frame_meaning.specs.Laws.{Runs}

-- The lists of the registers cost alike and are equally long, and a chain can run them.
abbrev pub AllMeasured : (registers : ℕ) → (body : ℕ → List MicroOp) → (each : Counts) → (long : ℕ) → Type 0
AllMeasured registers body each long = (g : ℕ) → g < registers → Measured each long (body g)

-- The searches, updates and passes of an instruction whose list for a register makes `each`: those that put its scalar into
-- a row, and for each register those of its list and of the fill, where agnostic elements become ones.
unfoldable pub cost_of : VInstr → Cfg → (registers : ℕ) → (each : Counts) → Counts
cost_of i c registers each =
    counts_and (cond (has_scalar i.form) (record { searches = 2; updates = 2; passes = 0 }) no_counts)
    (counts_times registers (counts_and each (cond (is_ones c.policy) (record { searches = 1; updates = 1; passes = 0 }) no_counts)))

-- The number of its operations, where the list of a register has so many: one marks the active elements of a register, one
-- more lays out their mask bits where the mask is an operand, and three fill its agnostic elements.
unfoldable pub length_of : VInstr → Cfg → (registers : ℕ) → (reads : Bool) → (long : ℕ) → ℕ
length_of i c registers reads long = cond (has_scalar i.form) 4 0 + registers * (1 + cond reads 1 0 + cond (is_ones c.policy) 3 0 + long)

-- the program of an instruction that can run on the slices
pub record ElementsMeasured (i : VInstr) (c : Cfg) (s : Slices) (registers : ℕ) (reads : Bool) (each : Counts) (long : ℕ) (ops : List MicroOp) : Type 0 where
  pub cost : tally ops ≡ cost_of i c registers each
  pub count : length ops ≡ length_of i c registers reads long
  pub range : AllInRange s.columns ops

-- What the program of an instruction costs whose operands are groups of elements at the same place, from lists that cost so
-- much with what lays their operands out.
abbrev pub ElementsCostLaw : Type 0
ElementsCostLaw =
    (order : Order) (o : Operation) (i : VInstr) (c : Cfg) (x : ℕ) (body : ℕ → List MicroOp) (s : Slices) (each : Counts) (long : ℕ)
    → Runs i c s → class_of i.op ≡ class_in order → AllMeasured (count_in order c.vtype) (body_in order i c o body) each long
    → ElementsMeasured i c s (count_in order c.vtype) (reads_mask i o) each long (program_in order i c x o body)
