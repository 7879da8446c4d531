-- Moments of a machine: its state with the state of its slices, the program of its last step, its counts and its control
-- numbers.
use Rattle.std.specs.Prelude.{ℕ, zero, suc, ◌+◌, ◌*◌, ◌/◌, ◌%◌, cond, not, ◌&&◌, Bool, true, false, List, [], Option, Some, None, if◌then◌else◌}
use lib.Dec.{ltb}
use Rattle.bit_laws.specs.Numbers.{bit_of, low}
use Rattle.bit_rows.specs.Slices.{Slices, blank, placed}
use Rattle.cam_chain.specs.ChainValue.{ChainValue, no_counts}
use Rattle.cam_chain.specs.declared.counts.Counts.{Counts}
use Rattle.element_ops.specs.Elements.{byte_at}
use Rattle.micro_ir.specs.declared.control.Control.{Control}
use Rattle.micro_ir.specs.declared.op.MicroOp.{MicroOp}
use Rattle.micro_ir.specs.Replay.{replay, clips, tally, counts_and}
use Rattle.rvv_decode.specs.declared.instruction.VInstr.{VInstr}
use Rattle.rvv_decode.specs.declared.instruction.VOp.{VOp}
use Rattle.rvv_decode.specs.declared.instruction.VOp.TheVariants.{Config, Memory}
use Rattle.rvv_meaning.specs.declared.Meaning.TheVariants.{Scalar, Vector}
use Rattle.rvv_meaning.specs.declared.Next.{Next}
use Rattle.rvv_meaning.specs.declared.Next.TheVariants.{Stop, Perform}
use Rattle.rvv_meaning.specs.Elementwise.{is_ones}
use Rattle.rvv_meaning.specs.Scalar.Registers.{written}
use Rattle.rvv_meaning.specs.States.{Core, State, cfg_at, next, step, is_running, vector_effect_at}
use Rattle.rvv_meaning.specs.VectorAccesses.{reads_memory}
use Rattle.rvv_meaning.specs.Vectors.{scalar_operand}
use Rattle.rvv_meaning.specs.Whole.{makes_number}
use Rattle.vec_exec.specs.Programs.{prog, is_engine}

-- What contracts see of a machine: what it holds of the guest, the chain whose rows 0 to 31 are the vector registers,
-- the program of the last step, the control numbers of the last program, and whether no device failed in a step.
pub record Held : Type 0 where
  pub core : Core
  pub chain : ChainValue
  pub last : List MicroOp
  pub control : Control
  pub live : Bool

-- a state, the state of the slices, the program of the last step, the searches, updates and passes so far, and the control
-- numbers of the last program
pub record Moment : Type 0 where
  pub state : State
  pub slices : Slices
  pub last : List MicroOp
  pub counts : Counts
  pub control : Control

-- the program of a vector instruction on what the machine holds
abbrev pub program_for : VInstr → Core → List MicroOp
program_for i c = prog i (cfg_at c) (scalar_operand i c.regs)

-- the program of an instruction, where it has one
abbrev pub program_of : Next → Core → Option (List MicroOp)
program_of (Stop mode) c = None
program_of (Perform (Scalar i)) c = None
program_of (Perform (Vector i)) c = if is_engine i then Some (program_for i c) else None

-- the program of the instruction at pc
unfoldable pub program_at : Core → Option (List MicroOp)
program_at c = program_of (next c) c

-- the scalar registers with the low half of a number in one of them, where one is made
abbrev pub with_number : (makes : Bool) → (register num : ℕ) → List ℕ → List ℕ
with_number makes register num regs = cond makes (written regs register (low 32 num)) regs

-- the slices whose registers hold these bytes, where bit b of byte j of register r is the bit of subarray 8 (j mod 4) + b, row r,
-- column j div 4; all else stays
unfoldable pub with_registers : List (List ℕ) → Slices → Slices
with_registers v s = record s {
  bit = λ sub row col. cond (placed s.columns sub col && ltb row 32) (bit_of (byte_at v row (4 * col + sub / 8)) (sub % 8)) (s.bit sub row col);
}

-- Whether an operation writes vector registers without a program: a load does, and what moves elements in another way than
-- by a program.
abbrev pub moves_by : VOp → (engine : Bool) → Bool
moves_by (Memory op) engine = reads_memory (Memory op)
moves_by (Config op) engine = false
moves_by op engine = not engine && not (makes_number op)

abbrev pub moves_elements : VInstr → Bool
moves_elements i = moves_by i.op (is_engine i)

-- the registers that such an instruction leaves
abbrev pub loaded_by : Bool → VInstr → Core → Option (List (List ℕ))
loaded_by true i c = Some ((vector_effect_at i c).vectors (λ element. is_ones c.policy))
loaded_by false i c = None

-- the registers that an instruction leaves, where it writes them without a program
abbrev pub loaded_of : Next → Core → Option (List (List ℕ))
loaded_of (Stop mode) c = None
loaded_of (Perform (Scalar i)) c = None
loaded_of (Perform (Vector i)) c = loaded_by (moves_elements i) i c

-- the registers that the instruction at pc leaves, where it writes them without a program
unfoldable pub loaded_at : Core → Option (List (List ℕ))
loaded_at c = loaded_of (next c) c

-- The slices after such an instruction: their registers are those that it leaves, and all else stays.
abbrev pub with_loaded : Option (List (List ℕ)) → Slices → Slices
with_loaded None s = s
with_loaded (Some v) s = with_registers v s

-- The slices after a program, which is replayed from the control number 0, that belongs to the replay. Where there is none,
-- they stay.
abbrev pub slices_by : Option (List MicroOp) → Slices → Slices
slices_by None s = s
slices_by (Some ops) s = record (replay ops (record s { num = 0 })) { num = 0 }

-- The control numbers after a step: those that a program leaves from the control number 0, with whether it found an element
-- clipped, and as they were where there is none.
abbrev pub control_by : Option (List MicroOp) → Slices → Control → Control
control_by None s k = k
control_by (Some ops) s k = record { num = (replay ops (record s { num = 0 })).num; clip = clips ops (record s { num = 0 }) }

-- The searches, updates and passes after a step: they gain exactly those of its program, and stay where there is none.
abbrev pub counts_by : Option (List MicroOp) → Counts → Counts
counts_by None n = n
counts_by (Some ops) n = counts_and n (tally ops)

-- the control numbers that a program starts from
abbrev pub cleared_control : Control
cleared_control = record { num = 0; clip = false }

-- the program that a step leaves: none where it planned none
abbrev pub last_by : Option (List MicroOp) → List MicroOp
last_by None = []
last_by (Some ops) = ops

-- one step
unfoldable pub moment_after : Moment → Moment
moment_after m = record {
  state = step m.state;
  slices = with_loaded (loaded_at m.state.core) (slices_by (program_at m.state.core) m.slices);
  last = last_by (program_at m.state.core);
  counts = counts_by (program_at m.state.core) m.counts;
  control = control_by (program_at m.state.core) m.slices m.control;
}

-- up to n steps, as long as the machine runs
unfoldable pub moments : Moment → ℕ → Moment
moments m zero = m
moments m (suc n) = if is_running m.state.core.mode then moments (moment_after m) n else m

-- the first moment of a state: slices, tags, counts and control numbers are zero, and there is no program
abbrev pub first_moment : State → Moment
first_moment s = record { state = s; slices = blank (s.core.csrs.vlen / 32); last = []; counts = no_counts; control = cleared_control }

-- the slices that n steps from a state lead to, from slices and tags that are all zero
unfoldable pub slices_after : State → ℕ → Slices
slices_after s n = (moments (first_moment s) n).slices

-- the searches, updates and passes that n steps from a state make
unfoldable pub counts_after : State → ℕ → Counts
counts_after s n = (moments (first_moment s) n).counts
