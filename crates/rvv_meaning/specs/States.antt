-- The states of a machine, one step and a run.
use Rattle.std.specs.Prelude.{◌==◌, ℕ, zero, suc, ◌+◌, Bool, true, false, List, [], ◌++◌, take, drop, Option, Some, None, is_some, slice_index, if◌then◌else◌}
use Rattle.bit_laws.specs.Numbers.{low}
use Rattle.guest_mem.specs.Pages.{Memory, first_bad, loaded}
use Rattle.rv32_decode.specs.declared.instruction.Instr.{Instr}
use Rattle.rv32_decode.specs.Rows.{means}
use Rattle.rvv_meaning.specs.declared.Call.{Call}
use Rattle.rvv_meaning.specs.declared.Call.TheVariants.{Read, Write, Exit, Break, Close, Seek, Unknown}
use Rattle.rvv_decode.specs.declared.instruction.VInstr.{VInstr}
use Rattle.rvv_decode.specs.Rows.{means as means_vector}
use Rattle.vtype_cfg.specs.declared.configuration.Cfg.{Cfg}
use Rattle.vtype_cfg.specs.declared.configuration.Policy.{Policy}
use Rattle.vtype_cfg.specs.declared.vtype.Vtype.{Vtype}
use Rattle.vtype_cfg.specs.Legality.{is_legal}
use Rattle.vtype_cfg.specs.Settings.{vtype_of}
use Rattle.rvv_meaning.specs.declared.Meaning.TheVariants.{Scalar, Vector}
use Rattle.rvv_meaning.specs.declared.Mode.{Mode}
use Rattle.rvv_meaning.specs.declared.Mode.TheVariants.{Running, Exited, Trapped}
use Rattle.rvv_meaning.specs.declared.Next.{Next}
use Rattle.rvv_meaning.specs.declared.Next.TheVariants.{Stop, Perform}
use Rattle.rvv_meaning.specs.declared.Flow.{Flow}
use Rattle.rvv_meaning.specs.declared.Flow.TheVariants.{Next as GoesOn, Jump, Call as Calls, Trap as Traps}
use Rattle.rvv_meaning.specs.declared.Csrs.{Csrs}
use Rattle.rvv_meaning.specs.Elementwise.{cfg_of, is_ones}
use Rattle.rvv_meaning.specs.Vectors.{VectorEffect, vector_effect}
use Rattle.rvv_meaning.specs.Scalar.{Effect, executed, illegal_instruction}
use Rattle.rvv_meaning.specs.Calls.{named_call, exit_code, asked_by, put_by, regs_after, memory_after}

-- What a machine holds: the registers x0 to x31, the place of the next word, the control registers, the guest's memory,
-- the bytes of each vector register, the mode, and what becomes of agnostic elements, which no step changes.
pub record Core : Type 0 where
  pub regs : List ℕ
  pub pc : ℕ
  pub csrs : Csrs
  pub mem : Memory
  pub vectors : List (List ℕ)
  pub mode : Mode
  pub policy : Policy

-- A state: what the machine holds, the input left, the output, the error output, and the bytes of both in the order
-- in which they were written.
pub record State : Type 0 where
  pub core : Core
  pub input : List ℕ
  pub output : List ℕ
  pub errors : List ℕ
  pub joint : List ℕ

-- x[r]
abbrev pub reg : Core → ℕ → ℕ
reg c r = slice_index c.regs r

-- one more instruction retired, and the next one is at a place
abbrev pub retired_to : ℕ → Core → Core
retired_to target c = record c { pc = target; csrs = record c.csrs { retired = c.csrs.retired + 1 } }

-- the next one is the word after this one
abbrev pub advanced : Core → Core
advanced c = retired_to (low 32 (c.pc + 4)) c

-- the vector type in force, and the configuration of the vector unit
abbrev pub vtype_at : Core → Vtype
vtype_at c = vtype_of c.csrs.vtype

abbrev pub cfg_at : Core → Cfg
cfg_at c = cfg_of c.csrs c.policy

-- a trap at pc
abbrev pub trap : ℕ → ℕ → Core → Mode
trap cause value c = Trapped record { cause = cause; pc = c.pc; value = value }

-- the cause of the trap of a fetch without permission
abbrev pub fetch_fault : ℕ
fetch_fault = 1

-- what comes of a word that is no scalar instruction, and means this vector instruction or none: the instruction must be
-- legal
abbrev pub next_vector : Core → ℕ → Option VInstr → Next
next_vector c word None = Stop (trap illegal_instruction word c)
next_vector c word (Some i) =
    if is_legal i (vtype_at c) c.csrs.vstart
    then Perform (Vector i)
    else Stop (trap illegal_instruction word c)

-- what comes of a word that means this scalar instruction or none
abbrev pub next_scalar : Core → ℕ → Option Instr → Next
next_scalar c word None = next_vector c word (means_vector word)
next_scalar c word (Some i) = Perform (Scalar i)

abbrev pub next_for : Core → ℕ → Next
next_for c word = next_scalar c word (means word)

-- the permission to execute, and the bytes of a word
abbrev pub execute : ℕ
execute = 1

abbrev pub word_size : ℕ
word_size = 4

-- What comes at pc: the word there must be executable in each of its bytes, and mean an instruction that can be carried
-- out.
unfoldable pub next : Core → Next
next c =
    if is_some (first_bad c.mem.pages execute c.pc word_size)
    then Stop (trap fetch_fault c.pc c)
    else next_for c (loaded c.mem.pages c.pc word_size)

-- the effect of a scalar instruction on the machine, and the machine with it
abbrev pub effect_at : Instr → Core → Effect
effect_at i c = executed i c.pc c.regs c.csrs c.mem

abbrev pub with_effect : Effect → Core → Core
with_effect e c = record c { regs = e.regs; csrs = e.csrs; mem = e.mem }

-- the mode after a call: an exit ends the run
abbrev pub mode_by : Call → List ℕ → Mode → Mode
mode_by Exit regs mode = Exited (exit_code regs)
mode_by Read regs mode = mode
mode_by Write regs mode = mode
mode_by Break regs mode = mode
mode_by Close regs mode = mode
mode_by Seek regs mode = mode
mode_by Unknown regs mode = mode

-- what a call leaves that took these bytes of the input; it retires, also where it is the exit
abbrev pub called_as : Call → Core → List ℕ → Core
called_as call c taken =
    advanced (record c { regs = regs_after call c.regs c.mem taken; mem = memory_after call c.regs c.mem taken; mode = mode_by call c.regs c.mode })

unfoldable pub called : Core → List ℕ → Core
called c taken = called_as (named_call c.regs) c taken

-- where the machine goes on after a scalar instruction; a trap sets the mode and retires nothing
abbrev pub after_flow : Flow → Core → List ℕ → Core
after_flow GoesOn c taken = advanced c
after_flow (Jump target) c taken = retired_to target c
after_flow Calls c taken = called c taken
after_flow (Traps t) c taken = record c { mode = Trapped t }

abbrev pub executed_scalar : Instr → Core → List ℕ → Core
executed_scalar i c taken = after_flow (effect_at i c).flow (with_effect (effect_at i c) c) taken

-- the effect of a vector instruction on the machine, and the machine with it: under the policy each agnostic element becomes all
-- ones, or none does
abbrev pub vector_effect_at : VInstr → Core → VectorEffect
vector_effect_at i c = vector_effect i c.pc c.regs c.csrs c.mem c.vectors c.policy

abbrev pub with_vector_effect : VectorEffect → Core → Core
with_vector_effect e c = record c { regs = e.regs; csrs = e.csrs; mem = e.mem; vectors = e.vectors (λ element. is_ones c.policy) }

-- what a vector instruction leaves; it makes no call
abbrev pub executed_vector : VInstr → Core → Core
executed_vector i c = after_flow (vector_effect_at i c).flow (with_vector_effect (vector_effect_at i c) c) []

-- what a step leaves in the machine that took these bytes of the input: a stop changes the mode alone
abbrev pub carried_out : Next → Core → List ℕ → Core
carried_out (Stop mode) c taken = record c { mode = mode }
carried_out (Perform (Scalar i)) c taken = executed_scalar i c taken
carried_out (Perform (Vector i)) c taken = executed_vector i c

-- what the machine holds after a step that took these bytes of the input
unfoldable pub core_after : Core → List ℕ → Core
core_after c taken = carried_out (next c) c taken

-- the call that a scalar instruction makes, which is ecall, or none
abbrev pub call_by : Flow → List ℕ → Option Call
call_by GoesOn regs = None
call_by (Jump target) regs = None
call_by Calls regs = Some (named_call regs)
call_by (Traps t) regs = None

-- the call that comes at pc
abbrev pub call_of : Next → Core → Option Call
call_of (Stop mode) c = None
call_of (Perform (Scalar i)) c = call_by (effect_at i c).flow c.regs
call_of (Perform (Vector i)) c = None

unfoldable pub call_at : Core → Option Call
call_at c = call_of (next c) c

-- how many bytes a step asks of the input, and the bytes that it puts
abbrev pub asks : Option Call → Core → ℕ
asks None c = 0
asks (Some call) c = asked_by call c.regs c.mem

abbrev pub puts_by : Option Call → Core → List ℕ
puts_by None c = []
puts_by (Some call) c = put_by call c.regs c.mem

unfoldable pub asked : Core → ℕ
asked c = asks (call_at c) c

unfoldable pub puts : Core → List ℕ
puts c = puts_by (call_at c) c

-- the bytes that a step takes of an input: as many as it asks for, or all that is left
abbrev pub taken_at : Core → List ℕ → List ℕ
taken_at c input = take (asked c) input

-- the bytes of a step that go to a descriptor
abbrev pub put_on : ℕ → Core → List ℕ
put_on descriptor c = if reg c 10 == descriptor then puts c else []

-- one step
unfoldable pub step : State → State
step s = record {
  core = core_after s.core (taken_at s.core s.input);
  input = drop (asked s.core) s.input;
  output = s.output ++ put_on 1 s.core;
  errors = s.errors ++ put_on 2 s.core;
  joint = s.joint ++ puts s.core;
}

abbrev pub is_running : Mode → Bool
is_running Running = true
is_running (Exited c) = false
is_running (Trapped t) = false

-- up to n steps, as long as the machine runs
unfoldable pub run : State → ℕ → State
run s zero = s
run s (suc n) = if is_running s.core.mode then run (step s) n else s
