-- What a step does to a machine and its devices, whatever is known of the devices.
use Rattle.std.specs.Prelude.{◌≡◌, ◌==◌, ◌||◌, ℕ, Bool, List, Option, MatchBool}
use Rattle.cape_io.specs.Devices.{Rose}
use Rattle.cape_io.specs.Views.{Devices}
use Rattle.cam_chain.specs.ChainValue.{slices_of}
use Rattle.guest_env.specs.Inputs.{Takes}
use Rattle.guest_env.specs.Answers.{asked as asked_by_call}
use Rattle.guest_env.specs.Outputs.{gained_out, gained_err}
use Rattle.rvv_meaning.specs.Allowed.{Allowed}
use Rattle.rvv_meaning.specs.Calls.{first}
use Rattle.rvv_meaning.specs.States.{Core, core_after, called, asked}
use Rattle.machine.specs.declared.answers.DeviceFault.{DeviceFault}
use Rattle.machine.specs.declared.answers.DeviceFault.TheVariants.{ReadFault, WriteFault}
use Rattle.machine.specs.Moments.{Held, program_at, loaded_at, with_loaded, slices_by, last_by, counts_by, control_by}
use Rattle.machine.specs.Views.{AsksFor, LeavesMemory}

-- A step was carried out that took these bytes of the input: the core is the one that the meaning gives, the slices are
-- the replay of the instruction's program, or have the registers of a load, and the counts gained its searches, updates and passes. The input did not fail.
pub record CarriesTaking (old new : Held) (taken : List ℕ) (d : Devices) : Type 0 where
  pub core : new.core ≡ core_after old.core taken
  pub slices : slices_of new.chain ≡ with_loaded (loaded_at old.core) (slices_by (program_at old.core) (slices_of old.chain))
  pub last : new.last ≡ last_by (program_at old.core)
  pub counts : new.chain.counts ≡ counts_by (program_at old.core) old.chain.counts
  pub control : new.control ≡ control_by (program_at old.core) (slices_of old.chain) old.control
  pub live : new.live ≡ old.live
  pub took : Takes (asked old.core) d.old.input.left d.new.input.left taken
  pub quiet : d.new.input.faults ≡ d.old.input.faults

abbrev pub Carries : Held → Held → Devices → Type 0
Carries old new d = (taken : List ℕ) × CarriesTaking old new taken d

-- what the call that the registers ask for asks of the input, and what the sinks gain of it
abbrev pub call_asked : Core → ℕ
call_asked c = asked_by_call c.regs c.mem

abbrev pub call_out : Bool → Core → List ℕ
call_out merged c = gained_out merged c.regs c.mem

abbrev pub call_err : Bool → Core → List ℕ
call_err merged c = gained_err merged c.regs c.mem

-- The call was carried out, and took these bytes of the input, which did not fail.
pub record CallsTaking (old new : Held) (taken : List ℕ) (d : Devices) : Type 0 where
  pub took : Takes (call_asked old.core) d.old.input.left d.new.input.left taken
  pub quiet : d.new.input.faults ≡ d.old.input.faults
  pub leaves : new ≡ record old { core = called old.core taken }

abbrev pub Calls : Held → Held → Devices → Type 0
Calls old new d = (taken : List ℕ) × CallsTaking old new taken d

-- What a step leaves is permitted, whatever the policy is, with the bytes that it took of the input.
abbrev pub LeavesAllowed : Core → Core → Option (List ℕ) → Option (List ℕ) → Type 0
LeavesAllowed c c' left left' = (taken : List ℕ) × Takes (asked c) left left' taken × Allowed c taken c'

-- The count of the device that failed rose by one, and the other two stay. A write to the descriptor fails in the sink that
-- takes its bytes.
abbrev pub OneFault : DeviceFault → Bool → ℕ → Devices → Type 0
OneFault ReadFault merged descriptor d =
    Rose d.old.input.faults d.new.input.faults × (d.new.out.faults ≡ d.old.out.faults) × (d.new.err.faults ≡ d.old.err.faults)
OneFault WriteFault merged descriptor d =
    (d.new.input.faults ≡ d.old.input.faults)
    × MatchBool (merged || (descriptor == 2)) ((d.new.out.faults ≡ d.old.out.faults) × Rose d.old.err.faults d.new.err.faults)
    (Rose d.old.out.faults d.new.out.faults × (d.new.err.faults ≡ d.old.err.faults))

-- The call failed: its device was asked, the memory has what it leaves of it, and one count of faults rose by one.
pub record Fails (merged : Bool) (c c' : Core) (d : Devices) (fault : DeviceFault) : Type 0 where
  pub asks : AsksFor fault c
  pub memory : LeavesMemory fault c c'.mem d.old.input.left d.new.input.left
  pub one : OneFault fault merged (first c.regs) d
