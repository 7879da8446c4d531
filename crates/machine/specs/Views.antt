-- When objects show a moment: what the machine holds, what a source has left, and what two sinks have gained.
use Rattle.std.specs.Prelude.{◌≡◌, ℕ, ◌-◌, ◌<◌, Bool, List, [], ◌++◌, length, Option, Some, if◌then◌else◌}
use Rattle.std.specs.Io.KnownBytes.{Appends, Consumes}
use Rattle.cape_io.specs.Views.{DeviceViews, Devices}
use Rattle.cam_chain.specs.ChainValue.{slices_of}
use Rattle.guest_mem.specs.Pages.{Memory}
use Rattle.guest_env.specs.Outputs.{bytes_out, bytes_err}
use Rattle.guest_env.specs.Answers.{IsReading, IsWriting}
use Rattle.rvv_meaning.specs.declared.Call.TheVariants.{Read}
use Rattle.rvv_meaning.specs.declared.Mode.TheVariants.{Running}
use Rattle.rvv_meaning.specs.Calls.{named_call, third, memory_after}
use Rattle.rvv_meaning.specs.States.{Core, State, reg, puts, asked, call_at}
use Rattle.machine.specs.declared.answers.DeviceFault.{DeviceFault}
use Rattle.machine.specs.declared.answers.DeviceFault.TheVariants.{ReadFault, WriteFault}
use Rattle.machine.specs.Moments.{Held, Moment, moment_after, moments}

-- What the two sinks gain of a state. Apart, they are the output and the error output; merged, the second gains the
-- bytes of both in their order, and the first nothing.
abbrev pub shown_out : Bool → State → List ℕ
shown_out merged s = if merged then [] else s.output

abbrev pub shown_err : Bool → State → List ℕ
shown_err merged s = if merged then s.joint else s.errors

-- what they gain in a step
abbrev pub gains_out : Bool → Core → List ℕ
gains_out merged c = bytes_out merged (reg c 10) (puts c)

abbrev pub gains_err : Bool → Core → List ℕ
gains_err merged c = bytes_err merged (reg c 10) (puts c)

-- The moment is what the objects show: the input is known, and each sink whose bytes are known holds what it held first and
-- then what it gains of the state.
pub record Shows (merged : Bool) (m : Moment) (machine : Held) (first now : DeviceViews) : Type 0 where
  pub holds : m.state.core ≡ machine.core
  pub slices : m.slices ≡ slices_of machine.chain
  pub last : m.last ≡ machine.last
  pub counts : m.counts ≡ machine.chain.counts
  pub control : m.control ≡ machine.control
  pub known : now.input.left ≡ Some m.state.input
  pub gained_out : Appends first.out.held now.out.held (shown_out merged m.state)
  pub gained_err : Appends first.err.held now.err.held (shown_err merged m.state)

-- the bytes are a prefix of those
abbrev pub IsPrefixOf : List ℕ → List ℕ → Type 0
IsPrefixOf prefix whole = (rest : List ℕ) × (whole ≡ prefix ++ rest)

-- a sink whose bytes are known has gained a prefix of the bytes
abbrev pub GainsPrefix : Option (List ℕ) → Option (List ℕ) → List ℕ → Type 0
GainsPrefix first held whole = (prefix : List ℕ) × Appends first held prefix × IsPrefixOf prefix whole

-- both sinks have gained prefixes of what they gain of a state
abbrev pub GainPrefixes : Bool → State → DeviceViews → DeviceViews → Type 0
GainPrefixes merged s first now =
    GainsPrefix first.out.held now.out.held (shown_out merged s) × GainsPrefix first.err.held now.err.held (shown_err merged s)

-- Whatever moment the objects show before, they show f of it after.
abbrev pub GoesBy : (Moment → Moment) → Bool → Held → Held → Devices → Type 0
GoesBy f merged old new d =
    (m : Moment) (first : DeviceViews) → Shows merged m old first d.old → Shows merged (f m) new first d.new

-- Whatever moment the objects show before, each sink has gained a prefix of what it gains of f of it.
abbrev pub FaultsIn : (Moment → Moment) → Bool → Held → Devices → Type 0
FaultsIn f merged old d =
    (m : Moment) (first : DeviceViews) → Shows merged m old first d.old → GainPrefixes merged (f m).state first d.new

-- Whatever moment the objects show before, they show one after, which n - k steps reach from it and from which k steps
-- lead where n lead from that.
abbrev pub RunsOn : ℕ → ℕ → Bool → Held → Held → Devices → Type 0
RunsOn n k merged old new d =
    (m : Moment) (first : DeviceViews) → Shows merged m old first d.old
    → (t : Moment) × Shows merged t new first d.new × (moments m n ≡ moments t k) × (t ≡ moments m (n - k))

-- The instruction at pc makes the call that the registers ask for.
abbrev pub CallsAt : Core → Type 0
CallsAt c = call_at c ≡ Some (named_call c.regs)

-- The registers ask the device that failed: for some bytes of the input, or to write some bytes to an output, in a call that is
-- not refused; and the instruction at pc makes the call.
abbrev pub AsksFor : DeviceFault → Core → Type 0
AsksFor ReadFault c = IsReading c.regs c.mem
AsksFor WriteFault c = IsWriting c.regs c.mem

abbrev pub AsksDevice : DeviceFault → Core → Type 0
AsksDevice fault c = CallsAt c × AsksFor fault c

-- Whatever moment the objects show before, some step of n from it makes a read of some bytes that is not refused.
abbrev pub ReadsIn : ℕ → Bool → Held → DeviceViews → Type 0
ReadsIn n merged old io =
    (m : Moment) (first : DeviceViews) → Shows merged m old first io → (k : ℕ) × (k < n) × AsksDevice ReadFault (moments m k).state.core

-- What a call that failed leaves of the memory: a read leaves in it the bytes that it took of the input, fewer than it asks for,
-- and a write leaves it as it was.
abbrev pub LeavesMemory : DeviceFault → Core → Memory → Option (List ℕ) → Option (List ℕ) → Type 0
LeavesMemory ReadFault c mem left left' =
    (taken : List ℕ) × (length taken < third c.regs) × Consumes left left' taken × (mem ≡ memory_after Read c.regs c.mem taken)
LeavesMemory WriteFault c mem left left' = mem ≡ c.mem

-- The machine stands, but for its memory, at a moment whose step asked a device that failed, and each sink has gained a prefix
-- of what it gains by that step.
pub record StandsAt (fault : DeviceFault) (merged : Bool) (m : Moment) (machine : Held) (first now : DeviceViews) : Type 0 where
  pub running : m.state.core.mode ≡ Running
  pub asks : AsksDevice fault m.state.core
  pub core : machine.core ≡ record m.state.core { mem = machine.core.mem }
  pub memory : LeavesMemory fault m.state.core machine.core.mem (Some m.state.input) now.input.left
  pub slices : slices_of machine.chain ≡ m.slices
  pub counts : machine.chain.counts ≡ m.counts
  pub control : machine.control ≡ m.control
  pub prefixes : GainPrefixes merged (moment_after m).state first now

-- Whatever moment the objects show before, the machine stands at the moment of some step of n from it.
abbrev pub StandsIn : ℕ → Bool → Held → Held → Devices → DeviceFault → Type 0
StandsIn n merged old new d fault =
    (m : Moment) (first : DeviceViews) → Shows merged m old first d.old
    → (k : ℕ) × (k < n) × StandsAt fault merged (moments m k) new first d.new

-- The objects show a moment from which every step of n that is made is so.
abbrev pub EachStep : (Core → Type 0) → ℕ → Bool → Held → DeviceViews → Type 0
EachStep P n merged old io =
    (m : Moment) × (first : DeviceViews) × Shows merged m old first io
    × ((k : ℕ) → k < n → (moments m k).state.core.mode ≡ Running → P (moments m k).state.core)

-- a step asks for no byte of the input, and adds none to the first sink, nor to the second
abbrev pub AsksNothing : Core → Type 0
AsksNothing c = asked c ≡ 0

abbrev pub AddsNoOut : Bool → Core → Type 0
AddsNoOut merged c = gains_out merged c ≡ []

abbrev pub AddsNoErr : Bool → Core → Type 0
AddsNoErr merged c = gains_err merged c ≡ []
