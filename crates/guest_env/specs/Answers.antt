-- How a call ends: what it leaves where it goes, and what stands where a device failed in it.
use Rattle.std.specs.Prelude.{◌≡◌, ℕ, ◌<◌, Bool, true, List, length}
use Rattle.std.specs.Io.KnownBytes.{Consumes}
use Rattle.cape_io.specs.Devices.{Rose}
use Rattle.cape_io.specs.declared.devices.Source.{Ghosts as SourceGhosts}
use Rattle.cape_io.specs.declared.devices.Sink.{Ghosts as SinkGhosts}
use Rattle.guest_mem.specs.Pages.{Memory}
use Rattle.rvv_meaning.specs.declared.Call.{Call}
use Rattle.rvv_meaning.specs.declared.Call.TheVariants.{Read, Exit}
use Rattle.rvv_meaning.specs.Calls.{number, named_call, first, second, third, is_output, is_readable, is_writable, exit_code, asked_by, answer_of, regs_after, memory_after}
use Rattle.guest_env.specs.declared.answers.EnvFlow.{EnvFlow}
use Rattle.guest_env.specs.declared.answers.EnvFlow.TheVariants.{Back, Exit as ExitWith}
use Rattle.guest_env.specs.Inputs.{Takes}
use Rattle.guest_env.specs.Outputs.{FailsOf}

-- how the guest goes on: an exit ends it, and after any other call it goes on
unfoldable pub flow_of : Call → List ℕ → EnvFlow
flow_of Exit regs = ExitWith (exit_code regs)
flow_of call regs = Back

-- how many bytes the call that the registers ask for asks of the input
abbrev pub asked : List ℕ → Memory → ℕ
asked regs mem = asked_by (named_call regs) regs mem

-- A call answered: these bytes were taken of the input, which did not fail, and the answer and the memory are what the
-- call makes of them.
pub record HasAnswer {S : Type 0} (s : SourceGhosts S) (call : Call) (regs : List ℕ) (mem mem' : Memory) (input input' : S) (answer : ℕ) : Type 0 where
  pub taken : List ℕ
  pub took : Takes (asked_by call regs mem) (s.left input) (s.left input') taken
  pub quiet : s.faults input' ≡ s.faults input
  pub answers : answer ≡ answer_of call regs mem taken
  pub memory : mem' ≡ memory_after call regs mem taken

-- A call went: these bytes were taken of the input, which did not fail, and the registers and the memory are what it
-- makes of them.
pub record IsAnswered {S : Type 0} (s : SourceGhosts S) (regs regs' : List ℕ) (mem mem' : Memory) (input input' : S) : Type 0 where
  pub taken : List ℕ
  pub took : Takes (asked regs mem) (s.left input) (s.left input') taken
  pub quiet : s.faults input' ≡ s.faults input
  pub registers : regs' ≡ regs_after (named_call regs) regs mem taken
  pub memory : mem' ≡ memory_after (named_call regs) regs mem taken

-- the registers ask for some bytes of the input, for a range that may be written
pub record IsReading (regs : List ℕ) (mem : Memory) : Type 0 where
  pub is_read : number regs ≡ 63
  pub descriptor : first regs ≡ 0
  pub some : 0 < third regs
  pub inside : is_writable mem.pages (second regs) (third regs) ≡ true

-- the registers ask to write some bytes, which may be read, to an output
pub record IsWriting (regs : List ℕ) (mem : Memory) : Type 0 where
  pub is_write : number regs ≡ 64
  pub descriptor : is_output (first regs) ≡ true
  pub some : 0 < third regs
  pub inside : is_readable mem.pages (second regs) (third regs) ≡ true

-- The input failed in a read: its count rose by one, and the bytes that were taken before, fewer than were asked for,
-- stand in memory.
pub record FailsReading {S : Type 0} (s : SourceGhosts S) (regs : List ℕ) (mem mem' : Memory) (input input' : S) : Type 0 where
  pub asked : IsReading regs mem
  pub rose : Rose (s.faults input) (s.faults input')
  pub stands : (taken : List ℕ) × (length taken < third regs) × Consumes (s.left input) (s.left input') taken × (mem' ≡ memory_after Read regs mem taken)

-- An output failed in a write: the count of the sink that takes its bytes rose by one, and the memory stays.
pub record FailsWriting {O E : Type 0} (o : SinkGhosts O) (e : SinkGhosts E) (merged : Bool) (regs : List ℕ) (mem mem' : Memory) (out out' : O) (err err' : E) : Type 0 where
  pub asked : IsWriting regs mem
  pub rose : FailsOf o e merged (first regs) out out' err err'
  pub stays : mem' ≡ mem
