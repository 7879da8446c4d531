-- What a run of a workload comes to: its words are carried out one after another, the last one exits, and nothing is put out.
use Rattle.std.specs.Prelude.{◌≡◌, ℕ, ◌+◌, ◌*◌, ◌<◌, ◌≤◌, List}
use Rattle.elf_load.specs.Fields.{entry}
use Rattle.elf_load.specs.Layout.{regions}
use Rattle.guest_mem.specs.Opening.{opened}
use Rattle.guest_mem.specs.Pages.{Memory}
use Rattle.vtype_cfg.specs.declared.configuration.Policy.{Policy}
use Rattle.rvv_meaning.specs.declared.Mode.TheVariants.{Running, Exited}
use Rattle.rvv_meaning.specs.Calls.{exit_code}
use Rattle.rvv_meaning.specs.Images.{start_state}
use Rattle.rvv_meaning.specs.States.{State, run}
use Rattle.work_gen.specs.Images.{workload}

-- A state goes on from one without a byte taken or put, and so many instructions later.
pub record Quiet (n : ℕ) (first now : State) : Type 0 where
  pub retired : now.core.csrs.retired ≡ first.core.csrs.retired + n
  pub input : now.input ≡ first.input
  pub output : now.output ≡ first.output
  pub errors : now.errors ≡ first.errors
  pub joint : now.joint ≡ first.joint

-- A run exits with its nth instruction, and takes and puts nothing: it goes on through fewer steps, and no number of further
-- steps changes how it ended. Its code is the low byte of x10.
pub record ExitsAt (n : ℕ) (s : State) : Type 0 where
  pub goes_on : (k : ℕ) → k < n → (run s k).core.mode ≡ Running
  pub exits : (k : ℕ) → n ≤ k → (run s k).core.mode ≡ Exited (exit_code (run s k).core.regs)
  pub quiet : (k : ℕ) → n ≤ k → Quiet n s (run s k)

-- the instructions of a workload with so many blocks
abbrev pub instructions : ℕ → ℕ
instructions size = 99 + 2 * size

-- The guest of every workload exits with the last of its words, under every length of the vector registers and every policy,
-- wherever its heap lies and whatever the input is.
abbrev pub WorkloadLaw : Type 0
WorkloadLaw =
    (seed size vlen : ℕ) (policy : Policy) (mem : Memory) (input : List ℕ)
    → size ≤ 4096
    → mem.pages ≡ opened (regions (workload seed size))
    → ExitsAt (instructions size) (start_state vlen policy (entry (workload seed size)) mem input)
