-- How a machine that trapped goes on.
use Rattle.std.specs.Prelude.{◌≡◌, ◌<◌, ◌^◌, ℕ, ◌||◌, true, false, IsTrue, []}
use Rattle.element_ops.specs.Elements.{AreRegisters}
use Rattle.guest_mem.specs.Pages.{loaded, with_page}
use Rattle.rvv_decode.specs.Ranges.{IsInRange}
use Rattle.rvv_decode.specs.declared.instruction.VInstr.{VInstr}
use Rattle.vtype_cfg.specs.Settings.{is_valid}
use Rattle.rvv_meaning.specs.declared.Meaning.TheVariants.{Vector}
use Rattle.rvv_meaning.specs.declared.Mode.{Mode}
use Rattle.rvv_meaning.specs.declared.Mode.TheVariants.{Running, Exited, Trapped}
use Rattle.rvv_meaning.specs.declared.Next.TheVariants.{Perform}
use Rattle.rvv_meaning.specs.Elementwise.{size_of}
use Rattle.rvv_meaning.specs.States.{Core, cfg_at, core_after, is_running, next, word_size}
use Rattle.rvv_meaning.specs.VectorAccesses.{reads_memory, writes_memory}

-- a machine that trapped runs
abbrev pub resumed_mode : Mode → Mode
resumed_mode Running = Running
resumed_mode (Exited code) = Exited code
resumed_mode (Trapped t) = Running

abbrev pub resumed : Core → Core
resumed c = record c { mode = resumed_mode c.mode }

-- the page of an address is mapped
abbrev pub mapped : ℕ → Core → Core
mapped address c = record c { mem = record c.mem { pages = with_page c.mem.pages address } }

-- A load or a store comes at pc of a machine that runs, and traps; and the elements that were stored before have not changed the
-- word at pc.
pub record TrapsAtAccess (c : Core) (i : VInstr) : Type 0 where
  pub running : c.mode ≡ Running
  pub there : next c ≡ Perform (Vector i)
  pub moves : (reads_memory i.op || writes_memory i.op) ≡ true
  pub range : IsInRange i
  pub pc : c.pc < 2 ^ 32
  pub valid : IsTrue (is_valid (cfg_at c))
  pub registers : AreRegisters (size_of (cfg_at c)) c.vectors
  pub traps : is_running (core_after c []).mode ≡ false
  pub word : loaded (core_after c []).mem.pages c.pc word_size ≡ loaded c.mem.pages c.pc word_size

-- A machine that trapped so, from which a page was mapped and which runs again, came by a step from the first core to the second:
-- that is where one step comes that has the page mapped before.
abbrev pub StepsOn : Core → Core → Type 0
StepsOn old new = (c : Core) (i : VInstr) (address : ℕ) → TrapsAtAccess c i → old ≡ mapped address (resumed (core_after c [])) → new ≡ core_after (mapped address c) []

-- Such a machine, from which a page was mapped and which runs again, comes by its next step to where one step comes that has the
-- page mapped before.
abbrev pub ResumeLaw : Type 0
ResumeLaw = (c : Core) (i : VInstr) (address : ℕ) → TrapsAtAccess c i → core_after (mapped address (resumed (core_after c []))) [] ≡ core_after (mapped address c) []
