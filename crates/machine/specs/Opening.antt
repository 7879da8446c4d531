-- The opening state of an image.
use Rattle.std.specs.Prelude.{ℕ, List}
use Rattle.guest_mem.specs.Pages.{Memory}
use Rattle.guest_mem.specs.Opening.{opened}
use Rattle.guest_mem.specs.declared.regions.Region.{Region}
use Rattle.elf_load.specs.Fields.{entry}
use Rattle.elf_load.specs.Layout.{regions, heap_start, heap_end}
use Rattle.vtype_cfg.specs.declared.configuration.Policy.{Policy}
use Rattle.rvv_meaning.specs.States.{State}
use Rattle.rvv_meaning.specs.Images.{start_state}

-- the memory of regions; the break is at the start of the heap
abbrev pub memory_of : List Region → ℕ → ℕ → Memory
memory_of rs heap limit = record { pages = opened rs; heap = heap; heap_end = limit; brk = heap }

-- the state that a run of an image starts in
unfoldable pub start : (image : List ℕ) (vlen : ℕ) → Policy → (input : List ℕ) → State
start image vlen policy input = start_state vlen policy (entry image) (memory_of (regions image) (heap_start image) (heap_end image)) input
