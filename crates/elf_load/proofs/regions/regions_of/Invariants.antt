use Rattle.std.proofs.Common.{◌≡◌, take}
use Rattle.std.specs.Prelude.{map}
use Rattle.elf_load.specs.Layout.{segment_region}
use Rattle.elf_load.proofs.regions.regions_of.Given as goal

-- the regions of the segments that were passed
abbrev pub invariant-loop-h : goal.invariant-loop-h
invariant-loop-h l = l.regions.items ≡ map (segment_region l.image) (take l.h-index l.segments)
