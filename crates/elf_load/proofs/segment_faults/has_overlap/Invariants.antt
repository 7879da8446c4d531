use Rattle.std.proofs.Common.{◌≡◌, drop}
use Rattle.elf_load.specs.Faults.{any_overlap}
use Rattle.elf_load.proofs.segment_faults.has_overlap.Given as goal

-- what was passed has no overlap, so the rest decides
abbrev pub invariant-loop-k : goal.invariant-loop-k
invariant-loop-k l = any_overlap (drop l.k l.segments) ≡ any_overlap l.segments
