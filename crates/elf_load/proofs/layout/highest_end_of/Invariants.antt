use Rattle.std.proofs.Common.{◌≡◌, drop, max}
use Rattle.elf_load.specs.Layout.{highest_end}
use Rattle.elf_load.proofs.layout.highest_end_of.Given as goal

-- the highest end so far, and that of the segments that are left, make the whole
abbrev pub invariant-loop-h : goal.invariant-loop-h
invariant-loop-h l = max l.end (highest_end (drop l.h-index l.segments)) ≡ highest_end l.segments
