use Rattle.std.proofs.Common.{◌≡◌, take}
use Rattle.std.specs.Prelude.{map}
use Rattle.elf_load.specs.Layout.{segment_span}
use Rattle.arrayvec.specs.ArrayVec.{array_vec_len}
use Rattle.elf_load.proofs.layout.spans_of.Given as goal

-- the ranges of the segments that were passed
abbrev pub invariant-loop-h : goal.invariant-loop-h
invariant-loop-h l = (l.spans.items ≡ map segment_span (take l.h-index l.segments)) × (array_vec_len l.spans ≡ l.h-index)
