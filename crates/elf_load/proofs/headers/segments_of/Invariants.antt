use Rattle.std.proofs.Common.{◌≡◌, ◌≤◌, take}
use Rattle.std.specs.Prelude.{filter}
use Rattle.elf_load.specs.Headers.{is_segment}
use Rattle.arrayvec.specs.ArrayVec.{array_vec_len}
use Rattle.elf_load.proofs.headers.segments_of.Given as goal

-- what is found so far are the segments of the headers that were passed
abbrev pub invariant-loop-h : goal.invariant-loop-h
invariant-loop-h l = (l.found.items ≡ filter is_segment (take l.h-index l.headers)) × (array_vec_len l.found ≤ l.h-index)
