use Rattle.std.proofs.Common.{◌≡◌, take}
use Rattle.elf_load.specs.Layout.{page_count}
use Rattle.elf_load.proofs.spans.pages_met.Given as goal

-- the pages of the ranges that were passed
abbrev pub invariant-loop-k : goal.invariant-loop-k
invariant-loop-k l = l.count ≡ page_count (take l.k l.spans)
