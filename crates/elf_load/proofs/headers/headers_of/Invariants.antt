use Rattle.std.proofs.Common.{◌≡◌}
use Rattle.std.specs.Prelude.{map}
use Rattle.std.specs.List.{range_with_len}
use Rattle.elf_load.specs.Headers.{header_at}
use Rattle.arrayvec.specs.ArrayVec.{array_vec_len}
use Rattle.elf_load.proofs.headers.headers_of.Given as goal

-- what is found so far are the first headers of the table
abbrev pub invariant-loop-k : goal.invariant-loop-k
invariant-loop-k l = (l.found.items ≡ map (header_at l.image) (range_with_len 0 l.k)) × (array_vec_len l.found ≡ l.k)
