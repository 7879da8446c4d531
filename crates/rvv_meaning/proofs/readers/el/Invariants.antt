use Rattle.std.proofs.Common.{◌≡◌, ◌+◌, ◌*◌, ◌<◌, ◌^◌, slice_index_or}
use Rattle.bit_laws.specs.Numbers.{little}
use Rattle.rvv_meaning.proofs.readers.el.Given as goal

-- the number of the bytes so far
abbrev pub invariant-loop-k : goal.invariant-loop-k
invariant-loop-k l = (l.number ≡ little l.k (λ j. slice_index_or l.bytes (l.first + j) 0)) × (l.number < 2 ^ (8 * l.k))
