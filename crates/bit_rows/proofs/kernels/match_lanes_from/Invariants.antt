use Rattle.std.proofs.Common.{◌*◌, bit_xor}
use Rattle.bit_rows.specs.Words.{flip_of}
use Rattle.bit_rows.proofs.Words.{Joined}
use Rattle.bit_rows.proofs.kernels.match_lanes_from.Given as goal

abbrev pub invariant-loop-k : goal.invariant-loop-k
invariant-loop-k l = Joined (λ a b. bit_xor b (flip_of l.want)) (l.k * 4) l.fn.into l.row l.into

abbrev pub invariant-loop-i : goal.invariant-loop-i
invariant-loop-i l = Joined (λ a b. bit_xor b (flip_of l.want)) l.i l.fn.into l.row l.into
