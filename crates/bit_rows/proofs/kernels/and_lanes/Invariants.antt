use Rattle.std.proofs.Common.{◌*◌, bit_and}
use Rattle.bit_rows.proofs.Words.{Joined}
use Rattle.bit_rows.proofs.kernels.and_lanes.Given as goal

abbrev pub invariant-loop-k : goal.invariant-loop-k
invariant-loop-k l = Joined bit_and (l.k * 4) l.fn.into l.with l.into

abbrev pub invariant-loop-i : goal.invariant-loop-i
invariant-loop-i l = Joined bit_and l.i l.fn.into l.with l.into
