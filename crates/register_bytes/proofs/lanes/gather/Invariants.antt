use Rattle.std.proofs.Common.{◌≡◌, ℕ, ◌+◌, ◌*◌, ◌<◌, ◌≤◌, length, get_or}
use Rattle.register_bytes.proofs.lanes.gather.Given as goal

abbrev pub invariant-loop-c : goal.invariant-loop-c
invariant-loop-c l = record {
  len : length l.lane ≡ 2048;
  done : (k : ℕ) → k < l.c → get_or l.lane k 0 ≡ get_or l.bytes (4 * k + l.place) 0;
  todo : (k : ℕ) → l.c ≤ k → get_or l.lane k 0 ≡ 0;
}
