use Rattle.std.proofs.Common.{◌≡◌, ℕ, ◌+◌, ◌*◌, ◌%◌, ◌<◌, get_or}
use Rattle.register_bytes.proofs.lanes.scatter.Given as goal

abbrev pub invariant-loop-c : goal.invariant-loop-c
invariant-loop-c l = record {
  done : (k : ℕ) → k < l.c → get_or l.into (4 * k + l.place) 0 ≡ get_or l.lane k 0;
  others : (j : ℕ) → (j % 4 ≡ l.place → ⊥) → get_or l.into j 0 ≡ get_or l.fn.into j 0;
}
