use Rattle.std.proofs.Common.{◌≡◌, ℕ, ◌-◌, ◌^◌, ◌<◌, ◌≤◌, length, take, get_or}
use Rattle.guest_mem.specs.Ranges.{range_bytes}
use Rattle.vec_mem.proofs.runs.copy_out.Given as goal

abbrev pub invariant-loop-done : goal.invariant-loop-done
invariant-loop-done l = record {
  within : l.done ≤ length l.into;
  small : (k : ℕ) → get_or l.into k 0 < 2 ^ 8;
  bytes : take l.done l.into ≡ range_bytes l.mem.pages l.address l.done;
}

abbrev pub decreases-loop-done : goal.decreases-loop-done
decreases-loop-done l = length l.fn.into - l.done
