use Rattle.std.proofs.Common.{◌≡◌, ℕ, ◌+◌, ◌-◌, ◌%◌, ◌^◌, ◌≤◌, List, length}
use Rattle.std.specs.Io.KnownBytes.{Consumes}
use Rattle.guest_mem.specs.Pages.{written}
use Rattle.guest_env.proofs.reads.fill.Given as goal

abbrev pub invariant-loop-left : goal.invariant-loop-left
invariant-loop-left g l = record {
  moved : (taken : List ℕ) × (length taken ≡ l.fn.count - l.left) × Consumes (g.S.Source.left l.initial.input) (g.S.Source.left l.input) taken × (l.mem ≡ record l.initial.mem { pages = written l.initial.mem.pages l.fn.address taken });
  at : l.at ≡ (l.fn.address + (l.fn.count - l.left)) % 2 ^ 32;
  inside : l.left ≤ l.fn.count;
  stays : l.fn.count ≡ 0 → l.input ≡ l.initial.input;
  quiet : g.S.Source.faults l.input ≡ g.S.Source.faults l.initial.input;
}

abbrev pub decreases-loop-left : goal.decreases-loop-left
decreases-loop-left g l = l.left
