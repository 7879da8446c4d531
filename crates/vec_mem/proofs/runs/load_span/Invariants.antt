use Rattle.std.proofs.Common.{◌≡◌, ℕ, ◌-◌, ◌*◌, ◌^◌, ◌<◌, ◌≤◌}
use Rattle.cam_chain.specs.ChainValue.{slices_of}
use Rattle.cam_chain.specs.Views.{KeepsRest}
use Rattle.vec_mem.specs.Runs.{with_run, byte_after}
use Rattle.vec_mem.specs.Views.{vectors_of}
use Rattle.vec_mem.proofs.runs.load_span.Given as goal

abbrev pub invariant-loop-at : goal.invariant-loop-at
invariant-loop-at l = record {
  from : l.from ≤ l.at;
  within : l.at ≤ l.to;
  vectors : vectors_of l.chain ≡ with_run (4 * l.fn.chain.columns) (vectors_of l.fn.chain) l.first l.from l.at (byte_after l.mem.pages l.base);
  bytes : (p : ℕ) → l.from ≤ p → p < l.at → byte_after l.mem.pages l.base p < 2 ^ 8;
  rest : KeepsRest (slices_of l.fn.chain) (slices_of l.chain);
  columns : l.chain.columns ≡ l.fn.chain.columns;
  counts : l.chain.counts ≡ l.fn.chain.counts;
}

abbrev pub decreases-loop-at : goal.decreases-loop-at
decreases-loop-at l = l.to - l.at
