use Rattle.std.proofs.Common.{◌≡◌, ◌-◌}
use Rattle.cam_chain.specs.ChainValue.{slices_of}
use Rattle.vec_mem.specs.Steps.{tail_filled}
use Rattle.vec_mem.specs.Views.{vectors_of}
use Rattle.cam_chain.specs.Views.{KeepsRest}
use Rattle.vec_mem.proofs.loads.fill_tail.Given as goal

abbrev pub invariant-loop-e : goal.invariant-loop-e
invariant-loop-e l = record {
  vectors : vectors_of l.chain ≡ tail_filled l.cfg l.access (vectors_of l.fn.chain) l.access.len (l.e - l.access.len);
  rest : KeepsRest (slices_of l.fn.chain) (slices_of l.chain);
  columns : l.chain.columns ≡ l.fn.chain.columns;
  counts : l.chain.counts ≡ l.fn.chain.counts;
}
