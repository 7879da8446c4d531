use Rattle.std.proofs.Common.{◌≡◌}
use Rattle.cam_chain.specs.ChainValue.{slices_of}
use Rattle.cam_chain.specs.Views.{registers_of, KeepsRest}
use Rattle.element_moves.proofs.Filling.{filled}
use Rattle.element_moves.proofs.destinations.fill_from.Given as goal

abbrev pub invariant-loop-e : goal.invariant-loop-e
invariant-loop-e l = record {
  vectors : registers_of (slices_of l.chain) ≡ filled l.i l.cfg (registers_of (slices_of l.fn.chain)) l.from l.e;
  rest : KeepsRest (slices_of l.fn.chain) (slices_of l.chain);
  columns : l.chain.columns ≡ l.fn.chain.columns;
  counts : l.chain.counts ≡ l.fn.chain.counts;
}
