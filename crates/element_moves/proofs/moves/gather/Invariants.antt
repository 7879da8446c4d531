use Rattle.std.proofs.Common.{◌≡◌, ◌*◌}
use Rattle.cam_chain.specs.ChainValue.{slices_of}
use Rattle.cam_chain.specs.Views.{registers_of, KeepsRest}
use Rattle.element_moves.specs.Permutations.{gathered_by}
use Rattle.element_moves.proofs.Coming.{come_to}
use Rattle.element_moves.proofs.moves.gather.Given as goal

abbrev pub invariant-loop-e : goal.invariant-loop-e
invariant-loop-e l = record {
  vectors : registers_of (slices_of l.chain) ≡ come_to l.cfg (gathered_by l.i l.cfg (8 * l.index_size) (registers_of (slices_of l.fn.chain))) (registers_of (slices_of l.fn.chain)) l.e;
  rest : KeepsRest (slices_of l.fn.chain) (slices_of l.chain);
  columns : l.chain.columns ≡ l.fn.chain.columns;
  counts : l.chain.counts ≡ l.fn.chain.counts;
}
