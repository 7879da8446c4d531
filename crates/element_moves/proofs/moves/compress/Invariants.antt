use Rattle.std.proofs.Common.{◌≡◌}
use Rattle.cam_chain.specs.ChainValue.{slices_of}
use Rattle.cam_chain.specs.Views.{registers_of, KeepsRest}
use Rattle.fold_laws.specs.Folds.{count}
use Rattle.rvv_meaning.specs.Whole.{bit_of_vs1}
use Rattle.element_moves.specs.Permutations.{packed}
use Rattle.element_moves.proofs.Coming.{come_to}
use Rattle.element_moves.proofs.moves.compress.Given as goal

abbrev pub invariant-loop-e : goal.invariant-loop-e
invariant-loop-e l = record {
  to : l.to ≡ count l.e (bit_of_vs1 l.i l.cfg 0 (registers_of (slices_of l.fn.chain)));
  vectors : registers_of (slices_of l.chain) ≡ come_to l.cfg (packed l.i l.cfg (registers_of (slices_of l.fn.chain))) (registers_of (slices_of l.fn.chain)) l.to;
  rest : KeepsRest (slices_of l.fn.chain) (slices_of l.chain);
  columns : l.chain.columns ≡ l.fn.chain.columns;
  counts : l.chain.counts ≡ l.fn.chain.counts;
}
