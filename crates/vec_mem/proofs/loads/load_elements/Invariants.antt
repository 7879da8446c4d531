use Rattle.std.proofs.Common.{◌≡◌}
use Rattle.cam_chain.specs.ChainValue.{slices_of}
use Rattle.rvv_meaning.specs.LoadsAndStores.{stop}
use Rattle.vec_mem.specs.Views.{vectors_of}
use Rattle.cam_chain.specs.Views.{KeepsRest}
use Rattle.vec_mem.proofs.Loading.{stop_from}
use Rattle.vec_mem.proofs.Looping.{come_to}
use Rattle.vec_mem.proofs.loads.load_elements.Given as goal

abbrev pub invariant-loop-e : goal.invariant-loop-e
invariant-loop-e l = record {
  vectors : vectors_of l.chain ≡ come_to l.cfg l.access l.base (vectors_of l.fn.chain) l.mem.pages l.e;
  stops : stop l.cfg l.access l.base (vectors_of l.fn.chain) 4 l.mem.pages ≡ stop_from l.cfg l.access l.base (vectors_of l.fn.chain) 4 l.mem.pages l.e;
  rest : KeepsRest (slices_of l.fn.chain) (slices_of l.chain);
  columns : l.chain.columns ≡ l.fn.chain.columns;
  counts : l.chain.counts ≡ l.fn.chain.counts;
}
