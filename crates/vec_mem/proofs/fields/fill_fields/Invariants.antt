use Rattle.std.proofs.Common.{◌≡◌, ◌*◌}
use Rattle.cam_chain.specs.ChainValue.{slices_of}
use Rattle.vec_mem.specs.Steps.{fields_written, ones_of}
use Rattle.vec_mem.specs.Views.{vectors_of}
use Rattle.cam_chain.specs.Views.{KeepsRest}
use Rattle.vec_mem.proofs.fields.fill_fields.Given as goal

abbrev pub invariant-loop-f : goal.invariant-loop-f
invariant-loop-f l = record {
  vectors : vectors_of l.chain ≡ fields_written (4 * l.fn.chain.columns) (vectors_of l.fn.chain) l.first (8 * l.size) l.per l.e (ones_of (8 * l.size)) l.f;
  rest : KeepsRest (slices_of l.fn.chain) (slices_of l.chain);
  columns : l.chain.columns ≡ l.fn.chain.columns;
  counts : l.chain.counts ≡ l.fn.chain.counts;
}
