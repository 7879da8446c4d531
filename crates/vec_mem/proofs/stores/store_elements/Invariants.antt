use Rattle.std.proofs.Common.{◌≡◌}
use Rattle.vec_mem.specs.Steps.{Fits}
use Rattle.vec_mem.specs.Views.{vectors_of}
use Rattle.vec_mem.proofs.Storing.{Stores}
use Rattle.vec_mem.proofs.stores.store_elements.Given as goal

abbrev pub invariant-loop-e : goal.invariant-loop-e
invariant-loop-e l = record {
  stores : (f : Fits l.cfg l.access) → Stores l.cfg l.access f l.base (vectors_of l.chain) l.fn.mem.pages l.mem.pages l.e;
  heap : l.mem.heap ≡ l.fn.mem.heap;
  heap_end : l.mem.heap_end ≡ l.fn.mem.heap_end;
  brk : l.mem.brk ≡ l.fn.mem.brk;
}
