use Rattle.std.proofs.Common.{◌≡◌}
use Rattle.bit_laws.specs.Lists.{tabulate}
use Rattle.guest_mem.specs.Pages.{written}
use Rattle.rvv_meaning.specs.LoadsAndStores.{byte_stored}
use Rattle.vec_mem.specs.Views.{vectors_of}
use Rattle.vec_mem.proofs.stores.store_bytes.Given as goal

abbrev pub invariant-loop-k : goal.invariant-loop-k
invariant-loop-k l = record {
  pages : l.mem.pages ≡ written l.fn.mem.pages l.address (tabulate l.k (byte_stored l.cfg l.access (vectors_of l.chain) l.e));
  heap : l.mem.heap ≡ l.fn.mem.heap;
  heap_end : l.mem.heap_end ≡ l.fn.mem.heap_end;
  brk : l.mem.brk ≡ l.fn.mem.brk;
}
