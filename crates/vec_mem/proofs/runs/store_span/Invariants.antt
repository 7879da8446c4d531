use Rattle.std.proofs.Common.{◌≡◌, ◌+◌, ◌-◌, ◌*◌, ◌≤◌}
use Rattle.bit_laws.specs.Numbers.{low}
use Rattle.bit_laws.specs.Lists.{tabulate}
use Rattle.element_ops.specs.Elements.{group_byte}
use Rattle.guest_mem.specs.Pages.{written}
use Rattle.vec_mem.specs.Views.{vectors_of}
use Rattle.vec_mem.proofs.runs.store_span.Given as goal

abbrev pub invariant-loop-at : goal.invariant-loop-at
invariant-loop-at l = record {
  from : l.from ≤ l.at;
  within : l.at ≤ l.to;
  pages : l.mem.pages ≡ written l.fn.mem.pages (low 32 (l.base + l.from)) (tabulate (l.at - l.from) (λ k. group_byte (4 * l.chain.columns) (vectors_of l.chain) l.first (l.from + k)));
  heap : l.mem.heap ≡ l.fn.mem.heap;
  heap_end : l.mem.heap_end ≡ l.fn.mem.heap_end;
  brk : l.mem.brk ≡ l.fn.mem.brk;
}

abbrev pub decreases-loop-at : goal.decreases-loop-at
decreases-loop-at l = l.to - l.at
