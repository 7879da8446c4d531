use Rattle.cape_top.proofs.BenchLemmas.{workload_opens_if}
use Rattle.cape_top.proofs.workloads.machine_for.Goals as goal

pub returns-in-Ok-clause-opens : goal.returns-in-Ok-clause-opens
returns-in-Ok-clause-opens c =
    workload_opens_if c.args.workload c.in-Ok.loaded c.new.result
    record {
      sound = rw (c.as_slice.ensures, c.in_ok-image.ensures.bytes) at c.in-Ok.ensures.sound;
      entry_pc = rw (c.as_slice.ensures, c.in_ok-image.ensures.bytes) at c.in-Ok.ensures.entry;
      regions_are = rw (c.as_slice.ensures, c.in_ok-image.ensures.bytes) at c.in-Ok.ensures.regions;
      heap_is = rw (c.as_slice.ensures, c.in_ok-image.ensures.bytes) at c.in-Ok.ensures.heap;
      heap_end_is = rw (c.as_slice.ensures, c.in_ok-image.ensures.bytes) at c.in-Ok.ensures.heap_end;
    }
    c.new.ensures.core c.new.ensures.slices c.new.ensures.last c.new.ensures.counts c.new.ensures.control
