use Rattle.cape_top.proofs.ReadLemmas.{loaded_of, fault_of, stop_of}
use Rattle.cape_top.proofs.loading.load_image.Goals as goal

pub returns-in-Ok-clause-loaded : goal.returns-in-Ok-clause-loaded
returns-in-Ok-clause-loaded g c =
    loaded_of _ c.in_ok-image.image.items c.in-Ok.loaded c.in_ok-image.ensures.read
    record {
      sound = rw (← c.deref.ensures.value) c.in-Ok.ensures.sound;
      entry_pc = rw (← c.deref.ensures.value) c.in-Ok.ensures.entry;
      regions_are = rw (← c.deref.ensures.value) c.in-Ok.ensures.regions;
      heap_is = rw (← c.deref.ensures.value) c.in-Ok.ensures.heap;
      heap_end_is = rw (← c.deref.ensures.value) c.in-Ok.ensures.heap_end;
    }

pub returns-clause-refused : goal.returns-clause-refused
returns-clause-refused g c = stop_of _ _ (λ f is.
    let said = c.stop_for.ensures.refused f is in
    fault_of _ c.in_ok-image.image.items f c.in_ok-image.ensures.read (rw (← c.deref.ensures.value, said.0) (c.in-Err.ensures.refused said.1)))
