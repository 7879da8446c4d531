use Rattle.std.proofs.Common.{◌≡◌, ℕ, ◌+◌, ◌-◌, List, None, ◌∙◌, ap, arith}
use Rattle.guest_mem.specs.declared.spans.Span.{Span}
use Rattle.elf_load.specs.Layout.{regions, heap_start, heap_end, heap_limit, heap_span}
use Rattle.elf_load.specs.Faults.{fault}
use Rattle.elf_load.proofs.FaultOrder.{length-no_fault, any_past_file-no_fault, entry-no_fault, all_apart-no_fault, none_wraps-no_fault, bytes_fit-no_fault, heap_start-no_fault, heap_end-no_fault, heap_end-is}
use Rattle.elf_load.proofs.loading.lay_out.Goals as goal

-- the heap ends where its start and its length say
heap_ends : (image : List ℕ) (heap : Span) → fault image ≡ None → heap ≡ heap_span image → heap.start + heap.len ≡ heap_end image
heap_ends image heap none is =
    let ends : heap_start image + (heap_limit (heap_start image) - heap_start image) ≡ heap_end image =
    omega (arith, heap_end-is image, (heap_end-no_fault image none).0) in
    rw is ends

pub regions_of-requires-clause-in_file : goal.regions_of-requires-clause-in_file
regions_of-requires-clause-in_file c = rw c.requires.segments (any_past_file-no_fault c.args.image.now c.requires.sound)

pub u32_at-requires : goal.u32_at-requires
u32_at-requires c = omega (arith, length-no_fault c.args.image.now c.requires.sound)

pub invariant_of-result : goal.invariant_of-result
invariant_of-result c =
    let image = c.args.image.now in
    let none = c.requires.sound in
    let regions_are : c.new.result ≡ regions image = c.new.ensures ∙ c.in_ok-regions.ensures in
    let starts : c.args.heap.start ≡ heap_start image = ap (λ (s : Span). s.start) c.requires.heap in
    let ends : c.args.heap.start + c.args.heap.len ≡ heap_end image = heap_ends image c.args.heap none c.requires.heap in
    let start = heap_start-no_fault image none in
    let end = heap_end-no_fault image none in
    record {
      aligned = rw c.u32_at.ensures (entry-no_fault image none);
      apart = rw regions_are (all_apart-no_fault image none);
      inside = rw regions_are (none_wraps-no_fault image none);
      fits = rw regions_are (bytes_fit-no_fault image none);
      heap_aligned = rw starts start.1;
      heap_end_aligned = rw ends end.2;
      ordered = omega (arith, starts, ends, end.0);
    }

pub returns-clause-heap_end : goal.returns-clause-heap_end
returns-clause-heap_end c = heap_ends c.args.image.now c.args.heap c.requires.sound c.requires.heap
