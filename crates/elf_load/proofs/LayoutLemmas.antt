-- What is laid out of segments that have no fault: ranges that share no byte, a heap of whole pages after the segments.
use Rattle.std.proofs.Common.{◌≡◌, ℕ, length, drop, get_or, ◌+◌, ◌-◌, ◌%◌, ◌<◌, ◌≤◌, max, ◌⊎◌, true, false, ◌&&◌, List, [], ◌∷◌, ◌++◌, refl, ap, ◌∙◌, inl, inr, arith, add-one}
use Rattle.std.specs.Prelude.{map, filter, nat_lt, nat_le}
use Rattle.std.specs.List.{list_any, list_all}
use Rattle.std.proofs.lemmas.Bool.{and_parts, and_cases, and_from, or_parts, or_left, or_right, ltb-false, leb-true, leb-false, cond-true, cond-false, le-leb, cases_Bool, cases_lt, both_ways}
use Rattle.std.proofs.lemmas.List.{length-take, map-append, drop_all}
use Rattle.std.proofs.Math.Seq.{drop-cons}
use Rattle.std.proofs.lemmas.Simd.{map-map}
use Rattle.std.proofs.lemmas.List.Folds.{list_all-append, list_all-map}
use Rattle.elf_load.specs.declared.headers.Header.{Header}
use Rattle.guest_mem.specs.declared.spans.Span.{Span}
use Rattle.elf_load.specs.Headers.{segments, headers, is_segment, is_load, end_of}
use Rattle.guest_mem.specs.Pages.{page_size}
use Rattle.guest_mem.specs.Spans.{span_of}
use Rattle.elf_load.specs.Layout.{stack_start, stack_end, top, heap_size, highest_end, rounded_up, start_after, heap_start, heap_bound, heap_limit, segment_span, stack_span, heap_at, heap_span, mapped_spans, spans, apart, all_apart, none_wraps, ends_inside, bytes_fit, region_fits, region_of, segment_region, regions}
use Rattle.elf_load.specs.Faults.{any_wraps, any_overlap, any_over_stack, any_above_memsz, overlaps, is_over_stack}

-- segments that end below the top, share no byte, and have none of the stack
pub record AreSound (hs : List Header) : Type 0 where
  pub below : any_wraps hs ≡ false
  pub disjoint : any_overlap hs ≡ false
  pub beside : any_over_stack hs ≡ false

-- Where the segments end.

pub highest_end-le : (hs : List Header) → any_wraps hs ≡ false → highest_end hs ≤ top
unfolding highest_end
highest_end-le [] e = omega arith
highest_end-le (h ∷ hs) e =
    let both = or_parts (nat_lt top (end_of h)) (any_wraps hs) e in
    omega (arith, ltb-false top (end_of h) both.0, highest_end-le hs both.1)

-- a segment lies below the stack or above it
segment-beside : (h : Header) → is_over_stack h ≡ false → (stack_end ≤ h.vaddr) ⊎ (end_of h ≤ stack_start)
segment-beside h e =
    elim (and_cases (nat_lt h.vaddr stack_end) (nat_lt stack_start (end_of h)) e) as (λ _. (stack_end ≤ h.vaddr) ⊎ (end_of h ≤ stack_start)) [
      | inl above ↦ inl (ltb-false h.vaddr stack_end above)
      | inr below ↦ inr (ltb-false stack_start (end_of h) below)
    ]

pub highest_end-beside : (hs : List Header) → any_over_stack hs ≡ false → (highest_end hs ≤ stack_start) ⊎ (stack_end ≤ highest_end hs)
unfolding highest_end
highest_end-beside [] e = inl (omega arith)
highest_end-beside (h ∷ hs) e =
    let both = or_parts (is_over_stack h) (any_over_stack hs) e in
    elim (segment-beside h both.0) as (λ _. (max (end_of h) (highest_end hs) ≤ stack_start) ⊎ (stack_end ≤ max (end_of h) (highest_end hs))) [
      | inl above ↦ inr (omega arith)
      | inr below ↦ elim (highest_end-beside hs both.1) as (λ _. (max (end_of h) (highest_end hs) ≤ stack_start) ⊎ (stack_end ≤ max (end_of h) (highest_end hs))) [
        | inl rest ↦ inl (omega arith)
        | inr rest ↦ inr (omega arith)
      ]
    ]

-- The heap, for the address after the segments.

pub rounded_up-ge : (n : ℕ) → n ≤ rounded_up n
rounded_up-ge n = omega arith

pub rounded_up-le : (n : ℕ) → n ≤ top → rounded_up n ≤ top
rounded_up-le n low = omega arith

pub rounded_up-stack : (n : ℕ) → n ≤ stack_start → rounded_up n ≤ stack_start
rounded_up-stack n low = omega arith

pub rounded_up-mod : (n : ℕ) → rounded_up n % page_size ≡ 0
rounded_up-mod n = omega arith

pub record IsHeapBound (start : ℕ) : Type 0 where
  pub after : start ≤ heap_bound start
  pub below : heap_bound start ≤ top
  pub aligned : heap_bound start % page_size ≡ 0
  pub beside : start ≤ stack_start → heap_bound start ≡ stack_start

pub heap_bound-is : (start : ℕ) → start ≤ top → IsHeapBound start
heap_bound-is start low =
    elim (cases_Bool (nat_le start stack_start)) as (λ _. IsHeapBound start) [
      | inl under ↦
          let is : heap_bound start ≡ stack_start = cond-true (nat_le start stack_start) stack_start top under in
          let from : start ≤ stack_start = leb-true start stack_start under in
          record { after = omega arith; below = omega arith; aligned = rw is refl; beside = λ _. is }
      | inr over ↦
          let is : heap_bound start ≡ top = cond-false (nat_le start stack_start) stack_start top over in
          let from : stack_start < start = leb-false start stack_start over in
          record { after = omega arith; below = omega arith; aligned = rw is refl; beside = λ low. absurd (omega arith) }
    ]

pub heap_limit-ge : (start : ℕ) → start ≤ top → start ≤ heap_limit start
heap_limit-ge start low = let bound = heap_bound-is start low in let after : start ≤ heap_bound start = bound.after in omega arith

pub heap_limit-le : (start : ℕ) → start ≤ top → heap_limit start ≤ top
heap_limit-le start low = let bound = heap_bound-is start low in let below : heap_bound start ≤ top = bound.below in omega arith

pub heap_limit-mod : (start : ℕ) → start ≤ top → start % page_size ≡ 0 → heap_limit start % page_size ≡ 0
heap_limit-mod start low whole =
    let bound = heap_bound-is start low in
    let aligned : heap_bound start % page_size ≡ 0 = bound.aligned in
    let size_aligned : (start + heap_size) % page_size ≡ 0 = omega arith in
    elim (cases_lt (start + heap_size) (heap_bound start)) as (λ _. heap_limit start % page_size ≡ 0) [
      | inl under ↦ let is : heap_limit start ≡ start + heap_size = omega arith in rw is size_aligned
      | inr over ↦ let is : heap_limit start ≡ heap_bound start = omega arith in rw is aligned
    ]

pub heap_at-beside : (start : ℕ) → start ≤ top → (start ≤ stack_start) ⊎ (stack_end ≤ start) → apart stack_span (heap_at start) ≡ true
heap_at-beside start low beside =
    elim beside as (λ _. apart stack_span (heap_at start) ≡ true) [
      | inl under ↦
          let bound = heap_bound-is start low in
          let is : heap_bound start ≡ stack_start = bound.beside under in
          let ends : start + (heap_limit start - start) ≤ stack_start = omega (arith, bound.after) in
          or_left _ _ (or_left _ _ (or_right _ _ (le-leb _ _ ends)))
      | inr over ↦ or_left _ _ (or_left _ _ (or_left _ _ (le-leb _ _ over)))
    ]

-- Ranges that share no byte.

-- the heap's start is after each segment, and off the stack
pub record IsAfter (hs : List Header) (heap : Span) : Type 0 where
  pub after : highest_end hs ≤ heap.start
  pub off_stack : apart stack_span heap ≡ true

segment-apart : (a b : Header) → overlaps a b ≡ false → apart (segment_span a) (segment_span b) ≡ true
segment-apart a b e =
    elim (and_cases (nat_lt a.vaddr (end_of b)) (nat_lt b.vaddr (end_of a)) e) as (λ _. apart (segment_span a) (segment_span b) ≡ true) [
      | inl after ↦ or_left _ _ (or_left _ _ (or_right _ _ (le-leb _ _ (ltb-false a.vaddr (end_of b) after))))
      | inr before ↦ or_left _ _ (or_left _ _ (or_left _ _ (le-leb _ _ (ltb-false b.vaddr (end_of a) before))))
    ]

segments-apart : (h : Header) (hs : List Header) → list_any (overlaps h) hs ≡ false → list_all (λ x. apart (segment_span h) (segment_span x)) hs ≡ true
segments-apart h [] e = refl
segments-apart h (x ∷ hs) e =
    let both = or_parts (overlaps h x) (list_any (overlaps h) hs) e in
    and_from _ _ (segment-apart h x both.0) (segments-apart h hs both.1)

segment-off_stack : (h : Header) → is_over_stack h ≡ false → apart (segment_span h) stack_span ≡ true
segment-off_stack h e =
    elim (segment-beside h e) as (λ _. apart (segment_span h) stack_span ≡ true) [
      | inl above ↦ or_left _ _ (or_left _ _ (or_right _ _ (le-leb _ _ above)))
      | inr below ↦ or_left _ _ (or_left _ _ (or_left _ _ (le-leb _ _ below)))
    ]

pub all_apart-mapped : (hs : List Header) (heap : Span) → any_overlap hs ≡ false → any_over_stack hs ≡ false → IsAfter hs heap
    → all_apart (map segment_span hs ++ stack_span ∷ heap ∷ []) ≡ true
unfolding all_apart highest_end
all_apart-mapped [] heap disjoint beside after = and_from _ _ (and_from _ _ after.off_stack refl) refl
all_apart-mapped (h ∷ hs) heap disjoint beside after =
    let pairs = or_parts (list_any (overlaps h) hs) (any_overlap hs) disjoint in
    let stacks = or_parts (is_over_stack h) (any_over_stack hs) beside in
    let from : max (end_of h) (highest_end hs) ≤ heap.start = after.after in
    let ends_before : end_of h ≤ heap.start = omega arith in
    let last : apart (segment_span h) heap ≡ true = or_left _ _ (or_left _ _ (or_left _ _ (le-leb _ _ ends_before))) in
    let others : list_all (apart (segment_span h)) (map segment_span hs) ≡ true = list_all-map (apart (segment_span h)) segment_span hs ∙ segments-apart h hs pairs.0 in
    let ends : list_all (apart (segment_span h)) (stack_span ∷ heap ∷ []) ≡ true = and_from _ _ (segment-off_stack h stacks.0) (and_from _ _ last refl) in
    let here : list_all (apart (segment_span h)) (map segment_span hs ++ stack_span ∷ heap ∷ []) ≡ true =
    list_all-append (apart (segment_span h)) (map segment_span hs) (stack_span ∷ heap ∷ []) ∙ and_from _ _ others ends in
    and_from _ _ here (all_apart-mapped hs heap pairs.1 stacks.1 (record { after = omega arith; off_stack = after.off_stack }))

pub start_after-le : (hs : List Header) → AreSound hs → start_after hs ≤ top
unfolding start_after
start_after-le hs sound = rounded_up-le (highest_end hs) (highest_end-le hs sound.below)

pub start_after-mod : (hs : List Header) → start_after hs % page_size ≡ 0
unfolding start_after
start_after-mod hs = rounded_up-mod (highest_end hs)

pub IsAfter-heap_at : (hs : List Header) → AreSound hs → IsAfter hs (heap_at (start_after hs))
unfolding start_after
IsAfter-heap_at hs sound = record {
  after = rounded_up-ge (highest_end hs);
  off_stack = heap_at-beside (rounded_up (highest_end hs)) (rounded_up-le (highest_end hs) (highest_end-le hs sound.below))
      (elim (highest_end-beside hs sound.beside) as (λ _. (rounded_up (highest_end hs) ≤ stack_start) ⊎ (stack_end ≤ rounded_up (highest_end hs))) [
        | inl under ↦ inl (rounded_up-stack (highest_end hs) under)
        | inr over ↦ inr (omega (arith, rounded_up-ge (highest_end hs)))
      ]);
}

pub all_apart-mapped_spans : (hs : List Header) → AreSound hs → all_apart (mapped_spans hs) ≡ true
unfolding mapped_spans
all_apart-mapped_spans hs sound = all_apart-mapped hs (heap_at (start_after hs)) sound.disjoint sound.beside (IsAfter-heap_at hs sound)

-- Ranges that do not wrap.

segments-inside : (hs : List Header) → any_wraps hs ≡ false → list_all (λ h. ends_inside (segment_span h)) hs ≡ true
segments-inside [] e = refl
segments-inside (h ∷ hs) e =
    let both = or_parts (nat_lt top (end_of h)) (any_wraps hs) e in
    and_from _ _ (le-leb _ _ (omega (arith, ltb-false top (end_of h) both.0))) (segments-inside hs both.1)

pub none_wraps-mapped_spans : (hs : List Header) → AreSound hs → none_wraps (mapped_spans hs) ≡ true
unfolding mapped_spans
none_wraps-mapped_spans hs sound =
    let start = start_after hs in
    let low : start ≤ top = start_after-le hs sound in
    let segments_end : list_all ends_inside (map segment_span hs) ≡ true = list_all-map ends_inside segment_span hs ∙ segments-inside hs sound.below in
    let heap_ends : ends_inside (heap_at start) ≡ true = le-leb _ _ (omega (arith, heap_limit-ge start low, heap_limit-le start low)) in
    list_all-append ends_inside (map segment_span hs) (stack_span ∷ heap_at start ∷ []) ∙ and_from _ _ segments_end (and_from _ _ refl (and_from _ _ heap_ends refl))

-- The regions.

-- the range of the region of a range is that range
pub map-span_of-regions : (image : List ℕ) → map span_of (regions image) ≡ spans image
unfolding regions spans mapped_spans heap_start
map-span_of-regions image =
    map-append span_of (map (segment_region image) (segments image)) _ ∙ ap (λ ss. ss ++ stack_span ∷ heap_at (start_after (segments image)) ∷ []) (map-map span_of (segment_region image) (segments image))

segment_region-fits : (image : List ℕ) (h : Header) → h.filesz ≤ h.memsz → region_fits (segment_region image h) ≡ true
segment_region-fits image h low = le-leb _ _ (omega (arith, length-take h.filesz (drop h.offset image)))

segments-fit : (image : List ℕ) (hs : List Header) → any_above_memsz hs ≡ false → list_all (λ h. region_fits (segment_region image h)) (filter is_segment hs) ≡ true
segments-fit image [] e = refl
segments-fit image (h ∷ hs) e =
    let both = or_parts (is_load h && nat_lt h.memsz h.filesz) (any_above_memsz hs) e in
    let rest : list_all (λ x. region_fits (segment_region image x)) (filter is_segment hs) ≡ true = segments-fit image hs both.1 in
    elim (cases_Bool (is_segment h)) as (λ _. list_all (λ x. region_fits (segment_region image x)) (filter is_segment (h ∷ hs)) ≡ true) [
      | inl is ↦
          let load : is_load h ≡ true = (and_parts (is_load h) (nat_lt 0 h.memsz) is).0 in
          let below : h.filesz ≤ h.memsz =
          elim (and_cases (is_load h) (nat_lt h.memsz h.filesz) both.0) as (λ _. h.filesz ≤ h.memsz) [
            | inl other ↦ absurd (both_ways (is_load h) other load)
            | inr low ↦ ltb-false h.memsz h.filesz low
          ] in
          rw is (and_from _ _ (segment_region-fits image h below) rest)
      | inr other ↦ rw other rest
    ]

pub bytes_fit-regions : (image : List ℕ) → any_above_memsz (headers image) ≡ false → bytes_fit (regions image) ≡ true
unfolding regions segments
bytes_fit-regions image e =
    let ours : list_all region_fits (map (segment_region image) (filter is_segment (headers image))) ≡ true =
    list_all-map region_fits (segment_region image) (filter is_segment (headers image)) ∙ segments-fit image (headers image) e in
    let heap_fits : region_fits (region_of (heap_span image) []) ≡ true = le-leb 0 _ (omega arith) in
    list_all-append region_fits (map (segment_region image) (filter is_segment (headers image))) (region_of stack_span [] ∷ region_of (heap_span image) [] ∷ [])
    ∙ and_from _ _ ours (and_from _ _ refl (and_from _ _ heap_fits refl))

-- the steps of the loop for the highest end, and of the heap's bounds
pub highest_end-more : (hs : List Header) (k : ℕ) (d : Header) (end : ℕ) → k < length hs
    → max (max end (end_of (get_or hs k d))) (highest_end (drop (k + 1) hs)) ≡ max end (highest_end (drop k hs))
unfolding highest_end
highest_end-more hs k d end within = rw (drop-cons hs k d, add-one k) (omega arith)

pub highest_end-done : (hs : List Header) (k : ℕ) → length hs ≤ k → highest_end (drop k hs) ≡ 0
unfolding highest_end
highest_end-done hs k done = rw (drop_all k hs done) refl

pub start_after-is : (hs : List Header) → start_after hs ≡ rounded_up (highest_end hs)
unfolding start_after
start_after-is hs = refl

pub ruleset highest_end_steps = (highest_end-more, highest_end-done)

pub ruleset heap_steps = (highest_end-le, start_after-is)
