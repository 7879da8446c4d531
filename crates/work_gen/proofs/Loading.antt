-- The image of some words, not too many, has no fault.
use Rattle.std.proofs.Common.{◌≡◌, ℕ, ◌+◌, ◌-◌, ◌*◌, ◌/◌, ◌^◌, ◌<◌, ◌≤◌, max, true, false, List, [], ◌∷◌, ◌++◌, length, None, refl, ap, arith, length-append}
use Rattle.std.specs.Prelude.{nat_lt, not, bit_and}
use Rattle.std.specs.List.{flat_map}
use Rattle.std.proofs.lemmas.Bool.{lt-ltb, le-ltb, and_right, or_from}
use Rattle.std.proofs.lemmas.Bool.Decides.{nat_tests}
use Rattle.guest_mem.specs.declared.spans.Span.{Span}
use Rattle.guest_mem.specs.Spans.{page_numbers, first_page, last_page, meets, is_mapped, page_perms}
use Rattle.elf_load.specs.declared.headers.Header.{Header}
use Rattle.elf_load.specs.declared.faults.LoadFault.{LoadFault}
use Rattle.elf_load.specs.declared.faults.LoadFault.TheVariants.{TooBig, TooShort, HeadersPastEnd, Dynamic, FileszAboveMemsz, SegmentPastFile, SegmentWraps, Overlap, OverStack, TooLarge, NoSegments, BadEntry}
use Rattle.elf_load.specs.Fields.{number_at}
use Rattle.elf_load.specs.Headers.{headers, segments, header_at}
use Rattle.elf_load.specs.Layout.{stack_start, stack_end, top, highest_end, start_after, heap_at, mapped_spans, spans, stack_span, segment_span, page_count}
use Rattle.elf_load.specs.Faults.{fault, faults, first_of, holds, is_none, page_limit}
use Rattle.elf_load.proofs.Counting.{count_from, count_below-is, count_from-le, count_from-none, count_from-split}
use Rattle.elf_load.proofs.FaultOrder.{NoneHolds}
use Rattle.work_gen.specs.Images.{word, base, image_size, image_of, elf_header, program_header}

-- where no sentence holds there is no fault
none-found : (fs : List LoadFault) (image : List ℕ) → NoneHolds fs image → first_of fs image ≡ None
none-found [] image none = refl
none-found (f ∷ fs) image none = rw none.0 (none-found fs image none.1)

length-words : (words : List ℕ) → length (flat_map word words) ≡ 4 * length words
length-words [] = refl
length-words (w ∷ ws) = omega (arith, length-append (word w) (flat_map word ws), length-words ws)

pub length-image_of : (words : List ℕ) → length (image_of words) ≡ image_size (length words)
unfolding image_of
length-image_of words =
    let size = image_size (length words) in
    omega (arith, length-append elf_header (program_header size ++ flat_map word words), length-append (program_header size) (flat_map word words), length-words words)

-- a word at the head of a list is read as its number
word-number : (n : ℕ) → n < 2 ^ 32 → number_at 0 4 (word n) ≡ n
unfolding number_at
word-number n fits = omega arith

-- the program header
abbrev pub segment : ℕ → Header
segment size = record { kind = 1; offset = 0; vaddr = base; filesz = size; memsz = size; flags = 5 }

header-is : (words : List ℕ) → image_size (length words) < 2 ^ 32 → header_at (image_of words) 0 ≡ segment (image_size (length words))
unfolding image_of number_at
header-is words fits = ap segment (word-number (image_size (length words)) fits)

headers-are : (words : List ℕ) → image_size (length words) < 2 ^ 32 → headers (image_of words) ≡ segment (image_size (length words)) ∷ []
unfolding headers image_of number_at
headers-are words fits = ap (λ h. h ∷ []) (header-is words fits)

-- a range meets the pages from its first to its last, and no other
pub meets-before : (page : ℕ) (s : Span) → page < first_page s → meets page s ≡ false
meets-before page s low = grind (arith, nat_tests)

pub meets-past : (page : ℕ) (s : Span) → last_page s < page → meets page s ≡ false
meets-past page s high = grind (arith, nat_tests)

pub meets-within : (page : ℕ) (s : Span) → 0 < s.len → first_page s ≤ page → page ≤ last_page s → meets page s ≡ true
meets-within page s some low high = grind (arith, nat_tests)

-- what is laid out of a segment of so many bytes
module _ (size : ℕ) (some : 84 ≤ size) (few : size ≤ 84 + 2 ^ 24)
  where
    pub heap_from-is : start_after (segment size ∷ []) ≡ (base + size + 4095) / 4096 * 4096
    unfolding start_after highest_end
    heap_from-is = let e : max (base + size) 0 ≡ base + size = omega arith in rw e refl

    -- from the segment and the heap to the stack, and after the stack, nothing is mapped
    unmapped_between : (page : ℕ) → 8400 ≤ page → page < 0x7ff00 → is_mapped (mapped_spans (segment size ∷ [])) page ≡ false
    unfolding mapped_spans
    unmapped_between page low high =
        let start = start_after (segment size ∷ []) in
        let from = heap_from-is in
        or_from _ _ (meets-past page (segment_span (segment size)) (omega arith))
        (or_from _ _ (meets-before page stack_span (omega arith))
        (or_from _ _ (meets-past page (heap_at start) (omega arith)) refl))

    unmapped_after : (page : ℕ) → 0x80000 ≤ page → is_mapped (mapped_spans (segment size ∷ [])) page ≡ false
    unfolding mapped_spans
    unmapped_after page low =
        let start = start_after (segment size ∷ []) in
        let from = heap_from-is in
        or_from _ _ (meets-past page (segment_span (segment size)) (omega arith))
        (or_from _ _ (meets-past page stack_span (omega arith))
        (or_from _ _ (meets-past page (heap_at start) (omega arith)) refl))

    few_pages : page_count (mapped_spans (segment size ∷ [])) ≤ 16384
    unfolding page_count
    few_pages =
        let test = is_mapped (mapped_spans (segment size ∷ [])) in
        let middle : count_from test 8400 (0x7ff00 - 8400) ≡ 0 = count_from-none test 8400 (0x7ff00 - 8400) (λ page low high. unmapped_between page low (omega arith)) in
        let last : count_from test 0x80000 (page_numbers - 0x80000) ≡ 0 = count_from-none test 0x80000 (page_numbers - 0x80000) (λ page low high. unmapped_after page low) in
        omega (
          arith,
          count_below-is page_numbers test,
          count_from-le test 0 8400,
          count_from-le test 0x7ff00 256,
          count_from-split test 0 8400 (page_numbers - 8400) 8400 page_numbers refl refl,
          count_from-split test 8400 (0x7ff00 - 8400) (page_numbers - 0x7ff00) 0x7ff00 (page_numbers - 8400) refl refl,
          count_from-split test 0x7ff00 256 (page_numbers - 0x80000) 0x80000 (page_numbers - 0x7ff00) refl refl,
        )

    executable : bit_and (page_perms (mapped_spans (segment size ∷ [])) 16) 1 ≡ 1
    unfolding mapped_spans page_perms
    executable =
        let from = heap_from-is in
        let start = start_after (segment size ∷ []) in
        let here : meets 16 (segment_span (segment size)) ≡ true = meets-within 16 (segment_span (segment size)) (omega arith) (omega arith) (omega arith) in
        let heap : meets 16 (heap_at start) ≡ false = meets-before 16 (heap_at start) (omega arith) in
        rw (here, heap) refl

-- The faults of the image, in their order.
module _ (words : List ℕ) (some : 1 ≤ length words) (few : length words ≤ 2 ^ 22)
  where
    abbrev size : ℕ
    size = image_size (length words)

    at_least : 84 ≤ size
    at_least = omega arith

    at_most : size ≤ 84 + 2 ^ 24
    at_most = omega arith

    small : size < 2 ^ 32
    small = omega arith

    pub segments-are : segments (image_of words) ≡ segment size ∷ []
    unfolding segments
    segments-are =
        let is : nat_lt 0 size ≡ true = lt-ltb 0 size (omega arith) in
        rw (headers-are words small, is) refl

    spans-are : spans (image_of words) ≡ mapped_spans (segment size ∷ [])
    unfolding spans
    spans-are = ap mapped_spans segments-are

    not_long : holds TooBig (image_of words) ≡ false
    not_long = le-ltb _ _ (omega (arith, length-image_of words))

    not_short : holds TooShort (image_of words) ≡ false
    not_short = le-ltb _ _ (omega (arith, length-image_of words))

    headers_inside : holds HeadersPastEnd (image_of words) ≡ false
    unfolding image_of number_at
    headers_inside = and_right true (nat_lt (length (image_of words)) 84) (le-ltb (length (image_of words)) 84 (omega (arith, length-image_of words)))

    not_dynamic : holds Dynamic (image_of words) ≡ false
    not_dynamic = rw (headers-are words small) refl

    not_above : holds FileszAboveMemsz (image_of words) ≡ false
    not_above = rw (headers-are words small) (or_from _ _ (and_right true (nat_lt size size) (le-ltb size size (omega arith))) refl)

    not_past : holds SegmentPastFile (image_of words) ≡ false
    not_past = rw (segments-are, length-image_of words) (or_from _ _ (and_right (nat_lt 0 size) (nat_lt size (0 + size)) (le-ltb size (0 + size) (omega arith))) refl)

    not_wrapping : holds SegmentWraps (image_of words) ≡ false
    not_wrapping = rw segments-are (or_from _ _ (le-ltb top (base + size) (omega arith)) refl)

    not_overlapping : holds Overlap (image_of words) ≡ false
    not_overlapping = rw segments-are refl

    not_over : holds OverStack (image_of words) ≡ false
    not_over = rw segments-are (or_from _ _ (and_right (nat_lt base stack_end) (nat_lt stack_start (base + size)) (le-ltb stack_start (base + size) (omega arith))) refl)

    not_large : holds TooLarge (image_of words) ≡ false
    not_large =
        and_right (not (is_none (segments (image_of words)))) (nat_lt page_limit (page_count (spans (image_of words)))) (rw spans-are (le-ltb page_limit (page_count (mapped_spans (segment size ∷ []))) (few_pages size at_least at_most)))

    not_none : holds NoSegments (image_of words) ≡ false
    not_none = rw segments-are refl

    good_entry : holds BadEntry (image_of words) ≡ false
    unfolding image_of number_at
    good_entry = or_from _ _ refl (rw (spans-are, executable size at_least at_most) refl)

    none_holds : NoneHolds faults (image_of words)
    unfolding image_of number_at
    none_holds = (
      not_long,
      (
        not_short,
        (
          refl,
          (
            refl,
            (
              refl,
              (
                refl,
                (
                  refl,
                  (
                    refl,
                    (
                      refl,
                      (
                        refl,
                        (
                          refl,
                          (
                            headers_inside,
                            (not_dynamic, (not_above, (not_past, (not_wrapping, (not_overlapping, (not_over, (not_large, (not_none, (good_entry, tt))))))))),
                          ),
                        ),
                      ),
                    ),
                  ),
                ),
              ),
            ),
          ),
        ),
      ),
    )

    pub fault-image_of : fault (image_of words) ≡ None
    unfolding fault
    fault-image_of = none-found faults (image_of words) none_holds
