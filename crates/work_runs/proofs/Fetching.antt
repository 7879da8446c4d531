-- What is fetched of the memory of an image of words: each of its words.
use Rattle.std.proofs.Common.{◌≡◌, ℕ, zero, suc, ◌+◌, ◌-◌, ◌*◌, ◌/◌, ◌%◌, ◌^◌, ◌<◌, ◌≤◌, min, Bool, true, false, cond, List, [], ◌∷◌, ◌++◌, length, map, take, drop, Option, Some, None, refl, ◌∙◌, ap, arith}
use Rattle.std.specs.Prelude.{nat_lt, slice_get, slice_index, unwrap_or, option_map}
use Rattle.std.specs.FinMap as fin
use Rattle.std.specs.List.{flat_map}
use Rattle.std.proofs.lemmas.Bool.{le-ltb, or_left}
use Rattle.std.proofs.lemmas.List.{take_all, get_or_append_left, get_or-append_right}
use Rattle.std.proofs.lemmas.List.FromFn.{get_or-map-range_with_len}
use Rattle.std.proofs.lemmas.Option.{unwrap_or-slice_get}
use Rattle.guest_mem.specs.declared.regions.Region.{Region}
use Rattle.guest_mem.specs.declared.spans.Span.{Span}
use Rattle.guest_mem.specs.Opening.{byte_from, byte_of, listed, opened, page_held}
use Rattle.guest_mem.specs.Pages.{Page, Pages, allows, byte_at, first_bad, loaded, next, page_of, perms_at}
use Rattle.guest_mem.specs.Spans.{meets, page_perms, span_of}
use Rattle.guest_mem.proofs.Opening.{opened-within}
use Rattle.guest_mem.proofs.Ranges.{bad-none, bad-later}
use Rattle.elf_load.specs.Layout.{regions, heap_at, heap_start, region_of, segment_span, stack_span, start_after}
use Rattle.work_gen.specs.Images.{base, elf_header, first_word, headers_size, image_of, image_size, program_header, word}
use Rattle.work_gen.proofs.Loading.{length-image_of, meets-before, meets-within, heap_from-is, segment, segments-are}

-- a region without bytes says nothing of an address
no-byte : (start n a : ℕ) → byte_from start (take n []) a ≡ None
no-byte start n a = rw (take-none n) (either (nat_lt a start) (slice_get [] (a - start)) refl)
  where
    take-none : (n : ℕ) → take {A = ℕ} n [] ≡ []
    take-none zero = refl
    take-none (suc n) = refl

    either : (b : Bool) (found : Option ℕ) → found ≡ None → cond b None found ≡ None
    either true found none = refl
    either false found none = none

-- an address, by its page and its place there
page-and-place : (a : ℕ) → a / 4096 * 4096 + a % 4096 ≡ a
page-and-place a = omega arith

-- the words of an image, which are not too many
module _ (words : List ℕ) (some : 1 ≤ length words) (few : length words ≤ 2 ^ 22) where
  abbrev image : List ℕ
  image = image_of words

  abbrev size : ℕ
  size = image_size (length words)

  size-least : 84 ≤ size
  size-least = omega arith

  size-most : size ≤ 84 + 2 ^ 24
  size-most = omega arith

  abbrev heap : Span
  heap = heap_at (start_after (segment size ∷ []))

  abbrev code : Region
  code = region_of (segment_span (segment size)) image

  abbrev laid_out : List Region
  laid_out = code ∷ region_of stack_span [] ∷ region_of heap [] ∷ []

  regions-are : regions image ≡ laid_out
  unfolding regions heap_start
  regions-are =
      let whole : take size (drop 0 image) ≡ image = take_all size image (omega (arith, length-image_of words)) in
      rw (segments-are words some few, whole) refl

  -- the byte of an address within the image
  byte-here : (a : ℕ) → base ≤ a → a < base + size → byte_of laid_out a ≡ slice_index image (a - base)
  unfolding byte_of
  byte-here a from to =
      let reached : nat_lt a base ≡ false = le-ltb a base from in
      let most : min size (2 ^ 32 - base) ≡ size = omega (arith, size-most) in
      let whole : take size image ≡ image = take_all size image (omega (arith, length-image_of words)) in
      rw (no-byte heap.start (min heap.len (2 ^ 32 - heap.start)) a, no-byte stack_span.start (min stack_span.len (2 ^ 32 - stack_span.start)) a, reached, most, whole) (unwrap_or-slice_get image (a - base) 0)

  -- a page that the image meets
  module _ (page : ℕ) (from : 16 ≤ page) (to : 4096 * page < base + size) where
    here : meets page (segment_span (segment size)) ≡ true
    here = meets-within page (segment_span (segment size)) (omega arith) (omega arith) (omega (arith, size-least))

    page-here : fin.get (opened laid_out) page ≡ Some (page_held laid_out page)
    page-here =
        opened-within laid_out page (omega (arith, size-most))
        ∙ ap (λ b. cond b (Some (page_held laid_out page)) None) (or_left (meets page (span_of code)) _ here)

    perms-here : page_perms (map span_of laid_out) page ≡ 5
    unfolding page_perms
    perms-here =
        let stack : meets page stack_span ≡ false = meets-before page stack_span (omega (arith, size-most)) in
        let start = heap_from-is size size-least size-most in
        let above : meets page heap ≡ false = meets-before page heap (omega arith) in
        rw (here, stack, above) refl

  -- an address within the image
  module _ (a : ℕ) (from : base ≤ a) (to : a < base + size) where
    byte_at-here : byte_at (opened laid_out) a ≡ Some (slice_index image (a - base))
    unfolding listed
    byte_at-here =
        let found = page-here (page_of a) (omega arith) (omega arith) in
        let held = get_or-map-range_with_len (λ k. byte_of laid_out (a / 4096 * 4096 + k)) 0 4096 (a % 4096) (a % 4096) 0 (omega arith) (omega arith) in
        ap (λ o. option_map (λ (p : Page). slice_index p.bytes (a % 4096)) o) found ∙ ap Some (held ∙ ap (byte_of laid_out) (page-and-place a) ∙ byte-here a from to)

    perms_at-here : perms_at (opened laid_out) a ≡ 5
    perms_at-here =
        ap (λ o. unwrap_or (option_map (λ (p : Page). p.perms) o) 0) (page-here (page_of a) (omega arith) (omega arith))
        ∙ perms-here (page_of a) (omega arith) (omega arith)

  -- a range within the image may be executed
  executable : (n a : ℕ) → base ≤ a → a + n ≤ base + size → first_bad (opened laid_out) 1 a n ≡ None
  executable zero a from to = bad-none (opened laid_out) 1 a
  executable (suc n) a from to =
      let may : allows 1 (perms_at (opened laid_out) a) ≡ true = rw (perms_at-here a from (omega arith)) refl in
      let after : next a ≡ a + 1 = omega (arith, size-most) in
      bad-later (opened laid_out) 1 a n may ∙ rw after (executable n (a + 1) (omega arith) (omega arith))

-- the bytes of a word among others
word-byte : (words : List ℕ) (k j : ℕ) → k < length words → j < 4 → slice_index (flat_map word words) (4 * k + j) ≡ slice_index (word (slice_index words k)) j
word-byte [] k j inside low = absurd (omega arith)
word-byte (w ∷ ws) zero j inside low =
    let at : 4 * 0 + j ≡ j = omega arith in
    rw at (get_or_append_left (word w) (flat_map word ws) 0 j low)
word-byte (w ∷ ws) (suc k) j inside low =
    let at : 4 * suc k + j - 4 ≡ 4 * k + j = omega arith in
    get_or-append_right (word w) (flat_map word ws) 4 (4 * suc k + j) 0 refl (omega arith) ∙ rw at (word-byte ws k j (omega arith) low)

-- they stand after the headers
image-byte : (words : List ℕ) (n : ℕ) → slice_index (image_of words) (headers_size + n) ≡ slice_index (flat_map word words) n
unfolding image_of
image-byte words n =
    let rest = flat_map word words in
    let table = program_header (image_size (length words)) in
    let first : headers_size + n - 52 ≡ 32 + n = omega arith in
    let second : 32 + n - 32 ≡ n = omega arith in
    get_or-append_right elf_header (table ++ rest) 52 (headers_size + n) 0 refl (omega arith)
    ∙ rw first (get_or-append_right table rest 32 (32 + n) 0 refl (omega arith) ∙ rw second refl)

-- a number in four bytes
four-bytes : (n : ℕ) → n < 2 ^ 32 → slice_index (word n) 0 + 2 ^ 8 * (slice_index (word n) 1 + 2 ^ 8 * (slice_index (word n) 2 + 2 ^ 8 * (slice_index (word n) 3 + 2 ^ 8 * 0))) ≡ n
four-bytes n fits = omega arith

module _ (words : List ℕ) (some : 1 ≤ length words) (few : length words ≤ 2 ^ 22) (k : ℕ) (inside : k < length words) where
  abbrev there : Pages
  there = opened (laid_out words some few)

  abbrev place : ℕ
  place = first_word + 4 * k

  byte-there : (j : ℕ) → j < 4 → unwrap_or (byte_at there (place + j)) 0 ≡ slice_index (word (slice_index words k)) j
  byte-there j low =
      let at : place + j - base ≡ headers_size + (4 * k + j) = omega arith in
      ap (λ o. unwrap_or o 0) (byte_at-here words some few (place + j) (omega arith) (omega arith))
      ∙ rw at (image-byte words (4 * k + j) ∙ word-byte words k j inside low)

  -- each word may be executed, and is loaded
  pub word-executable : first_bad (opened (regions (image_of words))) 1 place 4 ≡ None
  word-executable = rw (regions-are words some few) (executable words some few 4 place (omega arith) (omega arith))

  pub word-loaded : slice_index words k < 2 ^ 32 → loaded (opened (regions (image_of words))) place 4 ≡ slice_index words k
  unfolding loaded
  word-loaded fits =
      let one : next place ≡ place + 1 = omega arith in
      let two : next (place + 1) ≡ place + 2 = omega arith in
      let three : next (place + 2) ≡ place + 3 = omega arith in
      let at : place ≡ place + 0 = omega arith in
      rw (regions-are words some few, one, two, three, ap (λ a. unwrap_or (byte_at there a) 0) at ∙ byte-there 0 (omega arith), byte-there 1 (omega arith), byte-there 2 (omega arith), byte-there 3 (omega arith)) (four-bytes (slice_index words k) fits)
