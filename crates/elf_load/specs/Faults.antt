-- The faults of an image, each by its sentence, and the first of them that holds.
use Rattle.std.specs.Prelude.{ℕ, ◌+◌, ◌*◌, ◌/◌, ◌%◌, ◌==◌, ◌&&◌, ◌||◌, not, nat_lt, if◌then◌else◌, Bool, false, bit_and, List, [], ◌∷◌, ◌++◌, length, slice_index, Option, Some, None}
use Rattle.std.specs.List.{list_any}
use Rattle.elf_load.specs.Fields.{file_type, machine_type, version, entry, table_place, header_flags, entry_size, header_count}
use Rattle.elf_load.specs.Headers.{headers, segments, header_size, is_load, end_of}
use Rattle.guest_mem.specs.Pages.{page_of}
use Rattle.guest_mem.specs.Spans.{page_perms}
use Rattle.elf_load.specs.Layout.{stack_start, stack_end, top, spans, page_count}
use Rattle.elf_load.specs.declared.headers.Header.{Header}
use Rattle.elf_load.specs.declared.faults.LoadFault.{LoadFault}
use Rattle.elf_load.specs.declared.faults.LoadFault.TheVariants.{TooBig, TooShort, BadMagic, NotElf32, NotLittleEndian, BadVersion, NotExecutable, NotRiscv, Compressed, BadPhentsize, TooManyHeaders, HeadersPastEnd, Dynamic, FileszAboveMemsz, SegmentPastFile, SegmentWraps, Overlap, OverStack, TooLarge, NoSegments, BadEntry, NoMemory}

-- the most bytes of an image, 32 MiB, and the bytes of its header
abbrev pub image_limit : ℕ
image_limit = 33554432

abbrev pub image_header_size : ℕ
image_header_size = 52

-- the most program headers, and the most pages, which are 64 MiB
abbrev pub header_limit : ℕ
header_limit = 64

abbrev pub page_limit : ℕ
page_limit = 16384

-- the two segments share a byte of memory
abbrev pub overlaps : Header → Header → Bool
overlaps a b = nat_lt a.vaddr (end_of b) && nat_lt b.vaddr (end_of a)

abbrev pub any_overlap : List Header → Bool
any_overlap [] = false
any_overlap (h ∷ hs) = list_any (overlaps h) hs || any_overlap hs

-- a header asks for a dynamic linker
abbrev pub any_dynamic : List Header → Bool
any_dynamic hs = list_any (λ h. (h.kind == 2) || (h.kind == 3)) hs

-- the file holds more of a segment than memory does
abbrev pub any_above_memsz : List Header → Bool
any_above_memsz hs = list_any (λ h. is_load h && nat_lt h.memsz h.filesz) hs

-- a segment has bytes past the end of the file
abbrev pub any_past_file : ℕ → List Header → Bool
any_past_file len ss = list_any (λ h. nat_lt 0 h.filesz && nat_lt len (h.offset + h.filesz)) ss

abbrev pub any_wraps : List Header → Bool
any_wraps ss = list_any (λ h. nat_lt top (end_of h)) ss

-- a segment has a byte of the stack
abbrev pub is_over_stack : Header → Bool
is_over_stack h = nat_lt h.vaddr stack_end && nat_lt stack_start (end_of h)

abbrev pub any_over_stack : List Header → Bool
any_over_stack ss = list_any is_over_stack ss

abbrev pub is_none : List Header → Bool
is_none ss = length ss == 0

-- a page may be executed
abbrev pub is_executable : List ℕ → ℕ → Bool
is_executable image page = bit_and (page_perms (spans image) page) 1 == 1

-- Where there is no segment, the sentences on segments, stack and heap do not hold.
abbrev pub is_too_large : List ℕ → Bool
is_too_large image = not (is_none (segments image)) && nat_lt page_limit (page_count (spans image))

abbrev pub is_bad_entry : List ℕ → Bool
is_bad_entry image = not (entry image % 4 == 0) || not (is_executable image (page_of (entry image)))

-- the sentence of each fault; an image has none that says that memory was wanting
abbrev pub holds : LoadFault → List ℕ → Bool
holds TooBig image = nat_lt image_limit (length image)
holds TooShort image = nat_lt (length image) image_header_size
holds BadMagic image = not ((slice_index image 0 == 0x7f) && (slice_index image 1 == 0x45) && (slice_index image 2 == 0x4c) && (slice_index image 3 == 0x46))
holds NotElf32 image = not (slice_index image 4 == 1)
holds NotLittleEndian image = not (slice_index image 5 == 1)
holds BadVersion image = not (slice_index image 6 == 1) || not (version image == 1)
holds NotExecutable image = not (file_type image == 2)
holds NotRiscv image = not (machine_type image == 243)
holds Compressed image = header_flags image % 2 == 1
holds BadPhentsize image = not (header_count image == 0) && not (entry_size image == header_size)
holds TooManyHeaders image = nat_lt header_limit (header_count image)
holds HeadersPastEnd image = not (header_count image == 0) && nat_lt (length image) (table_place image + header_size * header_count image)
holds Dynamic image = any_dynamic (headers image)
holds FileszAboveMemsz image = any_above_memsz (headers image)
holds SegmentPastFile image = any_past_file (length image) (segments image)
holds SegmentWraps image = any_wraps (segments image)
holds Overlap image = any_overlap (segments image)
holds OverStack image = any_over_stack (segments image)
holds TooLarge image = is_too_large image
holds NoSegments image = is_none (segments image)
holds BadEntry image = is_bad_entry image
holds NoMemory image = false

-- the first of the faults whose sentence holds
abbrev pub first_of : List LoadFault → List ℕ → Option LoadFault
first_of [] image = None
first_of (f ∷ fs) image = if holds f image then Some f else first_of fs image

-- the faults of the image's size and of the bytes that say what it is, of the fields of its header, of its segments, and
-- of the layout, in their order
abbrev pub identity_faults : List LoadFault
identity_faults = TooBig ∷ TooShort ∷ BadMagic ∷ NotElf32 ∷ NotLittleEndian ∷ []

abbrev pub field_faults : List LoadFault
field_faults = BadVersion ∷ NotExecutable ∷ NotRiscv ∷ Compressed ∷ BadPhentsize ∷ TooManyHeaders ∷ HeadersPastEnd ∷ []

abbrev pub header_faults : List LoadFault
header_faults = identity_faults ++ field_faults

abbrev pub segment_faults : List LoadFault
segment_faults = Dynamic ∷ FileszAboveMemsz ∷ SegmentPastFile ∷ SegmentWraps ∷ Overlap ∷ OverStack ∷ []

abbrev pub layout_faults : List LoadFault
layout_faults = TooLarge ∷ NoSegments ∷ BadEntry ∷ []

abbrev pub faults : List LoadFault
faults = header_faults ++ segment_faults ++ layout_faults

-- the fault of an image, and none where it has none
unfoldable pub fault : List ℕ → Option LoadFault
fault image = first_of faults image
