-- Pages by their numbers: which bytes may be reached, what they hold, and what a store leaves.
use Rattle.std.specs.Prelude.{◌==◌, ℕ, zero, suc, ◌+◌, ◌*◌, ◌/◌, ◌%◌, ◌^◌, Bool, List, [], ◌∷◌, Option, Some, None, bit_and, bit_or, slice_index, slice_set, unwrap_or, is_some, replicate, refl, if◌then◌else◌}
use Rattle.std.specs.Option.{option_map}
use Rattle.std.specs.Ordering.{nat_cmp}
use Rattle.std.specs.FinMap as map
use Rattle.std.specs.Coded.{Coded, code_by, coded×, coded_ℕ, coded_list}

-- A page: its permissions as a set of bits, 4 to read, 2 to write and 1 to execute, and its 4,096 bytes.
pub record Page : Type 0 where
  pub perms : ℕ
  pub bytes : List ℕ

-- the pages that are mapped, by their numbers
abbrev pub Pages : Type 0
Pages = map.FinMap nat_cmp Page

-- the bytes of a page
abbrev pub page_size : ℕ
page_size = 4096

-- the number of the page of an address, and the place of the address in it
abbrev pub page_of : ℕ → ℕ
page_of a = a / page_size

abbrev pub place_of : ℕ → ℕ
place_of a = a % page_size

-- addresses wrap at 32 bits
abbrev pub next : ℕ → ℕ
next a = (a + 1) % 2 ^ 32

-- the permissions of an address; where no page is mapped there are none
abbrev pub perms_at : Pages → ℕ → ℕ
perms_at pages a = unwrap_or (option_map (λ p. p.perms) (map.get pages (page_of a))) 0

-- the byte of an address, where its page is mapped
abbrev pub byte_at : Pages → ℕ → Option ℕ
byte_at pages a = option_map (λ p. slice_index p.bytes (place_of a)) (map.get pages (page_of a))

-- all the permissions that are needed are there
abbrev pub allows : ℕ → ℕ → Bool
allows need perms = bit_and perms need == need

-- the first of n addresses from a on that lacks a permission that is needed
unfoldable pub first_bad : Pages → ℕ → ℕ → ℕ → Option ℕ
first_bad pages need a zero = None
first_bad pages need a (suc n) = if allows need (perms_at pages a) then first_bad pages need (next a) n else Some a

-- the number of n bytes from a on, the lowest first
unfoldable pub loaded : Pages → ℕ → ℕ → ℕ
loaded pages a zero = 0
loaded pages a (suc n) = unwrap_or (byte_at pages a) 0 + 2 ^ 8 * loaded pages (next a) n

-- the page with a byte at a place
abbrev pub with_byte : Page → ℕ → ℕ → Page
with_byte p place byte = record p { bytes = slice_set p.bytes place byte }

-- the pages with a byte at an address whose page is mapped
abbrev pub put_in : Pages → ℕ → ℕ → Option Page → Pages
put_in pages a byte None = pages
put_in pages a byte (Some p) = map.insert pages (page_of a) (with_byte p (place_of a) byte)

abbrev pub put : Pages → ℕ → ℕ → Pages
put pages a byte = put_in pages a byte (map.get pages (page_of a))

-- the pages after a store of the n low bytes of a number from a on, the lowest first
unfoldable pub stored : Pages → ℕ → ℕ → ℕ → Pages
stored pages a value zero = pages
stored pages a value (suc n) = stored (put pages a (value % 2 ^ 8)) (next a) (value / 2 ^ 8) n

-- the pages after a list of bytes is written from a on
unfoldable pub written : Pages → ℕ → List ℕ → Pages
written pages a [] = pages
written pages a (b ∷ bs) = written (put pages a b) (next a) bs

-- a list with bytes in the place of as many from i on
unfoldable pub splice : List ℕ → ℕ → List ℕ → List ℕ
splice l i [] = l
splice l i (b ∷ bs) = splice (slice_set l i b) (i + 1) bs

-- a page with the permissions of one more region that meets it; where it was not mapped it holds zeros
abbrev pub joined : Option Page → ℕ → Page
joined None perms = record { perms = perms; bytes = replicate page_size 0 }
joined (Some p) perms = record p { perms = bit_or p.perms perms }

-- a page that the system adds: it may be read and written, and holds zeros
abbrev pub zero_page : Page
zero_page = record { perms = 6; bytes = replicate page_size 0 }

-- the pages with the page of an address, which is added where it was not there
abbrev pub with_page : Pages → ℕ → Pages
with_page pages a = if is_some (map.get pages (page_of a)) then pages else map.insert pages (page_of a) zero_page

-- guest memory: its pages, the limits of the break, and the break
pub record Memory : Type 0 where
  pub pages : Pages
  pub heap : ℕ
  pub heap_end : ℕ
  pub brk : ℕ

-- pages and memories as data of pairs, by which a proof tells them apart
abbrev pub page_code : Coded Page
page_code = code_by (ℕ × List ℕ) (coded× coded_ℕ (coded_list coded_ℕ)) (λ p. (p.perms, p.bytes)) (λ d. record { perms = d.0; bytes = d.1 }) (λ _. refl)

abbrev pub memory_code : Coded Memory
memory_code =
    code_by (Pages × (ℕ × (ℕ × ℕ))) (coded× (map.code coded_ℕ page_code) (coded× coded_ℕ (coded× coded_ℕ coded_ℕ)))
    (λ m. (m.pages, (m.heap, (m.heap_end, m.brk))))
    (λ d. record { pages = d.0; heap = d.1.0; heap_end = d.1.1.0; brk = d.1.1.1 })
    (λ _. refl)
