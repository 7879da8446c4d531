-- A range that lies within one page, and a range page by page.
use Rattle.std.proofs.Common.{◌≡◌, ℕ, zero, suc, ◌+◌, ◌-◌, ◌%◌, ◌^◌, ◌<◌, ◌≤◌, true, false, cond, List, length, get_or, take, drop, Some, None, refl, sym, ◌∙◌, arith, ⊎_elim}
use Rattle.std.specs.Prelude.{unwrap_or}
use Rattle.std.specs.FinMap as map
use Rattle.std.specs.List.{slice_range}
use Rattle.std.proofs.lemmas.Bool.{cases_Bool}
use Rattle.std.proofs.lemmas.List.{length-drop, length-take, nil_from_length}
use Rattle.std.proofs.Math.Seq.{drop-cons}
use Rattle.guest_mem.specs.Pages.{Page, Pages, allows, byte_at, first_bad, next, page_of, perms_at, place_of}
use Rattle.guest_mem.specs.Ranges.{range_bytes}
use Rattle.guest_mem.proofs.Ranges.{bad-none, bad-here, bad-later, first_bad-append, range_bytes-none, range_bytes-cons}

-- within one page its permissions decide
bad-in_page : (pages : Pages) (need a n : ℕ) → a < 2 ^ 32 → place_of a + n ≤ 4096 → allows need (perms_at pages a) ≡ true → first_bad pages need a n ≡ None
bad-in_page pages need a zero fits inside has = bad-none pages need a
bad-in_page pages need a (suc zero) fits inside has = bad-later pages need a 0 has ∙ bad-none pages need (next a)
bad-in_page pages need a (suc (suc n)) fits inside has =
    let same : page_of (next a) ≡ page_of a = omega arith in
    bad-later pages need a (suc n) has ∙ bad-in_page pages need (next a) (suc n) (omega arith) (omega arith) (rw same has)

pub bad_in_page : (pages : Pages) (need a n : ℕ) → a < 2 ^ 32 → 0 < n → place_of a + n ≤ 4096 → first_bad pages need a n ≡ cond (allows need (perms_at pages a)) None (Some a)
bad_in_page pages need a zero fits some inside = absurd (omega arith)
bad_in_page pages need a (suc n) fits some inside =
    ⊎_elim
    (λ (has : allows need (perms_at pages a) ≡ true). rw has (bad-in_page pages need a (suc n) fits inside has))
    (λ (lacks : allows need (perms_at pages a) ≡ false). rw lacks (bad-here pages need a n lacks))
    (cases_Bool (allows need (perms_at pages a)))

-- an address that lacks a permission is the first of its range
pub bad_first : (pages : Pages) (need a n : ℕ) → 0 < n → allows need (perms_at pages a) ≡ false → first_bad pages need a n ≡ Some a
bad_first pages need a zero some lacks = absurd (omega arith)
bad_first pages need a (suc n) some lacks = bad-here pages need a n lacks

-- past a part of a page that has the permissions the rest of a range decides
pub bad_later :
    (pages : Pages) (need a here left : ℕ)
    → a < 2 ^ 32
    → here ≤ left
    → place_of a + here ≤ 4096
    → allows need (perms_at pages a) ≡ true
    → first_bad pages need ((a + here) % 2 ^ 32) (left - here) ≡ first_bad pages need a left
bad_later pages need a here left fits inside within has =
    let whole : here + (left - here) ≡ left = omega arith in
    let parts = rw whole at (first_bad-append pages need a here (left - here) fits) in
    sym (parts ∙ rw (bad-in_page pages need a here fits within has) refl)

pub bad_done : (pages : Pages) (need a left : ℕ) → left ≤ 0 → first_bad pages need a left ≡ None
bad_done pages need a zero done = bad-none pages need a
bad_done pages need a (suc left) done = absurd (omega arith)

-- a range, page by page
pub ruleset bad_steps = (bad_first, bad_later, bad_done)

byte-there : (pages : Pages) (a : ℕ) (p : Page) → map.get pages (page_of a) ≡ Some p → unwrap_or (byte_at pages a) 0 ≡ get_or p.bytes (place_of a) 0
byte-there pages a p there = rw there refl

-- within one page they are a part of its bytes
bytes-in_page :
    (pages : Pages) (a n : ℕ) (p : Page)
    → a < 2 ^ 32
    → place_of a + n ≤ 4096
    → place_of a + n ≤ length p.bytes
    → map.get pages (page_of a) ≡ Some p
    → range_bytes pages a n ≡ take n (drop (place_of a) p.bytes)
bytes-in_page pages a zero p fits inside whole there = range_bytes-none pages a
bytes-in_page pages a (suc zero) p fits inside whole there =
    rw (range_bytes-cons pages a 0, range_bytes-none pages (next a), byte-there pages a p there, drop-cons p.bytes (place_of a) 0 (omega arith)) refl
bytes-in_page pages a (suc (suc n)) p fits inside whole there =
    let same : page_of (next a) ≡ page_of a = omega arith in
    let place : place_of (next a) ≡ suc (place_of a) = omega arith in
    let rest = bytes-in_page pages (next a) (suc n) p (omega arith) (omega (arith, place)) (omega (arith, place)) (rw same there) in
    rw (range_bytes-cons pages a (suc n), byte-there pages a p there, rest, place, drop-cons p.bytes (place_of a) 0 (omega arith)) refl

whole-part : (l : List ℕ) (from n : ℕ) → 0 < n → length (take n (drop from l)) ≡ n → from + n ≤ length l
whole-part l from n some all = omega (arith, length-take n (drop from l), length-drop from l, all)

-- a part of its bytes, as many as are asked for
pub range_in_page :
    (pages : Pages) (a n : ℕ) (p : Page) (from : ℕ) (bytes : List ℕ)
    → a < 2 ^ 32
    → from ≡ place_of a
    → place_of a + n ≤ 4096
    → Some p ≡ map.get pages (page_of a)
    → bytes ≡ slice_range p.bytes from (from + n)
    → length bytes ≡ n
    → bytes ≡ range_bytes pages a n
range_in_page pages a zero p from bytes fits place inside there is all = nil_from_length bytes all ∙ sym (range_bytes-none pages a)
range_in_page pages a (suc n) p from bytes fits place inside there is all =
    let count : from + suc n - from ≡ suc n = omega arith in
    let part = rw count at is in
    let whole = whole-part p.bytes from (suc n) (omega arith) (rw part at all) in
    part ∙ rw place (sym (bytes-in_page pages a (suc n) p fits inside (omega (arith, whole, place)) (sym there)))
