-- Ranges of addresses: the first address that lacks a permission, and the bytes. A range is that of its parts.
use Rattle.std.proofs.Common.{◌≡◌, ℕ, zero, suc, ◌+◌, ◌-◌, ◌%◌, ◌^◌, ◌<◌, ◌≤◌, ◌↔◌, true, false, List, [], ◌∷◌, ◌++◌, length, IsSome, Option, Some, None, refl, sym, ap, ◌∙◌, arith, ⊎_elim}
use Rattle.std.specs.Prelude.{bit_and, nat_eq, option_map, unwrap_or}
use Rattle.std.specs.Int.Bits.{and_zero_l}
use Rattle.std.specs.FinMap as map
use Rattle.std.specs.Option.{option_or}
use Rattle.std.proofs.lemmas.Bool.{cases_Bool}
use Rattle.std.proofs.lemmas.Bool.Decides.{nat_tests}
use Rattle.guest_mem.specs.Pages.{Page, Pages, allows, byte_at, first_bad, next, page_of, perms_at}
use Rattle.guest_mem.specs.Ranges.{range_bytes}

pub bad-none : (pages : Pages) (need a : ℕ) → first_bad pages need a 0 ≡ None
unfolding first_bad
bad-none pages need a = refl

pub bad-here : (pages : Pages) (need a n : ℕ) → allows need (perms_at pages a) ≡ false → first_bad pages need a (suc n) ≡ Some a
unfolding first_bad
bad-here pages need a n lacks = rw lacks refl

pub bad-later : (pages : Pages) (need a n : ℕ) → allows need (perms_at pages a) ≡ true → first_bad pages need a (suc n) ≡ first_bad pages need (next a) n
unfolding first_bad
bad-later pages need a n has = rw has refl

-- the first bad address of two ranges that follow each other
pub first_bad-append : (pages : Pages) (need a m n : ℕ) → a < 2 ^ 32 → first_bad pages need a (m + n) ≡ option_or (first_bad pages need a m) (first_bad pages need ((a + m) % 2 ^ 32) n)
first_bad-append pages need a zero n fits =
    let here : (a + 0) % 2 ^ 32 ≡ a = omega arith in
    let all : 0 + n ≡ n = omega arith in
    rw (bad-none pages need a, here, all) refl
first_bad-append pages need a (suc m) n fits =
    let more : suc m + n ≡ suc (m + n) = omega arith in
    let after : (next a + m) % 2 ^ 32 ≡ (a + suc m) % 2 ^ 32 = omega arith in
    ⊎_elim
    (λ (has : allows need (perms_at pages a) ≡ true).
    rw (more, bad-later pages need a (m + n) has, bad-later pages need a m has, ← after) (first_bad-append pages need (next a) m n (omega arith)))
    (λ (lacks : allows need (perms_at pages a) ≡ false).
    rw (more, bad-here pages need a (m + n) lacks, bad-here pages need a m lacks) refl)
    (cases_Bool (allows need (perms_at pages a)))

both-none : (x y : Option ℕ) → (option_or x y ≡ None) ↔ ((x ≡ None) × (y ≡ None))
both-none None y = (λ none. (refl, none), λ both. both.1)
both-none (Some a) y = (λ none. cc, λ both. both.0)

-- no address of the whole is bad exactly where none of either part is
pub first_bad-append_none : (pages : Pages) (need a m n : ℕ) → a < 2 ^ 32 → (first_bad pages need a (m + n) ≡ None) ↔ ((first_bad pages need a m ≡ None) × (first_bad pages need ((a + m) % 2 ^ 32) n ≡ None))
first_bad-append_none pages need a m n fits =
    rw (first_bad-append pages need a m n fits) (both-none (first_bad pages need a m) (first_bad pages need ((a + m) % 2 ^ 32) n))

-- none of the rest of a range is bad
pub first_bad_rest : (pages : Pages) (need a m n : ℕ) → a < 2 ^ 32 → m ≤ n → first_bad pages need a n ≡ None → first_bad pages need ((a + m) % 2 ^ 32) (n - m) ≡ None
first_bad_rest pages need a m n fits inside none =
    let whole : n ≡ m + (n - m) = omega arith in
    ((first_bad-append_none pages need a m (n - m) fits).0 (rw whole at none)).1

has-first : (pages : Pages) (need a n : ℕ) → first_bad pages need a (suc n) ≡ None → allows need (perms_at pages a) ≡ true
has-first pages need a n none =
    ⊎_elim
    (λ (has : allows need (perms_at pages a) ≡ true). has)
    (λ (lacks : allows need (perms_at pages a) ≡ false).
    let some : Some a ≡ None = sym (bad-here pages need a n lacks) ∙ none in
    cc)
    (cases_Bool (allows need (perms_at pages a)))

-- where no address of a range is bad, each has the permissions
pub first_bad-each : (pages : Pages) (need a n k : ℕ) → a < 2 ^ 32 → first_bad pages need a n ≡ None → k < n → allows need (perms_at pages ((a + k) % 2 ^ 32)) ≡ true
first_bad-each pages need a zero k fits none inside = absurd (omega arith)
first_bad-each pages need a (suc n) zero fits none inside =
    let here : (a + 0) % 2 ^ 32 ≡ a = omega arith in
    rw here (has-first pages need a n none)
first_bad-each pages need a (suc n) (suc k) fits none inside =
    let after : (next a + k) % 2 ^ 32 ≡ (a + suc k) % 2 ^ 32 = omega arith in
    let rest = sym (bad-later pages need a n (has-first pages need a n none)) ∙ none in
    rw (← after) (first_bad-each pages need (next a) n k (omega arith) rest (omega arith))

unmapped-lacks : (need : ℕ) → 0 < need → nat_eq (bit_and 0 need) need ≡ false
unmapped-lacks need some = rw (and_zero_l need) (grind (arith, nat_tests))

page-there : (need : ℕ) (o : Option Page) → 0 < need → allows need (unwrap_or (option_map (λ (p : Page). p.perms) o) 0) ≡ true → IsSome o
page-there need None some has =
    let lacks = unmapped-lacks need some in
    cc
page-there need (Some p) some has = refl

-- an address that has a permission lies in a page that is mapped
pub allows-mapped : (pages : Pages) (need a : ℕ) → 0 < need → allows need (perms_at pages a) ≡ true → IsSome (map.get pages (page_of a))
allows-mapped pages need a some has = page-there need (map.get pages (page_of a)) some has

-- so where no address of a range is bad, the page of each is mapped
pub first_bad-mapped : (pages : Pages) (need a n k : ℕ) → a < 2 ^ 32 → 0 < need → first_bad pages need a n ≡ None → k < n → IsSome (map.get pages (page_of ((a + k) % 2 ^ 32)))
first_bad-mapped pages need a n k fits some none inside = allows-mapped pages need ((a + k) % 2 ^ 32) some (first_bad-each pages need a n k fits none inside)

pub first_bad-mapped_start : (pages : Pages) (need a n : ℕ) → 0 < need → first_bad pages need a n ≡ None → 0 < n → IsSome (map.get pages (page_of a))
first_bad-mapped_start pages need a zero some none inside = absurd (omega arith)
first_bad-mapped_start pages need a (suc n) some none inside = allows-mapped pages need a some (has-first pages need a n none)

pub range_bytes-none : (pages : Pages) (a : ℕ) → range_bytes pages a 0 ≡ []
unfolding range_bytes
range_bytes-none pages a = refl

pub range_bytes-cons : (pages : Pages) (a n : ℕ) → range_bytes pages a (suc n) ≡ unwrap_or (byte_at pages a) 0 ∷ range_bytes pages (next a) n
unfolding range_bytes
range_bytes-cons pages a n = refl

pub length-range_bytes : (pages : Pages) (a n : ℕ) → length (range_bytes pages a n) ≡ n
length-range_bytes pages a zero = rw (range_bytes-none pages a) refl
length-range_bytes pages a (suc n) = rw (range_bytes-cons pages a n) (ap suc (length-range_bytes pages (next a) n))

-- the bytes of two ranges that follow each other
pub range_bytes-append : (pages : Pages) (a m n : ℕ) → a < 2 ^ 32 → range_bytes pages a (m + n) ≡ range_bytes pages a m ++ range_bytes pages ((a + m) % 2 ^ 32) n
range_bytes-append pages a zero n fits =
    let here : (a + 0) % 2 ^ 32 ≡ a = omega arith in
    let all : 0 + n ≡ n = omega arith in
    rw (range_bytes-none pages a, here, all) refl
range_bytes-append pages a (suc m) n fits =
    let more : suc m + n ≡ suc (m + n) = omega arith in
    let after : (next a + m) % 2 ^ 32 ≡ (a + suc m) % 2 ^ 32 = omega arith in
    rw (more, range_bytes-cons pages a (m + n), range_bytes-cons pages a m, ← after) (ap (λ (bs : List ℕ). unwrap_or (byte_at pages a) 0 ∷ bs) (range_bytes-append pages (next a) m n (omega arith)))

-- the bytes of a part and those of the rest
pub range_bytes_rest : (pages : Pages) (a m n : ℕ) → a < 2 ^ 32 → m ≤ n → range_bytes pages a m ++ range_bytes pages ((a + m) % 2 ^ 32) (n - m) ≡ range_bytes pages a n
range_bytes_rest pages a m n fits inside =
    let whole : m + (n - m) ≡ n = omega arith in
    sym (range_bytes-append pages a m (n - m) fits) ∙ rw whole refl

-- a byte more
pub range_bytes-more : (pages : Pages) (a n : ℕ) → a < 2 ^ 32 → range_bytes pages a (n + 1) ≡ range_bytes pages a n ++ unwrap_or (byte_at pages ((a + n) % 2 ^ 32)) 0 ∷ []
range_bytes-more pages a n fits =
    let after = (a + n) % 2 ^ 32 in
    range_bytes-append pages a n 1 fits ∙ rw (range_bytes-cons pages after 0, range_bytes-none pages (next after)) refl
