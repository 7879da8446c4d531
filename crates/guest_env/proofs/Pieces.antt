-- The first piece of bytes that are cut at pages.
use Rattle.std.proofs.Common.{◌≡◌, ℕ, ◌+◌, ◌-◌, ◌%◌, ◌^◌, ◌<◌, ◌≤◌, Bool, true, false, List, [], ◌∷◌, ◌++◌, length, refl, ◌∙◌, ap, ne_eqb, arith}
use Rattle.std.specs.Prelude.{nat_eq, if◌then◌else◌}
use Rattle.guest_mem.specs.Pages.{Pages, next, place_of, page_size}
use Rattle.guest_mem.specs.Ranges.{range_bytes}
use Rattle.guest_mem.proofs.Ranges.{range_bytes-append, length-range_bytes}
use Rattle.guest_env.specs.Pieces.{with_first, pieces_of}

either_way : {A : Type 0} (b : Bool) (v : A) → (if b then v else v) ≡ v
either_way true v = refl
either_way false v = refl

pub pieces_of-none : (a : ℕ) → pieces_of a [] ≡ []
unfolding pieces_of
pieces_of-none a = refl

pieces_of-end : (a byte : ℕ) (bytes : List ℕ) → nat_eq (place_of (next a)) 0 ≡ true → pieces_of a (byte ∷ bytes) ≡ (byte ∷ []) ∷ pieces_of (next a) bytes
unfolding pieces_of
pieces_of-end a byte bytes is = rw is refl

pieces_of-inside : (a byte : ℕ) (bytes : List ℕ) → nat_eq (place_of (next a)) 0 ≡ false → pieces_of a (byte ∷ bytes) ≡ with_first byte (pieces_of (next a) bytes)
unfolding pieces_of
pieces_of-inside a byte bytes is = rw is refl

pieces_of-last : (a byte : ℕ) → pieces_of a (byte ∷ []) ≡ (byte ∷ []) ∷ []
unfolding pieces_of
pieces_of-last a byte = either_way (nat_eq (place_of (next a)) 0) ((byte ∷ []) ∷ [])

inside-page : (a length : ℕ) → 0 < length → place_of a + (1 + length) ≤ page_size → nat_eq (place_of (next a)) 0 ≡ false
inside-page a length some inside = ne_eqb (place_of (next a)) 0 (λ is. absurd (omega (arith, is, inside, some)))

-- Bytes are the first piece where they lie in one page and end with it, or are all there are.
pub first-piece : (a : ℕ) (piece rest : List ℕ) → a < 2 ^ 32 → 0 < length piece → place_of a + length piece ≤ page_size → (0 < length rest → place_of a + length piece ≡ page_size)
    → pieces_of a (piece ++ rest) ≡ piece ∷ pieces_of ((a + length piece) % 2 ^ 32) rest
first-piece a [] rest fits some inside ends = absurd (omega arith)
first-piece a (x ∷ []) [] fits some inside ends =
    rw (pieces_of-last a x, pieces_of-none ((a + 1) % 2 ^ 32)) refl
first-piece a (x ∷ []) (r ∷ rest) fits some inside ends =
    let edge : place_of (next a) ≡ 0 = omega (arith, ends (omega arith)) in
    pieces_of-end a x (r ∷ rest) (rw edge refl)
first-piece a (x ∷ (y ∷ xs)) rest fits some inside ends =
    let within = inside-page a (length (y ∷ xs)) (omega arith) (omega arith) in
    let there : (next a + length (y ∷ xs)) % 2 ^ 32 ≡ (a + length (x ∷ (y ∷ xs))) % 2 ^ 32 = omega arith in
    let later = first-piece (next a) (y ∷ xs) rest (omega arith) (omega arith) (omega arith) (λ more. omega (arith, ends more)) in
    rw (pieces_of-inside a x (y ∷ (xs ++ rest)) within, later, there) refl

-- of a range, the part in the page of its start is the first piece
pub first-piece-range : (pages : Pages) (a count len : ℕ) → a < 2 ^ 32 → 0 < len → len ≤ count → place_of a + len ≤ page_size → (len < count → place_of a + len ≡ page_size)
    → pieces_of a (range_bytes pages a len ++ range_bytes pages ((a + len) % 2 ^ 32) (count - len)) ≡ range_bytes pages a len ∷ pieces_of ((a + len) % 2 ^ 32) (range_bytes pages ((a + len) % 2 ^ 32) (count - len))
first-piece-range pages a count len fits some shorter inside ends =
    let after = (a + len) % 2 ^ 32 in
    let rest = range_bytes pages after (count - len) in
    let is = length-range_bytes pages a len in
    let first = first-piece a (range_bytes pages a len) rest fits (omega (arith, is)) (omega (arith, is))
    (λ more. rw is (ends (omega (arith, length-range_bytes pages after (count - len), more)))) in
    rw is at first

-- a range is that part and the rest
pub range-parts : (pages : Pages) (a count len : ℕ) → a < 2 ^ 32 → len ≤ count → range_bytes pages a count ≡ range_bytes pages a len ++ range_bytes pages ((a + len) % 2 ^ 32) (count - len)
range-parts pages a count len fits shorter =
    let whole : count ≡ len + (count - len) = omega arith in
    ap (range_bytes pages a) whole ∙ range_bytes-append pages a len (count - len) fits
