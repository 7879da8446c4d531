-- Texts of pieces in rising order of their numbers.
use Rattle.std.proofs.Common.{◌≡◌, ℕ, zero, suc, ◌+◌, ◌-◌, ◌<◌, ◌≤◌, List, [], ◌++◌, sym, ap, ◌∙◌, append_assoc, append-nil, refl, arith}
use Rattle.std.specs.List.{flat_map, range_with_len}

-- the pieces of some numbers that are left
unfoldable pub pieces : (ℕ → List ℕ) → ℕ → ℕ → List ℕ
pieces f i n = flat_map f (range_with_len i n)

split : (f : ℕ → List ℕ) (i m n : ℕ) → flat_map f (range_with_len i (m + n)) ≡ flat_map f (range_with_len i m) ++ flat_map f (range_with_len (i + m) n)
split f i zero n =
    let e : zero + n ≡ n = omega arith in
    let e' : i + zero ≡ i = omega arith in
    rw (e, e') refl
split f i (suc m) n =
    let e : suc m + n ≡ suc (m + n) = omega arith in
    let e' : i + 1 + m ≡ i + suc m = omega arith in
    rw e (
    ap (λ rest. f i ++ rest) (split f (i + 1) m n)
    ∙ sym (append_assoc (f i) (flat_map f (range_with_len (i + 1) m)) (flat_map f (range_with_len (i + 1 + m) n)))
    ∙ ap (λ k. flat_map f (range_with_len i (suc m)) ++ flat_map f (range_with_len k n)) e'
    )

-- those from a place on are those before another place, and those from there on
pub pieces_split : (f : ℕ → List ℕ) (first after end : ℕ) → first ≤ after → after ≤ end
    → pieces f first (end - first) ≡ flat_map f (range_with_len first (after - first)) ++ pieces f after (end - after)
unfolding pieces
pieces_split f first after end low high =
    let e : after - first + (end - after) ≡ end - first = omega arith in
    let e' : first + (after - first) ≡ after = omega arith in
    rw (e, e') at (split f first (after - first) (end - after))

pub pieces_more : (f : ℕ → List ℕ) (i end : ℕ) → i < end → pieces f i (end - i) ≡ f i ++ pieces f (i + 1) (end - (i + 1))
unfolding pieces
pieces_more f i end more =
    let e : end - i ≡ suc (end - (i + 1)) = omega arith in
    rw e refl

pub pieces_done : (f : ℕ → List ℕ) (i end : ℕ) → end ≤ i → pieces f i (end - i) ≡ []
unfolding pieces
pieces_done f i end done =
    let e : end - i ≡ 0 = omega arith in
    rw e refl

-- one more piece at the end
pub pieces_last : (f : ℕ → List ℕ) (first i : ℕ) → first ≤ i → flat_map f (range_with_len first (i + 1 - first)) ≡ flat_map f (range_with_len first (i - first)) ++ f i
pieces_last f first i low =
    let e : i + 1 - first ≡ i - first + 1 = omega arith in
    let e' : first + (i - first) ≡ i = omega arith in
    rw e (split f first (i - first) 1 ∙ rw e' (ap (λ xs. flat_map f (range_with_len first (i - first)) ++ xs) (append-nil (f i))))

-- the same from the first number on
pub pieces_next : (f : ℕ → List ℕ) (i : ℕ) → flat_map f (range_with_len 0 (i + 1)) ≡ flat_map f (range_with_len 0 i) ++ f i
pieces_next f i =
    let none : 0 ≤ i = omega arith in
    let more : i + 1 - 0 ≡ i + 1 = omega arith in
    let same : i - 0 ≡ i = omega arith in
    rw (more, same) at (pieces_last f 0 i none)
