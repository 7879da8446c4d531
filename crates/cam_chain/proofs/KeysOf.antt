-- The pairs of a value, row by row.
use Rattle.std.proofs.Common.{◌≡◌, ℕ, ◌+◌, ◌<◌, ◌/◌, ◌%◌, ◌^◌, Bool, true, false, eqb, List, [], ◌∷◌, ◌++◌, length, get_or, take, zero, suc, refl, ap, arith, ◌&&◌, not, ltb}
use Rattle.std.proofs.lemmas.List.{take_more, length-take-le}
use Rattle.std.proofs.lemmas.Nat.{shr-shr}
use Rattle.std.proofs.lemmas.Bool.{and_parts, ltb-true}
use Rattle.cam_chain.specs.KeyPairs.{keys_of, is_new_row, are_apart, are_keys}

-- one more row at the end takes the next bit of the value
pub keys_of-push : (rows : List ℕ) (row v : ℕ) → keys_of (rows ++ row ∷ []) v ≡ keys_of rows v ++ (row, eqb (v / 2 ^ length rows % 2) 1) ∷ []
keys_of-push [] row v = let e : v / 2 ^ 0 ≡ v = omega arith in rw e refl
keys_of-push (r ∷ rs) row v =
    let e : v / 2 / 2 ^ length rs ≡ v / 2 ^ (1 + length rs) = shr-shr v 1 (length rs) in
    let f : 1 + length rs ≡ suc (length rs) = omega arith in
    rw (keys_of-push rs row (v / 2), e, f) refl

-- the pairs of one more of the rows
pub keys_of_more : (rows : List ℕ) (i v : ℕ) → i < length rows → keys_of (take (i + 1) rows) v ≡ keys_of (take i rows) v ++ (get_or rows i 0, eqb (v / 2 ^ i % 2) 1) ∷ []
keys_of_more rows i v h = let l : length (take i rows) ≡ i = length-take-le i rows (omega arith) in rw (take_more rows i 0 h, keys_of-push (take i rows) (get_or rows i 0) v, l) refl

-- a pair for each row
pub length-keys_of : (rows : List ℕ) (v : ℕ) → length (keys_of rows v) ≡ length rows
length-keys_of [] v = refl
length-keys_of (r ∷ rs) v = ap suc (length-keys_of rs (v / 2))

-- whether a row is new does not depend on the value
pub is_new_row-keys_of : (row : ℕ) (rows : List ℕ) (v w : ℕ) → is_new_row row (keys_of rows v) ≡ is_new_row row (keys_of rows w)
is_new_row-keys_of row [] v w = refl
is_new_row-keys_of row (r ∷ rs) v w = ap (λ b. not (eqb row r) && b) (is_new_row-keys_of row rs (v / 2) (w / 2))

-- nor does whether the rows are apart
pub are_apart-keys_of : (rows : List ℕ) (v w : ℕ) → are_apart (keys_of rows v) ≡ are_apart (keys_of rows w)
are_apart-keys_of [] v w = refl
are_apart-keys_of (r ∷ rs) v w =
    rw (is_new_row-keys_of r rs (v / 2) (w / 2), are_apart-keys_of rs (v / 2) (w / 2)) refl

-- the pairs of one value are keys where those of another are
pub are_keys-keys_of : (rows : List ℕ) (v w : ℕ) → are_keys (keys_of rows v) ≡ are_keys (keys_of rows w)
are_keys-keys_of rows v w = rw (length-keys_of rows v, length-keys_of rows w, are_apart-keys_of rows v w) refl

-- a row of pairs that are apart is one of a subarray's
pub row_below : (pairs : List (ℕ × Bool)) (k : ℕ) → are_apart pairs ≡ true → k < length pairs → (get_or pairs k (0, false)).0 < 64
row_below [] k h l = absurd (omega arith)
row_below (p ∷ ps) zero h l =
    ltb-true p.0 64 (and_parts (ltb p.0 64) (is_new_row p.0 ps) (and_parts (ltb p.0 64 && is_new_row p.0 ps) (are_apart ps) h).0).0
row_below (p ∷ ps) (suc k) h l = row_below ps k (and_parts (ltb p.0 64 && is_new_row p.0 ps) (are_apart ps) h).1 (omega arith)
