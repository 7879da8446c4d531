-- One more key.
use Rattle.std.proofs.Common.{◌≡◌, ℕ, ◌+◌, ◌<◌, Bool, true, false, ◌&&◌, List, [], ◌∷◌, ◌++◌, length, get_or, take, refl, ◌∙◌, ap}
use Rattle.std.proofs.lemmas.List.{take_more, get_or_default}
use mathlib.Core.Bool.{beq}
use Rattle.cam_chain.specs.Slices.{matches}
use Rattle.cam_chain.specs.ChainValue.{row_bit}
use Rattle.std.proofs.lemmas.Bool.{lt-ltb}

-- one key more at the end
matches-push : (bits : ℕ → Bool) (keys : List (ℕ × Bool)) (key : ℕ × Bool) → matches bits (keys ++ key ∷ []) ≡ matches bits keys && beq (bits key.0) key.1
matches-push bits [] key = and_true (beq (bits key.0) key.1)
  where
    and_true : (b : Bool) → b && true ≡ b
    and_true true = refl
    and_true false = refl
matches-push bits (k ∷ ks) key = ap (λ (b : Bool). beq (bits k.0) k.1 && b) (matches-push bits ks key) ∙ assoc (beq (bits k.0) k.1) (matches bits ks) (beq (bits key.0) key.1)
  where
    assoc : (a b c : Bool) → a && (b && c) ≡ (a && b) && c
    assoc true b c = refl
    assoc false b c = refl

-- one more of the keys
pub matches-more : (bits : ℕ → Bool) (keys : List (ℕ × Bool)) (i : ℕ) (d : ℕ × Bool) → i < length keys
    → matches bits (take (i + 1) keys) ≡ matches bits (take i keys) && beq (bits (get_or keys i d).0) (get_or keys i d).1
matches-more bits keys i d h = rw (take_more keys i d h) (matches-push bits (take i keys) (get_or keys i d))

-- one more key has cleared the bits that do not match it
pub keyed-more : (rows : List (List Bool)) (base : ℕ) (keys : List (ℕ × Bool)) (i k : ℕ) (row : List Bool) (a b : Bool) → i < length keys
    → (get_or keys i (0, false)).0 < 64 → base + (get_or keys i (0, false)).0 < length rows → row ≡ get_or rows (base + (get_or keys i (0, false)).0) row
    → a ≡ matches (λ r. row_bit rows base r k) (take i keys)
    → b ≡ a && beq (get_or row k false) (get_or keys i (0, false)).1
    → b ≡ matches (λ r. row_bit rows base r k) (take (i + 1) keys)
keyed-more rows base keys i k row a b h g l e p q =
    q ∙ rw (p, matches-more (λ r. row_bit rows base r k) keys i (0, false) h, lt-ltb (get_or keys i (0, false)).0 64 g)
    (ap (λ (x : List Bool). matches (λ r. row_bit rows base r k) (take i keys) && beq (get_or x k false) (get_or keys i (0, false)).1)
    (e ∙ get_or_default rows (base + (get_or keys i (0, false)).0) row [] l))

-- the first key has made the bits that match it
pub keyed-first : (rows : List (List Bool)) (base : ℕ) (keys : List (ℕ × Bool)) (k : ℕ) (row : List Bool) (b : Bool) → 0 < length keys
    → (get_or keys 0 (0, false)).0 < 64 → base + (get_or keys 0 (0, false)).0 < length rows → row ≡ get_or rows (base + (get_or keys 0 (0, false)).0) row
    → b ≡ beq (get_or row k false) (get_or keys 0 (0, false)).1
    → b ≡ matches (λ r. row_bit rows base r k) (take 1 keys)
keyed-first rows base keys k row b h g l e q = keyed-more rows base keys 0 k row true b h g l e refl q
