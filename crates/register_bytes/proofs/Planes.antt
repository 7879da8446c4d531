-- A bit of many bytes at once.
use Rattle.std.proofs.Common.{◌≡◌, ℕ, zero, suc, ◌+◌, ◌*◌, ◌/◌, ◌%◌, ◌^◌, ◌<◌, ◌≤◌, Bool, true, false, cond, not, eqb, List, [], ◌∷◌, length, get_or, set, take, map, replicate, bit_and, refl, ap, sym, ◌∙◌, arith, ⊎_elim, w8}
use lib.Lanes.{zip2, mask_l, top, chunk}
use Rattle.std.specs.Int.{bit_at, div_ceil}
use Rattle.std.proofs.lemmas.Bool.{cases_lt, cases_eq, ne_eqb}
use Rattle.std.proofs.lemmas.List.{get_or-map, get_or-set_same, get_or-set_other, length-set, get_or_past, length-take}
use Rattle.std.proofs.lemmas.Nat.{one_shl, pow_pos}
use Rattle.std.proofs.lemmas.Nat.Bits.{and_pow, bit_at-lt, bit_at-zero}
use Rattle.std.proofs.lemmas.Simd.{bitmask_splat, bit_mask_l, length-zip2, get_or-zip2, length-replicate, get_or-replicate, get_or-chunk}
use Rattle.bit_laws.specs.Numbers.{bit_of}
use Rattle.bit_rows.specs.Words.{word_bit, words_for, IsTrimmed}
use Rattle.bit_rows.proofs.Packed.{bit-take}

-- a bit that is tested by its value
is-set : (x p : ℕ) → x < 2 → 0 < p → not (eqb (x * p) 0) ≡ eqb x 1
is-set zero p small some = let e : 0 * p ≡ 0 = omega arith in rw e refl
is-set (suc zero) p small some = let ne : 1 * p ≡ 0 → ⊥ = omega arith in rw (ne_eqb (1 * p) 0 ne) refl
is-set (suc (suc x)) p small some = absurd (omega arith)

pub bit-set : (z bit : ℕ) → not (eqb (bit_and z (2 ^ bit)) 0) ≡ bit_of z bit
bit-set z bit = rw (and_pow z bit) (is-set (bit_at z bit) (2 ^ bit) (bit_at-lt z bit) (pow_pos bit))

one-or-none : (t : Bool) → eqb (cond t 1 0) 1 ≡ t
one-or-none true = refl
one-or-none false = refl

pub lanes_bit : (xs : List ℕ) (bit k : ℕ) → length xs ≡ 64 → bit < 8 → k < 64
    → bit_of (mask_l (map (top 7) (zip2 (λ a b. cond (not (eqb a b)) 255 0) (zip2 bit_and xs (replicate 64 (1 * 2 ^ bit % 256))) (replicate 64 0))) % 18446744073709551616) k ≡ bit_of (get_or xs k 0) bit
lanes_bit xs bit k all few inside =
    let y = 1 * 2 ^ bit % 256 in
    let small : y ≡ 2 ^ bit = one_shl bit 8 few in
    let zs = zip2 bit_and xs (replicate 64 y) in
    let many : length xs ≡ length (replicate 64 y) = all ∙ sym (length-replicate 64 y) in
    let long : length zs ≡ 64 = length-zip2 bit_and xs (replicate 64 y) many ∙ all in
    let lane : get_or zs k 0 ≡ bit_and (get_or xs k 0) (2 ^ bit) = get_or-zip2 bit_and xs (replicate 64 y) k 0 0 0 (omega arith) (omega (arith, length-replicate 64 y)) ∙ ap (bit_and (get_or xs k 0)) (get_or-replicate 64 k y 0 inside ∙ small) in
    ap (λ (n : ℕ). bit_of n k) (bitmask_splat w8 (λ a b. not (eqb a b)) zs 64 0 long (omega arith))
    ∙ ap (λ (n : ℕ). eqb n 1) (bit_mask_l (map (λ x. not (eqb x 0)) zs) k)
    ∙ one-or-none (get_or (map (λ x. not (eqb x 0)) zs) k false)
    ∙ get_or-map (λ x. not (eqb x 0)) zs k 0 false (omega arith)
    ∙ ap (λ (x : ℕ). not (eqb x 0)) lane
    ∙ bit-set (get_or xs k 0) bit

-- zeros
pub zeros : (n z k : ℕ) → z ≡ 0 → get_or (replicate n z) k 0 ≡ 0
zeros n z k none = ⊎_elim
    (λ (l : k < n). get_or-replicate n k z 0 l ∙ none)
    (λ (l : n ≤ k). get_or_past (replicate n z) k 0 (omega (arith, length-replicate n z))) (cases_lt k n)

-- the words below k hold the bits, and the others are 0
pub record Holds (lane : List ℕ) (bit k : ℕ) (words : List ℕ) : Type 0 where
  pub len : length words ≡ 32
  pub done : (c : ℕ) → c < 64 * k → word_bit words c ≡ bit_of (get_or lane c 0) bit
  pub todo : (c : ℕ) → k ≤ c → get_or words c 0 ≡ 0

pub holds-none : (lane : List ℕ) (bit z : ℕ) → z ≡ 0 → Holds lane bit 0 (replicate 32 z)
holds-none lane bit z none = record { len = length-replicate 32 z; done = λ c below. absurd (omega arith); todo = λ c above. zeros 32 z c none }

pub holds-more : (lane words : List ℕ) (bit k word : ℕ) → Holds lane bit k words → k < 32
    → ((i : ℕ) → i < 64 → bit_of word i ≡ bit_of (get_or (chunk (k * 64) 64 lane) i 0) bit)
    → Holds lane bit (k + 1) (set words k word)
holds-more lane words bit k word p inside bits = record {
  len = length-set words k word ∙ p.len;
  done = λ c below. ⊎_elim
      (λ (e : c / 64 ≡ k).
      let place : k * 64 + c % 64 ≡ c = omega arith in
      rw (e, get_or-set_same words k word 0 (omega (arith, p.len)))
      (bits (c % 64) (omega arith) ∙ ap (λ (x : ℕ). bit_of x bit) (get_or-chunk (k * 64) 64 lane (c % 64) 0 (omega arith) ∙ ap (λ (x : ℕ). get_or lane x 0) place)))
      (λ (e : c / 64 ≡ k → ⊥). rw (get_or-set_other words k (c / 64) word 0 e) (p.done c (omega arith))) (cases_eq (c / 64) k);
  todo = λ c above. let apart : c ≡ k → ⊥ = omega arith in get_or-set_other words k c word 0 apart ∙ p.todo c (omega arith);
}

pub holds-all : (lane words : List ℕ) (bit k : ℕ) → Holds lane bit k words → ((c : ℕ) → 64 * k ≤ c → get_or lane c 0 ≡ 0) → (c : ℕ) → word_bit words c ≡ bit_of (get_or lane c 0) bit
holds-all lane words bit k p past c = ⊎_elim
    (λ (l : c < 64 * k). p.done c l)
    (λ (l : 64 * k ≤ c). rw (p.todo (c / 64) (omega arith), past c l, bit_at-zero (c % 64), bit_at-zero bit) refl) (cases_lt c (64 * k))

-- the value of a bit in each of eight lanes
abbrev value_at : (bits y j : ℕ) → ℕ
value_at bits y j = cond (top 7 (cond (not (eqb (bit_and bits (2 ^ j)) 0)) 255 0)) y 0

spread-one : (bits y j : ℕ) → value_at bits y j ≡ cond (bit_of bits j) y 0
spread-one bits y j = rw (bit-set bits j) (at (bit_of bits j))
  where
    at : (t : Bool) → cond (top 7 (cond t 255 0)) y 0 ≡ cond t y 0
    at true = refl
    at false = refl

abbrev pub spread_lanes : (bits y : ℕ) → List ℕ
spread_lanes bits y = value_at bits y 0 ∷ value_at bits y 1 ∷ value_at bits y 2 ∷ value_at bits y 3 ∷ value_at bits y 4 ∷ value_at bits y 5 ∷ value_at bits y 6 ∷ value_at bits y 7 ∷ []

spread-at : (bits y k : ℕ) → k < 8 → get_or (spread_lanes bits y) k 0 ≡ cond (bit_of bits k) y 0
spread-at bits y zero inside = spread-one bits y 0
spread-at bits y (suc zero) inside = spread-one bits y 1
spread-at bits y (suc (suc zero)) inside = spread-one bits y 2
spread-at bits y (suc (suc (suc zero))) inside = spread-one bits y 3
spread-at bits y (suc (suc (suc (suc zero)))) inside = spread-one bits y 4
spread-at bits y (suc (suc (suc (suc (suc zero))))) inside = spread-one bits y 5
spread-at bits y (suc (suc (suc (suc (suc (suc zero)))))) inside = spread-one bits y 6
spread-at bits y (suc (suc (suc (suc (suc (suc (suc zero))))))) inside = spread-one bits y 7
spread-at bits y (suc (suc (suc (suc (suc (suc (suc (suc k)))))))) inside = absurd (omega arith)

pub spread_bit : (bits bit k : ℕ) → bit < 8 → k < 8 → get_or (spread_lanes bits (1 * 2 ^ bit % 256)) k 0 ≡ cond (bit_of bits k) (2 ^ bit) 0
spread_bit bits bit k few inside = spread-at bits (1 * 2 ^ bit % 256) k inside ∙ ap (λ (y : ℕ). cond (bit_of bits k) y 0) (one_shl bit 8 few)

-- the words of a row
pub words-long : (n count m : ℕ) (words : List ℕ) → length words ≡ 32 → n ≤ 2048 → count ≡ div_ceil n 64 → m ≡ n → length (take count words) ≡ words_for m
words-long n count m words all few is same = length-take count words ∙ rw (all, is, same) (omega arith)

planes-trimmed : (n bit : ℕ) (words lane : List ℕ) → ((c : ℕ) → word_bit words c ≡ bit_of (get_or lane c 0) bit) → ((c : ℕ) → n ≤ c → get_or lane c 0 ≡ 0) → IsTrimmed n words
planes-trimmed n bit words lane bits past k above = bits k ∙ rw (past k above, bit_at-zero bit) refl

pub words-trimmed : (n count m bit : ℕ) (words lane : List ℕ) → ((c : ℕ) → word_bit words c ≡ bit_of (get_or lane c 0) bit) → ((c : ℕ) → n ≤ c → get_or lane c 0 ≡ 0) → count ≡ div_ceil n 64 → m ≡ n
    → IsTrimmed m (take count words)
words-trimmed n count m bit words lane bits past is same k above =
    let t = planes-trimmed n bit words lane bits past in
    bit-take n count words t (omega arith) k ∙ t k (omega arith)

pub words-bits : (n count place bit : ℕ) (words lane : List ℕ) → ((c : ℕ) → word_bit words c ≡ bit_of (get_or lane c 0) bit) → ((c : ℕ) → n ≤ c → get_or lane c 0 ≡ 0) → count ≡ div_ceil n 64 → bit < 8
    → (c : ℕ) → word_bit (take count words) c ≡ bit_of (get_or lane c 0) ((8 * place + bit) % 8)
words-bits n count place bit words lane bits past is few c =
    let e : (8 * place + bit) % 8 ≡ bit = omega arith in
    bit-take n count words (planes-trimmed n bit words lane bits past) (omega arith) c ∙ rw e (bits c)
