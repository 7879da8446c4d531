-- Bits that are added to bytes.
use Rattle.std.proofs.Common.{◌≡◌, ℕ, zero, suc, ◌+◌, ◌-◌, ◌*◌, ◌/◌, ◌%◌, ◌^◌, ◌<◌, ◌≤◌, Bool, true, false, cond, List, length, get_or, refl, ap, sym, ◌∙◌, arith, ⊎_elim, lit≤}
use lib.Lanes.{zip2, chunk, put_chunk}
use Rattle.std.proofs.lemmas.Nat.{pow-add}
use Rattle.std.proofs.lemmas.Bool.{cases_lt}
use Rattle.std.proofs.lemmas.List.{get_or_past}
use Rattle.std.proofs.lemmas.Nat.Bits.{bit_at-zero}
use Rattle.bit_laws.specs.Numbers.{number}
use Rattle.std.proofs.lemmas.Simd.{length-put_chunk, get_or-put_chunk_below, get_or-put_chunk_at, get_or-put_chunk_above, length-zip2, get_or-zip2, length-chunk, get_or-chunk}
use Rattle.bit_laws.specs.Numbers.{bit_of, byte_of}
use Rattle.bit_rows.specs.Words.{word_bit}
use Rattle.element_ops.proofs.Bytes.{bit-byte}

-- the bytes below n have their bit added
pub record Added (words : List ℕ) (bit : ℕ) (first : List ℕ) (n : ℕ) (now : List ℕ) : Type 0 where
  pub len : length now ≡ 2048
  pub done : (c : ℕ) → c < n → get_or now c 0 ≡ get_or first c 0 + cond (word_bit words c) (2 ^ bit) 0
  pub todo : (c : ℕ) → n ≤ c → get_or now c 0 ≡ get_or first c 0

power-few : (bit : ℕ) → bit < 8 → 2 ^ bit ≤ 128
power-few zero few = lit≤ tt
power-few (suc zero) few = lit≤ tt
power-few (suc (suc zero)) few = lit≤ tt
power-few (suc (suc (suc zero))) few = lit≤ tt
power-few (suc (suc (suc (suc zero)))) few = lit≤ tt
power-few (suc (suc (suc (suc (suc zero))))) few = lit≤ tt
power-few (suc (suc (suc (suc (suc (suc zero)))))) few = lit≤ tt
power-few (suc (suc (suc (suc (suc (suc (suc zero))))))) few = lit≤ tt
power-few (suc (suc (suc (suc (suc (suc (suc (suc bit)))))))) few = absurd (omega arith)

-- the sum fits a byte
sum-fits : (x p : ℕ) (t : Bool) → x < p → p ≤ 128 → (x + cond t p 0) % 256 ≡ x + cond t p 0
sum-fits x p true small few = omega arith
sum-fits x p false small few = omega arith

pub added-more : (words first now vals : List ℕ) (bit k bits : ℕ) → Added words bit first (8 * k) now → bit < 8 → ((c : ℕ) → get_or first c 0 < 2 ^ bit) → k * 8 + 8 ≤ 2048
    → length vals ≡ 8 → ((i : ℕ) → i < 8 → get_or vals i 0 ≡ cond (bit_of bits i) (2 ^ bit) 0) → bits ≡ byte_of (get_or words (k / 8) 0) (k % 8)
    → Added words bit first (8 * (k + 1)) (put_chunk (k * 8) now (zip2 (λ x y. (x + y) % 256) (chunk (k * 8) 8 now) vals))
added-more words first now vals bit k bits p few small room all each is =
    let lanes = zip2 (λ x y. (x + y) % 256) (chunk (k * 8) 8 now) vals in
    let cut : length (chunk (k * 8) 8 now) ≡ 8 = length-chunk (k * 8) 8 now (omega (arith, p.len)) in
    let long : length lanes ≡ 8 = length-zip2 (λ x y. (x + y) % 256) (chunk (k * 8) 8 now) vals (cut ∙ sym all) ∙ cut in
    record {
      len = length-put_chunk (k * 8) now lanes ∙ p.len;
      done = λ c below. ⊎_elim
          (λ (l : c < k * 8). get_or-put_chunk_below (k * 8) now lanes c 0 l ∙ p.done c (omega arith))
          (λ (l : k * 8 ≤ c).
          let i = c - k * 8 in
          let inside : i < 8 = omega arith in
          let place : k * 8 + i ≡ c = omega arith in
          let word : c / 64 ≡ k / 8 = omega arith in
          let rest : c % 64 ≡ 8 * (k % 8) + i = omega arith in
          let old : get_or (chunk (k * 8) 8 now) i 0 ≡ get_or first c 0 = get_or-chunk (k * 8) 8 now i 0 inside ∙ rw place (p.todo c (omega arith)) in
          let has : bit_of bits i ≡ word_bit words c = rw (is, word, rest) (bit-byte (get_or words (k / 8) 0) (k % 8) i inside) in
          let new : get_or vals i 0 ≡ cond (word_bit words c) (2 ^ bit) 0 = each i inside ∙ ap (λ (t : Bool). cond t (2 ^ bit) 0) has in
          let at : get_or (put_chunk (k * 8) now lanes) (k * 8 + i) 0 ≡ get_or lanes i 0 = get_or-put_chunk_at (k * 8) now lanes i 0 (omega arith) (omega (arith, p.len)) in
          ap (λ (x : ℕ). get_or (put_chunk (k * 8) now lanes) x 0) (sym place) ∙ at
          ∙ get_or-zip2 (λ x y. (x + y) % 256) (chunk (k * 8) 8 now) vals i 0 0 0 (omega arith) (omega arith)
          ∙ rw (old, new) (sum-fits (get_or first c 0) (2 ^ bit) (word_bit words c) (small c) (power-few bit few)))
          (cases_lt c (k * 8));
      todo = λ c above. get_or-put_chunk_above (k * 8) now lanes c 0 (omega arith) ∙ p.todo c (omega arith);
    }

pub added-none : (words first : List ℕ) (bit : ℕ) → length first ≡ 2048 → Added words bit first 0 first
added-none words first bit all = record { len = all; done = λ c below. absurd (omega arith); todo = λ c above. refl }

pub added-all : (words first now : List ℕ) (bit k : ℕ) → Added words bit first (8 * k) now → length words * 8 ≤ k → (c : ℕ) → get_or now c 0 ≡ get_or first c 0 + cond (word_bit words c) (2 ^ bit) 0
added-all words first now bit k p end c = ⊎_elim
    (λ (l : c < 8 * k). p.done c l)
    (λ (l : 8 * k ≤ c). rw (p.todo c l, get_or_past words (c / 64) 0 (omega arith), bit_at-zero (c % 64)) (omega arith)) (cases_lt c (8 * k))

-- a byte with one more bit
pub small-more : (x y n : ℕ) (t : Bool) → x < 2 ^ n → y ≡ x + cond t (2 ^ n) 0 → y < 2 ^ (n + 1)
small-more x y n true small is = let e : 2 ^ (n + 1) ≡ 2 ^ n * 2 ^ 1 = pow-add 2 n 1 in omega arith
small-more x y n false small is = let e : 2 ^ (n + 1) ≡ 2 ^ n * 2 ^ 1 = pow-add 2 n 1 in omega arith

-- a byte of a word, as the code finds it
pub bits-are : (word m : ℕ) → word / 2 ^ (m * 8) % 256 ≡ byte_of word m
bits-are word m = let e : m * 8 ≡ 8 * m = omega arith in rw e refl

pub number-more : (n x y : ℕ) (t : Bool) (f : ℕ → Bool) → x ≡ number n f → y ≡ x + cond t (2 ^ n) 0 → t ≡ f n → y ≡ number (n + 1) f
number-more n x y t f is sum has = let e : n + 1 ≡ suc n = omega arith in rw (e, sum, is, has) refl
