-- Bits that are packed into words of 64.
use Rattle.std.specs.Prelude.{◌≡◌, ◌≤◌, ℕ, ◌+◌, ◌/◌, ◌%◌, Bool, false, cond, eqb, List, slice_index}
use Rattle.std.specs.Int.{bit_at}

-- bit k: bit k mod 64 of word k div 64; 0 past their end
abbrev pub word_bit : List ℕ → ℕ → Bool
word_bit words k = eqb (bit_at (slice_index words (k / 64)) (k % 64)) 1

-- how many words hold n bits
abbrev pub words_for : ℕ → ℕ
words_for n = (n + 63) / 64

-- No bit is set from place n on.
abbrev pub IsTrimmed : ℕ → List ℕ → Type 0
IsTrimmed n words = (k : ℕ) → n ≤ k → word_bit words k ≡ false

-- what a word is flipped by, so that its bits that are as wanted become 1
abbrev pub flip_of : Bool → ℕ
flip_of want = cond want 0 18446744073709551615
