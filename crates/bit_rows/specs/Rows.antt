-- Rows of bits.
use Rattle.std.specs.Prelude.{ℕ, Bool, List, map}
use Rattle.std.specs.List.{zip, range_with_len}
use Rattle.bit_rows.specs.Words.{word_bit}

-- two rows taken together, place by place
abbrev pub zip_with : (Bool → Bool → Bool) → List Bool → List Bool → List Bool
zip_with f xs ys = map (λ pair. f pair.0 pair.1) (zip xs ys)

-- the first n bits of packed words
unfoldable pub bits_of : ℕ → List ℕ → List Bool
bits_of n words = map (word_bit words) (range_with_len 0 n)
