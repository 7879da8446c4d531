-- Numbers of one word.
use Rattle.std.specs.Prelude.{ℕ, ◌^◌, Bool, ◌&&◌, List, Option, Some, None, nat_lt, length, if◌then◌else◌}
use Rattle.std.specs.List.{list_all}
use Rattle.std.specs.Char.{is_digit}
use Rattle.std.specs.Str.Parse.{without_leading_plus, digits_value}

-- one digit or more, and nothing else
abbrev pub is_numeral : ℕ → List ℕ → Bool
is_numeral radix digits = nat_lt 0 (length digits) && list_all (λ c. is_digit c radix) digits

-- the number that digits write, if it has no more than so many bits
abbrev pub number_of_digits : (bits radix : ℕ) → List ℕ → Option ℕ
number_of_digits bits radix digits =
    if is_numeral radix digits && nat_lt (digits_value radix digits) (2 ^ bits) then Some (digits_value radix digits) else None

-- the number that a text writes; a plus may stand first
unfoldable pub number_in : (bits radix : ℕ) → List ℕ → Option ℕ
number_in bits radix text = number_of_digits bits radix (without_leading_plus text)

abbrev pub byte_in : List ℕ → Option ℕ
byte_in text = number_in 8 10 text

abbrev pub word_in_base : ℕ → List ℕ → Option ℕ
word_in_base radix text = number_in 32 radix text

abbrev pub decimal_in : List ℕ → Option ℕ
decimal_in text = word_in_base 10 text

abbrev pub hexadecimal_in : List ℕ → Option ℕ
hexadecimal_in text = word_in_base 16 text
