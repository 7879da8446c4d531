-- A number that std reads is the one that a text writes.
use Rattle.std.proofs.Common.{◌≡◌, ℕ, ◌<◌, ◌^◌, Bool, true, false, List, [], ◌∷◌, length, Option, Some, None, Result, Ok, Err, refl, sym, ap, ◌∙◌, subst, nat_lt, arith, ◌&&◌, if◌then◌else◌, true≢false}
use Rattle.std.specs.Result.{OkIff, result_ok}
use Rattle.std.specs.Str.Parse.{AllDigits, IsNumeral, ParsesUnsigned, digits_value, without_leading_plus}
use Rattle.std.specs.Char.{is_digit}
use Rattle.std.specs.List.{list_all}
use Rattle.std.proofs.lemmas.Bool.Decides.{nat_tests}
use Rattle.library_probe.specs.Numbers.{is_numeral, number_in, number_of_digits}

both : (a b : Bool) → a ≡ true → b ≡ true → a && b ≡ true
both true b p q = q
both false b p q = p

first : (a b : Bool) → a && b ≡ true → a ≡ true
first true b p = refl
first false b p = p

second : (a b : Bool) → a && b ≡ true → b ≡ true
second true b p = p
second false b p = absurd (true≢false (sym p))

less : (a b : ℕ) → a < b → nat_lt a b ≡ true
less a b below = grind (arith, nat_tests)

is_less : (a b : ℕ) → nat_lt a b ≡ true → a < b
is_less a b test = grind (arith, nat_tests)

all_true : (radix : ℕ) (digits : List ℕ) → AllDigits radix digits → list_all (λ c. is_digit c radix) digits ≡ true
all_true radix [] all = refl
all_true radix (c ∷ rest) all = both _ _ (less _ _ all.0) (all_true radix rest all.1)

are_all : (radix : ℕ) (digits : List ℕ) → list_all (λ c. is_digit c radix) digits ≡ true → AllDigits radix digits
are_all radix [] test = tt
are_all radix (c ∷ rest) test = (is_less _ _ (first _ _ test), are_all radix rest (second (is_digit c radix) _ test))

numeral_true : (radix : ℕ) (digits : List ℕ) → IsNumeral radix digits → is_numeral radix digits ≡ true
numeral_true radix digits is = both _ _ (less _ _ is.0) (all_true radix digits is.1)

is_numeral_by : (radix : ℕ) (digits : List ℕ) → is_numeral radix digits ≡ true → IsNumeral radix digits
is_numeral_by radix digits test = (is_less _ _ (first _ _ test), are_all radix digits (second (nat_lt 0 (length digits)) _ test))

choose : (test : Bool) (n : ℕ) → (test ≡ true → ⊥) → (if test then Some n else None) ≡ None
choose true n never = absurd (never refl)
choose false n never = refl

number_ok : {E : Type 0} (bits radix : ℕ) (digits : List ℕ) (r : Result ℕ E) → OkIff r (IsNumeral radix digits × (digits_value radix digits < 2 ^ bits)) (digits_value radix digits)
    → result_ok r ≡ number_of_digits bits radix digits
number_ok bits radix digits (Ok n) is =
    rw (both _ _ (numeral_true radix digits is.0.0) (less _ _ is.0.1), is.1) refl
number_ok bits radix digits (Err e) never =
    sym (choose _ (digits_value radix digits) (λ test. never (is_numeral_by radix digits (first _ _ test), is_less _ _ (second (is_numeral radix digits) _ test))))

pub number_read : {E : Type 0} (bits radix : ℕ) (text : List ℕ) (r : Result ℕ E) → ParsesUnsigned bits radix text r → result_ok r ≡ number_in bits radix text
unfolding number_in
number_read bits radix text r parses = number_ok bits radix (without_leading_plus text) r parses
