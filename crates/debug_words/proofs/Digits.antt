-- Reading a number digit by digit.
use Rattle.std.proofs.Common.{◌≡◌, ℕ, suc, ◌+◌, ◌*◌, ◌<◌, ◌≤◌, ◌^◌, List, [], ◌∷◌, length, drop, get_or, Some, None, refl, ◌∙◌, arith}
use Rattle.std.proofs.Math.Nat.{mul-le-mul, pow-le-pow_right, pow-succ'}
use Rattle.std.proofs.lemmas.List.{at_drop_more, drop_all}
use Rattle.debug_words.specs.Grammar.{digit, digits_after, digits_in}

-- the next digit
pub digits_more : (radix : ℕ) (ds : List ℕ) (n i c d : ℕ) → i < length ds → c ≡ get_or ds i 0 → Some d ≡ digit radix c → digits_after radix n (drop i ds) ≡ digits_after radix (radix * n + d) (drop (i + 1) ds)
unfolding digits_after
digits_more radix ds n i c d within is has = at_drop_more (λ xs. digits_after radix n xs) ds i 0 within ∙ rw (← is, ← has) refl

-- a byte that is no digit
pub digits_end : (radix : ℕ) (ds : List ℕ) (n i c : ℕ) → i < length ds → c ≡ get_or ds i 0 → None ≡ digit radix c → digits_after radix n (drop i ds) ≡ None
unfolding digits_after
digits_end radix ds n i c within is has = at_drop_more (λ xs. digits_after radix n xs) ds i 0 within ∙ rw (← is, ← has) refl

-- all digits were read
pub digits_done : (radix : ℕ) (ds : List ℕ) (n i : ℕ) → length ds ≤ i → digits_after radix n (drop i ds) ≡ Some n
unfolding digits_after
digits_done radix ds n i done = rw (drop_all i ds done) refl

-- some digits are no empty list of them
pub some_digits : (radix : ℕ) (ds : List ℕ) → 0 < length ds → digits_in radix ds ≡ digits_after radix 0 ds
some_digits radix [] some = absurd (omega arith)
some_digits radix (d ∷ ds) some = refl

-- a number of i digits of a radix of at most sixteen is below the power, and below 2^36 where one more is to come
pub bounded_more : (radix n d i : ℕ) → radix ≤ 16 → d < 16 → n + 1 ≤ 16 ^ i → radix * n + d + 1 ≤ 16 ^ (i + 1)
bounded_more radix n d i small digit below =
    let same : n ≤ n = omega arith in
    let most : radix * n ≤ 16 * n = mul-le-mul small same in
    let next : i + 1 ≡ suc i = omega arith in
    rw (next, pow-succ' 16 i) (omega arith)

pub bounded : (n i : ℕ) → i ≤ 9 → n + 1 ≤ 16 ^ i → n < 68719476736
bounded n i few below =
    let most : 16 ^ i ≤ 16 ^ 9 = pow-le-pow_right (omega arith) few in
    omega arith

-- so one more digit fits
pub product_fits : (radix n i : ℕ) → radix ≤ 16 → i ≤ 9 → n + 1 ≤ 16 ^ i → radix * n < 1099511627776
product_fits radix n i small few below =
    let less = bounded n i few below in
    let same : n ≤ n = omega arith in
    let most : radix * n ≤ 16 * n = mul-le-mul small same in
    omega arith
