-- What carries tell of two numbers.
use Rattle.std.proofs.Common.{◌≡◌, ◌≢◌, ℕ, ◌+◌, ◌-◌, ◌*◌, ◌^◌, ◌%◌, ◌<◌, ◌≤◌, Bool, true, false, cond, not, eqb, ltb, leb, int_lt, int_le, List, zero, suc, refl, sym, ◌∙◌, ap, arith, ⊎_elim}
use Rattle.std.proofs.Math.Nat.{pow-suc}
use Rattle.std.proofs.lemmas.Nat.{mod-mul-add}
use Rattle.std.proofs.lemmas.Bool.{cases_lt, cases_eq, lt-ltb, le-ltb, le-leb, lt-leb, eq-eqb, ne_eqb}
use Rattle.bit_laws.specs.Numbers.{number, low}
use Rattle.bit_laws.proofs.Numbers.{number-lt}
use Rattle.bit_laws.specs.Signed.{signed}
use Rattle.bit_laws.proofs.Signed.{signed-order, signed-most}
use Rattle.gen_arith.specs.Recipes.{most_on, most_not_on, borrow_on, unlike_on, alike_on, at_most_on, at_most_signed_on}
use Rattle.gen_arith.proofs.Rows.{finds, carried}

-- The table takes what is told of two numbers below p to what is told of them with one bit more.
abbrev pub Follows : (on : List ℕ) (told : ℕ → ℕ → ℕ → Bool) → Type 0
Follows on told = (p x y : ℕ) (s t : Bool) → x < p → y < p → finds on (told p x y) s t ≡ told (p * 2) (x + cond s p 0) (y + cond t p 0)

-- so the carries tell it of all bits below
pub carried-tells : (on : List ℕ) (told : ℕ → ℕ → ℕ → Bool) (first : Bool) → first ≡ told 1 0 0 → Follows on told → (n : ℕ) (x y : ℕ → Bool)
    → carried on first x y n ≡ told (2 ^ n) (number n x) (number n y)
carried-tells on told first start follows zero x y = start
carried-tells on told first start follows (suc n) x y =
    rw (pow-suc 2 n) (ap (λ c. finds on c (x n) (y n)) (carried-tells on told first start follows n x y)
    ∙ follows (2 ^ n) (number n x) (number n y) (x n) (y n) (number-lt n x) (number-lt n y))

-- ---- the borrow of a - b

abbrev pub borrows : (f : ℕ) → ℕ → ℕ → ℕ → Bool
borrows f p x y = ltb x (y + f)

by_lt : (on : List ℕ) (s t : Bool) (a b : ℕ) (u : Bool) → (a < b → finds on true s t ≡ u) → (b ≤ a → finds on false s t ≡ u) → finds on (ltb a b) s t ≡ u
by_lt on s t a b u below above = ⊎_elim (λ (l : a < b). rw (lt-ltb a b l) (below l)) (λ (l : b ≤ a). rw (le-ltb a b l) (above l)) (cases_lt a b)

pub borrow-follows : (f : ℕ) → f ≤ 1 → Follows borrow_on (borrows f)
borrow-follows f small p x y true true below under =
    by_lt borrow_on true true x (y + f) _ (λ l. sym (lt-ltb (x + p) (y + p + f) (omega arith))) (λ l. sym (le-ltb (x + p) (y + p + f) (omega arith)))
borrow-follows f small p x y true false below under =
    by_lt borrow_on true false x (y + f) _ (λ l. sym (le-ltb (x + p) (y + 0 + f) (omega arith))) (λ l. sym (le-ltb (x + p) (y + 0 + f) (omega arith)))
borrow-follows f small p x y false true below under =
    by_lt borrow_on false true x (y + f) _ (λ l. sym (lt-ltb (x + 0) (y + p + f) (omega arith))) (λ l. sym (lt-ltb (x + 0) (y + p + f) (omega arith)))
borrow-follows f small p x y false false below under =
    by_lt borrow_on false false x (y + f) _ (λ l. sym (lt-ltb (x + 0) (y + 0 + f) (omega arith))) (λ l. sym (le-ltb (x + 0) (y + 0 + f) (omega arith)))

-- ---- the borrow of b - a

abbrev pub exceeds : ℕ → ℕ → ℕ → Bool
exceeds p x y = ltb y x

-- a table of which the operands change places
turned : (c s t : Bool) → finds most_not_on c s t ≡ finds borrow_on c t s
turned true true true = refl
turned true true false = refl
turned true false true = refl
turned true false false = refl
turned false true true = refl
turned false true false = refl
turned false false true = refl
turned false false false = refl

pub exceed-follows : Follows most_not_on exceeds
exceed-follows p x y s t below under =
    turned (ltb y x) s t
    ∙ (let e : x ≡ x + 0 = omega arith in ap (λ v. finds borrow_on (ltb y v) t s) e)
    ∙ borrow-follows 0 (omega arith) p y x t s under below
    ∙ (let e : x + cond s p 0 + 0 ≡ x + cond s p 0 = omega arith in ap (ltb (y + cond t p 0)) e)

-- ---- the carry of a + b

abbrev pub carries_out : (f : ℕ) → ℕ → ℕ → ℕ → Bool
carries_out f p x y = leb p (x + y + f)

by_le : (on : List ℕ) (s t : Bool) (a b : ℕ) (u : Bool) → (a ≤ b → finds on true s t ≡ u) → (b < a → finds on false s t ≡ u) → finds on (leb a b) s t ≡ u
by_le on s t a b u low high = ⊎_elim (λ (l : b < a). rw (lt-leb a b l) (high l)) (λ (l : a ≤ b). rw (le-leb a b l) (low l)) (cases_lt b a)

pub carry-follows : (f : ℕ) → f ≤ 1 → Follows most_on (carries_out f)
carry-follows f small p x y true true below under =
    by_le most_on true true p (x + y + f) _ (λ l. sym (le-leb (p * 2) (x + p + (y + p) + f) (omega arith))) (λ l. sym (le-leb (p * 2) (x + p + (y + p) + f) (omega arith)))
carry-follows f small p x y true false below under =
    by_le most_on true false p (x + y + f) _ (λ l. sym (le-leb (p * 2) (x + p + (y + 0) + f) (omega arith))) (λ l. sym (lt-leb (p * 2) (x + p + (y + 0) + f) (omega arith)))
carry-follows f small p x y false true below under =
    by_le most_on false true p (x + y + f) _ (λ l. sym (le-leb (p * 2) (x + 0 + (y + p) + f) (omega arith))) (λ l. sym (lt-leb (p * 2) (x + 0 + (y + p) + f) (omega arith)))
carry-follows f small p x y false false below under =
    by_le most_on false false p (x + y + f) _ (λ l. sym (lt-leb (p * 2) (x + 0 + (y + 0) + f) (omega arith))) (λ l. sym (lt-leb (p * 2) (x + 0 + (y + 0) + f) (omega arith)))

-- ---- a difference

abbrev pub differs : ℕ → ℕ → ℕ → Bool
differs p x y = not (eqb x y)

by_eq : (on : List ℕ) (s t : Bool) (a b : ℕ) (u : Bool) → (a ≡ b → finds on false s t ≡ u) → (a ≢ b → finds on true s t ≡ u) → finds on (not (eqb a b)) s t ≡ u
by_eq on s t a b u alike apart = ⊎_elim (λ (e : a ≡ b). rw (eq-eqb a b e) (alike e)) (λ (e : a ≢ b). rw (ne_eqb a b e) (apart e)) (cases_eq a b)

unlike-at : (a b : ℕ) → a ≢ b → true ≡ not (eqb a b)
unlike-at a b apart = rw (ne_eqb a b apart) refl

alike-at : (a b : ℕ) → a ≡ b → false ≡ not (eqb a b)
alike-at a b same = rw (eq-eqb a b same) refl

pub unlike-follows : Follows unlike_on differs
unlike-follows p x y true true below under =
    by_eq unlike_on true true x y _ (λ e. alike-at (x + p) (y + p) (omega arith)) (λ e. unlike-at (x + p) (y + p) (λ q. e (omega arith)))
unlike-follows p x y true false below under =
    by_eq unlike_on true false x y _ (λ e. unlike-at (x + p) (y + 0) (omega arith)) (λ e. unlike-at (x + p) (y + 0) (omega arith))
unlike-follows p x y false true below under =
    by_eq unlike_on false true x y _ (λ e. unlike-at (x + 0) (y + p) (omega arith)) (λ e. unlike-at (x + 0) (y + p) (omega arith))
unlike-follows p x y false false below under =
    by_eq unlike_on false false x y _ (λ e. alike-at (x + 0) (y + 0) (omega arith)) (λ e. unlike-at (x + 0) (y + 0) (λ q. e (omega arith)))

-- ---- signed numbers

-- Signed numbers of w bits are in the order of these natural numbers: their highest bit is inverted.
abbrev pub biased : (w a : ℕ) → ℕ
biased w a = low w (a + 2 ^ (w - 1))

-- that number, by the bits below the highest
pub biased-number : (n : ℕ) (x : ℕ → Bool) → biased (suc n) (number (suc n) x) ≡ number n x + cond (not (x n)) (2 ^ n) 0
biased-number n x =
    let z : suc n - 1 ≡ n = omega arith in
    let small = number-lt n x in
    rw (z, pow-suc 2 n) (elim (x n) as (λ b. (number n x + cond b (2 ^ n) 0 + 2 ^ n) % (2 ^ n * 2) ≡ number n x + cond (not b) (2 ^ n) 0) [
      | true ↦ (let e : number n x + 2 ^ n + 2 ^ n ≡ 1 * (2 ^ n * 2) + number n x = omega arith in let s : number n x + 0 ≡ number n x = omega arith in rw (e, s) (mod-mul-add 1 (2 ^ n * 2) (number n x) (omega arith)))
      | false ↦ (let e : number n x + 0 + 2 ^ n ≡ 0 * (2 ^ n * 2) + (number n x + 2 ^ n) = omega arith in rw e (mod-mul-add 0 (2 ^ n * 2) (number n x + 2 ^ n) (omega arith)))
    ])

-- The carries tell something of the natural numbers, and a table of the highest bits inverted tells it of signed ones.
pub signed-tells : (on last : List ℕ) (told : ℕ → ℕ → ℕ → Bool) (first : Bool) → first ≡ told 1 0 0 → Follows on told
    → ((c s t : Bool) → finds last c s t ≡ finds on c (not s) (not t))
    → (n : ℕ) (x y : ℕ → Bool) → finds last (carried on first x y n) (x n) (y n) ≡ told (2 ^ n * 2) (biased (suc n) (number (suc n) x)) (biased (suc n) (number (suc n) y))
signed-tells on last told first start follows inverts n x y =
    inverts (carried on first x y n) (x n) (y n)
    ∙ ap (λ c. finds on c (not (x n)) (not (y n))) (carried-tells on told first start follows n x y)
    ∙ follows (2 ^ n) (number n x) (number n y) (not (x n)) (not (y n)) (number-lt n x) (number-lt n y)
    ∙ rw (biased-number n x, biased-number n y) refl

-- the order of signed numbers is that of the inverted ones
pub biased-order : (n : ℕ) (x y : ℕ → Bool)
    → ltb (biased (suc n) (number (suc n) x)) (biased (suc n) (number (suc n) y)) ≡ int_lt (signed (suc n) (number (suc n) x)) (signed (suc n) (number (suc n) y))
biased-order n x y = sym (signed-order (suc n) (number (suc n) x) (number (suc n) y) (omega arith) (number-lt (suc n) x) (number-lt (suc n) y))

pub biased-most : (n : ℕ) (x y : ℕ → Bool)
    → leb (biased (suc n) (number (suc n) x)) (biased (suc n) (number (suc n) y)) ≡ int_le (signed (suc n) (number (suc n) x)) (signed (suc n) (number (suc n) y))
biased-most n x y = sym (signed-most (suc n) (number (suc n) x) (number (suc n) y) (omega arith) (number-lt (suc n) x) (number-lt (suc n) y))

-- ---- the tables at the highest bit

pub lt-inverts : (c s t : Bool) → finds most_not_on c s t ≡ finds borrow_on c (not s) (not t)
lt-inverts true true true = refl
lt-inverts true true false = refl
lt-inverts true false true = refl
lt-inverts true false false = refl
lt-inverts false true true = refl
lt-inverts false true false = refl
lt-inverts false false true = refl
lt-inverts false false false = refl

pub gt-inverts : (c s t : Bool) → finds borrow_on c s t ≡ finds most_not_on c (not s) (not t)
gt-inverts true true true = refl
gt-inverts true true false = refl
gt-inverts true false true = refl
gt-inverts true false false = refl
gt-inverts false true true = refl
gt-inverts false true false = refl
gt-inverts false false true = refl
gt-inverts false false false = refl

pub alike-negates : (c s t : Bool) → finds alike_on c s t ≡ not (finds unlike_on c s t)
alike-negates true true true = refl
alike-negates true true false = refl
alike-negates true false true = refl
alike-negates true false false = refl
alike-negates false true true = refl
alike-negates false true false = refl
alike-negates false false true = refl
alike-negates false false false = refl

pub at_most-negates : (c s t : Bool) → finds at_most_on c s t ≡ not (finds most_not_on c s t)
at_most-negates true true true = refl
at_most-negates true true false = refl
at_most-negates true false true = refl
at_most-negates true false false = refl
at_most-negates false true true = refl
at_most-negates false true false = refl
at_most-negates false false true = refl
at_most-negates false false false = refl

pub signed-negates : (c s t : Bool) → finds at_most_signed_on c s t ≡ not (finds borrow_on c s t)
signed-negates true true true = refl
signed-negates true true false = refl
signed-negates true false true = refl
signed-negates true false false = refl
signed-negates false true true = refl
signed-negates false true false = refl
signed-negates false false true = refl
signed-negates false false false = refl

pub not_lt : (a b : ℕ) → not (ltb b a) ≡ leb a b
not_lt a b = ⊎_elim (λ (l : b < a). rw (lt-ltb b a l, lt-leb a b l) refl) (λ (l : a ≤ b). rw (le-ltb b a l, le-leb a b l) refl) (cases_lt b a)

pub not_not : (b : Bool) → not (not b) ≡ b
not_not true = refl
not_not false = refl
