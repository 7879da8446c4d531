-- What a count of tags makes of one bit of the control number.
use Rattle.std.proofs.Common.{◌≡◌, ◌≢◌, ℕ, suc, ◌+◌, ◌-◌, ◌*◌, ◌/◌, ◌%◌, ◌^◌, ◌<◌, ◌≤◌, Bool, true, false, cond, not, eqb, ltb, refl, sym, ◌∙◌, ap, arith, ⊎_elim}
use Rattle.std.specs.Int.{bit_at}
use Rattle.std.proofs.lemmas.Bool.{cases_eq, cases_lt, eq-eqb, ne_eqb}
use Rattle.std.proofs.lemmas.Nat.{pow_pos, div-add-mod'}
use Rattle.std.proofs.lemmas.Nat.Bits.{bit_at_cat_low, bit_at_cat_high, bit_at_lowest, bit_at-suc}
use Rattle.std.proofs.Math.Nat.{mod-lt}
use Rattle.bit_laws.specs.Numbers.{bit_of}
use Rattle.reduce_tree.specs.Weights.{bit_put, num_after}
use Rattle.reduce_tree.specs.declared.weights.How.TheVariants.{Or, Clear}

-- a bit of a number in three parts
part-low : (a x k n i : ℕ) → n < 2 ^ k → x < 2 → i < k → bit_at ((a * 2 + x) * 2 ^ k + n) i ≡ bit_at n i
part-low a x k n i l x2 h = bit_at_cat_low (a * 2 + x) k n i h

part-here : (a x k n : ℕ) → n < 2 ^ k → x < 2 → bit_at ((a * 2 + x) * 2 ^ k + n) k ≡ x
part-here a x k n l x2 =
    let z : k - k ≡ 0 = omega arith in
    bit_at_cat_high (a * 2 + x) k n k l (omega arith) ∙ rw z (bit_at_lowest (a * 2 + x) ∙ omega arith)

part-high : (a x k n i : ℕ) → n < 2 ^ k → x < 2 → k < i → bit_at ((a * 2 + x) * 2 ^ k + n) i ≡ bit_at a (i - suc k)
part-high a x k n i l x2 h =
    let e : i - k ≡ suc (i - suc k) = omega arith in
    let d : (a * 2 + x) / 2 ≡ a = omega arith in
    bit_at_cat_high (a * 2 + x) k n i l (omega arith) ∙ rw e (bit_at-suc (a * 2 + x) (i - suc k) ∙ rw d refl)

pub put-bit : (n k x i : ℕ) → x < 2 → bit_at (bit_put n k x) i ≡ cond (eqb i k) x (bit_at n i)
put-bit n k x i x2 =
    let h = n / 2 ^ k in
    let a = h / 2 in
    let b = h % 2 in
    let r = n % 2 ^ k in
    let rl : r < 2 ^ k = mod-lt n (pow_pos k) in
    let b2 : b < 2 = omega arith in
    let hs : h ≡ a * 2 + b = omega arith in
    let ns : n ≡ h * 2 ^ k + r = sym (div-add-mod' n (2 ^ k)) in
    let np : n ≡ (a * 2 + b) * 2 ^ k + r = ns ∙ ap (λ z. z * 2 ^ k + r) hs in
    let wide : (a * 2 + b) * 2 ^ k ≡ a * 2 * 2 ^ k + b * 2 ^ k = omega arith in
    let widex : (a * 2 + x) * 2 ^ k ≡ a * 2 * 2 ^ k + x * 2 ^ k = omega arith in
    let put : bit_put n k x ≡ (a * 2 + x) * 2 ^ k + r = omega (arith, np, wide, widex) in
    put_at a b r rl b2 np put
  where
    put_at : (a b r : ℕ) → r < 2 ^ k → b < 2 → n ≡ (a * 2 + b) * 2 ^ k + r → bit_put n k x ≡ (a * 2 + x) * 2 ^ k + r → bit_at (bit_put n k x) i ≡ cond (eqb i k) x (bit_at n i)
    put_at a b r rl b2 np put =
        ⊎_elim
        (λ (e : i ≡ k). rw (e, eq-eqb k k refl, put) (part-here a x k r rl x2))
        (λ (o : i ≢ k). rw (ne_eqb i k o) (ap (λ z. bit_at z i) put ∙ ⊎_elim
        (λ (l : i < k). part-low a x k r i rl x2 l ∙ sym (ap (λ z. bit_at z i) np ∙ part-low a b k r i rl b2 l))
        (λ (g : k ≤ i). let m : k < i = omega arith in part-high a x k r i rl x2 m ∙ sym (ap (λ z. bit_at z i) np ∙ part-high a b k r i rl b2 m))
        (cases_lt i k)))
        (cases_eq i k)

-- a count that sets or clears a bit
pub taken-bit : (st : Bool) (m c j b : ℕ) → bit_of (num_after (cond st Clear Or) m c j) b ≡ cond (eqb b j) (cond (ltb 0 c) (not st) (bit_of m j)) (bit_of m b)
taken-bit st m c j b = elim st as (λ t. bit_of (num_after (cond t Clear Or) m c j) b ≡ cond (eqb b j) (cond (ltb 0 c) (not t) (bit_of m j)) (bit_of m b)) [
  | true ↦ elim (ltb 0 c) as (λ u. bit_of (cond u (bit_put m j 0) m) b ≡ cond (eqb b j) (cond u false (bit_of m j)) (bit_of m b)) [
    | true ↦ ap (λ z. eqb z 1) (put-bit m j 0 b (omega arith)) ∙ tested0 (eqb b j) (bit_at m b)
    | false ↦ stayed
  ]
  | false ↦ elim (ltb 0 c) as (λ u. bit_of (cond u (bit_put m j 1) m) b ≡ cond (eqb b j) (cond u true (bit_of m j)) (bit_of m b)) [
    | true ↦ ap (λ z. eqb z 1) (put-bit m j 1 b (omega arith)) ∙ tested1 (eqb b j) (bit_at m b)
    | false ↦ stayed
  ]
]
  where
    tested0 : (t : Bool) (z : ℕ) → eqb (cond t 0 z) 1 ≡ cond t false (eqb z 1)
    tested0 true z = refl
    tested0 false z = refl

    tested1 : (t : Bool) (z : ℕ) → eqb (cond t 1 z) 1 ≡ cond t true (eqb z 1)
    tested1 true z = refl
    tested1 false z = refl

    stayed : bit_of m b ≡ cond (eqb b j) (bit_of m j) (bit_of m b)
    stayed = ⊎_elim (λ (e : b ≡ j). rw (e, eq-eqb j j refl) refl) (λ (o : b ≢ j). rw (ne_eqb b j o) refl) (cases_eq b j)
