-- The extension of numbers by their sign.
use Rattle.std.proofs.Common.{◌≡◌, ℕ, zero, suc, ◌+◌, ◌-◌, ◌*◌, ◌^◌, ◌<◌, ◌≤◌, Bool, true, false, cond, not, ◌&&◌, ltb, refl, sym, ◌∙◌, ap, arith, inl}
use Rattle.std.proofs.lemmas.Bool.{lt-ltb, le-ltb}
use Rattle.std.proofs.lemmas.Nat.{pow-add}
use Rattle.std.proofs.Math.Nat.{pow-suc}
use Rattle.bit_laws.specs.Numbers.{number}
use Rattle.bit_laws.specs.Signed.{extended}
use Rattle.bit_laws.proofs.Numbers.{number-lt, number-same, number-cat, bit-number}
use Rattle.bit_laws.proofs.Ints.{above-none}
use Rattle.micro_ir.specs.Steps.{steps_on, micros, element}
use Rattle.micro_ir.proofs.Lift.{micros-element}
use Rattle.micro_ir.proofs.Effects.{ups-row, ups-else, ups-here, ups-fit}
use Rattle.gen_shift.specs.Lists.{extension}
use Rattle.gen_shift.specs.Laws.{Extends, ExtendsSign}

-- the number of bits that are all 1, or all 0
level-number : (n : ℕ) (s : Bool) → number n (λ j. s) + cond s 1 0 ≡ cond s (2 ^ n) 0
level-number zero true = refl
level-number zero false = refl
level-number (suc n) true =
    let h : number n (λ j. true) + 1 ≡ 2 ^ n = level-number n true in
    let p : 2 ^ suc n ≡ 2 ^ n * 2 = pow-suc 2 n in
    let all : number n (λ j. true) + 2 ^ n + 1 ≡ 2 ^ suc n = omega (arith, h, p) in
    all
level-number (suc n) false =
    let h : number n (λ j. false) + 0 ≡ 0 = level-number n false in
    let all : number n (λ j. false) + 0 + 0 ≡ 0 = omega (arith, h) in
    all

-- the number of v bits, and of as many bits more that are all the same
level-above : (v d : ℕ) (s : Bool) (f : ℕ → Bool) → ((j : ℕ) → j < d → f (v + j) ≡ s) → number (v + d) f ≡ number v f + cond s (2 ^ (v + d) - 2 ^ v) 0
level-above v d s f above =
    let top : number d (λ j. f (v + j)) ≡ number d (λ j. s) = number-same d (λ j. f (v + j)) (λ j. s) above in
    number-cat v d f ∙ rw top (by s)
  where
    product : (x n : ℕ) → x * (n + 1) ≡ n * x + x
    product x n = omega arith

    by : (s : Bool) → number v f + number d (λ j. s) * 2 ^ v ≡ number v f + cond s (2 ^ (v + d) - 2 ^ v) 0
    by true =
        let h : number d (λ j. true) + 1 ≡ 2 ^ d = level-number d true in
        let n : ℕ = number d (λ j. true) in
        let p : 2 ^ (v + d) ≡ 2 ^ v * 2 ^ d = pow-add 2 v d in
        let q : 2 ^ v * 2 ^ d ≡ n * 2 ^ v + 2 ^ v = rw (← h) (product (2 ^ v) n) in
        omega (arith, p, q)
    by false =
        let h : number d (λ j. false) + 0 ≡ 0 = level-number d false in
        let z : number d (λ j. false) ≡ 0 = omega (arith, h) in
        rw z (omega arith)

-- The bits from place v on are those of the sign.
extended-number : (v w : ℕ) (x y : ℕ → Bool) → 0 < v → v < w → number w x < 2 ^ v
    → ((i : ℕ) → i < v → y i ≡ x i) → ((i : ℕ) → v ≤ i → i < w → y i ≡ x (v - 1))
    → number w y ≡ extended true v w (number w x)
extended-number v w x y some less small under over =
    let d = w - v in
    let e : v + d ≡ w = omega arith in
    let s = x (v - 1) in
    let none : (i : ℕ) → v ≤ i → i < w → x i ≡ false = λ i l m. sym (bit-number w x i m) ∙ above-none (number w x) v i small l in
    let zero_more : number v x + 0 ≡ number v x = omega arith in
    let narrow : number w x ≡ number v x =
    ap (λ (n : ℕ). number n x) (sym e) ∙ level-above v d false x (λ j l. none (v + j) (omega arith) (omega arith)) ∙ zero_more in
    let wide : number w y ≡ number v y + cond s (2 ^ (v + d) - 2 ^ v) 0 = ap (λ (n : ℕ). number n y) (sym e) ∙ level-above v d s y (λ j l. over (v + j) (omega arith) (omega arith)) in
    let same : number v y ≡ number v x = number-same v y x under in
    let more : 2 ^ (v + d) - 2 ^ v ≡ 2 ^ w - 2 ^ v = ap (λ (n : ℕ). 2 ^ n - 2 ^ v) e in
    let joined : number v y + cond s (2 ^ (v + d) - 2 ^ v) 0 ≡ number v x + cond s (2 ^ w - 2 ^ v) 0 = λ i. same i + cond s (more i) 0 in
    wide ∙ joined ∙ by-sign v x (2 ^ w - 2 ^ v) some ∙ ap (extended true v w) (sym narrow)
  where
    by-sign : (v : ℕ) (x : ℕ → Bool) (more : ℕ) → 0 < v → number v x + cond (x (v - 1)) more 0 ≡ cond (true && not (ltb (number v x) (2 ^ (v - 1)))) (number v x + more) (number v x)
    by-sign zero x more some = absurd (omega arith)
    by-sign (suc m) x more some =
        let z : suc m - 1 ≡ m = omega arith in
        let small = number-lt m x in
        rw z (elim (x m) as (λ b. number m x + cond b (2 ^ m) 0 + cond b more 0 ≡ cond (true && not (ltb (number m x + cond b (2 ^ m) 0) (2 ^ m))) (number m x + cond b (2 ^ m) 0 + more) (number m x + cond b (2 ^ m) 0)) [
          | true ↦ rw (le-ltb (number m x + 2 ^ m) (2 ^ m) (omega arith)) refl
          | false ↦ rw (lt-ltb (number m x + 0) (2 ^ m) (omega arith)) (omega arith)
        ])

-- the steps on one element
extends : (v w row : ℕ) (e : ℕ → ℕ → Bool) → 0 < v → v < w → Extends v w row e (steps_on (extension v w row) e)
extends v w row e some less =
    let n = w - v in
    let now = steps_on (extension v w row) e in
    record {
      made = λ small.
          let none : (i : ℕ) → v ≤ i → i < w → e row i ≡ false = λ i l m. sym (bit-number w (e row) i m) ∙ above-none (number w (e row)) v i small l in
          extended-number v w (e row) (now row) some less small
          (λ i l. ups-else row (v - 1) n e row i (inl (omega arith)))
          (λ i l m. ups-here row (v - 1) n e (λ i a b. none i (omega arith) (omega arith)) i (omega arith) (omega arith));
      kept = λ r j other inside. ups-row row (v - 1) n e r j other;
    }

pub extends-sign : (v w row : ℕ) → 0 < v → v < w → ExtendsSign v w row (micros w (extension v w row))
unfolding ExtendsSign
extends-sign v w row some less s k col inside column =
    rw (micros-element w k col (extension v w row) s (ups-fit w row (v - 1) (w - v) (omega arith)) inside column) (extends v w row (element w k col s) some less)
