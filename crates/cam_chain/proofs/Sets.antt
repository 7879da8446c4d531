-- Sets of subarrays.
use Rattle.std.proofs.Common.{◌≡◌, ℕ, ◌*◌, ◌^◌, ◌%◌, ◌<◌, ◌≤◌, true, false, cond, eqb, refl, sym, ap, ◌∙◌, arith, ⊎_elim, bit_and, w32}
use Rattle.std.specs.Int.{bit_at, bit_not}
use Rattle.std.proofs.lemmas.Nat.{and_le_l}
use Rattle.std.proofs.lemmas.Nat.Bits.{bit_at_clear_same, bit_at_clear_other}
use Rattle.std.proofs.lemmas.Bool.{cases_lt, cases_eq, eqb-true, eq-eqb, ne_eqb}
use Rattle.cam_chain.specs.Slices.{selected}

-- a set without one of its subarrays
pub left_of : (subs sub s : ℕ) → sub < 32 → s < 32 → selected (bit_and subs (bit_not w32 (1 * 2 ^ sub % 2 ^ 32))) s ≡ cond (eqb s sub) false (selected subs s)
left_of subs sub s h l = ⊎_elim
    (λ (q : s ≡ sub). rw (q, eq-eqb sub sub refl, bit_at_clear_same w32 subs sub h) refl)
    (λ (q : s ≡ sub → ⊥). rw (ne_eqb s sub q, bit_at_clear_other w32 subs sub h s l q) refl) (cases_eq s sub)

-- it is less as a number
pub left_less : (subs sub : ℕ) → sub < 32 → selected subs sub ≡ true → bit_and subs (bit_not w32 (1 * 2 ^ sub % 2 ^ 32)) < subs
left_less subs sub h e =
    let mask = bit_not w32 (1 * 2 ^ sub % 2 ^ 32) in
    let le : bit_and subs mask ≤ subs = and_le_l subs mask in
    let one : bit_at subs sub ≡ 1 = eqb-true (bit_at subs sub) 1 e in
    let none : bit_at (bit_and subs mask) sub ≡ 0 = bit_at_clear_same w32 subs sub h in
    ⊎_elim (λ (l : bit_and subs mask < subs). l)
    (λ (l : subs ≤ bit_and subs mask). let same : bit_and subs mask ≡ subs = omega arith in
    let twice : 0 ≡ 1 = sym none ∙ ap (λ n. bit_at n sub) same ∙ one in absurd (omega arith)) (cases_lt (bit_and subs mask) subs)
