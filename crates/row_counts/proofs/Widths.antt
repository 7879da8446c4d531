-- The widths of elements.
use Rattle.std.proofs.Common.{◌≡◌, ℕ, zero, suc, ◌+◌, ◌*◌, ◌^◌, ◌%◌, ◌<◌, ◌≤◌, true, refl, arith, ⊎_elim}
use Rattle.std.proofs.lemmas.Bool.{cases_lt}
use Rattle.std.proofs.Math.Nat.{mod-eq_of_lt}
use Rattle.std.proofs.Math.Pow.{pow_mono}
use Rattle.steer_net.specs.Network.{is_width}

-- a power of two from 8 on that divides 32 is a width of elements
pub width-is : (w l : ℕ) → w ≡ 2 ^ l → 32 % w ≡ 0 → 8 ≤ w → is_width w ≡ true
width-is w zero is divides least = absurd (omega (arith, is, least))
width-is w (suc zero) is divides least = absurd (omega (arith, is, least))
width-is w (suc (suc zero)) is divides least = absurd (omega (arith, is, least))
width-is w (suc (suc (suc zero))) is divides least = rw is refl
width-is w (suc (suc (suc (suc zero)))) is divides least = rw is refl
width-is w (suc (suc (suc (suc (suc zero))))) is divides least = rw is refl
width-is w (suc (suc (suc (suc (suc (suc l)))))) is divides least =
    let from : 6 ≤ l + 6 = omega arith in
    let more : 2 ^ 6 ≤ 2 ^ (l + 6) = pow_mono from in
    let same : suc (suc (suc (suc (suc (suc l))))) ≡ l + 6 = omega arith in
    let large : 64 ≤ w = rw (is, same) more in
    let over : 32 < w = omega (arith, large) in
    let rest : 32 % w ≡ 32 = mod-eq_of_lt over in
    absurd (omega (arith, divides, rest))

-- so is its double, where that is at most 32
pub width-twice : (w l : ℕ) → w ≡ 2 ^ l → 32 % w ≡ 0 → 8 ≤ w → w ≤ 16 → is_width (2 * w) ≡ true
width-twice w zero is divides least few = absurd (omega (arith, is, least))
width-twice w (suc zero) is divides least few = absurd (omega (arith, is, least))
width-twice w (suc (suc zero)) is divides least few = absurd (omega (arith, is, least))
width-twice w (suc (suc (suc zero))) is divides least few = rw is refl
width-twice w (suc (suc (suc (suc zero)))) is divides least few = rw is refl
width-twice w (suc (suc (suc (suc (suc l))))) is divides least few =
    let from : 5 ≤ l + 5 = omega arith in
    let more : 2 ^ 5 ≤ 2 ^ (l + 5) = pow_mono from in
    let same : suc (suc (suc (suc (suc l)))) ≡ l + 5 = omega arith in
    let large : 32 ≤ w = rw (is, same) more in
    absurd (omega (arith, large, few))

-- no width is above 32
pub width-most : (w : ℕ) → 32 % w ≡ 0 → w ≤ 32
width-most w divides = ⊎_elim (λ (l : 32 < w). let rest : 32 % w ≡ 32 = mod-eq_of_lt l in absurd (omega (arith, divides, rest))) (λ (l : w ≤ 32). l) (cases_lt 32 w)
