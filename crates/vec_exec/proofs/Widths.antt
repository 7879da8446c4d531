-- The logarithm of a width.
use Rattle.std.proofs.Common.{◌≡◌, ℕ, zero, suc, ◌+◌, ◌^◌, ◌%◌, ◌<◌, ◌≤◌, Bool, true, false, cond, eqb, refl, arith}
use Rattle.std.proofs.Math.Nat.{mod-eq_of_lt}
use Rattle.std.proofs.Math.Pow.{pow_mono}
use Rattle.rvv_meaning.specs.Operations.{log2}

-- a power of two from 8 on that divides 32 is one of the three widths
pub log2-is : (w l : ℕ) → w ≡ 2 ^ l → 32 % w ≡ 0 → 8 ≤ w → log2 w ≡ l
log2-is w zero is divides least = absurd (omega (arith, is, least))
log2-is w (suc zero) is divides least = absurd (omega (arith, is, least))
log2-is w (suc (suc zero)) is divides least = absurd (omega (arith, is, least))
log2-is w (suc (suc (suc zero))) is divides least = rw is refl
log2-is w (suc (suc (suc (suc zero)))) is divides least = rw is refl
log2-is w (suc (suc (suc (suc (suc zero))))) is divides least = rw is refl
log2-is w (suc (suc (suc (suc (suc (suc l)))))) is divides least =
    let from : 6 ≤ l + 6 = omega arith in
    let more : 2 ^ 6 ≤ 2 ^ (l + 6) = pow_mono from in
    let same : suc (suc (suc (suc (suc (suc l))))) ≡ l + 6 = omega arith in
    let large : 64 ≤ w = rw (is, same) more in
    let over : 32 < w = omega (arith, large) in
    let rest : 32 % w ≡ 32 = mod-eq_of_lt over in
    absurd (omega (arith, divides, rest))

pub log2-small : (w : ℕ) → log2 w ≤ 5
log2-small w = eight (eqb w 8)
  where
    sixteen : (b : Bool) → cond b 4 5 ≤ 5
    sixteen true = omega arith
    sixteen false = omega arith

    eight : (b : Bool) → cond b 3 (cond (eqb w 16) 4 5) ≤ 5
    eight true = omega arith
    eight false = sixteen (eqb w 16)
