-- One bit of a number is set, cleared or flipped.
use Rattle.std.proofs.Common.{◌≡◌, ℕ, zero, suc, ◌+◌, ◌-◌, ◌*◌, ◌%◌, ◌^◌, ◌<◌, ◌≤◌, ◌∙◌, arith, bit_and, bit_or}
use Rattle.std.specs.Int.{bit_at}
use Rattle.std.specs.Int.RustNames.{bit_xor}
use lib.Bits.{or_add_and, xor_add_and}
use Rattle.std.proofs.Math.Pow.{pow-lt}
use Rattle.std.proofs.Math.Nat.{mod-eq_of_lt}
use Rattle.std.proofs.lemmas.Nat.{le_or_r, and_comm, and-not}
use Rattle.std.proofs.lemmas.Nat.Bits.{and_pow, bit_at-lt}
use Rattle.reduce_tree.specs.Weights.{bit_put}

-- the value of a bit of a number of 64 bits, as it is shifted to its place
unit : (k : ℕ) → k < 64 → 1 * 2 ^ k % 2 ^ 64 ≡ 2 ^ k
unit k h = let l : 1 * 2 ^ k < 2 ^ 64 = omega (arith, pow-lt h) in mod-eq_of_lt l ∙ omega arith

-- a bit of a number takes no more than the number
bit-le : (n k : ℕ) → bit_at n k * 2 ^ k ≤ n
bit-le n k = omega (arith, or_add_and n (2 ^ k), and_pow n k, le_or_r n (2 ^ k))

-- a bit is set
pub put_one : (n k : ℕ) → k < 64 → bit_or n (1 * 2 ^ k % 2 ^ 64) ≡ bit_put n k 1
put_one n k h = rw (unit k h) (omega (arith, or_add_and n (2 ^ k), and_pow n k, bit-le n k))

-- a bit is cleared
pub put_zero : (n k : ℕ) → n < 2 ^ 64 → k < 64 → bit_and n (2 ^ 64 - 1 - 1 * 2 ^ k % 2 ^ 64) ≡ bit_put n k 0
put_zero n k l h =
    let m : 2 ^ k < 2 ^ 64 = pow-lt h in
    let rest : bit_and (2 ^ 64 - 1 - 2 ^ k) n + bit_and (2 ^ k) n ≡ n = and-not 64 (2 ^ k) n m l in
    let one : bit_and (2 ^ k) n ≡ bit_at n k * 2 ^ k = and_comm (2 ^ k) n ∙ and_pow n k in
    rw (unit k h) (and_comm n (2 ^ 64 - 1 - 2 ^ k) ∙ omega (arith, rest, one, bit-le n k))

-- a bit is flipped
pub put_other : (n k c : ℕ) → k < 64 → c % 2 ≡ 1 → bit_xor n (1 * 2 ^ k % 2 ^ 64) ≡ bit_put n k ((bit_at n k + c) % 2)
put_other n k c h odd =
    let sum : bit_xor n (2 ^ k) + bit_at n k * 2 ^ k * 2 ≡ n + 2 ^ k = rw (← and_pow n k) (xor_add_and n (2 ^ k)) in
    let le : bit_at n k * 2 ^ k ≤ n = bit-le n k in
    rw (unit k h) (flipped (bit_at n k) (bit_at-lt n k) sum le)
  where
    flipped : (b : ℕ) → b < 2 → bit_xor n (2 ^ k) + b * 2 ^ k * 2 ≡ n + 2 ^ k → b * 2 ^ k ≤ n
        → bit_xor n (2 ^ k) ≡ n - b * 2 ^ k + (b + c) % 2 * 2 ^ k
    flipped zero l e m = let one : (0 + c) % 2 ≡ 1 = omega (arith, odd) in rw one (omega (arith, e, m))
    flipped (suc zero) l e m = let even : (1 + c) % 2 ≡ 0 = omega (arith, odd) in rw even (omega (arith, e, m))
    flipped (suc (suc b)) l e m = absurd (omega (arith, l))
