-- Widths of operands.
use Rattle.std.proofs.Common.{◌≡◌, ◌+◌, ◌-◌, ℕ, ◌*◌, ◌/◌, ◌^◌, ◌<◌, ◌≤◌, Bool, true, false, cond, not, ◌&&◌, ltb, refl, arith, ◌⊎◌, ⊎_elim}
use Rattle.std.proofs.Math.Pow.{pow_mono}
use Rattle.bit_laws.specs.Signed.{extended}
use Rattle.steer_net.specs.Network.{is_width}
use Rattle.rvv_meaning.specs.Operations.{immediate_bits}

-- ---- widths

-- what SEW of 8, 16 and 32 have in common
pub record Width (w : ℕ) : Type 0 where
  pub least : 8 ≤ w
  pub lanes : 32 / w * w ≡ 32
  pub whole : 8 * (w / 8) ≡ w
  pub built : is_width w ≡ true

pub width-of : (w : ℕ) → (w ≡ 8) ⊎ ((w ≡ 16) ⊎ (w ≡ 32)) → Width w
width-of w is =
    ⊎_elim (λ (e : w ≡ 8). rw e (record { least = omega arith; lanes = refl; whole = refl; built = refl }))
    (λ (other : (w ≡ 16) ⊎ (w ≡ 32)).
    ⊎_elim (λ (e : w ≡ 16). rw e (record { least = omega arith; lanes = refl; whole = refl; built = refl }))
    (λ (e : w ≡ 32). rw e (record { least = omega arith; lanes = refl; whole = refl; built = refl })) other)
    is

-- a number that is as wide already stays
pub extended-same : (signed : Bool) (w z : ℕ) → extended signed w w z ≡ z
extended-same true w z = chosen (not (ltb z (2 ^ (w - 1))))
  where
    chosen : (b : Bool) → cond b (z + (2 ^ w - 2 ^ w)) z ≡ z
    chosen true = omega arith
    chosen false = refl
extended-same false w z = refl

-- an immediate fits an element
pub immediate-fits : (signed : Bool) (w imm : ℕ) → 8 ≤ w → imm < 32 → extended signed immediate_bits w imm < 2 ^ w
immediate-fits signed w imm least small =
    let most : 2 ^ 8 ≤ 2 ^ w = pow_mono least in
    chosen (signed && not (ltb imm (2 ^ 4))) most
  where
    chosen : (b : Bool) → 2 ^ 8 ≤ 2 ^ w → cond b (imm + (2 ^ w - 2 ^ 5)) imm < 2 ^ w
    chosen true most = omega arith
    chosen false most = omega arith

-- a number of n bits, extended to w, fits w bits
pub extended-fits : (signed : Bool) (n w z : ℕ) → n ≤ w → z < 2 ^ n → extended signed n w z < 2 ^ w
extended-fits signed n w z short small =
    let most : 2 ^ n ≤ 2 ^ w = pow_mono short in
    chosen (signed && not (ltb z (2 ^ (n - 1)))) most
  where
    chosen : (b : Bool) → 2 ^ n ≤ 2 ^ w → cond b (z + (2 ^ w - 2 ^ n)) z < 2 ^ w
    chosen true most = omega arith
    chosen false most = omega arith
