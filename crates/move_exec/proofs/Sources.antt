-- The registers that slides and gathers read, and that what they make depends on these alone.
use Rattle.std.proofs.Common.{◌≡◌, ℕ, suc, ◌+◌, ◌-◌, ◌*◌, ◌/◌, ◌<◌, ◌≤◌, Bool, true, false, cond, ◌&&◌, ltb, leb, refl, ap, arith, ◌⊎◌, ⊎_elim}
use Rattle.std.proofs.lemmas.Bool.{cases_lt, le-ltb, lt-ltb, le-leb, and_parts, ltb-true, leb-true}
use Rattle.std.proofs.Math.Nat.{mul-le-mul_right}
use Rattle.element_ops.specs.Elements.{Registers, element_in}
use Rattle.frame_laws.specs.Laws.{SameAt}
use Rattle.frame_laws.proofs.Preparing.{agreeing_law}
use Rattle.gen_perm.specs.Moves.{slide_result, pick_result}

-- the registers of a group of n registers, from number `low` of the group on
abbrev pub group_source : (base n low r : ℕ) → Bool
group_source base n low r = leb (base + low) r && ltb r (base + n)

-- where the group lies: apart from the destination, or it is the destination
abbrev pub IsApart : (vd base n : ℕ) → Type 0
IsApart vd base n = (base + n ≤ vd) ⊎ (vd + n ≤ base)

-- all of a group that is apart is read before it is overwritten, and of one that is the destination the registers from g on
pub apart-unwritten : (vd base n g r : ℕ) → base + n ≤ 32 → IsApart vd base n → g < n → group_source base n 0 r ≡ true → (r < 32) × ((r < vd) ⊎ (vd + g ≤ r))
apart-unwritten vd base n g r room apart below read =
    let p = and_parts (leb (base + 0) r) (ltb r (base + n)) read in
    let from : base + 0 ≤ r = leb-true (base + 0) r p.0 in
    let to : r < base + n = ltb-true r (base + n) p.1 in
    (omega arith, grind arith)

pub ahead-unwritten : (vd base n g r : ℕ) → base + n ≤ 32 → (base ≡ vd) ⊎ IsApart vd base n → g < n → group_source base n g r ≡ true → (r < 32) × ((r < vd) ⊎ (vd + g ≤ r))
ahead-unwritten vd base n g r room apart below read =
    let p = and_parts (leb (base + g) r) (ltb r (base + n)) read in
    let from : base + g ≤ r = leb-true (base + g) r p.0 in
    let to : r < base + n = ltb-true r (base + n) p.1 in
    (omega arith, grind arith)

-- elements below a limit lie in the group
in-group : (q limit n per w vlen : ℕ) → per * w ≡ vlen → limit ≤ n * per → q < limit → q * w + w ≤ n * vlen
in-group q limit n per w vlen whole most below =
    let m : suc q * w ≤ n * per * w = mul-le-mul_right w (omega arith) in
    omega (arith, m, ap (λ x. n * x) whole)

module _ (vlen w base n limit : ℕ) (some : 0 < vlen) (whole : vlen / w * w ≡ vlen) (most : limit ≤ n * (vlen / w)) where
  -- an element below the limit, in a register from number `low` on
  pub element-agrees : (low e : ℕ) (u v : Registers) → low * vlen ≤ e * w → e < limit → SameAt (group_source base n low) vlen u v → element_in vlen u base w e ≡ element_in vlen v base w e
  element-agrees low e u v from below same =
      agreeing_law vlen w base e low n u v some from (in-group e limit n (vlen / w) w vlen whole most below)
      (λ r at x y z. same r at (rw (le-leb (base + low) r x, lt-ltb r (base + n) y) refl) z)

  -- what a slide up, a slide down or a gather makes of an element
  pub up-agrees : (by e : ℕ) (u v : Registers) → SameAt (group_source base n 0) vlen u v → slide_result vlen w base true by limit u e ≡ slide_result vlen w base true by limit v e
  up-agrees by e u v same =
      ⊎_elim
      (λ (below : e - by < limit). ap (λ (z : ℕ). cond (leb by e && ltb (e - by) limit) z 0) (element-agrees 0 (e - by) u v (omega arith) below same))
      (λ (past : limit ≤ e - by). rw (le-ltb (e - by) limit past) (none (leb by e) _ _))
      (cases_lt (e - by) limit)
    where
      none : (b : Bool) (y z : ℕ) → cond (b && false) y 0 ≡ cond (b && false) z 0
      none true y z = refl
      none false y z = refl

  pub down-agrees : (g by p : ℕ) (u v : Registers) → SameAt (group_source base n g) vlen u v
      → slide_result vlen w base false by limit u (g * (vlen / w) + p) ≡ slide_result vlen w base false by limit v (g * (vlen / w) + p)
  down-agrees g by p u v same =
      let e : ℕ = g * (vlen / w) + p in
      let from : g * vlen ≤ (e + by) * w = omega (arith, ap (λ z. g * z) whole) in
      ⊎_elim
      (λ (below : e + by < limit). ap (λ (z : ℕ). cond (ltb (e + by) limit) z 0) (element-agrees g (e + by) u v from below same))
      (λ (past : limit ≤ e + by). rw (le-ltb (e + by) limit past) refl)
      (cases_lt (e + by) limit)

  pub pick-agrees : (index : ℕ) (u v : Registers) → SameAt (group_source base n 0) vlen u v → pick_result vlen w base index limit u ≡ pick_result vlen w base index limit v
  pick-agrees index u v same =
      ⊎_elim
      (λ (below : index < limit). ap (λ (z : ℕ). cond (ltb index limit) z 0) (element-agrees 0 index u v (omega arith) below same))
      (λ (past : limit ≤ index). rw (le-ltb index limit past) refl)
      (cases_lt index limit)
