-- No element of a legal load overwrites the index of a later one.
use Rattle.std.proofs.Common.{◌≡◌, ℕ, suc, ◌+◌, ◌-◌, ◌*◌, ◌<◌, ◌≤◌, ap, arith, ◌⊎◌, inl, inr}
use Rattle.std.proofs.Math.Nat.{mul-le-mul_right}
use Rattle.rvv_meaning.specs.declared.accesses.Access.{Access}
use Rattle.rvv_meaning.specs.LoadsAndStores.{field_size}
use Rattle.vec_mem.specs.Steps.{IsSpared}

-- How an index group of `count` registers from r on, of indices of x bytes, may lie to the destination: before it; after it;
-- from the same register on, the indices being no shorter than the elements; or as its last registers, the indices being no
-- longer, and both groups being full of `most` elements.
abbrev pub LiesLegally : (size r count x most : ℕ) → Access → Type 0
LiesLegally size r count x most t =
    (r + count ≤ t.register)
    ⊎ ((t.register + t.fields * t.registers ≤ r)
    ⊎ (((t.fields ≡ 1) × (r ≡ t.register) × (field_size t ≤ x))
    ⊎ ((t.fields ≡ 1) × (r + count ≡ t.register + t.registers) × (x ≤ field_size t) × (count * size ≡ most * x) × (t.registers * size ≡ most * field_size t))))

pub spared : (size r count x most : ℕ) (t : Access) (e k : ℕ) → LiesLegally size r count x most t → most * x ≤ count * size → e < most → k < x → IsSpared size r x t e k
spared size r count x most t e k (inl before) room inside within =
    let scaled : suc e * x ≤ most * x = mul-le-mul_right x inside in
    let order : (r + count) * size ≤ t.register * size = mul-le-mul_right size before in
    inl (omega arith)
spared size r count x most t e k (inr (inl after)) room inside within =
    let order : (t.register + t.fields * t.registers) * size ≤ r * size = mul-le-mul_right size after in
    inr (inl (omega arith))
spared size r count x most t e k (inr (inr (inl h))) room inside within =
    let place : r * size ≡ t.register * size = ap (λ (y : ℕ). y * size) h.1 in
    let order : field_size t * e ≤ x * e = mul-le-mul_right e h.2 in
    inr (inr (h.0, omega arith))
spared size r count x most t e k (inr (inr (inr h))) room inside within =
    let place : (r + count) * size ≡ (t.register + t.registers) * size = ap (λ (y : ℕ). y * size) h.1 in
    let parts : most ≡ e + (most - e) = omega arith in
    inr (inr (h.0, shifted (most - e) parts place h.2 h.3 h.4))
  where
    shifted : (d : ℕ) → most ≡ e + d → (r + count) * size ≡ (t.register + t.registers) * size → x ≤ field_size t → count * size ≡ most * x → t.registers * size ≡ most * field_size t
        → t.register * size + e * field_size t ≤ r * size + (e * x + k)
    shifted d parts place shorter full filled =
        let m = field_size t in
        let order : x * d ≤ m * d = mul-le-mul_right d shorter in
        let a : most * x ≡ (e + d) * x = ap (λ (y : ℕ). y * x) parts in
        let b : most * m ≡ (e + d) * m = ap (λ (y : ℕ). y * m) parts in
        omega arith
