-- The elements up to the greatest vector length lie in the registers of a field, whatever their width is.
use Rattle.std.proofs.Common.{◌≡◌, ℕ, ◌*◌, ◌/◌, ◌≤◌, max, Bool, true, false, nat_le, refl, ap, arith, ◌⊎◌, ⊎_elim}
use Rattle.std.specs.List.{list_all}
use Rattle.std.proofs.lemmas.Bool.{leb-true}
use Rattle.std.proofs.Math.Nat.{mul-le-mul_right, div-le_of_le-mul}
use Rattle.vtype_cfg.specs.declared.vtype.Vtype.{Vtype}
use Rattle.vtype_cfg.specs.Settings.{Setting, settings, is_supported, vlmax}
use Rattle.vtype_cfg.specs.Groups.{emul_of}
use Rattle.vtype_cfg.proofs.Supported.{at_supported}
use Rattle.element_ops.specs.Elements.{IsSize}
use Rattle.vec_mem.proofs.Loading.{whole-slots}

-- the registers of a group hold as much as EMUL says
abbrev holds : (size sew lmul8 : ℕ) → Bool
holds size sew lmul8 = nat_le (lmul8 * (8 * size)) (8 * sew * max 1 (lmul8 * (8 * size) / sew / 8))

all-hold : (size : ℕ) → IsSize size → list_all (λ (s : Setting). holds size s.sew s.lmul8) settings ≡ true
unfolding settings
all-hold size is =
    ⊎_elim (λ (e : size ≡ 1). rw e refl) (λ (other : (size ≡ 2) ⊎ (size ≡ 4)).
    ⊎_elim (λ (e : size ≡ 2). rw e refl) (λ (e : size ≡ 4). rw e refl) other) is

cancels : (size a b : ℕ) → IsSize size → a * (8 * size) ≤ b * (8 * size) → a ≤ b
cancels size a b is =
    ⊎_elim (λ (e : size ≡ 1). rw e (λ h. omega arith)) (λ (other : (size ≡ 2) ⊎ (size ≡ 4)).
    ⊎_elim (λ (e : size ≡ 2). rw e (λ h. omega arith)) (λ (e : size ≡ 4). rw e (λ h. omega arith)) other) is

pub length-held : (vt : Vtype) (n size : ℕ) → IsSize size → is_supported vt ≡ true → vt.vill ≡ false → vlmax vt (32 * n) ≤ max 1 (emul_of vt (8 * size) / 8) * (4 * n) / size
unfolding vlmax
length-held vt n size is supported there =
    let g = max 1 (vt.lmul8 * (8 * size) / vt.sew / 8) in
    let x = g * (4 * n) / size in
    let least : vt.lmul8 * (8 * size) ≤ 8 * vt.sew * g = leb-true (vt.lmul8 * (8 * size)) (8 * vt.sew * g) (at_supported (holds size) vt (all-hold size is) supported) in
    let scaled : vt.lmul8 * (8 * size) * (32 * n) ≤ 8 * vt.sew * g * (32 * n) = mul-le-mul_right (32 * n) least in
    let whole : x * size ≡ g * (4 * n) = whole-slots g n size is in
    let spread : 8 * vt.sew * (8 * (x * size)) ≡ 8 * vt.sew * (8 * (g * (4 * n))) = ap (λ (y : ℕ). 8 * vt.sew * (8 * y)) whole in
    let most : vt.lmul8 * (32 * n) ≤ 8 * vt.sew * x = cancels size (vt.lmul8 * (32 * n)) (8 * vt.sew * x) is (omega arith) in
    rw there (div-le_of_le-mul (8 * vt.sew) most)
