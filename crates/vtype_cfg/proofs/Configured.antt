-- What holds of each configuration that an instruction leaves.
use Rattle.std.proofs.Common.{◌≡◌, ◌≤◌, ℕ, true, not, ◌&&◌, ◌==◌, IsTrue, refl, sym, subst, arith}
use Rattle.std.proofs.lemmas.Bool.{and_parts, eqb-true, cond_both}
use Rattle.vtype_cfg.specs.Settings.{without_setting, vtype_of, is_vill_or_supported, vlmax, leaves_setting, length_for, configured}
use Rattle.vtype_cfg.specs.declared.vtype.Vtype.{Vtype}
use Rattle.vtype_cfg.specs.declared.configuration.Avl.{Avl}
use Rattle.vtype_cfg.specs.declared.configuration.Avl.TheVariants.{Given, Max, Keep}
use Rattle.vtype_cfg.proofs.Supported.{vtype_of-setting}

-- a vector type and length that can stand together
pub record InPlace (made : Vtype × ℕ) (vlen : ℕ) : Type 0 where
  pub setting : IsTrue (is_vill_or_supported made.0)
  pub length : made.1 ≤ vlmax made.0 vlen

-- a length that is taken is one that the setting has
length_for-below : (avl : Avl) (old new : Vtype) (old_vl vlen : ℕ) → leaves_setting avl old new vlen ≡ true → old_vl ≤ vlmax old vlen → length_for avl old_vl (vlmax new vlen) ≤ vlmax new vlen
length_for-below (Given n) old new old_vl vlen can below = omega arith
length_for-below Max old new old_vl vlen can below = omega arith
length_for-below Keep old new old_vl vlen can below =
    let same : vlmax old vlen ≡ vlmax new vlen = eqb-true (vlmax old vlen) (vlmax new vlen) (and_parts (not old.vill) (vlmax old vlen == vlmax new vlen) can).1 in
    omega arith

vill-in_place : (vlen : ℕ) → InPlace (without_setting, 0) vlen
unfolding is_vill_or_supported
vill-in_place vlen = record { setting = refl; length = omega arith }

in_place : (old : Vtype) (old_vl : ℕ) (avl : Avl) (bits vlen : ℕ) → old_vl ≤ vlmax old vlen → InPlace (configured old old_vl avl bits vlen) vlen
unfolding configured
in_place old old_vl avl bits vlen below =
    let new = vtype_of bits in
    cond_both (not new.vill && leaves_setting avl old new vlen) (new, length_for avl old_vl (vlmax new vlen)) (without_setting, 0) (λ made. InPlace made vlen)
    (λ taken. record {
      setting = vtype_of-setting bits;
      length = length_for-below avl old new old_vl vlen (and_parts (not new.vill) (leaves_setting avl old new vlen) taken).1 below;
    })
    (λ _. vill-in_place vlen)

pub configured_in_place : (made : Vtype × ℕ) (old : Vtype) (old_vl : ℕ) (avl : Avl) (bits vlen : ℕ) → made ≡ configured old old_vl avl bits vlen → old_vl ≤ vlmax old vlen → InPlace made vlen
configured_in_place made old old_vl avl bits vlen is below = subst (λ (m : Vtype × ℕ). InPlace m vlen) (sym is) (in_place old old_vl avl bits vlen below)
