-- What instructions leave that read whole groups or whole masks, and what a valid configuration has.
use Rattle.std.proofs.Common.{◌≡◌, ℕ, zero, suc, ◌≤◌, Bool, true, false, ◌&&◌, List, Some, None, refl}
use Rattle.std.specs.Prelude.{IsTrue}
use Rattle.std.proofs.lemmas.Bool.{and_parts, leb-true}
use Rattle.rvv_decode.specs.declared.instruction.VInstr.{VInstr}
use Rattle.vtype_cfg.specs.declared.configuration.Cfg.{Cfg}
use Rattle.vtype_cfg.specs.declared.configuration.Policy.TheVariants.{Keep}
use Rattle.vtype_cfg.specs.Settings.{is_valid, is_vill_or_supported, is_legal_vlen, vlmax}
use Rattle.rvv_meaning.specs.Elementwise.{Elementwise, clips_below}
use Rattle.rvv_meaning.specs.Operations.{operation_for}
use Rattle.rvv_meaning.specs.Vectors.{left_of}
use Rattle.rvv_meaning.specs.Whole.{Leaving, whole_for}

-- ---- a valid configuration

-- a vector type that is supported or vill, a legal length, and no more elements than a group holds
pub record Valid (c : Cfg) : Type 0 where
  pub setting : IsTrue (is_vill_or_supported c.vtype)
  pub length : IsTrue (is_legal_vlen c.vlen)
  pub short : c.vl ≤ vlmax c.vtype c.vlen

pub valid-parts : (c : Cfg) → IsTrue (is_valid c) → Valid c
unfolding is_valid
valid-parts c valid =
    let a = and_parts _ _ (and_parts _ _ (and_parts _ _ valid).0).0 in
    let b = and_parts _ _ a.0 in
    record { setting = b.1; length = b.0; short = leb-true c.vl (vlmax c.vtype c.vlen) a.1 }

-- ---- what is left

-- by an instruction that has no operation on elements at the same place
pub left-is : (i : VInstr) (c : Cfg) (x : ℕ) (leaving : Leaving) → operation_for i.op ≡ None → whole_for i.op ≡ Some leaving
    → (v : List (List ℕ)) → left_of i c x v ≡ Some (leaving i (record c { policy = Keep }) x v)
left-is i c x leaving none whole v = rw (none, whole) refl

-- by one that clips no element
pub clips-no-element : (c : Cfg) (e : Elementwise) (v : List (List ℕ)) → ((k : ℕ) → e.clipped v k ≡ false) → (n : ℕ) → clips_below c e v n ≡ false
unfolding clips_below
clips-no-element c e v none zero = refl
clips-no-element c e v none (suc n) = rw (clips-no-element c e v none n, none n) (no-and _)
  where
    no-and : (b : Bool) → (b && false) ≡ false
    no-and true = refl
    no-and false = refl
