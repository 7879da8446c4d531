-- What all supported settings have in common, and that the bits of a vector type name it.
use Rattle.std.proofs.Common.{nat_lt, ◌^◌, find, IsSome, is_some, Option, Some, None, ◌≡◌, ◌≤◌, ℕ, Bool, true, false, not, ◌&&◌, ◌==◌, nat_le, List, [], ◌∷◌, IsTrue, refl, sym, ap, ◌∙◌, ⊎_elim, arith}
use Rattle.std.specs.List.{list_all, list_any}
use Rattle.std.proofs.lemmas.Bool.{and_parts, or_cases, cond-true, cond-false, cond_both, or_left, or_right, and_from, eq-eqb, false≢true, cases_Bool, not-true, eqb-true, leb-true}
use Rattle.std.specs.Option.{option_map_or}
use Rattle.word_rows.specs.Field.{field}
use mathlib.Core.Bool.{beq}
use Rattle.vtype_cfg.specs.Settings.{Setting, settings, without_setting, with_setting, vtype_of, bits_of, is_vill, is_supported, is_vill_or_supported, setting_of_codes, setting_of_sizes, legal_vlens, is_legal_vlen}
use Rattle.vtype_cfg.specs.declared.vtype.Vtype.{Vtype}

-- a test that each row passes is passed at the sizes of some row
at_some_row : (test : ℕ → ℕ → Bool) (sew lmul8 : ℕ) (rows : List Setting)
    → list_all (λ s. test s.sew s.lmul8) rows ≡ true → list_any (λ s. (s.sew == sew) && (s.lmul8 == lmul8)) rows ≡ true → test sew lmul8 ≡ true
at_some_row test sew lmul8 [] all any = cc
at_some_row test sew lmul8 (s ∷ rows) all any =
    let passed = and_parts (test s.sew s.lmul8) (list_all (λ s. test s.sew s.lmul8) rows) all in
    ⊎_elim
    (λ here.
    let same = and_parts (s.sew == sew) (s.lmul8 == lmul8) here in
    let sew_is = eqb-true s.sew sew same.0 in
    let lmul_is = eqb-true s.lmul8 lmul8 same.1 in
    ap (λ n. test n lmul8) (sym sew_is) ∙ ap (λ n. test s.sew n) (sym lmul_is) ∙ passed.0)
    (λ later. at_some_row test sew lmul8 rows passed.1 later)
    (or_cases ((s.sew == sew) && (s.lmul8 == lmul8)) (list_any (λ s. (s.sew == sew) && (s.lmul8 == lmul8)) rows) any)

-- a test that each supported setting passes is passed by a supported vector type
pub at_supported : (test : ℕ → ℕ → Bool) (vt : Vtype) → list_all (λ s. test s.sew s.lmul8) settings ≡ true → is_supported vt ≡ true → test vt.sew vt.lmul8 ≡ true
unfolding is_supported
at_supported test vt all supported = at_some_row test vt.sew vt.lmul8 settings all (and_parts (not vt.vill) _ supported).1

-- how large SEW and LMUL are where no vector type but vill and the supported ones is
pub record Bounds (vt : Vtype) : Type 0 where
  pub least_sew : vt.vill ≡ false → 8 ≤ vt.sew
  pub greatest_sew : vt.sew ≤ 32
  pub greatest_lmul : vt.lmul8 ≤ 64

-- the test of those bounds
abbrev is_bounded : ℕ → ℕ → Bool
is_bounded sew lmul8 = nat_le 8 sew && (nat_le sew 32 && nat_le lmul8 64)

all-bounded : list_all (λ (s : Setting). is_bounded s.sew s.lmul8) settings ≡ true
unfolding settings
all-bounded = refl

supported-bounded : (vt : Vtype) → is_supported vt ≡ true → Bounds vt
supported-bounded vt supported =
    let bounded = at_supported is_bounded vt all-bounded supported in
    let parts = and_parts (nat_le 8 vt.sew) (nat_le vt.sew 32 && nat_le vt.lmul8 64) bounded in
    let upper = and_parts (nat_le vt.sew 32) (nat_le vt.lmul8 64) parts.1 in
    record {
      least_sew = λ _. leb-true 8 vt.sew parts.0;
      greatest_sew = leb-true vt.sew 32 upper.0;
      greatest_lmul = leb-true vt.lmul8 64 upper.1;
    }

-- the fields of vill alone
record Fields (vt : Vtype) : Type 0 where
  vill : vt.vill ≡ true
  vta : vt.vta ≡ false
  vma : vt.vma ≡ false
  sew : vt.sew ≡ 0
  lmul8 : vt.lmul8 ≡ 0

vill-fields : (vt : Vtype) → is_vill vt ≡ true → Fields vt
vill-fields vt alone =
    let a = and_parts _ _ alone in
    let b = and_parts _ _ a.0 in
    let c = and_parts _ _ b.0 in
    let d = and_parts _ _ c.0 in
    record {
      vill = d.0;
      vta = not-true vt.vta d.1;
      vma = not-true vt.vma c.1;
      sew = eqb-true vt.sew 0 b.1;
      lmul8 = eqb-true vt.lmul8 0 a.1;
    }

pub setting_bounded : (vt : Vtype) → IsTrue (is_vill_or_supported vt) → Bounds vt
unfolding is_vill_or_supported
setting_bounded vt setting =
    ⊎_elim
    (λ alone. let fields = vill-fields vt alone in record { least_sew = λ e. cc; greatest_sew = omega arith; greatest_lmul = omega arith })
    (λ supported. supported-bounded vt supported)
    (or_cases (is_vill vt) (is_supported vt) setting)

-- a register has at most 65,536 bits
at_some_length : (most n : ℕ) (lengths : List ℕ) → list_all (λ k. nat_le k most) lengths ≡ true → list_any (λ k. k == n) lengths ≡ true → n ≤ most
at_some_length most n [] all any = cc
at_some_length most n (k ∷ lengths) all any =
    let passed = and_parts (nat_le k most) (list_all (λ k. nat_le k most) lengths) all in
    ⊎_elim
    (λ here. let is : k ≡ n = eqb-true k n here in let least : k ≤ most = leb-true k most passed.0 in omega arith)
    (λ later. at_some_length most n lengths passed.1 later)
    (or_cases (k == n) (list_any (λ k. k == n) lengths) any)

pub vlen_bounded : (vlen : ℕ) → IsTrue (is_legal_vlen vlen) → vlen ≤ 65536
unfolding is_legal_vlen legal_vlens
vlen_bounded vlen legal = at_some_length 65536 vlen legal_vlens refl legal

-- the vector type of a supported setting with these flags
abbrev flagged : Bool → Bool → ℕ → ℕ → Vtype
flagged vta vma sew lmul8 = record { vill = false; vta = vta; vma = vma; sew = sew; lmul8 = lmul8 }

-- two vector types of no vill have the same fields
abbrev are_same : Vtype → Vtype → Bool
are_same a b = beq a.vill b.vill && (beq a.vta b.vta && (beq a.vma b.vma && ((a.sew == b.sew) && (a.lmul8 == b.lmul8))))

-- the bits of a vector type of these sizes and flags name it
survives : Bool → Bool → ℕ → ℕ → Bool
survives vta vma sew lmul8 = are_same (vtype_of (bits_of (flagged vta vma sew lmul8))) (flagged vta vma sew lmul8)

all-survive : (vta vma : Bool) → list_all (λ (s : Setting). survives vta vma s.sew s.lmul8) settings ≡ true
unfolding settings survives vtype_of bits_of setting_of_codes setting_of_sizes
all-survive true true = refl
all-survive true false = refl
all-survive false true = refl
all-survive false false = refl

beq-true : (a b : Bool) → beq a b ≡ true → a ≡ b
beq-true true true h = refl
beq-true true false h = cc
beq-true false true h = cc
beq-true false false h = refl

-- a vector type of these fields
abbrev vtype_with : Bool → Bool → Bool → ℕ → ℕ → Vtype
vtype_with vill vta vma sew lmul8 = record { vill = vill; vta = vta; vma = vma; sew = sew; lmul8 = lmul8 }

same-fields : (a b : Vtype) → a.vill ≡ b.vill → a.vta ≡ b.vta → a.vma ≡ b.vma → a.sew ≡ b.sew → a.lmul8 ≡ b.lmul8 → a ≡ b
same-fields a b vill vta vma sew lmul8 =
    ap (λ x. vtype_with x a.vta a.vma a.sew a.lmul8) vill
    ∙ ap (λ x. vtype_with b.vill x a.vma a.sew a.lmul8) vta
    ∙ ap (λ x. vtype_with b.vill b.vta x a.sew a.lmul8) vma
    ∙ ap (λ x. vtype_with b.vill b.vta b.vma x a.lmul8) sew
    ∙ ap (λ x. vtype_with b.vill b.vta b.vma b.sew x) lmul8

same-true : (a b : Vtype) → are_same a b ≡ true → a ≡ b
same-true a b same =
    let p = and_parts _ _ same in
    let q = and_parts _ _ p.1 in
    let r = and_parts _ _ q.1 in
    let s = and_parts _ _ r.1 in
    same-fields a b (beq-true a.vill b.vill p.0) (beq-true a.vta b.vta q.0) (beq-true a.vma b.vma r.0) (eqb-true a.sew b.sew s.0) (eqb-true a.lmul8 b.lmul8 s.1)

vill-back : vtype_of (bits_of without_setting) ≡ without_setting
unfolding vtype_of bits_of
vill-back = refl

supported-back : (vt : Vtype) → is_supported vt ≡ true → vtype_of (bits_of vt) ≡ vt
unfolding is_supported survives
supported-back vt supported =
    let set : vt.vill ≡ false = not-true vt.vill (and_parts (not vt.vill) _ supported).0 in
    let is : vt ≡ flagged vt.vta vt.vma vt.sew vt.lmul8 = ap (λ x. vtype_with x vt.vta vt.vma vt.sew vt.lmul8) set in
    let back = same-true _ _ (at_supported (survives vt.vta vt.vma) vt (all-survive vt.vta vt.vma) supported) in
    ap (λ v. vtype_of (bits_of v)) is ∙ back ∙ sym is

-- the bits of a vector type name it
pub vtype_of_bits : (vt : Vtype) → IsTrue (is_vill_or_supported vt) → vtype_of (bits_of vt) ≡ vt
unfolding is_vill_or_supported
vtype_of_bits vt setting =
    ⊎_elim
    (λ alone.
    let fields = vill-fields vt alone in
    let is = same-fields vt without_setting fields.vill fields.vta fields.vma fields.sew fields.lmul8 in
    ap (λ v. vtype_of (bits_of v)) is ∙ vill-back ∙ sym is)
    (λ supported. supported-back vt supported)
    (or_cases (is_vill vt) (is_supported vt) setting)

-- a number that is the bits of a vector type names it
pub named_by : (n : ℕ) (vt : Vtype) → n ≡ bits_of vt → IsTrue (is_vill_or_supported vt) → vtype_of n ≡ vt
named_by n vt is setting = ap vtype_of is ∙ vtype_of_bits vt setting

all-found : list_all (λ (s : Setting). is_some (setting_of_sizes s.sew s.lmul8)) settings ≡ true
unfolding settings setting_of_sizes
all-found = refl

-- a supported vector type has codes
pub has_codes : (vt : Vtype) → IsTrue (is_vill_or_supported vt) → vt.vill ≡ false → IsSome (setting_of_sizes vt.sew vt.lmul8)
unfolding is_vill_or_supported setting_of_sizes
has_codes vt setting set =
    ⊎_elim
    (λ alone. let fields = vill-fields vt alone in absurd (false≢true (sym set ∙ fields.vill)))
    (λ supported. at_supported (λ sew lmul8. is_some (setting_of_sizes sew lmul8)) vt all-found supported)
    (or_cases (is_vill vt) (is_supported vt) setting)

-- the sizes are those of a row
abbrev has_sizes : List Setting → ℕ → ℕ → Bool
has_sizes rows sew lmul8 = list_any (λ s. (s.sew == sew) && (s.lmul8 == lmul8)) rows

-- a row that is found has its sizes in the table
sizes-found : (test : Setting → Bool) (rows : List Setting) (found : Setting) → find test rows ≡ Some found → has_sizes rows found.sew found.lmul8 ≡ true
sizes-found test [] found is = cc
sizes-found test (s ∷ rows) found is =
    ⊎_elim
    (λ here.
    let same : s ≡ found = let e = cond-true (test s) (Some s) (find test rows) here in cc in
    let equal = and_from (s.sew == found.sew) (s.lmul8 == found.lmul8) (eq-eqb s.sew found.sew (ap (λ (r : Setting). r.sew) same)) (eq-eqb s.lmul8 found.lmul8 (ap (λ (r : Setting). r.lmul8) same)) in
    or_left _ (has_sizes rows found.sew found.lmul8) equal)
    (λ other.
    let rest : find test rows ≡ Some found = sym (cond-false (test s) (Some s) (find test rows) other) ∙ is in
    or_right ((s.sew == found.sew) && (s.lmul8 == found.lmul8)) _ (sizes-found test rows found rest))
    (cases_Bool (test s))

-- the vector type of a row that is found, if one is, with these flags
abbrev row-vtype : Bool → Bool → Option Setting → Vtype
row-vtype vta vma o = option_map_or (with_setting vta vma) o without_setting

row-setting : (vta vma : Bool) (o : Option Setting) → ((s : Setting) → o ≡ Some s → has_sizes settings s.sew s.lmul8 ≡ true) → is_vill_or_supported (row-vtype vta vma o) ≡ true
unfolding is_vill_or_supported is_supported
row-setting vta vma None found = refl
row-setting vta vma (Some s) found = found s refl

-- the vector type that bits name is vill or of a supported setting
pub vtype_of-setting : (bits : ℕ) → is_vill_or_supported (vtype_of bits) ≡ true
unfolding vtype_of setting_of_codes is_vill_or_supported
vtype_of-setting bits =
    cond_both (nat_lt bits (2 ^ 8)) _ without_setting (λ vt. is_vill_or_supported vt ≡ true)
    (λ _. row-setting (field 6 1 bits == 1) (field 7 1 bits == 1) (setting_of_codes (field 3 3 bits) (field 0 3 bits)) (λ s is. sizes-found _ settings s is))
    (λ _. refl)

pub named_is_setting : (bits : ℕ) (vt : Vtype) → vt ≡ vtype_of bits → IsTrue (is_vill_or_supported vt)
named_is_setting bits vt is = ap is_vill_or_supported is ∙ vtype_of-setting bits
