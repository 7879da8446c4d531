-- The settings of the vector unit: which ones are supported, the bits that name them, the greatest vector length, and what
-- a configuration instruction leaves (vector extension 1.0, sections 3.4 and 6).
use Rattle.std.specs.Prelude.{ℕ, ◌+◌, ◌*◌, ◌/◌, ◌^◌, Bool, true, false, not, ◌&&◌, ◌||◌, ◌==◌, nat_lt, nat_le, min, List, [], ◌∷◌, Option, find, if◌then◌else◌}
use Rattle.std.specs.List.{list_any}
use Rattle.std.specs.Int.{from_bool}
use Rattle.std.specs.Option.{option_map_or}
use Rattle.word_rows.specs.Field.{field}
use Rattle.vtype_cfg.specs.declared.vtype.Vtype.{Vtype}
use Rattle.vtype_cfg.specs.declared.configuration.Cfg.{Cfg}
use Rattle.vtype_cfg.specs.declared.configuration.Avl.{Avl}
use Rattle.vtype_cfg.specs.declared.configuration.Avl.TheVariants.{Given, Max, Keep}

-- a setting: the codes that name it, in bits 5:3 and in bits 2:0 of a vector type, SEW in bits and LMUL in eighths
pub record Setting : Type 0 where
  pub vsew : ℕ
  pub vlmul : ℕ
  pub sew : ℕ
  pub lmul8 : ℕ

abbrev pub setting : ℕ → ℕ → ℕ → ℕ → Setting
setting vsew vlmul sew lmul8 = record { vsew = vsew; vlmul = vlmul; sew = sew; lmul8 = lmul8 }

-- SEW and LMUL
abbrev pub sizes : Setting → ℕ × ℕ
sizes s = (s.sew, s.lmul8)

-- bits 5:0 of a vector type of the setting
abbrev pub codes : Setting → ℕ
codes s = s.vsew * 2 ^ 3 + s.vlmul

-- the settings that are supported: the codes, SEW, and LMUL from 1/4 (2) to 8 (64)
unfoldable pub settings : List Setting
settings =
    setting 0b000 0b110 8 2
    ∷ setting 0b000 0b111 8 4
    ∷ setting 0b000 0b000 8 8
    ∷ setting 0b000 0b001 8 16
    ∷ setting 0b000 0b010 8 32
    ∷ setting 0b000 0b011 8 64
    ∷ setting 0b001 0b111 16 4
    ∷ setting 0b001 0b000 16 8
    ∷ setting 0b001 0b001 16 16
    ∷ setting 0b001 0b010 16 32
    ∷ setting 0b001 0b011 16 64
    ∷ setting 0b010 0b000 32 8
    ∷ setting 0b010 0b001 32 16
    ∷ setting 0b010 0b010 32 32
    ∷ setting 0b010 0b011 32 64
    ∷ []

-- the supported setting of these codes
unfoldable pub setting_of_codes : ℕ → ℕ → Option Setting
setting_of_codes vsew vlmul = find (λ s. (s.vsew == vsew) && (s.vlmul == vlmul)) settings

-- the supported setting of these sizes
unfoldable pub setting_of_sizes : ℕ → ℕ → Option Setting
setting_of_sizes sew lmul8 = find (λ s. (s.sew == sew) && (s.lmul8 == lmul8)) settings

-- the vector type where no setting is in force
abbrev pub without_setting : Vtype
without_setting = record { vill = true; vta = false; vma = false; sew = 0; lmul8 = 0 }

-- the vector type of a setting, with these flags
abbrev pub with_setting : Bool → Bool → Setting → Vtype
with_setting vta vma s = record { vill = false; vta = vta; vma = vma; sew = s.sew; lmul8 = s.lmul8 }

-- the vector type that bits name: where no bit above bit 7 is 1, that of the supported setting of bits 5:0; else vill
unfoldable pub vtype_of : ℕ → Vtype
vtype_of bits =
    if nat_lt bits (2 ^ 8)
    then option_map_or (with_setting (field 6 1 bits == 1) (field 7 1 bits == 1)) (setting_of_codes (field 3 3 bits) (field 0 3 bits)) without_setting
    else without_setting

-- the bits of a vector type: vill is bit 31; else vma is bit 7, vta bit 6, and the codes of the setting stand below
unfoldable pub bits_of : Vtype → ℕ
bits_of vt =
    if vt.vill
    then 2 ^ 31
    else from_bool vt.vma * 2 ^ 7 + from_bool vt.vta * 2 ^ 6 + option_map_or codes (setting_of_sizes vt.sew vt.lmul8) 0

-- a setting of the table is in force
unfoldable pub is_supported : Vtype → Bool
is_supported vt = not vt.vill && list_any (λ s. (s.sew == vt.sew) && (s.lmul8 == vt.lmul8)) settings

-- no setting is in force, and the other fields are false and 0
abbrev pub is_vill : Vtype → Bool
is_vill vt = vt.vill && not vt.vta && not vt.vma && (vt.sew == 0) && (vt.lmul8 == 0)

unfoldable pub is_vill_or_supported : Vtype → Bool
is_vill_or_supported vt = is_vill vt || is_supported vt

-- the lengths that a vector register may have, in bits: powers of two from 32 on
unfoldable pub legal_vlens : List ℕ
legal_vlens = 32 ∷ 64 ∷ 128 ∷ 256 ∷ 512 ∷ 1024 ∷ 2048 ∷ 4096 ∷ 8192 ∷ 16384 ∷ 32768 ∷ 65536 ∷ []

unfoldable pub is_legal_vlen : ℕ → Bool
is_legal_vlen vlen = list_any (λ length. length == vlen) legal_vlens

-- the greatest vector length: LMUL·VLEN/SEW, and 0 where no setting is in force
unfoldable pub vlmax : Vtype → ℕ → ℕ
vlmax vt vlen = if vt.vill then 0 else vt.lmul8 * vlen / (8 * vt.sew)

-- whether the length that is asked for leaves the setting in force: it can be kept where a setting was in force whose
-- greatest length is the same
abbrev pub leaves_setting : Avl → Vtype → Vtype → ℕ → Bool
leaves_setting (Given n) old new vlen = true
leaves_setting Max old new vlen = true
leaves_setting Keep old new vlen = not old.vill && (vlmax old vlen == vlmax new vlen)

-- the length that is asked for, but no more than the greatest; the greatest; the old one
abbrev pub length_for : Avl → ℕ → ℕ → ℕ
length_for (Given n) old_vl most = min n most
length_for Max old_vl most = most
length_for Keep old_vl most = old_vl

-- the vector type and the vector length after a configuration instruction that asks for the vector type of these bits
unfoldable pub configured : Vtype → ℕ → Avl → ℕ → ℕ → Vtype × ℕ
configured old old_vl avl bits vlen =
    let new = vtype_of bits in
    if not new.vill && leaves_setting avl old new vlen
    then (new, length_for avl old_vl (vlmax new vlen))
    else (without_setting, 0)

-- a configuration that can stand: the vector length is at most the greatest, so 0 under vill; the first element is below
-- VLEN, and there are four rounding modes
unfoldable pub is_valid : Cfg → Bool
is_valid c =
    is_legal_vlen c.vlen
    && is_vill_or_supported c.vtype
    && nat_le c.vl (vlmax c.vtype c.vlen)
    && nat_lt c.vstart c.vlen
    && nat_le c.vxrm 3
