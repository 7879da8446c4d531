-- The fields of the instruction that a word means are in range, and give the word back.
use Rattle.std.proofs.Common.{◌≡◌, ℕ, ◌+◌, ◌*◌, ◌-◌, ◌/◌, ◌%◌, ◌^◌, ◌<◌, ◌⊎◌, Bool, true, false, not, Option, Some, None, refl, sym, ◌∙◌, ap, subst, arith, rules}
use Rattle.std.specs.Prelude.{bit_and, ◌==◌, ◌&&◌, ◌||◌, IfSome}
use Rattle.std.specs.List.{list_all}
use Rattle.std.specs.Int.{from_bool}
use Rattle.std.proofs.lemmas.Grind.{common_steps}
use Rattle.std.proofs.lemmas.Bool.{eqb-true, eqb-false, and_parts, false≢true}
use Rattle.std.proofs.lemmas.Nat.{and_mask, and_block, pow_pos, mod_below}
use Rattle.word_rows.specs.Field.{field}
use Rattle.word_rows.specs.Rows.{Row, look_up}
use Rattle.word_rows.proofs.Walk.{narrower}
use Rattle.rvv_decode.proofs.Found.{found_row}
use Rattle.rvv_decode.specs.Layouts.{Kind, Layout, arithmetic, memory, immediate_type, both_immediate, both_registers, instruction, instruction_of}
use Rattle.rvv_decode.specs.OpiRows.{opi_rows, opi_funct3}
use Rattle.rvv_decode.specs.OpmRows.{opm_rows, opm_funct3}
use Rattle.rvv_decode.specs.ConfigRows.{config_rows}
use Rattle.rvv_decode.specs.MemoryRows.{load_rows, store_rows}
use Rattle.rvv_decode.specs.Rows.{rows, means, HasWord}
use Rattle.rvv_decode.specs.Ranges.{IsInRange, IsAccess, has_vectors_alone}
use Rattle.rvv_decode.specs.Spelling.{opi_funct6, opm_funct6, arithmetic_fixed, memory_fixed, config_fixed, placed, spelled, FitsName}
use Rattle.rvv_decode.specs.declared.instruction.Form.{Form}
use Rattle.rvv_decode.specs.declared.instruction.Form.TheVariants.{V, X, I}
use Rattle.rvv_decode.specs.declared.instruction.VInstr.{VInstr}
use Rattle.rvv_decode.specs.declared.instruction.MemoryOp.{MemoryOp}
use Rattle.rvv_decode.specs.declared.instruction.VOp.{VOp}
use Rattle.rvv_decode.specs.declared.instruction.VOp.TheVariants.{Opi, Opm, Config, Memory}
use Rattle.rvv_decode.specs.declared.instruction.ConfigOp.TheVariants.{Vsetvli, Vsetivli, Vsetvl}

-- `&` with a mask of all bits of a field and some below it
and-field : (low width m w : ℕ) → m < 2 ^ low → bit_and w ((2 ^ width - 1) * 2 ^ low + m) ≡ field low width w * 2 ^ low + bit_and (w % 2 ^ low) m
and-field low width m w h =
    let at : w ≡ w / 2 ^ low * 2 ^ low + w % 2 ^ low = omega arith in
    ap (λ z. bit_and z ((2 ^ width - 1) * 2 ^ low + m)) at
    ∙ and_block low (w / 2 ^ low) (2 ^ width - 1) (w % 2 ^ low) m (mod_below w (2 ^ low) (pow_pos low)) h
    ∙ ap (λ z. z * 2 ^ low + bit_and (w % 2 ^ low) m) (and_mask (w / 2 ^ low) width)

-- the bits that every row of a layout fixes
abbrev fixed : Layout → ℕ
fixed (arithmetic form) = 0xfc00707f
fixed (memory eew) = 0x1c00707f
fixed immediate_type = 0x8000707f
fixed both_immediate = 0xc000707f
fixed both_registers = 0xfe00707f

bit-is : (n : ℕ) → n < 2 → from_bool (n == 1) ≡ n
bit-is n h = go (n == 1) refl
  where
    go : (b : Bool) → (n == 1) ≡ b → from_bool b ≡ n
    go true e = sym (eqb-true n 1 e)
    go false e = omega (arith, eqb-false n 1 e)

-- a word is its fixed bits and its operands
whole : (l : Layout) (op : VOp) (w : ℕ) → w < 2 ^ 32 → bit_and w (fixed l) + placed l (instruction l op w) ≡ w
whole (arithmetic form) op w h = grind (arith, common_steps, bit-is (field 25 1 w) (omega arith), and-field 26 6 0x707f w (omega arith), and-field 12 3 0x7f (w % 2 ^ 26) (omega arith), and_mask (w % 2 ^ 26 % 2 ^ 12) 7)
whole (memory eew) op w h = grind (arith, common_steps, bit-is (field 25 1 w) (omega arith), and-field 26 3 0x707f w (omega arith), and-field 12 3 0x7f (w % 2 ^ 26) (omega arith), and_mask (w % 2 ^ 26 % 2 ^ 12) 7)
whole immediate_type op w h = grind (arith, common_steps, and-field 31 1 0x707f w (omega arith), and-field 12 3 0x7f (w % 2 ^ 31) (omega arith), and_mask (w % 2 ^ 31 % 2 ^ 12) 7)
whole both_immediate op w h = grind (arith, common_steps, and-field 30 2 0x707f w (omega arith), and-field 12 3 0x7f (w % 2 ^ 30) (omega arith), and_mask (w % 2 ^ 30 % 2 ^ 12) 7)
whole both_registers op w h = grind (arith, common_steps, and-field 25 7 0x707f w (omega arith), and-field 12 3 0x7f (w % 2 ^ 25) (omega arith), and_mask (w % 2 ^ 25 % 2 ^ 12) 7)

-- an operation has this form
abbrev is_vector : Form → Bool
is_vector V = true
is_vector X = false
is_vector I = false

abbrev has_form : VOp → Form → Bool
has_form op form = not (has_vectors_alone op) || is_vector form

-- an operation has this layout
abbrev suits : VOp → Layout → Bool
suits (Opi op) (arithmetic form) = has_form (Opi op) form
suits (Opm op) (arithmetic form) = has_form (Opm op) form
suits (Memory op) (memory eew) = eew == 8 || (eew == 16 || eew == 32)
suits (Config Vsetvli) immediate_type = true
suits (Config Vsetivli) both_immediate = true
suits (Config Vsetvl) both_registers = true
suits op l = false

abbrev fixed_value : VOp → Layout → ℕ
fixed_value (Opi op) (arithmetic form) = arithmetic_fixed (opi_funct3 form) (opi_funct6 op)
fixed_value (Opm op) (arithmetic form) = arithmetic_fixed (opm_funct3 form) (opm_funct6 op)
fixed_value (Memory op) (memory eew) = memory_fixed op eew
fixed_value (Config op) l = config_fixed op
fixed_value op l = 0

-- a row fixes what its operation and layout fix
abbrev is_sound : Row Kind → Bool
is_sound r = suits r.kind.0 r.kind.1 && (bit_and r.mask (fixed r.kind.1) == fixed r.kind.1) && (bit_and r.value (fixed r.kind.1) == fixed_value r.kind.0 r.kind.1)

rows-sound : list_all is_sound rows ≡ true
unfolding rows opi_rows opm_rows config_rows load_rows store_rows
rows-sound = refl

-- what a sound row says of a word that fits it
record Sound (k : Kind) (w : ℕ) : Type 0 where
  suited : suits k.0 k.1 ≡ true
  bits : bit_and w (fixed k.1) ≡ fixed_value k.0 k.1

sound_row : (w : ℕ) (k : Kind) → look_up rows w ≡ Some k → Sound k w
sound_row w k is =
    let found = found_row is_sound rows w k rows-sound is in
    let r = found.row in
    let outer = and_parts _ _ found.passed in
    let inner = and_parts _ _ outer.0 in
    subst (λ z. Sound z w) found.kind (record {
      suited = inner.0;
      bits = narrower w r.mask r.value (fixed r.kind.1) (fixed_value r.kind.0 r.kind.1) (eqb-true _ _ found.fit) (eqb-true _ _ inner.1) (eqb-true _ _ outer.1);
    })

-- what is known of an instruction that a word means
pub record Read (op : VOp) (i : VInstr) (w : ℕ) : Type 0 where
  pub word : spelled op i ≡ w
  pub name : FitsName op i
  pub range : IsInRange i

-- the operation of an instruction that is no load and no store
abbrev is_memory : VOp → Bool
is_memory (Memory op) = true
is_memory op = false

no-access : (i : VInstr) → is_memory i.op ≡ false → (op : MemoryOp) → i.op ≡ Memory op → IsAccess i
no-access i other op e = absurd (false≢true (sym other ∙ ap is_memory e))

access-width : (eew : ℕ) → (eew == 8 || (eew == 16 || eew == 32)) ≡ true → (eew ≡ 8) ⊎ ((eew ≡ 16) ⊎ (eew ≡ 32))
access-width eew e = grind (arith, common_steps)

in-form : (op : VOp) (form : Form) → has_form op form ≡ true → has_vectors_alone op ≡ true → form ≡ V
in-form op V e alone = refl
in-form op X e alone = absurd (false≢true (rw alone at e))
in-form op I e alone = absurd (false≢true (rw alone at e))

memory-access : (op : VOp) (eew w : ℕ) → (eew == 8 || (eew == 16 || eew == 32)) ≡ true → IsAccess (instruction (memory eew) op w)
memory-access op eew w e = record { some = omega arith; eew = access-width eew e }

eew-range : (eew : ℕ) → (eew == 8 || (eew == 16 || eew == 32)) ≡ true → (eew ≡ 0) ⊎ ((eew ≡ 8) ⊎ ((eew ≡ 16) ⊎ (eew ≡ 32)))
eew-range eew e = grind (arith, common_steps)

read_row : (op : VOp) (l : Layout) (w : ℕ) → suits op l ≡ true → w < 2 ^ 32 → fixed_value op l + placed l (instruction l op w) ≡ w → Read op (instruction l op w) w
read_row (Opi op) (arithmetic form) w e h s = record { word = s; name = tt; range = search (rules, in-form (Opi op) form e, no-access (instruction (arithmetic form) (Opi op) w) refl) }
read_row (Opm op) (arithmetic form) w e h s = record { word = s; name = tt; range = search (rules, in-form (Opm op) form e, no-access (instruction (arithmetic form) (Opm op) w) refl) }
read_row (Memory op) (memory eew) w e h s = record { word = s; name = omega arith; range = search (rules, eew-range eew e, memory-access (Memory op) eew w e) }
read_row (Config Vsetvli) immediate_type w e h s = record { word = s; name = tt; range = search (rules, no-access (instruction immediate_type (Config Vsetvli) w) refl) }
read_row (Config Vsetivli) both_immediate w e h s = record { word = s; name = omega arith; range = search (rules, no-access (instruction both_immediate (Config Vsetivli) w) refl) }
read_row (Config Vsetvl) both_registers w e h s = record { word = s; name = tt; range = search (rules, no-access (instruction both_registers (Config Vsetvl) w) refl) }
read_row _ _ w e h s = absurd (false≢true e)

pub op-instruction : (l : Layout) (op : VOp) (w : ℕ) → (instruction l op w).op ≡ op
op-instruction (arithmetic form) op w = refl
op-instruction (memory eew) op w = refl
op-instruction immediate_type op w = refl
op-instruction both_immediate op w = refl
op-instruction both_registers op w = refl

pub read : (op : VOp) (i : VInstr) (w : ℕ) → i.op ≡ op → w < 2 ^ 32 → means w ≡ Some i → Read op i w
unfolding means
read op i w named h e = go (look_up rows w) refl e
  where
    go : (o : Option Kind) → look_up rows w ≡ o → instruction_of o w ≡ Some i → Read op i w
    go None is found = cc
    go (Some k) is found =
        let same : instruction k.1 k.0 w ≡ i = cc in
        let name : k.0 ≡ op = sym (op-instruction k.1 k.0 w) ∙ ap (λ (z : VInstr). z.op) same ∙ named in
        let row = sound_row w k is in
        let all : Read k.0 (instruction k.1 k.0 w) w = read_row k.0 k.1 w row.suited h (rw (← row.bits) (whole k.1 k.0 w h)) in
        subst (λ z. Read z i w) name (subst (λ z. Read k.0 z w) same all)

-- the fields of an instruction that a word means are in range
pub in_range : (i : VInstr) → HasWord i → IsInRange i
in_range i h = (read i.op i h.word refl h.fits h.meant).range

pub fields_in_range : (w : ℕ) → w < 2 ^ 32 → IfSome (means w) IsInRange
fields_in_range w h = go (means w) refl
  where
    go : (o : Option VInstr) → means w ≡ o → IfSome o IsInRange
    go None e = tt
    go (Some i) e = in_range i (record { word = w; fits = h; meant = e })
