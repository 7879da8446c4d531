-- What the vector words of a workload mean, by the row of the table that each fits.
use Rattle.std.proofs.Common.{◌≡◌, ℕ, zero, suc, ◌+◌, ◌*◌, ◌%◌, ◌^◌, ◌<◌, true, List, [], ◌∷◌, Some, None, refl, ◌∙◌, ap, subst, arith, length}
use Rattle.std.specs.Prelude.{⊤, bit_and, bit_or, find, slice_index}
use Rattle.std.proofs.lemmas.Bool.{eq-eqb}
use Rattle.std.proofs.lemmas.Nat.Bits.{and_high}
use Rattle.word_rows.specs.Field.{field}
use Rattle.word_rows.specs.Rows.{Row}
use Rattle.word_rows.proofs.Apart.{all_apart}
use Rattle.rv32_decode.specs.Rows.{rows as scalar_rows, means as means_scalar, operations as scalar_operations, encoding_of, instruction_of as scalar_of}
use Rattle.word_rows.specs.Tree.{mask_of}
use Rattle.word_rows.proofs.Walk.{and_or}
use Rattle.vtype_cfg.specs.Classes.{Class, plain, index, class_of, opi_class, opm_class}
use Rattle.rvv_meaning.specs.Vectors.{is_computed}
use Rattle.rvv_decode.specs.declared.instruction.VInstr.{VInstr}
use Rattle.rvv_decode.specs.declared.instruction.VOp.{VOp}
use Rattle.rvv_decode.specs.declared.instruction.Form.{Form}
use Rattle.rvv_decode.specs.Layouts.{Kind, arithmetic, instruction, instruction_of}
use Rattle.rvv_decode.specs.Rows.{rows, means}
use Rattle.rvv_decode.specs.OpiRows.{opi_rows}
use Rattle.rvv_decode.specs.OpmRows.{opm_rows}
use Rattle.rvv_decode.specs.ConfigRows.{config_rows}
use Rattle.rvv_decode.specs.MemoryRows.{load_rows, store_rows}
use Rattle.rvv_decode.specs.declared.instruction.VOp.TheVariants.{Opi, Opm}
use Rattle.rvv_decode.specs.declared.instruction.OpiOp.{OpiOp}
use Rattle.rvv_decode.specs.declared.instruction.OpmOp.{OpmOp}
use Rattle.work_gen.specs.Words.{additive, multiplicative, operations, operation_word, vadd_word, vid_word}
use Rattle.rvv_decode.specs.declared.instruction.OpiOp.TheVariants.{Vadd, Vsub, Vminu, Vmax, Vand, Vor, Vxor, Vsll, Vsra, Vsadd}
use Rattle.rvv_decode.specs.declared.instruction.OpmOp.TheVariants.{Vid, Vmul, Vmulhu, Vdivu, Vrem, Vmacc, Vaadd}
use Rattle.rvv_decode.specs.declared.instruction.Form.TheVariants.{V, X}
use Rattle.work_runs.proofs.Rows.{is_row, looked_up, none_fits}

rows-apart : all_apart rows ≡ true
unfolding rows opi_rows opm_rows config_rows load_rows store_rows
rows-apart = refl

-- a field, as bits under a mask
pub field-mask : (low width w v : ℕ) → field low width w ≡ v → bit_and w (mask_of low width) ≡ v * 2 ^ low
field-mask low width w v e = and_high w width low ∙ ap (λ z. z * 2 ^ low) e

-- no scalar word has the opcode of vector arithmetic
pub not-scalar : (w : ℕ) → field 0 7 w ≡ 0x57 → means_scalar w ≡ None
unfolding means_scalar scalar_rows scalar_operations encoding_of
not-scalar w code = ap (λ o. scalar_of o w) (none_fits scalar_rows 0x7f 0x57 w refl (field-mask 0 7 w 0x57 code))

-- the bits of a word under the masks of two blocks and the opcode
module _ (w low width high span code f3 : ℕ)
  where
    pub under : field high span w ≡ code → field low width w ≡ f3 → field 0 7 w ≡ 0x57
        → bit_and w (bit_or (mask_of high span) (bit_or (mask_of low width) (mask_of 0 7))) ≡ bit_or (code * 2 ^ high) (bit_or (f3 * 2 ^ low) 0x57)
    under top middle opcode =
        and_or w (mask_of high span) (bit_or (mask_of low width) (mask_of 0 7))
        ∙ ap (λ z. bit_or z (bit_and w (bit_or (mask_of low width) (mask_of 0 7)))) (field-mask high span w code top)
        ∙ ap (λ z. bit_or (code * 2 ^ high) z) (and_or w (mask_of low width) (mask_of 0 7) ∙ ap (λ z. bit_or z (bit_and w (mask_of 0 7))) (field-mask low width w f3 middle) ∙ ap (λ z. bit_or (f3 * 2 ^ low) z) (field-mask 0 7 w 0x57 opcode))

-- the masks of rows that fix the operation, and of those that fix both sources as well
abbrev pub operation_mask : ℕ
operation_mask = 0xfc00707f

abbrev pub sources_mask : ℕ
sources_mask = 0xfdfff07f

-- A word means an unmasked instruction of a class that computes from the vector registers.
pub record Computes (class : Class) (w : ℕ) : Type 0 where
  pub i : VInstr
  pub scalar : means_scalar w ≡ None
  pub vector : means w ≡ Some i
  pub of_class : class_of i.op ≡ class
  pub computed : is_computed i.op ≡ true
  pub unmasked : i.vm ≡ true
  pub vd : i.vd < 32
  pub vs1 : i.vs1 < 32
  pub vs2 : i.vs2 < 32

row_at : ℕ → ℕ → VOp → Form → Row Kind
row_at mask value op form = record { mask = mask; value = value; kind = (op, arithmetic form) }

-- a word that fits a row computes as the row says
computes : (class : Class) (w mask value : ℕ) (op : VOp) (form : Form)
    → find (is_row mask value) rows ≡ Some (row_at mask value op form) → bit_and w mask ≡ value → field 0 7 w ≡ 0x57 → field 25 1 w ≡ 1
    → class_of op ≡ class → is_computed op ≡ true → Computes class w
unfolding means row_at
computes class w mask value op form found fit code unmasked is computed = record {
  i = instruction (arithmetic form) op w;
  scalar = not-scalar w code;
  vector = ap (λ o. instruction_of o w) (looked_up rows (row_at mask value op form) mask value w rows-apart found fit);
  of_class = is;
  computed = computed;
  unmasked = eq-eqb (field 25 1 w) 1 unmasked;
  vd = omega arith;
  vs1 = omega arith;
  vs2 = omega arith;
}

-- an operation without registers, with these registers
abbrev pub with_registers : ℕ → (d a b : ℕ) → ℕ
with_registers base d a b = base + 2 ^ 7 * d + 2 ^ 15 * a + 2 ^ 20 * b

-- it computes, whichever they are
abbrev pub ComputesAny : ℕ → Type 0
ComputesAny base = (d a b : ℕ) → d < 32 → a < 32 → b < 32 → Computes plain (with_registers base d a b)

abbrev value_for : ℕ → ℕ → ℕ
value_for code f3 = bit_or (code * 2 ^ 26) (bit_or (f3 * 2 ^ 12) 0x57)

-- the words of the two groups, by the codes of their operations
any : (base code f3 : ℕ) (op : VOp) (form : Form) → base ≡ 2 ^ 26 * code + 0x02000057 + 2 ^ 12 * f3 → code < 64 → f3 < 8
    → find (is_row operation_mask (value_for code f3)) rows ≡ Some (row_at operation_mask (value_for code f3) op form)
    → class_of op ≡ plain → is_computed op ≡ true → ComputesAny base
any base code f3 op form is low small found class computed = λ d a b in_d in_a in_b.
    let w = with_registers base d a b in
    let top : field 26 6 w ≡ code = omega arith in
    let middle : field 12 3 w ≡ f3 = omega arith in
    let opcode : field 0 7 w ≡ 0x57 = omega arith in
    computes plain w operation_mask (value_for code f3) op form found (under w 12 3 26 6 code f3 top middle opcode) opcode (omega arith) class computed

-- The operations of the blocks: vadd, vsub, vminu, vmax, vand, vor, vxor, vsll, vsra, vsadd; vmul, vmulhu, vdivu, vrem, vmacc,
-- vaadd.
addition : (code : ℕ) (op : OpiOp) → code < 64 → find (is_row operation_mask (value_for code 0)) rows ≡ Some (row_at operation_mask (value_for code 0) (Opi op) V) → opi_class op ≡ plain
    → ComputesAny (additive code)
addition code op low found class = any (additive code) code 0 (Opi op) V (omega arith) low (omega arith) found class refl

multiplication : (code : ℕ) (op : OpmOp) → code < 64 → find (is_row operation_mask (value_for code 2)) rows ≡ Some (row_at operation_mask (value_for code 2) (Opm op) V) → opm_class op ≡ plain
    → ComputesAny (multiplicative code)
multiplication code op low found class = any (multiplicative code) code 2 (Opm op) V (omega arith) low (omega arith) found class refl

AllCompute : List ℕ → Type 0
AllCompute [] = ⊤
AllCompute (base ∷ bases) = ComputesAny base × AllCompute bases

compute-at : (bases : List ℕ) (k : ℕ) → AllCompute bases → k < length bases → ComputesAny (slice_index bases k)
unfolding AllCompute
compute-at [] k all inside = absurd (omega arith)
compute-at (base ∷ bases) zero all inside = all.0
compute-at (base ∷ bases) (suc k) all inside = compute-at bases k all.1 (omega arith)

all-compute : AllCompute operations
unfolding AllCompute row_at rows opi_rows opm_rows config_rows load_rows store_rows opi_class opm_class
all-compute = (
  addition 0x00 Vadd (omega arith) refl refl,
  (
    addition 0x02 Vsub (omega arith) refl refl,
    (
      addition 0x04 Vminu (omega arith) refl refl,
      (
        addition 0x07 Vmax (omega arith) refl refl,
        (
          addition 0x09 Vand (omega arith) refl refl,
          (
            addition 0x0a Vor (omega arith) refl refl,
            (
              addition 0x0b Vxor (omega arith) refl refl,
              (
                addition 0x25 Vsll (omega arith) refl refl,
                (
                  addition 0x29 Vsra (omega arith) refl refl,
                  (
                    addition 0x21 Vsadd (omega arith) refl refl,
                    (
                      multiplication 0x25 Vmul (omega arith) refl refl,
                      (
                        multiplication 0x24 Vmulhu (omega arith) refl refl,
                        (
                          multiplication 0x20 Vdivu (omega arith) refl refl,
                          (
                            multiplication 0x23 Vrem (omega arith) refl refl,
                            (multiplication 0x2d Vmacc (omega arith) refl refl, (multiplication 0x09 Vaadd (omega arith) refl refl, tt)),
                          ),
                        ),
                      ),
                    ),
                  ),
                ),
              ),
            ),
          ),
        ),
      ),
    ),
  ),
)

-- the word of an operation, whatever the numbers are that it is made by
pub operation-computes : (kind vd vs1 vs2 : ℕ) → Computes plain (operation_word kind vd vs1 vs2)
operation-computes kind vd vs1 vs2 = compute-at operations (kind % 16) all-compute (omega arith) (1 + vd % 31) (vs1 % 32) (vs2 % 32) (omega arith) (omega arith) (omega arith)

-- vadd.vx of a register
pub vadd-computes : (r : ℕ) → r < 32 → Computes plain (vadd_word r)
unfolding row_at rows opi_rows opm_rows config_rows load_rows store_rows opi_class
vadd-computes r low =
    let made : with_registers 0x02004057 r 6 r ≡ vadd_word r = omega arith in
    subst (Computes plain) made (any 0x02004057 0 4 (Opi Vadd) X refl (omega arith) (omega arith) refl refl refl r 6 r low (omega arith) low)

-- vid.v of a register
pub vid-computes : (r : ℕ) → r < 32 → Computes index (vid_word r)
unfolding row_at rows opi_rows opm_rows config_rows load_rows store_rows opm_class
vid-computes r low =
    let w = vid_word r in
    let top : field 26 6 w ≡ 0b010100 = omega arith in
    let middle : field 12 13 w ≡ 0b0000010001010 = omega arith in
    let opcode : field 0 7 w ≡ 0x57 = omega arith in
    computes index w sources_mask (bit_or (0b010100 * 2 ^ 26) (bit_or (0b0000010001010 * 2 ^ 12) 0x57)) (Opm Vid) V refl (under w 12 13 26 6 0b010100 0b0000010001010 top middle opcode) opcode (omega arith) refl refl
