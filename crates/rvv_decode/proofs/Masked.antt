-- The rows of the table fix the mask bit of the instructions that always take v0.
use Rattle.std.proofs.Common.{◌≡◌, ℕ, ◌^◌, Bool, true, false, not, Option, Some, None, refl, sym, ◌∙◌, ap, arith}
use Rattle.std.specs.Prelude.{bit_and, ◌==◌, ◌&&◌, ◌||◌}
use Rattle.std.specs.List.{list_all}
use Rattle.std.proofs.lemmas.Bool.{eqb-true, and_parts}
use Rattle.std.proofs.lemmas.Nat.Bits.{and_high}
use Rattle.word_rows.specs.Field.{field}
use Rattle.word_rows.specs.Rows.{Row, look_up}
use Rattle.word_rows.proofs.Walk.{narrower}
use Rattle.rvv_decode.specs.Layouts.{Kind, Layout, arithmetic, memory, immediate_type, both_immediate, both_registers, instruction, instruction_of}
use Rattle.rvv_decode.specs.OpiRows.{opi_rows}
use Rattle.rvv_decode.specs.OpmRows.{opm_rows}
use Rattle.rvv_decode.specs.ConfigRows.{config_rows}
use Rattle.rvv_decode.specs.MemoryRows.{load_rows, store_rows}
use Rattle.rvv_decode.specs.Rows.{rows, means, HasWord}
use Rattle.rvv_decode.specs.declared.instruction.VInstr.{VInstr}
use Rattle.rvv_decode.specs.declared.instruction.VOp.{VOp}
use Rattle.rvv_decode.specs.declared.instruction.VOp.TheVariants.{Opi}
use Rattle.rvv_decode.specs.declared.instruction.OpiOp.TheVariants.{Vadc, Vsbc, Vmerge}
use Rattle.rvv_decode.proofs.Found.{found_row}
use Rattle.rvv_decode.proofs.Spelled.{op-instruction}

-- the operations that have no word without v0
abbrev pub takes_v0 : VOp → Bool
takes_v0 (Opi Vadc) = true
takes_v0 (Opi Vsbc) = true
takes_v0 (Opi Vmerge) = true
takes_v0 op = false

-- the row of such an operation fixes bit 25, the mask bit, as 0
abbrev fixes_mask : Row Kind → Bool
fixes_mask r = not (takes_v0 r.kind.0) || ((bit_and r.mask (2 ^ 25) == 2 ^ 25) && (bit_and r.value (2 ^ 25) == 0))

rows-fix : list_all fixes_mask rows ≡ true
unfolding rows opi_rows opm_rows config_rows load_rows store_rows
rows-fix = refl

-- the mask bit of a word of this kind
masked_row : (w : ℕ) (k : Kind) → takes_v0 k.0 ≡ true → look_up rows w ≡ Some k → bit_and w (2 ^ 25) ≡ 0
masked_row w k takes is =
    let found = found_row fixes_mask rows w k rows-fix is in
    let r = found.row in
    let t : takes_v0 r.kind.0 ≡ true = ap (λ (z : Kind). takes_v0 z.0) found.kind ∙ takes in
    let parts = and_parts (bit_and r.mask (2 ^ 25) == 2 ^ 25) (bit_and r.value (2 ^ 25) == 0) (rw t at found.passed) in
    narrower w r.mask r.value (2 ^ 25) 0 (eqb-true _ _ found.fit) (eqb-true _ _ parts.0) (eqb-true _ _ parts.1)

-- an instruction whose word has no mask bit
no_mask-bit : (l : Layout) (op : VOp) (w : ℕ) → field 25 1 w ≡ 0 → (instruction l op w).vm ≡ false
no_mask-bit (arithmetic form) op w h = ap (λ (z : ℕ). z == 1) h
no_mask-bit (memory eew) op w h = ap (λ (z : ℕ). z == 1) h
no_mask-bit immediate_type op w h = refl
no_mask-bit both_immediate op w h = refl
no_mask-bit both_registers op w h = refl

-- an instruction that always takes v0 has no mask bit
pub always_masked : (i : VInstr) → HasWord i → takes_v0 i.op ≡ true → i.vm ≡ false
unfolding means
always_masked i h takes = go (look_up rows h.word) refl h.meant
  where
    go : (o : Option Kind) → look_up rows h.word ≡ o → instruction_of o h.word ≡ Some i → i.vm ≡ false
    go None is found = cc
    go (Some k) is found =
        let same : instruction k.1 k.0 h.word ≡ i = cc in
        let name : k.0 ≡ i.op = sym (op-instruction k.1 k.0 h.word) ∙ ap (λ (z : VInstr). z.op) same in
        let none : bit_and h.word (2 ^ 25) ≡ 0 = masked_row h.word k (ap takes_v0 name ∙ takes) is in
        let bit : field 25 1 h.word ≡ 0 = let e = and_high h.word 1 25 in omega arith in
        ap (λ (z : VInstr). z.vm) (sym same) ∙ no_mask-bit k.1 k.0 h.word bit
