-- The word that means an instruction is its fixed bits and its operands.
use Rattle.std.proofs.Common.{◌≡◌, ℕ, ◌+◌, ◌-◌, ◌^◌, ◌<◌, Bool, true, false, cond, List, [], ◌∷◌, Some, refl, sym, ◌∙◌, ap, subst, arith}
use Rattle.std.specs.Prelude.{bit_and, bit_or, map}
use Rattle.std.proofs.lemmas.Grind.{common_steps}
use Rattle.std.proofs.lemmas.Bool.{eqb-true}
use Rattle.std.proofs.lemmas.Nat.{and_mask}
use Rattle.word_rows.specs.Rows.{fits, look_up}
use Rattle.rv32_decode.specs.declared.operations.Op.{Op}
use Rattle.rv32_decode.specs.declared.operations.Op.TheVariants.{Lui}
use Rattle.rv32_decode.specs.declared.instruction.Instr.{Instr}
use Rattle.rv32_decode.specs.declared.formats.Format.{Format}
use Rattle.rv32_decode.specs.declared.formats.Format.TheVariants.{R, I, S, B, U, J, Shift, Unsigned, Bare}
use Rattle.rv32_decode.specs.Formats.{instruction}
use Rattle.rv32_decode.specs.Rows.{encoding_of, operations, rows, row_of, means}
use Rattle.rv32_decode.specs.Spelling.{placed}
use Rattle.rv32_decode.proofs.Masks.{and-f3, and-f7, or-others}
use Rattle.rv32_decode.proofs.Meaning.{meant}

-- the bits that a format leaves to no operand
abbrev fixed : Format → ℕ
fixed R = 0xfe00707f
fixed I = 0x707f
fixed S = 0x707f
fixed B = 0x707f
fixed U = 0x7f
fixed J = 0x7f
fixed Shift = 0xfe00707f
fixed Unsigned = 0x707f
fixed Bare = 0xffffffff

fixed-fits : (f : Format) → fixed f < 2 ^ 32
fixed-fits R = omega arith
fixed-fits _ = omega arith

-- they are those that the row of an operation tests
mask-is : (op : Op) → (encoding_of op).mask ≡ fixed (encoding_of op).format
unfolding encoding_of
mask-is Lui = refl
mask-is _ = refl

-- a word is its fixed bits and its operands
sum_is : (f : Format) (op : Op) (w : ℕ) → w < 2 ^ 32 → bit_and w (fixed f) + placed f (instruction f op w) ≡ w
sum_is R op w h = grind (arith, common_steps, and-f7 w)
sum_is I op w h = grind (arith, common_steps, and-f3 w)
sum_is S op w h = grind (arith, common_steps, and-f3 w)
sum_is B op w h = grind (arith, common_steps, and-f3 w)
sum_is U op w h = grind (arith, common_steps, and_mask w 7)
sum_is J op w h = grind (arith, common_steps, and_mask w 7)
sum_is Shift op w h = grind (arith, common_steps, and-f7 w)
sum_is Unsigned op w h = grind (arith, common_steps, and-f3 w)
sum_is Bare op w h = omega (arith, and_mask w 32)

-- the same by `|`
joined_is : (f : Format) (op : Op) (w : ℕ) → w < 2 ^ 32 → bit_or (bit_and w (fixed f)) (placed f (instruction f op w)) ≡ w
joined_is f op w h =
    let operands = placed f (instruction f op w) in
    let rest : operands ≡ w - bit_and w (fixed f) = omega (arith, sum_is f op w h) in
    rw rest (or-others w (fixed f) h (fixed-fits f))

-- the word has the fixed bits of the operation
abbrev HasFixed : Op → ℕ → Type 0
HasFixed op w = bit_and w (fixed (encoding_of op).format) ≡ (encoding_of op).value

found-fixed : (ops : List Op) (w : ℕ) (op : Op) → look_up (map row_of ops) w ≡ Some op → HasFixed op w
found-fixed [] w op e = cc
found-fixed (first ∷ ops) w op e = go (fits (row_of first) w) refl e (found-fixed ops w op)
  where
    go : (b : Bool) → fits (row_of first) w ≡ b → cond b (Some first) (look_up (map row_of ops) w) ≡ Some op → (look_up (map row_of ops) w ≡ Some op → HasFixed op w) → HasFixed op w
    go true is found rest =
        let same : first ≡ op = cc in
        subst (λ z. HasFixed z w) same (ap (λ m. bit_and w m) (sym (mask-is first)) ∙ eqb-true _ _ is)
    go false is found rest = rest found

-- what a word means gives the word back
pub word_is : (i : Instr) (w : ℕ) → w < 2 ^ 32 → means w ≡ Some i → bit_or (encoding_of i.op).value (placed (encoding_of i.op).format i) ≡ w
unfolding rows
word_is i w h e =
    let m = meant i w e in
    let format = (encoding_of i.op).format in
    let P : Instr → Type 0 = λ z. bit_or (encoding_of i.op).value (placed format z) ≡ w in
    subst P m.read (rw (← found-fixed operations w i.op m.found) (joined_is format i.op w h))
