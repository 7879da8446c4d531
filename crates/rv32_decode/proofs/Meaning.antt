-- What is known of an instruction that a word means.
use Rattle.std.proofs.Common.{◌≡◌, ℕ, Option, Some, None, refl, subst, arith}
use Rattle.std.specs.Prelude.{IfSome}
use Rattle.word_rows.specs.Rows.{look_up}
use Rattle.rv32_decode.specs.declared.operations.Op.{Op}
use Rattle.rv32_decode.specs.declared.instruction.Instr.{Instr}
use Rattle.rv32_decode.specs.declared.formats.Format.{Format}
use Rattle.rv32_decode.specs.declared.formats.Format.TheVariants.{R}
use Rattle.rv32_decode.specs.Formats.{instruction, HasRegisters}
use Rattle.rv32_decode.specs.Rows.{encoding_of, rows, instruction_of, means}
use Rattle.rv32_decode.specs.Spelling.{IsSpelled}

op-instruction : (f : Format) (op : Op) (w : ℕ) → (instruction f op w).op ≡ op
op-instruction R op w = refl
op-instruction _ op w = refl

has_registers : (f : Format) (op : Op) (w : ℕ) → HasRegisters (instruction f op w)
has_registers R op w = record { rd = omega arith; rs1 = omega arith; rs2 = omega arith }
has_registers _ op w = record { rd = omega arith; rs1 = omega arith; rs2 = omega arith }

-- the word fits the row of the operation, and has the operands
pub record IsMeant (i : Instr) (w : ℕ) : Type 0 where
  pub found : look_up rows w ≡ Some i.op
  pub read : instruction (encoding_of i.op).format i.op w ≡ i

pub meant : (i : Instr) (w : ℕ) → means w ≡ Some i → IsMeant i w
unfolding means
meant i w e = go (look_up rows w) refl e
  where
    go : (o : Option Op) → look_up rows w ≡ o → instruction_of o w ≡ Some i → IsMeant i w
    go None is read = cc
    go (Some op) is read =
        let format = (encoding_of op).format in
        let same : instruction format op w ≡ i = cc in
        subst (λ z. IsMeant z w) same (record {
          found = rw (op-instruction format op w) is;
          read = rw (op-instruction format op w);
        })

pub registers_if_meant : (i : Instr) (w : ℕ) → means w ≡ Some i → HasRegisters i
registers_if_meant i w e =
    subst HasRegisters (meant i w e).read (has_registers (encoding_of i.op).format i.op w)

pub registers_if_spelled : (i : Instr) → IsSpelled i → HasRegisters i
registers_if_spelled i s = registers_if_meant i s.word s.meant

pub registers_of_meaning : (w : ℕ) → IfSome (means w) HasRegisters
registers_of_meaning w = go (means w) refl
  where
    go : (o : Option Instr) → means w ≡ o → IfSome o HasRegisters
    go None is = tt
    go (Some i) is = registers_if_meant i w is
