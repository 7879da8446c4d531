-- Operands of an instruction that writes a group of elements, or a mask.
use Rattle.std.specs.Prelude.{◌≡◌, ℕ, ◌+◌, ◌*◌, ◌/◌, ◌%◌, ◌<◌, ◌≤◌, Bool, true, false, cond, eqb, ◌⊎◌, List, [], ◌∷◌}
use Rattle.bit_laws.specs.Numbers.{low}
use Rattle.bit_laws.specs.Signed.{extended}
use Rattle.element_ops.specs.Elements.{Registers, element_in, element_of}
use Rattle.gen_shift.specs.Kinds.{extension_ops}
use Rattle.micro_ir.specs.WorkRows.{scalar_row}
use Rattle.micro_ir.specs.declared.op.MicroOp.{MicroOp}
use Rattle.micro_ir.specs.declared.op.MicroOp.TheVariants.{Spread}
use Rattle.frame_laws.specs.Shapes.{Shape}

-- The group of registers from r on, whose elements have the width of the shape; the scalar; or the group from r on whose
-- elements have n bits, which is `by` times less: these are laid out in a row of work, extended by their sign or by zeros.
pub data Operand : Type 0 where
  group : (r : ℕ) → Operand
  scalar : Operand
  narrow : (signed : Bool) (by n r row : ℕ) → Operand

-- the operand's number at element e, of w bits, in registers that are bits
abbrev pub operand_number : Operand → (vlen w x : ℕ) → Registers → ℕ → ℕ
operand_number (group r) vlen w x v e = element_in vlen v r w e
operand_number scalar vlen w x v e = low w x
operand_number (narrow signed by n r row) vlen w x v e = extended signed n w (element_in vlen v r n e)

-- and in registers that are lists of bytes
abbrev pub operand_of : Operand → (size w x : ℕ) → List (List ℕ) → ℕ → ℕ
operand_of (group r) size w x v e = element_of size v r w e
operand_of scalar size w x v e = low w x
operand_of (narrow signed by n r row) size w x v e = extended signed n w (element_of size v r n e)

-- the row that holds it, for register g of the groups
abbrev pub row_of : Operand → (g : ℕ) → ℕ
row_of (group r) g = r + g
row_of scalar g = scalar_row
row_of (narrow signed by n r row) g = row

-- the operations that lay it out there, where it is narrower
abbrev pub laid_out : Operand → (w g : ℕ) → List MicroOp
laid_out (group r) w g = []
laid_out scalar w g = []
laid_out (narrow signed by n r row) w g = Spread (r + g / by) row n w (g % by) ∷ cond signed (extension_ops n w row) []

-- whether this is the row that it is laid out in
abbrev pub is_laid_out_in : (row : ℕ) → Operand → Bool
is_laid_out_in x (group r) = false
is_laid_out_in x scalar = false
is_laid_out_in x (narrow signed by n r row) = eqb x row

-- whether register q is read for register g of the groups
abbrev pub is_read : Operand → (g q : ℕ) → Bool
is_read (group r) g q = eqb q (r + g)
is_read scalar g q = false
is_read (narrow signed by n r row) g q = eqb q (r + g / by)

-- register q is none that the destination's registers before g have overwritten
abbrev pub IsUnwritten : Shape → (g q : ℕ) → Type 0
IsUnwritten i g q = (q < 32) × ((q < i.vd) ⊎ (i.vd + g ≤ q))

-- elements of n bits are narrower than those of the shape, and are laid out in a row that holds no other operand
pub record IsNarrower (i : Shape) (by n row : ℕ) : Type 0 where
  pub times : 1 < by
  pub some : 0 < n
  pub wide : by * n ≡ i.width
  pub whole : 8 * (n / 8) ≡ n
  pub above : scalar_row < row

-- The operand can be read while the destination is written: none of its registers is overwritten before it is read; or the
-- scalar stands in its row.
abbrev pub IsReadable : Shape → Operand → Type 0
IsReadable i (group r) = (g : ℕ) → g < i.registers → IsUnwritten i g (r + g)
IsReadable i scalar = (i.splat ≡ true) × (i.scalar_width ≡ i.width)
IsReadable i (narrow signed by n r row) = IsNarrower i by n row × ((g : ℕ) → g < i.registers → IsUnwritten i g (r + g / by))
