-- The program of an instruction that makes a mask, round the lists that tell the truths of its elements. Its shape is that
-- of its operands: the width of their elements and the registers of each one's group; and vd is the one register of the
-- destination.
use Rattle.std.specs.Prelude.{ℕ, cond, ◌&&◌, zero, suc, List, [], ◌∷◌, ◌++◌}
use Rattle.micro_ir.specs.declared.op.MicroOp.{MicroOp}
use Rattle.micro_ir.specs.declared.op.MicroOp.TheVariants.{Free, PackMask}
use Rattle.micro_ir.specs.Steps.{micros}
use Rattle.micro_ir.specs.WorkRows.{active_row, truth_row, free_row}
use Rattle.micro_ir.specs.Pieces.{fill_step}
use Rattle.frame_laws.specs.Shapes.{Shape, Bounds, first_of}
use Rattle.frame_laws.specs.Programs.{active_window, mask_window, splat_program}

-- the shape of the destination: its elements are the bits of one register
abbrev pub mask_of : Shape → Shape
mask_of i = record i { width = 1; registers = 1 }

-- The agnostic bits of the destination, where agnostic elements become ones. They are marked with the first register, before a bit
-- is written, since the destination may be v0, which says what the mask leaves out.
abbrev pub free_of_mask : Shape → Bounds → (g : ℕ) → List MicroOp
free_of_mask i b zero = cond i.ones (Free free_row 1 0 b.from b.until i.masked i.tail (i.masked && i.vma) ∷ []) []
free_of_mask i b (suc g) = []

-- the truths of register g's active elements into the bits of the destination that their numbers name
abbrev pub pack_of : Shape → (g : ℕ) → MicroOp
pack_of i g = PackMask truth_row active_row i.vd i.width (first_of i g)

-- the operations on register g of the operands' groups, of which `body` tells the truths: windows first, the bits of the
-- destination last
unfoldable pub mask_register : Shape → Bounds → (g : ℕ) → (body : List MicroOp) → List MicroOp
mask_register i b g body = active_window i b g ∷ (mask_window i b g ++ (body ++ (free_of_mask i b g ++ pack_of i g ∷ [])))

-- the operations on the first registers of the groups, in rising order
unfoldable pub mask_registers : Shape → Bounds → (body : ℕ → List MicroOp) → ℕ → List MicroOp
mask_registers i b body zero = []
mask_registers i b body (suc g) = mask_registers i b body g ++ mask_register i b g (body g)

-- ones into the agnostic bits of the destination, where agnostic elements become ones
abbrev pub mask_fill : Shape → List MicroOp
mask_fill i = cond i.ones (micros i.width (fill_step i.width i.vd ∷ [])) []

-- the program, of which `body g` tells the truths of register g
unfoldable pub mask_program : Shape → Bounds → (body : ℕ → List MicroOp) → List MicroOp
mask_program i b body = splat_program i ++ (mask_registers i b body i.registers ++ mask_fill i)
