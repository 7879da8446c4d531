-- The program of an instruction, round the lists that compute the registers of its destination.
use Rattle.std.specs.Prelude.{ℕ, ◌+◌, true, cond, ◌&&◌, zero, suc, List, [], ◌∷◌, ◌++◌}
use Rattle.micro_ir.specs.declared.op.MicroOp.{MicroOp}
use Rattle.micro_ir.specs.declared.op.MicroOp.TheVariants.{Window, Free}
use Rattle.micro_ir.specs.Steps.{micros}
use Rattle.micro_ir.specs.WorkRows.{active_row, mask_row, free_row}
use Rattle.micro_ir.specs.Pieces.{splat, fill_step}
use Rattle.frame_laws.specs.Shapes.{Shape, Bounds, first_of}

-- the active elements of register g
abbrev pub active_window : Shape → Bounds → (g : ℕ) → MicroOp
active_window i b g = Window active_row i.width (first_of i g) b.from i.len i.masked

-- the mask bits of register g's elements, where the mask is an operand
abbrev pub mask_window : Shape → Bounds → (g : ℕ) → List MicroOp
mask_window i b g = cond i.reads (Window mask_row i.width (first_of i g) b.from i.len true ∷ []) []

-- ones into the agnostic elements of register g, where agnostic elements become ones
abbrev pub fill : Shape → Bounds → (g : ℕ) → List MicroOp
fill i b g =
    cond i.ones (Free free_row i.width (first_of i g) b.from b.until i.masked i.tail (i.masked && i.vma) ∷ micros i.width (fill_step i.width (i.vd + g) ∷ [])) []

-- the operations on register g, of which `body` computes it: windows first, the fill last
unfoldable pub one_register : Shape → Bounds → (g : ℕ) → (body : List MicroOp) → List MicroOp
one_register i b g body = active_window i b g ∷ (mask_window i b g ++ (body ++ fill i b g))

-- the operations on the first registers of the group, in rising order
unfoldable pub first_registers : Shape → Bounds → (body : ℕ → List MicroOp) → ℕ → List MicroOp
first_registers i b body zero = []
first_registers i b body (suc g) = first_registers i b body g ++ one_register i b g (body g)

-- the scalar into the scalar row, where the instruction has one
abbrev pub splat_program : Shape → List MicroOp
splat_program i = cond i.splat (micros i.scalar_width (splat i.scalar_width i.scalar)) []

-- the program, of which `body g` computes register g of the group
unfoldable pub program : Shape → Bounds → (body : ℕ → List MicroOp) → List MicroOp
program i b body = splat_program i ++ first_registers i b body i.registers
