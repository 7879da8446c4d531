-- The programs of frames: what stands round the lists of the registers of an instruction.
use Rattle.std.specs.Prelude.{ℕ, zero, suc, ◌+◌, ◌*◌, ◌/◌, Bool, false, cond, ◌&&◌, List, [], ◌∷◌, ◌++◌}
use Rattle.element_ops.specs.Elements.{Registers}
use Rattle.frame_laws.specs.Shapes.{Shape, Bounds}
use Rattle.micro_ir.specs.declared.op.MicroOp.{MicroOp}
use Rattle.micro_ir.specs.declared.op.MicroOp.TheVariants.{Window, Free}
use Rattle.micro_ir.specs.Pieces.{splat, fill_step}
use Rattle.micro_ir.specs.Steps.{micros}
use Rattle.micro_ir.specs.WorkRows.{active_row, free_row}
use Rattle.vtype_cfg.specs.declared.configuration.Cfg.{Cfg}
use Rattle.move_exec.specs.declared.bodies.Body.{Body}
use Rattle.move_exec.specs.declared.frames.Frame.{Frame}
use Rattle.move_exec.specs.Bodies.{body_length}

-- the active elements of a register, whose first one has the number `first`
abbrev pub window_of : Frame → (first : ℕ) → List MicroOp
window_of f first = Window active_row f.width first f.from f.len f.masked ∷ []

-- ones into its agnostic elements, where agnostic elements become ones
abbrev pub fill_of : Frame → Cfg → (first to : ℕ) → List MicroOp
fill_of f c first to =
    cond f.ones (Free free_row f.width first f.from f.until f.masked f.tail (f.masked && c.vtype.vma) ∷ micros f.width (fill_step f.width to ∷ [])) []

-- the operations on register g, of which `body` computes it; and on the first registers
unfoldable pub register_list : Frame → Cfg → (body : List MicroOp) → (g : ℕ) → List MicroOp
register_list f c body g = window_of f (g * (c.vlen / f.width)) ++ (body ++ fill_of f c (g * (c.vlen / f.width)) (f.vd + g))

unfoldable pub registers_list : Frame → Cfg → (body : ℕ → List MicroOp) → (g : ℕ) → List MicroOp
registers_list f c body zero = []
registers_list f c body (suc g) = registers_list f c body g ++ register_list f c (body g) g

-- how many operations a register takes
abbrev pub register_length : Frame → Body → ℕ
register_length f body = 1 + cond f.ones 3 0 + body_length body

-- the scalar into its row, where there is one
abbrev pub scalar_list : (takes : Bool) → (w x : ℕ) → List MicroOp
scalar_list takes w x = cond takes (micros w (splat w x)) []

-- the program: the scalar, and the registers
abbrev pub frame_program : Frame → Cfg → (takes : Bool) → (w x : ℕ) → (body : ℕ → List MicroOp) → List MicroOp
frame_program f c takes w x body = scalar_list takes w x ++ registers_list f c body f.registers

-- the shape of the instruction, whose results are these, and the bounds that its program writes
abbrev pub frame_shape : Frame → Cfg → (takes : Bool) → (w x : ℕ) → (result : Registers → ℕ → Bool → ℕ) → Shape
frame_shape f c takes w x result = record {
  width = f.width;
  vlen = c.vlen;
  registers = f.registers;
  vd = f.vd;
  reads = false;
  masked = f.masked;
  ones = f.ones;
  vma = c.vtype.vma;
  tail = f.tail;
  vstart = c.vstart;
  from = f.from;
  len = f.len;
  splat = takes;
  scalar = x;
  scalar_width = w;
  result = result;
}

abbrev pub frame_bounds : Frame → Bounds
frame_bounds f = record { from = f.from; until = f.until }
