-- Frames of elements, with a scalar that is as wide, where there is one.
use Rattle.std.proofs.Common.{◌≡◌, ℕ, ◌*◌, Bool}
use Rattle.element_ops.specs.Elements.{Registers}
use Rattle.frame_laws.specs.Shapes.{Shape}
use Rattle.frame_laws.specs.Laws.{Framed}
use Rattle.vtype_cfg.specs.declared.configuration.Cfg.{Cfg}
use Rattle.move_exec.specs.declared.frames.Frame.{Frame}
use Rattle.move_exec.specs.Frames.{frame_shape}
use Rattle.move_exec.specs.Written.{Sits}
use Rattle.move_exec.proofs.Groups.{framed-of}

-- the shape of a frame whose scalar, where it takes one, is as wide as its elements
abbrev pub sized_shape : Frame → Cfg → (takes : Bool) → (x : ℕ) → (result : Registers → ℕ → Bool → ℕ) → Shape
sized_shape f c takes x result = frame_shape f c takes f.width x result

pub sized-framed : (f : Frame) (c : Cfg) (takes : Bool) (x columns : ℕ) (result : Registers → ℕ → Bool → ℕ) → Sits f → c.vlen ≡ 32 * columns → Framed (sized_shape f c takes x result) columns
sized-framed f c takes x columns result sits long = framed-of f c takes f.width x columns result sits.wide sits.wide sits.few sits.room sits.spares long
