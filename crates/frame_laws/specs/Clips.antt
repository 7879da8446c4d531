-- When the program of an instruction sets the flag that says that a result was clipped.
use Rattle.std.specs.Prelude.{◌≡◌, ℕ, ◌+◌, ◌*◌, ◌/◌, ◌<◌, Bool, ◌&&◌, List}
use Rattle.bit_rows.specs.Slices.{Slices}
use Rattle.element_ops.specs.Elements.{Registers}
use Rattle.element_ops.specs.Places.{is_active}
use Rattle.fold_laws.specs.Folds.{any}
use Rattle.steer_net.specs.Network.{bit_in, is_within}
use Rattle.micro_ir.specs.declared.op.MicroOp.{MicroOp}
use Rattle.micro_ir.specs.Replay.{clips}
use Rattle.frame_laws.specs.Shapes.{Shape, Bounds, Bounded, first_of}
use Rattle.frame_laws.specs.Programs.{program}
use Rattle.frame_laws.specs.Meaning.{place_in}
use Rattle.frame_laws.specs.Realising.{Splatted, Windowed}
use Rattle.frame_laws.specs.Laws.{SameAt, Legal, AllRealised, Holds}

-- whether the result of an element is clipped, from the registers and the element's number
abbrev pub Clipped : Type 0
Clipped = Registers → ℕ → Bool

-- the element is computed, and its result is clipped
abbrev pub clips_at : Shape → Clipped → Registers → ℕ → Bool
clips_at i clipped v e = is_active (place_in i (v 0) e) && clipped v e

-- The list of register g sets the flag where a result of an active element of it is clipped, and nowhere else: from any state
-- in which the scalar and the windows stand in their rows.
unfoldable pub TellsClips : Shape → Bounds → Clipped → (g : ℕ) → (body : List MicroOp) → Type 0
TellsClips i b clipped g body =
    (s : Slices) → i.vlen ≡ 32 * s.columns → Splatted i s → Windowed i b g s
    → clips body s ≡ any (i.vlen / i.width) (λ p. is_within b.from i.len i.masked (bit_in s 0) (first_of i g + p) && clipped (bit_in s) (first_of i g + p))

-- the list of each register does
abbrev pub AllTellClips : Shape → Bounds → Clipped → (body : ℕ → List MicroOp) → Type 0
AllTellClips i b clipped body = (g : ℕ) → g < i.registers → TellsClips i b clipped g (body g)

-- whether results of register g are clipped depends on the registers alone that these are computed from
abbrev pub DependsOn : Shape → (source : ℕ → ℕ → Bool) → Clipped → Type 0
DependsOn i source clipped =
    (g : ℕ) (u v : Registers) (p : ℕ) → g < i.registers → p < i.vlen / i.width → first_of i g + p < i.len → SameAt (source g) i.vlen u v
    → clipped u (first_of i g + p) ≡ clipped v (first_of i g + p)

-- The program of a legal instruction whose lists tell their clips sets the flag exactly where an active element is clipped.
abbrev pub ClipLaw : Type 0
ClipLaw =
    (i : Shape) (b : Bounds) (source : ℕ → ℕ → Bool) (body : ℕ → List MicroOp) (clipped : Clipped) (v : Registers) (s : Slices)
    → Legal i source s.columns → Bounded i b → AllRealised i b body → AllTellClips i b clipped body → DependsOn i source clipped → Holds i.vlen s v
    → clips (program i b body) s ≡ any (i.registers * (i.vlen / i.width)) (clips_at i clipped v)
