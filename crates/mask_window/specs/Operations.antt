-- The operations that mark the elements of a register by their places (vector extension 1.0, sections 5.3 and 5.4).
use Rattle.std.specs.Prelude.{◌≡◌, ℕ, Bool, ◌&&◌}
use lib.Dec.{ltb}
use Rattle.element_ops.specs.Places.{Place, place_of, is_active, is_agnostic}
use Rattle.micro_ir.specs.WorkRows.{active_row, free_row}
use Rattle.micro_ir.specs.declared.op.MicroOp.{MicroOp}
use Rattle.micro_ir.specs.declared.op.MicroOp.TheVariants.{Window, Free}
use Rattle.steer_net.specs.Network.{is_within, is_free}
use Rattle.vtype_cfg.specs.declared.configuration.Cfg.{Cfg}

-- ones in the active elements of the row of active elements
abbrev pub active_operation : Cfg → (width first : ℕ) → (masked : Bool) → MicroOp
active_operation c width first masked = Window active_row width first c.vstart c.vl masked

-- whether the tail is agnostic: where the caller says so, and some element is computed
abbrev pub has_agnostic_tail : Cfg → (tail_too : Bool) → Bool
has_agnostic_tail c tail_too = ltb c.vstart c.vl && tail_too

-- ones in the agnostic elements of the row of agnostic elements
abbrev pub free_operation : Cfg → (width first : ℕ) → (masked tail_too : Bool) → MicroOp
free_operation c width first masked tail_too =
    Free free_row width first c.vstart c.vl masked (has_agnostic_tail c tail_too) (masked && c.vtype.vma)

-- the place of an element of an instruction that runs from vstart on and below vl
abbrev pub place_in : Cfg → (masked : Bool) → (mask : ℕ → Bool) → ℕ → Place
place_in c masked mask e = place_of c.vstart c.vstart c.vl masked mask e

-- the window marks the active elements
abbrev pub MarksActive : Cfg → (masked : Bool) → Type 0
MarksActive c masked =
    (mask : ℕ → Bool) (e : ℕ) → is_within c.vstart c.vl masked mask e ≡ is_active (place_in c masked mask e)

-- the operation marks the agnostic elements
abbrev pub MarksAgnostic : Cfg → (masked tail_too : Bool) → Type 0
MarksAgnostic c masked tail_too = (mask : ℕ → Bool) (e : ℕ)
    → is_free c.vstart c.vl masked (has_agnostic_tail c tail_too) (masked && c.vtype.vma) mask e
    ≡ is_agnostic c.vtype.vma (has_agnostic_tail c tail_too) (place_in c masked mask e)
