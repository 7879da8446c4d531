-- The registers that instructions write: a mask, a group, element 0 of a register, whole registers.
use Rattle.std.specs.Prelude.{◌≡◌, ℕ, ◌+◌, ◌*◌, ◌/◌, ◌<◌, ◌≤◌, Bool, true, false, cond, not, ◌&&◌, max, min}
use lib.Dec.{ltb}
use Rattle.legal_groups.specs.Facts.{IsElementWidth}
use Rattle.rvv_decode.specs.declared.instruction.Form.{Form}
use Rattle.rvv_decode.specs.declared.instruction.Form.TheVariants.{V, X, I}
use Rattle.rvv_decode.specs.declared.instruction.VInstr.{VInstr}
use Rattle.vtype_cfg.specs.declared.configuration.Cfg.{Cfg}
use Rattle.vtype_cfg.specs.Classes.{group as group_place, count_at}
use Rattle.rvv_meaning.specs.Elementwise.{is_ones}
use Rattle.move_exec.specs.declared.frames.Frame.{Frame}

-- the registers of a frame of elements lie where they must
pub record Sits (f : Frame) : Type 0 where
  pub wide : IsElementWidth f.width
  pub few : f.registers ≤ 8
  pub room : f.vd + f.registers ≤ 32
  pub spares : f.masked ≡ true → 0 < f.vd

-- how many registers a group takes
abbrev pub group_registers : Cfg → ℕ
group_registers c = count_at c.vtype (group_place c.vtype.sew)

-- the bits of the mask in vd; the elements of the group from vd on
abbrev pub mask_frame : (masked : Bool) → VInstr → Cfg → Frame
mask_frame masked i c = record {
  vd = i.vd;
  registers = 1;
  width = 1;
  masked = masked;
  ones = is_ones c.policy;
  tail = ltb c.vstart c.vl;
  from = c.vstart;
  len = c.vl;
  until = c.vl;
}

abbrev pub group_frame : VInstr → Cfg → Frame
group_frame i c = record {
  vd = i.vd;
  registers = group_registers c;
  width = c.vtype.sew;
  masked = not i.vm;
  ones = is_ones c.policy;
  tail = ltb c.vstart c.vl && c.vtype.vta;
  from = c.vstart;
  len = c.vl;
  until = c.vl;
}

-- how far a slide moves, and the index of a gather: the scalar, or the immediate without a sign
abbrev pub amount_for : Form → (vs1 x : ℕ) → ℕ
amount_for V vs1 x = 0
amount_for X vs1 x = x
amount_for I vs1 x = vs1

-- a group, from the amount on
abbrev pub offset_frame : VInstr → Cfg → (amount : ℕ) → Frame
offset_frame i c amount = record (group_frame i c) { from = max c.vstart amount }

-- element 0 of the register vd, where the vector length is not 0
abbrev pub first_frame : VInstr → Cfg → Frame
first_frame i c = record {
  vd = i.vd;
  registers = 1;
  width = c.vtype.sew;
  masked = false;
  ones = is_ones c.policy;
  tail = ltb c.vstart c.vl && c.vtype.vta;
  from = c.vstart;
  len = min 1 c.vl;
  until = max c.vstart (min 1 c.vl);
}

-- whole registers, with bytes as their elements where no setting is in force; none of their elements is agnostic
abbrev pub whole_width : Cfg → ℕ
whole_width c = cond c.vtype.vill 8 c.vtype.sew

abbrev pub whole_length : VInstr → Cfg → ℕ
whole_length i c = (i.vs1 + 1) * (c.vlen / whole_width c)

abbrev pub whole_frame : VInstr → Cfg → Frame
whole_frame i c = record {
  vd = i.vd;
  registers = i.vs1 + 1;
  width = whole_width c;
  masked = false;
  ones = false;
  tail = ltb c.vstart (whole_length i c) && c.vtype.vta;
  from = c.vstart;
  len = whole_length i c;
  until = whole_length i c;
}
