-- The registers that an operand takes (vector extension 1.0, sections 3.4.2, 5.2 and 7.8).
use Rattle.std.specs.Prelude.{ℕ, ◌+◌, ◌*◌, ◌/◌, Bool, ◌&&◌, ◌==◌, nat_lt, nat_le, max}
use Rattle.vtype_cfg.specs.declared.vtype.Vtype.{Vtype}

-- the registers that an instruction names in one place: the first of them, EEW in bits, EMUL in eighths, and how many
-- groups follow one another, which are the fields of a segment. A mask has an EEW of 1. A mask, and an operand that is one
-- register whatever LMUL is, have an EMUL of 1, so that no rule on EMUL binds them.
pub record Operand : Type 0 where
  pub first : ℕ
  pub eew : ℕ
  pub emul8 : ℕ
  pub fields : ℕ

-- EMUL of elements of so many bits, in eighths: LMUL·EEW/SEW, all powers of two; 0 where that is below an eighth
abbrev pub emul_of : Vtype → ℕ → ℕ
emul_of vt eew = vt.lmul8 * eew / vt.sew

-- a mask: one register, with one bit for each element
abbrev pub mask_at : ℕ → Operand
mask_at first = record { first = first; eew = 1; emul8 = 8; fields = 1 }

-- one register, whatever LMUL is, with elements of so many bits
abbrev pub register_at : ℕ → ℕ → Operand
register_at eew first = record { first = first; eew = eew; emul8 = 8; fields = 1 }

-- so many groups, one after the other, of elements of so many bits
abbrev pub groups_at : Vtype → ℕ → ℕ → ℕ → Operand
groups_at vt fields eew first = record { first = first; eew = eew; emul8 = emul_of vt eew; fields = fields }

-- so many whole registers: a group of bytes with that EMUL, whatever the vector type is
abbrev pub whole_at : ℕ → ℕ → Operand
whole_at count first = record { first = first; eew = 8; emul8 = 8 * count; fields = 1 }

-- how many registers a group takes: EMUL, and one where that is less
abbrev pub group_registers : Operand → ℕ
group_registers o = max 1 (o.emul8 / 8)

-- the registers from the first up to, but without, the one past them
pub record Interval : Type 0 where
  pub first : ℕ
  pub past : ℕ

-- all registers of an operand
unfoldable pub registers : Operand → Interval
registers o = record { first = o.first; past = o.first + o.fields * group_registers o }

abbrev pub holds : Interval → ℕ → Bool
holds a register = nat_le a.first register && nat_lt register a.past

-- some register is in both
abbrev pub overlap : Interval → Interval → Bool
overlap a b = nat_lt a.first b.past && nat_lt b.first a.past

-- the part is made of the lowest-numbered registers of the other
abbrev pub is_lowest_part : Interval → Interval → Bool
is_lowest_part part a = (part.first == a.first) && nat_le part.past a.past

-- the part is made of the highest-numbered registers of the other
abbrev pub is_highest_part : Interval → Interval → Bool
is_highest_part part a = (part.past == a.past) && nat_le a.first part.first

abbrev pub is_mask : Operand → Bool
is_mask o = o.eew == 1
