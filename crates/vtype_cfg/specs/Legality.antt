-- Which vector instructions are legal (vector extension 1.0, sections 3.4, 5.1 to 5.3, 7.8 and 11 to 16). These rules are
-- this project's own profile, written after the standard.
use Rattle.std.specs.Prelude.{ℕ, ◌*◌, ◌%◌, Bool, true, not, ◌&&◌, ◌||◌, ◌==◌, nat_lt, nat_le, List, Option, Some, None}
use Rattle.std.specs.List.{list_all}
use Rattle.rvv_decode.specs.declared.instruction.VInstr.{VInstr}
use Rattle.vtype_cfg.specs.declared.vtype.Vtype.{Vtype}
use Rattle.vtype_cfg.specs.Groups.{Operand, registers, group_registers, holds, overlap, is_lowest_part, is_highest_part, is_mask}
use Rattle.vtype_cfg.specs.Classes.{Class, Overlap, in_any_way, by_width, nowhere, class_of, destination_of, sources_of, overlap_of, may_write_mask, starts_at_zero, needs_no_setting}

-- Under vill only configuration and whole-register loads, stores and moves are legal.
unfoldable pub has_setting : Class → Vtype → Bool
has_setting class vt = not vt.vill || needs_no_setting class

-- EEW is from 8 to 32, but of masks.
unfoldable pub has_legal_eew : Operand → Bool
has_legal_eew o = is_mask o || (nat_le 8 o.eew && nat_le o.eew 32)

-- EMUL is from 1/8 to 8.
unfoldable pub has_legal_emul : Operand → Bool
has_legal_emul o = nat_le 1 o.emul8 && nat_le o.emul8 64

-- The first register is a multiple of EMUL where that is above 1.
unfoldable pub is_aligned : Operand → Bool
is_aligned o = o.first % group_registers o == 0

-- The fields of a segment take at most 8 registers, where EMUL below 1 counts as 1, and none of them is past v31.
unfoldable pub fits_registers : Operand → Bool
fits_registers o = nat_le (o.fields * group_registers o) 8 && nat_le (registers o).past 32

-- An operand lies in its registers as it must.
unfoldable pub is_placed : Operand → Bool
is_placed o = has_legal_eew o && has_legal_emul o && is_aligned o && fits_registers o

-- A destination may share registers with a source where EEW is equal; where its EEW is less, if it is the lowest-numbered
-- part of the source; where its EEW is greater, if the source is its highest-numbered part and has an EMUL of at least 1.
unfoldable pub may_overlap_by_width : Operand → Operand → Bool
may_overlap_by_width d s =
    (d.eew == s.eew)
    || (nat_lt d.eew s.eew && is_lowest_part (registers d) (registers s))
    || (nat_lt s.eew d.eew && is_highest_part (registers s) (registers d) && nat_le 8 s.emul8)

-- A destination overlaps a source only as its class allows.
unfoldable pub overlaps_legally : Overlap → Operand → Operand → Bool
overlaps_legally in_any_way d s = true
overlaps_legally by_width d s = not (overlap (registers d) (registers s)) || may_overlap_by_width d s
overlaps_legally nowhere d s = not (overlap (registers d) (registers s))

-- No destination of a masked instruction holds v0, which is the mask, but those of compares, carries and reductions.
unfoldable pub spares_mask : Class → Bool → Operand → Bool
spares_mask class unmasked d = unmasked || may_write_mask class || not (holds (registers d) 0)

-- A class that cannot go on at a later element is legal only from element 0 on.
unfoldable pub may_start_at : ℕ → Class → Bool
may_start_at vstart class = not (starts_at_zero class) || (vstart == 0)

-- The operand, where there is one, passes the test.
abbrev pub if_there : (Operand → Bool) → Option Operand → Bool
if_there test None = true
if_there test (Some o) = test o

-- Each operand lies as it must.
unfoldable pub are_placed : Option Operand → List (Option Operand) → Bool
are_placed d s = if_there is_placed d && list_all (if_there is_placed) s

-- The destination, where there is one, overlaps the sources only as it may and spares the mask.
unfoldable pub writes_legally : Class → VInstr → Option Operand → List (Option Operand) → Bool
writes_legally class i d s =
    if_there (λ o. list_all (if_there (overlaps_legally (overlap_of class i) o)) s) d && if_there (spares_mask class i.vm) d

-- all rules, for an instruction of a class
unfoldable pub obeys_rules : Class → VInstr → Vtype → ℕ → Bool
obeys_rules class i vt vstart =
    has_setting class vt
    && may_start_at vstart class
    && are_placed (destination_of class i vt) (sources_of class i vt)
    && writes_legally class i (destination_of class i vt) (sources_of class i vt)

-- the instruction is legal under this vector type, at this first element
unfoldable pub is_legal : VInstr → Vtype → ℕ → Bool
is_legal i vt vstart = obeys_rules (class_of i.op) i vt vstart
