-- What is known of the machine between the words of a workload.
use Rattle.std.specs.Prelude.{◌≡◌, ⊤, ℕ, true, false, slice_index}
use Rattle.vtype_cfg.specs.declared.vtype.Vtype.{Vtype}
use Rattle.rvv_meaning.specs.States.{Core}

-- the widths of elements that a workload sets
pub data Width : Type 0 where
  bytes : Width
  halves : Width
  words : Width

abbrev pub bits : Width → ℕ
bits bytes = 8
bits halves = 16
bits words = 32

-- the vector type with elements of a width in groups of one register, agnostic, and the bits that name it
abbrev pub type_of : Width → Vtype
type_of w = record { vill = false; vta = true; vma = true; sew = bits w; lmul8 = 8 }

abbrev pub name_of : Width → ℕ
name_of bytes = 0xc0
name_of halves = 0xc8
name_of words = 0xd0

-- before the first setting; under a setting; and where the call that follows is the exit
pub data Stage : Type 0 where
  opening : Stage
  set : Width → Stage
  leaving : Stage

-- the register that names a call, and the number of the exit
abbrev pub call_register : ℕ
call_register = 17

abbrev pub exit_number : ℕ
exit_number = 93

abbrev pub IsAt : Stage → Core → Type 0
IsAt opening c = ⊤
IsAt (set w) c = c.csrs.vtype ≡ name_of w
IsAt leaving c = slice_index c.regs call_register ≡ exit_number
