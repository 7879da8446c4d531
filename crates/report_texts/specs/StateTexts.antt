-- The text about the state of a machine: its place, its registers, its control registers and its vector registers.
use Rattle.std.specs.Prelude.{ℕ, ◌/◌, Bool, true, false, List, [], ◌++◌, codes, slice_index, slice_index_or}
use Rattle.std.specs.Fmt.{decimal}
use Rattle.std.specs.List.{flat_map, range_with_len}
use Rattle.rvv_meaning.specs.States.{Core}
use Rattle.rvv_meaning.specs.declared.Csrs.{Csrs}
use Rattle.bit_laws.specs.Digits.{hex_digits, hex_word}
use Rattle.rvv_meaning.specs.Texts.{newline}

-- a name with a word in hexadecimal digits, or with a number
abbrev pub word_line : List ℕ → ℕ → List ℕ
word_line name value = name ++ codes " " ++ hex_word value ++ newline

abbrev pub number_line : List ℕ → ℕ → List ℕ
number_line name n = name ++ codes " " ++ decimal n ++ newline

abbrev pub register_count : ℕ
register_count = 32

-- the line of a register
abbrev pub register_line : Core → ℕ → List ℕ
register_line c r = word_line (codes "x" ++ decimal r) (slice_index c.regs r)

unfoldable pub register_lines : Core → List ℕ
register_lines c = flat_map (register_line c) (range_with_len 0 register_count)

-- the lines of the place and of the registers
unfoldable pub scalar_lines : Core → List ℕ
scalar_lines c = word_line (codes "pc") c.pc ++ register_lines c

-- the lines of the control registers
abbrev pub flag : Bool → ℕ
flag true = 1
flag false = 0

unfoldable pub control_lines : Csrs → List ℕ
control_lines s =
    number_line (codes "vl") s.vl ++ word_line (codes "vtype") s.vtype ++ number_line (codes "vstart") s.vstart ++ number_line (codes "vxrm") s.vxrm ++ number_line (codes "vxsat") (flag s.vxsat)

-- a byte, in two hexadecimal digits
unfoldable pub hex_byte : ℕ → List ℕ
hex_byte value = hex_digits 2 value

-- byte j of a vector register
abbrev pub vector_byte : Core → ℕ → ℕ → List ℕ
vector_byte c r j = hex_byte (slice_index (slice_index_or c.vectors r []) j)

-- the line of a vector register: its bytes in rising order
unfoldable pub vector_bytes : Core → ℕ → List ℕ
vector_bytes c r = flat_map (vector_byte c r) (range_with_len 0 (c.csrs.vlen / 8))

abbrev pub vector_line : Core → ℕ → List ℕ
vector_line c r = (codes "v" ++ decimal r ++ codes " ") ++ (vector_bytes c r ++ newline)

unfoldable pub vector_lines : Core → List ℕ
vector_lines c = flat_map (vector_line c) (range_with_len 0 register_count)

-- the text about the state
unfoldable pub state_text : Core → List ℕ
state_text c = word_line (codes "pc") c.pc ++ (register_lines c ++ (control_lines c.csrs ++ vector_lines c))
