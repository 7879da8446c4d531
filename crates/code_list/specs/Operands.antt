-- The text of operands, and of a line of a mnemonic and its operands.
use Rattle.std.specs.Prelude.{ℕ, ◌+◌, ◌-◌, ◌^◌, ◌≤◌, nat_lt, if◌then◌else◌, List, [], ◌∷◌, ◌++◌, codes, All}
use Rattle.std.specs.Fmt.{decimal}
use Rattle.bit_laws.specs.Digits.{hex_digits}
use Rattle.code_list.specs.declared.operand.Operand.{Operand}
use Rattle.code_list.specs.declared.operand.Operand.TheVariants.{X, V, Number, Integer, Hex, Offset, Address, Carry, Mask}

-- a word of two's complement, in decimal
abbrev pub integer_text : ℕ → List ℕ
integer_text n = if nat_lt n (2 ^ 31) then decimal n else codes "-" ++ decimal (2 ^ 32 - n)

-- the text of an operand
unfoldable pub operand_text : Operand → List ℕ
operand_text (X n) = codes "x" ++ decimal n
operand_text (V n) = codes "v" ++ decimal n
operand_text (Number n) = decimal n
operand_text (Integer n) = integer_text n
operand_text (Hex digits n) = codes "0x" ++ hex_digits digits n
operand_text (Offset offset n) = integer_text offset ++ (codes "(x" ++ decimal n) ++ codes ")"
operand_text (Address n) = (codes "(x" ++ decimal n) ++ codes ")"
operand_text Carry = codes "v0"
operand_text Mask = codes "v0.t"

-- a hexadecimal operand has at most the eight digits of a word
abbrev pub IsWritable : Operand → Type 0
IsWritable (Hex digits n) = digits ≤ 8
IsWritable (X n) = Unit {0}
IsWritable (V n) = Unit {0}
IsWritable (Number n) = Unit {0}
IsWritable (Integer n) = Unit {0}
IsWritable (Offset offset n) = Unit {0}
IsWritable (Address n) = Unit {0}
IsWritable Carry = Unit {0}
IsWritable Mask = Unit {0}

-- further operands, each after a comma and a space
unfoldable pub more_text : List Operand → List ℕ
more_text [] = []
more_text (o ∷ os) = (codes ", " ++ operand_text o) ++ more_text os

-- operands after a mnemonic: a space stands before the first
unfoldable pub operands_text : List Operand → List ℕ
operands_text [] = []
operands_text (o ∷ os) = (codes " " ++ operand_text o) ++ more_text os
