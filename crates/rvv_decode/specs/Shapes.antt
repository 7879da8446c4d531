-- Rows that fix some fields of a word.
use Rattle.std.specs.Prelude.{ℕ, ◌+◌, ◌*◌, ◌^◌, List, [], ◌∷◌}
use Rattle.word_rows.specs.Rows.{Row}
use Rattle.word_rows.specs.Tree.{mask_of}
use Rattle.rvv_decode.specs.Layouts.{Layout, Kind}
use Rattle.rvv_decode.specs.declared.instruction.VOp.{VOp}
use Rattle.rvv_decode.specs.declared.instruction.Form.{Form}
use Rattle.rvv_decode.specs.declared.instruction.Form.TheVariants.{V, X, I}

-- a field of a word, and the value that it must have
pub record Fixed : Type 0 where
  pub low : ℕ
  pub width : ℕ
  pub value : ℕ

abbrev pub opcode_is : ℕ → Fixed
opcode_is n = record { low = 0; width = 7; value = n }

-- bits 14:12, which are also the width of a memory word
abbrev pub funct3_is : ℕ → Fixed
funct3_is n = record { low = 12; width = 3; value = n }

abbrev pub vs1_is : ℕ → Fixed
vs1_is n = record { low = 15; width = 5; value = n }

abbrev pub vs2_is : ℕ → Fixed
vs2_is n = record { low = 20; width = 5; value = n }

abbrev pub vm_is : ℕ → Fixed
vm_is n = record { low = 25; width = 1; value = n }

abbrev pub funct6_is : ℕ → Fixed
funct6_is n = record { low = 26; width = 6; value = n }

-- the addressing mode of a memory word
abbrev pub mop_is : ℕ → Fixed
mop_is n = record { low = 26; width = 2; value = n }

-- the extended width of a memory word
abbrev pub mew_is : ℕ → Fixed
mew_is n = record { low = 28; width = 1; value = n }

-- one less than the number of fields or registers of a memory word
abbrev pub nf_is : ℕ → Fixed
nf_is n = record { low = 29; width = 3; value = n }

-- the bits of all these fields
abbrev pub mask_of_all : List Fixed → ℕ
mask_of_all [] = 0
mask_of_all (f ∷ fs) = mask_of f.low f.width + mask_of_all fs

-- the bits of these fields that are 1
abbrev pub value_of_all : List Fixed → ℕ
value_of_all [] = 0
value_of_all (f ∷ fs) = f.value * 2 ^ f.low + value_of_all fs

-- the row of the words with these fields
abbrev pub row : List Fixed → VOp → Layout → Row Kind
row fields op layout = record { mask = mask_of_all fields; value = value_of_all fields; kind = (op, layout) }

-- the opcode of arithmetic and of configuration
abbrev pub op_v : ℕ
op_v = 0b1010111

-- forms of an instruction: vector, scalar, immediate
abbrev pub vxi : List Form
vxi = V ∷ X ∷ I ∷ []

abbrev pub vx : List Form
vx = V ∷ X ∷ []

abbrev pub xi : List Form
xi = X ∷ I ∷ []

abbrev pub v_only : List Form
v_only = V ∷ []

abbrev pub x_only : List Form
x_only = X ∷ []

abbrev pub i_only : List Form
i_only = I ∷ []
