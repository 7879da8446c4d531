-- The names of widths and of kinds.
use Rattle.std.specs.Prelude.{ℕ, List, Option, Some, None, codes, if◌then◌else◌, option_map}
use Rattle.std.specs.Str.{bytes_eq}
use Rattle.library_probe.specs.declared.kinds.Size.{Size}
use Rattle.library_probe.specs.declared.kinds.Size.TheVariants.{Byte, Half, Word}
use Rattle.library_probe.specs.declared.kinds.Bitwise.{Bitwise}
use Rattle.library_probe.specs.declared.kinds.Bitwise.TheVariants.{And, Or, Xor, Nand, Nor, Xnor, Andn, Orn, Move, Merge}
use Rattle.library_probe.specs.declared.kinds.Added.{Added}
use Rattle.library_probe.specs.declared.kinds.Added.TheVariants.{Add, Sub, Adc, Sbc}
use Rattle.library_probe.specs.declared.kinds.Truth.{Truth}
use Rattle.library_probe.specs.declared.kinds.Truth.TheVariants.{Madc, MadcIn, Msbc, MsbcIn, Eq, Ne, Ltu, Lt, Leu, Le, Gtu, Gt}
use Rattle.library_probe.specs.declared.kinds.Choice.{Choice}
use Rattle.library_probe.specs.declared.kinds.Choice.TheVariants.{Minu, Min, Maxu, Max}
use Rattle.library_probe.specs.declared.kinds.Shifted.{Shifted}
use Rattle.library_probe.specs.declared.kinds.Shifted.TheVariants.{Sll, Srl, Sra, SrlRaw, SraRaw}
use Rattle.library_probe.specs.declared.kinds.Source.{Source}
use Rattle.library_probe.specs.declared.kinds.Source.TheVariants.{Eight, Sixteen}
use Rattle.library_probe.specs.declared.kinds.Multiplied.{Multiplied}
use Rattle.library_probe.specs.declared.kinds.Multiplied.TheVariants.{Mul, Mulhu, Mulhsu, Mulh, Macc, Nmsac}
use Rattle.library_probe.specs.declared.kinds.Divided.{Divided}
use Rattle.library_probe.specs.declared.kinds.Divided.TheVariants.{Divu, Remu, Div, Rem}
use Rattle.library_probe.specs.declared.kinds.Kind.{Kind}
use Rattle.library_probe.specs.declared.kinds.Kind.TheVariants.{Bits, Sum, Tells, Chooses, Shifts, Extends, Multiplies, Divides}

-- the widths, in bits
abbrev pub size_in : List ℕ → Option Size
size_in name =
    if bytes_eq name (codes "8") then Some Byte
    else if bytes_eq name (codes "16") then Some Half
    else if bytes_eq name (codes "32") then Some Word
    else None

-- the kinds that act bit by bit
abbrev pub bitwise_in : List ℕ → Option Bitwise
bitwise_in name =
    if bytes_eq name (codes "and") then Some And
    else if bytes_eq name (codes "or") then Some Or
    else if bytes_eq name (codes "xor") then Some Xor
    else if bytes_eq name (codes "nand") then Some Nand
    else if bytes_eq name (codes "nor") then Some Nor
    else if bytes_eq name (codes "xnor") then Some Xnor
    else if bytes_eq name (codes "andn") then Some Andn
    else if bytes_eq name (codes "orn") then Some Orn
    else if bytes_eq name (codes "move") then Some Move
    else if bytes_eq name (codes "merge") then Some Merge
    else None

-- sums and differences, without and with the mask bit
abbrev pub sum_in : List ℕ → Option Added
sum_in name =
    if bytes_eq name (codes "add") then Some Add
    else if bytes_eq name (codes "sub") then Some Sub
    else if bytes_eq name (codes "adc") then Some Adc
    else if bytes_eq name (codes "sbc") then Some Sbc
    else None

-- carries and borrows, without and with the mask bit, and comparisons
abbrev pub truth_in : List ℕ → Option Truth
truth_in name =
    if bytes_eq name (codes "madc") then Some Madc
    else if bytes_eq name (codes "madc_in") then Some MadcIn
    else if bytes_eq name (codes "msbc") then Some Msbc
    else if bytes_eq name (codes "msbc_in") then Some MsbcIn
    else if bytes_eq name (codes "eq") then Some Eq
    else if bytes_eq name (codes "ne") then Some Ne
    else if bytes_eq name (codes "ltu") then Some Ltu
    else if bytes_eq name (codes "lt") then Some Lt
    else if bytes_eq name (codes "leu") then Some Leu
    else if bytes_eq name (codes "le") then Some Le
    else if bytes_eq name (codes "gtu") then Some Gtu
    else if bytes_eq name (codes "gt") then Some Gt
    else None

-- the lesser and the greater of two
abbrev pub choice_in : List ℕ → Option Choice
choice_in name =
    if bytes_eq name (codes "minu") then Some Minu
    else if bytes_eq name (codes "min") then Some Min
    else if bytes_eq name (codes "maxu") then Some Maxu
    else if bytes_eq name (codes "max") then Some Max
    else None

-- shifts, into a register and without a commit
abbrev pub shift_in : List ℕ → Option Shifted
shift_in name =
    if bytes_eq name (codes "sll") then Some Sll
    else if bytes_eq name (codes "srl") then Some Srl
    else if bytes_eq name (codes "sra") then Some Sra
    else if bytes_eq name (codes "srl_raw") then Some SrlRaw
    else if bytes_eq name (codes "sra_raw") then Some SraRaw
    else None

-- extensions of numbers of 8 and of 16 bits by their sign
abbrev pub source_in : List ℕ → Option Source
source_in name =
    if bytes_eq name (codes "sext_8") then Some Eight
    else if bytes_eq name (codes "sext_16") then Some Sixteen
    else None

-- products, their high halves, and multiply-adds
abbrev pub product_in : List ℕ → Option Multiplied
product_in name =
    if bytes_eq name (codes "mul") then Some Mul
    else if bytes_eq name (codes "mulhu") then Some Mulhu
    else if bytes_eq name (codes "mulhsu") then Some Mulhsu
    else if bytes_eq name (codes "mulh") then Some Mulh
    else if bytes_eq name (codes "macc") then Some Macc
    else if bytes_eq name (codes "nmsac") then Some Nmsac
    else None

-- quotients and remainders
abbrev pub division_in : List ℕ → Option Divided
division_in name =
    if bytes_eq name (codes "divu") then Some Divu
    else if bytes_eq name (codes "remu") then Some Remu
    else if bytes_eq name (codes "div") then Some Div
    else if bytes_eq name (codes "rem") then Some Rem
    else None

-- the first of two, or the second where there is none
abbrev pub first_of : Option Kind → Option Kind → Option Kind
first_of None other = other
first_of (Some kind) other = Some kind

-- all kinds
abbrev pub kind_in : List ℕ → Option Kind
kind_in name =
    first_of (option_map Bits (bitwise_in name))
    (first_of (option_map Sum (sum_in name))
    (first_of (option_map Tells (truth_in name))
    (first_of (option_map Chooses (choice_in name))
    (first_of (option_map Shifts (shift_in name))
    (first_of (option_map Extends (source_in name))
    (first_of (option_map Multiplies (product_in name)) (option_map Divides (division_in name))))))))
