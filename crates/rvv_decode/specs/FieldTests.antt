-- The order in which the decoder tests the fields of a word, and the row that each of its functions finds.
use Rattle.std.specs.Prelude.{ℕ, ◌*◌, ◌^◌, ◌==◌, if◌then◌else◌, List, [], ◌∷◌, map, Option, Some, None}
use Rattle.word_rows.specs.Field.{field}
use Rattle.word_rows.specs.Rows.{Row}
use Rattle.word_rows.specs.Tree.{Tree, leaf, walk, with_field, without_field, mask_of, cases, values, test}
use Rattle.rvv_decode.specs.Layouts.{Kind}
use Rattle.rvv_decode.specs.Shapes.{op_v}
use Rattle.rvv_decode.specs.OpiRows.{opi_rows, opi_funct3}
use Rattle.rvv_decode.specs.OpmRows.{opm_rows, opm_funct3}
use Rattle.rvv_decode.specs.ConfigRows.{config_rows}
use Rattle.rvv_decode.specs.MemoryRows.{load_rows, store_rows, load_fp, store_fp, width_of}
use Rattle.rvv_decode.specs.declared.instruction.Form.{Form}
use Rattle.rvv_decode.specs.declared.instruction.Form.TheVariants.{V, X, I}

-- the rows that a word may fit which has this value in a field, or has not
abbrev pub having : ℕ → ℕ → ℕ → List (Row Kind) → List (Row Kind)
having low width value rows = with_field (mask_of low width) (value * 2 ^ low) rows

abbrev pub lacking : ℕ → ℕ → ℕ → List (Row Kind) → List (Row Kind)
lacking low width value rows = without_field (mask_of low width) (value * 2 ^ low) rows

-- what the tests find in these rows
abbrev pub found : Tree → List (Row Kind) → ℕ → Option Kind
found tests rows word = walk tests 0 0 rows word

-- tests of vm
abbrev pub masked : Tree
masked = values 25 1 (0 ∷ []) leaf

abbrev pub unmasked : Tree → Tree
unmasked next = cases 25 1 ((1, next) ∷ []) leaf

-- the rows that have none of these values in funct6
abbrev pub others : List (ℕ × Tree) → List (Row Kind) → List (Row Kind)
others [] rows = rows
others (c ∷ cs) rows = others cs (lacking 26 6 c.0 rows)

-- tests of funct6: some values ask for further tests, and the other rows are told apart by funct6 alone
abbrev pub by_funct6 : List (ℕ × Tree) → List (Row Kind) → Tree
by_funct6 special rows = cases 26 6 special (values 26 6 (map (λ r. field 26 6 r.value) (others special rows)) leaf)

-- OPIVV, OPIVX and OPIVI words: the rows of a form, and of a form and bit 31
abbrev pub opi_of : Form → List (Row Kind)
opi_of form = having 12 3 (opi_funct3 form) opi_rows

abbrev pub opi_low : Form → List (Row Kind)
opi_low form = having 31 1 0 (opi_of form)

abbrev pub opi_high : Form → List (Row Kind)
opi_high form = lacking 31 1 0 (opi_of form)

-- a merge is masked; a move is not, and has no vs2
abbrev pub merge_or_move : Tree
merge_or_move = cases 25 1 ((0, leaf) ∷ (1, values 20 5 (0 ∷ []) leaf) ∷ []) leaf

abbrev pub opi_low_tests : Form → Tree
opi_low_tests form = by_funct6 ((0b010000, masked) ∷ (0b010010, masked) ∷ (0b010111, merge_or_move) ∷ []) (opi_low form)

-- whole moves in place of vsmul
abbrev pub opi_high_tests : Form → Tree
opi_high_tests I = by_funct6 ((0b100111, unmasked (values 15 5 (0 ∷ 1 ∷ 3 ∷ 7 ∷ []) leaf)) ∷ []) (opi_high I)
opi_high_tests form = by_funct6 [] (opi_high form)

abbrev pub opi_tests : Form → Tree
opi_tests form = test 31 1 0 (opi_low_tests form) (opi_high_tests form)

unfoldable pub opi_low_found : Form → ℕ → Option Kind
opi_low_found form word = found (opi_low_tests form) (opi_low form) word

unfoldable pub opi_high_found : Form → ℕ → Option Kind
opi_high_found form word = found (opi_high_tests form) (opi_high form) word

unfoldable pub opi_found : Form → ℕ → Option Kind
opi_found form word = if field 31 1 word == 0 then opi_low_found form word else opi_high_found form word

-- OPMVV and OPMVX words: the rows of a form, and of a form and bit 31
abbrev pub opm_of : Form → List (Row Kind)
opm_of form = having 12 3 (opm_funct3 form) opm_rows

abbrev pub opm_low : Form → List (Row Kind)
opm_low form = having 31 1 0 (opm_of form)

abbrev pub opm_high : Form → List (Row Kind)
opm_high form = lacking 31 1 0 (opm_of form)

-- three values of funct6 in OPMVV words stand for groups, which vs1 tells apart
abbrev pub vwxunary0_tests : Tree
vwxunary0_tests = cases 15 5 ((0b00000, unmasked leaf) ∷ (0b10000, leaf) ∷ (0b10001, leaf) ∷ []) leaf

abbrev pub vxunary0_tests : Tree
vxunary0_tests = values 15 5 (0b00100 ∷ 0b00101 ∷ 0b00110 ∷ 0b00111 ∷ []) leaf

abbrev pub vmunary0_tests : Tree
vmunary0_tests = cases 15 5 ((0b10001, values 20 5 (0 ∷ []) leaf) ∷ []) (values 15 5 (0b00001 ∷ 0b00010 ∷ 0b00011 ∷ 0b10000 ∷ []) leaf)

abbrev pub groups : List (ℕ × Tree)
groups = (0b010000, vwxunary0_tests) ∷ (0b010010, vxunary0_tests) ∷ (0b010100, vmunary0_tests) ∷ []

unfoldable pub vwxunary0_found : ℕ → Option Kind
vwxunary0_found word = found vwxunary0_tests (having 26 6 0b010000 (opm_of V)) word

unfoldable pub vxunary0_found : ℕ → Option Kind
vxunary0_found word = found vxunary0_tests (having 26 6 0b010010 (opm_of V)) word

unfoldable pub vmunary0_found : ℕ → Option Kind
vmunary0_found word = found vmunary0_tests (having 26 6 0b010100 (opm_of V)) word

-- the other words: vcompress and the mask logic are unmasked, and so is the one move of a scalar, which has no vs2
abbrev pub opm_low_tests : Form → Tree
opm_low_tests V =
    by_funct6
    (map (λ n. (n, unmasked leaf)) (0b010111 ∷ 0b011000 ∷ 0b011001 ∷ 0b011010 ∷ 0b011011 ∷ 0b011100 ∷ 0b011101 ∷ 0b011110 ∷ 0b011111 ∷ []))
    (others groups (opm_low V))
opm_low_tests form = by_funct6 ((0b010000, unmasked (values 20 5 (0 ∷ []) leaf)) ∷ []) (opm_low form)

abbrev pub opm_high_tests : Form → Tree
opm_high_tests form = by_funct6 [] (opm_high form)

abbrev pub opm_tests : Form → Tree
opm_tests V = test 31 1 0 (cases 26 6 groups (opm_low_tests V)) (opm_high_tests V)
opm_tests form = test 31 1 0 (opm_low_tests form) (opm_high_tests form)

unfoldable pub opm_low_found : Form → ℕ → Option Kind
opm_low_found V word =
    if field 26 6 word == 0b010000 then vwxunary0_found word
    else (if field 26 6 word == 0b010010 then vxunary0_found word
    else (if field 26 6 word == 0b010100 then vmunary0_found word else found (opm_low_tests V) (others groups (opm_low V)) word))
opm_low_found form word = found (opm_low_tests form) (opm_low form) word

unfoldable pub opm_high_found : Form → ℕ → Option Kind
opm_high_found form word = found (opm_high_tests form) (opm_high form) word

unfoldable pub opm_found : Form → ℕ → Option Kind
opm_found form word = if field 31 1 word == 0 then opm_low_found form word else opm_high_found form word

-- configuration words: their highest bits
abbrev pub config_tests : Tree
config_tests = cases 31 1 ((0, leaf) ∷ []) (cases 30 2 ((0b11, leaf) ∷ []) (values 25 7 (0b1000000 ∷ []) leaf))

unfoldable pub config_found : ℕ → Option Kind
config_found word = found config_tests config_rows word

-- words of that opcode: funct3
abbrev pub op_v_tests : Tree
op_v_tests = cases 12 3 (
    (0b000, opi_tests V)
    ∷ (0b010, opm_tests V)
    ∷ (0b011, opi_tests I)
    ∷ (0b100, opi_tests X)
    ∷ (0b110, opm_tests X)
    ∷ (0b111, config_tests)
    ∷ []) leaf

unfoldable pub op_v_found : ℕ → Option Kind
op_v_found word =
    if field 12 3 word == 0b000 then opi_found V word
    else (if field 12 3 word == 0b010 then opm_found V word
    else (if field 12 3 word == 0b011 then opi_found I word
    else (if field 12 3 word == 0b100 then opi_found X word
    else (if field 12 3 word == 0b110 then opm_found X word
    else (if field 12 3 word == 0b111 then config_found word else None)))))

-- the element width in bits that a memory word names by bit 28 and bits 14:12
abbrev pub element_width : ℕ → Option ℕ
element_width word =
    if field 28 1 word == 0
    then (if field 12 3 word == 0b000 then Some 8
    else (if field 12 3 word == 0b101 then Some 16 else (if field 12 3 word == 0b110 then Some 32 else None)))
    else None

-- memory words of a width: the addressing mode, and then, at a unit stride, what stands in the place of a register
abbrev pub mode_tests : List (ℕ × Tree) → Tree
mode_tests units = cases 26 2 ((0b00, cases 20 5 ((0b00000, leaf) ∷ units) leaf) ∷ (0b01, leaf) ∷ (0b10, leaf) ∷ (0b11, leaf) ∷ []) leaf

abbrev pub whole_test : ℕ × Tree
whole_test = (0b01000, unmasked (values 29 3 (0 ∷ 1 ∷ 3 ∷ 7 ∷ []) leaf))

abbrev pub mask_test : ℕ × Tree
mask_test = (0b01011, unmasked (values 29 3 (0 ∷ []) leaf))

abbrev pub load_mode_tests : ℕ → Tree
load_mode_tests eew =
    if eew == 8 then mode_tests (whole_test ∷ mask_test ∷ (0b10000, leaf) ∷ []) else mode_tests (whole_test ∷ (0b10000, leaf) ∷ [])

abbrev pub store_mode_tests : ℕ → Tree
store_mode_tests eew = if eew == 8 then mode_tests (whole_test ∷ mask_test ∷ []) else mode_tests []

unfoldable pub load_mode_found : ℕ → ℕ → Option Kind
load_mode_found eew word = found (load_mode_tests eew) (having 12 3 (width_of eew) load_rows) word

unfoldable pub store_mode_found : ℕ → ℕ → Option Kind
store_mode_found eew word = found (store_mode_tests eew) (having 12 3 (width_of eew) store_rows) word

-- memory words: bit 28, and then the width
abbrev pub width_tests : (ℕ → Tree) → Tree
width_tests next = cases 28 1 ((0, cases 12 3 ((0b000, next 8) ∷ (0b101, next 16) ∷ (0b110, next 32) ∷ []) leaf) ∷ []) leaf

abbrev pub found_by_width : (ℕ → ℕ → Option Kind) → ℕ → Option Kind
found_by_width next word =
    if field 28 1 word == 0
    then (if field 12 3 word == 0b000 then next 8 word
    else (if field 12 3 word == 0b101 then next 16 word else (if field 12 3 word == 0b110 then next 32 word else None)))
    else None

unfoldable pub load_found : ℕ → Option Kind
load_found word = found_by_width load_mode_found word

unfoldable pub store_found : ℕ → Option Kind
store_found word = found_by_width store_mode_found word

-- all words: the opcode
abbrev pub tests : Tree
tests = cases 0 7 ((op_v, op_v_tests) ∷ (load_fp, width_tests load_mode_tests) ∷ (store_fp, width_tests store_mode_tests) ∷ []) leaf

unfoldable pub row_found : ℕ → Option Kind
row_found word =
    if field 0 7 word == op_v then op_v_found word
    else (if field 0 7 word == load_fp then load_found word else (if field 0 7 word == store_fp then store_found word else None))
