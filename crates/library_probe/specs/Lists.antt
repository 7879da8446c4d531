-- The list of a kind.
use Rattle.std.specs.Prelude.{ℕ, false, List}
use Rattle.micro_ir.specs.declared.op.MicroOp.{MicroOp}
use Rattle.micro_ir.specs.declared.place.Place.{Place}
use Rattle.micro_ir.specs.Steps.{Step, micros}
use Rattle.gen_arith.specs.Recipes.{sum_steps, add, sub, adc, sbc, truth_steps, madc, madc_in, msbc, msbc_in, eq, ne, ltu, lt, leu, le, gtu, gt, choice_steps, first_on, second_on}
use Rattle.gen_logic.specs.Recipes.{logic_steps}
use Rattle.gen_logic.specs.declared.kinds.Logic.TheVariants.{And as LogicAnd, Or as LogicOr, Xor as LogicXor, Nand as LogicNand, Nor as LogicNor, Xnor as LogicXnor, Andn as LogicAndn, Orn as LogicOrn, Second as LogicSecond, Merge as LogicMerge}
use Rattle.gen_shift.specs.Lists.{shifting, shift_steps, extension}
use Rattle.gen_shift.specs.declared.kinds.Shift.TheVariants.{Sll as ShiftSll, Srl as ShiftSrl, Sra as ShiftSra}
use Rattle.gen_mul.specs.Lists.{product_steps}
use Rattle.gen_mul.specs.declared.kinds.Product.TheVariants.{Mul as ProductMul, Mulhu as ProductMulhu, Mulhsu as ProductMulhsu, Mulh as ProductMulh, Macc as ProductMacc, Nmsac as ProductNmsac}
use Rattle.gen_div.specs.Lists.{division_steps}
use Rattle.gen_div.specs.declared.kinds.Division.TheVariants.{Divu as DivisionDivu, Remu as DivisionRemu, Div as DivisionDiv, Rem as DivisionRem}
use Rattle.library_probe.specs.declared.kinds.Size.{Size}
use Rattle.library_probe.specs.declared.kinds.Size.TheVariants.{Byte, Half, Word}
use Rattle.library_probe.specs.declared.kinds.Bitwise.{Bitwise}
use Rattle.library_probe.specs.declared.kinds.Bitwise.TheVariants.{And, Or, Xor, Nand, Nor, Xnor, Andn, Orn, Move, Merge}
use Rattle.library_probe.specs.declared.kinds.Added.{Added}
use Rattle.library_probe.specs.declared.kinds.Added.TheVariants.{Add, Sub, Adc, Sbc}
use Rattle.library_probe.specs.declared.kinds.Truth.{Truth}
use Rattle.library_probe.specs.declared.kinds.Truth.TheVariants.{Madc, MadcIn, Msbc, MsbcIn, Eq, Ne, Ltu, Lt, Leu, Le, Gtu, Gt}
use Rattle.library_probe.specs.declared.kinds.Choice.{Choice}
use Rattle.library_probe.specs.declared.kinds.Choice.TheVariants.{Minu, Min, Maxu, Max}
use Rattle.library_probe.specs.declared.kinds.Shifted.{Shifted}
use Rattle.library_probe.specs.declared.kinds.Shifted.TheVariants.{Sll, Srl, Sra, SrlRaw, SraRaw}
use Rattle.library_probe.specs.declared.kinds.Source.{Source}
use Rattle.library_probe.specs.declared.kinds.Source.TheVariants.{Eight, Sixteen}
use Rattle.library_probe.specs.declared.kinds.Multiplied.{Multiplied}
use Rattle.library_probe.specs.declared.kinds.Multiplied.TheVariants.{Mul, Mulhu, Mulhsu, Mulh, Macc, Nmsac}
use Rattle.library_probe.specs.declared.kinds.Divided.{Divided}
use Rattle.library_probe.specs.declared.kinds.Divided.TheVariants.{Divu, Remu, Div, Rem}
use Rattle.library_probe.specs.declared.kinds.Kind.{Kind}
use Rattle.library_probe.specs.declared.kinds.Kind.TheVariants.{Bits, Sum, Tells, Chooses, Shifts, Extends, Multiplies, Divides}

-- the bits of an element
abbrev pub bits_of : Size → ℕ
bits_of Byte = 8
bits_of Half = 16
bits_of Word = 32

-- how often 2 is multiplied to give them
abbrev pub log_of : Size → ℕ
log_of Byte = 3
log_of Half = 4
log_of Word = 5

-- the steps of a kind that acts bit by bit, from the width and the place
abbrev pub bitwise_steps : Bitwise → ℕ → Place → List Step
bitwise_steps And w at = logic_steps LogicAnd w at.a at.b at.to
bitwise_steps Or w at = logic_steps LogicOr w at.a at.b at.to
bitwise_steps Xor w at = logic_steps LogicXor w at.a at.b at.to
bitwise_steps Nand w at = logic_steps LogicNand w at.a at.b at.to
bitwise_steps Nor w at = logic_steps LogicNor w at.a at.b at.to
bitwise_steps Xnor w at = logic_steps LogicXnor w at.a at.b at.to
bitwise_steps Andn w at = logic_steps LogicAndn w at.a at.b at.to
bitwise_steps Orn w at = logic_steps LogicOrn w at.a at.b at.to
bitwise_steps Move w at = logic_steps LogicSecond w at.a at.b at.to
bitwise_steps Merge w at = logic_steps LogicMerge w at.a at.b at.to

-- the steps of a sum or a difference
abbrev pub added_steps : Added → ℕ → Place → List Step
added_steps Add w at = sum_steps add w at.a at.b at.to
added_steps Sub w at = sum_steps sub w at.a at.b at.to
added_steps Adc w at = sum_steps adc w at.a at.b at.to
added_steps Sbc w at = sum_steps sbc w at.a at.b at.to

-- the steps of a carry or a comparison, whose truth goes into no register
abbrev pub told_steps : Truth → ℕ → Place → List Step
told_steps Madc w at = truth_steps madc w at.a at.b
told_steps MadcIn w at = truth_steps madc_in w at.a at.b
told_steps Msbc w at = truth_steps msbc w at.a at.b
told_steps MsbcIn w at = truth_steps msbc_in w at.a at.b
told_steps Eq w at = truth_steps eq w at.a at.b
told_steps Ne w at = truth_steps ne w at.a at.b
told_steps Ltu w at = truth_steps ltu w at.a at.b
told_steps Lt w at = truth_steps lt w at.a at.b
told_steps Leu w at = truth_steps leu w at.a at.b
told_steps Le w at = truth_steps le w at.a at.b
told_steps Gtu w at = truth_steps gtu w at.a at.b
told_steps Gt w at = truth_steps gt w at.a at.b

-- the steps of the lesser or the greater of two
abbrev pub chosen_steps : Choice → ℕ → Place → List Step
chosen_steps Minu w at = choice_steps ltu first_on w at.a at.b at.to
chosen_steps Min w at = choice_steps lt first_on w at.a at.b at.to
chosen_steps Maxu w at = choice_steps ltu second_on w at.a at.b at.to
chosen_steps Max w at = choice_steps lt second_on w at.a at.b at.to

-- the steps of a shift, whose width is 2^l bits
abbrev pub shifted_steps : Shifted → (w l : ℕ) → Place → List Step
shifted_steps Sll w l at = shift_steps ShiftSll w l at.a at.b at.to
shifted_steps Srl w l at = shift_steps ShiftSrl w l at.a at.b at.to
shifted_steps Sra w l at = shift_steps ShiftSra w l at.a at.b at.to
shifted_steps SrlRaw w l at = shifting ShiftSrl false w l at.a at.b
shifted_steps SraRaw w l at = shifting ShiftSra false w l at.a at.b

-- the bits of the numbers that are extended, and the steps of that
abbrev pub source_bits : Source → ℕ
source_bits Eight = 8
source_bits Sixteen = 16

abbrev pub extended_steps : Source → ℕ → Place → List Step
extended_steps source w at = extension (source_bits source) w at.a

-- the steps of a product, and of a quotient or a remainder
abbrev pub multiplied_steps : Multiplied → ℕ → Place → List Step
multiplied_steps Mul w at = product_steps ProductMul w at.a at.b at.addend at.to
multiplied_steps Mulhu w at = product_steps ProductMulhu w at.a at.b at.addend at.to
multiplied_steps Mulhsu w at = product_steps ProductMulhsu w at.a at.b at.addend at.to
multiplied_steps Mulh w at = product_steps ProductMulh w at.a at.b at.addend at.to
multiplied_steps Macc w at = product_steps ProductMacc w at.a at.b at.addend at.to
multiplied_steps Nmsac w at = product_steps ProductNmsac w at.a at.b at.addend at.to

abbrev pub divided_steps : Divided → ℕ → Place → List Step
divided_steps Divu w at = division_steps DivisionDivu w at.a at.b at.to
divided_steps Remu w at = division_steps DivisionRemu w at.a at.b at.to
divided_steps Div w at = division_steps DivisionDiv w at.a at.b at.to
divided_steps Rem w at = division_steps DivisionRem w at.a at.b at.to

-- the steps of any kind
abbrev pub kind_steps : Kind → (w l : ℕ) → Place → List Step
kind_steps (Bits kind) w l at = bitwise_steps kind w at
kind_steps (Sum kind) w l at = added_steps kind w at
kind_steps (Tells kind) w l at = told_steps kind w at
kind_steps (Chooses kind) w l at = chosen_steps kind w at
kind_steps (Shifts kind) w l at = shifted_steps kind w l at
kind_steps (Extends source) w l at = extended_steps source w at
kind_steps (Multiplies kind) w l at = multiplied_steps kind w at
kind_steps (Divides kind) w l at = divided_steps kind w at

-- the micro-operations of a kind
abbrev pub kind_ops : Kind → Size → Place → List MicroOp
kind_ops kind size at = micros (bits_of size) (kind_steps kind (bits_of size) (log_of size) at)
