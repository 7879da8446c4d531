-- Where the operands of an instruction stand in its word.
use Rattle.std.specs.Prelude.{ℕ, ◌+◌, ◌==◌, false, Option}
use Rattle.std.specs.Option.{option_map}
use Rattle.word_rows.specs.Field.{field}
use Rattle.rvv_decode.specs.declared.instruction.VInstr.{VInstr}
use Rattle.rvv_decode.specs.declared.instruction.VOp.{VOp}
use Rattle.rvv_decode.specs.declared.instruction.VOp.TheVariants.{Opi, Opm, Memory}
use Rattle.rvv_decode.specs.declared.instruction.OpiOp.{OpiOp}
use Rattle.rvv_decode.specs.declared.instruction.OpmOp.{OpmOp}
use Rattle.rvv_decode.specs.declared.instruction.MemoryOp.{MemoryOp}
use Rattle.rvv_decode.specs.declared.instruction.Form.{Form}
use Rattle.rvv_decode.specs.declared.instruction.Form.TheVariants.{V}

-- arithmetic words of a form, memory words of an element width in bits, and words that set the configuration: with the
-- vector type as an immediate, with both the length and the type as immediates, with both in registers
pub data Layout : Type 0 where
  arithmetic : Form → Layout
  memory : ℕ → Layout
  immediate_type : Layout
  both_immediate : Layout
  both_registers : Layout

-- what a row of the table says of a word: its operation, and where its operands stand
abbrev pub Kind : Type 0
Kind = VOp × Layout

abbrev pub opi_kind : Form → OpiOp → Kind
opi_kind form op = (Opi op, arithmetic form)

abbrev pub opm_kind : Form → OpmOp → Kind
opm_kind form op = (Opm op, arithmetic form)

abbrev pub memory_kind : ℕ → MemoryOp → Kind
memory_kind eew op = (Memory op, memory eew)

-- the instruction of a configuration word with this in the places of vs2 and of the immediate type
abbrev pub setting : VOp → ℕ → ℕ → ℕ → VInstr
setting op vs2 zimm word = record { op = op; form = V; vd = field 7 5 word; vs1 = field 15 5 word; vs2 = vs2; vm = false; nf = 0; eew = 0; zimm = zimm }

-- the instruction of a word with this layout and operation
abbrev pub instruction : Layout → VOp → ℕ → VInstr
instruction (arithmetic form) op word = record { op = op; form = form; vd = field 7 5 word; vs1 = field 15 5 word; vs2 = field 20 5 word; vm = field 25 1 word == 1; nf = 0; eew = 0; zimm = 0 }
instruction (memory eew) op word = record { op = op; form = V; vd = field 7 5 word; vs1 = field 15 5 word; vs2 = field 20 5 word; vm = field 25 1 word == 1; nf = field 29 3 word + 1; eew = eew; zimm = 0 }
instruction immediate_type op word = setting op 0 (field 20 11 word) word
instruction both_immediate op word = setting op 0 (field 20 10 word) word
instruction both_registers op word = setting op (field 20 5 word) 0 word

-- the instruction of a word whose row is found, or none
abbrev pub instruction_of : Option Kind → ℕ → Option VInstr
instruction_of kind word = option_map (λ k. instruction k.1 k.0 word) kind
