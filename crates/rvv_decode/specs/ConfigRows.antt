-- The rows of the words that set the vector type and length.
use Rattle.std.specs.Prelude.{ℕ, List, [], ◌∷◌}
use Rattle.word_rows.specs.Rows.{Row}
use Rattle.rvv_decode.specs.Layouts.{Kind, immediate_type, both_immediate, both_registers}
use Rattle.rvv_decode.specs.Shapes.{Fixed, opcode_is, funct3_is, row, op_v}
use Rattle.rvv_decode.specs.declared.instruction.VOp.TheVariants.{Config}
use Rattle.rvv_decode.specs.declared.instruction.ConfigOp.TheVariants.{Vsetvli, Vsetivli, Vsetvl}

-- bits 14:12 of configuration words
abbrev pub opcfg : ℕ
opcfg = 0b111

abbrev pub bit_31_is : ℕ → Fixed
bit_31_is n = record { low = 31; width = 1; value = n }

abbrev pub bits_31_30_are : ℕ → Fixed
bits_31_30_are n = record { low = 30; width = 2; value = n }

abbrev pub bits_31_25_are : ℕ → Fixed
bits_31_25_are n = record { low = 25; width = 7; value = n }

unfoldable pub config_rows : List (Row Kind)
config_rows =
    row (bit_31_is 0 ∷ funct3_is opcfg ∷ opcode_is op_v ∷ []) (Config Vsetvli) immediate_type
    ∷ row (bits_31_30_are 0b11 ∷ funct3_is opcfg ∷ opcode_is op_v ∷ []) (Config Vsetivli) both_immediate
    ∷ row (bits_31_25_are 0b1000000 ∷ funct3_is opcfg ∷ opcode_is op_v ∷ []) (Config Vsetvl) both_registers
    ∷ []
