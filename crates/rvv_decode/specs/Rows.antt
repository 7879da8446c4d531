-- The table of all vector words, and what a word means.
use Rattle.std.specs.Prelude.{ℕ, ◌^◌, ◌<◌, ◌≡◌, List, ◌++◌, Option, Some}
use Rattle.word_rows.specs.Rows.{Row, look_up}
use Rattle.rvv_decode.specs.Layouts.{Kind, instruction_of}
use Rattle.rvv_decode.specs.OpiRows.{opi_rows}
use Rattle.rvv_decode.specs.OpmRows.{opm_rows}
use Rattle.rvv_decode.specs.ConfigRows.{config_rows}
use Rattle.rvv_decode.specs.MemoryRows.{load_rows, store_rows}
use Rattle.rvv_decode.specs.declared.instruction.VInstr.{VInstr}

unfoldable pub rows : List (Row Kind)
rows = opi_rows ++ opm_rows ++ config_rows ++ load_rows ++ store_rows

-- the instruction of the row that the word fits, or none where it fits no row
unfoldable pub means : ℕ → Option VInstr
means word = instruction_of (look_up rows word) word

-- some word means the instruction
pub record HasWord (i : VInstr) : Type 0 where
  pub word : ℕ
  pub fits : word < 2 ^ 32
  pub meant : means word ≡ Some i
