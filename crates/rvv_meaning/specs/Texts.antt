-- The lines that a command ends with.
use Rattle.std.specs.Prelude.{ℕ, List, ◌∷◌, [], ◌++◌, codes}
use Rattle.std.specs.Fmt.{decimal}
use Rattle.bit_laws.specs.Digits.{hex_word}
use Rattle.rvv_meaning.specs.declared.Mode.{Mode}
use Rattle.rvv_meaning.specs.declared.Mode.TheVariants.{Running, Exited, Trapped}
use Rattle.rvv_meaning.specs.States.{State}

abbrev pub newline : List ℕ
newline = 10 ∷ []

-- the line about how a run of n retired instructions ended
abbrev pub report_at : Mode → ℕ → List ℕ
report_at (Exited c) n = codes "cape: exited " ++ decimal c ++ codes " after " ++ decimal n ++ newline
report_at (Trapped t) n = codes "cape: trap " ++ decimal t.cause ++ codes " at " ++ hex_word t.pc ++ codes " value " ++ hex_word t.value ++ codes " after " ++ decimal n ++ newline
report_at Running n = codes "cape: step limit after " ++ decimal n ++ newline

-- the line about a state
abbrev pub report : State → List ℕ
report s = report_at s.core.mode s.core.csrs.retired

abbrev pub usage_line : List ℕ
usage_line = codes "cape: usage" ++ newline
