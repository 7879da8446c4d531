-- The lines that a command writes at its end.
use Rattle.std.specs.Prelude.{ℕ, List, ◌++◌, codes}
use Rattle.std.specs.Fmt.{decimal}
use Rattle.elf_load.specs.declared.faults.LoadFault.{LoadFault}
use Rattle.elf_load.specs.Names.{number_of, name_of}
use Rattle.bit_laws.specs.Digits.{hex_word}
use Rattle.rvv_meaning.specs.Texts.{newline}
use Rattle.machine.specs.declared.answers.Step.{Step}
use Rattle.machine.specs.declared.answers.Step.TheVariants.{Ran, Exited, Trapped}

-- the line about an answer of the machine
abbrev pub line_of : Step → ℕ → List ℕ
line_of (Exited c) n = codes "cape: exited " ++ decimal c ++ codes " after " ++ decimal n ++ newline
line_of (Trapped t) n = codes "cape: trap " ++ decimal t.cause ++ codes " at " ++ hex_word t.pc ++ codes " value " ++ hex_word t.value ++ codes " after " ++ decimal n ++ newline
line_of Ran n = codes "cape: step limit after " ++ decimal n ++ newline

-- the line about an image that is refused
abbrev pub refused_line : LoadFault → List ℕ
refused_line f = codes "cape: refused " ++ decimal (number_of f) ++ codes " " ++ name_of f ++ newline
