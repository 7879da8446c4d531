use Rattle.std.proofs.Common.{◌≡◌, drop}
use Rattle.debug_words.specs.Grammar.{name_among}
use Rattle.debug_words.proofs.words.name_in.Given as goal

-- the word is what it is among the names that are left
abbrev pub invariant-loop-name : goal.invariant-loop-name
invariant-loop-name l = name_among l.word (drop l.name-index l.names) ≡ name_among l.word l.names
