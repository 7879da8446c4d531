use Rattle.std.proofs.Common.{arith, string_bytes}
use Rattle.std.proofs.lemmas.List.{length-map}
use Rattle.command_words.proofs.GrammarLemmas.{has_input, map_front}
use Rattle.command_words.proofs.words.command_of.Goals as goal

pub returns-clause-input : goal.returns-clause-input
returns-clause-input c =
    let front = map_front string_bytes c.args.words.now c.word-item.result (omega arith) c.word-item.is in
    let named = rw c.as_str.ensures.value at c.command_named.ensures.command in
    rw (← length-map c.args.words.now string_bytes) (has_input _ _ (rw front named))
