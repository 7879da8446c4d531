use Rattle.std.proofs.Common.{sym, ◌∙◌, arith, map, string_bytes}
use Rattle.command_words.proofs.GrammarLemmas.{map_front, session_named, session_so}
use Rattle.command_words.proofs.words.session_of.Goals as goal

pub returns-in_ok-options_after-clause-session : goal.returns-in_ok-options_after-clause-session
returns-in_ok-options_after-clause-session c =
    let front = map_front string_bytes c.args.words.now c.image-item.result (omega arith) c.image-item.is in
    let is = rw c.as_str.ensures.value at (sym c.names_file.ensures ∙ c.if-names_file.true) in
    rw front (session_named _ c.in_ok-options_after.field-0 (string_bytes c.image-item.result) _ is c.in_ok-options_after.ensures c.debug_with.ensures)

pub returns-in_ok-options_after-clause-ranges : goal.returns-in_ok-options_after-clause-ranges
returns-in_ok-options_after-clause-ranges c = session_so _ (map string_bytes c.args.words.now) (returns-in_ok-options_after-clause-session c)
