use Rattle.std.proofs.Common.{sym, ◌∙◌}
use Rattle.command_words.proofs.GrammarLemmas.{run_named}
use Rattle.command_words.proofs.words.image_command_named.Goals as goal

pub returns-then-eq : goal.returns-then-eq
returns-then-eq c = run_named _ c.in_ok-options_after.field-0 c.args.word.now _ (sym c.eq.ensures ∙ c.if-eq.true) c.in_ok-options_after.ensures c.run_with.ensures
