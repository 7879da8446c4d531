use Rattle.std.proofs.Common.{sym, ap, ◌∙◌}
use Rattle.command_words.specs.Grammar.{legal}
use Rattle.command_words.proofs.GrammarLemmas.{vlen_of_number, legal_yes, legal_no}
use Rattle.command_words.proofs.words.vlen_of.Goals as goal

pub returns-in_err-vlen : goal.returns-in_err-vlen
returns-in_err-vlen c = c.from_residual.ensures ∙ ap legal c.in_err-vlen.ensures.value ∙ sym (vlen_of_number c.args.word.now)

pub returns-then-is_legal_vlen : goal.returns-then-is_legal_vlen
returns-then-is_legal_vlen c =
    sym (legal_yes _ (sym c.is_legal_vlen.ensures ∙ c.if-is_legal_vlen.true)) ∙ ap legal c.in_ok-vlen.ensures.value ∙ sym (vlen_of_number c.args.word.now)

pub returns-else-is_legal_vlen : goal.returns-else-is_legal_vlen
returns-else-is_legal_vlen c =
    sym (legal_no _ (sym c.is_legal_vlen.ensures ∙ c.if-is_legal_vlen.false)) ∙ ap legal c.in_ok-vlen.ensures.value ∙ sym (vlen_of_number c.args.word.now)
