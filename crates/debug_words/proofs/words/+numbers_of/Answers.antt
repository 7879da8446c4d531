use Rattle.std.proofs.Common.{sym, ◌∙◌, arith}
use Rattle.debug_words.proofs.Pieces.{none_after, skipped, refused, too_many, added}
use Rattle.debug_words.proofs.words.+numbers_of.Goals as goal

pub returns-in_default : goal.returns-in_default
returns-in_default t c = sym (none_after c.args.given c.args.bytes.now (omega arith))

pub returns-then-is_gap : goal.returns-then-is_gap
returns-then-is_gap t c =
    c.numbers_of.ensures ∙ skipped c.args.given c.args.bytes.now c.piece_len-len.result c.in-len1-up.len_at_least c.piece_len-len.ensures.piece (sym c.is_gap.ensures ∙ c.if-is_gap.true)

pub returns-in_err-number : goal.returns-in_err-number
returns-in_err-number t c =
    c.from_residual.ensures ∙ refused c.args.given c.args.bytes.now c.piece_len-len.result c.in-len1-up.len_at_least c.piece_len-len.ensures.piece (sym c.is_gap.ensures ∙ c.if-is_gap.false) c.in_err-number.ensures

pub returns-in_err-with : goal.returns-in_err-with
returns-in_err-with t c =
    c.from_residual-in_err-with.ensures
    ∙ too_many c.args.given c.args.bytes.now c.piece_len-len.result c.in-len1-up.len_at_least c.piece_len-len.ensures.piece c.in_ok-number.number (sym c.is_gap.ensures ∙ c.if-is_gap.false) c.in_ok-number.ensures c.in_err-with.ensures

pub returns : goal.returns
returns t c =
    c.numbers_of-2.ensures
    ∙ added c.args.given c.args.bytes.now c.piece_len-len.result c.in-len1-up.len_at_least c.piece_len-len.ensures.piece c.in_ok-number.number c.in_ok-with.field-0 (sym c.is_gap.ensures ∙ c.if-is_gap.false) c.in_ok-number.ensures c.in_ok-with.ensures
