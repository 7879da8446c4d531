use Rattle.std.proofs.Common.{Some, None, ◌∙◌, arith}
use Rattle.debug_words.proofs.Commands.{empty_line, long_line, unnamed, named}
use Rattle.debug_words.proofs.words.command_of.Goals as goal

pub returns-then-is_empty-clause-command : goal.returns-then-is_empty-clause-command
returns-then-is_empty-clause-command c = empty_line c.args.line.now c.if-is_empty.ensures

pub returns-then-line-gt-LONGEST_LINE-clause-command : goal.returns-then-line-gt-LONGEST_LINE-clause-command
returns-then-line-gt-LONGEST_LINE-clause-command c = long_line c.args.line.now c.if-line-gt-LONGEST_LINE.true

pub returns-in_default-clause-command : goal.returns-in_default-clause-command
returns-in_default-clause-command c = unnamed c.args.line.now c.piece_len-len.result c.piece_len-len.ensures.piece c.if-is_empty.ensures (omega arith) c.in_default.ensures

pub returns-in-Some-numbers_of-clause-command : goal.returns-in-Some-numbers_of-clause-command
returns-in-Some-numbers_of-clause-command c =
    c.unwrap_or.ensures
    ∙ rw c.command_with.ensures (named c.args.line.now c.piece_len-len.result c.piece_len-len.ensures.piece c.in-Some.name (Some c.in-Some-numbers_of.numbers) c.if-is_empty.ensures (omega arith) c.in-Some.ensures c.in-Some-numbers_of.ensures)

pub returns-in-None-clause-command : goal.returns-in-None-clause-command
returns-in-None-clause-command c = named c.args.line.now c.piece_len-len.result c.piece_len-len.ensures.piece c.in-Some.name None c.if-is_empty.ensures (omega arith) c.in-Some.ensures c.in-None.ensures
