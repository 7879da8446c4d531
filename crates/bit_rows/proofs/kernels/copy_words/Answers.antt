use Rattle.std.proofs.Common.{◌∙◌, sym, arith}
use Rattle.bit_rows.proofs.Words.{one_word}
use Rattle.bit_rows.proofs.kernels.copy_words.Goals as goal

pub returns-then-into-eq1 : goal.returns-then-into-eq1
returns-then-into-eq1 c = one_word c.args.into.now c.args.from.now (omega arith) (omega arith)
