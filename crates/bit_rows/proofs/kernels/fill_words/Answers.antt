use Rattle.std.proofs.Common.{◌≡◌, length, replicate, ap, ◌∙◌, sym, arith}
use Rattle.bit_rows.proofs.Words.{one_word_of}
use Rattle.bit_rows.proofs.kernels.fill_words.Goals as goal

pub returns-then-words-eq1 : goal.returns-then-words-eq1
returns-then-words-eq1 c = one_word_of c.args.words.now c.args.word (omega arith)
