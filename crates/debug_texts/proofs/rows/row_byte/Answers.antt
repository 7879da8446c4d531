use Rattle.debug_texts.specs.ShownTexts.{bits_of}
use Rattle.debug_texts.proofs.RowLemmas.{byte_of_words}
use Rattle.debug_texts.proofs.rows.row_byte.Goals as goal

pub returns : goal.returns
returns c = byte_of_words c.words.result.now (bits_of c.args.row.now) c.args.j c.words.ensures.bits
