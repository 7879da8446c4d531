use Rattle.std.proofs.Common.{◌∙◌, ap, sym, false, arith}
use Rattle.std.proofs.lemmas.List.{get_or_past}
use Rattle.bit_rows.specs.Words.{words_for}
use Rattle.cam_chain.proofs.SlicesLemmas.{columns-slices_of}
use Rattle.cam_chain.proofs.chain.ChainPlanes.tag_words.Goals as goal

pub returns-clause-len : goal.returns-clause-len
returns-clause-len c = c.words.ensures.len ∙ ap words_for (c.tags.ensures.len ∙ sym (columns-slices_of c.args.self.now))

pub returns-clause-bits : goal.returns-clause-bits
returns-clause-bits c k l = c.words.ensures.bits k ∙ c.tags.ensures.bits k (omega (arith, columns-slices_of c.args.self.now))

pub returns-clause-past : goal.returns-clause-past
returns-clause-past c k l = c.words.ensures.bits k ∙ get_or_past c.tags.result.now k false (omega (arith, columns-slices_of c.args.self.now, c.tags.ensures.len))
