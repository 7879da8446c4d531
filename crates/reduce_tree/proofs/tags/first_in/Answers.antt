use Rattle.std.proofs.Common.{◌<◌, arith}
use Rattle.reduce_tree.proofs.FirstTags.{word_first, word_none, col_few}
use Rattle.reduce_tree.proofs.tags.first_in.Goals as goal

pub overflow_mul-result : goal.overflow_mul-result
overflow_mul-result g c =
    let l : c.in-Some.col < 2048 = col_few c.tag_words.result.now c.in-Some.col c.tag_words.ensures.few c.in-Some.ensures.set in omega arith

pub overflow_add-result : goal.overflow_add-result
overflow_add-result g c =
    let l : c.in-Some.col < 2048 = col_few c.tag_words.result.now c.in-Some.col c.tag_words.ensures.few c.in-Some.ensures.set in omega arith

pub returns-in-Some : goal.returns-in-Some
returns-in-Some g c = word_first (g.P.Planes.slices c.args.p.now) c.args.sub c.in-Some.col c.tag_words.result.now c.requires c.tag_words.ensures.bits c.tag_words.ensures.past c.in-Some.ensures.set c.in-Some.ensures.first

pub returns-in-None : goal.returns-in-None
returns-in-None g c = word_none (g.P.Planes.slices c.args.p.now) c.args.sub c.tag_words.result.now c.tag_words.ensures.bits c.in-None.ensures.none
