use Rattle.std.proofs.Common.{◌≡◌, ◌≤◌, sym, ◌∙◌, ap, arith}
use Rattle.reduce_tree.proofs.Totals.{tags_of, tags_below, tags_all, words_tags, below_more, below_skip, tags_few}
use Rattle.reduce_tree.proofs.tags.count.Goals as goal
use Rattle.reduce_tree.proofs.tags.count.Goals.{then-is_chosen, else-is_chosen}

pub overflow_add-tags : goal.overflow_add-tags
overflow_add-tags g c =
    let s = g.P.Planes.slices c.args.p.now in
    let sub = c.loop-sub.sub in
    let words = c.tag_words.ensures in
    let one : c.count_words-tags.result ≡ tags_of s sub = c.count_words-tags.ensures ∙ words_tags s sub c.tag_words.result.now words.len words.bits words.past in
    let few : tags_of s sub ≤ 2048 = tags_few s sub _ words.len words.few in
    omega (arith, one, few, c.loop-sub.invariant.few)

pub loop-sub-preserved : goal.loop-sub-preserved
loop-sub-preserved g c =
    let s = g.P.Planes.slices c.args.p.now in
    let sub = c.loop-sub.sub in
    let before = c.loop-sub.invariant in
    elim c.if-is_chosen.branch [
      | then-is_chosen w ↦
          let words = w.tag_words.ensures in
          let one : w.count_words-tags.result ≡ tags_of s sub = w.count_words-tags.ensures ∙ words_tags s sub w.tag_words.result.now words.len words.bits words.past in
          let few : tags_of s sub ≤ 2048 = tags_few s sub _ words.len words.few in
          record {
            counted = w.tags-is ∙ below_more c.args.subs s sub c.loop-sub.tags w.count_words-tags.result before.counted (sym c.is_chosen.ensures ∙ w.if-is_chosen.true) one;
            few = omega (arith, w.tags-is, one, few, before.few);
          }
      | else-is_chosen w ↦ record {
        counted = w.tags-is ∙ below_skip c.args.subs s sub c.loop-sub.tags before.counted (sym c.is_chosen.ensures ∙ w.if-is_chosen.false);
        few = omega (arith, w.tags-is, before.few);
      }
    ]

pub returns-clause-value : goal.returns-clause-value
returns-clause-value g c =
    let s = g.P.Planes.slices c.args.p.now in
    let e : c.loop-sub.sub ≡ 32 = omega arith in
    c.loop-sub.invariant.counted ∙ ap (tags_below c.args.subs s) e ∙ sym (tags_all c.args.subs s)
