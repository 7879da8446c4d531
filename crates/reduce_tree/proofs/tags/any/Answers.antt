use Rattle.std.proofs.Common.{ℕ, ◌<◌, ◌&&◌, refl}
use Rattle.std.proofs.lemmas.Bool.{ltb-true, lt-ltb, and_parts}
use Rattle.reduce_tree.specs.Tags.{places, is_tagged, is_selected, tags_in}
use Rattle.reduce_tree.proofs.Counting.{count_some, some_counted}
use Rattle.reduce_tree.proofs.tags.any.Goals as goal

pub returns-clause-tag : goal.returns-clause-tag
returns-clause-tag g c =
    let s = g.P.Planes.slices c.args.p.now in
    let p = λ (n : ℕ). is_selected c.args.subs n && is_tagged s n in (
      λ t.
          let l : 0 < tags_in c.args.subs s = rw (← c.count.ensures.value) (ltb-true 0 c.count.result t) in
          let k = some_counted p (places s) l in
          let b = and_parts (is_selected c.args.subs k.0) (is_tagged s k.0) k.2 in (k.0, k.1, b.0, b.1),
      λ h. lt-ltb 0 c.count.result (rw c.count.ensures.value (count_some p (places s) h.0 h.1 (rw (h.2, h.3) refl))),
    )

pub returns-clause-counted : goal.returns-clause-counted
returns-clause-counted g c = (
  λ t. rw (← c.count.ensures.value) (ltb-true 0 c.count.result t),
  λ l. lt-ltb 0 c.count.result (rw c.count.ensures.value l),
)
