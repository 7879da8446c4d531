use Rattle.std.proofs.Common.{◌+◌, ◌*◌, ◌/◌, ◌%◌, ◌<◌, ◌≤◌, ltb, refl, ◌∙◌, arith}
use Rattle.std.proofs.lemmas.Bool.{le-ltb}
use Rattle.bit_rows.proofs.Packed.{zero_words}
use Rattle.steer_net.specs.Network.{position}
use Rattle.steer_net.proofs.Parts.{position-lt}
use Rattle.steer_net.proofs.SourceBits.{widened_told, widened_number, widened_reach, nowhere, own_row}
use Rattle.steer_net.proofs.sources.widened_words.Goals as goal

pub returns-then-place-narrow : goal.returns-then-place-narrow
returns-then-place-narrow g c k =
    let s = g.P.Planes.slices c.args.p.now in
    c.write_run.ensures k
    ∙ rw (
      c.from-then-place-narrow-4.ensures,
      c.from.ensures,
      c.columns.ensures.value,
      c.columns-then-place-narrow.ensures.value,
      c.from-elements.ensures,
      c.from-then-place-narrow.ensures,
      c.from-then-place-narrow-2.ensures,
      c.from-then-place-narrow-3.ensures,
      c.from-then-place-narrow-5.ensures,
    )
    (widened_told s c.args.from c.args.narrow c.args.wide c.args.part c.args.sub k _ (zero_words 32 0 k refl) c.requires.wide c.requires.sub c.requires.reads.3 c.if-place-narrow.true)

pub returns-else-place-narrow : goal.returns-else-place-narrow
returns-else-place-narrow g c k =
    let s = g.P.Planes.slices c.args.p.now in
    let h : c.args.narrow ≤ c.args.sub % c.args.wide = let l = c.if-place-narrow.false in omega arith in
    nowhere (ltb k s.columns) (ltb (c.args.sub % c.args.wide) c.args.narrow) _ _ (zero_words 32 0 k refl) (le-ltb (c.args.sub % c.args.wide) c.args.narrow h)

pub write_run-requires-clause-rows : goal.write_run-requires-clause-rows
write_run-requires-clause-rows g c k from to =
    let s = g.P.Planes.slices c.args.p.now in
    let wide = c.args.wide in
    let l : k < s.columns = omega (arith, c.columns-then-place-narrow.ensures.value) in
    rw (
      c.from-then-place-narrow-4.ensures,
      c.from.ensures,
      c.columns.ensures.value,
      c.from-elements.ensures,
      c.from-then-place-narrow.ensures,
      c.from-then-place-narrow-2.ensures,
      c.from-then-place-narrow-3.ensures,
      c.from-then-place-narrow-5.ensures,
      widened_number c.args.narrow s.columns (32 / wide) c.args.part (c.args.sub / wide) (c.args.sub % wide) k,
    )
    (own_row c.args.from s.columns ((c.args.part * (s.columns * (32 / wide)) + position wide c.args.sub k) * c.args.narrow + c.args.sub % wide) c.requires.reads.0
    (widened_reach wide c.args.narrow s.columns c.args.part (position wide c.args.sub k) (c.args.sub % wide) c.requires.wide c.requires.reads.3
    (position-lt wide s.columns c.args.sub k c.requires.wide c.requires.sub l) c.if-place-narrow.true))
