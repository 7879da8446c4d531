use Rattle.std.proofs.Common.{◌≡◌, ◌+◌, ◌-◌, ◌*◌, ◌%◌, ◌≤◌, ltb, refl, ◌∙◌, arith}
use Rattle.std.proofs.lemmas.Nat.{mod_below}
use Rattle.bit_rows.proofs.Packed.{zero_words}
use Rattle.std.proofs.lemmas.Bool.{le-ltb}
use Rattle.steer_net.proofs.Parts.{width-fills}
use Rattle.steer_net.proofs.SourceBits.{picked_told, nowhere, reach_bits}
use Rattle.steer_net.proofs.sources.picked_words.Goals as goal

pub returns-then-index-limit : goal.returns-then-index-limit
returns-then-index-limit g c k =
    let s = g.P.Planes.slices c.args.p.now in
    c.write_run.ensures k ∙ rw (c.columns.ensures.value, c.from.ensures, c.from-then-index-limit.ensures, c.from-then-index-limit-2.ensures)
    (picked_told s c.args.base c.args.width c.args.index c.args.limit (c.args.sub % c.args.width) k _ (zero_words 32 0 k refl) c.if-index-limit.true)

pub returns-else-index-limit : goal.returns-else-index-limit
returns-else-index-limit g c k =
    let s = g.P.Planes.slices c.args.p.now in
    let h : c.args.limit ≤ c.args.index = let l = c.if-index-limit.false in omega arith in
    nowhere (ltb k s.columns) (ltb c.args.index c.args.limit) _ _ (zero_words 32 0 k refl) (le-ltb c.args.index c.args.limit h)

pub write_run-requires-clause-rows : goal.write_run-requires-clause-rows
write_run-requires-clause-rows g c k from to =
    let s = g.P.Planes.slices c.args.p.now in
    let w = c.args.width in
    let z : c.args.index * w + c.args.sub % w + (k - 0) * 0 ≡ c.args.index * w + c.args.sub % w = omega arith in
    rw (c.from.ensures, c.from-then-index-limit.ensures, c.from-then-index-limit-2.ensures, z)
    (reach_bits w s.columns c.args.base c.args.limit c.args.index (c.args.sub % w) c.requires.width c.requires.reach c.if-index-limit.true (mod_below c.args.sub w (width-fills w c.requires.width).0))
