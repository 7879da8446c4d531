use Rattle.std.proofs.Common.{◌≡◌, ℕ, ◌+◌, ◌-◌, ◌*◌, ◌/◌, ◌%◌, ◌<◌, ◌≤◌, cond, ◌&&◌, ltb, refl, sym, ◌∙◌, arith}
use Rattle.std.proofs.lemmas.Nat.{mod_below}
use Rattle.bit_rows.proofs.Packed.{zero_words}
use Rattle.steer_net.proofs.Parts.{width-fills}
use Rattle.steer_net.proofs.Spans.{less-same}
use Rattle.steer_net.proofs.SourceBits.{slid_all, slid_none, slid_number, reach_bits}
use Rattle.steer_net.proofs.sources.slid_words.Goals as goal

pub returns-then-from-columns : goal.returns-then-from-columns
returns-then-from-columns g c k =
    let s = g.P.Planes.slices c.args.p.now in
    let w = c.args.width in
    let from = c.slide_start-from.result in
    let element = c.slid_element-element.result in
    let start : (i : ℕ) → ltb i from ≡ (c.args.up && ltb (c.args.first + c.args.sub / w + i * (32 / w)) c.args.by) =
    λ i. rw (c.from.ensures, c.from-2.ensures, c.from-lanes.ensures) at (c.slide_start-from.ensures i) in
    let e : element ≡ cond c.args.up (c.args.first + c.args.sub / w + from * (32 / w) - c.args.by) (c.args.first + c.args.sub / w + from * (32 / w) + c.args.by) =
    rw (c.from-then-from-columns.ensures, c.from-then-from-columns-2.ensures, c.from.ensures, c.from-2.ensures, c.from-lanes.ensures) at c.slid_element-element.ensures in
    let told : ltb (k - from) c.count_below.result ≡ ltb (element + (k - from) * (32 / w)) c.args.limit = rw c.from-lanes.ensures at (c.count_below.ensures (k - from)) in
    c.write_run.ensures k
    ∙ rw (c.min-count.ensures, c.columns-then-from-columns.ensures.value, c.from-then-from-columns-3.ensures, c.from-then-from-columns-4.ensures, c.from-then-from-columns-5.ensures)
    (slid_all s c.args.base w c.args.first c.args.up c.args.by c.args.limit c.args.sub k from element c.count_below.result _ (zero_words 32 0 k refl) c.requires.width
    (omega (arith, c.if-from-columns.true, c.columns.ensures.value)) start e told)

pub returns-else-from-columns : goal.returns-else-from-columns
returns-else-from-columns g c k =
    let s = g.P.Planes.slices c.args.p.now in
    let w = c.args.width in
    let from = c.slide_start-from.result in
    let start : (i : ℕ) → ltb i from ≡ (c.args.up && ltb (c.args.first + c.args.sub / w + i * (32 / w)) c.args.by) =
    λ i. rw (c.from.ensures, c.from-2.ensures, c.from-lanes.ensures) at (c.slide_start-from.ensures i) in
    let l : s.columns ≤ from = let m = c.if-from-columns.false in omega (arith, c.columns.ensures.value) in
    slid_none s c.args.base w c.args.first c.args.up c.args.by c.args.limit c.args.sub k from _ (zero_words 32 0 k refl) l start

pub write_run-requires-clause-rows : goal.write_run-requires-clause-rows
write_run-requires-clause-rows g c k from to =
    let s = g.P.Planes.slices c.args.p.now in
    let w = c.args.width in
    let first = c.slide_start-from.result in
    let element = c.slid_element-element.result in
    let told : ltb (k - first) c.count_below.result ≡ ltb (element + (k - first) * (32 / w)) c.args.limit = rw c.from-lanes.ensures at (c.count_below.ensures (k - first)) in
    let near : k - first < c.count_below.result = omega (arith, c.min-count.ensures) in
    let l : element + (k - first) * (32 / w) < c.args.limit = less-same _ _ (k - first) c.count_below.result (sym told) near in
    rw (c.from-then-from-columns-3.ensures, c.from-then-from-columns-4.ensures, c.from-then-from-columns-5.ensures, slid_number w element (c.args.sub % w) k first c.requires.width)
    (reach_bits w s.columns c.args.base c.args.limit (element + (k - first) * (32 / w)) (c.args.sub % w) c.requires.width c.requires.reach l (mod_below c.args.sub w (width-fills w c.requires.width).0))
