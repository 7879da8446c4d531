use Rattle.std.proofs.Common.{◌≡◌, ◌+◌, ◌*◌, ◌/◌, refl, arith, min}
use Rattle.steer_net.proofs.SubarrayRows.{replaced_start, replaced_more, replaced_all}
use Rattle.steer_net.proofs.packing.packed_words.Goals as goal

pub loop-col-init : goal.loop-col-init
loop-col-init g c = rw c.from-subarrays.ensures (replaced_start c.args.from c.args.under c.args.to c.args.width c.args.first c.args.sub (g.P.Planes.slices c.args.p.now) c.row_words-words.result c.requires.sub c.row_words-words.ensures)

pub loop-col-preserved : goal.loop-col-preserved
loop-col-preserved g c =
    let s = g.P.Planes.slices c.args.p.now in
    replaced_more c.args.from c.args.under c.args.to c.args.width c.args.first c.args.sub c.loop-col.col s c.loop-col.words c.pack_column.new.words c.requires.sub
    (omega (arith, c.min-end.ensures, c.columns-2.ensures.value)) c.loop-col.invariant c.pack_column.ensures

pub returns : goal.returns
returns g c k =
    let s = g.P.Planes.slices c.args.p.now in
    let count = c.columns.result * c.from.result in
    let end : c.min-end.result ≡ min c.columns-2.result ((c.args.first + count) / 32 + 1) = rw c.from-subarrays.ensures at c.min-end.ensures in
    replaced_all c.args.from c.args.under c.args.to c.args.width c.args.first c.args.sub c.loop-col.col count s c.loop-col.words c.requires.sub
    (rw (c.columns.ensures.value, c.from.ensures) refl) (λ l. omega (arith, end, c.columns-2.ensures.value)) c.loop-col.invariant k
