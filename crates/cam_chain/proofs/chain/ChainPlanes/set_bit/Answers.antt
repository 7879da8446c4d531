use Rattle.std.proofs.Common.{◌<◌, ◌+◌, ◌*◌, arith, refl, length}
use Rattle.cam_chain.proofs.SlicesLemmas.{columns-slices_of}
use Rattle.cam_chain.proofs.Rows.{lent_long}
use Rattle.cam_chain.proofs.Placing.{one_written}
use Rattle.cam_chain.proofs.chain.ChainPlanes.set_bit.Goals as goal

pub set-requires : goal.set-requires
set-requires c =
    let i = c.self.invariant in
    let at = c.args.sub * 64 + c.args.row in
    let h : c.args.col < c.args.self.now.columns = omega (arith, columns-slices_of c.args.self.now) in
    let k : at < length c.self.inside.rows.items = omega (arith, i.row_count, c.requires.sub, c.requires.row) in
    let l = lent_long c.self.inside.columns c.self.inside.rows.items at c.index_mut.result.now i.rows_long k c.index_mut.ensures.value in
    rw l (rw (← c.self.view_is) at h)

pub returns-clause-slices : goal.returns-clause-slices
returns-clause-slices c =
    let i = c.self.invariant in
    let h : c.args.col < c.args.self.now.columns = omega (arith, columns-slices_of c.args.self.now) in
    rw (← c.self.view_is) (one_written _ _ c.args.sub c.args.row c.args.col c.args.bit c.index_mut.result.now c.requires.sub c.requires.row (rw (← c.self.view_is) at h) i.row_count i.rows_long
    c.index_mut.ensures.value refl refl (rw c.set.ensures refl))
