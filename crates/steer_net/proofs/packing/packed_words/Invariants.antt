use Rattle.std.proofs.Common.{◌+◌, ◌*◌, ◌&&◌, ltb}
use Rattle.steer_net.specs.Rows.{packed_bit}
use Rattle.steer_net.proofs.SubarrayRows.{Replaced}
use Rattle.steer_net.proofs.packing.packed_words.Given as goal

abbrev pub invariant-loop-col : goal.invariant-loop-col
invariant-loop-col g l = Replaced (λ c. ltb c (g.P.Planes.slices l.p).columns && packed_bit l.from l.under l.to l.width l.first (g.P.Planes.slices l.p) (c * 32 + l.sub))
    (λ c. ltb c (g.P.Planes.slices l.p).columns && (g.P.Planes.slices l.p).bit l.sub l.to c) l.col l.words
