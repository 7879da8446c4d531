use Rattle.std.proofs.Common.{◌≡◌, ℕ}
use Rattle.steer_net.specs.Network.{top_bit}
use Rattle.steer_net.specs.Rows.{mask_bit}
use Rattle.steer_net.proofs.Packed.{packing}
use Rattle.steer_net.proofs.packing.pack_words.Given as goal

abbrev pub invariant-loop-element : goal.invariant-loop-element
invariant-loop-element g l = (i : ℕ) → mask_bit l.words i
    ≡ packing (top_bit l.width (g.P.Planes.slices l.p) l.from) (top_bit l.width (g.P.Planes.slices l.p) l.under) l.first l.element (mask_bit l.fn.words) i
