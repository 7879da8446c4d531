use Rattle.std.proofs.Common.{◌≡◌, Bool, false, ◌&&◌, ◌∙◌, ap}
use Rattle.steer_net.specs.Network.{numbered, bit_in}
use Rattle.steer_net.specs.Rows.{is_one}
use Rattle.steer_net.proofs.Mask.{free_ones}
use Rattle.steer_net.proofs.windows.free.Goals as goal
use Rattle.steer_net.proofs.windows.free.Goals.{then-masked, else-masked}

pub returns-clause-slices : goal.returns-clause-slices
returns-clause-slices g c =
    let s = g.P.Planes.slices c.args.p.now in
    let e : c.if-masked.ones ≡ (c.args.masked && c.args.off) = elim c.if-masked.branch [
      | then-masked w ↦ rw w.if-masked.true w.ones-is
      | else-masked w ↦ rw w.if-masked.false (w.ones-is ∙ w.if-masked.false)
    ] in
    c.write_ones.ensures.slices
    ∙ ap (λ (b : Bool). numbered c.args.row c.args.width c.args.first (is_one (record { from = c.args.from; to = c.args.to; on = false; off = b; tail = c.args.tail }) (bit_in s 0)) s) e
    ∙ ap (λ what. numbered c.args.row c.args.width c.args.first what s) (free_ones c.args.from c.args.to c.args.masked c.args.tail c.args.off (bit_in s 0))
