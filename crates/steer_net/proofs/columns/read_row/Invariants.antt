use Rattle.std.proofs.Common.{◌≡◌, ℕ, ◌*◌, ◌<◌}
use Rattle.steer_net.specs.Network.{bit_in}
use Rattle.steer_net.specs.Rows.{mask_bit}
use Rattle.steer_net.proofs.columns.read_row.Given as goal

abbrev pub invariant-loop-col : goal.invariant-loop-col
invariant-loop-col g l = (e : ℕ) → e < 32 * l.col → mask_bit l.words e ≡ bit_in (g.P.Planes.slices l.p) l.row e
