use Rattle.std.proofs.Common.{◌≡◌, ℕ, ◌<◌, length}
use Rattle.steer_net.specs.Runs.{HoldsSource}
use Rattle.steer_net.proofs.rewriting.read_source.Given as goal

abbrev pub invariant-loop-sub : goal.invariant-loop-sub
invariant-loop-sub g l = record {
  len : length l.subarrays ≡ 32;
  done : (sub : ℕ) → sub < l.sub → HoldsSource l.subarrays l.source l.width (g.P.Planes.slices l.p) sub;
}
