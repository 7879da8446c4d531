use Rattle.std.proofs.Common.{ℕ, refl, arith}
use Rattle.register_bytes.proofs.Planes.{zeros}
use Rattle.std.proofs.lemmas.Simd.{length-replicate}
use Rattle.register_bytes.proofs.lanes.gather.Goals as goal

pub loop-c-init : goal.loop-c-init
loop-c-init c = record { len = length-replicate {A = ℕ} 2048 0; done = λ k below. absurd (omega arith); todo = λ k above. zeros 2048 0 k refl }
