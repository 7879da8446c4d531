use Rattle.std.proofs.Common.{◌≡◌, ℕ, ◌*◌, ◌%◌, ◌<◌, get_or}
use Rattle.cam_chain.specs.ChainValue.{slices_of}
use Rattle.cam_chain.specs.Views.{register_byte}
use Rattle.register_bytes.proofs.read_register.Given as goal

abbrev pub invariant-loop-place : goal.invariant-loop-place
invariant-loop-place l = (j : ℕ) → j % 4 < l.place → j < 4 * l.chain.columns → get_or l.into j 0 ≡ register_byte (slices_of l.chain) l.register j
