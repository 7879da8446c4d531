use Rattle.std.proofs.Common.{◌≡◌, ℕ, ◌+◌, ◌*◌, ◌^◌, ◌<◌, length, get_or}
use Rattle.bit_laws.specs.Numbers.{number}
use Rattle.cam_chain.specs.ChainValue.{slices_of}
use Rattle.register_bytes.proofs.lanes.read_lane.Given as goal

abbrev pub invariant-loop-bit : goal.invariant-loop-bit
invariant-loop-bit l = record {
  len : length l.lane ≡ 2048;
  small : (c : ℕ) → get_or l.lane c 0 < 2 ^ l.bit;
  done : (c : ℕ) → c < l.chain.columns → get_or l.lane c 0 ≡ number l.bit (λ b. (slices_of l.chain).bit (8 * l.place + b) l.register c);
}
