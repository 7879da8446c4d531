use Rattle.std.proofs.Common.{◌≡◌, ◌+◌, ◌*◌, ◌%◌, get_or}
use Rattle.bit_laws.specs.Numbers.{bit_of}
use Rattle.cam_chain.specs.ChainValue.{slices_of}
use Rattle.register_bytes.specs.Rows.{bits_written}
use Rattle.register_bytes.proofs.lanes.write_lane.Given as goal

abbrev pub invariant-loop-bit : goal.invariant-loop-bit
invariant-loop-bit l = record {
  slices : slices_of l.chain ≡ bits_written (8 * l.place) (8 * l.place + l.bit) l.register (λ sub c. bit_of (get_or l.lane c 0) (sub % 8)) (slices_of l.fn.chain);
  columns : l.chain.columns ≡ l.fn.chain.columns;
  counts : l.chain.counts ≡ l.fn.chain.counts;
}
