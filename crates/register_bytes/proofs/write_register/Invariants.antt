use Rattle.std.proofs.Common.{◌≡◌, ◌*◌}
use Rattle.cam_chain.specs.ChainValue.{slices_of}
use Rattle.register_bytes.specs.Rows.{bits_written}
use Rattle.register_bytes.proofs.Writing.{bit_of_bytes}
use Rattle.register_bytes.proofs.write_register.Given as goal

abbrev pub invariant-loop-place : goal.invariant-loop-place
invariant-loop-place l = record {
  slices : slices_of l.chain ≡ bits_written 0 (8 * l.place) l.register (bit_of_bytes l.bytes) (slices_of l.fn.chain);
  columns : l.chain.columns ≡ l.fn.chain.columns;
  counts : l.chain.counts ≡ l.fn.chain.counts;
}
