use Rattle.std.proofs.Common.{◌≡◌, ◌<◌, true}
use Rattle.guest_mem.specs.Ranges.{range_bytes}
use Rattle.rvv_meaning.specs.Calls.{is_readable}
use Rattle.guest_env.proofs.Writing.{Continues}
use Rattle.guest_env.proofs.writes.write_range.Given as goal

abbrev pub invariant-loop-left : goal.invariant-loop-left
invariant-loop-left g l = record {
  continues : Continues g.K.Sink l.fn.address (range_bytes l.mem.pages l.fn.address l.fn.count) l.initial.sink l.at (range_bytes l.mem.pages l.at l.left) l.sink;
  readable : is_readable l.mem.pages l.at l.left ≡ true;
  some : 0 < l.left → 0 < l.fn.count;
  quiet : g.K.Sink.faults l.sink ≡ g.K.Sink.faults l.initial.sink;
}

abbrev pub decreases-loop-left : goal.decreases-loop-left
decreases-loop-left g l = l.left
