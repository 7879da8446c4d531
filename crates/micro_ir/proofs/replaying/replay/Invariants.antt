use Rattle.std.proofs.Common.{◌≡◌, ◌+◌, ◌*◌, ◌^◌, ◌≤◌, ◌||◌, take}
use Rattle.micro_ir.specs.Replay.{replay, clips, state_of, counts_and, tally}
use Rattle.micro_ir.proofs.replaying.replay.Given as goal

abbrev pub invariant-loop-i : goal.invariant-loop-i
invariant-loop-i l = record {
  slices : state_of l.chain l.ctl.num ≡ replay (take l.i l.fn.buf.ops) (state_of l.fn.chain l.fn.ctl.num);
  clip : l.ctl.clip ≡ l.fn.ctl.clip || clips (take l.i l.fn.buf.ops) (state_of l.fn.chain l.fn.ctl.num);
  counted : l.chain.counts ≡ counts_and l.fn.chain.counts (tally (take l.i l.fn.buf.ops));
  columns : l.chain.columns ≡ l.fn.chain.columns;
  searches : l.chain.counts.searches ≤ 2 ^ 99 + 32 * l.i;
  updates : l.chain.counts.updates ≤ 2 ^ 99 + 32 * l.i;
  passes : l.chain.counts.passes ≤ 2 ^ 99 + 32 * l.i;
}
