use Rattle.std.proofs.Common.{◌≡◌, ◌+◌, ◌*◌, ◌≤◌, ◌^◌, true}
use Rattle.cape_io.specs.Views.{KeepsFaults, devices}
use Rattle.debug_words.specs.Lines.{budget}
use Rattle.debug_commands.specs.Sittings.{scene}
use Rattle.debug_core.proofs.Saying.{SaidSo}
use Rattle.debug_core.proofs.talking.talk.Given as goal

abbrev pub invariant-lines : goal.invariant-lines
invariant-lines g l = record {
  on : SaidSo l.initial.reader l.reader (g.C.Source.left l.initial.commands) (g.C.Source.left l.commands) (scene l.initial.machine l.initial.desk (g.S.Source.left l.initial.input) (g.O.Sink.held l.initial.out) (g.E.Sink.held l.initial.err)) (scene l.machine l.desk (g.S.Source.left l.input) (g.O.Sink.held l.out) (g.E.Sink.held l.err));
  live : l.machine.live ≡ true;
  length : l.machine.core.csrs.vlen ≡ 32 * l.desk.columns;
  count : l.machine.core.csrs.retired + 1000000000 * budget l.reader ≤ 2 ^ 63;
  quiet_commands : g.C.Source.faults l.commands ≡ g.C.Source.faults l.initial.commands;
  quiet : KeepsFaults (devices g.S.Source g.O.Sink g.E.Sink l.initial.input l.input l.initial.out l.out l.initial.err l.err);
}

abbrev pub decreases-lines : goal.decreases-lines
decreases-lines g l = budget l.reader
