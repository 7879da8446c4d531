use Rattle.std.proofs.Common.{◌≡◌, ◌+◌, ◌-◌, ◌≤◌, true}
use Rattle.cape_io.specs.Views.{KeepsFaults, devices}
use Rattle.debug_commands.specs.Sittings.{scene}
use Rattle.debug_commands.proofs.Steps.{StepsOn}
use Rattle.debug_commands.proofs.stepping.advance.Given as goal

abbrev pub invariant-loop-i : goal.invariant-loop-i
invariant-loop-i g l = record {
  on : StepsOn l.breaks l.k l.first (l.k - l.i) (scene l.initial.machine l.desk (g.S.Source.left l.initial.input) (g.O.Sink.held l.initial.out) (g.E.Sink.held l.initial.err)) (scene l.machine l.desk (g.S.Source.left l.input) (g.O.Sink.held l.out) (g.E.Sink.held l.err));
  live : l.machine.live ≡ true;
  count : l.machine.core.csrs.retired ≤ l.initial.machine.core.csrs.retired + l.i;
  length : l.machine.core.csrs.vlen ≡ l.initial.machine.core.csrs.vlen;
  quiet : KeepsFaults (devices g.S.Source g.O.Sink g.E.Sink l.initial.input l.input l.initial.out l.out l.initial.err l.err);
}
