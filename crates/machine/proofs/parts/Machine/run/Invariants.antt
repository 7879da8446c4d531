use Rattle.std.proofs.Common.{◌≡◌, ◌+◌, ◌-◌, ◌≤◌, true}
use Rattle.cape_io.specs.Views.{devices, views, KeepsFaults}
use Rattle.machine.specs.Views.{RunsOn, EachStep, AsksNothing, AddsNoOut, AddsNoErr}
use Rattle.rvv_meaning.specs.declared.Mode.TheVariants.{Running}
use Rattle.machine.proofs.parts.Machine.run.Given as goal

abbrev pub invariant-loop-i : goal.invariant-loop-i
invariant-loop-i g l = record {
  on : RunsOn l.n (l.n - l.i) l.merged l.initial.self l.self (devices g.S.Source g.O.Sink g.E.Sink l.initial.input l.input l.initial.out l.out l.initial.err l.err);
  running : l.self.core.mode ≡ Running;
  live : l.self.live ≡ true;
  count : l.self.core.csrs.retired ≤ l.initial.self.core.csrs.retired + l.i;
  length : l.self.core.csrs.vlen ≡ l.initial.self.core.csrs.vlen;
  quiet : KeepsFaults (devices g.S.Source g.O.Sink g.E.Sink l.initial.input l.input l.initial.out l.out l.initial.err l.err);
  input_stays : EachStep AsksNothing l.n l.merged l.initial.self (views g.S.Source g.O.Sink g.E.Sink l.initial.input l.initial.out l.initial.err) → l.input ≡ l.initial.input;
  out_stays : EachStep (AddsNoOut l.merged) l.n l.merged l.initial.self (views g.S.Source g.O.Sink g.E.Sink l.initial.input l.initial.out l.initial.err) → l.out ≡ l.initial.out;
  err_stays : EachStep (AddsNoErr l.merged) l.n l.merged l.initial.self (views g.S.Source g.O.Sink g.E.Sink l.initial.input l.initial.out l.initial.err) → l.err ≡ l.initial.err;
  merged_out : l.merged ≡ true → l.out ≡ l.initial.out;
}
