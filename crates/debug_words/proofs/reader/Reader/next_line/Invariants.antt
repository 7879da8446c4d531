use Rattle.std.proofs.Common.{◌≡◌, ◌≤◌, ◌<◌, length}
use Rattle.debug_words.specs.Lines.{budget}
use Rattle.debug_words.proofs.Reading.{ReadsOn}
use Rattle.debug_words.proofs.reader.Reader.next_line.Given as goal

abbrev pub invariant-bytes : goal.invariant-bytes
invariant-bytes g l = record {
  on : ReadsOn l.initial.self l.self (g.C.Source.left l.initial.commands) (g.C.Source.left l.commands) l.line.items;
  less : budget l.self ≤ budget l.initial.self;
  some : 0 < length l.line.items → budget l.self < budget l.initial.self;
  quiet : g.C.Source.faults l.commands ≡ g.C.Source.faults l.initial.commands;
}

abbrev pub decreases-bytes : goal.decreases-bytes
decreases-bytes g l = budget l.self
