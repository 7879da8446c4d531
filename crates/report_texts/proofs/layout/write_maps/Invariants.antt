use Rattle.std.proofs.Common.{◌≤◌, ◌-◌, map}
use Rattle.cape_io.proofs.Writing.{Continues}
use Rattle.guest_mem.specs.Spans.{span_of, page_numbers}
use Rattle.report_texts.specs.Layouts.{map_lines}
use Rattle.report_texts.proofs.LayoutLemmas.{lines_left}
use Rattle.report_texts.proofs.layout.write_maps.Given as goal

-- the lines of the pages from the first on are left
abbrev pub invariant-loop-first : goal.invariant-loop-first
invariant-loop-first g l = record {
  bound : l.first ≤ page_numbers;
  continues : Continues g.O.Sink (map_lines (map span_of l.regions)) l.initial.out (lines_left (map span_of l.regions) l.first (page_numbers - l.first)) l.out;
}

abbrev pub decreases-loop-first : goal.decreases-loop-first
decreases-loop-first g l = page_numbers - l.first
