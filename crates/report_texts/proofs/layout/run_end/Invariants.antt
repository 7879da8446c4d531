use Rattle.std.proofs.Common.{◌<◌, ◌≤◌, ◌-◌, map}
use Rattle.guest_mem.specs.Spans.{span_of, page_numbers}
use Rattle.report_texts.specs.Layouts.{IsRun}
use Rattle.report_texts.proofs.layout.run_end.Given as goal

-- the run comes this far
abbrev pub invariant-loop-page : goal.invariant-loop-page
invariant-loop-page l = record {
  later : l.first < l.page;
  bound : l.page ≤ page_numbers;
  run : IsRun (map span_of l.regions) l.first l.page;
}

abbrev pub decreases-loop-page : goal.decreases-loop-page
decreases-loop-page l = page_numbers - l.page
