use Rattle.std.proofs.Common.{◌<◌, ◌≤◌, take}
use Rattle.std.specs.List.{All}
use Rattle.guest_mem.specs.Spans.{span_of, page_numbers}
use Rattle.report_texts.specs.Layouts.{IsSteady}
use Rattle.report_texts.proofs.layout.next_edge.Given as goal

-- no region that was seen has an edge before the one that was found
abbrev pub invariant-loop-region : goal.invariant-loop-region
invariant-loop-region l = record {
  later : l.page < l.edge;
  bound : l.edge ≤ page_numbers;
  steady : All (λ r. IsSteady l.page l.edge (span_of r)) (take l.region-index l.regions);
}
