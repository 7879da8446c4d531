use Rattle.std.proofs.Common.{◌≡◌, ◌<◌, ◌^◌}
use Rattle.guest_mem.specs.Pages.{first_bad}
use Rattle.guest_mem.proofs.pages.Mem.check.Given as goal

abbrev pub invariant-loop-left : goal.invariant-loop-left
invariant-loop-left l = record {
  rest : first_bad l.self.pages l.need.0 l.fn.address l.len ≡ first_bad l.self.pages l.need.0 l.at l.left;
  fits : l.at < 2 ^ 32;
}

abbrev pub decreases-loop-left : goal.decreases-loop-left
decreases-loop-left l = l.left
