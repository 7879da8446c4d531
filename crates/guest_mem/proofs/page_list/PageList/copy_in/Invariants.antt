use Rattle.std.proofs.Common.{◌≡◌, ◌<◌, ◌^◌, length}
use Rattle.guest_mem.specs.Pages.{written}
use Rattle.guest_mem.proofs.page_list.PageList.copy_in.Given as goal

abbrev pub invariant-loop-rest : goal.invariant-loop-rest
invariant-loop-rest l = record {
  more : written l.fn.self l.fn.address l.fn.bytes ≡ written l.self l.at l.rest;
  fits : l.at < 2 ^ 32;
}

abbrev pub decreases-loop-rest : goal.decreases-loop-rest
decreases-loop-rest l = length l.rest
