use Rattle.std.proofs.Common.{◌≡◌, take}
use Rattle.guest_mem.specs.Opening.{opened}
use Rattle.guest_mem.proofs.page_list.PageList.of_regions.Given as goal

-- the memory of the regions so far
abbrev pub invariant-loop-region : goal.invariant-loop-region
invariant-loop-region l = l.pages ≡ opened (take l.region-index l.regions)
