use Rattle.std.proofs.Common.{◌≡◌, map, drop, bit_or}
use Rattle.guest_mem.specs.Spans.{span_of, page_perms}
use Rattle.report_texts.proofs.layout.union_at.Given as goal

-- with those of the regions that are left, it is the union
abbrev pub invariant-loop-region : goal.invariant-loop-region
invariant-loop-region l = bit_or l.perms.0 (page_perms (map span_of (drop l.region-index l.regions)) l.page) ≡ page_perms (map span_of l.regions) l.page
