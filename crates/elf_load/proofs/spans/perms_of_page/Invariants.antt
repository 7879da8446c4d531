use Rattle.std.proofs.Common.{◌≡◌, drop, bit_or}
use Rattle.guest_mem.specs.Spans.{page_perms}
use Rattle.elf_load.proofs.spans.perms_of_page.Given as goal

-- the permissions so far and those of the ranges that are left make the whole
abbrev pub invariant-loop-s : goal.invariant-loop-s
invariant-loop-s l = bit_or l.perms.0 (page_perms (drop l.s-index l.spans) l.page) ≡ page_perms l.spans l.page
