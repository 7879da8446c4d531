-- The file stays open.
use Rattle.std.proofs.Common.{◌≡◌, true}
use Rattle.guest_tests.proofs.logs.reads.Given as goal

abbrev pub invariant-loop : goal.invariant-loop
invariant-loop g l = g.F.Files.is_open l.files ≡ true
