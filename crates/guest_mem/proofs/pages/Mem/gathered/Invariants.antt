use Rattle.std.proofs.Common.{◌≡◌, length, take}
use Rattle.guest_mem.specs.Ranges.{range_bytes}
use Rattle.guest_mem.proofs.pages.Mem.gathered.Given as goal

abbrev pub invariant-loop-k : goal.invariant-loop-k
invariant-loop-k l = record {
  whole : length l.word ≡ 4;
  front : take l.k l.word ≡ range_bytes l.self.pages l.address l.k;
}
