use Rattle.std.proofs.Common.{◌≡◌, ◌≤◌, ◌++◌, ℕ, List, Some, true, vec_len}
use Rattle.cape_io.specs.Devices.{Present, word_at}
use Rattle.cape_top.specs.Reading.{KeepsFiles}
use Rattle.cape_top.proofs.loading.read_file.Given as goal

abbrev pub invariant-loop-turn : goal.invariant-loop-turn
invariant-loop-turn g l = record {
  moved : (whole : List ℕ) → g.F.Files.known_file l.fn.files (word_at (g.F.Files.names l.fn.files) l.fn.place) ≡ Present whole → (rest : List ℕ) × (g.F.Files.left l.files ≡ Some rest) × (whole ≡ l.bytes.items ++ rest);
  count : l.turn ≤ vec_len l.bytes;
  limit : vec_len l.bytes ≤ l.fn.limit;
  opened : g.F.Files.is_open l.files ≡ true;
  at : g.F.Files.at l.files ≡ l.fn.place;
  since : g.F.Files.since l.files ≡ g.F.Files.faults l.fn.files;
  quiet : g.F.Files.faults l.files ≡ g.F.Files.faults l.fn.files;
  same : KeepsFiles g.F.Files l.fn.files l.files;
}
