use Rattle.std.proofs.Common.{arith}
use Rattle.elf_load.proofs.Pages.{all_apart-front}
use Rattle.elf_load.proofs.spans.pages_met.Goals as goal

pub new_pages-count-requires-clause-apart : goal.new_pages-count-requires-clause-apart
new_pages-count-requires-clause-apart c = all_apart-front c.args.spans.now c.loop-k.k _ c.requires.apart (omega arith)
