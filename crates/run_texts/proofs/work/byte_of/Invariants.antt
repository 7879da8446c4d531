use Rattle.std.proofs.Common.{◌≡◌, ◌+◌, ◌-◌, ◌*◌, ◌<◌, false}
use Rattle.std.specs.Prelude.{slice_index_or}
use Rattle.run_texts.specs.WorkTexts.{bits_number}
use Rattle.run_texts.proofs.work.byte_of.Given as goal

-- the bits from this one on are taken
abbrev pub invariant-loop-b : goal.invariant-loop-b
invariant-loop-b l = l.byte ≡ bits_number (8 - l.b) (λ col. slice_index_or l.row col false) (8 * l.j + l.b)
