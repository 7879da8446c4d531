use Rattle.std.proofs.Common.{◌≡◌, ◌++◌, take}
use Rattle.std.specs.List.{flat_map}
use Rattle.work_gen.specs.Images.{word}
use Rattle.work_gen.proofs.image.push_words.Given as goal

-- the words so far were appended
abbrev pub invariant-loop-w : goal.invariant-loop-w
invariant-loop-w l = l.image.items ≡ l.initial.image.items ++ flat_map word (take l.w-index l.words)
