use Rattle.std.proofs.Common.{◌≡◌, ℕ, ◌<◌, false, length, get_or, take}
use Rattle.cam_chain.specs.Slices.{matches}
use Rattle.cam_chain.specs.ChainValue.{row_bit}
use Rattle.cam_chain.proofs.key_match.match_keys.Given as goal

abbrev pub invariant-loop-i : goal.invariant-loop-i
invariant-loop-i l =
    (length l.into ≡ length l.fn.into)
    × ((c : ℕ) → c < length l.into → get_or l.into c false ≡ matches (λ row. row_bit l.fn.rows l.fn.base row c) (take l.i l.pairs))
