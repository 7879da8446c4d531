-- Programs that are tried out on the second chain.
use Rattle.std.proofs.Common.{◌≡◌, ◌≤◌, ℕ, zero, suc, true, false, List, [], ◌∷◌, take, length, refl, ap, Bool, arith}
use Rattle.std.specs.Prelude.{nat_le}
use Rattle.std.proofs.lemmas.Bool.Decides.{nat_tests}
use Rattle.debug_commands.specs.Commands.{replayed, replayed_text}
use Rattle.bit_rows.specs.Slices.{Slices}
use Rattle.cam_chain.specs.ChainValue.{ChainValue, slices_of}
use Rattle.debug_texts.specs.ShownTexts.{replayed_line}
use Rattle.micro_ir.proofs.Lists.{AllInRange-none}
use Rattle.micro_ir.specs.declared.op.MicroOp.{MicroOp}
use Rattle.micro_ir.specs.Replay.{AllInRange, state_of}

pub first_in_range : (columns k : ℕ) (ops : List MicroOp) → AllInRange columns ops → AllInRange columns (take k ops)
unfolding AllInRange
first_in_range columns zero ops all = tt
first_in_range columns (suc k) [] all = tt
first_in_range columns (suc k) (op ∷ ops) all = (all.0, first_in_range columns k ops all.1)

-- the control number plays no part in a row and tags
pub line_of_state : (k sub row num : ℕ) (chain : ChainValue) (s : Slices) → state_of chain num ≡ s → replayed_line k sub row (slices_of chain) ≡ replayed_line k sub row s
unfolding replayed_line
line_of_state k sub row num chain s is = ap (replayed_line k sub row) is

within : (k n : ℕ) → k ≤ n → nat_le k n ≡ true
within k n few = grind (arith, nat_tests)

-- what is written of a program that is long enough
pub line_is : (k sub row : ℕ) (ops program : List MicroOp) (chain : ChainValue) (s : Slices) → ops ≡ program → k ≤ length ops → ((num : ℕ) × (state_of chain num ≡ replayed k ops s))
    → replayed_line k sub row (slices_of chain) ≡ replayed_text k sub row program s
unfolding replayed_text
line_is k sub row ops program chain s is long left =
    rw (← is, within k (length ops) long) (line_of_state k sub row left.0 chain (replayed k ops s) left.1)
