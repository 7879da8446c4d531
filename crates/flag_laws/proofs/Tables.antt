-- A table step of rows that are apart leaves the control numbers, as its searches, its pass and its update do.
use Rattle.std.proofs.Common.{◌≡◌, ℕ, Bool, false, true, List, [], ◌∷◌, ◌++◌, zero, suc, refl}
use Rattle.micro_ir.specs.declared.op.MicroOp.TheVariants.{Update}
use Rattle.micro_ir.specs.Replay.{all_keep_control}
use Rattle.micro_ir.specs.Steps.{searches, pass_of}
use Rattle.micro_ir.specs.Tables.{table_list, moved_subs}
use Rattle.micro_ir.proofs.Lists.{keep-append}

searches-keep : (subs : ℕ) (inputs : List ℕ) (join : Bool) (on : List ℕ) → all_keep_control (searches subs inputs join on) ≡ true
searches-keep subs inputs join [] = refl
searches-keep subs inputs join (t ∷ ts) = searches-keep subs inputs true ts

pass-keep : (up : Bool) (times : ℕ) → all_keep_control (pass_of up times) ≡ true
pass-keep up zero = refl
pass-keep up (suc n) = refl

pub table-keep : (subs : ℕ) (inputs on : List ℕ) (out : ℕ) (up : Bool) (times : ℕ) → all_keep_control (table_list subs inputs on out up times) ≡ true
unfolding table_list
table-keep subs inputs [] out up times = refl
table-keep subs inputs (t ∷ ts) out up times =
    keep-append (searches subs inputs false (t ∷ ts)) (pass_of up times ++ Update (moved_subs subs up times) out true ∷ []) (searches-keep subs inputs false (t ∷ ts))
    (keep-append (pass_of up times) (Update (moved_subs subs up times) out true ∷ []) (pass-keep up times) refl)
