-- Lists that leave the control numbers: those of table steps.
use Rattle.std.proofs.Common.{◌≡◌, ℕ, Bool, false, true, List, [], ◌∷◌, ◌++◌, zero, suc, refl}
use Rattle.micro_ir.specs.declared.op.MicroOp.TheVariants.{Update}
use Rattle.micro_ir.specs.Replay.{all_keep_control}
use Rattle.micro_ir.specs.Subs.{subs_of}
use Rattle.micro_ir.specs.Folding.{table_keys, searches_for}
use Rattle.micro_ir.specs.Steps.{Step, moved, pass_of, micro_from, micro, micros}
use Rattle.micro_ir.specs.Tables.{rows_list, moved_subs}
use Rattle.micro_ir.proofs.Lists.{keep-append}

searches-keep : (subs : ℕ) (join : Bool) (keys : List (List (ℕ × Bool))) → all_keep_control (searches_for subs join keys) ≡ true
searches-keep subs join [] = refl
searches-keep subs join (k ∷ ks) = searches-keep subs true ks

pass-keep : (up : Bool) (times : ℕ) → all_keep_control (pass_of up times) ≡ true
pass-keep up zero = refl
pass-keep up (suc n) = refl

-- searches for keys, a pass and an update
pub found-keep : (from to : ℕ) (keys : List (List (ℕ × Bool))) (up : Bool) (times out : ℕ) (bit : Bool)
    → all_keep_control (searches_for from false keys ++ (pass_of up times ++ Update to out bit ∷ [])) ≡ true
found-keep from to keys up times out bit =
    keep-append (searches_for from false keys) (pass_of up times ++ Update to out bit ∷ []) (searches-keep from false keys)
    (keep-append (pass_of up times) (Update to out bit ∷ []) (pass-keep up times) refl)

-- a step by its rows
pub rows-keep : (subs : ℕ) (inputs on : List ℕ) (out : ℕ) (up : Bool) (times : ℕ) → all_keep_control (rows_list subs inputs on out up times) ≡ true
unfolding rows_list
rows-keep subs inputs [] out up times = refl
rows-keep subs inputs (t ∷ ts) out up times = found-keep subs (moved_subs subs up times) (table_keys inputs (t ∷ ts) out) up times out true

from-keep : (w : ℕ) (step : Step) (on : List ℕ) → all_keep_control (micro_from w step on) ≡ true
from-keep w step [] = refl
from-keep w step (t ∷ ts) = found-keep (subs_of w step.at) (subs_of w (moved step)) (table_keys step.inputs (t ∷ ts) step.out) step.up step.times step.out step.bit

-- one step, and a list of steps
pub micro-keep : (w : ℕ) (step : Step) → all_keep_control (micro w step) ≡ true
unfolding micro
micro-keep w step = from-keep w step step.on

pub micros-keep : (w : ℕ) (steps : List Step) → all_keep_control (micros w steps) ≡ true
unfolding micros
micros-keep w [] = refl
micros-keep w (step ∷ steps) = keep-append (micro w step) (micros w steps) (micro-keep w step) (micros-keep w steps)
