-- A list of steps leaves the rows that it does not write, at every place.
use Rattle.std.proofs.Common.{◌≡◌, ◌≢◌, ℕ, Bool, true, false, cond, ◌&&◌, List, [], ◌∷◌, ◌++◌, refl, ◌∙◌, ap}
use Rattle.std.proofs.lemmas.Bool.{ne_eqb}
use Rattle.bit_rows.specs.Slices.{Slices, placed}
use Rattle.cam_chain.specs.Slices.{selected}
use Rattle.micro_ir.specs.declared.op.MicroOp.TheVariants.{Update}
use Rattle.micro_ir.specs.Replay.{replay, effect}
use Rattle.micro_ir.specs.Subs.{subs_of}
use Rattle.micro_ir.specs.Folding.{table_keys, searches_for}
use Rattle.micro_ir.specs.Steps.{Step, moved, pass_of, micro_from, micro, micros}
use Rattle.micro_ir.proofs.Lists.{replay-append}
use Rattle.micro_ir.proofs.Lift.{searches-bit, passed-bit}

-- no step writes the row
abbrev pub AllElse : ℕ → List Step → Type 0
AllElse r [] = Unit {0}
AllElse r (step ∷ steps) = (r ≢ step.out) × AllElse r steps

none : (p sel t b o : Bool) → cond (((p && sel) && false) && t) b o ≡ o
none true true t b o = refl
none true false t b o = refl
none false sel t b o = refl

from-else : (w : ℕ) (step : Step) (on : List ℕ) (s : Slices) (sub r col : ℕ) → r ≢ step.out → (replay (micro_from w step on) s).bit sub r col ≡ s.bit sub r col
unfolding replay
from-else w step [] s sub r col other = refl
from-else w step (t ∷ ts) s sub r col other =
    let keys = table_keys step.inputs (t ∷ ts) step.out in
    let found = searches_for (subs_of w step.at) false keys in
    let shift = pass_of step.up step.times in
    let last = Update (subs_of w (moved step)) step.out step.bit in
    let s1 = replay found s in
    let s2 = replay shift s1 in
    let e : replay (found ++ (shift ++ last ∷ [])) s ≡ effect last s2 = replay-append found (shift ++ last ∷ []) s ∙ replay-append shift (last ∷ []) s1 in
    ap (λ (z : Slices). z.bit sub r col) e
    ∙ rw (ne_eqb r step.out other) (none (placed s2.columns sub col) (selected (subs_of w (moved step)) sub) (s2.tag sub col) step.bit (s2.bit sub r col))
    ∙ ap (λ (g : ℕ → ℕ → ℕ → Bool). g sub r col) (passed-bit step.up step.times s1 ∙ searches-bit (subs_of w step.at) false keys s)

pub micros-else : (w : ℕ) (steps : List Step) (s : Slices) (sub r col : ℕ) → AllElse r steps → (replay (micros w steps) s).bit sub r col ≡ s.bit sub r col
unfolding micros micro replay
micros-else w [] s sub r col h = refl
micros-else w (step ∷ steps) s sub r col h =
    ap (λ (z : Slices). z.bit sub r col) (replay-append (micro_from w step step.on) (micros w steps) s)
    ∙ micros-else w steps (replay (micro_from w step step.on) s) sub r col h.1
    ∙ from-else w step step.on s sub r col h.0
