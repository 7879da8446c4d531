-- The flag of a list that looks at one bit of each element, with table steps round it.
use Rattle.std.proofs.Common.{◌≡◌, ℕ, ◌*◌, ◌/◌, ◌<◌, Bool, true, false, ◌&&◌, ltb, List, ◌++◌, refl, ◌∙◌, ap}
use mathlib.Core.Bool.{beq}
use Rattle.bit_rows.specs.Slices.{Slices}
use Rattle.steer_net.specs.Moves.{per_row}
use Rattle.micro_ir.specs.Replay.{replay, clips}
use Rattle.micro_ir.specs.Steps.{Step, micros, AllFit, steps_on}
use Rattle.micro_ir.specs.WorkRows.{active_row}
use Rattle.micro_ir.proofs.Keeping.{micros-keep}
use Rattle.micro_ir.proofs.Lists.{clips-append, clips-none, or_false}
use Rattle.micro_ir.proofs.Lift.{replay-columns}
use Rattle.row_views.specs.Views.{view}
use Rattle.fold_laws.specs.Folds.{any}
use Rattle.row_views.specs.Clips.{clip_test}
use Rattle.row_views.proofs.Views.{view-micros}
use Rattle.row_views.proofs.Tags.{lane-count}
use Rattle.fold_laws.proofs.Anys.{any-same, any-total}

-- table steps set no flag
pub micros-clip : (w : ℕ) (steps : List Step) (s : Slices) → clips (micros w steps) s ≡ false
micros-clip w steps s = clips-none (micros w steps) s (micros-keep w steps)

beq_true : (b : Bool) → beq b true ≡ b
beq_true true = refl
beq_true false = refl

pub clip_test-clips : (w row : ℕ) (s : Slices) → 0 < w → 32 / w * w ≡ 32 → clips (clip_test w row) s ≡ any (per_row w s) (λ p. view w s p active_row 0 && view w s p row 0)
unfolding clips
clip_test-clips w row s pos lanes =
    or_false _
    ∙ ap (λ (n : ℕ). ltb 0 n) (lane-count w 0 active_row row true s pos lanes pos)
    ∙ any-total (per_row w s) (λ p. view w s p active_row 0 && beq (view w s p row 0) true)
    ∙ any-same (per_row w s) _ _ (λ p l. ap (λ (x : Bool). view w s p active_row 0 && x) (beq_true (view w s p row 0)))

-- the steps before it, on each element
pub body-clip : (w row : ℕ) (before after : List Step) (s : Slices) → AllFit w before → 0 < w → 32 / w * w ≡ 32
    → clips (micros w before ++ (clip_test w row ++ micros w after)) s
    ≡ any (per_row w s) (λ p. steps_on before (view w s p) active_row 0 && steps_on before (view w s p) row 0)
body-clip w row before after s fits pos lanes =
    let t = replay (micros w before) s in
    let cols : t.columns ≡ s.columns = replay-columns (micros w before) s in
    clips-append (micros w before) (clip_test w row ++ micros w after) s
    ∙ rw (micros-clip w before s) (clips-append (clip_test w row) (micros w after) t ∙ rw (micros-clip w after (replay (clip_test w row) t)) (or_false (clips (clip_test w row) t)))
    ∙ clip_test-clips w row t pos lanes
    ∙ ap (λ (n : ℕ). any (n * (32 / w)) (λ p. view w t p active_row 0 && view w t p row 0)) cols
    ∙ any-same (per_row w s) _ _ (λ p l. ap (λ (f : ℕ → ℕ → Bool). f active_row 0 && f row 0) (view-micros w before s p fits pos lanes l))
