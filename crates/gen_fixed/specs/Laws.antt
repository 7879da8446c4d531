-- What the lists do.
use Rattle.std.specs.Prelude.{◌≡◌, ℕ, ◌*◌, Bool, List, [], ◌∷◌}
use Rattle.bit_rows.specs.Slices.{Slices}
use Rattle.micro_ir.specs.Kinds.{Realises}
use Rattle.micro_ir.specs.Replay.{replay}
use Rattle.micro_ir.specs.WorkRows.{broadcast_row}
use Rattle.micro_ir.specs.declared.op.MicroOp.{MicroOp}
use Rattle.micro_ir.specs.declared.place.Place.{Place}
use Rattle.row_views.specs.Clips.{ClipsWhere}
use Rattle.gen_shift.specs.Laws.{LeavesValue}
use Rattle.gen_fixed.specs.declared.kinds.Average.{Average}
use Rattle.gen_fixed.specs.declared.kinds.Saturating.{Saturating}
use Rattle.gen_fixed.specs.declared.kinds.Clipping.{Clipping}
use Rattle.gen_fixed.specs.Lists.{overflow_row, clipped_row}
use Rattle.gen_fixed.specs.Kinds.{average_value, average_ops, saturating_value, saturating_clips, saturating_ops, clip_left, clip_flag, clip_ops}

-- The list realises the kind's number, whether the mask is read beside it or not.
abbrev pub RealisesAverage : Average → (w : ℕ) → Place → Type 0
RealisesAverage kind w at = (reads : Bool) → Realises w at.to reads (λ n c. average_value kind at.sub w at.mode (n at.a) (n at.b)) (average_ops kind w at)

abbrev pub RealisesSaturating : Saturating → (w : ℕ) → Place → Type 0
RealisesSaturating kind w at =
    (reads : Bool) → Realises w at.to reads (λ n c. saturating_value kind w at.mode (n at.a) (n at.b)) (saturating_ops kind w at)

-- It sets the flag where the number of an active element is clipped.
abbrev pub ClipsSaturating : Saturating → (w : ℕ) → Place → Type 0
ClipsSaturating kind w at = ClipsWhere w (λ n. saturating_clips kind w at.mode (n at.a) (n at.b)) (saturating_ops kind w at)

-- ---- clips of wide numbers

-- the rows that a clip writes
abbrev pub clip_rows : List ℕ
clip_rows = broadcast_row ∷ overflow_row ∷ clipped_row ∷ []

-- It leaves the clipped number of each element of 2w bits in one row, and its flag in another. Every row but those that a clip
-- writes stays.
abbrev pub LeavesClipped : Clipping → (w row : ℕ) → Type 0
LeavesClipped kind w row = LeavesValue (2 * w) clipped_row clip_rows (λ n. clip_left kind w (n row)) (clip_ops kind w row)

abbrev pub LeavesFlag : Clipping → (w row : ℕ) → Type 0
LeavesFlag kind w row = LeavesValue (2 * w) overflow_row clip_rows (λ n. clip_flag kind w (n row)) (clip_ops kind w row)

-- ---- a list that only looks

-- no bit of a row changes
unfoldable pub LeavesRows : List MicroOp → Type 0
LeavesRows ops = (s : Slices) (sub row col : ℕ) → (replay ops s).bit sub row col ≡ s.bit sub row col
