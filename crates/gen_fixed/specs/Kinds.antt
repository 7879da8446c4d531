-- The kinds: their values, their operations with the rows of a place, and what these cost.
use Rattle.std.specs.Prelude.{ℕ, ◌+◌, ◌-◌, ◌*◌, ◌/◌, ◌^◌, Bool, true, false, cond, ℤ, pos, ◌+ℤ◌, ◌-ℤ◌, List, ◌++◌}
use Rattle.bit_laws.specs.Numbers.{bit_of}
use Rattle.bit_laws.specs.Signed.{signed}
use Rattle.bit_laws.specs.Rounding.{low_int, clipped, clips, clipped_unsigned, clips_unsigned}
use Rattle.cam_chain.specs.declared.counts.Counts.{Counts}
use Rattle.micro_ir.specs.Measures.{counts}
use Rattle.micro_ir.specs.Steps.{Step, micros}
use Rattle.micro_ir.specs.Pieces.{commit}
use Rattle.micro_ir.specs.WorkRows.{result_row, truth_row}
use Rattle.micro_ir.specs.declared.op.MicroOp.{MicroOp}
use Rattle.micro_ir.specs.declared.place.Place.{Place}
use Rattle.row_views.specs.Clips.{clip_test}
use Rattle.gen_fixed.specs.declared.kinds.Average.{Average}
use Rattle.gen_fixed.specs.declared.kinds.Average.TheVariants.{Avgu, Avg}
use Rattle.gen_fixed.specs.declared.kinds.Saturating.{Saturating}
use Rattle.gen_fixed.specs.declared.kinds.Saturating.TheVariants.{Saddu, Sadd, Ssubu, Ssub}
use Rattle.gen_fixed.specs.declared.kinds.Clipping.{Clipping}
use Rattle.gen_fixed.specs.declared.kinds.Clipping.TheVariants.{Clipu, Clip}
use Rattle.gen_fixed.specs.Values.{vsaddu, vsaddu_clips, vsadd, vsadd_clips, vssubu, vssubu_clips, vssub, vssub_clips, vaaddu, vaadd, vasubu, vasub}
use Rattle.gen_fixed.specs.Lists.{overflow_row, is_down, average_steps, saturating_unsigned, saturating_signed, clipping}

-- the exact sum or difference of numbers of w bits
abbrev pub exact : (sign sub : Bool) → (w a b : ℕ) → ℤ
exact false false w a b = pos a +ℤ pos b
exact false true w a b = pos a -ℤ pos b
exact true false w a b = signed w a +ℤ signed w b
exact true true w a b = signed w a -ℤ signed w b

-- ---- averages

abbrev pub average_sign : Average → Bool
average_sign Avgu = false
average_sign Avg = true

abbrev pub average_value : Average → (sub : Bool) → (w mode a b : ℕ) → ℕ
average_value Avgu false w mode a b = vaaddu w mode a b
average_value Avgu true w mode a b = vasubu w mode a b
average_value Avg false w mode a b = vaadd w mode a b
average_value Avg true w mode a b = vasub w mode a b

abbrev pub average_ops : Average → (w : ℕ) → Place → List MicroOp
average_ops kind w at = micros w (average_steps (average_sign kind) at.sub at.mode w at.a at.b at.to)

abbrev pub average_counts : (mode w : ℕ) → Counts
average_counts mode w = cond (is_down mode) (counts (8 * w + 8) (2 * w + 8) w) (counts (11 * w + 10) (4 * w + 10) (2 * w - 1))

abbrev pub average_length : (mode w : ℕ) → ℕ
average_length mode w = cond (is_down mode) (11 * w + 16) (17 * w + 19)

-- their parts: the total and its half, and what a mode adds
abbrev pub halving_length : (w : ℕ) → ℕ
halving_length w = 11 * w + 12

abbrev pub rounding_length : (mode w : ℕ) → ℕ
rounding_length mode w = cond (is_down mode) 0 (6 * w + 3)

-- ---- sums and differences that are clipped

abbrev pub has_sign : Saturating → Bool
has_sign Saddu = false
has_sign Sadd = true
has_sign Ssubu = false
has_sign Ssub = true

abbrev pub is_difference : Saturating → Bool
is_difference Saddu = false
is_difference Sadd = false
is_difference Ssubu = true
is_difference Ssub = true

abbrev pub saturating_value : Saturating → (w mode a b : ℕ) → ℕ
saturating_value Saddu w mode a b = vsaddu w mode a b
saturating_value Sadd w mode a b = vsadd w mode a b
saturating_value Ssubu w mode a b = vssubu w mode a b
saturating_value Ssub w mode a b = vssub w mode a b

abbrev pub saturating_clips : Saturating → (w mode a b : ℕ) → Bool
saturating_clips Saddu w mode a b = vsaddu_clips w mode a b
saturating_clips Sadd w mode a b = vsadd_clips w mode a b
saturating_clips Ssubu w mode a b = vssubu_clips w mode a b
saturating_clips Ssub w mode a b = vssub_clips w mode a b

-- what leaves the value in the result row, and the row that tells in each bit whether it was clipped
abbrev pub saturating : (sign sub : Bool) (w a b : ℕ) → List Step
saturating false sub w a b = saturating_unsigned sub w a b
saturating true sub w a b = saturating_signed sub w a b

abbrev pub flag_row : (sign : Bool) → ℕ
flag_row false = truth_row
flag_row true = overflow_row

-- the operations of these steps
abbrev pub saturated_length : (sign sub : Bool) → (w : ℕ) → ℕ
saturated_length false false w = 14 * w + 8
saturated_length false true w = 14 * w + 6
saturated_length true sub w = 17 * w + 13

-- the flag is looked for before the value is committed
abbrev pub saturating_list : (sign sub : Bool) (w a b to : ℕ) → List MicroOp
saturating_list sign sub w a b to = micros w (saturating sign sub w a b) ++ (clip_test w (flag_row sign) ++ micros w (commit w result_row to))

abbrev pub saturating_ops : Saturating → (w : ℕ) → Place → List MicroOp
saturating_ops kind w at = saturating_list (has_sign kind) (is_difference kind) w at.a at.b at.to

abbrev pub saturating_counts : Saturating → (w : ℕ) → Counts
saturating_counts Saddu w = counts (9 * w + 9) (3 * w + 6) (2 * (w - 1))
saturating_counts Ssubu w = counts (9 * w + 7) (3 * w + 6) (2 * (w - 1))
saturating_counts _ w = counts (10 * w + 13) (4 * w + 8) (3 * (w - 1))

abbrev pub saturating_length : Saturating → (w : ℕ) → ℕ
saturating_length Saddu w = 14 * w + 14
saturating_length Ssubu w = 14 * w + 12
saturating_length _ w = 17 * w + 19

-- ---- clips of wide numbers, and the flag of a row

-- the value of a number of 2w bits, and whether it is clipped
abbrev pub clip_value : Clipping → (w x : ℕ) → ℕ
clip_value Clipu w x = low_int w (clipped_unsigned w (pos x))
clip_value Clip w x = low_int w (clipped w (signed (2 * w) x))

abbrev pub clip_tells : Clipping → (w x : ℕ) → Bool
clip_tells Clipu w x = clips_unsigned w (pos x)
clip_tells Clip w x = clips w (signed (2 * w) x)

-- The number of 2w bits that the list leaves: the value in its low half, with the high half of x or with zeros above it.
abbrev pub clip_left : Clipping → (w x : ℕ) → ℕ
clip_left Clipu w x = clip_value Clipu w x + x / 2 ^ w * 2 ^ w
clip_left Clip w x = clip_value Clip w x

-- and that of its flag: all ones in the low half where it is clipped
abbrev pub clip_flag : Clipping → (w x : ℕ) → ℕ
clip_flag kind w x = cond (clip_tells kind w x) (2 ^ w - 1) 0

abbrev pub clip_ops : Clipping → (w row : ℕ) → List MicroOp
clip_ops kind w row = micros (2 * w) (clipping kind w row)

-- the sum of the numbers below n
abbrev pub clip_counts : Clipping → (w : ℕ) → Counts
clip_counts Clipu w = counts (2 * w + 4) (2 * w + 2) (w * (w + 1) / 2 + (w - 1))
clip_counts Clip w = counts (5 * w + 10) (4 * w + 4) (3 * w - 2 + w * (w - 1) / 2)

abbrev pub clip_length : Clipping → (w : ℕ) → ℕ
clip_length Clipu w = 6 * w + 5
clip_length Clip w = 13 * w + 11

-- the flag of a row, at the lowest bit of each element
abbrev pub row_tells : (number : ℕ) → Bool
row_tells number = bit_of number 0
