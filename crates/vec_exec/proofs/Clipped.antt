-- A shift that rounds, and then a clip of its results: together they leave the value of a narrowing clip, and tell where it clips.
use Rattle.std.proofs.Common.{◌≡◌, ℕ, zero, suc, ◌-◌, ◌*◌, ◌/◌, ◌%◌, ◌^◌, ◌<◌, ◌≤◌, Bool, true, false, cond, List, ℤ, pos, refl, sym, ◌∙◌, ap, arith}
use Rattle.std.proofs.Math.Nat.{add-mul-mod_self_right}
use Rattle.std.proofs.Math.Pow.{pow_mono, pow_pos}
use Rattle.bit_laws.specs.Numbers.{number, low, bit_of}
use Rattle.bit_laws.specs.Rounding.{low_int, rounded, clipped, clips, clipped_unsigned, clips_unsigned}
use Rattle.bit_laws.specs.Signed.{signed}
use Rattle.bit_laws.proofs.Ints.{int-low, low-small}
use Rattle.bit_laws.proofs.Numbers.{bit-number, number-lt}
use Rattle.frame_laws.specs.Classes.Halved.{LeavesLow, LeavesFlag}
use Rattle.gen_fixed.specs.Kinds.{clip_value, clip_tells, clip_left, clip_flag}
use Rattle.gen_fixed.specs.Laws.{LeavesClipped, LeavesFlag as LeavesFlags, clip_rows}
use Rattle.gen_fixed.specs.Lists.{overflow_row, clipped_row}
use Rattle.gen_fixed.specs.declared.kinds.Clipping.{Clipping}
use Rattle.gen_fixed.specs.declared.kinds.Clipping.TheVariants.{Clipu, Clip}
use Rattle.gen_fixed.proofs.Composed.{leaves-then}
use Rattle.gen_shift.specs.Kinds.{rounded_value}
use Rattle.gen_shift.specs.Laws.{LeavesRounded, LeavesValue}
use Rattle.gen_shift.specs.Rows.{rounded_row, rounding_rows}
use Rattle.gen_shift.specs.declared.kinds.Shift.TheVariants.{Srl, Sra}
use Rattle.micro_ir.specs.Steps.{element}
use Rattle.micro_ir.specs.declared.op.MicroOp.{MicroOp}
use Rattle.micro_ir.specs.declared.place.Place.{Place}
use Rattle.rvv_meaning.specs.Operations.{log2}
use Rattle.vec_exec.specs.Programs.{LeavesHalf, FlagsHalf}
use Rattle.vec_exec.specs.Recipes.{shift_of, moved_in, list_of, list_at, value_of, clips_of}
use Rattle.vec_exec.specs.declared.recipes.Listed.TheVariants.{Clips}
use Rattle.vec_exec.proofs.Listing.{leaves-half}
use Rattle.vec_exec.proofs.RoundedRange.{rounded-written, rounded-signed}

-- ---- numbers

-- what a shift leaves that rounds, as a number of d bits, is the rounded number: nothing is lost
left-unsigned : (mode d l a b : ℕ) → 1 < d → a < 2 ^ d → pos (low d (rounded_value Srl mode d l a b)) ≡ rounded mode (pos a) (low l b)
left-unsigned mode d l a b some small = ap pos (sym (int-low d (rounded mode (pos a) (low l b)))) ∙ rounded-written mode d a (low l b) some small

left-signed : (mode d l a b : ℕ) → 2 < d → a < 2 ^ d → signed d (low d (rounded_value Sra mode d l a b)) ≡ rounded mode (signed d a) (low l b)
left-signed mode d l a b some small = ap (signed d) (sym (int-low d (rounded mode (signed d a) (low l b)))) ∙ rounded-signed mode d a (low l b) some small

-- what a clip takes, where the operands are a and b
abbrev shifted : Clipping → (w mode a b : ℕ) → ℕ
shifted kind w mode a b = low (2 * w) (rounded_value (shift_of (moved_in kind)) mode (2 * w) (log2 (2 * w)) a b)

-- its value is that of the narrowing clip, and it clips where that does
value-is : (kind : Clipping) (w mode a b : ℕ) → 2 ≤ w → a < 2 ^ (2 * w) → clip_value kind w (shifted kind w mode a b) ≡ value_of (Clips kind) w mode a b 0 false
value-is Clipu w mode a b least small = ap (λ (z : ℤ). low_int w (clipped_unsigned w z)) (left-unsigned mode (2 * w) (log2 (2 * w)) a b (omega arith) small)
value-is Clip w mode a b least small = ap (λ (z : ℤ). low_int w (clipped w z)) (left-signed mode (2 * w) (log2 (2 * w)) a b (omega arith) small)

tells-is : (kind : Clipping) (w mode a b : ℕ) → 2 ≤ w → a < 2 ^ (2 * w) → clip_tells kind w (shifted kind w mode a b) ≡ clips_of (Clips kind) w mode a b 0
tells-is Clipu w mode a b least small = ap (clips_unsigned w) (left-unsigned mode (2 * w) (log2 (2 * w)) a b (omega arith) small)
tells-is Clip w mode a b least small = ap (clips w) (left-signed mode (2 * w) (log2 (2 * w)) a b (omega arith) small)

-- the low half of what a clip leaves is its value
left-low : (kind : Clipping) (w x : ℕ) → low w (clip_left kind w x) ≡ low w (clip_value kind w x)
left-low Clipu w x = add-mul-mod_self_right (clip_value Clipu w x) (x / 2 ^ w) (2 ^ w)
left-low Clip w x = refl

-- the lowest bit of the flag tells the clip
flag-bit : (w d : ℕ) (t : Bool) → 0 < w → w ≤ d → bit_of (low d (cond t (2 ^ w - 1) 0)) 0 ≡ t
flag-bit zero d t some wide = absurd (omega (arith, some))
flag-bit (suc w) d false some wide = let least : 0 < 2 ^ d = pow_pos d in rw (low-small d 0 least) refl
flag-bit (suc w) d true some wide =
    let more : 2 ^ suc w ≤ 2 ^ d = pow_mono wide in
    let half : 0 < 2 ^ w = pow_pos w in
    let odd : (2 ^ suc w - 1) / 2 ^ 0 % 2 ≡ 1 = omega (arith, half) in
    rw (low-small d (2 ^ suc w - 1) (omega (arith, more, half)), odd) refl

-- ---- lists

-- a list that leaves a value leaves each whose low half is the same, for numbers of an element
leaves-alike : (w row : ℕ) (work : List ℕ) (u v : (ℕ → ℕ) → ℕ) (ops : List MicroOp) → ((n : ℕ → ℕ) → ((r : ℕ) → n r < 2 ^ (2 * w)) → low w (u n) ≡ low w (v n)) → LeavesLow w row work u ops → LeavesLow w row work v ops
unfolding LeavesLow
leaves-alike w row work u v ops same leaves s k col fits inside =
    let x = leaves s k col fits inside in
    record {
      made = x.made ∙ same (λ r. number (2 * w) (element (2 * w) k col s r)) (λ r. number-lt (2 * w) (element (2 * w) k col s r));
      kept = x.kept;
    }

module _ (kind : Clipping) (w : ℕ) (at : Place) (least : 2 ≤ w) (shift : LeavesRounded (shift_of (moved_in kind)) (2 * w) (log2 (2 * w)) at) where
  abbrev row : ℕ
  row = rounded_row at.mode (log2 (2 * w))

  pub clips-leave : LeavesClipped kind w (rounded_row at.mode (log2 (2 * w))) → LeavesHalf (Clips kind) w at.mode at.a at.b (list_at (Clips kind) w at)
  unfolding list_of
  clips-leave clip =
      let value : (ℕ → ℕ) → ℕ = λ n. rounded_value (shift_of (moved_in kind)) at.mode (2 * w) (log2 (2 * w)) (n at.a) (n at.b) in
      let both = leaves-then (2 * w) row clipped_row rounding_rows clip_rows value (clip_left kind w) _ _ shift clip in
      leaves-alike w clipped_row _ _ _ _ (λ n small. left-low kind w _ ∙ ap (low w) (value-is kind w at.mode (n at.a) (n at.b) least (small at.a)))
      (leaves-half w (2 * w) clipped_row _ _ _ refl both)

  pub clips-flag : LeavesFlags kind w (rounded_row at.mode (log2 (2 * w))) → FlagsHalf (Clips kind) w at.mode at.a at.b (list_at (Clips kind) w at)
  unfolding list_of LeavesFlag LeavesValue
  clips-flag clip s k col fits inside =
      let value : (ℕ → ℕ) → ℕ = λ n. rounded_value (shift_of (moved_in kind)) at.mode (2 * w) (log2 (2 * w)) (n at.a) (n at.b) in
      let x = leaves-then (2 * w) row overflow_row rounding_rows clip_rows value (clip_flag kind w) _ _ shift clip s k col fits inside in
      let n : ℕ → ℕ = λ r. number (2 * w) (element (2 * w) k col s r) in
      let tells = clip_tells kind w (shifted kind w at.mode (n at.a) (n at.b)) in
      sym (bit-number (2 * w) _ 0 (omega (arith, least)))
      ∙ ap (λ (m : ℕ). bit_of m 0) x.made
      ∙ flag-bit w (2 * w) tells (omega (arith, least)) (omega arith)
      ∙ tells-is kind w at.mode (n at.a) (n at.b) least (number-lt (2 * w) (element (2 * w) k col s at.a))
