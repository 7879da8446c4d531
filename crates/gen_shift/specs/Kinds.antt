-- The kinds: their values, their operations with the rows of a place, and what these cost. A width of w bits is 2^l.
use Rattle.std.specs.Prelude.{ℕ, ◌+◌, ◌-◌, ◌*◌, ◌/◌, ◌^◌, Bool, cond, eqb, ℤ, pos, List, false, length}
use Rattle.std.specs.Int.{int_shr}
use Rattle.bit_laws.specs.Numbers.{low}
use Rattle.bit_laws.specs.Rounding.{low_int, rounded}
use Rattle.bit_laws.specs.Signed.{signed}
use Rattle.cam_chain.specs.ChainValue.{no_counts}
use Rattle.cam_chain.specs.declared.counts.Counts.{Counts}
use Rattle.micro_ir.specs.Measures.{counts}
use Rattle.micro_ir.specs.Replay.{counts_and}
use Rattle.micro_ir.specs.Steps.{micros}
use Rattle.micro_ir.specs.declared.op.MicroOp.{MicroOp}
use Rattle.micro_ir.specs.declared.place.Place.{Place}
use Rattle.gen_shift.specs.declared.kinds.Shift.{Shift}
use Rattle.gen_shift.specs.declared.kinds.Shift.TheVariants.{Sll, Srl, Sra}
use Rattle.gen_shift.specs.Lists.{fills, shifting, shift_steps, mode_on, rounding, rounded_steps, extension}

-- a number of w bits with a sign over 2 to the low l bits of another one, rounded down
abbrev pub signed_shifted : (w l a b : ℕ) → ℕ
signed_shifted w l a b = low_int w (int_shr (signed w a) (low l b))

-- the values of numbers of w bits, of which the low w bits count: the amount is the low l bits of b
abbrev pub shift_value : Shift → (w l a b : ℕ) → ℕ
shift_value Sll w l a b = a * 2 ^ low l b
shift_value Srl w l a b = a / 2 ^ low l b
shift_value Sra w l a b = signed_shifted w l a b

-- the number that a shift to the right reads: with a sign where the sign comes in
abbrev pub read_as : Shift → (w a : ℕ) → ℤ
read_as Sll w a = pos a
read_as Srl w a = pos a
read_as Sra w a = signed w a

-- a number of w bits over 2 to the low l bits of another one, rounded
abbrev pub rounded_value : Shift → (mode w l a b : ℕ) → ℕ
rounded_value kind mode w l a b = low_int w (rounded mode (read_as kind w a) (low l b))

-- without a sign, and with one
abbrev pub ssrl_value : (mode w l a b : ℕ) → ℕ
ssrl_value mode w l a b = low_int w (rounded mode (pos a) (low l b))

abbrev pub ssra_value : (mode w l a b : ℕ) → ℕ
ssra_value mode w l a b = low_int w (rounded mode (signed w a) (low l b))

-- ---- shifts into a register

abbrev pub shift_ops : Shift → (w l : ℕ) → Place → List MicroOp
shift_ops kind w l at = micros w (shift_steps kind w l at.a at.b at.to)

abbrev pub shift_counts : Shift → (w l : ℕ) → Counts
shift_counts Sra w l = counts (l * (w + 9) + w + 5) (l * (w + 6) + w + 5) ((l + 2) * (w - 1))
shift_counts _ w l = counts (l * (w + 8) + 4) (l * (w + 5) + 4) ((l + 1) * (w - 1))

abbrev pub shift_length : Shift → (w l : ℕ) → ℕ
shift_length Sra w l = l * (3 * w + 15) + (3 * w + 9)
shift_length _ w l = l * (3 * w + 13) + 8

-- ---- shifts without a commit

abbrev pub raw_ops : Shift → (w l : ℕ) → Place → List MicroOp
raw_ops kind w l at = micros w (shifting kind false w l at.a at.b)

abbrev pub raw_counts : Shift → (w l : ℕ) → Counts
raw_counts Sra w l = counts (l * (w + 9) + w + 3) (l * (w + 6) + w + 3) ((l + 2) * (w - 1))
raw_counts _ w l = counts (l * (w + 8) + 2) (l * (w + 5) + 2) ((l + 1) * (w - 1))

abbrev pub raw_length : Shift → (w l : ℕ) → ℕ
raw_length Sra w l = l * (3 * w + 15) + (3 * w + 5)
raw_length _ w l = l * (3 * w + 13) + 4

-- ---- shifts that round, before their commit and with it

abbrev pub rounding_ops : Shift → (w l : ℕ) → Place → List MicroOp
rounding_ops kind w l at = micros w (rounding kind at.mode w l at.a at.b)

abbrev pub rounded_ops : Shift → (w l : ℕ) → Place → List MicroOp
rounded_ops kind w l at = micros w (rounded_steps kind at.mode w l at.a at.b at.to)

-- What a mode costs beside the shift, and the operations that it takes. The passes of the bits that go out are the sum of the
-- numbers below w that have one bit less than a power of two, halved: (w - 1) * (w - 2) / 6.
abbrev pub mode_counts : (mode w l : ℕ) → Counts
mode_counts mode w l =
    cond (eqb mode 2) no_counts (counts (3 * l + 4 * w + 2 + length (mode_on mode)) (3 * l + 3 * w + 3) (w - 1 + (w - 1) * (w - 2) / 6))

abbrev pub mode_length : (mode w l : ℕ) → ℕ
mode_length mode w l = cond (eqb mode 2) 0 (5 * l + 9 * w + 3 + length (mode_on mode))

abbrev pub rounding_counts : Shift → (mode w l : ℕ) → Counts
rounding_counts kind mode w l = counts_and (raw_counts kind w l) (mode_counts mode w l)

abbrev pub rounding_length : Shift → (mode w l : ℕ) → ℕ
rounding_length kind mode w l = raw_length kind w l + mode_length mode w l

abbrev pub rounded_counts : Shift → (mode w l : ℕ) → Counts
rounded_counts kind mode w l = counts_and (shift_counts kind w l) (mode_counts mode w l)

abbrev pub rounded_length : Shift → (mode w l : ℕ) → ℕ
rounded_length kind mode w l = shift_length kind w l + mode_length mode w l

-- their parts: what the sign takes, before the stages and at each of them; a stage; what goes out at a stage of h places, and
-- at all stages; and what a mode adds
abbrev pub sign_length : Shift → (w : ℕ) → ℕ
sign_length kind w = cond (fills kind) (3 * w + 1) 0

abbrev pub fill_length : Shift → ℕ
fill_length kind = cond (fills kind) 2 0

abbrev pub stage_length : Shift → (w : ℕ) → ℕ
stage_length kind w = 3 * w + 13 + fill_length kind

abbrev pub start_length : (keeps : Bool) → ℕ
start_length keeps = cond keeps 4 0

abbrev pub out_length : (keeps : Bool) (h : ℕ) → ℕ
out_length keeps h = cond keeps (3 * h + 5) 0

abbrev pub out_lengths : (keeps : Bool) (n : ℕ) → ℕ
out_lengths keeps n = cond keeps (5 * n + 3 * (2 ^ n - 1)) 0

abbrev pub stages_length : Shift → (keeps : Bool) (w n : ℕ) → ℕ
stages_length kind keeps w n = n * stage_length kind w + out_lengths keeps n

abbrev pub shifting_length : Shift → (keeps : Bool) (w l : ℕ) → ℕ
shifting_length kind keeps w l = raw_length kind w l + (start_length keeps + out_lengths keeps l)

abbrev pub adding_length : (mode w : ℕ) → ℕ
adding_length mode w = 6 * w + 2 + length (mode_on mode)

-- ---- the extension by a sign

abbrev pub extension_ops : (v w row : ℕ) → List MicroOp
extension_ops v w row = micros w (extension v w row)
