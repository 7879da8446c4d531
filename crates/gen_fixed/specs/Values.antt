-- The values of operations in fixed point: sums and differences that are clipped, averages, and shifts of wide numbers that are
-- rounded and clipped (vector extension 1.0, section 12).
use Rattle.std.specs.Prelude.{ℕ, ◌*◌, Bool, cond, eqb, pos, ◌+ℤ◌, ◌-ℤ◌}
use Rattle.bit_laws.specs.Numbers.{low}
use Rattle.bit_laws.specs.Signed.{signed}
use Rattle.bit_laws.specs.Rounding.{low_int, rounded, clipped, clips, clipped_unsigned, clips_unsigned}

-- Each takes w, the width of an element in bits, the rounding mode, and then a, the element of vs2, and b, the element of vs1,
-- the scalar or the immediate, both below 2^w. Beside a value stands whether it was clipped.

-- the sum, clipped (section 12.1): without signs, and with signs
abbrev pub vsaddu : (w mode a b : ℕ) → ℕ
vsaddu w mode a b = low_int w (clipped_unsigned w (pos a +ℤ pos b))

abbrev pub vsaddu_clips : (w mode a b : ℕ) → Bool
vsaddu_clips w mode a b = clips_unsigned w (pos a +ℤ pos b)

abbrev pub vsadd : (w mode a b : ℕ) → ℕ
vsadd w mode a b = low_int w (clipped w (signed w a +ℤ signed w b))

abbrev pub vsadd_clips : (w mode a b : ℕ) → Bool
vsadd_clips w mode a b = clips w (signed w a +ℤ signed w b)

-- the difference, clipped (section 12.1): without signs, and with signs
abbrev pub vssubu : (w mode a b : ℕ) → ℕ
vssubu w mode a b = low_int w (clipped_unsigned w (pos a -ℤ pos b))

abbrev pub vssubu_clips : (w mode a b : ℕ) → Bool
vssubu_clips w mode a b = clips_unsigned w (pos a -ℤ pos b)

abbrev pub vssub : (w mode a b : ℕ) → ℕ
vssub w mode a b = low_int w (clipped w (signed w a -ℤ signed w b))

abbrev pub vssub_clips : (w mode a b : ℕ) → Bool
vssub_clips w mode a b = clips w (signed w a -ℤ signed w b)

-- half of the sum, rounded (section 12.2): without signs, and with signs
abbrev pub vaaddu : (w mode a b : ℕ) → ℕ
vaaddu w mode a b = low_int w (rounded mode (pos a +ℤ pos b) 1)

abbrev pub vaadd : (w mode a b : ℕ) → ℕ
vaadd w mode a b = low_int w (rounded mode (signed w a +ℤ signed w b) 1)

-- half of the difference, rounded, modulo 2^w (section 12.2): without signs, and with signs
abbrev pub vasubu : (w mode a b : ℕ) → ℕ
vasubu w mode a b = low_int w (rounded mode (pos a -ℤ pos b) 1)

abbrev pub vasub : (w mode a b : ℕ) → ℕ
vasub w mode a b = low_int w (rounded mode (signed w a -ℤ signed w b) 1)

-- ---- narrowing clips (section 12.5)

-- the logarithm of the width of an element, to the base 2
abbrev pub log2 : (w : ℕ) → ℕ
log2 w = cond (eqb w 8) 3 (cond (eqb w 16) 4 5)

-- an a that is twice as wide, shifted to the right by the low bits of b, as many as the logarithm of that width, rounded, and
-- clipped: without signs, and with signs
abbrev pub vnclipu : (w mode a b : ℕ) → ℕ
vnclipu w mode a b = low_int w (clipped_unsigned w (rounded mode (pos a) (low (log2 (2 * w)) b)))

abbrev pub vnclipu_clips : (w mode a b : ℕ) → Bool
vnclipu_clips w mode a b = clips_unsigned w (rounded mode (pos a) (low (log2 (2 * w)) b))

abbrev pub vnclip : (w mode a b : ℕ) → ℕ
vnclip w mode a b = low_int w (clipped w (rounded mode (signed (2 * w) a) (low (log2 (2 * w)) b)))

abbrev pub vnclip_clips : (w mode a b : ℕ) → Bool
vnclip_clips w mode a b = clips w (rounded mode (signed (2 * w) a) (low (log2 (2 * w)) b))
