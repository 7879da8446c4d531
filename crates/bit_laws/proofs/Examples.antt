-- Rounded and clipped numbers, computed.
use Rattle.std.proofs.Common.{◌≡◌, true, false, pos, neg_ℤ, ◌+ℤ◌, ◌*ℤ◌, refl}
use Rattle.bit_laws.specs.Signed.{signed}
use Rattle.bit_laws.specs.Rounding.{low_int, rounded, clipped, clips, clipped_unsigned, clips_unsigned}

-- 257 over 2 in the four modes
half_up : rounded 0 (pos 257) 1 ≡ pos 129
half_up = refl

half_even : rounded 1 (pos 257) 1 ≡ pos 128
half_even = refl

half_down : rounded 2 (pos 257) 1 ≡ pos 128
half_down = refl

half_odd : rounded 3 (pos 257) 1 ≡ pos 129
half_odd = refl

-- -7 over 4 is -1.75, and -10 over 4 is -2.5
seven_even : rounded 1 (neg_ℤ (pos 7)) 2 ≡ neg_ℤ (pos 2)
seven_even = refl

ten_up : rounded 0 (neg_ℤ (pos 10)) 2 ≡ neg_ℤ (pos 2)
ten_up = refl

ten_even : rounded 1 (neg_ℤ (pos 10)) 2 ≡ neg_ℤ (pos 2)
ten_even = refl

ten_down : rounded 2 (neg_ℤ (pos 10)) 2 ≡ neg_ℤ (pos 3)
ten_down = refl

ten_odd : rounded 3 (neg_ℤ (pos 10)) 2 ≡ neg_ℤ (pos 3)
ten_odd = refl

-- a number over 1 is not rounded
whole : rounded 3 (pos 6) 0 ≡ pos 6
whole = refl

-- the least number of eight bits by itself is the one product that clips
product : clips 8 (rounded 0 (signed 8 128 *ℤ signed 8 128) 7) ≡ true
product = refl

product_clipped : low_int 8 (clipped 8 (rounded 0 (signed 8 128 *ℤ signed 8 128) 7)) ≡ 127
product_clipped = refl

sum_clipped : clipped 8 (signed 8 129 +ℤ signed 8 129) ≡ neg_ℤ (pos 128)
sum_clipped = refl

unsigned_clipped : clipped_unsigned 8 (pos 256) ≡ pos 255
unsigned_clipped = refl

below_clipped : clipped_unsigned 8 (neg_ℤ (pos 1)) ≡ pos 0
below_clipped = refl

unsigned_fits : clips_unsigned 8 (pos 255) ≡ false
unsigned_fits = refl
