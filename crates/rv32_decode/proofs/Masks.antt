-- A number's bits under a mask.
use Rattle.std.proofs.Common.{◌≡◌, ℕ, ◌+◌, ◌*◌, ◌-◌, ◌/◌, ◌%◌, ◌^◌, ◌<◌, refl, sym, ◌∙◌, ap, arith}
use Rattle.std.specs.Prelude.{bit_and, bit_or}
use Rattle.std.specs.Int.Bits.{and_zero_l}
use Rattle.std.proofs.Math.Nat.{add_comm}
use Rattle.std.proofs.lemmas.Grind.{common_steps, and-not_self}
use Rattle.std.proofs.lemmas.Nat.{and_mask, and_block, and_comm, and_assoc, and-not, or_disjoint, pow_pos, mod_below}
use Rattle.word_rows.specs.Field.{field}

-- a mask with a block of ones above the others
and-field : (low width m w : ℕ) → m < 2 ^ low → bit_and w ((2 ^ width - 1) * 2 ^ low + m) ≡ field low width w * 2 ^ low + bit_and (w % 2 ^ low) m
and-field low width m w h =
    let at : w ≡ w / 2 ^ low * 2 ^ low + w % 2 ^ low = omega arith in
    ap (λ z. bit_and z ((2 ^ width - 1) * 2 ^ low + m)) at
    ∙ and_block low (w / 2 ^ low) (2 ^ width - 1) (w % 2 ^ low) m (mod_below w (2 ^ low) (pow_pos low)) h
    ∙ ap (λ z. z * 2 ^ low + bit_and (w % 2 ^ low) m) (and_mask (w / 2 ^ low) width)

-- the opcode and bits 14 to 12
pub and-f3 : (w : ℕ) → bit_and w 0x707f ≡ field 12 3 w * 2 ^ 12 + field 0 7 w
and-f3 w = grind (arith, common_steps, and-field 12 3 0x7f w (omega arith), and_mask (w % 2 ^ 12) 7)

-- the opcode, bits 14 to 12 and bits 31 to 25
pub and-f7 : (w : ℕ) → bit_and w 0xfe00707f ≡ field 25 7 w * 2 ^ 25 + field 12 3 w * 2 ^ 12 + field 0 7 w
and-f7 w = grind (arith, common_steps, and-field 25 7 0x707f w (omega arith), and-f3 (w % 2 ^ 25))

-- the bits under a mask and the others make the number
pub or-others : (w m : ℕ) → w < 2 ^ 32 → m < 2 ^ 32 → bit_or (bit_and w m) (w - bit_and w m) ≡ w
or-others w m fits mask_fits =
    let kept = bit_and w m in
    let others = bit_and w (2 ^ 32 - 1 - m) in
    let sum : others + kept ≡ w = cc (and-not 32 m w mask_fits fits, and_comm w m, and_comm w (2 ^ 32 - 1 - m)) in
    let no_other : bit_and others m ≡ 0 = and-not_self w (2 ^ 32 - 1) m m refl (omega arith) refl in
    let apart : bit_and kept others ≡ 0 =
    and_comm kept others ∙ ap (λ z. bit_and others z) (and_comm w m) ∙ sym (and_assoc w others m) ∙ ap (λ z. bit_and z w) no_other ∙ and_zero_l w in
    let rest : w - kept ≡ others = omega arith in
    ap (λ z. bit_or kept z) rest ∙ or_disjoint kept others apart ∙ add_comm kept others ∙ sum
