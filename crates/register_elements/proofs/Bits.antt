-- A bit of a register, in the slices.
use Rattle.std.proofs.Common.{◌≡◌, ℕ, ◌+◌, ◌*◌, ◌/◌, ◌%◌, ◌<◌, refl, sym, ◌∙◌, arith}
use Rattle.std.proofs.Math.Nat.{mod-lt}
use Rattle.bit_laws.proofs.Numbers.{bit-number}
use Rattle.bit_rows.specs.Slices.{Slices}
use Rattle.element_ops.specs.Elements.{mask_bit_of}
use Rattle.cam_chain.specs.Views.{registers_of}
use Rattle.cam_chain.proofs.Registers.{byte-here}

pub bit-here : (s : Slices) (r e : ℕ) → r < 32 → e < 32 * s.columns → s.bit (e % 32) r (e / 32) ≡ mask_bit_of (registers_of s) r e
bit-here s r e register inside =
    let within : e / 8 < 4 * s.columns = omega arith in
    let low : e % 8 < 8 = mod-lt e (omega arith) in
    let column : e / 8 / 4 ≡ e / 32 = omega arith in
    let sub : 8 * (e / 8 % 4) + e % 8 ≡ e % 32 = omega arith in
    sym (rw (byte-here s r (e / 8) register within) (bit-number 8 (λ b. s.bit (8 * (e / 8 % 4) + b) r (e / 8 / 4)) (e % 8) low ∙ rw (column, sub) refl))
