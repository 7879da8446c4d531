-- The registers of blank slices, and a byte of a register read from a word.
use Rattle.std.proofs.Common.{◌≡◌, ℕ, ◌+◌, ◌*◌, ◌/◌, ◌%◌, ◌^◌, ◌<◌, eqb, refl, sym, ◌∙◌, arith, bit_and}
use Rattle.std.proofs.Math.ListN.{replicate}
use Rattle.std.specs.Int.{bit_at}
use Rattle.std.proofs.lemmas.Nat.{and_mask}
use Rattle.bit_laws.specs.Numbers.{bit_of}
use Rattle.bit_laws.proofs.Numbers.{number-same, number-part}
use Rattle.bit_laws.proofs.Lists.{tabulate-constant}
use Rattle.bit_rows.specs.Slices.{Slices, blank}
use Rattle.cam_chain.specs.Views.{register_byte, register_of, registers_of}
use Rattle.element_ops.specs.Elements.{byte_at}
use Rattle.frame_laws.proofs.Bytes.{byte-here}

pub blank-registers : (columns size : ℕ) → size ≡ 4 * columns → registers_of (blank columns) ≡ replicate 32 (replicate size 0)
unfolding registers_of
blank-registers columns size is =
    rw is (tabulate-constant 32 (register_of (blank columns)) (replicate (4 * columns) 0)
    (λ r below. tabulate-constant (4 * columns) (register_byte (blank columns) r) 0 (λ j inside. refl)))

pub word-byte : (s : Slices) (word r j : ℕ) → r < 32 → j < 4 * s.columns
    → ((i : ℕ) → i < 32 → eqb (bit_at word i) 1 ≡ s.bit i r (j / 4))
    → bit_and (word / 2 ^ (8 * (j % 4))) 255 ≡ byte_at (registers_of s) r j
word-byte s word r j register inside bits =
    and_mask (word / 2 ^ (8 * (j % 4))) 8
    ∙ sym (number-part word (8 * (j % 4)) 8)
    ∙ number-same 8 (λ b. bit_of word (8 * (j % 4) + b)) (λ b. s.bit (8 * (j % 4) + b) r (j / 4)) (λ b below. bits (8 * (j % 4) + b) (omega arith))
    ∙ sym (byte-here s r j register inside)
