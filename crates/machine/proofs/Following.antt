-- Where all but the registers of a chain stays, its slices are those before with the registers after.
use Rattle.std.proofs.Common.{◌≡◌, ℕ, ◌+◌, ◌*◌, ◌/◌, ◌%◌, ◌<◌, ◌≤◌, Bool, true, false, cond, ◌&&◌, ltb, refl, sym, ◌∙◌, arith, ⊎_elim}
use Rattle.std.proofs.lemmas.Bool.{and_parts, ltb-true, lt-ltb, le-ltb, cases_lt}
use Rattle.std.proofs.Math.Nat.{mod-lt}
use Rattle.bit_laws.specs.Numbers.{bit_of}
use Rattle.bit_laws.proofs.Numbers.{bit-number}
use Rattle.bit_rows.specs.Slices.{Slices, placed}
use Rattle.element_ops.specs.Elements.{byte_at}
use Rattle.cam_chain.specs.ChainValue.{ChainValue, slices_of}
use Rattle.cam_chain.specs.Views.{registers_of, KeepsRest}
use Rattle.cam_chain.proofs.Registers.{byte-here}
use Rattle.cam_chain.proofs.SlicesLemmas.{same_slices}
use Rattle.machine.specs.Moments.{with_registers}

-- a bit of the registers, by the byte that holds it
bit-here : (s : Slices) (sub row col : ℕ) → sub < 32 → row < 32 → col < s.columns → bit_of (byte_at (registers_of s) row (4 * col + sub / 8)) (sub % 8) ≡ s.bit sub row col
bit-here s sub row col low register inside =
    let at : 4 * col + sub / 8 < 4 * s.columns = omega arith in
    let column : (4 * col + sub / 8) / 4 ≡ col = omega arith in
    let place : 8 * ((4 * col + sub / 8) % 4) + sub % 8 ≡ sub = omega arith in
    rw (byte-here s row (4 * col + sub / 8) register at)
    (bit-number 8 (λ b. s.bit (8 * ((4 * col + sub / 8) % 4) + b) row ((4 * col + sub / 8) / 4)) (sub % 8) (mod-lt sub (omega arith)) ∙ rw (column, place) refl)

-- Where all but the registers stays, the slices after are those before with the registers after.
pub registers-follow : (a b : ChainValue) → KeepsRest (slices_of a) (slices_of b) → slices_of b ≡ with_registers (registers_of (slices_of b)) (slices_of a)
unfolding slices_of with_registers
registers-follow a b keeps =
    same_slices (slices_of b) (with_registers (registers_of (slices_of b)) (slices_of a)) keeps.columns (λ sub row col. each sub row col) keeps.tags keeps.num
  where
    each : (sub row col : ℕ) → (slices_of b).bit sub row col ≡ cond (placed a.columns sub col && ltb row 32) (bit_of (byte_at (registers_of (slices_of b)) row (4 * col + sub / 8)) (sub % 8)) ((slices_of a).bit sub row col)
    each sub row col =
        ⊎_elim
        (λ (low : row < 32).
        rw (lt-ltb row 32 low) (inside (placed a.columns sub col) refl low))
        (λ (high : 32 ≤ row). rw (le-ltb row 32 high) (outside (placed a.columns sub col) (keeps.rows sub row col high)))
        (cases_lt row 32)
      where
        outside : (p : Bool) → (slices_of b).bit sub row col ≡ (slices_of a).bit sub row col
            → (slices_of b).bit sub row col ≡ cond (p && false) (bit_of (byte_at (registers_of (slices_of b)) row (4 * col + sub / 8)) (sub % 8)) ((slices_of a).bit sub row col)
        outside true same = same
        outside false same = same

        inside : (p : Bool) → placed a.columns sub col ≡ p → row < 32
            → (slices_of b).bit sub row col ≡ cond (p && true) (bit_of (byte_at (registers_of (slices_of b)) row (4 * col + sub / 8)) (sub % 8)) ((slices_of a).bit sub row col)
        inside true there low =
            let parts = and_parts (ltb sub 32) (ltb col a.columns) there in
            let columns : b.columns ≡ a.columns = keeps.columns in
            sym (bit-here (slices_of b) sub row col (ltb-true sub 32 parts.0) low (rw columns (ltb-true col a.columns parts.1)))
        inside false there low =
            let columns : b.columns ≡ a.columns = keeps.columns in
            let none : placed b.columns sub col ≡ false = rw columns there in
            rw (none, there) refl
