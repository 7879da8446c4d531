-- What legality says of a move: where its destination and its sources lie.
use Rattle.std.proofs.Common.{◌≡◌, ℕ, ◌+◌, ◌*◌, ◌/◌, ◌<◌, ◌≤◌, false, refl, ap, arith, inl, inr, ⊎_elim}
use Rattle.std.proofs.Math.Nat.{mul-le-mul_right}
use Rattle.element_ops.specs.Elements.{IsSize}
use Rattle.legal_groups.specs.Facts.{IsElementWidth, registers_for}
use Rattle.legal_groups.specs.Rules.{Lies, AreApart}
use Rattle.legal_groups.proofs.Valid.{Held}
use Rattle.legal_groups.proofs.Widths.{at_width, vlmax-held_at, vlmax-short}
use Rattle.rvv_decode.specs.declared.instruction.VInstr.{VInstr}
use Rattle.vtype_cfg.specs.declared.configuration.Cfg.{Cfg}
use Rattle.vtype_cfg.specs.Classes.{Place, mask, group, count_at}
use Rattle.vtype_cfg.specs.Settings.{vlmax}
use Rattle.vtype_cfg.proofs.Lengths.{vlen_from}
use Rattle.vtype_cfg.proofs.Supported.{vlen_bounded}
use Rattle.rvv_meaning.specs.Elementwise.{size_of}
use Rattle.element_moves.specs.Steps.{IsApart, Fits, Reads, ReadsBits, registers}

-- ---- widths

-- the bytes of an element, and how they fill a register of n words
record Sized (n w : ℕ) : Type 0 where
  size : IsSize (w / 8)
  whole : 8 * (w / 8) ≡ w
  divides : 32 * n / w * w ≡ 32 * n
  fills : 32 * n / w * (w / 8) ≡ 32 * n / 8

sized : (n w : ℕ) → IsElementWidth w → Sized n w
sized n w is =
    at_width (Sized n)
    (record { size = inl refl; whole = refl; divides = omega arith; fills = omega arith })
    (record { size = inr (inl refl); whole = refl; divides = omega arith; fills = omega arith })
    (record { size = inr (inr refl); whole = refl; divides = omega arith; fills = omega arith })
    w is

module _ (i : VInstr) (c : Cfg) (n : ℕ) (valid : Held c) (words : c.vlen ≡ 32 * n) (there : c.vtype.vill ≡ false) (sew : IsElementWidth c.vtype.sew) where
  -- how a group of elements of w bits is filled
  filled : (w : ℕ) → IsElementWidth w → c.vlen / w * (w / 8) ≡ size_of c
  filled w is = rw words (sized n w is).fills

  -- the elements up to the greatest length lie in such a group
  lie : (w : ℕ) → IsElementWidth w → vlmax c.vtype c.vlen ≤ registers_for c.vtype w * (c.vlen / w)
  lie w is = vlmax-held_at c.vtype w c.vlen is valid.setting there (rw words (sized n w is).divides)

  lie-bytes : (w : ℕ) → IsElementWidth w → vlmax c.vtype c.vlen * (w / 8) ≤ registers_for c.vtype w * size_of c
  lie-bytes w is =
      let scaled : vlmax c.vtype c.vlen * (w / 8) ≤ registers_for c.vtype w * (c.vlen / w) * (w / 8) = mul-le-mul_right (w / 8) (lie w is) in
      let bytes : registers_for c.vtype w * (c.vlen / w * (w / 8)) ≡ registers_for c.vtype w * size_of c = ap (λ (z : ℕ). registers_for c.vtype w * z) (filled w is) in
      omega arith

  -- the destination, which spares the mask
  pub destination-fits : Lies c.vtype (group c.vtype.sew) i.vd → (i.vm ≡ false → 0 < registers c → 0 < i.vd) → Fits i c
  destination-fits place spares =
      let w = c.vtype.sew in
      let s = sized n w sew in
      let g = registers_for c.vtype w in
      let lies = lie w sew in
      let short = vlmax-short c.vtype c.vlen valid.setting there in
      let length = valid.length in
      let bytes : g * (c.vlen / w * (w / 8)) ≡ g * size_of c = ap (λ (z : ℕ). g * z) (filled w sew) in
      record {
        size = s.size;
        whole = s.whole;
        room = place.room (omega arith);
        some = omega arith;
        length = omega arith;
        short = omega arith;
        fills = omega arith;
        wide = vlen_from c.vlen valid.vlen;
        vlen = vlen_bounded c.vlen valid.vlen;
        spares_mask = λ masked. spares masked (omega arith);
      }

  -- a source that lies apart from it
  is-apart : (source : Place) (first : ℕ) → 0 < count_at c.vtype source → Lies c.vtype source first → AreApart c.vtype (group c.vtype.sew) source i.vd first → IsApart (registers c) i.vd (count_at c.vtype source) first
  is-apart source first some lies apart = record {
    room = lies.room some;
    apart = ⊎_elim (λ (after : i.vd + registers c ≤ first). inr after) (λ (before : first + count_at c.vtype source ≤ i.vd). inl before) (apart (omega arith) some);
  }

  -- a group of elements of w bits, or its lowest elements
  pub source-read : (w first count : ℕ) → IsElementWidth w → first < 32 → count ≤ vlmax c.vtype c.vlen → Lies c.vtype (group w) first → AreApart c.vtype (group c.vtype.sew) (group w) i.vd first → Reads i c w first count
  source-read w first count is register few lies apart =
      let s = sized n w is in
      let scaled : count * (w / 8) ≤ vlmax c.vtype c.vlen * (w / 8) = mul-le-mul_right (w / 8) few in
      record {
        register = register;
        taken = count_at c.vtype (group w);
        apart = is-apart (group w) first (omega arith) lies apart;
        size = s.size;
        whole = s.whole;
        inside = omega (arith, lie-bytes w is);
      }

  -- a mask
  pub bits-read : (first : ℕ) → Lies c.vtype mask first → AreApart c.vtype (group c.vtype.sew) mask i.vd first → ReadsBits i c first
  bits-read first lies apart = is-apart mask first (omega arith) lies apart
