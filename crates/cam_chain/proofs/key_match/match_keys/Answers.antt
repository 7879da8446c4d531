use Rattle.std.proofs.Common.{◌≡◌, ℕ, ◌+◌, ◌<◌, leb, eqb, zero, suc, Bool, true, false, List, length, get_or, take, map, arith, ◌∙◌, sym, ap}
use Rattle.std.proofs.lemmas.Bool.{and_parts}
use Rattle.bit_rows.proofs.Rows.{zip_bit, map_bit}
use Rattle.cam_chain.specs.Slices.{matches}
use Rattle.cam_chain.specs.KeyPairs.{are_apart, are_keys}
use Rattle.cam_chain.specs.ChainValue.{row_bit}
use Rattle.cam_chain.proofs.KeysOf.{row_below}
use Rattle.cam_chain.proofs.Rows.{lent_long}
use Rattle.cam_chain.proofs.Matching.{keyed-first, keyed-more}
use Rattle.cam_chain.proofs.key_match.match_keys.Goals as goal

key_below : (pairs : List (ℕ × Bool)) (k : ℕ) → are_keys pairs ≡ true → k < length pairs → (get_or pairs k (0, false)).0 < 64
key_below pairs k h l = row_below pairs k (and_parts (leb (length pairs) 4) (are_apart pairs) h).1 l

some_pairs : (n : ℕ) (none : Bool) → none ≡ eqb n 0 → none ≡ false → 0 < n
some_pairs zero none p q = absurd (differ (sym p ∙ q))
  where
    differ : true ≡ false → ⊥
    differ e = cc
some_pairs (suc n) none p q = omega arith

pub bounds-rows-base : goal.bounds-rows-base
bounds-rows-base c =
    let some : 0 < length c.as_slice-pairs.result.now = some_pairs (length c.as_slice-pairs.result.now) c.is_empty.result c.is_empty.ensures c.if-is_empty.false in
    let bound : (get_or c.as_slice-pairs.result.now 0 (0, false)).0 < 64 = key_below c.as_slice-pairs.result.now 0 c.as_slice-pairs.ensures.keys some in
    omega arith

pub match_from-requires : goal.match_from-requires
match_from-requires c =
    let some : 0 < length c.as_slice-pairs.result.now = some_pairs (length c.as_slice-pairs.result.now) c.is_empty.result c.is_empty.ensures c.if-is_empty.false in
    let bound : (get_or c.as_slice-pairs.result.now 0 (0, false)).0 < 64 = key_below c.as_slice-pairs.result.now 0 c.as_slice-pairs.ensures.keys some in
    let inside : c.args.base + (get_or c.as_slice-pairs.result.now 0 (0, false)).0 < length c.args.rows.now = omega arith in
    sym (lent_long _ _ _ _ c.requires.long inside c.index-rows-base.is)

pub loop-i-init : goal.loop-i-init
loop-i-init c =
    let some : 0 < length c.as_slice-pairs.result.now = some_pairs (length c.as_slice-pairs.result.now) c.is_empty.result c.is_empty.ensures c.if-is_empty.false in
    let bound : (get_or c.as_slice-pairs.result.now 0 (0, false)).0 < 64 = key_below c.as_slice-pairs.result.now 0 c.as_slice-pairs.ensures.keys some in
    let inside : c.args.base + (get_or c.as_slice-pairs.result.now 0 (0, false)).0 < length c.args.rows.now = omega arith in
    let long : length c.index-rows-base.result ≡ length c.args.into.now = lent_long _ _ _ _ c.requires.long inside c.index-rows-base.is in (
      c.match_from.ensures.len,
      λ k h. let l : k < length c.index-rows-base.result = omega (arith, h, c.match_from.ensures.len) in
          keyed-first c.args.rows.now c.args.base c.as_slice-pairs.result.now k c.index-rows-base.result _ some
          bound (omega arith) c.index-rows-base.is (map_bit _ _ _ k c.match_from.ensures.bits l),
    )

pub match_into-requires : goal.match_into-requires
match_into-requires c =
    let bound : (get_or c.as_slice-pairs.result.now c.loop-i.i (0, false)).0 < 64 = key_below _ c.loop-i.i c.as_slice-pairs.ensures.keys c.loop-i-test.true in
    let inside : c.args.base + (get_or c.as_slice-pairs.result.now c.loop-i.i (0, false)).0 < length c.args.rows.now = omega arith in
    lent_long _ _ _ _ c.requires.long inside c.index-rows-base-in-loop-i.is ∙ sym c.loop-i.invariant.0

pub loop-i-preserved : goal.loop-i-preserved
loop-i-preserved c =
    let bound : (get_or c.as_slice-pairs.result.now c.loop-i.i (0, false)).0 < 64 = key_below _ c.loop-i.i c.as_slice-pairs.ensures.keys c.loop-i-test.true in
    let inside : c.args.base + (get_or c.as_slice-pairs.result.now c.loop-i.i (0, false)).0 < length c.args.rows.now = omega arith in
    let same : length c.loop-i.into ≡ length c.index-rows-base-in-loop-i.result = c.loop-i.invariant.0 ∙ sym (lent_long _ _ _ _ c.requires.long inside c.index-rows-base-in-loop-i.is) in (
      c.match_into.ensures.len ∙ c.loop-i.invariant.0,
      λ k h. let l : k < length c.loop-i.into = omega arith in
          keyed-more c.args.rows.now c.args.base c.as_slice-pairs.result.now c.loop-i.i k c.index-rows-base-in-loop-i.result _ _ c.loop-i-test.true
          bound (omega arith) c.index-rows-base-in-loop-i.is (c.loop-i.invariant.1 k l) (zip_bit _ _ _ _ k c.match_into.ensures.bits same l),
    )
