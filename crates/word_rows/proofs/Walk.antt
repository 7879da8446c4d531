-- What complete tests find is what a look-up finds.
use Rattle.std.proofs.Common.{◌≡◌, ◌≢◌, ℕ, ◌+◌, ◌*◌, ◌-◌, ◌/◌, ◌%◌, ◌^◌, ◌<◌, Bool, true, false, cond, eqb, List, [], ◌∷◌, Option, Some, None, refl, sym, ◌∙◌, ap, arith, rules, min, max}
use Rattle.std.specs.Prelude.{◌==◌, ◌&&◌, bit_and, bit_or}
use Rattle.std.proofs.lemmas.Bool.{eqb-true, eq-eqb, ne_eqb, eqb-false, and_parts, false_from_ne_true, false≢true, both_ways}
use Rattle.std.proofs.lemmas.Nat.{and_comm, and_assoc, shl-shr}
use Rattle.std.proofs.lemmas.Nat.Bits.{and_high, same_from_bits, bit_at_and, bit_at_or}
use Rattle.word_rows.specs.Field.{field}
use Rattle.word_rows.specs.Rows.{Row, fits, look_up}
use Rattle.word_rows.specs.Tree.{Tree, leaf, test, mask_of, with_field, without_field, first_kind, is_settled, walk, is_complete}

-- `&` over `|`
pub and_or : (w a b : ℕ) → bit_and w (bit_or a b) ≡ bit_or (bit_and w a) (bit_and w b)
and_or w a b = same_from_bits _ _ (λ i. simp (bit_at_and, bit_at_or) (omega arith))

-- a word that fits a row agrees with the row on what is known of it
pub agrees : (w m v k x : ℕ) → bit_and w m ≡ v → bit_and w k ≡ x → bit_and x m ≡ bit_and v k
agrees w m v k x p q =
    ap (λ z. bit_and z m) (sym q) ∙ and_assoc m w k ∙ ap (λ z. bit_and w z) (and_comm k m) ∙ sym (and_assoc k w m) ∙ ap (λ z. bit_and z k) p

-- a word that fits on more bits fits on fewer
pub narrower : (w m v k x : ℕ) → bit_and w m ≡ v → bit_and m k ≡ k → bit_and v k ≡ x → bit_and w k ≡ x
narrower w m v k x p q r =
    ap (λ z. bit_and w z) (sym q) ∙ sym (and_assoc k w m) ∙ ap (λ z. bit_and z k) p ∙ r

field-mask : (low width w v : ℕ) → field low width w ≡ v → bit_and w (mask_of low width) ≡ v * 2 ^ low
field-mask low width w v e = and_high w width low ∙ ap (λ z. z * 2 ^ low) e

mask-field : (low width w v : ℕ) → bit_and w (mask_of low width) ≡ v * 2 ^ low → field low width w ≡ v
mask-field low width w v e =
    sym (shl-shr (field low width w) low) ∙ ap (λ z. z / 2 ^ low) (sym (and_high w width low) ∙ e) ∙ shl-shr v low

module _ {K : Type 0} where
  kept : (r : Row K) (rs rs' : List (Row K)) (w : ℕ) → look_up rs' w ≡ look_up rs w → (t : Bool) → (t ≡ false → fits r w ≡ false) → look_up (cond t (r ∷ rs') rs') w ≡ look_up (r ∷ rs) w
  kept r rs rs' w ih true _ = ap (λ o. cond (fits r w) (Some r.kind) o) ih
  kept r rs rs' w ih false f = rw (f refl) ih

  dropped : (r : Row K) (rs rs' : List (Row K)) (w : ℕ) → look_up rs' w ≡ look_up rs w → (t : Bool) → (t ≡ true → fits r w ≡ false) → look_up (cond t rs' (r ∷ rs')) w ≡ look_up (r ∷ rs) w
  dropped r rs rs' w ih false _ = ap (λ o. cond (fits r w) (Some r.kind) o) ih
  dropped r rs rs' w ih true f = rw (f refl) ih

  look_up-with_field : (rs : List (Row K)) (mask value w : ℕ) → bit_and w mask ≡ value → look_up (with_field mask value rs) w ≡ look_up rs w
  look_up-with_field [] mask value w h = refl
  look_up-with_field (r ∷ rs) mask value w h =
      kept r rs (with_field mask value rs) w (look_up-with_field rs mask value w h) _
      (λ no. false_from_ne_true _ (λ fit. both_ways _ no (eq-eqb _ _ (agrees w r.mask r.value mask value (eqb-true _ _ fit) h))))

  look_up-without_field : (rs : List (Row K)) (mask value w : ℕ) → bit_and w mask ≢ value → look_up (without_field mask value rs) w ≡ look_up rs w
  look_up-without_field [] mask value w h = refl
  look_up-without_field (r ∷ rs) mask value w h =
      dropped r rs (without_field mask value rs) w (look_up-without_field rs mask value w h) _
      (λ both. let parts = and_parts _ _ both in false_from_ne_true _ (λ fit.
      h (narrower w r.mask r.value mask value (eqb-true _ _ fit) (eqb-true _ _ parts.0) (eqb-true _ _ parts.1))))

  settled : (rs : List (Row K)) (mask value w : ℕ) → bit_and w mask ≡ value → is_settled mask value rs ≡ true → first_kind rs ≡ look_up rs w
  settled [] mask value w h e = refl
  settled (r ∷ rs) mask value w h e =
      let parts = and_parts _ _ e in
      rw (eq-eqb _ _ (narrower w mask value r.mask r.value h (eqb-true _ _ parts.0) (eqb-true _ _ parts.1))) refl

  one_test : (low width v mask value w : ℕ) (rs : List (Row K)) (x y : Option K) → bit_and w mask ≡ value
      → (bit_and w (bit_or mask (mask_of low width)) ≡ bit_or value (v * 2 ^ low) → x ≡ look_up (with_field (mask_of low width) (v * 2 ^ low) rs) w)
      → y ≡ look_up (without_field (mask_of low width) (v * 2 ^ low) rs) w
      → (b : Bool) → (field low width w == v) ≡ b → cond b x y ≡ look_up rs w
  one_test low width v mask value w rs x y h hit miss true is =
      let known = field-mask low width w v (eqb-true _ _ is) in
      hit (and_or w mask (mask_of low width) ∙ ap (λ z. bit_or z (bit_and w (mask_of low width))) h ∙ ap (λ z. bit_or value z) known)
      ∙ look_up-with_field rs (mask_of low width) (v * 2 ^ low) w known
  one_test low width v mask value w rs x y h hit miss false is =
      miss ∙ look_up-without_field rs (mask_of low width) (v * 2 ^ low) w (λ known. eqb-false _ _ is (mask-field low width w v known))

  -- what complete tests find is what a look-up finds
  pub walk-is : (t : Tree) (mask value : ℕ) (rs : List (Row K)) (w : ℕ) → bit_and w mask ≡ value → is_complete t mask value rs ≡ true → walk t mask value rs w ≡ look_up rs w
  walk-is leaf mask value rs w h e = settled rs mask value w h e
  walk-is (test low width v hit miss) mask value rs w h e =
      let parts = and_parts _ _ e in
      one_test low width v mask value w rs _ _ h
      (λ known. walk-is hit _ _ _ w known parts.0) (walk-is miss _ _ _ w h parts.1) _ refl
