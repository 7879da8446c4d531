-- The row of a table that fits a word, by its mask and value; and a table that no word of an opcode fits.
use Rattle.std.proofs.Common.{◌≡◌, ℕ, Bool, true, false, cond, List, [], ◌∷◌, Some, None, refl, sym, ◌∙◌, ap}
use Rattle.std.specs.Prelude.{bit_and, ◌==◌, ◌&&◌, not, find}
use Rattle.std.specs.List.{list_all}
use Rattle.std.proofs.lemmas.Bool.{eqb-true, eq-eqb, and_parts, not-true, false_from_ne_true, both_ways}
use Rattle.word_rows.specs.Rows.{Row, fits, look_up}
use Rattle.word_rows.proofs.Walk.{agrees}
use Rattle.word_rows.proofs.Apart.{apart_from, all_apart}

module _ {K : Type 0} where
  -- the row has this mask and this value
  abbrev pub is_row : ℕ → ℕ → Row K → Bool
  is_row mask value r = (r.mask == mask) && (r.value == value)

  -- a row that stands apart from all others does not fit a word that one of them fits
  beside : (s r : Row K) (ss : List (Row K)) (mask value word : ℕ) → apart_from s ss ≡ true → find (is_row mask value) ss ≡ Some r → bit_and word mask ≡ value → fits s word ≡ false
  beside s r [] mask value word apart found fit = cc
  beside s r (t ∷ ts) mask value word apart found fit =
      let parts = and_parts _ _ apart in
      go (is_row mask value t) refl parts.0 (λ later. beside s r ts mask value word parts.1 later fit) found
    where
      go : (b : Bool) → is_row mask value t ≡ b → not (bit_and s.value t.mask == bit_and t.value s.mask) ≡ true
          → (find (is_row mask value) ts ≡ Some r → fits s word ≡ false) → cond b (Some t) (find (is_row mask value) ts) ≡ Some r → fits s word ≡ false
      go true is differ later found =
          let same = and_parts _ _ is in
          let here : bit_and word t.mask ≡ t.value = ap (λ m. bit_and word m) (eqb-true t.mask mask same.0) ∙ fit ∙ sym (eqb-true t.value value same.1) in
          false_from_ne_true _ (λ fit_s. both_ways _ (not-true _ differ) (eq-eqb _ _ (agrees word t.mask t.value s.mask s.value here (eqb-true _ _ fit_s))))
      go false is differ later found = later found

  -- a word that a row fits has the row's kind
  pub looked_up : (rs : List (Row K)) (r : Row K) (mask value word : ℕ) → all_apart rs ≡ true → find (is_row mask value) rs ≡ Some r → bit_and word mask ≡ value → look_up rs word ≡ Some r.kind
  looked_up [] r mask value word apart found fit = cc
  looked_up (s ∷ ss) r mask value word apart found fit =
      let parts = and_parts _ _ apart in
      go (is_row mask value s) refl (λ later. looked_up ss r mask value word parts.1 later fit) (λ later. beside s r ss mask value word parts.0 later fit) found
    where
      go : (b : Bool) → is_row mask value s ≡ b → (find (is_row mask value) ss ≡ Some r → look_up ss word ≡ Some r.kind)
          → (find (is_row mask value) ss ≡ Some r → fits s word ≡ false) → cond b (Some s) (find (is_row mask value) ss) ≡ Some r → look_up (s ∷ ss) word ≡ Some r.kind
      go true is later other found =
          let same = and_parts _ _ is in
          let here : fits s word ≡ true = eq-eqb _ _ (ap (λ m. bit_and word m) (eqb-true s.mask mask same.0) ∙ fit ∙ sym (eqb-true s.value value same.1)) in
          let row : s ≡ r = cc in
          rw (here, row) refl
      go false is later other found = rw (other found) (later found)

  -- where each row asks for another opcode than a word has, none fits it
  pub none_fits : (rs : List (Row K)) (mask value word : ℕ) → list_all (λ r. not (bit_and r.value mask == bit_and value r.mask)) rs ≡ true → bit_and word mask ≡ value → look_up rs word ≡ None
  none_fits [] mask value word all fit = refl
  none_fits (r ∷ rs) mask value word all fit =
      let parts = and_parts _ _ all in
      let missed : fits r word ≡ false = false_from_ne_true _ (λ here. both_ways _ (not-true _ parts.0) (eq-eqb _ _ (agrees word mask value r.mask r.value fit (eqb-true _ _ here)))) in
      rw missed (none_fits rs mask value word parts.1 fit)
