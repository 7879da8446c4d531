-- No word fits two rows of a table whose rows are told apart by a bit that both of them fix.
use Rattle.std.proofs.Common.{◌≡◌, ℕ, Bool, true, false, List, [], ◌∷◌, refl, sym, ◌∙◌, ap, length, ◌<◌}
use Rattle.std.specs.Prelude.{bit_and, ◌==◌, ◌&&◌, not, AllPairs, All, IsTrue}
use Rattle.std.specs.List.{list_all}
use Rattle.std.proofs.lemmas.Bool.{eqb-true, eq-eqb, and_parts, not-true, both_ways}
use Rattle.std.proofs.lemmas.List.Elements.{All-nil, All-cons}
use Rattle.std.proofs.lemmas.List.Kept.{AllPairs-cons}
use Rattle.std.proofs.Common.{arith}
use Rattle.word_rows.specs.Rows.{Row, fits, NoTwoFit}
use Rattle.word_rows.proofs.Walk.{agrees}

module _ {K : Type 0} where
  abbrev pub apart_from : Row K → List (Row K) → Bool
  apart_from r [] = true
  apart_from r (s ∷ ss) = not (bit_and r.value s.mask == bit_and s.value r.mask) && apart_from r ss

  abbrev pub all_apart : List (Row K) → Bool
  all_apart [] = true
  all_apart (r ∷ rs) = apart_from r rs && all_apart rs

  abbrev Apart : Row K → Row K → Type 0
  Apart r s = (word : ℕ) → IsTrue (fits r word) → IsTrue (fits s word) → ⊥

  from_here : (r : Row K) (ss : List (Row K)) → apart_from r ss ≡ true → All (Apart r) ss
  unfolding apart_from
  from_here r [] e = All-nil (Apart r)
  from_here r (s ∷ ss) e =
      let parts = and_parts _ _ e in
      All-cons (Apart r) s ss
      (λ w p q. both_ways _ (not-true _ parts.0) (eq-eqb _ _ (agrees w s.mask s.value r.mask r.value (eqb-true _ _ q) (eqb-true _ _ p))))
      (from_here r ss parts.1)

  pub no_two_fit : (rs : List (Row K)) → all_apart rs ≡ true → NoTwoFit rs
  unfolding all_apart
  no_two_fit [] e = λ i j d p q. absurd (omega arith)
  no_two_fit (r ∷ rs) e =
      let parts = and_parts _ _ e in AllPairs-cons Apart r rs (from_here r rs parts.0) (no_two_fit rs parts.1)
