-- Rows of a table of words, and the look-up of a word.
use Rattle.std.specs.Prelude.{ℕ, ◌==◌, if◌then◌else◌, bit_and, Bool, List, [], ◌∷◌, Option, Some, None, AllPairs, IsTrue}

-- a word fits a row where its bits under the mask are the value
pub record Row (K : Type 0) : Type 0 where
  pub mask : ℕ
  pub value : ℕ
  pub kind : K

abbrev pub fits : {K : Type 0} → Row K → ℕ → Bool
fits r word = bit_and word r.mask == r.value

-- the kind of the first row that the word fits
abbrev pub look_up : {K : Type 0} → List (Row K) → ℕ → Option K
look_up [] word = None
look_up (r ∷ rs) word = if fits r word then Some r.kind else look_up rs word

-- no word fits two rows
abbrev pub NoTwoFit : {K : Type 0} → List (Row K) → Type 0
NoTwoFit rs = AllPairs (λ r s. (word : ℕ) → IsTrue (fits r word) → IsTrue (fits s word) → ⊥) rs
