-- The row that a look-up finds.
use Rattle.std.proofs.Common.{◌≡◌, ℕ, Bool, true, false, cond, List, [], ◌∷◌, Some, refl}
use Rattle.std.specs.List.{list_all}
use Rattle.std.proofs.lemmas.Bool.{and_parts}
use Rattle.word_rows.specs.Rows.{Row, fits, look_up}
use Rattle.rvv_decode.specs.Layouts.{Kind}

-- a row of this kind, which the word fits, passes the test
pub record Found (test : Row Kind → Bool) (w : ℕ) (k : Kind) : Type 0 where
  pub row : Row Kind
  pub kind : row.kind ≡ k
  pub fit : fits row w ≡ true
  pub passed : test row ≡ true

-- where each row passes a test, the one that is found does
pub found_row : (test : Row Kind → Bool) (rs : List (Row Kind)) (w : ℕ) (k : Kind) → list_all test rs ≡ true → look_up rs w ≡ Some k → Found test w k
found_row test [] w k all e = cc
found_row test (r ∷ rs) w k all e =
    let parts = and_parts (test r) (list_all test rs) all in
    go (fits r w) refl e parts.0 (found_row test rs w k parts.1)
  where
    go : (b : Bool) → fits r w ≡ b → cond b (Some r.kind) (look_up rs w) ≡ Some k → test r ≡ true → (look_up rs w ≡ Some k → Found test w k) → Found test w k
    go true is found passed rest = let same : r.kind ≡ k = cc in record { row = r; kind = same; fit = is; passed = passed }
    go false is found passed rest = rest found
