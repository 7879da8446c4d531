-- The lists of the kinds, as they are written.
use Rattle.std.proofs.Common.{◌≡◌, ℕ, ◌+◌, ◌-◌, ◌<◌, ◌≤◌, true, List, [], ◌∷◌, ◌++◌, suc, refl, ◌∙◌, ap, arith, append-nil, append_assoc}
use Rattle.std.proofs.lemmas.Bool.{lt-ltb, le-ltb}
use Rattle.micro_ir.specs.declared.op.MicroOp.{MicroOp}
use Rattle.micro_ir.specs.Steps.{micro, micros}
use Rattle.micro_ir.specs.WorkRows.{carry_row, result_row, truth_row}
use Rattle.micro_ir.specs.Pieces.{above, everywhere, clear, commit, downs}
use Rattle.micro_ir.proofs.StepLists.{micros-append, micros-one}
use Rattle.gen_arith.specs.Recipes.{digit, ripple, SumTables, sum_steps, TruthTables, truth_steps, choice_steps}

module _ (w : ℕ) (inputs digits carries : List ℕ) (carry out : ℕ) where
  -- no bit yet
  pub ripple-none : micros w (ripple w inputs digits carries carry out 0) ≡ []
  unfolding ripple micros
  ripple-none = refl

  -- a bit below the highest
  pub ripple-more : (n : ℕ) → n + 1 < w
      → micros w (ripple w inputs digits carries carry out (n + 1))
      ≡ micros w (ripple w inputs digits carries carry out n) ++ (micro w (above inputs digits out n 0) ++ micro w (above inputs carries carry n 1))
  unfolding ripple micros
  ripple-more n h =
      let e : n + 1 ≡ suc n = omega arith in
      let l : suc n < w = omega arith in
      rw e (micros-append w (ripple w inputs digits carries carry out n) (digit w inputs digits carries carry out n) ∙ rw (lt-ltb (suc n) w l, append-nil (micro w (above inputs carries carry n 1))) refl)

  -- the highest bit
  pub ripple-last : (n : ℕ) → w ≡ n + 1
      → micros w (ripple w inputs digits carries carry out w) ≡ micros w (ripple w inputs digits carries carry out n) ++ micro w (above inputs digits out n 0)
  unfolding ripple micros
  ripple-last n is =
      let e : w ≡ suc n = omega arith in
      let l : w ≤ suc n = omega arith in
      ap (λ (k : ℕ). micros w (ripple w inputs digits carries carry out k)) e
      ∙ micros-append w (ripple w inputs digits carries carry out n) (digit w inputs digits carries carry out n) ∙ rw (le-ltb (suc n) w l, append-nil (micro w (above inputs digits out n 0))) refl

-- The same where there are no digits: a table of no values makes no operation.
pub ripple-carry : (w : ℕ) (inputs carries : List ℕ) (carry out n : ℕ) → n + 1 < w
    → micros w (ripple w inputs [] carries carry out (n + 1)) ≡ micros w (ripple w inputs [] carries carry out n) ++ micro w (above inputs carries carry n 1)
unfolding micro
ripple-carry w inputs carries carry out n h = ripple-more w inputs [] carries carry out n h

-- a list that has grown by a part, or by two
pub one-more : (first done m : List MicroOp) {all now last : List MicroOp} → last ≡ now ++ m → now ≡ first ++ done → all ≡ done ++ m → last ≡ first ++ all
one-more first done m p q r = p ∙ rw (q, r) (simp append_assoc)

pub two-more : (first done m n : List MicroOp) {all now mid last : List MicroOp} → last ≡ mid ++ n → mid ≡ now ++ m → now ≡ first ++ done → all ≡ done ++ (m ++ n) → last ≡ first ++ all
two-more first done m n p q r s = p ∙ rw (q, r, s) (simp append_assoc)

-- ---- the kinds

pub sum-list : (k : SumTables) (w a b to : ℕ)
    → micros w (sum_steps k w a b to)
    ≡ micro w (clear w carry_row)
    ++ (micro w (above k.from k.from_on carry_row 0 0)
    ++ (micro w (clear w result_row)
    ++ (micros w (ripple w (carry_row ∷ a ∷ b ∷ []) k.digits k.carries carry_row result_row w) ++ micros w (commit w result_row to))))
unfolding sum_steps micros
sum-list k w a b to =
    rw (micros-append w (ripple w (carry_row ∷ a ∷ b ∷ []) k.digits k.carries carry_row result_row w) (commit w result_row to)) refl

pub truth-list : (k : TruthTables) (w a b : ℕ)
    → micros w (truth_steps k w a b)
    ≡ micro w (clear w carry_row)
    ++ (micro w (clear w truth_row)
    ++ (micro w (above k.from k.from_on carry_row 0 0)
    ++ (micros w (ripple w (carry_row ∷ a ∷ b ∷ []) [] k.carries carry_row truth_row (w - 1)) ++ micro w (above (carry_row ∷ a ∷ b ∷ []) k.last truth_row (w - 1) 0))))
unfolding truth_steps micros
truth-list k w a b =
    let last = above (carry_row ∷ a ∷ b ∷ []) k.last truth_row (w - 1) 0 in
    let carries = ripple w (carry_row ∷ a ∷ b ∷ []) [] k.carries carry_row truth_row (w - 1) in
    ap (λ l. micro w (clear w carry_row) ++ (micro w (clear w truth_row) ++ (micro w (above k.from k.from_on carry_row 0 0) ++ l)))
    (micros-append w carries (last ∷ []) ∙ ap (λ l. micros w carries ++ l) (micros-one w last))

pub choice-list : (k : TruthTables) (on : List ℕ) (w a b to : ℕ)
    → micros w (choice_steps k on w a b to)
    ≡ micros w (truth_steps k w a b)
    ++ (micros w (downs truth_row (w - 1))
    ++ (micro w (clear w result_row) ++ (micro w (everywhere w (truth_row ∷ a ∷ b ∷ []) on result_row true) ++ micros w (commit w result_row to))))
unfolding choice_steps micros
choice-list k on w a b to =
    let rest = clear w result_row ∷ everywhere w (truth_row ∷ a ∷ b ∷ []) on result_row true ∷ commit w result_row to in
    micros-append w (truth_steps k w a b) (downs truth_row (w - 1) ++ rest) ∙ ap (λ l. micros w (truth_steps k w a b) ++ l) (micros-append w (downs truth_row (w - 1)) rest)
