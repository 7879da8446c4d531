-- The parts, as they are written.
use Rattle.std.proofs.Common.{◌≡◌, ℕ, ◌-◌, Bool, true, false, List, [], ◌∷◌, ◌++◌, refl, ◌∙◌, ap}
use Rattle.micro_ir.specs.Steps.{micro, micros}
use Rattle.micro_ir.specs.WorkRows.{carry_row}
use Rattle.micro_ir.specs.Pieces.{above, below, clear}
use Rattle.micro_ir.proofs.StepLists.{micros-append, micros-one}
use Rattle.gen_arith.specs.Recipes.{ripple}
use Rattle.gen_shift.specs.Lists.{slide}
use Rattle.row_sums.specs.Sums.{total, sum_from, shifted_once, halved, doubled}

pub total-list : (w : ℕ) (inputs ds cs : List ℕ) (d k : ℕ)
    → micros w (total w inputs ds cs d k)
    ≡ micro w (clear w carry_row)
    ++ (micro w (clear w d) ++ (micro w (clear w k) ++ (micros w (ripple w inputs ds cs carry_row d w) ++ micro w (above inputs cs k (w - 1) 0))))
unfolding micros
total-list w inputs ds cs d k =
    ap (λ l. micro w (clear w carry_row) ++ (micro w (clear w d) ++ (micro w (clear w k) ++ l)))
    (micros-append w (ripple w inputs ds cs carry_row d w) (above inputs cs k (w - 1) 0 ∷ []) ∙ ap (λ l. micros w (ripple w inputs ds cs carry_row d w) ++ l) (micros-one w (above inputs cs k (w - 1) 0)))

pub sum_from-list : (w : ℕ) (from from_on inputs ds cs : List ℕ) (d : ℕ)
    → micros w (sum_from w from from_on inputs ds cs d)
    ≡ micro w (clear w carry_row) ++ (micro w (above from from_on carry_row 0 0) ++ (micro w (clear w d) ++ micros w (ripple w inputs ds cs carry_row d w)))
unfolding micros
sum_from-list w from from_on inputs ds cs d = refl

-- where nothing is carried in
pub sum-list : (w : ℕ) (inputs ds cs : List ℕ) (d : ℕ)
    → micros w (sum_from w [] [] inputs ds cs d) ≡ micro w (clear w carry_row) ++ (micro w (clear w d) ++ micros w (ripple w inputs ds cs carry_row d w))
unfolding micros micro
sum-list w inputs ds cs d = refl

pub once-list : (w : ℕ) (up : Bool) (from out : ℕ) → micros w (shifted_once w up from out) ≡ micro w (clear w out) ++ micro w (slide w up from out 1)
unfolding micros
once-list w up from out = ap (λ l. micro w (clear w out) ++ l) (micros-one w (slide w up from out 1))

pub halved-list : (w from out other j times : ℕ)
    → micros w (halved w from out other j times) ≡ micros w (shifted_once w false from out) ++ micro w (above (other ∷ []) (1 ∷ []) out j times)
halved-list w from out other j times =
    micros-append w (shifted_once w false from out) (above (other ∷ []) (1 ∷ []) out j times ∷ [])
    ∙ ap (λ l. micros w (shifted_once w false from out) ++ l) (micros-one w (above (other ∷ []) (1 ∷ []) out j times))

pub doubled-list : (w from out other : ℕ)
    → micros w (doubled w from out other) ≡ micros w (shifted_once w true from out) ++ micro w (below (other ∷ []) (1 ∷ []) out (w - 1) (w - 1))
doubled-list w from out other =
    micros-append w (shifted_once w true from out) (below (other ∷ []) (1 ∷ []) out (w - 1) (w - 1) ∷ [])
    ∙ ap (λ l. micros w (shifted_once w true from out) ++ l) (micros-one w (below (other ∷ []) (1 ∷ []) out (w - 1) (w - 1)))
