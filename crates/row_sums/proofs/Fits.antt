-- The parts fit their element, and lists that leave a value in a row of work realise it.
use Rattle.std.proofs.Common.{◌≡◌, ℕ, ◌+◌, ◌-◌, ◌<◌, Bool, true, false, length, List, [], ◌∷◌, ◌++◌, zero, suc, refl, arith, inl, inr}
use Rattle.std.specs.Prelude.{IsTrue}
use Rattle.std.proofs.lemmas.Bool.{lt-ltb}
use Rattle.bit_laws.specs.Numbers.{number, low}
use Rattle.micro_ir.specs.Folding.{has_whole, are_rows}
use Rattle.micro_ir.specs.Kinds.{Realises}
use Rattle.micro_ir.specs.Pieces.{above, below, commit}
use Rattle.micro_ir.specs.Steps.{Step, pass_of, steps_on, AllFit, micros}
use Rattle.micro_ir.specs.WorkRows.{carry_row, scalar_row}
use Rattle.micro_ir.proofs.Committed.{commit-writes, lifted}
use Rattle.micro_ir.proofs.Folds.{copy-whole}
use Rattle.micro_ir.proofs.OneElement.{clear-fits, above-fits, below-fits, ranged-fits, commit-fits}
use Rattle.micro_ir.proofs.StepLists.{steps_on-append, AllFit-append}
use Rattle.gen_arith.specs.Recipes.{ripple}
use Rattle.gen_arith.proofs.Ripple.{ripple-fits}
use Rattle.gen_shift.specs.Lists.{move_range}
use Rattle.gen_shift.proofs.Fits.{move-stays}
use Rattle.gen_shift.proofs.Stays.{Within}
use Rattle.row_sums.specs.Sums.{total, sum_from, shifted_once, halved, doubled}
use Rattle.row_sums.proofs.Kept.{kept, past_scalar, low-off}

pub total-fits : (w : ℕ) (inputs ds cs : List ℕ) (d k : ℕ) → 0 < w → has_whole inputs cs ≡ true → AllFit w (total w inputs ds cs d k)
total-fits w inputs ds cs d k pos whole = (
  clear-fits w carry_row,
  (
    clear-fits w d,
    (
      clear-fits w k,
      AllFit-append w (ripple w inputs ds cs carry_row d w) (above inputs cs k (w - 1) 0 ∷ []) (ripple-fits w inputs ds cs carry_row d w whole (omega arith))
          (above-fits w inputs cs k (w - 1) 0 (omega arith) (inl whole), tt),
    ),
  ),
)

pub sum_from-fits : (w : ℕ) (from from_on inputs ds cs : List ℕ) (d : ℕ) → 0 < w → has_whole inputs cs ≡ true → AllFit w (sum_from w from from_on inputs ds cs d)
sum_from-fits w from from_on inputs ds cs d pos whole =
    (clear-fits w carry_row, (above-fits w from from_on carry_row 0 0 (omega arith) (inr (refl, refl)), (clear-fits w d, ripple-fits w inputs ds cs carry_row d w whole (omega arith))))

pub once-fits : (w : ℕ) (up : Bool) (from out : ℕ) → 1 < w → AllFit w (shifted_once w up from out)
once-fits w up from out wide = (clear-fits w out, (ranged-fits w (from ∷ []) (1 ∷ []) out (move_range up w 1) (move-stays w up 1 wide) (inl (copy-whole from)), tt))

pub halved-fits : (w from out other j times : ℕ) → 1 < w → j + times < w → AllFit w (halved w from out other j times)
halved-fits w from out other j times wide h =
    AllFit-append w (shifted_once w false from out) (above (other ∷ []) (1 ∷ []) out j times ∷ []) (once-fits w false from out wide)
    (above-fits w (other ∷ []) (1 ∷ []) out j times h (inl (copy-whole other)), tt)

pub doubled-fits : (w from out other : ℕ) → 1 < w → AllFit w (doubled w from out other)
doubled-fits w from out other wide =
    AllFit-append w (shifted_once w true from out) (below (other ∷ []) (1 ∷ []) out (w - 1) (w - 1) ∷ []) (once-fits w true from out wide)
    (below-fits w (other ∷ []) (1 ∷ []) out (w - 1) (w - 1) (omega arith) (omega arith) (inl (copy-whole other)), tt)

-- A list that leaves the value in a row of work, and then commits it.
pub work-realises : (w row to : ℕ) (reads : Bool) (works : List ℕ) (steps : List Step) (value : (ℕ → ℕ) → Bool → ℕ)
    → AllFit w steps → Within works steps → past_scalar works ≡ true → scalar_row < row → to < 32
    → ((e : ℕ → ℕ → Bool) (c : Bool) → number w (steps_on steps e row) ≡ low w (value (λ r. number w (e r)) c))
    → Realises w to reads value (micros w (steps ++ commit w row to))
work-realises w row to reads works steps value fits only past work register is =
    lifted w to reads value (steps ++ commit w row to) (AllFit-append w steps (commit w row to) fits (commit-fits w row to (omega arith)))
    (λ e. rw (steps_on-append steps (commit w row to) e)
    (commit-writes w row to reads value e (steps_on steps e) (omega arith) register (λ c mask. is e c)
    (λ r j l inside n. kept works steps e r only (low-off r works l past) n j)))

-- ---- rows that a step names

pub one-row : (r : ℕ) → r < 64 → IsTrue (are_rows (r ∷ []))
one-row r l = rw (lt-ltb r 64 l) refl

pub three-rows : (p q r : ℕ) → p < 64 → q < 64 → r < 64 → IsTrue (are_rows (p ∷ q ∷ r ∷ []))
three-rows p q r a b c = rw (lt-ltb p 64 a, lt-ltb q 64 b, lt-ltb r 64 c) refl

pub four-rows : (p q r s : ℕ) → p < 64 → q < 64 → r < 64 → s < 64 → IsTrue (are_rows (p ∷ q ∷ r ∷ s ∷ []))
four-rows p q r s a b c d = rw (lt-ltb p 64 a, lt-ltb q 64 b, lt-ltb r 64 c, lt-ltb s 64 d) refl

-- a move by some places is one pass
pub one-pass : (up : Bool) (n : ℕ) → 0 < n → length (pass_of up n) ≡ 1
one-pass up zero some = absurd (omega arith)
one-pass up (suc n) some = refl
