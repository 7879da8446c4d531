-- Single steps of a shift, by what they write.
use Rattle.std.proofs.Common.{◌≡◌, ℕ, ◌+◌, ◌-◌, ◌<◌, ◌≤◌, Bool, true, false, ◌||◌, ◌&&◌, ltb, leb, [], ◌∷◌, refl, sym, ◌∙◌, arith, ⊎_elim}
use Rattle.std.proofs.lemmas.Bool.{cases_lt, lt-ltb, le-ltb, le-leb, lt-leb}
use Rattle.micro_ir.specs.Steps.{fires, step_on, moved}
use Rattle.micro_ir.proofs.OneElement.{hit, fires-hit, step-here, step-else}
use Rattle.gen_shift.specs.Lists.{slide, top_bits}

pub copied : (x : Bool) → hit (1 ∷ []) (x ∷ []) ≡ x
copied true = refl
copied false = refl

or_no : (b : Bool) → b || false ≡ b
or_no true = refl
or_no false = refl

-- one row that is copied
copies : (row : ℕ) (g : ℕ → Bool) → fires (row ∷ []) (1 ∷ []) g ≡ g row
copies row g = fires-hit (row ∷ []) (1 ∷ []) g ∙ copied (g row)

-- a row moved into a clear row
pub slide-up : (w row out h : ℕ) (e : ℕ → ℕ → Bool) (i : ℕ) → i < w → e out i ≡ false → step_on (slide w true row out h) e out i ≡ leb h i && e row (i - h)
slide-up w row out h e i inside clear =
    ⊎_elim
    (λ (l : i < h). step-else (slide w true row out h) e out i (rw (lt-leb h i l) refl) ∙ rw (lt-leb h i l) clear)
    (λ (l : h ≤ i).
    let at : moved (slide w true row out h) i ≡ true = rw (le-leb h i l, le-leb 0 (i - h) (omega arith), lt-ltb (i - h) (w - h) (omega arith)) refl in
    step-here (slide w true row out h) e i refl at ∙ rw (clear, copies row (λ r. e r (i - h)), le-leb h i l) (or_no (e row (i - h))))
    (cases_lt i h)

pub slide-down : (w row out h : ℕ) (e : ℕ → ℕ → Bool) (i : ℕ) → e out i ≡ false → step_on (slide w false row out h) e out i ≡ ltb (i + h) w && e row (i + h)
slide-down w row out h e i clear =
    ⊎_elim
    (λ (l : i + h < w).
    let at : moved (slide w false row out h) i ≡ true = rw (le-leb h (i + h) (omega arith), lt-ltb (i + h) w l) refl in
    step-here (slide w false row out h) e i refl at ∙ rw (clear, copies row (λ r. e r (i + h)), lt-ltb (i + h) w l) (or_no (e row (i + h))))
    (λ (l : w ≤ i + h). step-else (slide w false row out h) e out i (rw (le-leb h (i + h) (omega arith), le-ltb (i + h) w l) refl) ∙ rw (le-ltb (i + h) w l) clear)
    (cases_lt (i + h) w)

-- the highest bits of a row beside what stands there
pub top-here : (w row out h : ℕ) (e : ℕ → ℕ → Bool) (i : ℕ) → i < w → step_on (top_bits w row out h) e out i ≡ e out i || (leb (w - h) i && e row i)
top-here w row out h e i inside =
    let z : i - 0 ≡ i = omega arith in
    ⊎_elim
    (λ (l : i < w - h). step-else (top_bits w row out h) e out i (rw (z, lt-leb (w - h) i l, le-leb 0 i (omega arith)) refl) ∙ rw (lt-leb (w - h) i l) (sym (or_no (e out i))))
    (λ (l : w - h ≤ i).
    let at : moved (top_bits w row out h) i ≡ true = rw (z, le-leb (w - h) i l, lt-ltb i w inside, le-leb 0 i (omega arith)) refl in
    step-here (top_bits w row out h) e i refl at ∙ rw (z, copies row (λ r. e r i), le-leb (w - h) i l) (swapped (e row i) (e out i)))
    (cases_lt i (w - h))
  where
    swapped : (x y : Bool) → x || y ≡ y || x
    swapped true true = refl
    swapped true false = refl
    swapped false true = refl
    swapped false false = refl
