-- The lists that choose one of two rows realise it.
use Rattle.std.proofs.Common.{◌≡◌, ◌≢◌, ℕ, ◌-◌, ◌<◌, Bool, true, false, cond, not, ltb, int_lt, List, [], ◌∷◌, ◌++◌, zero, suc, refl, ◌∙◌, ap, arith}
use Rattle.bit_laws.specs.Numbers.{number, low}
use Rattle.bit_laws.proofs.Numbers.{number-lt, number-same}
use Rattle.micro_ir.specs.Steps.{Step, fires, step_on, steps_on, AllFit}
use Rattle.micro_ir.proofs.StepLists.{steps_on-append, AllFit-append}
use Rattle.micro_ir.specs.WorkRows.{result_row}
use Rattle.micro_ir.specs.Pieces.{everywhere, clear, commit}
use Rattle.micro_ir.specs.Kinds.{Writes}
use Rattle.micro_ir.proofs.OneElement.{fires-hit, step-row, clear-here, everywhere-here, clear-fits, everywhere-fits, commit-fits}
use Rattle.micro_ir.specs.WorkRows.{carry_row, truth_row}
use Rattle.micro_ir.specs.Pieces.{downs}
use Rattle.gen_arith.specs.Recipes.{TruthTables, truth_steps, first_on, second_on, choice_steps, ltu, lt}
use Rattle.bit_laws.specs.Signed.{signed}
use Rattle.gen_arith.specs.Laws.{Apart, ChoiceNumbers}
use Rattle.micro_ir.proofs.Effects.{downs-row, downs-here, downs-fit}
use Rattle.gen_arith.proofs.Rows.{finds, IsLevel}
use Rattle.gen_arith.proofs.Numbers.{low-top}
use Rattle.micro_ir.proofs.Committed.{commit-writes, lifted}
use Rattle.gen_arith.proofs.Truths.{truth_of, told, truth-fits, ltu-is, lt-is}

-- ---- the choice

-- The table finds one of the operands' bits, as the truth says.
abbrev Picks : (on : List ℕ) (picks : Bool → Bool) → Type 0
Picks on picks = (c x y : Bool) → finds on c x y ≡ cond (picks c) x y

as_found : (b : Bool) → cond b true false ≡ b
as_found true = refl
as_found false = refl

-- the number of the bits that are picked
picked : (w : ℕ) (p : Bool) (x y : ℕ → Bool) → number w (λ j. cond p (x j) (y j)) ≡ cond p (number w x) (number w y)
picked w true x y = refl
picked w false x y = refl

low-picked : (w : ℕ) (p : Bool) (x y : ℕ → Bool) → cond p (number w x) (number w y) ≡ low w (cond p (number w x) (number w y))
low-picked w true x y = low-top w (number w x) (number w x) false (number-lt w x) (omega arith)
low-picked w false x y = low-top w (number w y) (number w y) false (number-lt w y) (omega arith)

choice-writes : (k : TruthTables) (on : List ℕ) (picks : Bool → Bool) (n a b to : ℕ) (reads : Bool) (value : (ℕ → ℕ) → Bool → ℕ) (e : ℕ → ℕ → Bool)
    → Apart carry_row truth_row (a ∷ b ∷ []) → a ≢ result_row → b ≢ result_row → Apart carry_row truth_row k.from → to < 32
    → Picks on picks
    → ((c : Bool) → cond (picks (truth_of k n a b e)) (number (suc n) (e a)) (number (suc n) (e b)) ≡ value (λ r. number (suc n) (e r)) c)
    → Writes (suc n) to reads value e (steps_on (choice_steps k on (suc n) a b to) e)
unfolding steps_on choice_steps
choice-writes k on picks n a b to reads value e rows first second from register picks_on is =
    let w = suc n in
    let z : suc n - 1 ≡ n = omega arith in
    let truth = truth_of k n a b e in
    let e1 = steps_on (truth_steps k w a b) e in
    let e2 = steps_on (downs truth_row n) e1 in
    let e3 = step_on (clear w result_row) e2 in
    let merge = everywhere w (truth_row ∷ a ∷ b ∷ []) on result_row true in
    let e4 = step_on merge e3 in
    let t = told k n a b e rows from in
    let same : (r j : ℕ) → r ≢ carry_row → r ≢ truth_row → r ≢ result_row → e3 r j ≡ e r j =
    λ r j p q s. step-row (clear w result_row) e2 r j s ∙ downs-row truth_row n e1 r j q ∙ t.rest r j p q in
    let truths : (j : ℕ) → j < w → e3 truth_row j ≡ truth =
    λ j l. step-row (clear w result_row) e2 truth_row j (omega arith) ∙ downs-here truth_row n e1 t.low j (omega arith) ∙ t.top in
    let here : (j : ℕ) → j < w → e4 result_row j ≡ cond (picks truth) (e a j) (e b j) =
    λ j l. everywhere-here w (truth_row ∷ a ∷ b ∷ []) on result_row true e3 j l
    ∙ ap (cond (fires (truth_row ∷ a ∷ b ∷ []) on (λ r. e3 r j)) true) (clear-here w result_row e2 j l)
    ∙ as_found (fires (truth_row ∷ a ∷ b ∷ []) on (λ r. e3 r j))
    ∙ fires-hit (truth_row ∷ a ∷ b ∷ []) on (λ r. e3 r j)
    ∙ picks_on (e3 truth_row j) (e3 a j) (e3 b j)
    ∙ rw (truths j l, same a j rows.0 rows.1 first, same b j rows.2.0 rows.2.1 second) refl in
    let result : number w (e4 result_row) ≡ cond (picks truth) (number w (e a)) (number w (e b)) =
    number-same w (e4 result_row) (λ j. cond (picks truth) (e a j) (e b j)) here ∙ picked w (picks truth) (e a) (e b) in
    rw (z, steps_on-append (truth_steps k w a b) (downs truth_row n ++ clear w result_row ∷ merge ∷ commit w result_row to) e, steps_on-append (downs truth_row n) (clear w result_row ∷ merge ∷ commit w result_row to) e1)
    (commit-writes w result_row to reads value e e4 (omega arith) register
    (λ c mask. result ∙ low-picked w (picks truth) (e a) (e b) ∙ ap (low w) (is c))
    (λ r j low l. step-row merge e3 r j (omega arith) ∙ same r j (omega arith) (omega arith) (omega arith)))

choice-fits : (k : TruthTables) (on : List ℕ) (n a b to : ℕ) → IsLevel k.carries → AllFit (suc n) (choice_steps k on (suc n) a b to)
unfolding choice_steps
choice-fits k on n a b to whole =
    let w = suc n in
    let merge = everywhere w (truth_row ∷ a ∷ b ∷ []) on result_row true in
    let rest : List Step = clear w result_row ∷ merge ∷ commit w result_row to in
    AllFit-append w (truth_steps k w a b) (downs truth_row (w - 1) ++ rest) (truth-fits k n a b whole)
    (AllFit-append w (downs truth_row (w - 1)) rest (downs-fit w truth_row (w - 1) (omega arith))
    (clear-fits w result_row, (everywhere-fits w (truth_row ∷ a ∷ b ∷ []) on result_row, commit-fits w result_row to (omega arith))))

-- the list realises what the comparison and the table choose
choice-realises : (k : TruthTables) (on : List ℕ) (picks : Bool → Bool) (value : (w a b : ℕ) → ℕ) → Apart carry_row truth_row k.from → IsLevel k.carries → Picks on picks
    → ((n a b : ℕ) (e : ℕ → ℕ → Bool) → cond (picks (truth_of k n a b e)) (number (suc n) (e a)) (number (suc n) (e b)) ≡ value (suc n) (number (suc n) (e a)) (number (suc n) (e b)))
    → ChoiceNumbers k on value
choice-realises k on picks value from whole picks_on is zero a b to reads pos rows first second register = absurd (omega arith)
choice-realises k on picks value from whole picks_on is (suc n) a b to reads pos rows first second register =
    lifted (suc n) to reads (λ v c. value (suc n) (v a) (v b)) (choice_steps k on (suc n) a b to) (choice-fits k on n a b to whole)
    (λ e. choice-writes k on picks n a b to reads (λ v c. value (suc n) (v a) (v b)) e rows first second from register picks_on (λ c. is n a b e))

-- ---- the kinds

first-picks : Picks first_on (λ c. c)
first-picks true true true = refl
first-picks true true false = refl
first-picks true false true = refl
first-picks true false false = refl
first-picks false true true = refl
first-picks false true false = refl
first-picks false false true = refl
first-picks false false false = refl

second-picks : Picks second_on not
second-picks true true true = refl
second-picks true true false = refl
second-picks true false true = refl
second-picks true false false = refl
second-picks false true true = refl
second-picks false true false = refl
second-picks false false true = refl
second-picks false false false = refl

turned : (c : Bool) (x y : ℕ) → cond (not c) x y ≡ cond c y x
turned true x y = refl
turned false x y = refl

pub minu-numbers : ChoiceNumbers ltu first_on (λ w a b. cond (ltb a b) a b)
minu-numbers = choice-realises ltu first_on (λ c. c) (λ w a b. cond (ltb a b) a b) tt (λ a b. refl) first-picks
    (λ n a b e. ap (λ c. cond c (number (suc n) (e a)) (number (suc n) (e b))) (ltu-is n a b e))

pub maxu-numbers : ChoiceNumbers ltu second_on (λ w a b. cond (ltb a b) b a)
maxu-numbers = choice-realises ltu second_on not (λ w a b. cond (ltb a b) b a) tt (λ a b. refl) second-picks
    (λ n a b e. turned (truth_of ltu n a b e) (number (suc n) (e a)) (number (suc n) (e b)) ∙ ap (λ c. cond c (number (suc n) (e b)) (number (suc n) (e a))) (ltu-is n a b e))

pub min-numbers : ChoiceNumbers lt first_on (λ w a b. cond (int_lt (signed w a) (signed w b)) a b)
min-numbers = choice-realises lt first_on (λ c. c) (λ w a b. cond (int_lt (signed w a) (signed w b)) a b) tt (λ a b. refl) first-picks
    (λ n a b e. ap (λ c. cond c (number (suc n) (e a)) (number (suc n) (e b))) (lt-is n a b e))

pub max-numbers : ChoiceNumbers lt second_on (λ w a b. cond (int_lt (signed w a) (signed w b)) b a)
max-numbers = choice-realises lt second_on not (λ w a b. cond (int_lt (signed w a) (signed w b)) b a) tt (λ a b. refl) second-picks
    (λ n a b e. turned (truth_of lt n a b e) (number (suc n) (e a)) (number (suc n) (e b)) ∙ ap (λ c. cond c (number (suc n) (e b)) (number (suc n) (e a))) (lt-is n a b e))
