-- Lists that clear the result row, make a result there by one step, and commit it; the kinds.
use Rattle.std.proofs.Common.{◌≡◌, ◌≢◌, ℕ, zero, suc, ◌+◌, ◌%◌, ◌<◌, ◌≤◌, min, max, Bool, true, false, cond, ◌&&◌, ◌||◌, not, eqb, List, [], ◌∷◌, ◌++◌, map, length, refl, sym, ◌∙◌, ap, arith, ⊎_elim}
use Rattle.std.specs.Prelude.{bit_and, bit_or, bit_xor}
use Rattle.std.specs.Int.{bit_at}
use Rattle.std.proofs.lemmas.Nat.Bits.{bit_at_and, bit_at_or, bit_at_xor, bit_at-lt}
use Rattle.std.proofs.lemmas.Bool.{lt-ltb}
use Rattle.bit_laws.specs.Numbers.{number, bit_of}
use Rattle.bit_laws.proofs.Numbers.{number-same, bit-number, number-bits}
use Rattle.micro_ir.specs.declared.op.MicroOp.{MicroOp}
use Rattle.micro_ir.specs.Steps.{Step, fires, step_on, steps_on, AllFit, micro, micros, element}
use Rattle.micro_ir.proofs.Lift.{micros-element}
use Rattle.micro_ir.proofs.StepLists.{tally-micros, length-micros, AllInRange-micros}
use Rattle.micro_ir.specs.Folding.{are_rows}
use Rattle.micro_ir.specs.WorkRows.{IsOperandRow, active_row, mask_row, result_row}
use Rattle.micro_ir.specs.Pieces.{everywhere, clear, commit}
use Rattle.micro_ir.specs.Kinds.{Realises, WritesBits, RealisesBits}
use Rattle.micro_ir.proofs.OneElement.{hit, fires-hit, step-row, everywhere-here, clear-here, commit-here, commit-row, everywhere-fits, clear-fits, commit-fits}
use Rattle.gen_logic.specs.declared.kinds.Logic.{Logic}
use Rattle.gen_logic.specs.declared.kinds.Logic.TheVariants.{And, Or, Xor, Nand, Nor, Xnor, Andn, Orn, First, Second, Merge}
use Rattle.gen_logic.specs.Recipes.{inputs_of, on_of, logic_steps, logic_counts, logic_length}
use Rattle.gen_logic.specs.Values.{differs, takes_mask, truth_of, value_of}
use Rattle.micro_ir.specs.Measures.{counts, Measured}

-- ---- from one element to all, and from bits to numbers

pub bits-lifted : (w to : ℕ) (value : (ℕ → Bool) → Bool) (steps : List Step) → AllFit w steps
    → ((e : ℕ → ℕ → Bool) → WritesBits w to value e (steps_on steps e)) → RealisesBits w to value (micros w steps)
unfolding RealisesBits
bits-lifted w to value steps fits writes s k col inside column = rw (micros-element w k col steps s fits inside column) (writes (element w k col s))

-- A list that realises a kind bit by bit realises it as numbers, whose bits are those of the kind. Where the mask is an
-- operand, the bits of its row are the mask bit.
pub numbers-of-bits : (w to : ℕ) (reads : Bool) (truth : (ℕ → Bool) → Bool) (value : (ℕ → ℕ) → Bool → ℕ) (ops : List MicroOp)
    → ((n : ℕ → ℕ) (m : Bool) (j : ℕ) → j < w → (reads ≡ true → bit_of (n mask_row) j ≡ m) → bit_of (value n m) j ≡ truth (λ r. bit_of (n r) j))
    → ((f g : ℕ → Bool) → ((r : ℕ) → f r ≡ g r) → truth f ≡ truth g)
    → RealisesBits w to truth ops → Realises w to reads value ops
unfolding RealisesBits Realises
numbers-of-bits w to reads truth value ops bits same real s k col inside column =
    let x = real s k col inside column in
    let e = element w k col s in
    let n : ℕ → ℕ = λ r. number w (e r) in
    record {
      active = λ h m mask.
          number-same w _ (bit_of (value n m)) (λ j below.
          x.bits j below ∙ rw (h j below) (same (λ r. e r j) (λ r. bit_of (n r) j) (λ r. sym (bit-number w (e r) j below))
          ∙ sym (bits n m j below (λ read. bit-number w (e mask_row) j below ∙ mask read j below))))
          ∙ number-bits w (value n m);
      idle = λ h j below. x.bits j below ∙ rw (h j below) refl;
      kept = x.kept;
    }

-- ---- one step between a clear and a commit

pub made : (w to : ℕ) (step : Step) (value : (ℕ → Bool) → Bool) (e : ℕ → ℕ → Bool) → to < 32 → step.out ≡ result_row
    → ((j : ℕ) → j < w → step_on step (step_on (clear w result_row) e) result_row j ≡ value (λ r. e r j))
    → WritesBits w to value e (steps_on (clear w result_row ∷ step ∷ commit w result_row to) e)
unfolding steps_on
made w to step value e register out result =
    let e1 = step_on (clear w result_row) e in
    let e2 = step_on step e1 in
    let same : (r j : ℕ) → r ≢ result_row → e2 r j ≡ e r j =
    λ r j other. step-row step e1 r j (rw out other) ∙ step-row (clear w result_row) e r j other in
    record {
      bits = λ j inside. commit-here w result_row to e2 j (omega arith) (omega arith) inside
          ∙ rw (same active_row j (omega arith), same to j (omega arith), result j inside) refl;
      kept = λ r j low other inside. commit-row w result_row to e2 r j other ∙ same r j (omega arith);
    }

-- ---- the tables of the kinds

by_two : (f g : Bool → Bool → Bool) → f true true ≡ g true true → f true false ≡ g true false → f false true ≡ g false true → f false false ≡ g false false → (x y : Bool) → f x y ≡ g x y
by_two f g p q r s true true = p
by_two f g p q r s true false = q
by_two f g p q r s false true = r
by_two f g p q r s false false = s

-- the values of a kind are found where its bit is 1
pub table-truth : (kind : Logic) (a b : ℕ) (f : ℕ → Bool) → hit (on_of kind) (map f (inputs_of kind a b)) ≡ truth_of kind (f mask_row) (f a) (f b)
table-truth And a b f = by_two (λ x y. hit (on_of And) (x ∷ y ∷ [])) (truth_of And false) refl refl refl refl (f a) (f b)
table-truth Or a b f = by_two (λ x y. hit (on_of Or) (x ∷ y ∷ [])) (truth_of Or false) refl refl refl refl (f a) (f b)
table-truth Xor a b f = by_two (λ x y. hit (on_of Xor) (x ∷ y ∷ [])) (truth_of Xor false) refl refl refl refl (f a) (f b)
table-truth Nand a b f = by_two (λ x y. hit (on_of Nand) (x ∷ y ∷ [])) (truth_of Nand false) refl refl refl refl (f a) (f b)
table-truth Nor a b f = by_two (λ x y. hit (on_of Nor) (x ∷ y ∷ [])) (truth_of Nor false) refl refl refl refl (f a) (f b)
table-truth Xnor a b f = by_two (λ x y. hit (on_of Xnor) (x ∷ y ∷ [])) (truth_of Xnor false) refl refl refl refl (f a) (f b)
table-truth Andn a b f = by_two (λ x y. hit (on_of Andn) (x ∷ y ∷ [])) (truth_of Andn false) refl refl refl refl (f a) (f b)
table-truth Orn a b f = by_two (λ x y. hit (on_of Orn) (x ∷ y ∷ [])) (truth_of Orn false) refl refl refl refl (f a) (f b)
table-truth First a b f = by_two (λ x y. hit (on_of First) (x ∷ [])) (truth_of First false) refl refl refl refl (f a) (f b)
table-truth Second a b f = by_two (λ x y. hit (on_of Second) (y ∷ [])) (truth_of Second false) refl refl refl refl (f a) (f b)
table-truth Merge a b f = merged (f mask_row)
  where
    merged : (m : Bool) → hit (on_of Merge) (m ∷ f a ∷ f b ∷ []) ≡ cond m (f b) (f a)
    merged true = by_two (λ x y. hit (on_of Merge) (true ∷ x ∷ y ∷ [])) (λ x y. y) refl refl refl refl (f a) (f b)
    merged false = by_two (λ x y. hit (on_of Merge) (false ∷ x ∷ y ∷ [])) (λ x y. x) refl refl refl refl (f a) (f b)

-- a test of bits, by their four values
by_bits : (f : ℕ → ℕ → Bool) (truth : Bool → Bool → Bool) → f 0 0 ≡ truth false false → f 0 1 ≡ truth false true → f 1 0 ≡ truth true false → f 1 1 ≡ truth true true
    → (a b : ℕ) → a < 2 → b < 2 → f a b ≡ truth (eqb a 1) (eqb b 1)
by_bits f truth p q r s zero zero u v = p
by_bits f truth p q r s zero (suc zero) u v = q
by_bits f truth p q r s (suc zero) zero u v = r
by_bits f truth p q r s (suc zero) (suc zero) u v = s
by_bits f truth p q r s (suc (suc a)) b u v = absurd (omega arith)
by_bits f truth p q r s zero (suc (suc b)) u v = absurd (omega arith)
by_bits f truth p q r s (suc zero) (suc (suc b)) u v = absurd (omega arith)

-- the bits of the number that a kind makes
value-bits : (kind : Logic) (w x y : ℕ) (m : Bool) (j : ℕ) → j < w → bit_of (value_of kind w x y m) j ≡ truth_of kind m (bit_of x j) (bit_of y j)
value-bits And w x y m j below = rw (bit_at_and x y j) (by_bits (λ a b. eqb (min a b) 1) (λ x y. x && y) refl refl refl refl (bit_at x j) (bit_at y j) (bit_at-lt x j) (bit_at-lt y j))
value-bits Or w x y m j below = rw (bit_at_or x y j) (by_bits (λ a b. eqb (max a b) 1) (λ x y. x || y) refl refl refl refl (bit_at x j) (bit_at y j) (bit_at-lt x j) (bit_at-lt y j))
value-bits Xor w x y m j below = rw (bit_at_xor x y j) (by_bits (λ a b. eqb ((a + b) % 2) 1) differs refl refl refl refl (bit_at x j) (bit_at y j) (bit_at-lt x j) (bit_at-lt y j))
value-bits Nand w x y m j below = bit-number w (λ i. not (bit_of x i && bit_of y i)) j below
value-bits Nor w x y m j below = bit-number w (λ i. not (bit_of x i || bit_of y i)) j below
value-bits Xnor w x y m j below = bit-number w (λ i. not (differs (bit_of x i) (bit_of y i))) j below
value-bits Andn w x y m j below = bit-number w (λ i. bit_of x i && not (bit_of y i)) j below
value-bits Orn w x y m j below = bit-number w (λ i. bit_of x i || not (bit_of y i)) j below
value-bits First w x y m j below = refl
value-bits Second w x y m j below = refl
value-bits Merge w x y true j below = refl
value-bits Merge w x y false j below = refl

-- a kind asks nothing of the mask bit where the mask is no operand
mask-asked : (kind : Logic) (reads : Bool) (m c x y : Bool) → (takes_mask kind || reads ≡ true → c ≡ m) → truth_of kind m x y ≡ truth_of kind c x y
mask-asked Merge reads m c x y is = rw (is refl) refl
mask-asked _ reads m c x y is = refl

-- ---- the laws

as_is : (b : Bool) → cond b true false ≡ b
as_is true = refl
as_is false = refl

made-here : (kind : Logic) (w a b : ℕ) (e : ℕ → ℕ → Bool) (j : ℕ) → j < w → a ≢ result_row → b ≢ result_row
    → step_on (everywhere w (inputs_of kind a b) (on_of kind) result_row true) (step_on (clear w result_row) e) result_row j ≡ truth_of kind (e mask_row j) (e a j) (e b j)
made-here kind w a b e j inside first second =
    let e1 = step_on (clear w result_row) e in
    let rows = inputs_of kind a b in
    let on = on_of kind in
    let kept : (r : ℕ) → r ≢ result_row → e1 r j ≡ e r j = λ r other. step-row (clear w result_row) e r j other in
    everywhere-here w rows on result_row true e1 j inside
    ∙ ap (cond (fires rows on (λ r. e1 r j)) true) (clear-here w result_row e j inside)
    ∙ as_is (fires rows on (λ r. e1 r j))
    ∙ fires-hit rows on (λ r. e1 r j)
    ∙ table-truth kind a b (λ r. e1 r j)
    ∙ rw (kept mask_row (omega arith), kept a first, kept b second) refl

logic-fits : (kind : Logic) (w a b to : ℕ) → AllFit w (logic_steps kind w a b to)
unfolding logic_steps
logic-fits kind w a b to = (clear-fits w result_row, (everywhere-fits w (inputs_of kind a b) (on_of kind) result_row, commit-fits w result_row to (omega arith)))

-- the list of a kind realises it, bit by bit and as numbers
pub logic-bits : (kind : Logic) (w a b to : ℕ) → a ≢ result_row → b ≢ result_row → to < 32
    → RealisesBits w to (λ n. truth_of kind (n mask_row) (n a) (n b)) (micros w (logic_steps kind w a b to))
unfolding logic_steps
logic-bits kind w a b to first second register =
    bits-lifted w to (λ n. truth_of kind (n mask_row) (n a) (n b)) (logic_steps kind w a b to) (logic-fits kind w a b to)
    (λ e. made w to (everywhere w (inputs_of kind a b) (on_of kind) result_row true) (λ n. truth_of kind (n mask_row) (n a) (n b)) e register refl
    (λ j inside. made-here kind w a b e j inside first second))

pub logic-numbers : (kind : Logic) (w a b to : ℕ) (reads : Bool) → a ≢ result_row → b ≢ result_row → to < 32
    → Realises w to (takes_mask kind || reads) (λ n m. value_of kind w (n a) (n b) m) (micros w (logic_steps kind w a b to))
logic-numbers kind w a b to reads first second register =
    numbers-of-bits w to (takes_mask kind || reads) (λ n. truth_of kind (n mask_row) (n a) (n b)) (λ n m. value_of kind w (n a) (n b) m) (micros w (logic_steps kind w a b to))
    (λ n m j below mask. value-bits kind w (n a) (n b) m j below ∙ mask-asked kind reads m (bit_of (n mask_row) j) (bit_of (n a) j) (bit_of (n b) j) mask)
    (λ f g same. rw (same mask_row, same a, same b) refl) (logic-bits kind w a b to first second register)

-- ---- what lists cost

-- a list with one step of some values between a clear and a commit
made-measured : (w to : ℕ) (rows on : List ℕ) → 0 < length on → to < 32
    → Measured (counts (length on + 3) 4 0) (length on + 7) (micros w (clear w result_row ∷ everywhere w rows on result_row true ∷ commit w result_row to))
made-measured w to rows [] some register = absurd (omega arith)
made-measured w to rows (t ∷ ts) some register =
    let steps : List Step = clear w result_row ∷ everywhere w rows (t ∷ ts) result_row true ∷ commit w result_row to in
    record {
      cost = tally-micros w steps ∙ (λ i. record { searches = (let z : 1 + (length (t ∷ ts) + (1 + (1 + 0))) ≡ length (t ∷ ts) + 3 = omega arith in z i); updates = 4; passes = 0 });
      count = length-micros w steps ∙ omega arith;
      range = λ columns. AllInRange-micros columns w steps (omega arith, omega arith, (omega arith, omega arith, (omega arith, omega arith, (omega arith, omega arith, tt))));
    }

pub some-values : (kind : Logic) → 0 < length (on_of kind)
some-values And = omega arith
some-values Or = omega arith
some-values Xor = omega arith
some-values Nand = omega arith
some-values Nor = omega arith
some-values Xnor = omega arith
some-values Andn = omega arith
some-values Orn = omega arith
some-values First = omega arith
some-values Second = omega arith
some-values Merge = omega arith

pub logic-measured : (kind : Logic) (w a b to : ℕ) → to < 32 → Measured (logic_counts kind) (logic_length kind) (micros w (logic_steps kind w a b to))
unfolding logic_steps
logic-measured kind w a b to register = made-measured w to (inputs_of kind a b) (on_of kind) (some-values kind) register

-- ---- as they are written

-- an operand does not stand in the row that results are made in
pub not-result : (r : ℕ) → IsOperandRow r → r ≢ result_row
not-result r is = ⊎_elim (λ (l : r < 32). let g : r ≢ 36 = omega arith in g) (λ q. ⊎_elim (λ (e : r ≡ 33). let g : r ≢ 36 = omega arith in g) (λ q. ⊎_elim (λ (e : r ≡ 34). let g : r ≢ 36 = omega arith in g) (λ q. ⊎_elim (λ (e : r ≡ 55). let g : r ≢ 36 = omega arith in g) (λ (e : r ≡ 56). let g : r ≢ 36 = omega arith in g) q) q) q) is

-- the rows that a kind reads are rows
pub operands-rows : (kind : Logic) (a b : ℕ) → a < 64 → b < 64 → are_rows (inputs_of kind a b) ≡ true
operands-rows First a b p q = rw (lt-ltb a 64 p) refl
operands-rows Second a b p q = rw (lt-ltb b 64 q) refl
operands-rows _ a b p q = rw (lt-ltb a 64 p, lt-ltb b 64 q) refl

pub operand-row : (r : ℕ) → IsOperandRow r → r < 64
operand-row r is = ⊎_elim (λ (l : r < 32). let g : r < 64 = omega arith in g) (λ q. ⊎_elim (λ (e : r ≡ 33). let g : r < 64 = omega arith in g) (λ q. ⊎_elim (λ (e : r ≡ 34). let g : r < 64 = omega arith in g) (λ q. ⊎_elim (λ (e : r ≡ 55). let g : r < 64 = omega arith in g) (λ (e : r ≡ 56). let g : r < 64 = omega arith in g) q) q) q) is

pub logic-parts : (kind : Logic) (w a b to : ℕ)
    → micros w (logic_steps kind w a b to) ≡ micro w (clear w result_row) ++ (micro w (everywhere w (inputs_of kind a b) (on_of kind) result_row true) ++ micros w (commit w result_row to))
unfolding micros logic_steps
logic-parts kind w a b to = refl

-- no list of a kind is longer
pub length-few : (kind : Logic) → logic_length kind ≤ 11
length-few And = omega arith
length-few Or = omega arith
length-few Xor = omega arith
length-few Nand = omega arith
length-few Nor = omega arith
length-few Xnor = omega arith
length-few Andn = omega arith
length-few Orn = omega arith
length-few First = omega arith
length-few Second = omega arith
length-few Merge = omega arith
