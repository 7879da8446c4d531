-- The lists of comparisons tell their truths.
use Rattle.std.proofs.Common.{◌≡◌, ◌≢◌, ℕ, ◌+◌, ◌-◌, ◌^◌, ◌<◌, ◌≤◌, Bool, true, false, not, eqb, ltb, leb, int_lt, int_le, List, [], ◌∷◌, zero, suc, map, refl, sym, ◌∙◌, ap, arith, inr, ⊎_elim}
use Rattle.std.specs.Int.{from_bool}
use Rattle.bit_laws.specs.Numbers.{number}
use Rattle.micro_ir.specs.Steps.{step_on, steps_on, AllFit, micros, element}
use Rattle.micro_ir.proofs.Lift.{micros-element}
use Rattle.micro_ir.proofs.StepLists.{steps_on-append, AllFit-append}
use Rattle.micro_ir.specs.WorkRows.{mask_row, scalar_row, free_row}
use Rattle.micro_ir.specs.Pieces.{clear}
use Rattle.micro_ir.proofs.OneElement.{hit, fires-hit, step-row, clear-here, clear-fits, above-else, above-here, above-fits}
use Rattle.micro_ir.specs.WorkRows.{carry_row, truth_row}
use Rattle.micro_ir.specs.Pieces.{above}
use Rattle.gen_arith.specs.Recipes.{ripple, TruthTables, truth_steps, most_on, most_not_on, borrow_on, unlike_on, alike_on, at_most_on, at_most_signed_on, madc, madc_in, msbc, msbc_in, eq, ne, ltu, lt, leu, le, gtu, gt}
use Rattle.micro_ir.specs.Kinds.{Tells}
use Rattle.bit_laws.specs.Signed.{signed}
use Rattle.gen_arith.specs.Laws.{Apart, TruthNumbers, CarriedTruths}
use Rattle.gen_arith.proofs.Ripple.{or_no, bits_in, same_inputs, rippled, carry-out, ripple-fits}
use Rattle.gen_arith.proofs.Rows.{finds, IsLevel, level, carried, carries-carried}
use Rattle.gen_arith.proofs.Sums.{first_of, mask_in}
use Rattle.gen_arith.proofs.Orders.{carried-tells, borrows, borrow-follows, exceeds, exceed-follows, carries_out, carry-follows, differs, unlike-follows, biased, signed-tells, biased-order, biased-most, lt-inverts, gt-inverts, alike-negates, at_most-negates, signed-negates, not_lt, not_not}

-- what the tables find at the highest of n + 1 bits
abbrev pub truth_of : TruthTables → (n a b : ℕ) → (e : ℕ → ℕ → Bool) → Bool
truth_of k n a b e = finds k.last (carried k.carries (first_of k.from k.from_on e) (e a) (e b) n) (e a n) (e b n)

-- After the list the truth stands at the highest bit, the bits below it are clear, and every other row but the carries'
-- stays.
pub record Told (k : TruthTables) (n a b : ℕ) (e now : ℕ → ℕ → Bool) : Type 0 where
  pub top : now truth_row n ≡ truth_of k n a b e
  pub low : (j : ℕ) → j < n → now truth_row j ≡ false
  pub rest : (r j : ℕ) → r ≢ carry_row → r ≢ truth_row → now r j ≡ e r j

pub told : (k : TruthTables) (n a b : ℕ) (e : ℕ → ℕ → Bool) → Apart carry_row truth_row (a ∷ b ∷ []) → Apart carry_row truth_row k.from
    → Told k n a b e (steps_on (truth_steps k (suc n) a b) e)
unfolding steps_on truth_steps
told k n a b e rows from =
    let w = suc n in
    let one = above k.from k.from_on carry_row 0 0 in
    let e1 = step_on (clear w carry_row) e in
    let e2 = step_on (clear w truth_row) e1 in
    let e3 = step_on one e2 in
    let inputs : List ℕ = a ∷ b ∷ [] in
    let ds = ripple w (carry_row ∷ a ∷ b ∷ []) [] k.carries carry_row truth_row n in
    let e4 = steps_on ds e3 in
    let final = above (carry_row ∷ a ∷ b ∷ []) k.last truth_row n 0 in
    let start = first_of k.from k.from_on e in
    let z : suc n - 1 ≡ n = omega arith in
    let same : (r j : ℕ) → r ≢ carry_row → r ≢ truth_row → e3 r j ≡ e r j =
    λ r j p q. step-row one e2 r j p ∙ step-row (clear w truth_row) e1 r j q ∙ step-row (clear w carry_row) e r j p in
    let c_clear : (i : ℕ) → i < w → e2 carry_row i ≡ false = λ i l. step-row (clear w truth_row) e1 carry_row i (omega arith) ∙ clear-here w carry_row e i l in
    let first_is : e3 carry_row 0 ≡ start =
    above-here k.from k.from_on carry_row 0 0 e2
    ∙ rw (c_clear 0 (omega arith), fires-hit k.from k.from_on (λ r. e2 r 0)) (or_no (hit k.from_on (map (λ r. e2 r 0) k.from))
    ∙ ap (hit k.from_on) (same_inputs carry_row truth_row k.from (λ r. e2 r 0) (λ r. e r 0) from (λ r p q. step-row (clear w truth_row) e1 r 0 q ∙ step-row (clear w carry_row) e r 0 p))) in
    let ahead : (i : ℕ) → 0 < i → i < w → e3 carry_row i ≡ false =
    λ i l u. above-else k.from k.from_on carry_row 0 0 e2 carry_row i (omega arith) ∙ c_clear i u in
    let t_clear : (i : ℕ) → i < w → e3 truth_row i ≡ false = λ i l. step-row one e2 truth_row i (omega arith) ∙ clear-here w truth_row e1 i l in
    let apart = rows in
    let p = rippled w inputs [] k.carries carry_row truth_row start e3 n apart (omega arith) (omega arith) t_clear first_is ahead in
    let one_operand : (r : ℕ) → r ≢ carry_row → r ≢ truth_row → e3 r ≡ e r = λ r p q i j. same r j p q i in
    let y : n + 0 ≡ n = omega arith in
    let top_is : step_on final e4 truth_row n ≡ truth_of k n a b e =
    ap (λ (i : ℕ). step_on final e4 truth_row i) (sym y)
    ∙ above-here (carry_row ∷ a ∷ b ∷ []) k.last truth_row n 0 e4
    ∙ rw (y, p.beyond n (omega arith) (omega arith)) (or_no _
    ∙ carry-out w inputs [] k.carries k.last carry_row truth_row start e3 e4 n n apart (omega arith) (omega arith) p
    ∙ ap (λ x. hit k.last (x ∷ bits_in inputs e3 n)) (carries-carried k.carries a b start e3 n)
    ∙ rw (one_operand a rows.0 rows.1, one_operand b rows.2.0 rows.2.1) refl) in
    rw (z, steps_on-append ds (final ∷ []) e3) (record {
      top = top_is;
      low = λ j l. above-else (carry_row ∷ a ∷ b ∷ []) k.last truth_row n 0 e4 truth_row j (omega arith) ∙ p.done j l;
      rest = λ r j q s. step-row final e4 r j s ∙ p.rest r j q s ∙ same r j q s;
    })

pub truth-fits : (k : TruthTables) (n a b : ℕ) → IsLevel k.carries → AllFit (suc n) (truth_steps k (suc n) a b)
unfolding truth_steps
truth-fits k n a b whole =
    let w = suc n in
    let ds = ripple w (carry_row ∷ a ∷ b ∷ []) [] k.carries carry_row truth_row (w - 1) in
    let final = above (carry_row ∷ a ∷ b ∷ []) k.last truth_row (w - 1) 0 in (
      clear-fits w carry_row,
      (
        clear-fits w truth_row,
        (
          above-fits w k.from k.from_on carry_row 0 0 (omega arith) (inr (refl, refl)),
          AllFit-append w ds (final ∷ []) (ripple-fits w (carry_row ∷ a ∷ b ∷ []) [] k.carries carry_row truth_row (w - 1) (level k.carries a b whole) (omega arith))
              (above-fits w (carry_row ∷ a ∷ b ∷ []) k.last truth_row (w - 1) 0 (omega arith) (inr (refl, refl)), tt),
        ),
      ),
    )

-- the list tells what its tables find
tells : (k : TruthTables) (reads : Bool) (truth : (w a b : ℕ) → Bool → Bool) (w a b : ℕ) → 0 < w → Apart carry_row truth_row (a ∷ b ∷ []) → Apart carry_row truth_row k.from
    → IsLevel k.carries
    → ((n : ℕ) (e : ℕ → ℕ → Bool) (c : Bool) → (reads ≡ true → (j : ℕ) → j < suc n → e mask_row j ≡ c) → truth_of k n a b e ≡ truth (suc n) (number (suc n) (e a)) (number (suc n) (e b)) c)
    → Tells w reads (λ n c. truth w (n a) (n b) c) (micros w (truth_steps k w a b))
unfolding Tells
tells k reads truth zero a b pos rows from whole is = absurd (omega arith)
tells k reads truth (suc n) a b pos rows from whole is = λ s i col inside column.
    let e = element (suc n) i col s in
    let t = told k n a b e rows from in
    let z : suc n - 1 ≡ n = omega arith in
    rw (micros-element (suc n) i col (truth_steps k (suc n) a b) s (truth-fits k n a b whole) inside column) (record {
      told = λ c mask. rw z (t.top ∙ is n e c mask);
      kept = λ r j low l. ⊎_elim (λ (x : r ≤ scalar_row). t.rest r j (omega arith) (omega arith)) (λ (x : r ≡ free_row). t.rest r j (omega arith) (omega arith)) low;
    })

-- ---- the kinds

no_more : (x y : ℕ) → x + y + 0 ≡ x + y
no_more x y = omega arith

add_none : (y : ℕ) → y + 0 ≡ y
add_none y = omega arith

pub madc-tells : TruthNumbers madc (λ w a b. leb (2 ^ w) (a + b))
madc-tells w a b reads pos rows =
    tells madc reads (λ w a b c. leb (2 ^ w) (a + b)) w a b pos rows tt (λ a b. refl)
    (λ n e c mask. carried-tells most_on (carries_out 0) false refl (carry-follows 0 (omega arith)) (suc n) (e a) (e b) ∙ ap (leb (2 ^ suc n)) (no_more (number (suc n) (e a)) (number (suc n) (e b))))

pub ltu-is : (n a b : ℕ) (e : ℕ → ℕ → Bool) → truth_of ltu n a b e ≡ ltb (number (suc n) (e a)) (number (suc n) (e b))
ltu-is n a b e = carried-tells borrow_on (borrows 0) false refl (borrow-follows 0 (omega arith)) (suc n) (e a) (e b) ∙ ap (ltb (number (suc n) (e a))) (add_none (number (suc n) (e b)))

pub msbc-tells : TruthNumbers msbc (λ w a b. ltb a b)
msbc-tells w a b reads pos rows =
    tells msbc reads (λ w a b c. ltb a b) w a b pos rows tt (λ a b. refl) (λ n e c mask. ltu-is n a b e)

mask_carry : (n : ℕ) (e : ℕ → ℕ → Bool) (c : Bool) → (true ≡ true → (j : ℕ) → j < suc n → e mask_row j ≡ c) → first_of (mask_row ∷ []) (1 ∷ []) e ≡ c
mask_carry n e c mask = ap (λ x. hit (1 ∷ []) (x ∷ [])) (mask refl 0 (omega arith)) ∙ mask_in c

pub madc_in-tells : CarriedTruths madc_in (λ w a b c. leb (2 ^ w) (a + b + from_bool c))
madc_in-tells w a b pos rows =
    tells madc_in true (λ w a b c. leb (2 ^ w) (a + b + from_bool c)) w a b pos rows (omega arith, omega arith, tt) (λ a b. refl)
    (λ n e c mask. ap (λ z. carried most_on z (e a) (e b) (suc n)) (mask_carry n e c mask) ∙ by_mask n e c)
  where
    by_mask : (n : ℕ) (e : ℕ → ℕ → Bool) (c : Bool) → carried most_on c (e a) (e b) (suc n) ≡ leb (2 ^ suc n) (number (suc n) (e a) + number (suc n) (e b) + from_bool c)
    by_mask n e true = carried-tells most_on (carries_out 1) true refl (carry-follows 1 (omega arith)) (suc n) (e a) (e b)
    by_mask n e false = carried-tells most_on (carries_out 0) false refl (carry-follows 0 (omega arith)) (suc n) (e a) (e b)

pub msbc_in-tells : CarriedTruths msbc_in (λ w a b c. ltb a (b + from_bool c))
msbc_in-tells w a b pos rows =
    tells msbc_in true (λ w a b c. ltb a (b + from_bool c)) w a b pos rows (omega arith, omega arith, tt) (λ a b. refl)
    (λ n e c mask. ap (λ z. carried borrow_on z (e a) (e b) (suc n)) (mask_carry n e c mask) ∙ by_mask n e c)
  where
    by_mask : (n : ℕ) (e : ℕ → ℕ → Bool) (c : Bool) → carried borrow_on c (e a) (e b) (suc n) ≡ ltb (number (suc n) (e a)) (number (suc n) (e b) + from_bool c)
    by_mask n e true = carried-tells borrow_on (borrows 1) true refl (borrow-follows 1 (omega arith)) (suc n) (e a) (e b)
    by_mask n e false = carried-tells borrow_on (borrows 0) false refl (borrow-follows 0 (omega arith)) (suc n) (e a) (e b)

pub ne-tells : TruthNumbers ne (λ w a b. not (eqb a b))
ne-tells w a b reads pos rows =
    tells ne reads (λ w a b c. not (eqb a b)) w a b pos rows tt (λ a b. refl)
    (λ n e c mask. carried-tells unlike_on differs false refl unlike-follows (suc n) (e a) (e b))

pub eq-tells : TruthNumbers eq (λ w a b. eqb a b)
eq-tells w a b reads pos rows =
    tells eq reads (λ w a b c. eqb a b) w a b pos rows tt (λ a b. refl)
    (λ n e c mask. alike-negates (carried unlike_on false (e a) (e b) n) (e a n) (e b n)
    ∙ ap not (carried-tells unlike_on differs false refl unlike-follows (suc n) (e a) (e b))
    ∙ not_not (eqb (number (suc n) (e a)) (number (suc n) (e b))))

pub ltu-tells : TruthNumbers ltu (λ w a b. ltb a b)
ltu-tells = msbc-tells

pub gtu-tells : TruthNumbers gtu (λ w a b. ltb b a)
gtu-tells w a b reads pos rows =
    tells gtu reads (λ w a b c. ltb b a) w a b pos rows tt (λ a b. refl)
    (λ n e c mask. carried-tells most_not_on exceeds false refl exceed-follows (suc n) (e a) (e b))

pub leu-tells : TruthNumbers leu (λ w a b. leb a b)
leu-tells w a b reads pos rows =
    tells leu reads (λ w a b c. leb a b) w a b pos rows tt (λ a b. refl)
    (λ n e c mask. at_most-negates (carried most_not_on false (e a) (e b) n) (e a n) (e b n)
    ∙ ap not (carried-tells most_not_on exceeds false refl exceed-follows (suc n) (e a) (e b))
    ∙ not_lt (number (suc n) (e a)) (number (suc n) (e b)))

pub lt-is : (n a b : ℕ) (e : ℕ → ℕ → Bool) → truth_of lt n a b e ≡ int_lt (signed (suc n) (number (suc n) (e a))) (signed (suc n) (number (suc n) (e b)))
lt-is n a b e =
    signed-tells borrow_on most_not_on (borrows 0) false refl (borrow-follows 0 (omega arith)) lt-inverts n (e a) (e b)
    ∙ ap (ltb (biased (suc n) (number (suc n) (e a)))) (add_none (biased (suc n) (number (suc n) (e b))))
    ∙ biased-order n (e a) (e b)

pub lt-tells : TruthNumbers lt (λ w a b. int_lt (signed w a) (signed w b))
lt-tells w a b reads pos rows =
    tells lt reads (λ w a b c. int_lt (signed w a) (signed w b)) w a b pos rows tt (λ a b. refl) (λ n e c mask. lt-is n a b e)

pub gt-tells : TruthNumbers gt (λ w a b. int_lt (signed w b) (signed w a))
gt-tells w a b reads pos rows =
    tells gt reads (λ w a b c. int_lt (signed w b) (signed w a)) w a b pos rows tt (λ a b. refl)
    (λ n e c mask. signed-tells most_not_on borrow_on exceeds false refl exceed-follows gt-inverts n (e a) (e b)
    ∙ biased-order n (e b) (e a))

pub le-tells : TruthNumbers le (λ w a b. int_le (signed w a) (signed w b))
le-tells w a b reads pos rows =
    tells le reads (λ w a b c. int_le (signed w a) (signed w b)) w a b pos rows tt (λ a b. refl)
    (λ n e c mask. signed-negates (carried most_not_on false (e a) (e b) n) (e a n) (e b n)
    ∙ ap not (signed-tells most_not_on borrow_on exceeds false refl exceed-follows gt-inverts n (e a) (e b))
    ∙ not_lt (biased (suc n) (number (suc n) (e a))) (biased (suc n) (number (suc n) (e b)))
    ∙ biased-most n (e a) (e b))
