-- The steps of the frame: the scalar in every element, and ones in agnostic elements.
use Rattle.std.proofs.Common.{◌≡◌, ◌≢◌, ℕ, ◌+◌, ◌*◌, ◌/◌, ◌%◌, ◌^◌, ◌<◌, bit_and, add-one, sym, Bool, true, false, cond, ◌&&◌, eqb, ltb, [], ◌∷◌, ◌++◌, refl, ◌∙◌, arith, ⊎_elim}
use Rattle.std.proofs.lemmas.Bool.{cases_eq, lt-ltb, le-ltb, eq-eqb, ne_eqb}
use Rattle.std.proofs.lemmas.Nat.{one_shl}
use Rattle.std.proofs.lemmas.Nat.Bits.{shr_and_one}
use Rattle.std.proofs.Math.Nat.{mod-lt}
use Rattle.std.specs.Int.{bit_at}
use Rattle.bit_laws.specs.Numbers.{bit_of}
use Rattle.micro_ir.specs.Steps.{steps_on, micro, micros}
use Rattle.micro_ir.specs.declared.op.MicroOp.TheVariants.{Search, Update}
use Rattle.micro_ir.specs.Folding.{table_keys, first_whole, keys_with}
use Rattle.micro_ir.specs.Subs.{subs_below, subs_of}
use Rattle.micro_ir.specs.Pieces.{clear}
use Rattle.micro_ir.specs.Effects.{Makes}
use Rattle.micro_ir.proofs.PieceLists.{still}
use Rattle.micro_ir.specs.WorkRows.{scalar_row, free_row}
use Rattle.micro_ir.proofs.OneElement.{hit, fires-hit, step-row, everywhere-here, everywhere-fits}
use Rattle.micro_ir.proofs.Effects.{makes}
use Rattle.micro_ir.proofs.StepLists.{tally-micros, length-micros, AllInRange-micros}
use Rattle.micro_ir.specs.Pieces.{splat, fill_step}
use Rattle.micro_ir.proofs.Scalars.{splat-here, splat-row, splat-fits}
use Rattle.micro_ir.specs.Measures.{counts, Measured}

-- the list of the scalar, as it is written
pub splat-list : (w scalar : ℕ) → let ones : ℕ → Bool = λ j. ltb j w && bit_of scalar j in
    micros w (splat w scalar) ≡ micro w (clear w scalar_row) ++ (Search (subs_of w ones) [] false ∷ Update (subs_of w ones) scalar_row true ∷ [])
unfolding micros micro splat table_keys first_whole keys_with
splat-list w scalar =
    let ones : ℕ → Bool = λ j. ltb j w && bit_of scalar j in
    rw (still w ones) refl

module _ (w scalar sub subs : ℕ) (some : 0 < w) where
  -- the places of an element where the scalar has ones
  abbrev pub ones : ℕ → Bool
  ones j = ltb j w && bit_of scalar j

  -- one subarray more, where the scalar has a one
  pub ones-more : sub < 32 → bit_and (scalar / 2 ^ (sub % w)) 1 ≡ 1 → subs ≡ subs_below w ones sub → subs + 1 * 2 ^ sub % 2 ^ 32 ≡ subs_below w ones (sub + 1)
  ones-more inside one so =
      rw (add-one sub, lt-ltb (sub % w) w (mod-lt sub some), eq-eqb (bit_at scalar (sub % w)) 1 (sym (shr_and_one scalar (sub % w)) ∙ one), one_shl sub 32 inside, so) refl

  -- and where it has none
  pub ones-none : (bit_and (scalar / 2 ^ (sub % w)) 1 ≢ 1) → subs ≡ subs_below w ones sub → subs ≡ subs_below w ones (sub + 1)
  ones-none none so =
      rw (add-one sub, lt-ltb (sub % w) w (mod-lt sub some), ne_eqb (bit_at scalar (sub % w)) 1 (λ one. none (shr_and_one scalar (sub % w) ∙ one)), so) (omega arith)

none_of : (a x y : Bool) → cond (a && false) x y ≡ y
none_of true x y = refl
none_of false x y = refl

pub splat-makes : (w scalar : ℕ) → Makes w (λ e r i. cond (eqb r scalar_row && ltb i w) (bit_of scalar i) (e r i)) (micros w (splat w scalar))
splat-makes w scalar =
    makes w _ (splat w scalar) (splat-fits w scalar) inside (λ e r i past none. rw (le-ltb i w past, none r) (none_of (eqb r scalar_row) (bit_of scalar i) false))
  where
    inside : (e : ℕ → ℕ → Bool) (r i : ℕ) → i < w → steps_on (splat w scalar) e r i ≡ cond (eqb r scalar_row && ltb i w) (bit_of scalar i) (e r i)
    inside e r i below = ⊎_elim
        (λ (same : r ≡ scalar_row). rw (same, lt-ltb i w below) (splat-here w scalar e i below))
        (λ (other : r ≢ scalar_row). rw (ne_eqb r scalar_row other) (splat-row w scalar e r i other))
        (cases_eq r scalar_row)

pub splat-measured : (w scalar : ℕ) → Measured (counts 2 2 0) 4 (micros w (splat w scalar))
unfolding splat
splat-measured w scalar = record {
  cost = tally-micros w (splat w scalar);
  count = length-micros w (splat w scalar);
  range = λ columns. AllInRange-micros columns w (splat w scalar) (omega arith, omega arith, (omega arith, omega arith, tt));
}

pub fill-makes : (w to : ℕ) → Makes w (λ e r i. cond (eqb r to && e free_row i) true (e r i)) (micros w (fill_step w to ∷ []))
unfolding steps_on
fill-makes w to =
    makes w _ (fill_step w to ∷ []) (everywhere-fits w (free_row ∷ []) (1 ∷ []) to, tt) inside (λ e r i past none. rw (none free_row, none r) (none_of (eqb r to) true false))
  where
    filled : (x y : Bool) → cond (hit (1 ∷ []) (x ∷ [])) true y ≡ cond x true y
    filled true y = refl
    filled false y = refl

    inside : (e : ℕ → ℕ → Bool) (r i : ℕ) → i < w → steps_on (fill_step w to ∷ []) e r i ≡ cond (eqb r to && e free_row i) true (e r i)
    inside e r i below = ⊎_elim
        (λ (same : r ≡ to). rw (same, eq-eqb to to refl) (everywhere-here w (free_row ∷ []) (1 ∷ []) to true e i below
        ∙ rw (fires-hit (free_row ∷ []) (1 ∷ []) (λ row. e row i)) (filled (e free_row i) (e to i))))
        (λ (other : r ≢ to). rw (ne_eqb r to other) (step-row (fill_step w to) e r i other))
        (cases_eq r to)

pub fill-measured : (w to : ℕ) → to < 32 → Measured (counts 1 1 0) 2 (micros w (fill_step w to ∷ []))
fill-measured w to register = record {
  cost = tally-micros w (fill_step w to ∷ []);
  count = length-micros w (fill_step w to ∷ []);
  range = λ columns. AllInRange-micros columns w (fill_step w to ∷ []) (omega arith, omega arith, tt);
}
