-- What the kinds on masks compute.
use Rattle.std.proofs.Common.{◌≡◌, ◌≢◌, ℕ, zero, suc, ◌+◌, ◌*◌, ◌/◌, ◌%◌, ◌^◌, ◌<◌, ◌≤◌, Bool, true, false, cond, ◌&&◌, eqb, ltb, List, [], ◌∷◌, refl, sym, ◌∙◌, ap, arith, ⊎_elim}
use mathlib.Core.Bool.{beq}
use Rattle.std.proofs.lemmas.Bool.{cases_eq, ne_eqb, eq-eqb}
use Rattle.std.proofs.lemmas.Bool.Decides.{nat_tests}
use Rattle.std.proofs.Math.Nat.{mod-eq_of_lt}
use Rattle.bit_rows.specs.Slices.{Slices}
use Rattle.cam_chain.specs.Slices.{selected, searched}
use Rattle.fold_laws.specs.Folds.{total, count}
use Rattle.fold_laws.proofs.Totals.{total-same}
use Rattle.steer_net.specs.Network.{bit_in}
use Rattle.steer_net.specs.Moves.{marked_below, reaches, per_row}
use Rattle.steer_net.specs.declared.reach.Reach.{Reach}
use Rattle.reduce_tree.specs.Tags.{is_tagged, tags_in, no_place, least_below}
use Rattle.micro_ir.specs.ControlNumbers.{first_found}
use Rattle.micro_ir.specs.Pieces.{commit}
use Rattle.micro_ir.specs.Replay.{replay}
use Rattle.micro_ir.specs.Steps.{micros}
use Rattle.micro_ir.specs.WorkRows.{active_row, result_row}
use Rattle.micro_ir.proofs.Lists.{replay-append}
use Rattle.micro_ir.proofs.OneElement.{commit-here, commit-row, commit-fits}
use Rattle.micro_ir.proofs.Subs.{sets-same}
use Rattle.row_views.specs.Lists.{lane}
use Rattle.row_views.specs.Views.{view}
use Rattle.row_views.proofs.Tags.{lane-count, searched-tag, selected-spot}
use Rattle.row_views.proofs.Views.{view-in, view-micros, view-rewritten}
use Rattle.gen_reduce.specs.Masks.{every, cpop_ops, first_ops, prefix_search, prefix_ops, is_set, MakesNumber, set_count, first_set, prefix_bit, MarksPrefix}
use Rattle.gen_reduce.proofs.Firsts.{least-same, least-is, reached}

beq_true : (b : Bool) → beq b true ≡ b
beq_true true = refl
beq_true false = refl

-- a place of a row, as an element of one bit
view-place : (s : Slices) (r e : ℕ) → view 1 s e r 0 ≡ bit_in s r e
view-place s r e = let z : e * 1 + 0 ≡ e = omega arith in view-in 1 s e r 0 (omega arith) ∙ rw z refl

places-are : (s : Slices) → per_row 1 s ≡ 32 * s.columns
places-are s = omega arith

pub count-few : (n : ℕ) (t : ℕ → Bool) → count n t ≤ n
unfolding total
count-few zero t = omega arith
count-few (suc n) t = elim (t n) as (λ b. total n (λ k. cond (t k) 1 0) + cond b 1 0 ≤ suc n) [
  | true ↦ omega (arith, count-few n t)
  | false ↦ omega (arith, count-few n t)
]

-- how many places are set
pub cpop-makes : (row : ℕ) → MakesNumber (set_count row) (cpop_ops row)
unfolding MakesNumber replay
cpop-makes row s empty most =
    let keys : List (ℕ × Bool) = (active_row, true) ∷ (row, true) ∷ [] in
    let sets : every ≡ lane 1 0 = sets-same 1 (λ j. ltb j 1) (λ i. eqb i 0) (λ j. one j) in
    let n = set_count row s in
    let few : n ≤ 32 * s.columns = count-few (32 * s.columns) (is_set row s) in
    let c : tags_in every (searched every keys false s) ≡ n =
    ap (λ (x : ℕ). tags_in x (searched x keys false s)) sets
    ∙ lane-count 1 0 active_row row true s (omega arith) refl (omega arith)
    ∙ ap (λ (m : ℕ). total m (λ p. cond (view 1 s p active_row 0 && beq (view 1 s p row 0) true) 1 0)) (places-are s)
    ∙ total-same (32 * s.columns) _ (λ p. cond (is_set row s p) 1 0) (λ p l. rw (view-place s active_row p, view-place s row p, beq_true (bit_in s row p)) refl) in
    let plain : (0 + n * 2 ^ 0) % 2 ^ 64 ≡ n = let z : 0 + n * 2 ^ 0 ≡ n = omega arith in rw z (mod-eq_of_lt (omega (arith, few, most))) in
    record { num = rw (c, empty) plain; bit = refl }
  where
    one : (j : ℕ) → ltb j 1 ≡ eqb j 0
    one j = grind (arith, nat_tests)

-- the tag of a place
both : (a b : Bool) → (beq a true && (beq b true && true)) ≡ (a && b)
both true true = refl
both true false = refl
both false b = refl

tagged : (row : ℕ) (s : Slices) (n : ℕ) → n < 32 * s.columns → is_tagged (searched every ((active_row, true) ∷ (row, true) ∷ []) false s) n ≡ is_set row s n
tagged row s n l =
    let keys : List (ℕ × Bool) = (active_row, true) ∷ (row, true) ∷ [] in
    let per : n < s.columns * (32 / 1) = omega arith in
    let z : n * 1 + 0 ≡ n = omega arith in
    let chosen : selected every (n % 32) ≡ true = ap (λ (x : ℕ). selected every (x % 32)) (sym z) ∙ selected-spot 1 (λ j. ltb j 1) s.columns n 0 (omega arith) refl per (omega arith) in
    searched-tag every keys s n l chosen ∙ both (bit_in s active_row n) (bit_in s row n)

found : (row : ℕ) (s : Slices) → (first_found (searched every ((active_row, true) ∷ (row, true) ∷ []) false s)).num ≡ least_below no_place (is_set row s) (32 * s.columns)
found row s = least-same (32 * s.columns) no_place _ (is_set row s) (λ n l. tagged row s n l)

-- the first one
pub first-makes : (row : ℕ) → MakesNumber (first_set row) (first_ops row)
unfolding MakesNumber replay
first-makes row s empty most = record { num = found row s ∙ least-is (32 * s.columns) no_place (is_set row s) most; bit = refl }

-- the places that stand so to it
pub prefix-marks : (row : ℕ) (how : Reach) (to : ℕ) → to < 32 → MarksPrefix row how to (prefix_ops row how to)
unfolding MarksPrefix replay
prefix-marks row how to register s r e most low inside =
    let keys : List (ℕ × Bool) = (active_row, true) ∷ (row, true) ∷ [] in
    let s2 : Slices = first_found (searched every keys false s) in
    let t : Slices = marked_below result_row how s2 in
    let steps = commit 1 result_row to in
    let n1 : result_row ≢ to = omega arith in
    let n2 : to ≢ active_row = omega arith in
    let n3 : r ≢ result_row = omega arith in
    let n4 : active_row ≢ result_row = omega arith in
    let n5 : to ≢ result_row = omega arith in
    let n6 : result_row ≢ active_row = omega arith in
    let per : e < s.columns * (32 / 1) = omega arith in
    let row_of : (q : ℕ) → view 1 t e q 0 ≡ cond (eqb q result_row) (reaches how s2.num e) (bit_in s q e) = λ q.
    view-rewritten 1 result_row (λ p j. reaches how s2.num p) s2 e q 0 (omega arith) refl per (omega arith)
    ∙ ap (λ (x : Bool). cond (eqb q result_row) (reaches how s2.num e) x) (view-place s2 q e) in
    let mark : reaches how s2.num e ≡ prefix_bit how (is_set row s) e =
    ap (λ (m : ℕ). reaches how m e) (found row s) ∙ reached how (32 * s.columns) no_place (is_set row s) e most inside in
    sym (view-place (replay (prefix_ops row how to) s) r e)
    ∙ ap (λ (z : Slices). view 1 z e r 0) (replay-append (prefix_search row how) (micros 1 steps) s)
    ∙ ap (λ (f : ℕ → ℕ → Bool). f r 0) (view-micros 1 steps t e (commit-fits 1 result_row to n6) (omega arith) refl per)
    ∙ ⊎_elim
    (λ (q : r ≡ to).
    rw (q, eq-eqb to to refl) (commit-here 1 result_row to (view 1 t e) 0 n1 n2 (omega arith)
    ∙ rw (row_of active_row, row_of result_row, row_of to, ne_eqb active_row result_row n4, eq-eqb result_row result_row refl, ne_eqb to result_row n5, mark) refl))
    (λ (o : r ≢ to).
    rw (ne_eqb r to o) (commit-row 1 result_row to (view 1 t e) r 0 o ∙ rw (row_of r, ne_eqb r result_row n3) refl))
    (cases_eq r to)
