-- A list that leaves a value in a row of work, and then a list that makes a value of that row.
use Rattle.std.proofs.Common.{◌≡◌, ℕ, ◌<◌, Bool, true, false, ◌||◌, eqb, List, [], ◌∷◌, ◌++◌, refl, ◌∙◌, ap}
use Rattle.bit_laws.specs.Numbers.{low}
use Rattle.micro_ir.specs.declared.op.MicroOp.{MicroOp}
use Rattle.micro_ir.specs.Replay.{replay}
use Rattle.micro_ir.specs.Steps.{element}
use Rattle.micro_ir.proofs.Lift.{replay-columns}
use Rattle.micro_ir.proofs.Lists.{replay-append}
use Rattle.gen_shift.specs.Laws.{LeavesValue}
use Rattle.gen_shift.specs.Rows.{is_among}

-- what is in none of two lists together is in none of each
first-none : (xs ys : List ℕ) (r : ℕ) → is_among (xs ++ ys) r ≡ false → is_among xs r ≡ false
first-none [] ys r off = refl
first-none (x ∷ xs) ys r off = keep (eqb r x) (is_among (xs ++ ys) r) (is_among xs r) off (first-none xs ys r)
  where
    keep : (a b c : Bool) → a || b ≡ false → (b ≡ false → c ≡ false) → a || c ≡ false
    keep true b c h more = absurd (cc)
    keep false b c h more = more h

second-none : (xs ys : List ℕ) (r : ℕ) → is_among (xs ++ ys) r ≡ false → is_among ys r ≡ false
second-none [] ys r off = off
second-none (x ∷ xs) ys r off = second-none xs ys r (rest (eqb r x) (is_among (xs ++ ys) r) off)
  where
    rest : (a b : Bool) → a || b ≡ false → b ≡ false
    rest true b h = absurd (cc)
    rest false b h = h

-- The second list takes the row of the first.
pub leaves-then : (w row out : ℕ) (work more : List ℕ) (value : (ℕ → ℕ) → ℕ) (then : ℕ → ℕ) (first second : List MicroOp)
    → LeavesValue w row work value first → LeavesValue w out more (λ n. then (n row)) second
    → LeavesValue w out (work ++ more) (λ n. then (low w (value n))) (first ++ second)
unfolding LeavesValue
leaves-then w row out work more value then first second one two s k col inside column =
    let s1 = replay first s in
    let a = one s k col inside column in
    let in_columns : col < s1.columns = rw (replay-columns first s) column in
    let b = two s1 k col inside in_columns in
    let parts : element w k col (replay (first ++ second) s) ≡ element w k col (replay second s1) = ap (element w k col) (replay-append first second s) in
    rw parts (record {
      made = b.made ∙ ap (λ (m : ℕ). low w (then m)) a.made;
      kept = λ r j free below. b.kept r j (second-none work more r free) below ∙ a.kept r j (first-none work more r free) below;
    })
