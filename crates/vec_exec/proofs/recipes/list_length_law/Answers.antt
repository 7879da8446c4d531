use Rattle.std.proofs.Common.{ℕ, ◌≤◌, ◌+◌, ◌*◌, refl, arith}
use Rattle.std.proofs.lemmas.Nat.{mul-le}
use Rattle.rvv_meaning.specs.Operations.{log2}
use Rattle.vec_exec.specs.declared.recipes.Listed.{Listed}
use Rattle.vec_exec.specs.declared.recipes.Listed.TheVariants.{Bits, Sums, Truths, Choices, Shifts, Products, Fractions, Roundings, Averages, Saturations, Divisions, Copies, Halves, Clips}
use Rattle.vec_exec.specs.Recipes.{shift_of, length_of}
use Rattle.vec_exec.proofs.Widths.{log2-small}
use Rattle.vec_exec.proofs.Written.{mode-few, smul-few, half-list-few}
use Rattle.vec_exec.proofs.recipes.list_length_law.Goals as goal

pub returns : goal.returns
unfolding length_of
returns c = few
  where
    few : (list : Listed) (w mode : ℕ) → w ≤ 32 → length_of list w mode ≤ 30000
    few (Bits kind) w mode most = omega (arith, c.logic_length_law.ensures kind)
    few (Sums kind) w mode most = omega (arith, c.arith_length_law.ensures.sums kind w)
    few (Truths kind) w mode most = omega (arith, c.arith_length_law.ensures.truths kind w)
    few (Choices kind) w mode most = omega arith
    few (Shifts kind) w mode most =
        let each : 3 * w + 15 ≤ 111 = omega arith in
        let stages : log2 w * (3 * w + 15) ≤ 5 * 111 = mul-le (log2 w) (3 * w + 15) 5 111 (log2-small w) each in
        omega (arith, c.shift_length_law.ensures kind w (log2 w))
    few (Roundings right) w mode most =
        let each : 3 * w + 15 ≤ 111 = omega arith in
        let stages : log2 w * (3 * w + 15) ≤ 5 * 111 = mul-le (log2 w) (3 * w + 15) 5 111 (log2-small w) each in
        omega (arith, stages, c.shift_length_law.ensures (shift_of right) w (log2 w), mode-few mode w (log2 w) (omega arith) (log2-small w))
    few Fractions w mode most = smul-few mode w most
    few (Averages kind sub) w mode most = omega (arith, c.fixed_length_law.ensures.averages mode w)
    few (Saturations kind) w mode most = omega (arith, c.fixed_length_law.ensures.sums kind w)
    few (Products kind) w mode most =
        let each : 20 * w + 61 ≤ 701 = omega arith in
        let rounds : w * (20 * w + 61) ≤ 32 * 701 = mul-le w (20 * w + 61) 32 701 most each in
        omega (arith, rounds, c.product_length_law.ensures kind w)
    few (Divisions kind) w mode most =
        let each : 14 * w + 75 ≤ 523 = omega arith in
        let rounds : w * (14 * w + 75) ≤ 32 * 523 = mul-le w (14 * w + 75) 32 523 most each in
        omega (arith, rounds, c.division_length_law.ensures kind w)
    few Copies w mode most = omega arith
    few (Halves kind) w mode most = omega (arith, half-list-few (Halves kind) w mode refl most)
    few (Clips kind) w mode most = omega (arith, half-list-few (Clips kind) w mode refl most)
