use Rattle.std.proofs.Common.{◌≡◌, ◌≢◌, ℕ, zero, suc, refl, arith}
use Rattle.micro_ir.specs.Tables.{values_of}
use Rattle.gen_fixed.specs.Lists.{half_on}
use Rattle.gen_fixed.proofs.lists.half_step.Goals as goal
use Rattle.gen_fixed.proofs.lists.half_step.Goals.{in-0, in-1, in_default}

-- neither of the modes that round to the nearest
other : (mode : ℕ) → mode ≢ 0 → mode ≢ 1 → values_of 2 ≡ half_on mode
unfolding values_of
other zero up even = absurd (up refl)
other (suc zero) up even = absurd (even refl)
other (suc (suc mode)) up even = refl

pub returns-clause-values : goal.returns-clause-values
unfolding values_of
returns-clause-values g c = elim c.match-mode.branch [
  | in-0 w ↦ (let q : c.args.mode ≡ 0 = omega (arith, w.in-0) in rw (w.n-is, q) refl)
  | in-1 w ↦ (let q : c.args.mode ≡ 1 = omega (arith, w.in-1) in rw (w.n-is, q) refl)
  | in_default w ↦ (let up : c.args.mode ≢ 0 = λ q. absurd (omega (arith, w.in_default, q)) in let even : c.args.mode ≢ 1 = λ q. absurd (omega (arith, w.in_default, q)) in rw w.n-is (other c.args.mode up even))
]
