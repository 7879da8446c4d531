use Rattle.std.proofs.Common.{◌≡◌, refl, arith}
use Rattle.micro_ir.specs.Tables.{values_of}
use Rattle.gen_shift.proofs.modes.mode_step.Goals as goal
use Rattle.gen_shift.proofs.modes.mode_step.Goals.{in-0, in-1, in_default}

pub returns-clause-values : goal.returns-clause-values
unfolding values_of
returns-clause-values g c = elim c.match-mode.branch [
  | in-0 w ↦ (let q : c.args.mode ≡ 0 = omega (arith, w.in-0) in rw (w.n-is, q) refl)
  | in-1 w ↦ (let q : c.args.mode ≡ 1 = omega (arith, w.in-1) in rw (w.n-is, q) refl)
  | in_default w ↦ (let q : c.args.mode ≡ 3 = omega (arith, c.requires.mode, c.requires.adds, w.in_default) in rw (w.n-is, q) refl)
]
