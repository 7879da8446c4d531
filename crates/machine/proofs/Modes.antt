-- What an answer says of the mode.
use Rattle.std.proofs.Common.{◌≡◌, ◌⊎◌, inl, inr, ℕ, true, false, refl}
use Rattle.guest_mem.specs.declared.faults.Trap.{Trap}
use Rattle.rvv_meaning.specs.declared.Mode.{Mode}
use Rattle.rvv_meaning.specs.declared.Mode.TheVariants.{Running, Exited, Trapped}
use Rattle.rvv_meaning.specs.States.{is_running}
use Rattle.machine.specs.declared.answers.Step.{Step}
use Rattle.machine.specs.declared.answers.Step.TheVariants.{Ran, Exited as SaysExited, Trapped as SaysTrapped}
use Rattle.machine.specs.Answers.{step_for}

pub ran_runs : (mode : Mode) (a : Step) → a ≡ step_for mode → a ≡ Ran → mode ≡ Running
ran_runs Running a is ran = refl
ran_runs (Exited c) a is ran = cc
ran_runs (Trapped t) a is ran = cc

-- any other answer is that of a machine that stopped
pub others_stopped : (mode : Mode) (a : Step) → a ≡ step_for mode → ((c : ℕ) × (a ≡ SaysExited c)) ⊎ ((t : Trap) × (a ≡ SaysTrapped t)) → is_running mode ≡ false
others_stopped Running a is (inl (c, said)) = cc
others_stopped Running a is (inr (t, said)) = cc
others_stopped (Exited c) a is said = refl
others_stopped (Trapped t) a is said = refl

pub running_runs : (mode : Mode) → mode ≡ Running → is_running mode ≡ true
running_runs mode is = rw is refl
