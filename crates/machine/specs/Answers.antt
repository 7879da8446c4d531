-- How a machine answers.
use Rattle.std.specs.Prelude.{Option, Some, None, if◌then◌else◌}
use Rattle.rvv_meaning.specs.declared.Mode.{Mode}
use Rattle.rvv_meaning.specs.declared.Mode.TheVariants.{Running, Exited, Trapped}
use Rattle.rvv_meaning.specs.States.{is_running}
use Rattle.machine.specs.declared.answers.Step.{Step}
use Rattle.machine.specs.declared.answers.Step.TheVariants.{Ran, Exited as SaysExited, Trapped as SaysTrapped}

-- the answer for a mode
abbrev pub step_for : Mode → Step
step_for Running = Ran
step_for (Exited c) = SaysExited c
step_for (Trapped t) = SaysTrapped t

-- how a machine ended, where it does not run
abbrev pub halt_of : Mode → Option Step
halt_of mode = if is_running mode then None else Some (step_for mode)
