-- The statuses of the process.
use Rattle.std.specs.Prelude.{ℕ}
use Rattle.cape_top.specs.declared.ending.Status.{Status}
use Rattle.cape_top.specs.declared.ending.Status.TheVariants.{Done, Exited, Trapped, StepLimit, Refused, Usage, ReadFault, WriteFault, NoMemory}

abbrev pub code_of : Status → ℕ
code_of Done = 0
code_of (Exited c) = c
code_of Trapped = 121
code_of StepLimit = 122
code_of (Refused f) = 123
code_of Usage = 124
code_of ReadFault = 125
code_of WriteFault = 126
code_of NoMemory = 127
