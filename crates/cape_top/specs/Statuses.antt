-- The kinds of status.
use Rattle.std.specs.Prelude.{⊤}
use Rattle.cape_top.specs.declared.ending.Status.{Status}
use Rattle.cape_top.specs.declared.ending.Status.TheVariants.{StepLimit, Refused, ReadFault, WriteFault, NoMemory, Exited, Trapped}

-- A device failed.
abbrev pub IsFault : Status → Type 0
IsFault ReadFault = ⊤
IsFault WriteFault = ⊤
IsFault _ = ⊥

-- No device failed, and there was enough memory: what the words ask for was done, or was refused by them or by the image.
abbrev pub IsEnded : Status → Type 0
IsEnded ReadFault = ⊥
IsEnded WriteFault = ⊥
IsEnded NoMemory = ⊥
IsEnded _ = ⊤

-- A run came to its end, by its guest or by its budget.
abbrev pub IsOfRun : Status → Type 0
IsOfRun (Exited c) = ⊤
IsOfRun Trapped = ⊤
IsOfRun StepLimit = ⊤
IsOfRun _ = ⊥

-- The image has a fault.
abbrev pub IsRefused : Status → Type 0
IsRefused (Refused f) = ⊤
IsRefused _ = ⊥
