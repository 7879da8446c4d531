-- What the top call promises on its words: how it ends, and why.
use Rattle.std.specs.Prelude.{◌≡◌, ◌⊎◌, ⊤, ℕ, List, Option, Some, None, IsSomeAnd, MatchOption, map, string_bytes}
use Rattle.std.specs.declared.alloc.Global.{Global}
use Rattle.std.specs.declared.string.String.{String}
use Rattle.cape_io.specs.Devices.{Absent, KnownFile, word_at}
use Rattle.elf_load.specs.declared.faults.LoadFault.{LoadFault}
use Rattle.command_words.specs.Grammar.{command_of, IsOnImage}
use Rattle.command_words.specs.declared.words.Command.{Command}
use Rattle.command_words.specs.declared.words.Command.TheVariants.{OnImage, Debug, Gen, Bench, Help}
use Rattle.command_words.specs.declared.words.DebugOptions.{DebugOptions}
use Rattle.command_words.specs.declared.words.ImageCommand.{ImageCommand}
use Rattle.command_words.specs.declared.words.ImageCommand.TheVariants.{Run, Check}
use Rattle.command_words.specs.declared.words.RunOptions.{RunOptions}
use Rattle.command_words.specs.declared.words.Workload.{Workload}
use Rattle.machine.specs.Moments.{Held}
use Rattle.cape_top.specs.declared.ending.Status.{Status}
use Rattle.cape_top.specs.declared.ending.Status.TheVariants.{Done, Refused, Usage, ReadFault, WriteFault, NoMemory}
use Rattle.cape_top.specs.Statuses.{IsEnded, IsOfRun, IsRefused}
use Rattle.cape_top.specs.Calls.{Call, HasNoFault, InputRose, SinkRose, known_at}
use Rattle.cape_top.specs.Debugging.{DebugEnds, DebugReadFails, FileFails}
use Rattle.cape_top.specs.Endings.{Ending, Ends, ReadsKnown, bench_ending, file_ending, gen_ending, help_ending, usage_ending}
use Rattle.cape_top.specs.Reading.{IsFaultOf, file_if}

-- the bytes of words
abbrev pub words_of : List (String Global) → List (List ℕ)
words_of words = map string_bytes words

-- The place of the operand among the words.
abbrev pub operand : ℕ
operand = 1

-- what is known of the file that the words name
abbrev pub known_file : List (List ℕ) → Call → KnownFile
known_file words c = c.files.known (word_at words operand)

-- how a command on the image of the word at a place ends, as far as that is known
abbrev pub ending_at_place : ImageCommand → ℕ → Call → Option Ending
ending_at_place command place c = file_ending command (known_at place c) c.devices.old.input.left

-- what is known of the file of the guest's input of a session, which the words name; it is as one of no bytes where they name none
abbrev pub known_input : DebugOptions → List (List ℕ) → Call → KnownFile
known_input options words c = file_if c.files.known words options.input

-- a command on the image of the word at a place ends as it should
abbrev pub ImageEnds : ImageCommand → ℕ → Call → Status → Option Held → Type 0
ImageEnds command place c status kept = Ends (ending_at_place command place c) c.devices status kept

-- A command leaves a machine only with these statuses: a run where it came to its end, and a bench that is done.
abbrev pub MayKeepOf : ImageCommand → Status → Type 0
MayKeepOf (Run options) status = IsOfRun status
MayKeepOf Check status = ⊥

abbrev pub MayKeep : Command → Status → Type 0
MayKeep (OnImage command) status = MayKeepOf command status
MayKeep (Debug options) status = ⊥
MayKeep (Gen w) status = ⊥
MayKeep (Bench w) status = status ≡ Done
MayKeep Help status = ⊥

-- A command ends as it should, as far as its files and the input are known, where it needs them.
abbrev pub CommandEnds : Command → List (List ℕ) → Call → Status → Option Held → Type 0
CommandEnds (OnImage command) words c status kept = Ends (file_ending command (known_file words c) c.devices.old.input.left) c.devices status kept
CommandEnds (Debug options) words c status kept = DebugEnds options (known_file words c) (known_input options words c) c.devices status kept
CommandEnds (Gen w) words c status kept = Ends (Some (gen_ending w c.devices.old.input.left)) c.devices status kept
CommandEnds (Bench w) words c status kept = Ends (Some (bench_ending w c.devices.old.input.left)) c.devices status kept
CommandEnds Help words c status kept = Ends (Some (help_ending c.devices.old.input.left)) c.devices status kept

abbrev pub UsageEnds : Call → Status → Option Held → Type 0
UsageEnds c status kept = Ends (Some (usage_ending c.devices.old.input.left)) c.devices status kept

-- A call on these words ends as it should.
pub record CallEnds (words : List (List ℕ)) (c : Call) (status : Status) (kept : Option Held) : Type 0 where
  -- It ends as the command that they are, or as words outside the grammar.
  pub ends : MatchOption (command_of words) (UsageEnds c status kept) (λ command. CommandEnds command words c status kept)
  -- A machine is kept only where the command and the status say so.
  pub keeps : IsSomeAnd (command_of words) (λ command. MayKeep command status) ⊎ (kept ≡ None)

-- The input failed in a run, and, where this is known, one of the run's steps reads bytes.
pub record InputFails (command : ImageCommand) (known : KnownFile) (c : Call) : Type 0 where
  pub rose : InputRose c.devices
  pub reads : ReadsKnown command known c.devices.old.input.left

-- Why a command on an image of which this is known could not read. No other command reads but a session.
abbrev pub ImageReadFails : ImageCommand → ℕ → KnownFile → Call → Type 0
ImageReadFails command place known c = FileFails place c ⊎ InputFails command known c

abbrev pub ReadFails : Command → ℕ → KnownFile → Call → Type 0
ReadFails (OnImage command) place known c = ImageReadFails command place known c
ReadFails (Debug options) place known c = DebugReadFails options place known c
ReadFails (Gen w) place known c = ⊥
ReadFails (Bench w) place known c = ⊥
ReadFails Help place known c = ⊥

-- a command on the image of the word at a place could not read only for such a cause
abbrev pub ReadCause : ImageCommand → ℕ → Call → Status → Type 0
ReadCause command place c status = status ≡ ReadFault → ImageReadFails command place (known_at place c) c

-- An image of which this is known is refused only by its first fault.
abbrev pub RefusalCause : KnownFile → Status → Type 0
RefusalCause known status = (f : LoadFault) → status ≡ Refused f → IsFaultOf known f

-- the commands that end as their guest does, those that are done, and those that take memory
abbrev pub RunsImage : ImageCommand → Type 0
RunsImage (Run options) = ⊤
RunsImage Check = ⊥

abbrev pub RunsGuest : Command → Type 0
RunsGuest (OnImage command) = RunsImage command
RunsGuest (Debug options) = ⊥
RunsGuest (Gen w) = ⊥
RunsGuest (Bench w) = ⊥
RunsGuest Help = ⊥

abbrev pub IsDone : Command → Type 0
IsDone (OnImage (Run options)) = ⊥
IsDone (OnImage Check) = ⊤
IsDone (Debug options) = ⊤
IsDone (Gen w) = ⊤
IsDone (Bench w) = ⊤
IsDone Help = ⊤

abbrev pub TakesMemory : Command → Type 0
TakesMemory Help = ⊥
TakesMemory _ = ⊤

-- Why a call on these words has this status.
pub record HasCause (words : List (List ℕ)) (c : Call) (status : Status) : Type 0 where
  -- A guest's end, or the budget's, is that of a command that ends so; a command of another kind is done.
  pub of_run : IsOfRun status → IsSomeAnd (command_of words) RunsGuest
  pub of_done : status ≡ Done → IsSomeAnd (command_of words) IsDone
  -- An image is refused only where the words are a command on one, and only by its first fault, where the image is known.
  pub of_image : IsRefused status → IsSomeAnd (command_of words) IsOnImage
  pub refused : RefusalCause (known_file words c) status
  -- Words outside the grammar are a usage error, unless its line cannot be written; no others are.
  pub of_words : status ≡ Usage → command_of words ≡ None
  pub no_command : command_of words ≡ None → (status ≡ Usage) ⊎ (status ≡ WriteFault)
  -- Memory is lacking only where a command takes some.
  pub of_memory : status ≡ NoMemory → IsSomeAnd (command_of words) TakesMemory
  -- The file of a command is not there, and so it cannot be read.
  pub absent : IsSomeAnd (command_of words) IsOnImage → known_file words c ≡ Absent → status ≡ ReadFault
  -- A command could not read a file, and nothing was written; or it is a run or a session, and could not read the input.
  pub read : status ≡ ReadFault → IsSomeAnd (command_of words) (λ command. ReadFails command operand (known_file words c) c)
  -- An output failed.
  pub write : status ≡ WriteFault → SinkRose c.devices
  -- Where no count rose, the call ended, or memory was lacking.
  pub complete : HasNoFault c → IsEnded status ⊎ (status ≡ NoMemory)
