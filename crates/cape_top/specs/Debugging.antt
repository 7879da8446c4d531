-- The session of a debugger on an image: how it ends, by the image, by the input of its guest and by its commands, as far as these
-- are known.
use Rattle.std.specs.Prelude.{◌≡◌, ◌⊎◌, ⊤, ℕ, List, take, Option, Some, None, IfSome, IsSomeAnd}
use Rattle.std.specs.Io.KnownBytes.{Appends}
use Rattle.cape_io.specs.Devices.{KnownFile, Unknown, Absent, Present}
use Rattle.cape_io.specs.Views.{Devices, DeviceViews}
use Rattle.elf_load.specs.Faults.{fault}
use Rattle.elf_load.specs.declared.faults.LoadFault.{LoadFault}
use Rattle.elf_load.specs.declared.loaded.Loaded.{Loaded}
use Rattle.command_words.specs.declared.words.DebugOptions.{DebugOptions}
use Rattle.debug_core.specs.Sessions.{answers, moment_of}
use Rattle.debug_commands.specs.declared.performing.SessionFault.{SessionFault}
use Rattle.debug_commands.specs.declared.performing.SessionFault.TheVariants.{ReadFault as CannotRead, WriteFault as CannotWrite, NoMemory as LacksMemory}
use Rattle.machine.specs.Moments.{Held, Moment, first_moment}
use Rattle.machine.specs.Opening.{start, memory_of}
use Rattle.machine.specs.Views.{GainsPrefix}
use Rattle.rvv_meaning.specs.Images.{start_state}
use Rattle.cape_top.specs.declared.ending.Status.{Status}
use Rattle.cape_top.specs.declared.ending.Status.TheVariants.{Done, ReadFault, WriteFault, NoMemory}
use Rattle.cape_top.specs.Calls.{Call, FailedOn, InputRose, WritesNothing, known_at}
use Rattle.cape_top.specs.Endings.{Ends, absent_ending, refused_ending}
use Rattle.cape_top.specs.Reading.{file_if, input_limit}
use Rattle.cape_top.specs.Statuses.{IsEnded, IsFault, IsRefused}

-- the status for why a session ends early
abbrev pub status_of_session : SessionFault → Status
status_of_session CannotRead = ReadFault
status_of_session CannotWrite = WriteFault
status_of_session LacksMemory = NoMemory

-- A device failed, or memory was lacking.
abbrev pub IsCut : Status → Type 0
IsCut status = IsFault status ⊎ (status ≡ NoMemory)

-- The statuses of a session.
abbrev pub IsOfSession : Status → Type 0
IsOfSession status = (status ≡ Done) ⊎ IsCut status

abbrev pub IsOfDebug : Status → Type 0
IsOfDebug status = IsRefused status ⊎ IsOfSession status

-- The commands were read to their end, to `quit` or to the limit, and the session that begins with a moment is done: the output
-- gained the answers, and the error output what the guest wrote to both its outputs.
pub record IsAnswered (m : Moment) (commands : List ℕ) (d : Devices) (status : Status) : Type 0 where
  pub done : status ≡ Done
  pub gains_out : Appends d.old.out.held d.new.out.held (answers commands m)
  pub gains_err : Appends d.old.err.held d.new.err.held (moment_of commands m).state.joint

-- Each of the two gained a prefix of that.
pub record IsAnsweredInPart (m : Moment) (commands : List ℕ) (d : Devices) : Type 0 where
  pub gains_out : GainsPrefix d.old.out.held d.new.out.held (answers commands m)
  pub gains_err : GainsPrefix d.old.err.held d.new.err.held (moment_of commands m).state.joint

-- The session that begins with a moment ends as it should, as far as its commands are known: they are what the input gives.
pub record SessionEnds (m : Moment) (d : Devices) (status : Status) : Type 0 where
  -- Where no device failed and memory sufficed, all commands were answered.
  pub ended : IsEnded status → IfSome d.old.input.left (λ commands. IsAnswered m commands d status)
  -- Else each sink gained a prefix of what it would have gained.
  pub cut : IsCut status → IfSome d.old.input.left (λ commands. IsAnsweredInPart m commands d)

-- the moment that a session on an image begins with
abbrev pub debug_start : DebugOptions → (image input : List ℕ) → Moment
debug_start options image input = first_moment (start image options.vlen options.policy input)

-- The session on an image without a fault ends as it should, as far as the file of its guest's input is known, of which the first
-- bytes are read.
abbrev pub SoundDebugEnds : DebugOptions → (image : List ℕ) → KnownFile → Devices → Status → Option Held → Type 0
SoundDebugEnds options image Unknown d status kept = ⊤
SoundDebugEnds options image Absent d status kept = Ends (Some (absent_ending d.old.input.left)) d status kept
SoundDebugEnds options image (Present bytes) d status kept = SessionEnds (debug_start options image (take input_limit bytes)) d status

-- The image's first fault refuses it.
abbrev pub ImageDebugEnds : Option LoadFault → DebugOptions → (image : List ℕ) → KnownFile → Devices → Status → Option Held → Type 0
ImageDebugEnds (Some f) options image input d status kept = Ends (Some (refused_ending f d.old.input.left)) d status kept
ImageDebugEnds None options image input d status kept = SoundDebugEnds options image input d status kept

-- The session ends as it should, as far as its image is known too.
unfoldable pub DebugEnds : DebugOptions → (image input : KnownFile) → Devices → Status → Option Held → Type 0
DebugEnds options Unknown input d status kept = ⊤
DebugEnds options Absent input d status kept = Ends (Some (absent_ending d.old.input.left)) d status kept
DebugEnds options (Present image) input d status kept = ImageDebugEnds (fault image) options image input d status kept

-- The session on the image of the word at a place ends as it should, and keeps no machine.
abbrev pub PlaceDebugEnds : DebugOptions → ℕ → Call → Status → Type 0
PlaceDebugEnds options place c status =
    DebugEnds options (known_at place c) (file_if c.files.known c.files.names options.input) c.devices status None

-- The session on what was loaded ends as it should, with this input of its guest.
abbrev pub loaded_moment : DebugOptions → Loaded → (input : List ℕ) → Moment
loaded_moment options l input =
    first_moment (start_state options.vlen options.policy l.entry_pc (memory_of l.regions l.heap l.heap_end) input)

abbrev pub LoadedSession : Loaded → DebugOptions → (input : List ℕ) → Devices → Status → Type 0
LoadedSession l options input d status = SessionEnds (loaded_moment options l input) d status

-- The image has no fault, as far as it is known.
abbrev pub IsSound : KnownFile → Type 0
IsSound Unknown = ⊤
IsSound Absent = ⊥
IsSound (Present image) = fault image ≡ None

-- A file could not be read, and nothing was written.
pub record FileFails (place : ℕ) (c : Call) : Type 0 where
  pub failed : FailedOn place c.files
  pub nothing : WritesNothing c.devices

-- The image has no fault, and the file of the guest's input could not be read.
pub record InputFileFails (options : DebugOptions) (known : KnownFile) (c : Call) : Type 0 where
  pub sound : IsSound known
  pub fails : IsSomeAnd options.input (λ place. FileFails place c)

-- The image has no fault, and the commands could not be read.
pub record CommandsFail (known : KnownFile) (c : Call) : Type 0 where
  pub sound : IsSound known
  pub rose : InputRose c.devices

-- Why a session on an image of which this is known could not read.
abbrev pub DebugReadFails : DebugOptions → ℕ → KnownFile → Call → Type 0
DebugReadFails options place known c = FileFails place c ⊎ (InputFileFails options known c ⊎ CommandsFail known c)

abbrev pub DebugReadCause : DebugOptions → ℕ → Call → Status → Type 0
DebugReadCause options place c status = status ≡ ReadFault → DebugReadFails options place (known_at place c) c
