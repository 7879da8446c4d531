-- A whole session: the answers to its commands, and the sitting that they lead to.
use Rattle.std.specs.Prelude.{◌≡◌, ◌⊎◌, ⊤, ℕ, nat_le, Bool, true, false, List, [], ◌∷◌, ◌++◌, codes, length, take, Option, Some, if◌then◌else◌, MatchBool}
use Rattle.std.specs.Io.KnownBytes.{Appends}
use Rattle.cape_io.specs.Devices.{Rose}
use Rattle.cape_io.specs.Views.{DeviceViews, Devices}
use Rattle.debug_commands.specs.Commands.{after, says, Reads}
use Rattle.debug_commands.specs.Sittings.{Sitting}
use Rattle.debug_commands.specs.declared.performing.SessionFault.{SessionFault}
use Rattle.debug_commands.specs.declared.performing.SessionFault.TheVariants.{ReadFault, WriteFault, NoMemory}
use Rattle.debug_words.specs.Grammar.{command_of}
use Rattle.debug_words.specs.Lines.{lines, most_bytes}
use Rattle.debug_words.specs.declared.command.Command.{Command}
use Rattle.debug_words.specs.declared.command.Command.TheVariants.{Quit}
use Rattle.machine.specs.Moments.{Held, Moment}
use Rattle.machine.specs.Views.{Shows, GainsPrefix}

abbrev pub is_quit : Command → Bool
is_quit Quit = true
is_quit command = false

-- what is said where the commands were cut off
unfoldable pub limit_text : Bool → List ℕ
limit_text true = codes "? input limit\n"
limit_text false = []

-- The answers to lines, from a sitting on. Where the commands were cut off without a quit, this is said at the end.
unfoldable pub answers_to : Bool → List (List ℕ) → Sitting → List ℕ
answers_to cut [] s = limit_text cut
answers_to cut (l ∷ ls) s = if is_quit (command_of l) then [] else says (command_of l) s ++ answers_to cut ls (after (command_of l) s)

-- the sitting that lines lead to
unfoldable pub end_of : List (List ℕ) → Sitting → Sitting
end_of [] s = s
end_of (l ∷ ls) s = if is_quit (command_of l) then s else end_of ls (after (command_of l) s)

-- one of the steps that lines make is a read
unfoldable pub ReadsAmong : List (List ℕ) → Sitting → Type 0
ReadsAmong [] s = ⊥
ReadsAmong (l ∷ ls) s = MatchBool (is_quit (command_of l)) ⊥ (Reads (command_of l) s ⊎ ReadsAmong ls (after (command_of l) s))

-- whether bytes are cut off, and their lines
abbrev pub is_cut : List ℕ → Bool
is_cut bytes = nat_le most_bytes (length bytes)

abbrev pub session_lines : List ℕ → List (List ℕ)
session_lines bytes = lines (is_cut bytes) (take most_bytes bytes)

-- the sitting that a session begins with
abbrev pub fresh : Moment → Sitting
fresh m = record { moment = m; breaks = []; pages = 0 }

-- the moment that commands lead to, and the answers to them
unfoldable pub moment_of : List ℕ → Moment → Moment
moment_of bytes m = (end_of (session_lines bytes) (fresh m)).moment

unfoldable pub answers : List ℕ → Moment → List ℕ
answers bytes m = answers_to (is_cut bytes) (session_lines bytes) (fresh m)

-- one of the steps that commands make is a read
unfoldable pub ReadsOf : List ℕ → Moment → Type 0
ReadsOf bytes m = ReadsAmong (session_lines bytes) (fresh m)

-- Where the commands are known: whatever moment the machine and its devices show before, they show the one that the commands lead
-- to after, and the output gained the answers. The guest's bytes, those of both its outputs in their order, went to the error
-- output.
pub record Answers (commands : Option (List ℕ)) (old new : Held) (io : Devices) : Type 0 where
  pub answered :
      (bytes : List ℕ) → commands ≡ Some bytes
      → (m : Moment) (first : DeviceViews) → Shows true m old first io.old
      → Shows true (moment_of bytes m) new (record first { out = io.new.out }) io.new × Appends io.old.out.held io.new.out.held (answers bytes m)

-- Each of the two gained a prefix of that.
pub record AnswersInPart (commands : Option (List ℕ)) (old : Held) (io : Devices) : Type 0 where
  pub answered :
      (bytes : List ℕ) → commands ≡ Some bytes
      → (m : Moment) (first : DeviceViews) → Shows true m old first io.old
      → GainsPrefix io.old.out.held io.new.out.held (answers bytes m) × GainsPrefix first.err.held io.new.err.held (moment_of bytes m).state.joint

-- Where the commands are known: whatever moment they show before, one of the steps that the commands make is a read.
pub record ReadsIn (commands : Option (List ℕ)) (old : Held) (io : DeviceViews) : Type 0 where
  pub reads : (bytes : List ℕ) → commands ≡ Some bytes → (m : Moment) (first : DeviceViews) → Shows true m old first io → ReadsOf bytes m

-- Why a session ended early: the count of an output rose; or that of the input rose, and one of the steps is a read, or it did not
-- rise.
abbrev pub Cause : SessionFault → Option (List ℕ) → Held → Devices → Type 0
Cause ReadFault commands old io = (io.new.input.faults ≡ io.old.input.faults) ⊎ (Rose io.old.input.faults io.new.input.faults × ReadsIn commands old io.old)
Cause WriteFault commands old io = Rose io.old.out.faults io.new.out.faults ⊎ Rose io.old.err.faults io.new.err.faults
Cause NoMemory commands old io = ⊤
