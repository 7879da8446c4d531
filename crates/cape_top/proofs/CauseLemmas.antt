-- Why a call on words has its status, by the command that they are.
use Rattle.std.proofs.Common.{◌≡◌, ◌⊎◌, inl, inr, ℕ, List, Option, Some, None, refl, sym, subst}
use Rattle.std.specs.Prelude.{⊤, IsSomeAnd}
use Rattle.cape_io.specs.Devices.{Absent, KnownFile, Rose}
use Rattle.command_words.specs.Grammar.{command_of, IsOnImage}
use Rattle.command_words.specs.declared.words.Command.{Command}
use Rattle.command_words.specs.declared.words.Command.TheVariants.{OnImage, Debug, Gen, Bench, Help}
use Rattle.command_words.specs.declared.words.DebugOptions.{DebugOptions}
use Rattle.command_words.specs.declared.words.ImageCommand.{ImageCommand}
use Rattle.command_words.specs.declared.words.ImageCommand.TheVariants.{Check}
use Rattle.cape_top.specs.declared.ending.Status.{Status}
use Rattle.cape_top.specs.declared.ending.Status.TheVariants.{Done, StepLimit, Refused, Usage, ReadFault, WriteFault, NoMemory, Exited as ExitedWith, Trapped as HasTrapped}
use Rattle.cape_top.specs.Debugging.{DebugReadFails, FileFails, IsOfDebug}
use Rattle.cape_top.specs.Statuses.{IsEnded, IsFault, IsOfRun, IsRefused}
use Rattle.cape_top.specs.Calls.{Call, HasNoFault, InputRose, SinkRose, known_at}
use Rattle.cape_top.specs.Promises.{HasCause, ImageReadFails, IsDone, ReadFails, RefusalCause, RunsGuest, RunsImage, TakesMemory, operand}

-- a status that is neither a refusal, nor a usage error, nor a read fault
abbrev pub IsApart : Status → Type 0
IsApart (Refused f) = ⊥
IsApart Usage = ⊥
IsApart ReadFault = ⊥
IsApart _ = ⊤

apart_refused : (s : Status) → IsApart s → IsRefused s → ⊥
apart_refused (Refused f) apart refused = apart
apart_refused _ apart refused = refused

-- the statuses of a text that is written, with memory or without
pub text_apart : (s : Status) → (s ≡ Done) ⊎ (s ≡ WriteFault) → IsApart s
text_apart s (inl is) = rw is tt
text_apart s (inr is) = rw is tt

pub text_runs : (s : Status) → (s ≡ Done) ⊎ (s ≡ WriteFault) → IsOfRun s → ⊥
text_runs s (inl is) run = rw is at run
text_runs s (inr is) run = rw is at run

pub text_memory : (s : Status) → (s ≡ Done) ⊎ (s ≡ WriteFault) → s ≡ NoMemory → ⊥
text_memory s (inl is) lacks = cc
text_memory s (inr is) lacks = cc

pub made_apart : (s : Status) → (s ≡ Done) ⊎ ((s ≡ WriteFault) ⊎ (s ≡ NoMemory)) → IsApart s
made_apart s (inl is) = rw is tt
made_apart s (inr (inl is)) = rw is tt
made_apart s (inr (inr is)) = rw is tt

pub made_runs : (s : Status) → (s ≡ Done) ⊎ ((s ≡ WriteFault) ⊎ (s ≡ NoMemory)) → IsOfRun s → ⊥
made_runs s (inl is) run = rw is at run
made_runs s (inr (inl is)) run = rw is at run
made_runs s (inr (inr is)) run = rw is at run

refused_runs : (s : Status) → IsRefused s → IsOfRun s → ⊥
refused_runs (Refused f) refused run = run
refused_runs _ refused run = refused

fault_runs : (s : Status) → IsFault s → IsOfRun s → ⊥
fault_runs ReadFault fault run = run
fault_runs WriteFault fault run = run
fault_runs _ fault run = fault

-- the statuses of a session are neither of a run nor a usage error
debug_runs : (s : Status) → IsOfDebug s → IsOfRun s → ⊥
debug_runs s (inl refused) run = refused_runs s refused run
debug_runs s (inr (inl is)) run = rw is at run
debug_runs s (inr (inr (inl fault))) run = fault_runs s fault run
debug_runs s (inr (inr (inr is))) run = rw is at run

debug_usage : (s : Status) → IsOfDebug s → s ≡ Usage → ⊥
debug_usage s (inl refused) is = rw is at refused
debug_usage s (inr (inl done)) is = cc
debug_usage s (inr (inr (inl fault))) is = rw is at fault
debug_usage s (inr (inr (inr lacks))) is = cc

module _ (words : List (List ℕ)) (c : Call)
  where
    no_rose : HasNoFault c → Rose c.files.faults_before c.files.faults_after ⊎ InputRose c.devices → ⊥
    no_rose quiet (inl rose) = quiet.files rose
    no_rose quiet (inr rose) = quiet.input rose

    -- where no count rose, the call ended
    complete_by : (s : Status) → (s ≡ ReadFault → Rose c.files.faults_before c.files.faults_after ⊎ InputRose c.devices) → (s ≡ WriteFault → SinkRose c.devices)
        → HasNoFault c → IsEnded s ⊎ (s ≡ NoMemory)
    complete_by ReadFault read write quiet = absurd (no_rose quiet (read refl))
    complete_by WriteFault read write quiet = absurd (quiet.sinks (write refl))
    complete_by NoMemory read write quiet = inr refl
    complete_by _ read write quiet = inl tt

    -- what could not read has a count that rose
    rose_of_input : (place : Option ℕ) → IsSomeAnd place (λ p. FileFails p c) → Rose c.files.faults_before c.files.faults_after
    rose_of_input None fails = absurd fails
    rose_of_input (Some p) fails = fails.failed.rose

    rose_of : (command : Command) (known : KnownFile) → ReadFails command operand known c → Rose c.files.faults_before c.files.faults_after ⊎ InputRose c.devices
    rose_of (OnImage command) known (inl fails) = inl fails.failed.rose
    rose_of (OnImage command) known (inr fails) = inr fails.rose
    rose_of (Debug options) known (inl fails) = inl fails.failed.rose
    rose_of (Debug options) known (inr (inl fails)) = inl (rose_of_input options.input fails.fails)
    rose_of (Debug options) known (inr (inr fails)) = inr fails.rose
    rose_of (Gen w) known fails = absurd fails
    rose_of (Bench w) known fails = absurd fails
    rose_of Help known fails = absurd fails

    no_words : (command : Command) → command_of words ≡ Some command → command_of words ≡ None → ⊥
    no_words command found none = cc

    -- a command on an image, or a session on one
    pub cause_of : (command : Command) (s : Status) → command_of words ≡ Some command → c.files.names ≡ words → IsOnImage command → TakesMemory command
        → (IsOfRun s → RunsGuest command) → (s ≡ Done → IsDone command) → (s ≡ Usage → ⊥) → RefusalCause (known_at operand c) s
        → (known_at operand c ≡ Absent → s ≡ ReadFault)
        → (s ≡ ReadFault → ReadFails command operand (known_at operand c) c) → (s ≡ WriteFault → SinkRose c.devices) → HasCause words c s
    cause_of command s found made on takes of_run of_done no_usage refused absent read write = record {
      of_run = λ run. rw found (of_run run);
      of_done = λ done. rw found (of_done done);
      of_image = λ is. rw found on;
      refused = λ f is. rw (← made) (refused f is);
      of_words = λ usage. absurd (no_usage usage);
      no_command = λ none. absurd (no_words command found none);
      of_memory = λ lacks. rw found takes;
      absent = λ of is. absent (rw made is);
      read = λ is. rw (found, ← made) (read is);
      write = write;
      complete = complete_by s (λ is. rose_of command _ (read is)) write;
    }

    done_check : (command : ImageCommand) → command ≡ Check → IsDone (OnImage command)
    done_check command is = rw is tt

    pub cause_on_image : (command : ImageCommand) (s : Status) → command_of words ≡ Some (OnImage command) → c.files.names ≡ words
        → (IsOfRun s → RunsImage command) → (s ≡ Done → command ≡ Check) → (s ≡ Usage → ⊥) → RefusalCause (known_at operand c) s
        → (known_at operand c ≡ Absent → s ≡ ReadFault)
        → (s ≡ ReadFault → ImageReadFails command operand (known_at operand c) c) → (s ≡ WriteFault → SinkRose c.devices) → HasCause words c s
    cause_on_image command s found made of_run of_done no_usage refused absent read write =
        cause_of (OnImage command) s found made tt tt of_run (λ done. done_check command (of_done done)) no_usage refused absent read write

    pub cause_of_debug : (options : DebugOptions) (s : Status) → command_of words ≡ Some (Debug options) → c.files.names ≡ words → IsOfDebug s
        → RefusalCause (known_at operand c) s → (known_at operand c ≡ Absent → s ≡ ReadFault) → (s ≡ ReadFault → DebugReadFails options operand (known_at operand c) c) → (s ≡ WriteFault → SinkRose c.devices)
        → HasCause words c s
    cause_of_debug options s found made only refused absent read write =
        cause_of (Debug options) s found made tt tt (debug_runs s only) (λ done. tt) (debug_usage s only) refused absent read write

    -- a command of another kind
    pub cause_apart : (command : Command) (s : Status) → command_of words ≡ Some command → (IsOnImage command → ⊥) → IsDone command
        → (IsOfRun s → RunsGuest command) → IsApart s → (s ≡ NoMemory → TakesMemory command) → (s ≡ WriteFault → SinkRose c.devices) → HasCause words c s
    cause_apart command s found other done of_run apart of_memory write = record {
      of_run = λ run. rw found (of_run run);
      of_done = λ is. rw found done;
      of_image = λ is. absurd (apart_refused s apart is);
      refused = λ f is. absurd (rw is at apart);
      of_words = λ is. absurd (rw is at apart);
      no_command = λ none. absurd (no_words command found none);
      of_memory = λ lacks. rw found (of_memory lacks);
      absent = λ on is. absurd (other (rw found at on));
      read = λ is. absurd (rw is at apart);
      write = write;
      complete = complete_by s (λ is. absurd (rw is at apart)) write;
    }

    -- no command
    pub cause_usage : (s : Status) → command_of words ≡ None → (s ≡ Usage) ⊎ (s ≡ WriteFault) → (s ≡ WriteFault → SinkRose c.devices) → HasCause words c s
    cause_usage s none (inl is) write = rw is record {
      of_run = λ run. absurd run;
      of_done = λ done. absurd (cc);
      of_image = λ is. absurd is;
      refused = λ f is. absurd (cc);
      of_words = λ usage. none;
      no_command = λ again. inl refl;
      of_memory = λ lacks. absurd (cc);
      absent = λ on is. absurd (rw none at on);
      read = λ read. absurd (cc);
      write = λ failed. absurd (cc);
      complete = λ quiet. inl tt;
    }
    cause_usage s none (inr is) write = rw is record {
      of_run = λ run. absurd run;
      of_done = λ done. absurd (cc);
      of_image = λ is. absurd is;
      refused = λ f is. absurd (cc);
      of_words = λ usage. none;
      no_command = λ again. inr refl;
      of_memory = λ lacks. absurd (cc);
      absent = λ on is. absurd (rw none at on);
      read = λ read. absurd (cc);
      write = λ failed. write is;
      complete = λ quiet. absurd (quiet.sinks (write is));
    }
