-- A call on words ends as the command that they are.
use Rattle.std.proofs.Common.{◌≡◌, ◌⊎◌, inl, inr, ℕ, List, Option, Some, None, refl, sym}
use Rattle.std.specs.Prelude.{IsSomeAnd}
use Rattle.command_words.specs.Grammar.{command_of}
use Rattle.command_words.specs.declared.words.Command.{Command}
use Rattle.command_words.specs.declared.words.Command.TheVariants.{Debug}
use Rattle.command_words.specs.declared.words.DebugOptions.{DebugOptions}
use Rattle.machine.specs.Moments.{Held}
use Rattle.cape_top.specs.declared.ending.Status.{Status}
use Rattle.cape_top.specs.Calls.{Call}
use Rattle.cape_top.specs.Debugging.{PlaceDebugEnds}
use Rattle.cape_top.specs.Promises.{CallEnds, CommandEnds, MayKeep, UsageEnds, operand}

module _ (words : List (List ℕ)) (c : Call) (s : Status) (kept : Option Held)
  where
    keeps_for : (command : Command) (found : Option Command) → found ≡ Some command → MayKeep command s ⊎ (kept ≡ None)
        → IsSomeAnd found (λ command. MayKeep command s) ⊎ (kept ≡ None)
    keeps_for command found is (inl keeps) = rw is (inl keeps)
    keeps_for command found is (inr none) = inr none

    -- the words are this command
    pub ends_for : (command : Command) → command_of words ≡ Some command → c.files.names ≡ words → CommandEnds command c.files.names c s kept → MayKeep command s ⊎ (kept ≡ None)
        → CallEnds words c s kept
    ends_for command found made ends keeps = record { ends = rw (found, ← made) ends; keeps = keeps_for command (command_of words) found keeps }

    -- they are a session, which keeps no machine
    pub ends_of_debug : (options : DebugOptions) → command_of words ≡ Some (Debug options) → c.files.names ≡ words → PlaceDebugEnds options operand c s → kept ≡ None
        → CallEnds words c s kept
    ends_of_debug options found made ends none = ends_for (Debug options) found made (rw none ends) (inr none)

    -- they are none
    pub ends_in_usage : command_of words ≡ None → UsageEnds c s kept → kept ≡ None → CallEnds words c s kept
    ends_in_usage none ends kept_none = record { ends = rw none ends; keeps = inr kept_none }
