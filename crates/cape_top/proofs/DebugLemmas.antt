-- How a session on an image ends, by what was loaded of it and by the answers of the session.
use Rattle.std.proofs.Common.{◌≡◌, ◌⊎◌, inl, inr, ℕ, List, take, Option, Some, None, true, refl, sym, ap, subst, IfSome}
use Rattle.std.specs.Prelude.{IsSomeAnd}
use Rattle.cape_io.specs.Devices.{KnownFile, Unknown, Absent, Present, Rose}
use Rattle.cape_io.specs.declared.devices.Files.{Ghosts as FilesGhosts}
use Rattle.cape_io.specs.Views.{Devices, DeviceViews, SourceView}
use Rattle.command_words.specs.declared.words.DebugOptions.{DebugOptions}
use Rattle.debug_commands.specs.declared.performing.SessionFault.{SessionFault}
use Rattle.debug_commands.specs.declared.performing.SessionFault.TheVariants.{ReadFault as CannotRead, WriteFault as CannotWrite, NoMemory as LacksMemory}
use Rattle.debug_core.specs.Sessions.{Answers, AnswersInPart}
use Rattle.elf_load.specs.declared.faults.LoadFault.{LoadFault}
use Rattle.elf_load.specs.declared.loaded.Loaded.{Loaded}
use Rattle.elf_load.specs.Faults.{fault}
use Rattle.machine.specs.Moments.{Held, Moment, first_moment}
use Rattle.machine.specs.Views.{Shows}
use Rattle.rvv_meaning.specs.States.{State}
use Rattle.cape_top.specs.declared.ending.Status.{Status}
use Rattle.cape_top.specs.declared.ending.Status.TheVariants.{Done, Refused, ReadFault, WriteFault, NoMemory}
use Rattle.cape_top.specs.Calls.{Call, FailedOn, WritesNothing, files_call}
use Rattle.cape_top.specs.Debugging.{DebugEnds, FileFails, ImageDebugEnds, IsAnswered, IsAnsweredInPart, IsCut, IsSound, LoadedSession, SessionEnds, SoundDebugEnds, debug_start, loaded_moment, status_of_session}
use Rattle.cape_top.specs.Endings.{Ending, Ends, absent_ending, refused_ending}
use Rattle.cape_top.specs.Reading.{IsFaultOf, IsLoadedFrom, IsLoadedOf, IsReadOf, input_limit}
use Rattle.cape_top.specs.Statuses.{IsEnded, IsFault}
use Rattle.cape_top.proofs.StatusLemmas.{all_of, ended_no_fault, ends_in_fault, ends_in_lack, nothing_prefixes, prefix_none}
use Rattle.cape_top.proofs.TopLemmas.{memory_in, start_loaded}

cut_not_ended : (s : Status) → IsCut s → IsEnded s → ⊥
cut_not_ended s (inl is_fault) ended = ended_no_fault s ended is_fault
cut_not_ended s (inr lacks) ended = subst IsEnded lacks ended

-- the devices of a call that reads its commands from one source, where its session reads the input of its guest from another
abbrev pub with_commands : SourceView → SourceView → Devices → Devices
with_commands v v' io = record { old = record io.old { input = v }; new = record io.new { input = v' } }

module _ (m : Moment) (machine machine' : Held) (v v' : SourceView) (io : Devices) (shows : Shows true m machine io.old io.old)
  where
    answered : Answers v.left machine machine' io → (left : Option (List ℕ)) → v.left ≡ left → IfSome left (λ commands. IsAnswered m commands (with_commands v v' io) Done)
    answered all None is = tt
    answered all (Some commands) is =
        let a = all.answered commands is m io.old shows in
        record { done = refl; gains_out = a.1; gains_err = a.0.gained_err }

    -- all commands were answered
    pub session_done : Answers v.left machine machine' io → SessionEnds m (with_commands v v' io) Done
    session_done all = record { ended = λ ended. answered all v.left refl; cut = λ cut. absurd (cut_not_ended Done cut tt) }

    answered_in_part : AnswersInPart v.left machine io → (left : Option (List ℕ)) → v.left ≡ left → IfSome left (λ commands. IsAnsweredInPart m commands (with_commands v v' io))
    answered_in_part some None is = tt
    answered_in_part some (Some commands) is =
        let a = some.answered commands is m io.old shows in
        record { gains_out = a.0; gains_err = a.1 }

    -- a device failed, or memory was lacking
    pub session_cut : (s : Status) → IsCut s → AnswersInPart v.left machine io → SessionEnds m (with_commands v v' io) s
    session_cut s is some = record { ended = λ ended. absurd (cut_not_ended s is ended); cut = λ cut. answered_in_part some v.left refl }

-- a session that ends early is cut off
pub cut_of : (f : SessionFault) → IsCut (status_of_session f)
cut_of CannotRead = inl tt
cut_of CannotWrite = inl tt
cut_of LacksMemory = inr refl

-- nothing was written
pub session_none : (m : Moment) (d : Devices) (s : Status) → IsCut s → WritesNothing d → SessionEnds m d s
session_none m d s is nothing = record {
  ended = λ ended. absurd (cut_not_ended s is ended);
  cut = λ cut. all_of d.old.input.left (λ commands. IsAnsweredInPart m commands d)
      (λ commands. record { gains_out = prefix_none _ _ _ nothing.gains_out; gains_err = prefix_none _ _ _ nothing.gains_err });
}

ends_none : (e : Ending) (d : Devices) (s : Status) (kept : Option Held) → IsCut s → WritesNothing d → Ends (Some e) d s kept
ends_none e d s kept (inl is_fault) nothing = ends_in_fault (Some e) d s kept is_fault (nothing_prefixes d nothing e)
ends_none e d s kept (inr lacks) nothing = ends_in_lack (Some e) d s kept lacks nothing

module _ (options : DebugOptions) (d : Devices) (s : Status) (kept : Option Held)
  where
    sound_none : (image : List ℕ) (input : KnownFile) → IsCut s → WritesNothing d → SoundDebugEnds options image input d s kept
    sound_none image Unknown cut nothing = tt
    sound_none image Absent cut nothing = ends_none (absent_ending d.old.input.left) d s kept cut nothing
    sound_none image (Present bytes) cut nothing = session_none (debug_start options image (take input_limit bytes)) d s cut nothing

    image_none : (f : Option LoadFault) (image : List ℕ) (input : KnownFile) → IsCut s → WritesNothing d → ImageDebugEnds f options image input d s kept
    image_none (Some f) image input cut nothing = ends_none (refused_ending f d.old.input.left) d s kept cut nothing
    image_none None image input cut nothing = sound_none image input cut nothing

    -- A file could not be read, or memory was lacking, before the session.
    pub debug_none : (known input : KnownFile) → IsCut s → WritesNothing d → DebugEnds options known input d s kept
    unfolding DebugEnds
    debug_none Unknown input cut nothing = tt
    debug_none Absent input cut nothing = ends_none (absent_ending d.old.input.left) d s kept cut nothing
    debug_none (Present image) input cut nothing = image_none (fault image) image input cut nothing

    -- the image is refused
    pub debug_refused : (known input : KnownFile) (f : LoadFault) → IsFaultOf known f → Ends (Some (refused_ending f d.old.input.left)) d s kept → DebugEnds options known input d s kept
    unfolding DebugEnds
    debug_refused Unknown input f is ends = tt
    debug_refused Absent input f is ends = absurd is
    debug_refused (Present image) input f is ends = rw is ends

    -- the session on what was loaded is that on the image
    debug_sound : (image : List ℕ) (input : KnownFile) (l : Loaded) (given : List ℕ) → IsLoadedFrom image l → IsReadOf input_limit input given → LoadedSession l options given d s
        → SoundDebugEnds options image input d s kept
    debug_sound image Unknown l given from read session = tt
    debug_sound image Absent l given from read session = absurd read
    debug_sound image (Present bytes) l given from read session =
        rw (start_loaded options.vlen options.policy image (take input_limit bytes) l from, ← read) session

    pub debug_held : (known input : KnownFile) (l : Loaded) (given : List ℕ) → IsLoadedOf known l → IsReadOf input_limit input given → LoadedSession l options given d s
        → DebugEnds options known input d s kept
    unfolding DebugEnds
    debug_held Unknown input l given from read session = tt
    debug_held Absent input l given from read session = absurd from
    debug_held (Present image) input l given from read session = rw from.sound (debug_sound image input l given from read session)

-- what was loaded has no fault
pub sound_loaded : (known : KnownFile) (l : Loaded) → IsLoadedOf known l → IsSound known
sound_loaded Unknown l from = tt
sound_loaded Absent l from = from
sound_loaded (Present image) l from = from.sound

-- The file of the guest's input could not be read after the image was read without a fault.
pub input_fails : {F : Type 0} (f : FilesGhosts F) (old mid new : F) (d : Devices) (place : Option ℕ) → f.faults mid ≡ f.faults old
    → IsSomeAnd place (λ p. FailedOn p (files_call f mid new)) → WritesNothing d → IsSomeAnd place (λ p. FileFails p record { files = files_call f old new; devices = d })
input_fails f old mid new d None quiet fails nothing = fails
input_fails f old mid new d (Some p) quiet fails nothing =
    record { failed = record { rose = rw (← quiet) fails.rose; since_open = fails.since_open; at_operand = fails.at_operand }; nothing = nothing }
