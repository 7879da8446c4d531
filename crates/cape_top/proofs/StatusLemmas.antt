-- Which kinds of status exclude one another, and what a call promises by the kind of its status.
use Rattle.std.proofs.Common.{◌≡◌, ◌⊎◌, inl, inr, Option, Some, None, refl, sym, subst, IfSome, List, [], take, drop, ℕ}
use Rattle.std.specs.Io.KnownBytes.{Appends}
use Rattle.std.proofs.lemmas.List.{take-append-drop}
use Rattle.cape_io.specs.Devices.{AppendsPrefix, KnownFile}
use Rattle.elf_load.specs.declared.faults.LoadFault.{LoadFault}
use Rattle.machine.specs.Moments.{Held}
use Rattle.machine.specs.Views.{GainsPrefix}
use Rattle.machine.specs.declared.answers.Step.{Step}
use Rattle.machine.specs.declared.answers.Step.TheVariants.{Ran, Exited, Trapped}
use Rattle.cape_top.specs.declared.ending.Status.{Status}
use Rattle.cape_top.specs.declared.ending.Status.TheVariants.{Done, StepLimit, Refused, Usage, ReadFault, WriteFault, NoMemory, Exited as ExitedWith, Trapped as HasTrapped}
use Rattle.cape_top.specs.Statuses.{IsEnded, IsFault, IsOfRun}
use Rattle.cape_io.specs.Views.{Devices}
use Rattle.cape_top.specs.Calls.{WritesNothing}
use Rattle.cape_top.specs.Debugging.{IsOfSession}
use Rattle.cape_top.specs.Endings.{Ending, Ends, EndsBy, WritesPrefixes, status_for}
use Rattle.cape_top.specs.Promises.{RefusalCause}
use Rattle.cape_top.specs.Reading.{IsFaultOf}

pub ended_no_fault : (s : Status) → IsEnded s → IsFault s → ⊥
ended_no_fault ReadFault ended fault = ended
ended_no_fault WriteFault ended fault = ended
ended_no_fault NoMemory ended fault = ended
ended_no_fault _ ended fault = fault

-- a run's end is an end
pub run_ended : (s : Status) → IsOfRun s → IsEnded s
run_ended (ExitedWith c) run = tt
run_ended HasTrapped run = tt
run_ended StepLimit run = tt
run_ended Done run = tt
run_ended (Refused f) run = tt
run_ended Usage run = tt
run_ended ReadFault run = run
run_ended WriteFault run = run
run_ended NoMemory run = run

-- an answer of the machine is the end of a run, and keeps the machine
pub run_of_answer : (a : Step) → IsOfRun (status_for a)
run_of_answer Ran = tt
run_of_answer (Exited c) = tt
run_of_answer (Trapped t) = tt

-- what is refused by a fault of the image, unless its line cannot be written
pub refusal_by : (known : KnownFile) (s : Status) (fault : LoadFault) → IsFaultOf known fault → (s ≡ Refused fault) ⊎ (s ≡ WriteFault) → RefusalCause known s
refusal_by known s fault is (inl refused) f same = subst (IsFaultOf known) (cc) is
refusal_by known s fault is (inr fails) f same = absurd (cc)

-- what ends otherwise is no refusal
pub no_refusal_of_run : (known : KnownFile) (s : Status) → IsOfRun s ⊎ (IsFault s ⊎ (s ≡ NoMemory)) → RefusalCause known s
no_refusal_of_run known s (inl run) f same = absurd (subst IsOfRun same run)
no_refusal_of_run known s (inr (inl fault)) f same = absurd (subst IsFault same fault)
no_refusal_of_run known s (inr (inr lacks)) f same = absurd (cc)

pub no_refusal_of_text : (known : KnownFile) (s : Status) → (s ≡ Done) ⊎ (s ≡ WriteFault) → RefusalCause known s
no_refusal_of_text known s (inl done) f same = absurd (cc)
no_refusal_of_text known s (inr fails) f same = absurd (cc)

pub no_refusal_of_session : (known : KnownFile) (s : Status) → IsOfSession s → RefusalCause known s
no_refusal_of_session known s (inl done) f same = absurd (cc)
no_refusal_of_session known s (inr (inl fault)) f same = absurd (subst IsFault same fault)
no_refusal_of_session known s (inr (inr lacks)) f same = absurd (cc)

pub all_of : {A : Type 0} (o : Option A) (P : A → Type 0) → ((a : A) → P a) → IfSome o P
all_of None P all = tt
all_of (Some a) P all = all a

module _ (e : Option Ending) (d : Devices) (s : Status) (kept : Option Held)
  where
    -- a call that ended
    pub ends_so : IsEnded s → IfSome e (EndsBy s kept d) → Ends e d s kept
    ends_so ended by = record {
      ended = λ again. by;
      failed = λ fault. absurd (ended_no_fault s ended fault);
      lacking = λ is. absurd (subst IsEnded is ended);
    }

    -- a call whose device failed
    pub ends_in_fault : IsFault s → IfSome e (WritesPrefixes d) → Ends e d s kept
    ends_in_fault fault prefixes = record {
      ended = λ ended. absurd (ended_no_fault s ended fault);
      failed = λ again. prefixes;
      lacking = λ is. absurd (subst IsFault is fault);
    }

    -- a call that lacked memory
    pub ends_in_lack : s ≡ NoMemory → WritesNothing d → Ends e d s kept
    ends_in_lack is nothing = record {
      ended = λ ended. absurd (subst IsEnded is ended);
      failed = λ fault. absurd (subst IsFault is fault);
      lacking = λ again. nothing;
    }

-- nothing is a prefix of any text
pub prefix_none : (first held : Option (List ℕ)) (whole : List ℕ) → Appends first held [] → GainsPrefix first held whole
prefix_none first held whole nothing = ([], nothing, (whole, refl))

pub prefix_put : (first held : Option (List ℕ)) (whole : List ℕ) → AppendsPrefix first held whole → GainsPrefix first held whole
prefix_put first held whole put = (take put.0 whole, put.2, (drop put.0 whole, sym (take-append-drop put.0 whole)))

-- where nothing was written, each sink gained a prefix of any text
pub nothing_prefixes : (d : Devices) → WritesNothing d → (e : Ending) → WritesPrefixes d e
nothing_prefixes d nothing e = record { gains_out = prefix_none _ _ e.out nothing.gains_out; gains_err = prefix_none _ _ e.err nothing.gains_err }
