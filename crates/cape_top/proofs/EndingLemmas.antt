-- From what a run of the machine leaves to how the top call ends.
use Rattle.std.proofs.Common.{◌≡◌, ◌⊎◌, inl, inr, ℕ, Bool, false, true, List, [], ◌++◌, Option, Some, None, refl, sym, ap, subst, append_assoc, append-nil, take, drop, IfSome, option_map}
use Rattle.std.specs.Io.KnownBytes.{Appends}
use Rattle.std.proofs.lemmas.List.{take-append-drop}
use Rattle.cape_io.specs.Devices.{AppendsPrefix}
use Rattle.cam_chain.specs.ChainValue.{slices_of}
use Rattle.elf_load.specs.declared.loaded.Loaded.{Loaded}
use Rattle.rvv_meaning.specs.declared.Mode.{Mode}
use Rattle.rvv_meaning.specs.declared.Mode.TheVariants.{Running, Exited, Trapped}
use Rattle.rvv_meaning.specs.States.{State, run}
use Rattle.rvv_meaning.specs.Texts.{report, report_at}
use Rattle.machine.specs.declared.answers.Step.{Step}
use Rattle.machine.specs.declared.answers.Step.TheVariants.{Ran, Exited as SaysExited, Trapped as SaysTrapped}
use Rattle.machine.specs.Answers.{step_for}
use Rattle.machine.specs.Moments.{Held, Moment, moments, first_moment, counts_after, slices_after}
use Rattle.machine.specs.Views.{GoesBy, FaultsIn, ReadsIn}
use Rattle.machine.proofs.Showing.{appends_more}
use Rattle.machine.proofs.Runs.{state_run}
use Rattle.report_texts.specs.Lines.{line_of}
use Rattle.command_words.specs.declared.words.RunOptions.{RunOptions}
use Rattle.cape_top.specs.declared.ending.Status.{Status}
use Rattle.cape_top.specs.declared.ending.Status.TheVariants.{NoMemory}
use Rattle.cape_top.specs.Statuses.{IsOfRun, IsFault}
use Rattle.cape_io.specs.Views.{DeviceViews, Devices, SinkView}
use Rattle.cape_top.specs.Endings.{Ending, Ends, EndsBy, IsAt, Keeps, Kept, ReadsWithin, WritesPrefixes, ending_at, ending_from, shown_text, status_for}
use Rattle.cape_top.specs.Runs.{LoadedEnds, LoadedReads, MachineEnds, MachineReads, ShowsFirst, end_of, loaded_start, moment_ending}
use Rattle.cape_top.proofs.StatusLemmas.{ends_so, ends_in_fault, run_ended, run_of_answer}

pub line_is_report : (mode : Mode) (n : ℕ) → line_of (step_for mode) n ≡ report_at mode n
line_is_report Running n = refl
line_is_report (Exited c) n = refl
line_is_report (Trapped t) n = refl

-- how a run ends, stated on the state of the last moment
abbrev last_ending : RunOptions → Moment → Ending
last_ending options m = ending_at options record { state = m.state; slices = m.slices; counts = m.counts }

ending_run : (options : RunOptions) (m : Moment) → moment_ending options m ≡ last_ending options (moments m options.steps)
ending_run options m =
    let last = moments m options.steps in
    ap (λ (s : State). ending_at options record { state = s; slices = last.slices; counts = last.counts }) (sym (state_run options.steps m))

-- the text at the end is that of the last moment
end_is_report : (options : RunOptions) (machine : Held) (a : Step) (m : Moment) → m.state.core ≡ machine.core → m.slices ≡ slices_of machine.chain → m.counts ≡ machine.chain.counts
    → a ≡ step_for machine.core.mode
    → end_of a options machine ≡ report m.state ++ shown_text options m.state.core m.counts m.slices
end_is_report options machine a m holds slices counts answered =
    rw (answered, holds, slices, counts, line_is_report machine.core.mode machine.core.csrs.retired) refl

-- the devices before a run, after it, and after the report that follows it
abbrev pub with_report : (v v' : DeviceViews) → SinkView → Devices
with_report v v' err = record { old = v; new = record { input = v'.input; out = v'.out; err = err } }

module _ (options : RunOptions) (machine machine' : Held) (v v' : DeviceViews) (err : SinkView) (answer : Step)
    (goes : GoesBy (λ m. moments m options.steps) false machine machine' record { old = v; new = v' })
    (live : machine'.live ≡ true)
    (answered : answer ≡ step_for machine'.core.mode)
  where
    ended_by : Appends v'.err.held err.held (end_of answer options machine') → (m : Moment) → ShowsFirst m machine v
        → EndsBy (status_for answer) (Some machine') (with_report v v' err) (moment_ending options m)
    ended_by put m shows =
        let t = goes m v shows in
        let s = (moments m options.steps).state in
        let text = end_is_report options machine' answer (moments m options.steps) t.holds t.slices t.counts answered in
        rw (ending_run options m) record {
          status_is = rw (answered, t.holds) refl;
          keeps = record { core = sym t.holds; slices = sym t.slices; counts = sym t.counts; live = live };
          leaves = t.known;
          gains_out = t.gained_out;
          gains_err = rw (← text) (appends_more v.err.held v'.err.held err.held s.errors (end_of answer options machine') t.gained_err put);
        }

    -- the end was written
    pub machine_ended : (s : Status) (kept : Option Held) → s ≡ status_for answer → kept ≡ Some machine'
        → Appends v'.err.held err.held (end_of answer options machine') → MachineEnds machine options (with_report v v' err) s kept
    machine_ended s kept is keeps put =
        λ m shows. rw (is, keeps) (ends_so _ (with_report v v' err) _ _ (run_ended _ (run_of_answer answer)) (ended_by put m shows))

    report_prefixes : AppendsPrefix v'.err.held err.held (end_of answer options machine') → (m : Moment) → ShowsFirst m machine v
        → WritesPrefixes (with_report v v' err) (moment_ending options m)
    report_prefixes put m shows =
        let t = goes m v shows in
        let s = (moments m options.steps).state in
        let line = end_of answer options machine' in
        let text = end_is_report options machine' answer (moments m options.steps) t.holds t.slices t.counts answered in
        rw (ending_run options m) record {
          gains_out = (s.output, t.gained_out, ([], sym (append-nil s.output)));
          gains_err = (
            s.errors ++ take put.0 line,
            appends_more v.err.held v'.err.held err.held s.errors (take put.0 line) t.gained_err put.2,
            (drop put.0 line, rw (← text, append_assoc s.errors (take put.0 line) (drop put.0 line), take-append-drop put.0 line) refl),
          );
        }

    -- the end could not be written
    pub report_fails : (s : Status) (kept : Option Held) → IsFault s
        → AppendsPrefix v'.err.held err.held (end_of answer options machine') → MachineEnds machine options (with_report v v' err) s kept
    report_fails s kept fault put = λ m shows. ends_in_fault _ (with_report v v' err) s kept fault (report_prefixes put m shows)

run_prefixes : (options : RunOptions) (machine : Held) (d : Devices) → FaultsIn (λ m. moments m options.steps) false machine d
    → (m : Moment) → ShowsFirst m machine d.old → WritesPrefixes d (moment_ending options m)
run_prefixes options machine d faults m shows =
    let f = faults m d.old shows in
    let t = (moments m options.steps).state in
    let last = moments m options.steps in
    let rest = report t ++ shown_text options t.core last.counts last.slices in
    rw (ending_run options m) record {
      gains_out = f.0;
      gains_err = (f.1.0, f.1.1, (f.1.2.0 ++ rest, rw f.1.2.1 (append_assoc f.1.0 f.1.2.0 rest)));
    }

-- a device failed in the run
pub run_fails : (options : RunOptions) (machine : Held) (d : Devices) (s : Status) (kept : Option Held) → IsFault s
    → FaultsIn (λ m. moments m options.steps) false machine d → MachineEnds machine options d s kept
run_fails options machine d s kept fault faults = λ m shows. ends_in_fault _ d s kept fault (run_prefixes options machine d faults m shows)

-- a read of the run that fails is at one of its steps
pub reads_in : (options : RunOptions) (machine : Held) (v : DeviceViews) → ReadsIn options.steps false machine v → MachineReads machine options v
reads_in options machine v reads = λ m shows.
    let r = reads m v shows in
    (r.0, r.1, rw (← state_run r.0 m) r.2.0, rw (← state_run r.0 m) r.2.1)

module _ (options : RunOptions) (l : Loaded) (machine : Held)
  where
    -- the machine shows the opening state
    abbrev pub Opens : DeviceViews → Type 0
    Opens v = (input : List ℕ) → v.input.left ≡ Some input → ShowsFirst (first_moment (loaded_start options l input)) machine v

    no_lack : (s : Status) → IsOfRun s ⊎ IsFault s → s ≡ NoMemory → ⊥
    no_lack s (inl run) is = subst IsOfRun is run
    no_lack s (inr fault) is = subst IsFault is fault

    ends_known : (d : Devices) (s : Status) (kept : Option Held) → IsOfRun s ⊎ IsFault s → MachineEnds machine options d s kept → Opens d.old
        → (left : Option (List ℕ)) → d.old.input.left ≡ left → Ends (option_map (λ input. ending_from options (loaded_start options l input)) left) d s kept
    unfolding slices_after counts_after
    ends_known d s kept only ends opens None is = record { ended = λ ended. tt; failed = λ failed. tt; lacking = λ lacks. absurd (no_lack s only lacks) }
    ends_known d s kept only ends opens (Some input) is = ends (first_moment (loaded_start options l input)) (opens input is)

    -- the run of a machine that shows the opening state is that of what was loaded
    pub loaded_ends : (d : Devices) (s : Status) (kept : Option Held) → IsOfRun s ⊎ IsFault s → MachineEnds machine options d s kept → Opens d.old
        → LoadedEnds l options d s kept
    loaded_ends d s kept only ends opens = ends_known d s kept only ends opens d.old.input.left refl

    reads_known : (v : DeviceViews) → MachineReads machine options v → Opens v → (left : Option (List ℕ)) → v.input.left ≡ left
        → IfSome left (λ input. ReadsWithin (loaded_start options l input) options.steps)
    reads_known v reads opens None is = tt
    reads_known v reads opens (Some input) is = reads (first_moment (loaded_start options l input)) (opens input is)

    pub loaded_reads : (v : DeviceViews) → MachineReads machine options v → Opens v → LoadedReads l options v
    loaded_reads v reads opens = reads_known v reads opens v.input.left refl
