-- How a bench ends, by the machine of its workload.
use Rattle.std.proofs.Common.{◌≡◌, ◌≤◌, ◌⊎◌, inl, inr, ℕ, ◌/◌, List, [], Option, Some, None, Result, Ok, Err, IfOk, true, false, refl, sym, ap, ◌∙◌, subst, arith}
use Rattle.std.specs.Prelude.{◌==◌, ◌||◌, ⊤, Bool, MatchBool, unwrap_or}
use Rattle.bit_rows.specs.Slices.{blank}
use Rattle.cam_chain.specs.ChainValue.{no_counts, slices_of}
use Rattle.cape_io.specs.Devices.{Rose}
use Rattle.cape_io.specs.Views.{DeviceViews, Devices, Writes, devices}
use Rattle.cape_io.specs.declared.devices.Sink.{Ghosts as SinkGhosts}
use Rattle.cape_io.specs.declared.devices.Source.{Ghosts as SourceGhosts}
use Rattle.command_words.specs.Grammar.{IsWorkloadInRange, default_steps, default_vlen}
use Rattle.command_words.specs.declared.words.Workload.{Workload}
use Rattle.elf_load.specs.declared.loaded.Loaded.{Loaded}
use Rattle.vtype_cfg.specs.declared.configuration.Policy.TheVariants.{Keep}
use Rattle.rvv_meaning.specs.Images.{start_core, start_state}
use Rattle.rvv_meaning.specs.States.{State}
use Rattle.elf_load.specs.Layout.{regions, heap_start, heap_end}
use Rattle.machine.specs.Carrying.{OneFault}
use Rattle.machine.specs.Moments.{Held, cleared_control, counts_after, first_moment, moments, slices_after}
use Rattle.machine.specs.Opening.{memory_of, start}
use Rattle.machine.specs.Views.{GoesBy}
use Rattle.machine.specs.declared.answers.DeviceFault.{DeviceFault}
use Rattle.machine.specs.declared.answers.DeviceFault.TheVariants.{ReadFault, WriteFault}
use Rattle.machine.proofs.Carried.{appends_none}
use Rattle.machine.proofs.Runs.{state_run}
use Rattle.work_gen.specs.Images.{workload}
use Rattle.work_runs.specs.Runs.{instructions}
use Rattle.work_runs.proofs.Workloads.{workload-exits}
use Rattle.cape_top.specs.declared.ending.Status.{Status}
use Rattle.cape_top.specs.declared.ending.Status.TheVariants.{Done, NoMemory, WriteFault as CannotWrite}
use Rattle.cape_top.specs.Endings.{Ends, IsAt, Keeps, bench_ending, bench_text, workload_reached, workload_start}
use Rattle.cape_top.specs.Reading.{IsLoadedFrom}
use Rattle.cape_top.specs.Runs.{HasExited, OpensWorkload, ShowsFirst, run_text}
use Rattle.cape_top.proofs.StatusLemmas.{ends_in_fault, ends_in_lack, ends_so, prefix_none, prefix_put}
use Rattle.cape_top.proofs.TopLemmas.{memory_in, shows_start}

workload_is : (w : Workload) (l : Loaded) → IsLoadedFrom (workload w.seed w.size) l → start_state default_vlen Keep l.entry_pc (memory_in l) [] ≡ workload_start w
unfolding start
workload_is w l from = rw (from.entry_pc, from.regions_are, from.heap_is, from.heap_end_is) refl

-- a new machine of what was loaded of a workload
pub workload_opens : (w : Workload) (l : Loaded) (machine : Held) → IsLoadedFrom (workload w.seed w.size) l
    → machine.core ≡ start_core default_vlen Keep l.entry_pc (memory_in l) → slices_of machine.chain ≡ blank (default_vlen / 32) → machine.last ≡ []
    → machine.chain.counts ≡ no_counts → machine.control ≡ cleared_control → OpensWorkload w machine
workload_opens w l machine from core slices last counts control = λ v none.
    subst (λ s. ShowsFirst (first_moment s) machine v) (workload_is w l from) (shows_start default_vlen Keep l.entry_pc (memory_in l) [] machine v none core slices last counts control)

-- the machine that a call gives, if it gives one
pub workload_opens_if : {E : Type 0} (w : Workload) (l : Loaded) (r : Result Held E) → IsLoadedFrom (workload w.seed w.size) l
    → IfOk r (λ machine. machine.core ≡ start_core default_vlen Keep l.entry_pc (memory_in l)) → IfOk r (λ machine. slices_of machine.chain ≡ blank (default_vlen / 32))
    → IfOk r (λ machine. machine.last ≡ []) → IfOk r (λ machine. machine.chain.counts ≡ no_counts) → IfOk r (λ machine. machine.control ≡ cleared_control)
    → IfOk r (OpensWorkload w)
workload_opens_if w l (Ok machine) from core slices last counts control = workload_opens w l machine from core slices last counts control
workload_opens_if w l (Err e) from core slices last counts control = tt

-- what its run leaves
pub workload_ran : (w : Workload) (machine machine' : Held) (d : Devices) → d.old.input.left ≡ Some [] → OpensWorkload w machine
    → GoesBy (λ m. moments m default_steps) false machine machine' d → machine'.live ≡ true → IsAt (workload_reached w) machine'
unfolding workload_reached slices_after counts_after
workload_ran w machine machine' d none opens goes live =
    let m = first_moment (workload_start w) in
    let t = goes m d.old (opens d.old none) in
    record { core = sym t.holds ∙ ap (λ (s : State). s.core) (state_run default_steps m); slices = sym t.slices; counts = sym t.counts; live = live }

-- no count rises that is always 0
rose_none : Rose 0 0 → ⊥
rose_none rose = omega (arith, rose.0)

-- the devices count no fault
pub record Quiet (v : DeviceViews) : Type 0 where
  pub input : v.input.faults ≡ 0
  pub out : v.out.faults ≡ 0
  pub err : v.err.faults ≡ 0

no_rise : (a b : ℕ) → a ≡ 0 → b ≡ 0 → Rose a b → ⊥
no_rise a b is is' rose = rose_none (rw (is, is') at rose)

no_write : (b : Bool) (d : Devices) → Quiet d.old → Quiet d.new
    → MatchBool (false || b) ((d.new.out.faults ≡ d.old.out.faults) × Rose d.old.err.faults d.new.err.faults) (Rose d.old.out.faults d.new.out.faults × (d.new.err.faults ≡ d.old.err.faults)) → ⊥
no_write true d old new one = no_rise _ _ old.err new.err one.1
no_write false d old new one = no_rise _ _ old.out new.out one.0

pub none_fails : (fault : DeviceFault) (descriptor : ℕ) (d : Devices) → Quiet d.old → Quiet d.new → OneFault fault false descriptor d → ⊥
none_fails ReadFault descriptor d old new one = no_rise _ _ old.input new.input one.0
none_fails WriteFault descriptor d old new one = no_write (descriptor == 2) d old new one.1

-- the machine that a workload's run reaches has exited
pub workload_exited : (w : Workload) (machine : Held) → IsWorkloadInRange w → IsAt (workload_reached w) machine → HasExited w machine
unfolding workload_reached start start_state start_core
workload_exited w machine range at =
    let image = workload w.seed w.size in
    let e = workload-exits w.seed w.size default_vlen Keep (memory_of (regions image) (heap_start image) (heap_end image)) [] range.most refl in
    let past : instructions w.size ≤ default_steps = omega (arith, range.most) in
    record {
      mode = rw at.core (e.exits default_steps past);
      retired = rw at.core ((e.quiet default_steps past).retired ∙ omega arith);
    }

-- so the line about its run is that of what the run reaches
pub text_is : (w : Workload) (machine : Held) → IsAt (workload_reached w) machine → HasExited w machine → run_text w machine ≡ bench_text w (workload_reached w)
text_is w machine at exited = rw (exited.retired, at.core, at.counts) refl

module _ {S O E : Type 0} (sg : SourceGhosts S) (og : SinkGhosts O) (eg : SinkGhosts E) (w : Workload) (s : Status) (kept : Option Held) (input : S) (out out' : O) (err : E)
  where
    -- a bench ends so, by what it wrote and kept
    pub bench_ends : (s ≡ Done) ⊎ ((s ≡ CannotWrite) ⊎ (s ≡ NoMemory))
        → (s ≡ Done → Writes og (bench_text w (workload_reached w)) true out out') → (s ≡ CannotWrite → Writes og (bench_text w (workload_reached w)) false out out')
        → (s ≡ NoMemory → out' ≡ out) → (s ≡ Done → Keeps (Some (workload_reached w)) kept)
        → Ends (Some (bench_ending w (sg.left input))) (devices sg og eg input input out out' err err) s kept
    bench_ends (inl is) said fails lacks holds =
        ends_so _ _ s kept (rw is tt) record { status_is = is; keeps = holds is; leaves = refl; gains_out = (said is).gained; gains_err = appends_none _ }
    bench_ends (inr (inl is)) said fails lacks holds =
        ends_in_fault _ _ s kept (rw is tt) record { gains_out = prefix_put _ _ _ (fails is).gained; gains_err = prefix_none _ _ [] (appends_none _) }
    bench_ends (inr (inr is)) said fails lacks holds =
        ends_in_lack _ _ s kept is record { gains_out = rw (lacks is) (appends_none _); gains_err = appends_none _ }
