-- Steps of a session.
use Rattle.std.proofs.Common.{◌≡◌, ℕ, zero, suc, ◌-◌, ◌≤◌, Bool, true, false, List, [], ◌++◌, Option, Some, None, refl, sym, ap, ◌∙◌, append_assoc, append-nil, arith, ◌⊎◌, inl, inr}
use Rattle.std.specs.Io.KnownBytes.{Appends}
use Rattle.std.proofs.KnownBytes.{Appends-nil, Appends-trans}
use Rattle.cape_io.specs.Devices.{Rose}
use Rattle.cape_io.specs.Views.{DeviceViews, Devices, KeepsFaults}
use Rattle.rvv_meaning.specs.States.{Core, puts, step, is_running}
use Rattle.machine.specs.Moments.{Held, Moment, moment_after}
use Rattle.machine.specs.Resuming.{resumed}
use Rattle.machine.specs.Carrying.{Fails}
use Rattle.machine.specs.Views.{CallsAt, Shows, GainsPrefix, IsPrefixOf, AsksDevice, GoesBy as MachineGoesBy, FaultsIn as MachineFaultsIn}
use Rattle.machine.specs.declared.answers.DeviceFault.TheVariants.{ReadFault, WriteFault}
use Rattle.debug_commands.specs.Sittings.{Sitting, DeskValue, Scene, scene, IsAt, GoesBy, FaultsIn, Holds}
use Rattle.debug_commands.specs.Commands.{goes_on, steps, MakesRead, StepsRead, moved, stepped, silent}

pub prefix_same : (xs : List ℕ) → IsPrefixOf xs xs
prefix_same xs = ([], sym (append-nil xs))

pub prefix_through : (xs ys zs : List ℕ) → IsPrefixOf xs ys → IsPrefixOf ys zs → IsPrefixOf xs zs
prefix_through xs ys zs (a, p) (b, q) = (a ++ b, rw (q, p) (append_assoc xs a b))

-- ---- steps, one by one

pub steps_on : (first : Bool) (bs : List ℕ) (n : ℕ) (m : Moment) → goes_on first bs m.state.core ≡ true → steps first bs (suc n) m ≡ steps false bs n (moment_after m)
unfolding steps
steps_on first bs n m e = rw e refl

pub steps_over : (first : Bool) (bs : List ℕ) (n : ℕ) (m : Moment) → goes_on first bs m.state.core ≡ false → steps first bs n m ≡ m
unfolding steps
steps_over first bs zero m e = refl
steps_over first bs (suc n) m e = rw e refl

pub steps_none : (first : Bool) (bs : List ℕ) (m : Moment) → steps first bs 0 m ≡ m
unfolding steps
steps_none first bs m = refl

reads_now : (first : Bool) (bs : List ℕ) (n : ℕ) (m : Moment) → goes_on first bs m.state.core ≡ true → AsksDevice ReadFault m.state.core → MakesRead first bs (suc n) m
unfolding MakesRead
reads_now first bs n m going asks = (going, inl asks)

reads_later : (first : Bool) (bs : List ℕ) (n : ℕ) (m : Moment) → goes_on first bs m.state.core ≡ true → MakesRead false bs n (moment_after m) → MakesRead first bs (suc n) m
unfolding MakesRead
reads_later first bs n m going later = (going, inr later)

-- ---- what the guest writes only grows

joint_after : (m : Moment) → (moment_after m).state.joint ≡ m.state.joint ++ puts m.state.core
unfolding moment_after step
joint_after m = refl

grows_step : (m : Moment) → IsPrefixOf m.state.joint (moment_after m).state.joint
grows_step m = (puts m.state.core, joint_after m)

grows_by : (b first : Bool) (bs : List ℕ) (n : ℕ) (m : Moment) → goes_on first bs m.state.core ≡ b → ((t : Moment) → IsPrefixOf t.state.joint (steps false bs n t).state.joint)
    → IsPrefixOf m.state.joint (steps first bs (suc n) m).state.joint
grows_by true first bs n m e more =
    rw (steps_on first bs n m e) (prefix_through m.state.joint (moment_after m).state.joint (steps false bs n (moment_after m)).state.joint (grows_step m) (more (moment_after m)))
grows_by false first bs n m e more = rw (steps_over first bs (suc n) m e) (prefix_same m.state.joint)

pub grows_steps : (first : Bool) (bs : List ℕ) (n : ℕ) (m : Moment) → IsPrefixOf m.state.joint (steps first bs n m).state.joint
grows_steps first bs zero m = rw (steps_none first bs m) (prefix_same m.state.joint)
grows_steps first bs (suc n) m = grows_by (goes_on first bs m.state.core) first bs n m refl (grows_steps false bs n)

-- ---- what the objects show, and what they show of a machine alone

-- what a machine shows, where the objects show a sitting
abbrev first_views : Option (List ℕ) → DeviceViews → DeviceViews
first_views fe v = record v { err = record v.err { held = fe } }

shows_of : {s : Sitting} {fe : Option (List ℕ)} {h : Held} {d : DeskValue} {v : DeviceViews}
    → IsAt s fe (scene h d v.input.left v.out.held v.err.held) → Shows true s.moment h (first_views fe v) v
shows_of {s} {fe} {h} {d} {v} at = record {
  holds = at.holds;
  slices = at.slices;
  last = at.last;
  counts = at.counts;
  control = at.control;
  known = at.known;
  gained_out = Appends-nil v.out.held;
  gained_err = at.gained;
}

at_shown : (s : Sitting) (m : Moment) (fe : Option (List ℕ)) (h : Held) (d : DeskValue) (v v' : DeviceViews)
    → Shows true m h (first_views fe v) v' → d.breaks ≡ s.breaks → d.pages ≡ s.pages → IsAt (moved m s) fe (scene h d v'.input.left v'.out.held v'.err.held)
at_shown s m fe h d v v' shown breaks pages = record {
  holds = shown.holds;
  slices = shown.slices;
  last = shown.last;
  counts = shown.counts;
  control = shown.control;
  known = shown.known;
  gained = shown.gained_err;
  breaks = breaks;
  pages = pages;
}

-- ---- the loop over steps

-- Whatever sitting the objects show before, they show one after from which j steps lead where n lead from that, and a read among
-- those is one among these.
pub record StepsOn (bs : List ℕ) (n : ℕ) (now : Bool) (j : ℕ) (a b : Scene) : Type 0 where
  pub on :
      (s : Sitting) (fe : Option (List ℕ)) → IsAt s fe a
      → (t : Moment) × IsAt (moved t s) fe b × (steps true bs n s.moment ≡ steps now bs j t) × Appends a.out b.out [] × (MakesRead now bs j t → MakesRead true bs n s.moment)

pub steps_first : (bs : List ℕ) (n : ℕ) (a : Scene) → StepsOn bs n true n a a
steps_first bs n a = record { on = λ s fe at. (s.moment, at_same s fe a at, refl, Appends-nil a.out, λ reads. reads) }
  where
    at_same : (s : Sitting) (fe : Option (List ℕ)) (a : Scene) → IsAt s fe a → IsAt (moved s.moment s) fe a
    at_same s fe a at = record {
      holds = at.holds;
      slices = at.slices;
      last = at.last;
      counts = at.counts;
      control = at.control;
      known = at.known;
      gained = at.gained;
      breaks = at.breaks;
      pages = at.pages;
    }

module _ {bs : List ℕ} {n : ℕ} {now : Bool} {j : ℕ} {a : Scene} {h : Held} {d : DeskValue} {v : DeviceViews} where
  pub steps_more : {h' : Held} {v' : DeviceViews} → MachineGoesBy moment_after true h h' (record { old = v; new = v' }) → goes_on now bs h.core ≡ true
      → StepsOn bs n now (suc j) a (scene h d v.input.left v.out.held v.err.held) → StepsOn bs n false j a (scene h' d v'.input.left v'.out.held v'.err.held)
  steps_more {h'} {v'} goes going on = record {
    on = λ s fe at.
        let w = on.on s fe at in
        let shown : Shows true w.0 h (first_views fe v) v = shows_of w.1 in
        let next : Shows true (moment_after w.0) h' (first_views fe v) v' = goes w.0 (first_views fe v) shown in
        let runs : goes_on now bs w.0.state.core ≡ true = rw w.1.holds going in (
          moment_after w.0,
          at_shown s (moment_after w.0) fe h' d v v' next w.1.breaks w.1.pages,
          w.2 ∙ steps_on now bs j w.0 runs,
          Appends-trans a.out v.out.held v'.out.held [] [] w.3 next.gained_out,
          λ reads. w.4 (reads_later now bs j w.0 runs reads),
        );
  }

  pub steps_fail : {h' : Held} (v' : DeviceViews) → MachineFaultsIn moment_after true h (record { old = v; new = v' }) → goes_on now bs h.core ≡ true
      → StepsOn bs n now (suc j) a (scene h d v.input.left v.out.held v.err.held) → FaultsIn (stepped bs n) silent a (scene h' d v'.input.left v'.out.held v'.err.held)
  unfolding stepped
  steps_fail {h'} v' faults going on = record {
    leaves = λ s fe at.
        let w = on.on s fe at in
        let shown : Shows true w.0 h (first_views fe v) v = shows_of w.1 in
        let f = faults w.0 (first_views fe v) shown in
        let runs : goes_on now bs w.0.state.core ≡ true = rw w.1.holds going in
        let is : steps true bs n s.moment ≡ steps false bs j (moment_after w.0) = w.2 ∙ steps_on now bs j w.0 runs in (
          (f.0.0, Appends-trans a.out v.out.held v'.out.held [] f.0.0 w.3 f.0.1, f.0.2),
          rw is (f.1.0, f.1.1, prefix_through f.1.0 (moment_after w.0).state.joint (steps false bs j (moment_after w.0)).state.joint f.1.2 (grows_steps false bs j (moment_after w.0))),
        );
  }

pub steps_read : {bs : List ℕ} {n : ℕ} {now : Bool} {j : ℕ} {a b : Scene} → AsksDevice ReadFault b.machine.core → goes_on now bs b.machine.core ≡ true → StepsOn bs n now (suc j) a b → Holds (StepsRead bs n) a
unfolding StepsRead
steps_read {bs} {n} {now} {j} {a} {b} asks going on = record {
  so = λ s fe at.
      let w = on.on s fe at in
      w.4 (reads_now now bs j w.0 (rw w.1.holds going) (rw w.1.holds asks));
}

pub steps_end : {bs : List ℕ} {n : ℕ} {now : Bool} {j : ℕ} {a b : Scene} → StepsOn bs n now j a b → goes_on now bs b.machine.core ≡ false → GoesBy (stepped bs n) silent a b
unfolding stepped
steps_end {bs} {n} {now} {j} {a} {b} on stopped = record {
  leads = λ s fe at.
      let w = on.on s fe at in
      let is : steps true bs n s.moment ≡ w.0 = w.2 ∙ steps_over now bs j w.0 (rw w.1.holds stopped) in
      (rw is w.1, w.3);
}

pub steps_done : {bs : List ℕ} {n : ℕ} {now : Bool} {a b : Scene} → StepsOn bs n now 0 a b → GoesBy (stepped bs n) silent a b
unfolding stepped
steps_done {bs} {n} {now} {a} {b} on = record {
  leads = λ s fe at.
      let w = on.on s fe at in
      let is : steps true bs n s.moment ≡ w.0 = w.2 ∙ steps_none now bs w.0 in
      (rw is w.1, w.3);
}

-- ---- counts of faults

pub quiet_both : {v v' v'' : DeviceViews} → KeepsFaults (record { old = v; new = v' }) → KeepsFaults (record { old = v'; new = v'' }) → KeepsFaults (record { old = v; new = v'' })
quiet_both {v} {v'} {v''} first later = record { input = later.input ∙ first.input; out = later.out ∙ first.out; err = later.err ∙ first.err }

pub rose_from : {before now after : ℕ} → now ≡ before → Rose now after → Rose before after
rose_from {before} {now} {after} same rose = rw (← same) rose

-- the device of a step that failed
module _ {c c' : Core} {v v' : DeviceViews} where
  pub read_rose : Fails true c c' (record { old = v; new = v' }) ReadFault → Rose v.input.faults v'.input.faults
  read_rose fails = fails.one.0

  pub write_rose : Fails true c c' (record { old = v; new = v' }) WriteFault → Rose v.err.faults v'.err.faults
  write_rose fails = fails.one.1.1

  pub read_asked : Fails true c c' (record { old = v; new = v' }) ReadFault → CallsAt c → AsksDevice ReadFault c
  read_asked fails calls = (calls, fails.asks)
