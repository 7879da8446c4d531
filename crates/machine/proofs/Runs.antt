-- Runs: they go on step by step, stop where the machine stops, and only add to what was put out.
use Rattle.std.proofs.Common.{◌≡◌, ℕ, zero, suc, ◌+◌, ◌-◌, ◌≤◌, Bool, true, false, List, [], ◌++◌, refl, sym, ap, ◌∙◌, append_assoc, append-nil, arith}
use Rattle.rvv_meaning.specs.declared.Mode.TheVariants.{Running}
use Rattle.machine.specs.declared.answers.DeviceFault.{DeviceFault}
use Rattle.rvv_meaning.specs.States.{Core, State, step, run, is_running}
use Rattle.machine.specs.Moments.{Held, Moment, moment_after, moments}
use Rattle.cape_io.specs.Views.{DeviceViews, Devices}
use Rattle.machine.specs.declared.answers.DeviceFault.TheVariants.{ReadFault}
use Rattle.machine.specs.Views.{GoesBy, FaultsIn, GainPrefixes, IsPrefixOf, RunsOn, ReadsIn, AsksDevice, LeavesMemory, StandsIn, EachStep, shown_out, shown_err, gains_out, gains_err}
use Rattle.machine.proofs.Showing.{shown_out-step, shown_err-step}
use Rattle.machine.proofs.Failing.{stands-at}

prefix_same : (xs : List ℕ) → IsPrefixOf xs xs
prefix_same xs = ([], sym (append-nil xs))

prefix_through : (xs ys zs : List ℕ) → IsPrefixOf xs ys → IsPrefixOf ys zs → IsPrefixOf xs zs
prefix_through xs ys zs (a, p) (b, q) = (a ++ b, rw (q, p) (append_assoc xs a b))

-- what one state shows is a prefix of what another shows
record Grows (merged : Bool) (s t : State) : Type 0 where
  pub grows_out : IsPrefixOf (shown_out merged s) (shown_out merged t)
  pub grows_err : IsPrefixOf (shown_err merged s) (shown_err merged t)

grows_none : (merged : Bool) (s : State) → Grows merged s s
grows_none merged s = record { grows_out = prefix_same (shown_out merged s); grows_err = prefix_same (shown_err merged s) }

state_after : (m : Moment) → (moment_after m).state ≡ step m.state
unfolding moment_after
state_after m = refl

grows_step : (merged : Bool) (m : Moment) → Grows merged m.state (moment_after m).state
grows_step merged m =
    rw (state_after m) record {
      grows_out = (gains_out merged m.state.core, shown_out-step merged m.state);
      grows_err = (gains_err merged m.state.core, shown_err-step merged m.state);
    }

grows_through : (merged : Bool) (s t u : State) → Grows merged s t → Grows merged t u → Grows merged s u
grows_through merged s t u a b = record {
  grows_out = prefix_through (shown_out merged s) (shown_out merged t) (shown_out merged u) a.grows_out b.grows_out;
  grows_err = prefix_through (shown_err merged s) (shown_err merged t) (shown_err merged u) a.grows_err b.grows_err;
}

moments_running : (m : Moment) (n : ℕ) → is_running m.state.core.mode ≡ true → moments m (suc n) ≡ moments (moment_after m) n
unfolding moments
moments_running m n going = rw going refl

moments_stopped : (m : Moment) (n : ℕ) → is_running m.state.core.mode ≡ false → moments m n ≡ m
unfolding moments
moments_stopped m zero stopped = refl
moments_stopped m (suc n) stopped = rw stopped refl

moments_none : (m : Moment) → moments m 0 ≡ m
unfolding moments
moments_none m = refl

grows_run_by : (merged b : Bool) (m : Moment) (n : ℕ) → is_running m.state.core.mode ≡ b → ((t : Moment) → Grows merged t.state (moments t n).state) → Grows merged m.state (moments m (suc n)).state
grows_run_by merged true m n going more =
    rw (moments_running m n going) (grows_through merged m.state (moment_after m).state (moments (moment_after m) n).state (grows_step merged m) (more (moment_after m)))
grows_run_by merged false m n stopped more = rw (moments_stopped m (suc n) stopped) (grows_none merged m.state)

grows_run : (merged : Bool) (n : ℕ) (m : Moment) → Grows merged m.state (moments m n).state
grows_run merged zero m = rw (moments_none m) (grows_none merged m.state)
grows_run merged (suc n) m = grows_run_by merged (is_running m.state.core.mode) m n refl (grows_run merged n)

-- one step more
moments_more_by : (b : Bool) (m : Moment) (j : ℕ) → is_running m.state.core.mode ≡ b → is_running (moments m (suc j)).state.core.mode ≡ true
    → ((t : Moment) → is_running (moments t j).state.core.mode ≡ true → moments t (suc j) ≡ moment_after (moments t j))
    → moments m (suc (suc j)) ≡ moment_after (moments m (suc j))
moments_more_by true m j going running more =
    let one : moments m (suc j) ≡ moments (moment_after m) j = moments_running m j going in
    moments_running m (suc j) going ∙ rw one (more (moment_after m) (rw one at running))
moments_more_by false m j stopped running more =
    let same : moments m (suc j) ≡ m = moments_stopped m (suc j) stopped in
    let goes : is_running m.state.core.mode ≡ true = rw same at running in
    cc

moments_more : (j : ℕ) (m : Moment) → is_running (moments m j).state.core.mode ≡ true → moments m (suc j) ≡ moment_after (moments m j)
moments_more zero m running =
    let none = moments_none m in
    moments_running m 0 (rw none at running) ∙ moments_none (moment_after m) ∙ rw none refl
moments_more (suc j) m running = moments_more_by (is_running m.state.core.mode) m j refl running (moments_more j)

-- what is gained of one moment is a prefix of what is gained of a later one
prefixes_grow : (merged : Bool) (n : ℕ) (m : Moment) (first now : DeviceViews) → GainPrefixes merged m.state first now → GainPrefixes merged (moments m n).state first now
prefixes_grow merged n m first now gained =
    let grown = grows_run merged n m in (
      (gained.0.0, gained.0.1, prefix_through gained.0.0 (shown_out merged m.state) (shown_out merged (moments m n).state) gained.0.2 grown.grows_out),
      (gained.1.0, gained.1.1, prefix_through gained.1.0 (shown_err merged m.state) (shown_err merged (moments m n).state) gained.1.2 grown.grows_err),
    )

-- the devices before a first call and after it, and after a second one
module _ (n k : ℕ) (merged : Bool) (h0 h1 h2 : Held) (v0 v1 v2 : DeviceViews) where
  -- what the two calls do together, and each of them
  abbrev both : Devices
  both = record { old = v0; new = v2 }

  abbrev so_far : Devices
  so_far = record { old = v0; new = v1 }

  abbrev more_of : Devices
  more_of = record { old = v1; new = v2 }

  -- a step of the run
  pub runs_step : suc k ≤ n → RunsOn n (suc k) merged h0 h1 so_far → is_running h1.core.mode ≡ true → GoesBy moment_after merged h1 h2 more_of → RunsOn n k merged h0 h2 both
  runs_step more on going goes = λ m first shows.
      let w = on m first shows in
      let runs : is_running w.0.state.core.mode ≡ true = rw w.1.holds going in
      let left : n - k ≡ suc (n - suc k) = omega arith in
      let reached : moments m (suc (n - suc k)) ≡ moment_after (moments m (n - suc k)) = moments_more (n - suc k) m (rw w.3 at runs) in
      (moment_after w.0, goes w.0 first w.1, rw (w.2, moments_running w.0 k runs) refl, rw left (ap moment_after w.3 ∙ sym reached))

  -- the run is over at a step that stops
  pub runs_last : RunsOn n (suc k) merged h0 h1 so_far → is_running h1.core.mode ≡ true → GoesBy moment_after merged h1 h2 more_of → is_running h2.core.mode ≡ false
      → GoesBy (λ m. moments m n) merged h0 h2 both
  runs_last on going goes stopped = λ m first shows.
      let w = on m first shows in
      let after = goes w.0 first w.1 in
      rw (w.2, moments_running w.0 k (rw w.1.holds going), moments_stopped (moment_after w.0) k (rw after.holds stopped)) after

  -- a step of the run that fails
  pub runs_fault : RunsOn n (suc k) merged h0 h1 so_far → is_running h1.core.mode ≡ true → FaultsIn moment_after merged h1 more_of → FaultsIn (λ m. moments m n) merged h0 both
  runs_fault on going faults = λ m first shows.
      let w = on m first shows in
      rw (w.2, moments_running w.0 k (rw w.1.holds going)) (prefixes_grow merged k (moment_after w.0) first v2 (faults w.0 first w.1))

  -- a read of the run that fails
  pub runs_reading : suc k ≤ n → RunsOn n (suc k) merged h0 h1 so_far → AsksDevice ReadFault h1.core → ReadsIn n merged h0 v0
  runs_reading more on asks = λ m first shows.
      let w = on m first shows in
      (n - suc k, omega arith, rw (← w.3, w.1.holds) asks)

  -- a step of the run that fails leaves the machine at its moment
  pub runs_stands : (fault : DeviceFault) → suc k ≤ n → RunsOn n (suc k) merged h0 h1 so_far → h1.core.mode ≡ Running
      → h2 ≡ record h1 { core = record h1.core { mem = h2.core.mem }; last = []; live = false } → AsksDevice fault h1.core → LeavesMemory fault h1.core h2.core.mem v1.input.left v2.input.left
      → FaultsIn moment_after merged h1 more_of → StandsIn n merged h0 h2 both fault
  runs_stands fault more on running is asks memory faults = λ m first shows.
      let w = on m first shows in
      (n - suc k, omega arith, rw (← w.3) (stands-at fault merged w.0 h1 h2 first more_of w.1 running is asks memory (faults w.0 first w.1)))

module _ (n k : ℕ) (merged : Bool) (h0 h1 : Held) (v0 v1 : DeviceViews) where
  -- a step of the run is as each of its steps is
  pub runs_each : (P : Core → Type 0) → suc k ≤ n → RunsOn n (suc k) merged h0 h1 (record { old = v0; new = v1 }) → h1.core.mode ≡ Running → EachStep P n merged h0 v0 → P h1.core
  runs_each P more on running each =
      let w = on each.0 each.1 each.2 in
      rw (← w.1.holds, w.3) (each.3 (n - suc k) (omega arith) (rw (← w.3, w.1.holds) running))

-- a step more retires one instruction more at most
pub count_more : (after now before i : ℕ) → after ≤ now + 1 → now ≤ before + i → after ≤ before + (i + 1)
count_more after now before i one some = omega arith

-- the run is over after its last step
pub runs_done : (n : ℕ) (merged : Bool) (h0 h1 : Held) (d : Devices) → RunsOn n 0 merged h0 h1 d → GoesBy (λ m. moments m n) merged h0 h1 d
runs_done n merged h0 h1 d on = λ m first shows.
    let w = on m first shows in
    rw (w.2, moments_none w.0) w.1

-- before the first step
pub runs_first : (n : ℕ) (merged : Bool) (h : Held) (v : DeviceViews) → RunsOn n n merged h h (record { old = v; new = v })
runs_first n merged h v = λ m first shows.
    let none : n - n ≡ 0 = omega arith in
    (m, shows, refl, rw none (sym (moments_none m)))

-- the state of the moments is the run of the state
state_run_by : (b : Bool) (m : Moment) (n : ℕ) → is_running m.state.core.mode ≡ b → ((t : Moment) → (moments t n).state ≡ run t.state n) → (moments m (suc n)).state ≡ run m.state (suc n)
unfolding moments run
state_run_by true m n going more = rw going (more (moment_after m) ∙ ap (λ (s : State). run s n) (state_after m))
state_run_by false m n stopped more = rw stopped refl

pub state_run : (n : ℕ) (m : Moment) → (moments m n).state ≡ run m.state n
unfolding moments run
state_run zero m = refl
state_run (suc n) m = state_run_by (is_running m.state.core.mode) m n refl (state_run n)
