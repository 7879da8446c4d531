-- Objects that go on showing a moment.
use Rattle.std.proofs.Common.{◌≡◌, ℕ, Bool, true, false, List, [], ◌++◌, Option, Some, None, refl, sym, ap, ◌∙◌, append_assoc, take, drop}
use Rattle.std.specs.Io.KnownBytes.{Appends}
use Rattle.std.proofs.lemmas.List.{take-append-drop, append_cancel_left}
use Rattle.cape_io.specs.Devices.{AppendsPrefix}
use Rattle.cape_io.specs.Views.{Devices}
use Rattle.rvv_meaning.specs.States.{State, step, asked, core_after}
use Rattle.guest_env.specs.Inputs.{Takes}
use Rattle.machine.specs.Moments.{Held, moment_after}
use Rattle.machine.specs.Views.{GoesBy, FaultsIn, GainsPrefix, shown_out, shown_err, gains_out, gains_err}
use Rattle.machine.specs.Carrying.{CarriesTaking}

-- bytes that were gained, and then more
pub appends_more : (first mid last : Option (List ℕ)) (xs ys : List ℕ) → Appends first mid xs → Appends mid last ys → Appends first last (xs ++ ys)
appends_more None mid last xs ys a b = tt
appends_more (Some f) None last xs ys a b = absurd a
appends_more (Some f) (Some m) None xs ys a b = absurd b
appends_more (Some f) (Some m) (Some l) xs ys a b = rw (b, a) (append_assoc f xs ys)

-- what the sinks gain of a state grows by what they gain in a step
pub shown_out-step : (merged : Bool) (s : State) → shown_out merged (step s) ≡ shown_out merged s ++ gains_out merged s.core
unfolding step
shown_out-step true s = refl
shown_out-step false s = refl

pub shown_err-step : (merged : Bool) (s : State) → shown_err merged (step s) ≡ shown_err merged s ++ gains_err merged s.core
unfolding step
shown_err-step true s = refl
shown_err-step false s = refl

input-step : (s : State) → (step s).input ≡ drop (asked s.core) s.input
unfolding step
input-step s = refl

core-step : (s : State) → (step s).core ≡ core_after s.core (take (asked s.core) s.input)
unfolding step
core-step s = refl

same_rest : (n : ℕ) (input taken rest : List ℕ) → taken ≡ take n input → input ≡ taken ++ rest → rest ≡ drop n input
same_rest n input taken rest is parts =
    append_cancel_left taken rest (drop n input) (sym parts ∙ sym (take-append-drop n input) ∙ ap (λ (xs : List ℕ). xs ++ drop n input) (sym is))

-- what is left of an input that was told
left_after : (n : ℕ) (left left' : Option (List ℕ)) (input taken : List ℕ) → left ≡ Some input → Takes n left left' taken → left' ≡ Some (drop n input)
left_after n None left' input taken told took = cc
left_after n (Some bytes) None input taken told took = absurd took.consumed
left_after n (Some bytes) (Some rest) input taken told took =
    let same : bytes ≡ input = cc in
    ap Some (same_rest n input taken rest (took.known input told) (sym same ∙ took.consumed))

prefix_put : (first mid last : Option (List ℕ)) (xs ys : List ℕ) → Appends first mid xs → AppendsPrefix mid last ys → GainsPrefix first last (xs ++ ys)
prefix_put first mid last xs ys gained put =
    (xs ++ take put.0 ys, appends_more first mid last xs (take put.0 ys) gained put.2, (drop put.0 ys, (ap (λ zs. xs ++ zs) (sym (take-append-drop put.0 ys))) ∙ sym (append_assoc xs (take put.0 ys) (drop put.0 ys))))

module _ (merged : Bool) (old : Held) (d : Devices) where
  -- a step that was carried out is a step of what the objects show
  pub goes_carried : (new : Held) (taken : List ℕ) → CarriesTaking old new taken d
      → Appends d.old.out.held d.new.out.held (gains_out merged old.core) → Appends d.old.err.held d.new.err.held (gains_err merged old.core) → GoesBy moment_after merged old new d
  unfolding moment_after
  goes_carried new taken w put_out put_err = λ m first shows.
      let taken_is : taken ≡ take (asked old.core) m.state.input = w.took.known m.state.input shows.known in
      record {
        holds = core-step m.state ∙ rw (shows.holds, ← taken_is) (sym w.core);
        slices = rw (shows.holds, shows.slices) (sym w.slices);
        last = rw shows.holds (sym w.last);
        counts = rw (shows.holds, shows.counts) (sym w.counts);
        control = rw (shows.holds, shows.slices, shows.control) (sym w.control);
        known = rw (input-step m.state, shows.holds) (left_after (asked old.core) d.old.input.left d.new.input.left m.state.input taken shows.known w.took);
        gained_out = rw (shown_out-step merged m.state, shows.holds) (appends_more first.out.held d.old.out.held d.new.out.held (shown_out merged m.state) (gains_out merged old.core) shows.gained_out put_out);
        gained_err = rw (shown_err-step merged m.state, shows.holds) (appends_more first.err.held d.old.err.held d.new.err.held (shown_err merged m.state) (gains_err merged old.core) shows.gained_err put_err);
      }

  -- a step that failed left a prefix of what the step gives
  pub faults_failed : AppendsPrefix d.old.out.held d.new.out.held (gains_out merged old.core) → AppendsPrefix d.old.err.held d.new.err.held (gains_err merged old.core) → FaultsIn moment_after merged old d
  unfolding moment_after
  faults_failed put_out put_err = λ m first shows. (
    rw (shown_out-step merged m.state, shows.holds) (prefix_put first.out.held d.old.out.held d.new.out.held (shown_out merged m.state) (gains_out merged old.core) shows.gained_out put_out),
    rw (shown_err-step merged m.state, shows.holds) (prefix_put first.err.held d.old.err.held d.new.err.held (shown_err merged m.state) (gains_err merged old.core) shows.gained_err put_err),
  )

-- the program of the step before plays no part in a step
pub carries_forgotten : (old new : Held) (taken : List ℕ) (d : Devices) → CarriesTaking (record old { last = [] }) new taken d → CarriesTaking old new taken d
carries_forgotten old new taken d w =
    record { core = w.core; slices = w.slices; last = w.last; counts = w.counts; control = w.control; live = w.live; took = w.took; quiet = w.quiet }
