-- Commands, by what they answer.
use Rattle.std.proofs.Common.{◌≡◌, ℕ, suc, ◌+◌, ◌≤◌, Bool, true, false, List, [], ◌++◌, Option, Some, None, refl, sym, ap, ◌∙◌, append-nil, take, drop, subst}
use Rattle.std.specs.Io.KnownBytes.{Appends}
use Rattle.std.proofs.KnownBytes.{Appends-nil, Appends-trans}
use Rattle.std.proofs.lemmas.List.{take-append-drop}
use Rattle.cam_chain.specs.ChainValue.{slices_of}
use Rattle.cape_io.specs.Devices.{AppendsPrefix}
use Rattle.cape_io.specs.Views.{Writes}
use Rattle.cape_io.specs.declared.devices.Sink.{Ghosts}
use Rattle.debug_words.specs.declared.command.Command.{Command}
use Rattle.debug_words.specs.declared.command.Command.TheVariants.{Step, Cont, Break, Map, Quit, Show}
use Rattle.debug_words.specs.declared.command.Shown.{Shown}
use Rattle.rvv_meaning.specs.States.{Core}
use Rattle.machine.specs.Moments.{Held, Moment}
use Rattle.machine.specs.Resuming.{resumed}
use Rattle.machine.specs.Views.{GainsPrefix, IsPrefixOf}
use Rattle.debug_commands.specs.Sittings.{Sitting, DeskValue, Scene, scene, IsAt, GoesBy, FaultsIn, Moves, Holds}
use Rattle.debug_commands.specs.Commands.{steps, resumed_moment, moved, stepped, advanced, silent, place_text, place_after, StepsRead, ReadsIn, MakesRead, after, says, Reads, toggled, break_text, mapping, core_mapped, pages_mapped, map_answer, map_text, map_page, shown_text}
use Rattle.debug_commands.proofs.Steps.{prefix_same, prefix_through}

-- what was gained whole, or a prefix of it, is a prefix gained
pub whole_gained : (a b : Option (List ℕ)) (xs : List ℕ) → Appends a b xs → GainsPrefix a b xs
whole_gained a b xs p = (xs, p, prefix_same xs)

pub prefix_gained : (a b : Option (List ℕ)) (xs : List ℕ) → AppendsPrefix a b xs → GainsPrefix a b xs
prefix_gained a b xs p = (take p.0 xs, p.2, (drop p.0 xs, sym (take-append-drop p.0 xs)))

-- ---- steps, and the place after them

resumed_at : {s : Sitting} {fe : Option (List ℕ)} {h : Held} {d : DeskValue} {l o e : Option (List ℕ)}
    → IsAt s fe (scene h d l o e) → IsAt (moved (resumed_moment s.moment) s) fe (scene (record h { core = resumed h.core }) d l o e)
unfolding resumed_moment
resumed_at {s} {fe} {h} {d} {l} {o} {e} at = record {
  holds = ap resumed at.holds;
  slices = at.slices;
  last = at.last;
  counts = at.counts;
  control = at.control;
  known = at.known;
  gained = at.gained;
  breaks = at.breaks;
  pages = at.pages;
}

-- the output plays no part in what is shown
same_at : {s : Sitting} {fe : Option (List ℕ)} {h : Held} {d : DeskValue} {l o o' e : Option (List ℕ)} → IsAt s fe (scene h d l o e) → IsAt s fe (scene h d l o' e)
same_at {s} {fe} {h} {d} {l} {o} {o'} {e} at = record {
  holds = at.holds;
  slices = at.slices;
  last = at.last;
  counts = at.counts;
  control = at.control;
  known = at.known;
  gained = at.gained;
  breaks = at.breaks;
  pages = at.pages;
}

module _ (bs : List ℕ) (k : ℕ) {h h' : Held} {d : DeskValue} {l l' o o' e e' : Option (List ℕ)} where
  pub goes_advanced : {o'' : Option (List ℕ)} → GoesBy (stepped bs k) silent (scene (record h { core = resumed h.core }) d l o e) (scene h' d l' o' e') → Appends o' o'' (place_text h'.core)
      → GoesBy (advanced bs k) (place_after bs k) (scene h d l o e) (scene h' d l' o'' e')
  unfolding stepped advanced place_after
  goes_advanced {o''} goes put = record {
    leads = λ s fe at.
        let w = goes.leads (moved (resumed_moment s.moment) s) fe (resumed_at at) in
        let text = (steps true bs k (resumed_moment s.moment)).state.core in
        (same_at w.0, Appends-trans o o' o'' [] (place_text text) w.1 (rw w.0.holds put));
  }

  pub put_fails : {o'' : Option (List ℕ)} → GoesBy (stepped bs k) silent (scene (record h { core = resumed h.core }) d l o e) (scene h' d l' o' e') → AppendsPrefix o' o'' (place_text h'.core)
      → FaultsIn (advanced bs k) (place_after bs k) (scene h d l o e) (scene h' d l' o'' e')
  unfolding stepped advanced place_after
  put_fails {o''} goes put = record {
    leaves = λ s fe at.
        let w = goes.leads (moved (resumed_moment s.moment) s) fe (resumed_at at) in
        let m = steps true bs k (resumed_moment s.moment) in
        let f = prefix_gained o' o'' (place_text m.state.core) (rw w.0.holds put) in
        ((f.0, Appends-trans o o' o'' [] f.0 w.1 f.1, f.2), whole_gained fe e' m.state.joint w.0.gained);
  }

  pub advance_fails : FaultsIn (stepped bs k) silent (scene (record h { core = resumed h.core }) d l o e) (scene h' d l' o' e')
      → FaultsIn (advanced bs k) (place_after bs k) (scene h d l o e) (scene h' d l' o' e')
  unfolding stepped advanced place_after
  advance_fails faults = record {
    leaves = λ s fe at.
        let f = faults.leaves (moved (resumed_moment s.moment) s) fe (resumed_at at) in
        let text = place_text (steps true bs k (resumed_moment s.moment)).state.core in
        ((f.0.0, f.0.1, prefix_through f.0.0 [] text f.0.2 (text, refl)), f.1);
  }

pub reads_resumed : (bs : List ℕ) (k : ℕ) {h : Held} {d : DeskValue} {l o e : Option (List ℕ)} → Holds (StepsRead bs k) (scene (record h { core = resumed h.core }) d l o e) → Holds (ReadsIn bs k) (scene h d l o e)
unfolding StepsRead ReadsIn
reads_resumed bs k {h} {d} {l} {o} {e} reads = record { so = λ s fe at. reads.so (moved (resumed_moment s.moment) s) fe (resumed_at at) }

-- ---- the two commands that make steps

moves_by : {f f' : Sitting → Sitting} {text text' : Sitting → List ℕ} (went : Bool) (a b : Scene) → ((s : Sitting) (fe : Option (List ℕ)) → IsAt s fe a → (f s ≡ f' s) × (text s ≡ text' s)) → Moves f text went a b → Moves f' text' went a b
moves_by {f} {f'} {text} {text'} true a b same moves = record {
  leads = λ s fe at.
      let w = moves.leads s fe at in
      let is = same s fe at in
      (subst (λ (t : Sitting). IsAt t fe b) is.0 w.0, subst (λ (xs : List ℕ). Appends a.out b.out xs) is.1 w.1);
}
moves_by {f} {f'} {text} {text'} false a b same moves = record {
  leaves = λ s fe at.
      let w = moves.leaves s fe at in
      let is = same s fe at in
      (subst (λ (xs : List ℕ). GainsPrefix a.out b.out xs) is.1 w.0, subst (λ (t : Sitting). GainsPrefix fe b.err t.moment.state.joint) is.0 w.1);
}

pub moves_step : (k : ℕ) (went : Bool) (a b : Scene) → Moves (advanced [] k) (place_after [] k) went a b → Moves (after (Step k)) (says (Step k)) went a b
unfolding after says
moves_step k went a b moves = moves_by went a b (λ s fe at. (refl, refl)) moves

pub moves_cont : (k : ℕ) (went : Bool) (a b : Scene) → Moves (advanced a.desk.breaks k) (place_after a.desk.breaks k) went a b → Moves (after (Cont k)) (says (Cont k)) went a b
unfolding after says
moves_cont k went a b moves = moves_by went a b (λ s fe at. (ap (λ (bs : List ℕ). advanced bs k s) at.breaks, ap (λ (bs : List ℕ). place_after bs k s) at.breaks)) moves

pub reads_step : (k : ℕ) {a : Scene} → Holds (ReadsIn [] k) a → Holds (Reads (Step k)) a
unfolding Reads
reads_step k {a} reads = record { so = λ s fe at. reads.so s fe at }

pub reads_cont : (k : ℕ) {a : Scene} → Holds (ReadsIn a.desk.breaks k) a → Holds (Reads (Cont k)) a
unfolding Reads
reads_cont k {a} reads = record { so = λ s fe at. subst (λ (bs : List ℕ). ReadsIn bs k s) at.breaks (reads.so s fe at) }

-- ---- commands that make no step

module _ {K : Type 0} (k : Ghosts K) (c : Command) {h h' : Held} {d d' : DeskValue} {l e : Option (List ℕ)} {text : List ℕ} where
  -- a command that leads on, and answers a text
  pub moves_answered : (went : Bool) {old new : K}
      → ((s : Sitting) (fe o : Option (List ℕ)) → IsAt s fe (scene h d l o e) → IsAt (after c s) fe (scene h' d' l o e))
      → ((s : Sitting) (fe o : Option (List ℕ)) → IsAt s fe (scene h d l o e) → says c s ≡ text)
      → Writes k text went old new → Moves (after c) (says c) went (scene h d l (k.held old) e) (scene h' d' l (k.held new) e)
  moves_answered true {old} {new} leads is writes = record {
    leads = λ s fe at.
        (same_at (leads s fe (k.held old) at), rw (is s fe (k.held old) at) writes.gained);
  }
  moves_answered false {old} {new} leads is writes = record {
    leaves = λ s fe at. (
      rw (is s fe (k.held old) at) (prefix_gained (k.held old) (k.held new) text writes.gained),
      whole_gained fe e (after c s).moment.state.joint (leads s fe (k.held old) at).gained,
    );
  }

module _ {h : Held} {d : DeskValue} {l e : Option (List ℕ)} where
  pub shown_stays : (x : Shown) (s : Sitting) (fe o : Option (List ℕ)) → IsAt s fe (scene h d l o e) → IsAt (after (Show x) s) fe (scene h d l o e)
  unfolding after
  shown_stays x s fe o at = at

  pub shown_is : (x : Shown) (s : Sitting) (fe o : Option (List ℕ)) → IsAt s fe (scene h d l o e) → says (Show x) s ≡ shown_text x h.core (slices_of h.chain) h.last
  unfolding says
  shown_is x s fe o at = rw (at.holds, at.slices, at.last) refl

  pub quit_stays : (s : Sitting) (fe o : Option (List ℕ)) → IsAt s fe (scene h d l o e) → IsAt (after Quit s) fe (scene h d l o e)
  unfolding after
  quit_stays s fe o at = at

  pub break_leads : (address : ℕ) (s : Sitting) (fe o : Option (List ℕ)) → IsAt s fe (scene h d l o e) → IsAt (after (Break address) s) fe (scene h (record d { breaks = toggled address d.breaks }) l o e)
  unfolding after
  break_leads address s fe o at = record {
    holds = at.holds;
    slices = at.slices;
    last = at.last;
    counts = at.counts;
    control = at.control;
    known = at.known;
    gained = at.gained;
    breaks = ap (toggled address) at.breaks;
    pages = at.pages;
  }

  pub break_is : (address : ℕ) (s : Sitting) (fe o : Option (List ℕ)) → IsAt s fe (scene h d l o e) → says (Break address) s ≡ break_text address d.breaks
  unfolding says
  break_is address s fe o at = rw (← at.breaks) refl

  pub map_leads : (address : ℕ) (what : Option Bool) → what ≡ mapping address h.core d.pages
      → (s : Sitting) (fe o : Option (List ℕ)) → IsAt s fe (scene h d l o e)
      → IsAt (after (Map address) s) fe (scene (record h { core = core_mapped what address h.core }) (record d { pages = pages_mapped what d.pages }) l o e)
  unfolding after map_page
  map_leads address what is s fe o at =
      let same : mapping address s.moment.state.core s.pages ≡ what = rw (at.holds, ← at.pages) (sym is) in
      rw same record {
        holds = ap (core_mapped what address) at.holds;
        slices = at.slices;
        last = at.last;
        counts = at.counts;
        control = at.control;
        known = at.known;
        gained = at.gained;
        breaks = at.breaks;
        pages = ap (pages_mapped what) at.pages;
      }

  pub map_is : (address : ℕ) (what : Option Bool) → what ≡ mapping address h.core d.pages → (s : Sitting) (fe o : Option (List ℕ)) → IsAt s fe (scene h d l o e) → says (Map address) s ≡ map_answer address what
  unfolding says map_text
  map_is address what is s fe o at = rw (at.holds, ← at.pages) (ap (map_answer address) (sym is))

-- a page for which there was no memory: nothing was put
joint_mapped : (address : ℕ) (s : Sitting) → (after (Map address) s).moment.state.joint ≡ s.moment.state.joint
unfolding after map_page
joint_mapped address s = refl

pub map_fails : (address : ℕ) {a : Scene} → FaultsIn (after (Map address)) (says (Map address)) a a
map_fails address {a} = record {
  leaves = λ s fe at.
      (([], Appends-nil a.out, (says (Map address) s, refl)), rw (joint_mapped address s) (whole_gained fe a.err s.moment.state.joint at.gained));
}

pub goes_quit : {a : Scene} → GoesBy (after Quit) (says Quit) a a
unfolding after says
goes_quit {a} = record { leads = λ s fe at. (at, Appends-nil a.out) }
