-- Sessions, command by command.
use Rattle.std.proofs.Common.{◌≡◌, ℕ, zero, suc, ◌≤◌, Bool, true, false, List, [], ◌∷◌, ◌++◌, Option, Some, None, refl, sym, ap, ◌∙◌, append_assoc, append-nil, arith, subst, take, drop, length, ◌⊎◌, inl, inr}
use Rattle.std.specs.Io.KnownBytes.{Appends}
use Rattle.std.proofs.KnownBytes.{Appends-nil, Appends-trans}
use Rattle.cape_io.specs.Devices.{AppendsPrefix}
use Rattle.cape_io.specs.Views.{Writes}
use Rattle.cape_io.specs.declared.devices.Sink.{Ghosts}
use Rattle.debug_words.proofs.Commands.{command_kept}
use Rattle.debug_words.specs.Grammar.{command_of}
use Rattle.debug_words.specs.Lines.{Gives, GivesLine, GivesNone, ReaderValue, lines}
use Rattle.debug_words.specs.declared.command.Command.{Command}
use Rattle.debug_words.specs.declared.command.Command.TheVariants.{Step, Cont, Break, Map, Quit, Show}
use Rattle.machine.specs.Moments.{Held, Moment}
use Rattle.machine.specs.Views.{GainsPrefix, IsPrefixOf}
use Rattle.debug_commands.specs.Commands.{after, says, Reads, advanced, map_page, resumed_moment, steps}
use Rattle.debug_commands.specs.Sittings.{Sitting, DeskValue, Scene, scene, IsAt, GoesBy, FaultsIn, Moves, Holds}
use Rattle.debug_commands.proofs.Answering.{whole_gained, prefix_gained}
use Rattle.debug_commands.proofs.Steps.{prefix_same, prefix_through, grows_steps}
use Rattle.debug_core.specs.Sessions.{is_quit, answers_to, end_of, limit_text, ReadsAmong}

-- a prefix of what comes later, after what was gained
later_prefix : (a b c : Option (List ℕ)) (xs ys zs : List ℕ) → Appends a b xs → GainsPrefix b c ys → GainsPrefix a c (xs ++ (ys ++ zs))
later_prefix a b c xs ys zs p g =
    (xs ++ g.0, Appends-trans a b c xs g.0 p g.1, (g.2.0 ++ zs, rw g.2.1 (ap (λ r. xs ++ r) (append_assoc g.0 g.2.0 zs) ∙ sym (append_assoc xs g.0 (g.2.0 ++ zs)))))

-- ---- what the guest wrote only grows

joint_resumed : (m : Moment) → (resumed_moment m).state.joint ≡ m.state.joint
unfolding resumed_moment
joint_resumed m = refl

grows_advanced : (bs : List ℕ) (k : ℕ) (s : Sitting) → IsPrefixOf s.moment.state.joint (advanced bs k s).moment.state.joint
unfolding advanced
grows_advanced bs k s = subst (λ (xs : List ℕ). IsPrefixOf xs (steps true bs k (resumed_moment s.moment)).state.joint) (joint_resumed s.moment) (grows_steps true bs k (resumed_moment s.moment))

grows_after : (c : Command) (s : Sitting) → IsPrefixOf s.moment.state.joint (after c s).moment.state.joint
unfolding after map_page
grows_after (Step k) s = grows_advanced [] k s
grows_after (Cont k) s = grows_advanced s.breaks k s
grows_after (Break address) s = prefix_same s.moment.state.joint
grows_after (Map address) s = prefix_same s.moment.state.joint
grows_after Quit s = prefix_same s.moment.state.joint
grows_after (Show shown) s = prefix_same s.moment.state.joint

-- ---- lines, one by one

end_more : (l : List ℕ) (ls : List (List ℕ)) (s : Sitting) → is_quit (command_of l) ≡ false → end_of (l ∷ ls) s ≡ end_of ls (after (command_of l) s)
unfolding end_of
end_more l ls s e = rw e refl

end_quit : (l : List ℕ) (ls : List (List ℕ)) (s : Sitting) → is_quit (command_of l) ≡ true → end_of (l ∷ ls) s ≡ s
unfolding end_of
end_quit l ls s e = rw e refl

end_none : (s : Sitting) → end_of [] s ≡ s
unfolding end_of
end_none s = refl

said_more : (cut : Bool) (l : List ℕ) (ls : List (List ℕ)) (s : Sitting) → is_quit (command_of l) ≡ false → answers_to cut (l ∷ ls) s ≡ says (command_of l) s ++ answers_to cut ls (after (command_of l) s)
unfolding answers_to
said_more cut l ls s e = rw e refl

said_quit : (cut : Bool) (l : List ℕ) (ls : List (List ℕ)) (s : Sitting) → is_quit (command_of l) ≡ true → answers_to cut (l ∷ ls) s ≡ []
unfolding answers_to
said_quit cut l ls s e = rw e refl

said_end : (cut : Bool) (s : Sitting) → answers_to cut [] s ≡ limit_text cut
unfolding answers_to
said_end cut s = refl

reads_now : (l : List ℕ) (ls : List (List ℕ)) (s : Sitting) → is_quit (command_of l) ≡ false → Reads (command_of l) s → ReadsAmong (l ∷ ls) s
unfolding ReadsAmong
reads_now l ls s e reads = rw e (inl reads)

reads_later : (l : List ℕ) (ls : List (List ℕ)) (s : Sitting) → is_quit (command_of l) ≡ false → ReadsAmong ls (after (command_of l) s) → ReadsAmong (l ∷ ls) s
unfolding ReadsAmong
reads_later l ls s e reads = rw e (inr reads)

grows_by : (b : Bool) (l : List ℕ) (ls : List (List ℕ)) (s : Sitting) → is_quit (command_of l) ≡ b → ((t : Sitting) → IsPrefixOf t.moment.state.joint (end_of ls t).moment.state.joint)
    → IsPrefixOf s.moment.state.joint (end_of (l ∷ ls) s).moment.state.joint
grows_by true l ls s e more = rw (end_quit l ls s e) (prefix_same s.moment.state.joint)
grows_by false l ls s e more =
    rw (end_more l ls s e) (prefix_through s.moment.state.joint (after (command_of l) s).moment.state.joint (end_of ls (after (command_of l) s)).moment.state.joint (grows_after (command_of l) s) (more (after (command_of l) s)))

pub grows_end : (ls : List (List ℕ)) (s : Sitting) → IsPrefixOf s.moment.state.joint (end_of ls s).moment.state.joint
grows_end [] s = rw (end_none s) (prefix_same s.moment.state.joint)
grows_end (l ∷ ls) s = grows_by (is_quit (command_of l)) l ls s refl (grows_end ls)

-- ---- the loop over lines

-- Whatever sitting was shown before, one is shown after from which the rest leads where the whole leads from that; the output
-- gained what the whole says but not the rest; and a read among the rest is one among the whole.
pub record TalksOn (cut : Bool) (whole rest : List (List ℕ)) (a b : Scene) : Type 0 where
  pub talks :
      (s : Sitting) (fe : Option (List ℕ)) → IsAt s fe a
      → (t : Sitting) × IsAt t fe b × (end_of whole s ≡ end_of rest t) × (done : List ℕ) × Appends a.out b.out done × (answers_to cut whole s ≡ done ++ answers_to cut rest t) × (ReadsAmong rest t → ReadsAmong whole s)

-- whatever the commands are, where they are known
pub record SaidSo (r r' : ReaderValue) (left left' : Option (List ℕ)) (a b : Scene) : Type 0 where
  pub said : (cut : Bool) (bytes : List ℕ) → Gives cut bytes r left → (rest : List ℕ) × Gives cut rest r' left' × TalksOn cut (lines cut bytes) (lines cut rest) a b

-- what a session comes to, and what is known of a step that reads
pub record Ended (went : Bool) (r : ReaderValue) (left : Option (List ℕ)) (a b : Scene) : Type 0 where
  pub ended : (cut : Bool) (bytes : List ℕ) → Gives cut bytes r left → Moves (end_of (lines cut bytes)) (answers_to cut (lines cut bytes)) went a b

pub record ReadsAt (r : ReaderValue) (left : Option (List ℕ)) (a : Scene) : Type 0 where
  pub reads : (cut : Bool) (bytes : List ℕ) → Gives cut bytes r left → Holds (ReadsAmong (lines cut bytes)) a

pub so_first : (r : ReaderValue) (left : Option (List ℕ)) (a : Scene) → SaidSo r r left left a a
so_first r left a = record { said = λ cut bytes g. (bytes, g, record { talks = λ s fe at. (s, at, refl, [], Appends-nil a.out, refl, λ reads. reads) }) }

module _ (cut : Bool) (whole : List (List ℕ)) (l : List ℕ) (ls : List (List ℕ)) (a b b' : Scene) where
  on_more : TalksOn cut whole (l ∷ ls) a b → is_quit (command_of l) ≡ false → GoesBy (after (command_of l)) (says (command_of l)) b b' → TalksOn cut whole ls a b'
  on_more on more goes = record {
    talks = λ s fe at.
        let w = on.talks s fe at in
        let g = goes.leads w.0 fe w.1 in (
          after (command_of l) w.0,
          g.0,
          w.2 ∙ end_more l ls w.0 more,
          w.3 ++ says (command_of l) w.0,
          Appends-trans a.out b.out b'.out w.3 (says (command_of l) w.0) w.4 g.1,
          w.5 ∙ ap (λ r. w.3 ++ r) (said_more cut l ls w.0 more) ∙ sym (append_assoc w.3 (says (command_of l) w.0) (answers_to cut ls (after (command_of l) w.0))),
          λ reads. w.6 (reads_later l ls w.0 more reads),
        );
  }

  on_fault : TalksOn cut whole (l ∷ ls) a b → is_quit (command_of l) ≡ false → FaultsIn (after (command_of l)) (says (command_of l)) b b' → FaultsIn (end_of whole) (answers_to cut whole) a b'
  on_fault on more faults = record {
    leaves = λ s fe at.
        let w = on.talks s fe at in
        let f = faults.leaves w.0 fe w.1 in
        let t = after (command_of l) w.0 in (
          rw (w.5 ∙ ap (λ r. w.3 ++ r) (said_more cut l ls w.0 more)) (later_prefix a.out b.out b'.out w.3 (says (command_of l) w.0) (answers_to cut ls t) w.4 f.0),
          rw (w.2 ∙ end_more l ls w.0 more) (f.1.0, f.1.1, prefix_through f.1.0 t.moment.state.joint (end_of ls t).moment.state.joint f.1.2 (grows_end ls t)),
        );
  }

  on_read : TalksOn cut whole (l ∷ ls) a b → is_quit (command_of l) ≡ false → Holds (Reads (command_of l)) b → Holds (ReadsAmong whole) a
  on_read on more reads = record {
    so = λ s fe at.
        let w = on.talks s fe at in
        w.6 (reads_now l ls w.0 more (reads.so w.0 fe w.1));
  }

  on_quit : TalksOn cut whole (l ∷ ls) a b → is_quit (command_of l) ≡ true → GoesBy (end_of whole) (answers_to cut whole) a b
  on_quit on quits = record {
    leads = λ s fe at.
        let w = on.talks s fe at in (
          rw (w.2 ∙ end_quit l ls w.0 quits) w.1,
          rw (w.5 ∙ ap (λ r. w.3 ++ r) (said_quit cut l ls w.0 quits) ∙ append-nil w.3) w.4,
        );
  }

-- the command of a line is that of its first 256 bytes
kept : (line l : List ℕ) → line ≡ take 256 l → command_of line ≡ command_of l
kept line l is = ap command_of is ∙ command_kept l

module _ {r r' r'' : ReaderValue} {left left' left'' : Option (List ℕ)} {line : List ℕ} {a b : Scene} where
  pub so_more : {b' : Scene} → SaidSo r r' left left' a b → GivesLine r' r'' left' left'' line → is_quit (command_of line) ≡ false
      → GoesBy (after (command_of line)) (says (command_of line)) b b' → SaidSo r r'' left left'' a b'
  so_more {b'} on gives more goes = record {
    said = λ cut bytes g.
        let w = on.said cut bytes g in
        let n = gives.gives cut w.0 w.1 in
        let is : command_of line ≡ command_of n.0 = kept line n.0 n.3 in
        (n.1, n.4, on_more cut (lines cut bytes) n.0 (lines cut n.1) a b b' (rw n.2 at w.2) (rw is at more) (rw is at goes));
  }

  pub so_fault : {b' : Scene} → SaidSo r r' left left' a b → GivesLine r' r'' left' left'' line → is_quit (command_of line) ≡ false
      → FaultsIn (after (command_of line)) (says (command_of line)) b b' → Ended false r left a b'
  so_fault {b'} on gives more faults = record {
    ended = λ cut bytes g.
        let w = on.said cut bytes g in
        let n = gives.gives cut w.0 w.1 in
        let is : command_of line ≡ command_of n.0 = kept line n.0 n.3 in
        on_fault cut (lines cut bytes) n.0 (lines cut n.1) a b b' (rw n.2 at w.2) (rw is at more) (rw is at faults);
  }

  pub so_read : SaidSo r r' left left' a b → GivesLine r' r'' left' left'' line → is_quit (command_of line) ≡ false → Holds (Reads (command_of line)) b → ReadsAt r left a
  so_read on gives more reads = record {
    reads = λ cut bytes g.
        let w = on.said cut bytes g in
        let n = gives.gives cut w.0 w.1 in
        let is : command_of line ≡ command_of n.0 = kept line n.0 n.3 in
        on_read cut (lines cut bytes) n.0 (lines cut n.1) a b b (rw n.2 at w.2) (rw is at more) (rw is at reads);
  }

  pub so_quit : SaidSo r r' left left' a b → GivesLine r' r'' left' left'' line → is_quit (command_of line) ≡ true → Ended true r left a b
  so_quit on gives quits = record {
    ended = λ cut bytes g.
        let w = on.said cut bytes g in
        let n = gives.gives cut w.0 w.1 in
        let is : command_of line ≡ command_of n.0 = kept line n.0 n.3 in
        on_quit cut (lines cut bytes) n.0 (lines cut n.1) a b b (rw n.2 at w.2) (rw is at quits);
  }

-- the session fails between two commands
pub so_stop : {r r' : ReaderValue} {left left' : Option (List ℕ)} {a b : Scene} → SaidSo r r' left left' a b → Ended false r left a b
so_stop {r} {r'} {left} {left'} {a} {b} on = record {
  ended = λ cut bytes g. record {
    leaves = λ s fe at.
        let w = on.said cut bytes g in
        let v = w.2.talks s fe at in (
          (v.3, v.4, (answers_to cut (lines cut w.0) v.0, v.5)),
          rw v.2 (v.0.moment.state.joint, v.1.gained, grows_end (lines cut w.0) v.0),
        );
  };
}

-- the commands are over
module _ {K : Type 0} {k : Ghosts K} {r r' r'' : ReaderValue} {left left' left'' : Option (List ℕ)} {h : Held} {d : DeskValue} {l e : Option (List ℕ)} {old new : K} {a : Scene} where
  pub so_end : SaidSo r r' left left' a (scene h d l (k.held old) e) → GivesNone r' r'' left' left'' → ((cut : Bool) → Gives cut [] r'' left'' → Writes k (limit_text cut) true old new)
      → Ended true r left a (scene h d l (k.held new) e)
  so_end on none put = record {
    ended = λ cut bytes g. record {
      leads = λ s fe at.
          let w = on.said cut bytes g in
          let n = none.ends cut w.0 w.1 in
          let v = (rw n.0 at w.2).talks s fe at in (
            rw (v.2 ∙ end_none v.0) (moved_out v.0 fe v.1),
            rw (v.5 ∙ ap (λ r. v.3 ++ r) (said_end cut v.0)) (Appends-trans a.out (k.held old) (k.held new) v.3 (limit_text cut) v.4 (put cut n.1).gained),
          );
    };
  }
    where
      moved_out : (s : Sitting) (fe : Option (List ℕ)) → IsAt s fe (scene h d l (k.held old) e) → IsAt s fe (scene h d l (k.held new) e)
      moved_out s fe at = record {
        holds = at.holds;
        slices = at.slices;
        last = at.last;
        counts = at.counts;
        control = at.control;
        known = at.known;
        gained = at.gained;
        breaks = at.breaks;
        pages = at.pages;
      }

  pub so_end_fails : SaidSo r r' left left' a (scene h d l (k.held old) e) → GivesNone r' r'' left' left'' → ((cut : Bool) → Gives cut [] r'' left'' → Writes k (limit_text cut) false old new)
      → Ended false r left a (scene h d l (k.held new) e)
  so_end_fails on none put = record {
    ended = λ cut bytes g. record {
      leaves = λ s fe at.
          let w = on.said cut bytes g in
          let n = none.ends cut w.0 w.1 in
          let v = (rw n.0 at w.2).talks s fe at in
          let f = prefix_gained (k.held old) (k.held new) (limit_text cut) (put cut n.1).gained in (
            rw (v.5 ∙ ap (λ r. v.3 ++ r) (said_end cut v.0)) (v.3 ++ f.0, Appends-trans a.out (k.held old) (k.held new) v.3 f.0 v.4 f.1, (f.2.0, ap (λ r. v.3 ++ r) f.2.1 ∙ sym (append_assoc v.3 f.0 f.2.0))),
            rw (v.2 ∙ end_none v.0) (whole_gained fe e v.0.moment.state.joint v.1.gained),
          );
    };
  }
