-- A whole session, from the commands that its source has left.
use Rattle.std.proofs.Common.{◌≡◌, ℕ, ◌+◌, ◌*◌, ◌^◌, ◌<◌, ◌-◌, ◌≤◌, Bool, true, false, List, [], ◌++◌, Option, Some, None, refl, sym, ap, ◌∙◌, arith, take, length, Result, Ok, Err, OnOk, OnErr, is_ok, ◌⊎◌, inl, inr}
use Rattle.std.specs.Io.KnownBytes.{Appends}
use Rattle.std.proofs.KnownBytes.{Appends-nil}
use Rattle.cape_io.specs.Devices.{Rose}
use Rattle.cape_io.specs.Views.{DeviceViews, Devices}
use Rattle.debug_commands.proofs.Steps.{rose_from}
use Rattle.debug_commands.specs.declared.performing.SessionFault.{SessionFault}
use Rattle.debug_commands.specs.declared.performing.SessionFault.TheVariants.{ReadFault, WriteFault, NoMemory}
use Rattle.debug_words.specs.Lines.{lines, most_bytes, budget, Gives, ReaderValue}
use Rattle.debug_commands.specs.Sittings.{Sitting, DeskValue, Scene, scene_of, IsAt, GoesBy, FaultsIn}
use Rattle.machine.specs.Moments.{Held, Moment}
use Rattle.machine.specs.Views.{Shows, GainsPrefix}
use Rattle.debug_core.specs.Sessions.{Answers, AnswersInPart, Cause, ReadsIn, ReadsOf, is_cut, session_lines, fresh, moment_of, answers, answers_to, end_of}
use Rattle.debug_core.proofs.Saying.{Ended, ReadsAt, grows_end}

gives_first : (r : ReaderValue) (left : Option (List ℕ)) (bytes : List ℕ) → r.pending ≡ [] → r.taken ≡ 0 → left ≡ Some bytes → Gives (is_cut bytes) (take most_bytes bytes) r left
gives_first r left bytes none zero_taken told =
    let all : most_bytes - r.taken ≡ most_bytes = omega arith in
    let sum : r.taken + length bytes ≡ length bytes = omega arith in
    record { rest = bytes; told = told; bytes_are = rw (none, all) refl; cut_is = rw sum refl }

at_first : {m : Moment} {first : DeviceViews} {h : Held} {d : DeskValue} {io : DeviceViews} → d.breaks ≡ [] → d.pages ≡ 0 → Shows true m h first io → IsAt (fresh m) first.err.held (scene_of h d io)
at_first {m} {first} {h} {d} {io} breaks pages shown = record {
  holds = shown.holds;
  slices = shown.slices;
  last = shown.last;
  counts = shown.counts;
  control = shown.control;
  known = shown.known;
  gained = shown.gained_err;
  breaks = breaks;
  pages = pages;
}

shown_last : (s : Sitting) (first : DeviceViews) (h : Held) (d : DeskValue) (io : DeviceViews) → IsAt s first.err.held (scene_of h d io) → Shows true s.moment h (record first { out = io.out }) io
shown_last s first h d io at = record {
  holds = at.holds;
  slices = at.slices;
  last = at.last;
  counts = at.counts;
  control = at.control;
  known = at.known;
  gained_out = Appends-nil io.out.held;
  gained_err = at.gained;
}

module _ {r : ReaderValue} {left : Option (List ℕ)} {old new : Held} {d d' : DeskValue} (v v' : DeviceViews) (none : r.pending ≡ []) (zero_taken : r.taken ≡ 0) (breaks : d.breaks ≡ []) (pages : d.pages ≡ 0) where
  pub whole_answered : Ended true r left (scene_of old d v) (scene_of new d' v') → Answers left old new (record { old = v; new = v' })
  unfolding moment_of answers
  whole_answered ended = record {
    answered = λ bytes told m first shown.
        let w = (ended.ended (is_cut bytes) (take most_bytes bytes) (gives_first r left bytes none zero_taken told)).leads (fresh m) first.err.held (at_first breaks pages shown) in
        (shown_last _ first new d' v' w.0, w.1);
  }

  pub part_answered : Ended false r left (scene_of old d v) (scene_of new d' v') → AnswersInPart left old (record { old = v; new = v' })
  unfolding moment_of answers
  part_answered ended = record {
    answered = λ bytes told m first shown.
        (ended.ended (is_cut bytes) (take most_bytes bytes) (gives_first r left bytes none zero_taken told)).leaves (fresh m) first.err.held (at_first breaks pages shown);
  }

pub whole_reads : {r : ReaderValue} {left : Option (List ℕ)} {old : Held} {d : DeskValue} (v : DeviceViews) → r.pending ≡ [] → r.taken ≡ 0 → d.breaks ≡ [] → d.pages ≡ 0
    → ReadsAt r left (scene_of old d v) → ReadsIn left old v
unfolding ReadsOf
whole_reads {r} {left} {old} {d} v none zero_taken breaks pages reads = record {
  reads = λ bytes told m first shown.
      (reads.reads (is_cut bytes) (take most_bytes bytes) (gives_first r left bytes none zero_taken told)).so (fresh m) first.err.held (at_first breaks pages shown);
}

-- nothing was put
pub nothing_answered : (left : Option (List ℕ)) (old : Held) (v : DeviceViews) → AnswersInPart left old (record { old = v; new = v })
unfolding moment_of answers
nothing_answered left old v = record {
  answered = λ bytes told m first shown. (
    ([], Appends-nil v.out.held, (answers_to (is_cut bytes) (session_lines bytes) (fresh m), refl)),
    (m.state.joint, shown.gained_err, grows_end (session_lines bytes) (fresh m)),
  );
}

-- the steps of a session can be counted
pub first_count : (r : ReaderValue) (n : ℕ) → r.pending ≡ [] → r.taken ≡ 0 → n < 2 ^ 62 → n + 1000000000 * budget r ≤ 2 ^ 63
unfolding most_bytes
first_count r n none zero_taken few = rw (none, zero_taken) (omega arith)

-- ---- where a call answers, or fails

pub on_ok_by : {T E P : Type 0} (r : Result T E) → (is_ok r ≡ true → P) → OnOk r P
on_ok_by (Ok v) f = f refl
on_ok_by (Err e) f = tt

pub on_err_by : {T E P : Type 0} (r : Result T E) → (is_ok r ≡ false → P) → OnErr r P
on_err_by (Ok v) f = tt
on_err_by (Err e) f = f refl

pub cause_by : (fault : SessionFault) (left : Option (List ℕ)) (old : Held) (io : Devices)
    → (fault ≡ ReadFault → Rose io.old.input.faults io.new.input.faults × ReadsIn left old io.old)
    → (fault ≡ WriteFault → Rose io.old.out.faults io.new.out.faults ⊎ Rose io.old.err.faults io.new.err.faults)
    → Cause fault left old io
cause_by ReadFault left old io reads writes = inr (reads refl)
cause_by WriteFault left old io reads writes = writes refl
cause_by NoMemory left old io reads writes = tt

pub either_rose : {a b c d e f : ℕ} → b ≡ a → e ≡ d → Rose b c ⊎ Rose e f → Rose a c ⊎ Rose d f
either_rose p q (inl rose) = inl (rose_from p rose)
either_rose p q (inr rose) = inr (rose_from q rose)
