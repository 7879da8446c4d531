-- What the devices of a call show before it and after it, as one value.
use Rattle.std.specs.Prelude.{◌≡◌, ◌⊎◌, ℕ, Bool, true, false, List, [], ◌∷◌, Option, MatchBool}
use Rattle.std.specs.Io.KnownBytes.{Appends}
use Rattle.cape_io.specs.Devices.{AppendsPrefix, Rose}
use Rattle.cape_io.specs.declared.devices.Source.{Ghosts as SourceGhosts}
use Rattle.cape_io.specs.declared.devices.Sink.{Ghosts as SinkGhosts}

-- A source: the bytes left, where they are known, and its count of faults.
pub record SourceView : Type 0 where
  pub left : Option (List ℕ)
  pub faults : ℕ

-- A sink: the bytes held, where they are known, and its count of faults.
pub record SinkView : Type 0 where
  pub held : Option (List ℕ)
  pub faults : ℕ

-- The input, the output and the error output of a call.
pub record DeviceViews : Type 0 where
  pub input : SourceView
  pub out : SinkView
  pub err : SinkView

-- The three before a call and after it.
pub record Devices : Type 0 where
  pub old : DeviceViews
  pub new : DeviceViews

abbrev pub source_view : {S : Type 0} → SourceGhosts S → S → SourceView
source_view s source = record { left = s.left source; faults = s.faults source }

abbrev pub sink_view : {K : Type 0} → SinkGhosts K → K → SinkView
sink_view k sink = record { held = k.held sink; faults = k.faults sink }

abbrev pub views : {S O E : Type 0} → SourceGhosts S → SinkGhosts O → SinkGhosts E → S → O → E → DeviceViews
views s o e input out err = record { input = source_view s input; out = sink_view o out; err = sink_view e err }

-- A clause of a generic function: devices S.Source O.Sink E.Sink input.old input.new out.old out.new err.old err.new
abbrev pub devices : {S O E : Type 0} → SourceGhosts S → SinkGhosts O → SinkGhosts E → S → S → O → O → E → E → Devices
devices s o e input input' out out' err err' = record { old = views s o e input out err; new = views s o e input' out' err' }

-- No count of faults changed.
pub record KeepsFaults (d : Devices) : Type 0 where
  pub input : d.new.input.faults ≡ d.old.input.faults
  pub out : d.new.out.faults ≡ d.old.out.faults
  pub err : d.new.err.faults ≡ d.old.err.faults

-- These bytes were written to a sink: all of them, where that went; else a prefix of them, and the count of faults rose.
pub record Writes {K : Type 0} (k : SinkGhosts K) (bytes : List ℕ) (went : Bool) (old new : K) : Type 0 where
  pub gained : MatchBool went (Appends (k.held old) (k.held new) bytes) (AppendsPrefix (k.held old) (k.held new) bytes)
  pub counts : MatchBool went (k.faults new ≡ k.faults old) (Rose (k.faults old) (k.faults new))

-- These pieces were put into a sink, each after the one before it, and no put failed.
abbrev pub PutsAll : {K : Type 0} → SinkGhosts K → K → List (List ℕ) → K → Type 0
PutsAll k old [] new = new ≡ old
PutsAll {K} k old (piece ∷ rest) new = (mid : K) × k.put_gives old piece true mid × PutsAll k mid rest new

-- They were put up to one that failed, and none after it. Where there is none, the sink stays as it was.
abbrev pub PutsToFault : {K : Type 0} → SinkGhosts K → K → List (List ℕ) → K → Type 0
PutsToFault k old [] new = new ≡ old
PutsToFault {K} k old (piece ∷ rest) new = k.put_gives old piece false new ⊎ ((mid : K) × k.put_gives old piece true mid × PutsToFault k mid rest new)
