-- What the files and the devices show of one call, as one value.
use Rattle.std.specs.Prelude.{◌≡◌, ◌⊎◌, ℕ, List, []}
use Rattle.std.specs.Io.KnownBytes.{Appends}
use Rattle.cape_io.specs.Devices.{Rose, KnownFile, word_at}
use Rattle.cape_io.specs.declared.devices.Files.{Ghosts as FilesGhosts}
use Rattle.cape_io.specs.declared.devices.Source.{Ghosts as SourceGhosts}
use Rattle.cape_io.specs.declared.devices.Sink.{Ghosts as SinkGhosts}
use Rattle.cape_io.specs.Views.{Devices, devices}

-- The files: the words that they were made over, what is known of the file of each name, the count of faults before the
-- call and after it, and after it the place that was opened last and the count as that began.
pub record FilesCall : Type 0 where
  pub names : List (List ℕ)
  pub known : List ℕ → KnownFile
  pub faults_before : ℕ
  pub faults_after : ℕ
  pub at : ℕ
  pub since : ℕ

abbrev pub files_call : {F : Type 0} → FilesGhosts F → F → F → FilesCall
files_call f files files' = record {
  names = f.names files;
  known = f.known_file files;
  faults_before = f.faults files;
  faults_after = f.faults files';
  at = f.at files';
  since = f.since files';
}

-- The files and the three other devices.
pub record Call : Type 0 where
  pub files : FilesCall
  pub devices : Devices

-- A clause of a generic function:
-- call F.Files S.Source O.Sink E.Sink files.old files.new input.old input.new out.old out.new err.old err.new
abbrev pub call : {F S O E : Type 0} → FilesGhosts F → SourceGhosts S → SinkGhosts O → SinkGhosts E → F → F → S → S → O → O → E → E → Call
call f s o e files files' input input' out out' err err' = record {
  files = files_call f files files';
  devices = devices s o e input input' out out' err err';
}

-- what is known of the file of the word at a place
abbrev pub known_at : ℕ → Call → KnownFile
known_at place c = c.files.known (word_at c.files.names place)

-- Nothing was written.
pub record WritesNothing (d : Devices) : Type 0 where
  pub gains_out : Appends d.old.out.held d.new.out.held []
  pub gains_err : Appends d.old.err.held d.new.err.held []

-- The count of the input rose.
abbrev pub InputRose : Devices → Type 0
InputRose d = Rose d.old.input.faults d.new.input.faults

-- The count of one of the sinks rose.
abbrev pub SinkRose : Devices → Type 0
SinkRose d = Rose d.old.out.faults d.new.out.faults ⊎ Rose d.old.err.faults d.new.err.faults

-- The files failed in the call, since the last open, which was given this place.
pub record FailedOn (place : ℕ) (f : FilesCall) : Type 0 where
  pub rose : Rose f.faults_before f.faults_after
  pub since_open : Rose f.since f.faults_after
  pub at_operand : f.at ≡ place

-- No count rose.
pub record HasNoFault (c : Call) : Type 0 where
  pub files : ¬ Rose c.files.faults_before c.files.faults_after
  pub input : ¬ InputRose c.devices
  pub sinks : ¬ SinkRose c.devices
