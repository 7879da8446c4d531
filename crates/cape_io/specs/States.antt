-- What each device stands for, and the words of its contract.
use Rattle.std.specs.Prelude.{◌≡◌, ◌≢◌, ◌⊎◌, ◌<◌, ℕ, ◌+◌, ◌-◌, ◌^◌, min, Bool, true, false, List, [], ◌++◌, length, take, drop, Option, Some, None, IsSome, find, ◌==◌, unwrap_or, Contains, IfSome}
use Rattle.std.specs.Option.{option_map}
use Rattle.std.specs.Io.KnownBytes.{Appends}
use Rattle.std.specs.Str.{bytes_eq}
use Rattle.cape_io.specs.Devices.{KnownFile, Absent, Present, Rose, one_fault_more, word_at}

-- The number of the call after this one, up to the last number that a `u128` holds. Lists of calls hold `u64`s,
-- so they have no number at which this stops.
abbrev pub next_call : ℕ → ℕ
next_call call = min (call + 1) (2 ^ 128 - 1)

-- A source over memory that never fails: the bytes left, and the most that it gives a call.
pub record SureSourceState : Type 0 where
  pub left : List ℕ
  pub step : ℕ

-- A source over memory: the bytes left, the most that it gives a call, the numbers of the calls that fail,
-- the number of the next call, and the faults so far.
pub record MemSourceState : Type 0 where
  pub left : List ℕ
  pub step : ℕ
  pub fails : List ℕ
  pub calls : ℕ
  pub faults : ℕ

-- How many bytes a source with so many bytes left gives a call, where it gives at most `step` and there is room for
-- `room`.
abbrev pub given_count : ℕ → ℕ → ℕ → ℕ
given_count left step room = min left (min step room)

-- A sink over memory: the bytes held, the most that it holds, the puts that fail, each with the most that it
-- appends, the number of the next put, and the faults so far.
pub record MemSinkState : Type 0 where
  pub bytes : List ℕ
  pub room : ℕ
  pub fails : List (ℕ × ℕ)
  pub calls : ℕ
  pub faults : ℕ

-- The first pair that begins with this number of a put.
abbrev pub listed_pair : List (ℕ × ℕ) → ℕ → Option (ℕ × ℕ)
listed_pair fails call = find (λ pair. pair.0 == call) fails

-- How many bytes there is room for.
abbrev pub room_left : MemSinkState → ℕ
room_left sink = sink.room - length sink.bytes

-- The lesser of n and the second number of the pair, if there is one.
abbrev pub within_pair : Option (ℕ × ℕ) → ℕ → ℕ
within_pair None n = n
within_pair (Some pair) n = min pair.1 n

-- How many bytes of a piece of n bytes the next put appends.
abbrev pub appended_count : MemSinkState → ℕ → ℕ
appended_count sink n = within_pair (listed_pair sink.fails sink.calls) (min n (room_left sink))

-- The next put of n bytes fails: it is listed, or they are more than there is room for.
abbrev pub FailsPut : MemSinkState → ℕ → Type 0
FailsPut sink n = IsSome (listed_pair sink.fails sink.calls) ⊎ (room_left sink < n)

-- A put of a piece goes, or fails: what it leaves of a sink over memory.
abbrev pub PutsInMem : MemSinkState → List ℕ → Bool → MemSinkState → Type 0
PutsInMem old piece true new =
    (FailsPut old (length piece) → ⊥) × (new ≡ record old { bytes = old.bytes ++ piece; calls = next_call old.calls })
PutsInMem old piece false new = FailsPut old (length piece) × (new ≡ record old {
  bytes = old.bytes ++ take (appended_count old (length piece)) piece;
  calls = next_call old.calls;
  faults = one_fault_more old.faults;
})

-- The bytes of the first of these files that has this name.
abbrev pub bytes_of : List (List ℕ × List ℕ) → List ℕ → Option (List ℕ)
bytes_of files name = option_map (λ file. file.1) (find (λ file. bytes_eq file.0 name) files)

-- The bytes of the file of a name, which are none where it was not added.
abbrev pub bytes_or_none : List (List ℕ × List ℕ) → List ℕ → List ℕ
bytes_or_none files name = unwrap_or (bytes_of files name) []

-- The bytes of a file, or that there is none.
abbrev pub present_or_absent : Option (List ℕ) → KnownFile
present_or_absent None = Absent
present_or_absent (Some bytes) = Present bytes

-- A shelf of files: the bytes of each name, and what is left of the open file.
pub record ShelfState : Type 0 where
  pub files : List (List ℕ × List ℕ)
  pub left : Option (List ℕ)

-- Files over memory: the words that they were made over, the bytes of each name, what is left of the open file, the
-- numbers of the calls that fail, the number of the next call, the faults so far, the place that the last `open` was
-- given, and the faults as it began.
pub record MemFilesState : Type 0 where
  pub names : List (List ℕ)
  pub files : List (List ℕ × List ℕ)
  pub left : Option (List ℕ)
  pub fails : List ℕ
  pub calls : ℕ
  pub faults : ℕ
  pub at : ℕ
  pub since : ℕ

-- Files over these words, of which none was added yet and none is open.
abbrev pub new_files : List (List ℕ) → List ℕ → MemFilesState
new_files words fails = record { names = words; files = []; left = None; fails = fails; calls = 0; faults = 0; at = 0; since = 0 }

-- The files after an open of the word at a place, which went, and after one that failed.
abbrev pub after_open : MemFilesState → ℕ → MemFilesState
after_open files place = record files {
  left = bytes_of files.files (word_at files.names place);
  calls = next_call files.calls;
  at = place;
  since = files.faults;
}

abbrev pub after_failed_open : MemFilesState → ℕ → MemFilesState
after_failed_open files place = record files {
  left = None;
  calls = next_call files.calls;
  faults = one_fault_more files.faults;
  at = place;
  since = files.faults;
}

-- No other name has another file than before.
abbrev pub KeepsOthers : List (List ℕ × List ℕ) → List (List ℕ × List ℕ) → List ℕ → Type 0
KeepsOthers old new name = (other : List ℕ) → other ≢ name → bytes_of new other ≡ bytes_of old other

-- What is left of a file after n bytes were taken.
abbrev pub after_taking : ℕ → Option (List ℕ) → Option (List ℕ)
after_taking n left = option_map (λ bytes. drop n bytes) left

-- What is known of a name: the bytes of its file, or that it has none.
abbrev pub known_in_mem : MemFilesState → List ℕ → KnownFile
known_in_mem files name = present_or_absent (bytes_of files.files name)

-- The next call, an open of the word at this place, fails: it is listed, or the word has no file.
abbrev pub FailsOpen : MemFilesState → ℕ → Type 0
FailsOpen files place = Contains files.fails files.calls ⊎ (bytes_of files.files (word_at files.names place) ≡ None)

-- Of the bytes left n are given, which is all of them or as many as there is room for.
abbrev pub GivesWhatFits : Option (List ℕ) → ℕ → ℕ → Type 0
GivesWhatFits left room n = IfSome left (λ bytes. n ≡ min (length bytes) room)

-- Files over memory that never fail: the words that they were made over, the bytes of each name that was added, what
-- is left of the open file, and the place that the last `open` was given.
pub record SureFilesState : Type 0 where
  pub names : List (List ℕ)
  pub files : List (List ℕ × List ℕ)
  pub left : Option (List ℕ)
  pub at : ℕ

-- What is known of a name: the bytes of its file, which are none where it was not added.
abbrev pub known_in_sure : SureFilesState → List ℕ → KnownFile
known_in_sure files name = Present (bytes_or_none files.files name)

-- A source over a reader: what is known of the bytes that the reader has left, and the faults so far.
pub record StdSourceState : Type 0 where
  pub remaining : Option (List ℕ)
  pub faults : ℕ

-- A sink over a writer: what is known of the bytes that the writer holds, and the faults so far.
pub record StdSinkState : Type 0 where
  pub contents : Option (List ℕ)
  pub faults : ℕ

-- A put of a piece goes, or fails: what it leaves of a sink over a writer.
abbrev pub PutsInWriter : StdSinkState → List ℕ → Bool → StdSinkState → Type 0
PutsInWriter old piece true new = Appends old.contents new.contents piece × (new.faults ≡ old.faults)
PutsInWriter old piece false new = Rose old.faults new.faults

-- Files of the file system: the words that they were made over, whether one is open, what is known of the bytes that
-- it has left, the faults so far, the place that the last `open` was given, and the faults as it began.
pub record DiskFilesState : Type 0 where
  pub names : List (List ℕ)
  pub is_open : Bool
  pub remaining : Option (List ℕ)
  pub faults : ℕ
  pub at : ℕ
  pub since : ℕ
