-- Bytes that a sink takes piece by piece.
use Rattle.std.proofs.Common.{◌≡◌, ℕ, ◌+◌, ◌≤◌, Bool, true, false, List, [], ◌++◌, length, take, Option, Result, Ok, Err, OnOk, OnErr, is_ok, refl, sym, ◌∙◌, arith}
use Rattle.std.specs.Io.KnownBytes.{Appends}
use Rattle.std.proofs.KnownBytes.{Appends-nil, Appends-trans}
use Rattle.std.proofs.lemmas.List.{take-append-le, length-append}
use Rattle.std.proofs.Math.Seq.{take-append-add}
use Rattle.cape_io.specs.Devices.{AppendsPrefix, Rose}
use Rattle.cape_io.specs.declared.devices.Sink.{Ghosts}
use Rattle.cape_io.specs.Views.{Writes}

-- a prefix of what follows a piece, and of a piece that something follows
pub prefix-more : (old mid new : Option (List ℕ)) (piece rest : List ℕ) → Appends old mid piece → AppendsPrefix mid new rest → AppendsPrefix old new (piece ++ rest)
prefix-more old mid new piece rest gained prefix = (
  length piece + prefix.0,
  simp length-append (omega (arith, prefix.1)),
  rw (take-append-add piece rest prefix.0) (Appends-trans old mid new piece (take prefix.0 rest) gained prefix.2),
)

pub prefix-first : (old new : Option (List ℕ)) (piece rest : List ℕ) → AppendsPrefix old new piece → AppendsPrefix old new (piece ++ rest)
prefix-first old new piece rest prefix =
    (prefix.0, simp length-append (omega (arith, prefix.1)), rw (take-append-le prefix.0 piece rest prefix.1) prefix.2)

module _ {K : Type 0} (k : Ghosts K) where
  -- what the clauses of a put say
  pub writes_put : {T E : Type 0} (r : Result T E) (piece : List ℕ) (old new : K) → OnOk r (Appends (k.held old) (k.held new) piece) → OnErr r (AppendsPrefix (k.held old) (k.held new) piece)
      → OnOk r (k.faults new ≡ k.faults old) → OnErr r (Rose (k.faults old) (k.faults new)) → Writes k piece (is_ok r) old new
  writes_put (Ok v) piece old new whole prefix quiet rose = record { gained = whole; counts = quiet }
  writes_put (Err e) piece old new whole prefix quiet rose = record { gained = prefix; counts = rose }

  pub writes_none : (s : K) → Writes k [] true s s
  writes_none s = record { gained = Appends-nil (k.held s); counts = refl }

  -- a piece that went, and what follows
  pub writes_more : (piece rest : List ℕ) (went : Bool) (old mid new : K) → Writes k piece true old mid → Writes k rest went mid new → Writes k (piece ++ rest) went old new
  writes_more piece rest true old mid new first later =
      record { gained = Appends-trans _ _ _ piece rest first.gained later.gained; counts = later.counts ∙ first.counts }
  writes_more piece rest false old mid new first later =
      record { gained = prefix-more _ _ _ piece rest first.gained later.gained; counts = rw (← first.counts) later.counts }

  -- a piece that failed ends the text
  pub writes_stopped : (piece rest : List ℕ) (old new : K) → Writes k piece false old new → Writes k (piece ++ rest) false old new
  writes_stopped piece rest old new first = record { gained = prefix-first _ _ piece rest first.gained; counts = first.counts }

-- What is written of the rest from here on is written of the whole from there on.
abbrev pub Continues : {K : Type 0} → Ghosts K → List ℕ → K → List ℕ → K → Type 0
Continues {K} k whole old rest mid = (went : Bool) (end : K) → Writes k rest went mid end → Writes k whole went old end
