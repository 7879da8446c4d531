-- What two sinks gain of a call. Apart, they are the output and the error output; merged, the second gains the bytes of
-- both in their order, and the first nothing.
use Rattle.std.specs.Prelude.{◌≡◌, ◌==◌, ◌||◌, ℕ, Bool, List, [], if◌then◌else◌, MatchBool}
use Rattle.std.specs.Io.KnownBytes.{Appends}
use Rattle.cape_io.specs.Devices.{AppendsPrefix, Rose}
use Rattle.cape_io.specs.declared.devices.Sink.{Ghosts}
use Rattle.cape_io.specs.Views.{PutsAll, PutsToFault}
use Rattle.guest_mem.specs.Pages.{Memory}
use Rattle.rvv_meaning.specs.Calls.{named_call, first, put_by}
use Rattle.guest_env.specs.Pieces.{pieces_of}

-- what they gain of bytes that a call writes to a descriptor: 1 is the output, 2 the error output
abbrev pub bytes_out : Bool → ℕ → List ℕ → List ℕ
bytes_out merged descriptor bytes = if merged then [] else if descriptor == 1 then bytes else []

abbrev pub bytes_err : Bool → ℕ → List ℕ → List ℕ
bytes_err merged descriptor bytes = if merged then bytes else if descriptor == 2 then bytes else []

-- and what they gain of the call that the registers ask for
abbrev pub gained_out : Bool → List ℕ → Memory → List ℕ
gained_out merged regs mem = bytes_out merged (first regs) (put_by (named_call regs) regs mem)

abbrev pub gained_err : Bool → List ℕ → Memory → List ℕ
gained_err merged regs mem = bytes_err merged (first regs) (put_by (named_call regs) regs mem)

-- What a call that went, or failed, leaves of a sink that takes these bytes of it, which stand in memory from a on.
-- There is a put for each piece, and none after one that failed.
pub record IsWritten {K : Type 0} (k : Ghosts K) (a : ℕ) (bytes : List ℕ) (went : Bool) (old new : K) : Type 0 where
  pub pieces : MatchBool went (PutsAll k old (pieces_of a bytes) new) (PutsToFault k old (pieces_of a bytes) new)
  pub gained : MatchBool went (Appends (k.held old) (k.held new) bytes) (AppendsPrefix (k.held old) (k.held new) bytes)
  pub counts : MatchBool went (k.faults new ≡ k.faults old) (Unit {0})
  pub stays : bytes ≡ [] → new ≡ old

-- the sink that takes the bytes of a write to a descriptor failed
abbrev pub FailsOf : {O E : Type 0} → Ghosts O → Ghosts E → Bool → ℕ → O → O → E → E → Type 0
FailsOf o e merged descriptor out out' err err' =
    MatchBool (merged || (descriptor == 2)) (Rose (e.faults err) (e.faults err')) (Rose (o.faults out) (o.faults out'))
