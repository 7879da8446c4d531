-- What stands after a call whose device failed.
use Rattle.std.proofs.Common.{◌≡◌, ℕ, Bool, true, false, List, [], refl, ap, ◌∙◌, arith}
use Rattle.std.specs.Prelude.{◌==◌, ◌||◌, MatchBool}
use Rattle.std.proofs.lemmas.Bool.Decides.{nat_tests}
use Rattle.cape_io.specs.Devices.{Rose}
use Rattle.cape_io.specs.Views.{DeviceViews, Devices, devices, KeepsFaults}
use Rattle.cape_io.specs.declared.devices.Source.{Ghosts as SourceGhosts}
use Rattle.cape_io.specs.declared.devices.Sink.{Ghosts as SinkGhosts}
use Rattle.cam_chain.specs.ChainValue.{slices_of}
use Rattle.guest_mem.specs.Pages.{Memory}
use Rattle.guest_env.specs.Outputs.{bytes_out, bytes_err, IsWritten}
use Rattle.guest_env.specs.Answers.{IsReading, IsWriting, FailsReading, FailsWriting}
use Rattle.guest_env.proofs.Writing.{bytes_out-none, bytes_err-none}
use Rattle.rvv_meaning.specs.declared.Call.TheVariants.{Read, Write}
use Rattle.rvv_meaning.specs.declared.Mode.TheVariants.{Running}
use Rattle.rvv_meaning.specs.Calls.{call_of, named_call, first, second, asked_by, put_by}
use Rattle.rvv_meaning.specs.States.{Core}
use Rattle.machine.specs.declared.answers.DeviceFault.{DeviceFault}
use Rattle.machine.specs.declared.answers.DeviceFault.TheVariants.{ReadFault, WriteFault}
use Rattle.machine.specs.Moments.{Held, Moment, moment_after}
use Rattle.machine.specs.Views.{Shows, GainPrefixes, AsksDevice, LeavesMemory, StandsAt}
use Rattle.machine.specs.Carrying.{Fails, OneFault, call_asked, call_out, call_err}

-- a read writes no byte, and a write asks for none
reading-names : (regs : List ℕ) (mem : Memory) → IsReading regs mem → named_call regs ≡ Read
unfolding call_of
reading-names regs mem r = rw r.is_read refl

writing-names : (regs : List ℕ) (mem : Memory) → IsWriting regs mem → named_call regs ≡ Write
unfolding call_of
writing-names regs mem r = rw r.is_write refl

reading-puts : (regs : List ℕ) (mem : Memory) → IsReading regs mem → put_by (named_call regs) regs mem ≡ []
unfolding put_by
reading-puts regs mem r = rw (reading-names regs mem r) refl

writing-asks : (regs : List ℕ) (mem : Memory) → IsWriting regs mem → asked_by (named_call regs) regs mem ≡ 0
unfolding asked_by
writing-asks regs mem r = rw (writing-names regs mem r) refl

reading-out : (merged : Bool) (c : Core) → IsReading c.regs c.mem → call_out merged c ≡ []
reading-out merged c r = ap (bytes_out merged (first c.regs)) (reading-puts c.regs c.mem r) ∙ bytes_out-none merged (first c.regs)

reading-err : (merged : Bool) (c : Core) → IsReading c.regs c.mem → call_err merged c ≡ []
reading-err merged c r = ap (bytes_err merged (first c.regs)) (reading-puts c.regs c.mem r) ∙ bytes_err-none merged (first c.regs)

-- the sink that does not take the bytes of a write
out-none : (merged : Bool) (n : ℕ) (bytes : List ℕ) → (merged || (n == 2)) ≡ true → bytes_out merged n bytes ≡ []
out-none true n bytes is = refl
out-none false n bytes is =
    let two : n ≡ 2 = grind (arith, nat_tests) in
    rw two refl

err-none : (merged : Bool) (n : ℕ) (bytes : List ℕ) → (merged || (n == 2)) ≡ false → bytes_err merged n bytes ≡ []
err-none true n bytes is = cc
err-none false n bytes is = rw is refl

other-stays : (b merged : Bool) (n : ℕ) (bytes : List ℕ) (o o' e e' : ℕ) → (merged || (n == 2)) ≡ b → MatchBool b (Rose e e') (Rose o o')
    → (bytes_out merged n bytes ≡ [] → o' ≡ o) → (bytes_err merged n bytes ≡ [] → e' ≡ e) → MatchBool b ((o' ≡ o) × Rose e e') (Rose o o' × (e' ≡ e))
other-stays true merged n bytes o o' e e' is rose out err = (out (out-none merged n bytes is), rose)
other-stays false merged n bytes o o' e e' is rose out err = (rose, err (err-none merged n bytes is))

module _ {S O E : Type 0} (s : SourceGhosts S) (o : SinkGhosts O) (e : SinkGhosts E) (merged : Bool) (c c' : Core) (input input' : S) (out out' : O) (err err' : E)
    (to_out : IsWritten o (second c.regs) (call_out merged c) false out out') (to_err : IsWritten e (second c.regs) (call_err merged c) false err err')
  where
    -- a read that failed
    pub read-fails : FailsReading s c.regs c.mem c'.mem input input' → Fails merged c c' (devices s o e input input' out out' err err') ReadFault
    read-fails f = record {
      asks = f.asked;
      memory = f.stands;
      one = (f.rose, ap o.faults (to_out.stays (reading-out merged c f.asked)), ap e.faults (to_err.stays (reading-err merged c f.asked)));
    }

    -- a write that failed
    pub write-fails : (call_asked c ≡ 0 → input' ≡ input) → FailsWriting o e merged c.regs c.mem c'.mem out out' err err' → Fails merged c c' (devices s o e input input' out out' err err') WriteFault
    write-fails input_stays f = record {
      asks = f.asked;
      memory = f.stays;
      one = (
        ap s.faults (input_stays (writing-asks c.regs c.mem f.asked)),
        other-stays (merged || (first c.regs == 2)) merged (first c.regs) (put_by (named_call c.regs) c.regs c.mem) (o.faults out) (o.faults out') (e.faults err) (e.faults err') refl f.rose
            (λ none. ap o.faults (to_out.stays none)) (λ none. ap e.faults (to_err.stays none)),
      );
    }

-- a fault after calls without one
pub one-later : (fault : DeviceFault) (merged : Bool) (n : ℕ) (v0 v1 v2 : DeviceViews) → KeepsFaults (record { old = v0; new = v1 }) → OneFault fault merged n (record { old = v1; new = v2 })
    → OneFault fault merged n (record { old = v0; new = v2 })
one-later ReadFault merged n v0 v1 v2 quiet one = rw (← quiet.input, ← quiet.out, ← quiet.err) one
one-later WriteFault merged n v0 v1 v2 quiet one = rw (← quiet.input, ← quiet.out, ← quiet.err) one

-- two calls without a fault
pub quiet-both : (v0 v1 v2 : DeviceViews) → KeepsFaults (record { old = v0; new = v1 }) → KeepsFaults (record { old = v1; new = v2 }) → KeepsFaults (record { old = v0; new = v2 })
quiet-both v0 v1 v2 a b = record { input = b.input ∙ a.input; out = b.out ∙ a.out; err = b.err ∙ a.err }

-- the machine stands at the moment that it showed before the step
pub stands-at : (fault : DeviceFault) (merged : Bool) (m : Moment) (old new : Held) (first : DeviceViews) (d : Devices) → Shows merged m old first d.old
    → old.core.mode ≡ Running → new ≡ record old { core = record old.core { mem = new.core.mem }; last = []; live = false } → AsksDevice fault old.core → LeavesMemory fault old.core new.core.mem d.old.input.left d.new.input.left
    → GainPrefixes merged (moment_after m).state first d.new → StandsAt fault merged m new first d.new
stands-at fault merged m old new first d shows running is asks memory prefixes = record {
  running = rw shows.holds running;
  asks = rw shows.holds asks;
  core = rw shows.holds (ap (λ (h : Held). h.core) is);
  memory = rw (shows.holds, ← shows.known) memory;
  slices = rw shows.slices (ap (λ (h : Held). slices_of h.chain) is);
  counts = rw shows.counts (ap (λ (h : Held). h.chain.counts) is);
  control = rw shows.control (ap (λ (h : Held). h.control) is);
  prefixes = prefixes;
}
