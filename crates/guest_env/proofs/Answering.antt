-- Calls that have nothing to do with a device, and the numbers of those that have.
use Rattle.std.proofs.Common.{◌≡◌, ◌≢◌, ℕ, Bool, List, [], refl, arith}
use Rattle.std.proofs.lemmas.Bool.Decides.{nat_tests}
use Rattle.guest_mem.specs.Pages.{Memory}
use Rattle.rvv_meaning.specs.declared.Call.{Call}
use Rattle.rvv_meaning.specs.declared.Call.TheVariants.{Read, Write, Exit, Break, Close, Seek, Unknown}
use Rattle.rvv_meaning.specs.Calls.{call_of, first, asked_by, put_by}
use Rattle.cape_io.specs.declared.devices.Sink.{Ghosts}
use Rattle.guest_env.specs.Outputs.{bytes_out, bytes_err, IsWritten}
use Rattle.guest_env.proofs.Writing.{written-none, bytes_out-none, bytes_err-none}

-- a call that is no read asks for no byte
pub asked_by-other : (call : Call) (regs : List ℕ) (mem : Memory) → call ≢ Read → asked_by call regs mem ≡ 0
unfolding asked_by
asked_by-other Read regs mem other = absurd (other refl)
asked_by-other Write regs mem other = refl
asked_by-other Exit regs mem other = refl
asked_by-other Break regs mem other = refl
asked_by-other Close regs mem other = refl
asked_by-other Seek regs mem other = refl
asked_by-other Unknown regs mem other = refl

-- and one that is no write writes none
pub put_by-other : (call : Call) (regs : List ℕ) (mem : Memory) → call ≢ Write → put_by call regs mem ≡ []
unfolding put_by
put_by-other Read regs mem other = refl
put_by-other Write regs mem other = absurd (other refl)
put_by-other Exit regs mem other = refl
put_by-other Break regs mem other = refl
put_by-other Close regs mem other = refl
put_by-other Seek regs mem other = refl
put_by-other Unknown regs mem other = refl

module _ (call : Call) (regs : List ℕ) (mem : Memory) (merged : Bool) (other : call ≢ Write) where
  -- the sinks take nothing of a call that is no write
  pub unwritten-out : {K : Type 0} (k : Ghosts K) (a : ℕ) (went : Bool) (s : K) → IsWritten k a (bytes_out merged (first regs) (put_by call regs mem)) went s s
  unwritten-out k a went s = rw (put_by-other call regs mem other, bytes_out-none merged (first regs)) (written-none k a went s)

  pub unwritten-err : {K : Type 0} (k : Ghosts K) (a : ℕ) (went : Bool) (s : K) → IsWritten k a (bytes_err merged (first regs) (put_by call regs mem)) went s s
  unwritten-err k a went s = rw (put_by-other call regs mem other, bytes_err-none merged (first regs)) (written-none k a went s)

-- the numbers of a read and of a write
pub read-number : (n : ℕ) → call_of n ≡ Read → n ≡ 63
unfolding call_of
read-number n is = grind (arith, nat_tests, is)

pub write-number : (n : ℕ) → call_of n ≡ Write → n ≡ 64
unfolding call_of
write-number n is = grind (arith, nat_tests, is)
