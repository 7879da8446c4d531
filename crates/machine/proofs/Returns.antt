-- What a call leaves, by the way the guest goes on.
use Rattle.std.proofs.Common.{◌≡◌, ℕ, List, Result, Ok, Err, OnOk, OnErr, refl, ap}
use Rattle.rvv_meaning.specs.declared.Call.{Call}
use Rattle.rvv_meaning.specs.declared.Call.TheVariants.{Read, Write, Exit, Break, Close, Seek, Unknown}
use Rattle.rvv_meaning.specs.declared.Mode.{Mode}
use Rattle.rvv_meaning.specs.declared.Mode.TheVariants.{Exited}
use Rattle.rvv_meaning.specs.Calls.{named_call, regs_after, memory_after}
use Rattle.rvv_meaning.specs.States.{Core, advanced, called, mode_by}
use Rattle.guest_env.specs.declared.answers.EnvFlow.TheVariants.{Back, Exit as ExitWith}
use Rattle.guest_env.specs.Answers.{flow_of}

mode-back : (call : Call) (regs : List ℕ) (mode : Mode) → flow_of call regs ≡ Back → mode_by call regs mode ≡ mode
unfolding flow_of
mode-back Exit regs mode is = cc
mode-back Read regs mode is = refl
mode-back Write regs mode is = refl
mode-back Break regs mode is = refl
mode-back Close regs mode is = refl
mode-back Seek regs mode is = refl
mode-back Unknown regs mode is = refl

mode-exit : (call : Call) (regs : List ℕ) (mode : Mode) (code : ℕ) → flow_of call regs ≡ ExitWith code → mode_by call regs mode ≡ Exited code
unfolding flow_of
mode-exit Exit regs mode code is = cc
mode-exit Read regs mode code is = cc
mode-exit Write regs mode code is = cc
mode-exit Break regs mode code is = cc
mode-exit Close regs mode code is = cc
mode-exit Seek regs mode code is = cc
mode-exit Unknown regs mode code is = cc

-- the registers and the memory that a call leaves
abbrev answered : Core → List ℕ → Core
answered c taken = record c { regs = regs_after (named_call c.regs) c.regs c.mem taken; mem = memory_after (named_call c.regs) c.regs c.mem taken }

pub called-back : (c : Core) (taken : List ℕ) → flow_of (named_call c.regs) c.regs ≡ Back → called c taken ≡ advanced (answered c taken)
unfolding called
called-back c taken is = ap (λ (mode : Mode). record (advanced (answered c taken)) { mode = mode }) (mode-back (named_call c.regs) c.regs c.mode is)

pub called-exit : (c : Core) (taken : List ℕ) (code : ℕ) → flow_of (named_call c.regs) c.regs ≡ ExitWith code → called c taken ≡ record (advanced (answered c taken)) { mode = Exited code }
unfolding called
called-exit c taken code is = ap (λ (mode : Mode). record (advanced (answered c taken)) { mode = mode }) (mode-exit (named_call c.regs) c.regs c.mode code is)

-- what follows of a fact of a result
pub ok-one : {T E P Q : Type 0} (r : Result T E) → OnOk r P → (P → Q) → OnOk r Q
ok-one (Ok t) p give = give p
ok-one (Err e) p give = tt

pub err-fact : {T E P : Type 0} (r : Result T E) → P → OnErr r P
err-fact (Ok t) p = tt
err-fact (Err e) p = p
