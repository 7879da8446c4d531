-- What a caller draws from the clauses of a call.
use Rattle.std.proofs.Common.{◌≡◌, ◌≢◌, ℕ, List, ◌++◌, drop, Option, Some, None, refl, sym, ap, ◌∙◌, take-append-drop}
use Rattle.std.proofs.lemmas.List.{append_cancel_left, set-get_or}
use Rattle.guest_mem.specs.Pages.{Memory}
use Rattle.rvv_meaning.specs.declared.Call.{Call}
use Rattle.rvv_meaning.specs.declared.Call.TheVariants.{Read, Write, Exit, Break, Close, Seek, Unknown}
use Rattle.rvv_meaning.specs.Calls.{number, named_call, call_of, answer_of, regs_after, exit_code}
use Rattle.guest_env.specs.declared.answers.EnvFlow.TheVariants.{Back, Exit as ExitWith}
use Rattle.guest_env.specs.Inputs.{Takes}
use Rattle.guest_env.specs.Answers.{flow_of}

-- an input whose bytes are known is left with those after
pub left-known : (most : ℕ) (left left' : Option (List ℕ)) (taken bytes : List ℕ) → Takes most left left' taken → left ≡ Some bytes → left' ≡ Some (drop most bytes)
left-known most None left' taken bytes takes is = cc
left-known most (Some xs) None taken bytes takes is = absurd takes.consumed
left-known most (Some xs) (Some ys) taken bytes takes is =
    let same : xs ≡ bytes = cc in
    let parts : taken ++ ys ≡ taken ++ drop most bytes =
    sym takes.consumed ∙ same ∙ sym (take-append-drop most bytes) ∙ ap (λ (zs : List ℕ). zs ++ drop most bytes) (sym (takes.known bytes is)) in
    ap Some (append_cancel_left taken ys (drop most bytes) parts)

-- a read and a write, by their numbers
pub named-read : (regs : List ℕ) → number regs ≡ 63 → named_call regs ≡ Read
unfolding call_of
named-read regs is = rw is refl

pub named-write : (regs : List ℕ) → number regs ≡ 64 → named_call regs ≡ Write
unfolding call_of
named-write regs is = rw is refl

-- an exit leaves the registers
pub regs_after-exit : (regs : List ℕ) (mem : Memory) (taken : List ℕ) → regs_after Exit regs mem taken ≡ regs
unfolding answer_of
regs_after-exit regs mem taken = set-get_or regs 10 0

-- a call that ends the guest is an exit, with its code
pub flow-exit : (call : Call) (regs : List ℕ) (code : ℕ) → ExitWith code ≡ flow_of call regs → (call ≡ Exit) × (code ≡ exit_code regs)
unfolding flow_of
flow-exit Exit regs code is = (refl, cc)
flow-exit Read regs code is = cc
flow-exit Write regs code is = cc
flow-exit Break regs code is = cc
flow-exit Close regs code is = cc
flow-exit Seek regs code is = cc
flow-exit Unknown regs code is = cc

-- and a call after which the guest goes on is none
pub flow-back : (call : Call) (regs : List ℕ) → Back ≡ flow_of call regs → call ≢ Exit
unfolding flow_of
flow-back Exit regs is = cc
flow-back Read regs is = λ exit. cc
flow-back Write regs is = λ exit. cc
flow-back Break regs is = λ exit. cc
flow-back Close regs is = λ exit. cc
flow-back Seek regs is = λ exit. cc
flow-back Unknown regs is = λ exit. cc
