-- A list that computes a value computes each that is the same for numbers of w bits.
use Rattle.std.proofs.Common.{◌≡◌, ℕ, ◌+◌, ◌*◌, ◌^◌, ◌<◌, ◌≤◌, Bool, List, ◌∙◌}
use Rattle.bit_laws.specs.Numbers.{number, low}
use Rattle.bit_laws.proofs.Numbers.{number-lt}
use Rattle.micro_ir.specs.declared.op.MicroOp.{MicroOp}
use Rattle.micro_ir.specs.Steps.{element}
use Rattle.micro_ir.specs.Kinds.{Realises, Tells}

pub realises-same : (w to : ℕ) (reads : Bool) (u v : (ℕ → ℕ) → Bool → ℕ) (ops : List MicroOp)
    → ((n : ℕ → ℕ) (m : Bool) → ((r : ℕ) → n r < 2 ^ w) → low w (u n m) ≡ low w (v n m)) → Realises w to reads u ops → Realises w to reads v ops
unfolding Realises
realises-same w to reads u v ops same is s k col fits inside =
    let x = is s k col fits inside in
    let e = element w k col s in
    record { active = λ h m mask. x.active h m mask ∙ same (λ r. number w (e r)) m (λ r. number-lt w (e r)); idle = x.idle; kept = x.kept }

pub tells-same : (w : ℕ) (reads : Bool) (t u : (ℕ → ℕ) → Bool → Bool) (ops : List MicroOp)
    → ((n : ℕ → ℕ) (m : Bool) → ((r : ℕ) → n r < 2 ^ w) → t n m ≡ u n m) → Tells w reads t ops → Tells w reads u ops
unfolding Tells
tells-same w reads t u ops same is s k col fits inside =
    let x = is s k col fits inside in
    let e = element w k col s in
    record { told = λ m mask. x.told m mask ∙ same (λ r. number w (e r)) m (λ r. number-lt w (e r)); kept = x.kept }
