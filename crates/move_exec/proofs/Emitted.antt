-- What the emission of a program needs, and what it has written.
use Rattle.std.proofs.Common.{◌≡◌, ◌≢◌, ℕ, ◌*◌, ◌≤◌, Bool, true, false, cond, refl, arith}
use Rattle.std.proofs.lemmas.Bool.{ne_eqb}
use Rattle.std.proofs.lemmas.Nat.{mul-le}
use Rattle.gen_logic.proofs.Tables.{length-few}
use Rattle.move_exec.specs.declared.bodies.Body.{Body}
use Rattle.move_exec.specs.declared.bodies.Body.TheVariants.{Bits, Marked, Numbers, Slid, Picked, Scalar}
use Rattle.move_exec.specs.declared.frames.Frame.{Frame}
use Rattle.move_exec.specs.Bodies.{body_length, emitted_at}
use Rattle.move_exec.specs.Frames.{register_length}
use Rattle.move_exec.specs.declared.kinds.Kind.{Kind}
use Rattle.move_exec.specs.declared.kinds.Kind.TheVariants.{Moves}
use Rattle.move_exec.specs.declared.moves.Move.{Move}
use Rattle.move_exec.specs.declared.moves.Move.TheVariants.{UpByOne, DownByOne}
use Rattle.move_exec.specs.Kinds.{takes_scalar, last_length}
use Rattle.move_exec.specs.Moves.{single_length}
use Rattle.move_exec.specs.Programs.{program_length}

-- ---- the width that a list is emitted at

pub at-half : (w : ℕ) → w ≡ 16 → emitted_at w ≡ 16
at-half w is = rw is refl

pub at-word : (w : ℕ) → w ≡ 32 → emitted_at w ≡ 32
at-word w is = rw is refl

pub at-byte : (w : ℕ) → w ≢ 16 → w ≢ 32 → emitted_at w ≡ 8
at-byte w half word = rw (ne_eqb w 16 half, ne_eqb w 32 word) refl

-- ---- the room that a program takes

few-ops : (b : Bool) (n : ℕ) → cond b n 0 ≤ n
few-ops true n = omega arith
few-ops false n = omega arith

body-few : (body : Body) → body_length body ≤ 11
body-few (Bits kind a b) = length-few kind
body-few (Marked source how) = omega arith
body-few Numbers = omega arith
body-few (Slid base up by limit) = omega arith
body-few (Picked base index limit) = omega arith
body-few Scalar = omega arith

single-few : (how : Move) → single_length how ≤ 5
single-few UpByOne = omega arith
single-few DownByOne = omega arith
single-few _ = omega arith

last-few : (kind : Kind) → last_length kind ≤ 5
last-few (Moves how) = single-few how
last-few _ = omega arith

pub room : (kind : Kind) (f : Frame) (body : Body) → f.registers ≤ 8 → program_length kind f body ≤ 262144
room kind f body few =
    let each : register_length f body ≤ 15 = omega (arith, few-ops f.ones 3, body-few body) in
    let all : f.registers * register_length f body ≤ 8 * 15 = mul-le f.registers (register_length f body) 8 15 few each in
    omega (arith, all, last-few kind, few-ops (takes_scalar kind) 4)
