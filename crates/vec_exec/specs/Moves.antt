-- What instructions leave that move elements of the vector registers without a program.
use Rattle.std.specs.Prelude.{ℕ, List}
use Rattle.element_moves.specs.Permutations.{LeavesRegisters}
use Rattle.rvv_decode.specs.declared.instruction.VInstr.{VInstr}
use Rattle.rvv_meaning.specs.Vectors.{left_of}
use Rattle.vtype_cfg.specs.declared.configuration.Cfg.{Cfg}

-- The registers w are those that the instruction leaves of v, whatever its scalar is.
abbrev pub Permutes : VInstr → Cfg → (v w : List (List ℕ)) → Type 0
Permutes i c v w = (x : ℕ) → LeavesRegisters c v (left_of i c x v) w
