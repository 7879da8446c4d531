-- The program of the instruction at pc.
use Rattle.std.proofs.Common.{◌≡◌, ℕ, true, false, List, [], Some, None, refl}
use Rattle.std.proofs.lemmas.Bool.{false≢true}
use Rattle.micro_ir.specs.declared.op.MicroOp.{MicroOp}
use Rattle.micro_ir.specs.Replay.{AllInRange}
use Rattle.micro_ir.proofs.Lists.{AllInRange-none}
use Rattle.rv32_decode.specs.declared.instruction.Instr.{Instr}
use Rattle.rvv_decode.specs.declared.instruction.Form.{Form}
use Rattle.rvv_decode.specs.declared.instruction.VInstr.{VInstr}
use Rattle.rvv_decode.specs.declared.instruction.VOp.{VOp}
use Rattle.rvv_decode.specs.declared.instruction.VOp.TheVariants.{Opi, Opm, Config, Memory}
use Rattle.rvv_meaning.specs.declared.Meaning.TheVariants.{Scalar, Vector}
use Rattle.rvv_meaning.specs.declared.Mode.{Mode}
use Rattle.rvv_meaning.specs.declared.Next.TheVariants.{Stop, Perform}
use Rattle.rvv_meaning.specs.States.{Core, next}
use Rattle.vec_exec.specs.Programs.{is_engine, is_engine_op}
use Rattle.machine.specs.Moments.{program_at, program_for}

-- the program at pc, by what comes there
pub stop_program : (mode : Mode) (c : Core) → next c ≡ Stop mode → program_at c ≡ None
unfolding program_at
stop_program mode c there = rw there refl

pub scalar_program : (i : Instr) (c : Core) → next c ≡ Perform (Scalar i) → program_at c ≡ None
unfolding program_at
scalar_program i c there = rw there refl

pub vector_program : (i : VInstr) (c : Core) → next c ≡ Perform (Vector i) → is_engine i ≡ true → program_at c ≡ Some (program_for i c)
unfolding program_at
vector_program i c there runs = rw (there, runs) refl

pub no_vector_program : (i : VInstr) (c : Core) → next c ≡ Perform (Vector i) → is_engine i ≡ false → program_at c ≡ None
unfolding program_at
no_vector_program i c there runs = rw (there, runs) refl

-- an empty program can run on any chain
pub none_in_range : (columns : ℕ) (ops : List MicroOp) → ops ≡ [] → AllInRange columns ops
none_in_range columns ops empty = rw empty (AllInRange-none columns)
