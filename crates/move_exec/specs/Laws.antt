-- When a program does what an instruction means, and what it costs.
use Rattle.std.specs.Prelude.{◌≡◌, ℕ, ◌/◌, List, length}
use Rattle.cam_chain.specs.declared.counts.Counts.{Counts}
use Rattle.micro_ir.specs.declared.op.MicroOp.{MicroOp}
use Rattle.micro_ir.specs.Replay.{tally, AllInRange}
use Rattle.rvv_decode.specs.declared.instruction.VInstr.{VInstr}
use Rattle.vtype_cfg.specs.declared.configuration.Cfg.{Cfg}
use Rattle.frame_meaning.specs.Realising.{RealisesInstruction}

-- the program of an instruction: it realises it, makes so many searches, updates and passes, has so many operations, and a chain
-- can run it
pub record Fine (i : VInstr) (c : Cfg) (x : ℕ) (all : Counts) (long : ℕ) (ops : List MicroOp) : Type 0 where
  pub realises : RealisesInstruction i c x ops
  pub cost : tally ops ≡ all
  pub count : length ops ≡ long
  pub range : AllInRange (c.vlen / 32) ops
