-- When a program does what an instruction means, and what it costs.
use Rattle.std.specs.Prelude.{◌≡◌, ℕ, ◌/◌, length}
use Rattle.micro_ir.specs.Replay.{tally, AllInRange}
use Rattle.rvv_decode.specs.declared.instruction.VInstr.{VInstr}
use Rattle.vtype_cfg.specs.declared.configuration.Cfg.{Cfg}
use Rattle.frame_meaning.specs.Realising.{RealisesInstruction}
use Rattle.fold_exec.specs.declared.kinds.Kind.{Kind}
use Rattle.fold_exec.specs.Programs.{fold_program, fold_cost, fold_length}

-- The program of an instruction of a kind realises it, has the stated cost and length, and a chain can run it.
pub record Fine (kind : Kind) (i : VInstr) (c : Cfg) (x : ℕ) : Type 0 where
  pub realises : RealisesInstruction i c x (fold_program kind i c)
  pub cost : tally (fold_program kind i c) ≡ fold_cost kind i c
  pub count : length (fold_program kind i c) ≡ fold_length kind i c
  pub range : AllInRange (c.vlen / 32) (fold_program kind i c)
