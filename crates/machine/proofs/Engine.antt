-- What a replay of a whole program leaves in the slices and in the registers.
use Rattle.std.proofs.Common.{◌≡◌, ℕ, ◌*◌, false, List, Some, length, take, refl, ◌∙◌, ap}
use Rattle.std.proofs.Math.Seq.{take-length}
use Rattle.bit_laws.specs.Numbers.{low}
use Rattle.bit_rows.specs.Slices.{Slices}
use Rattle.cam_chain.specs.ChainValue.{ChainValue, slices_of}
use Rattle.cam_chain.specs.Views.{registers_of}
use Rattle.micro_ir.specs.declared.op.MicroOp.{MicroOp}
use Rattle.micro_ir.specs.declared.control.Control.{Control}
use Rattle.micro_ir.specs.Replay.{replay, clips, tally, counts_and, state_of, control_after}
use Rattle.rvv_decode.specs.declared.instruction.VInstr.{VInstr}
use Rattle.vtype_cfg.specs.declared.configuration.Cfg.{Cfg}
use Rattle.rvv_meaning.specs.Elementwise.{Elementwise, registers_after, clips as clips_elements}
use Rattle.rvv_meaning.specs.Vectors.{left_of}
use Rattle.rvv_meaning.specs.Whole.{Left, elements, number}
use Rattle.frame_meaning.specs.Realising.{Leaves, RealisesInstruction}
use Rattle.cam_chain.specs.declared.counts.Counts.{Counts}
use Rattle.machine.specs.Moments.{slices_by, counts_by}

state-zero : (v : ChainValue) → state_of v 0 ≡ slices_of v
unfolding slices_of
state-zero v = refl

-- the slices and the control numbers that a replay of a whole program leaves
pub replayed-slices : (old new : ChainValue) (ctl : Control) (ops read : List MicroOp) → read ≡ ops → state_of new ctl.num ≡ replay (take (length read) ops) (state_of old 0)
    → slices_of new ≡ slices_by (Some ops) (slices_of old)
unfolding slices_of
replayed-slices old new ctl ops read same is =
    let whole : take (length read) ops ≡ ops = rw same (take-length ops) in
    let left : state_of new ctl.num ≡ replay ops (state_of old 0) = is ∙ rw whole refl in
    ap (λ (s : Slices). record s { num = 0 }) left

pub replayed-control : (old : ChainValue) (ctl : Control) (ops read : List MicroOp) → read ≡ ops → ctl ≡ control_after (take (length read) ops) (record { num = 0; clip = false }) old
    → ctl ≡ record { num = (replay ops (record (slices_of old) { num = 0 })).num; clip = clips ops (record (slices_of old) { num = 0 }) }
replayed-control old ctl ops read same is =
    let whole : take (length read) ops ≡ ops = rw same (take-length ops) in
    is ∙ rw whole refl

pub replayed-counts : (old new : Counts) (ops read : List MicroOp) → read ≡ ops → new ≡ counts_and old (tally (take (length read) ops)) → new ≡ counts_by (Some ops) old
replayed-counts old new ops read same is =
    let whole : take (length read) ops ≡ ops = rw same (take-length ops) in
    is ∙ rw whole refl

columns-same : (old : ChainValue) (vlen : ℕ) → vlen ≡ 32 * old.columns → vlen ≡ 32 * (slices_of old).columns
unfolding slices_of
columns-same old vlen long = long

control-zero : (v : ChainValue) → (slices_of v).num ≡ 0
unfolding slices_of
control-zero v = refl

-- the registers do not depend on the control number
registers-same : (s : Slices) (num : ℕ) → registers_of (record s { num = num }) ≡ registers_of s
unfolding registers_of
registers-same s num = refl

-- what a list leaves that realises an instruction
module _ (old : ChainValue) (i : VInstr) (cfg : Cfg) (x : ℕ) (ops : List MicroOp) (realises : RealisesInstruction i cfg x ops) (long : cfg.vlen ≡ 32 * old.columns) where
  leaves : (l : Left) → left_of i cfg x (registers_of (slices_of old)) ≡ Some l
      → Leaves cfg (registers_of (slices_of old)) l (replay ops (slices_of old)) (clips ops (slices_of old))
  unfolding RealisesInstruction
  leaves l is = rw is at (realises (slices_of old) (control-zero old) (columns-same old cfg.vlen long))

  -- elements of registers
  module _ (e : Elementwise) (is : left_of i cfg x (registers_of (slices_of old)) ≡ Some (elements e)) where
    pub elements-registers : registers_of (slices_by (Some ops) (slices_of old)) ≡ registers_after cfg e (registers_of (slices_of old))
    unfolding slices_of
    elements-registers = registers-same (replay ops (slices_of old)) 0 ∙ (leaves (elements e) is).0

    pub elements-clip : clips ops (record (slices_of old) { num = 0 }) ≡ clips_elements cfg e (registers_of (slices_of old))
    unfolding slices_of
    elements-clip = (leaves (elements e) is).1

  -- a number
  module _ (n : ℕ) (is : left_of i cfg x (registers_of (slices_of old)) ≡ Some (number n)) where
    pub number-registers : registers_of (slices_by (Some ops) (slices_of old)) ≡ registers_of (slices_of old)
    unfolding slices_of
    number-registers = registers-same (replay ops (slices_of old)) 0 ∙ (leaves (number n) is).0

    pub number-is : low 32 (replay ops (record (slices_of old) { num = 0 })).num ≡ n
    unfolding slices_of
    number-is = (leaves (number n) is).1

    pub number-clip : clips ops (record (slices_of old) { num = 0 }) ≡ false
    unfolding slices_of
    number-clip = (leaves (number n) is).2
