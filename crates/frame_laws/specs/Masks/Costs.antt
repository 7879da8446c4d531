-- The searches, updates and passes of a program that makes a mask, its length, and that a chain can run it.
use Rattle.std.specs.Prelude.{◌≡◌, ℕ, ◌+◌, ◌*◌, ◌<◌, true, cond, List, length}
use Rattle.cam_chain.specs.declared.counts.Counts.{Counts}
use Rattle.steer_net.specs.Network.{is_width}
use Rattle.micro_ir.specs.declared.op.MicroOp.{MicroOp}
use Rattle.micro_ir.specs.Replay.{AllInRange, counts_and, tally}
use Rattle.frame_laws.specs.Shapes.{Shape, Bounds}
use Rattle.frame_laws.specs.Costs.{counts_times, splat_counts, fill_counts}
use Rattle.frame_laws.specs.Masks.Programs.{mask_program}
use Rattle.frame_laws.specs.Masks.Laws.{MaskFramed}

-- The counts of a program whose lists count alike. The windows and the packing of the mask cost nothing, and the agnostic bits
-- are filled once.
abbrev pub MaskTallyLaw : Type 0
MaskTallyLaw =
    (i : Shape) (b : Bounds) (body : ℕ → List MicroOp) (c : Counts)
    → ((g : ℕ) → g < i.registers → tally (body g) ≡ c)
    → tally (mask_program i b body) ≡ counts_and (splat_counts i) (counts_and (counts_times i.registers c) (fill_counts i))

-- the operations of a register beside its list: its windows and the packing of the mask
abbrev pub mask_length : Shape → ℕ
mask_length i = 2 + cond i.reads 1 0

-- the length of a program whose lists are equally long
abbrev pub MaskLengthLaw : Type 0
MaskLengthLaw =
    (i : Shape) (b : Bounds) (body : ℕ → List MicroOp) (n : ℕ)
    → 0 < i.registers → ((g : ℕ) → g < i.registers → length (body g) ≡ n)
    → length (mask_program i b body) ≡ cond i.splat 4 0 + (i.registers * (mask_length i + n) + cond i.ones 3 0)

-- a chain can run a program whose lists it can run
abbrev pub MaskRangeLaw : Type 0
MaskRangeLaw =
    (i : Shape) (b : Bounds) (body : ℕ → List MicroOp) (columns : ℕ)
    → MaskFramed i columns → is_width i.width ≡ true → ((g : ℕ) → g < i.registers → AllInRange columns (body g))
    → AllInRange columns (mask_program i b body)
