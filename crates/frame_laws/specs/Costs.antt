-- The searches, updates and passes of a program, its length, and that a chain can run it.
use Rattle.std.specs.Prelude.{◌≡◌, ℕ, ◌+◌, ◌*◌, ◌<◌, true, cond, zero, suc, List, length}
use Rattle.cam_chain.specs.declared.counts.Counts.{Counts}
use Rattle.cam_chain.specs.ChainValue.{no_counts}
use Rattle.steer_net.specs.Network.{is_width}
use Rattle.micro_ir.specs.declared.op.MicroOp.{MicroOp}
use Rattle.micro_ir.specs.Replay.{AllInRange, counts_and, tally}
use Rattle.frame_laws.specs.Shapes.{Shape, Bounds}
use Rattle.frame_laws.specs.Programs.{program}
use Rattle.frame_laws.specs.Laws.{Framed}

-- so many times the counts
abbrev pub counts_times : ℕ → Counts → Counts
counts_times n c = record { searches = n * c.searches; updates = n * c.updates; passes = n * c.passes }

-- a search and an update clear the scalar row, and two more write the scalar into it
abbrev pub splat_counts : Shape → Counts
splat_counts i = cond i.splat (record { searches = 2; updates = 2; passes = 0 }) no_counts

-- a search finds the agnostic elements, and an update fills them; the windows cost nothing
abbrev pub fill_counts : Shape → Counts
fill_counts i = cond i.ones (record { searches = 1; updates = 1; passes = 0 }) no_counts

-- the counts of the first registers, where the list of register g makes `each g`
unfoldable pub registers_counts : Shape → (each : ℕ → Counts) → ℕ → Counts
registers_counts i each zero = no_counts
registers_counts i each (suc g) = counts_and (registers_counts i each g) (counts_and (each g) (fill_counts i))

-- the counts of a program
abbrev pub TallyLaw : Type 0
TallyLaw =
    (i : Shape) (b : Bounds) (body : ℕ → List MicroOp)
    → tally (program i b body) ≡ counts_and (splat_counts i) (registers_counts i (λ g. tally (body g)) i.registers)

-- the counts of a program whose lists count alike
abbrev pub EvenTallyLaw : Type 0
EvenTallyLaw =
    (i : Shape) (b : Bounds) (body : ℕ → List MicroOp) (c : Counts)
    → ((g : ℕ) → g < i.registers → tally (body g) ≡ c)
    → tally (program i b body) ≡ counts_and (splat_counts i) (counts_times i.registers (counts_and c (fill_counts i)))

-- the operations of the windows and the fill of a register
abbrev pub frame_length : Shape → ℕ
frame_length i = 1 + cond i.reads 1 0 + cond i.ones 3 0

-- the length of a program whose lists are equally long
abbrev pub LengthLaw : Type 0
LengthLaw =
    (i : Shape) (b : Bounds) (body : ℕ → List MicroOp) (n : ℕ)
    → ((g : ℕ) → g < i.registers → length (body g) ≡ n)
    → length (program i b body) ≡ cond i.splat 4 0 + i.registers * (frame_length i + n)

-- a chain can run a program whose lists it can run
abbrev pub RangeLaw : Type 0
RangeLaw =
    (i : Shape) (b : Bounds) (body : ℕ → List MicroOp) (columns : ℕ)
    → Framed i columns → is_width i.width ≡ true → ((g : ℕ) → g < i.registers → AllInRange columns (body g))
    → AllInRange columns (program i b body)
