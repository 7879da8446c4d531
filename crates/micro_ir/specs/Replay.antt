-- The effect of a list of micro-operations, and how many searches, updates and passes it makes.
use Rattle.std.specs.Prelude.{◌≡◌, ℕ, ◌+◌, ◌/◌, ◌<◌, ◌≤◌, Bool, true, false, ◌&&◌, ◌||◌, List, [], ◌∷◌}
use lib.Dec.{ltb}
use Rattle.bit_rows.specs.Slices.{Slices}
use Rattle.cam_chain.specs.Slices.{searched, updated, passed}
use Rattle.cam_chain.specs.ChainValue.{ChainValue, slices_of, no_counts}
use Rattle.cam_chain.specs.declared.counts.Counts.{Counts}
use Rattle.steer_net.specs.Network.{windowed, freed, packed, is_width, MaskReaches, PackReaches}
use Rattle.steer_net.specs.Moves.{widened, narrowed, slid, picked, indexed, marked_below, is_wide, GroupReaches}
use Rattle.reduce_tree.specs.Tags.{tags_in}
use Rattle.reduce_tree.specs.declared.weights.How.{How}
use Rattle.reduce_tree.specs.declared.weights.How.TheVariants.{Sum, Less, Or, Clear, Xor, Clip}
use Rattle.micro_ir.specs.ControlNumbers.{with_num, counted, first_found, updated_by}
use Rattle.micro_ir.specs.declared.control.Control.{Control}
use Rattle.micro_ir.specs.declared.op.MicroOp.{MicroOp}
use Rattle.micro_ir.specs.declared.op.MicroOp.TheVariants.{Search, Update, Pass, Window, Free, PackMask, UpdateBy, Spread, Narrow, Slide, Pick, Index, SetNum, Count, First, Below}

-- what one operation does
abbrev pub effect : MicroOp → Slices → Slices
effect (Search subs keys join) s = searched subs keys join s
effect (Update subs row bit) s = updated subs row bit s
effect (Pass up times) s = passed up times s
effect (Window row width first from to masked) s = windowed row width first from to masked s
effect (Free row width first from to masked tail off) s = freed row width first from to masked tail off s
effect (PackMask from under to width first) s = packed from under to width first s
effect (UpdateBy row width) s = updated_by row width s
effect (Spread from to narrow wide part) s = widened from to narrow wide part s
effect (Narrow from to wide part) s = narrowed from to wide part s
effect (Slide to base width first up by limit) s = slid to base width first up by limit s
effect (Pick to base width index limit) s = picked to base width index limit s
effect (Index to width first) s = indexed to width first s
effect (SetNum num) s = with_num num s
effect (Count subs bit how) s = counted subs bit how s
effect First s = first_found s
effect (Below to how) s = marked_below to how s

-- what a list of operations does, in its order
unfoldable pub replay : List MicroOp → Slices → Slices
replay [] s = s
replay (op ∷ ops) s = replay ops (effect op s)

-- whether a number of tags sets the clip flag
abbrev pub sets_clip : How → (tags : ℕ) → Bool
sets_clip Sum tags = false
sets_clip Less tags = false
sets_clip Or tags = false
sets_clip Clear tags = false
sets_clip Xor tags = false
sets_clip Clip tags = ltb 0 tags

-- whether an operation sets the clip flag: it looks for tags of elements whose result was clipped, and there is one
abbrev pub finds_clipped : MicroOp → Slices → Bool
finds_clipped (Search subs keys join) s = false
finds_clipped (Update subs row bit) s = false
finds_clipped (Pass up times) s = false
finds_clipped (Window row width first from to masked) s = false
finds_clipped (Free row width first from to masked tail off) s = false
finds_clipped (PackMask from under to width first) s = false
finds_clipped (UpdateBy row width) s = false
finds_clipped (Spread from to narrow wide part) s = false
finds_clipped (Narrow from to wide part) s = false
finds_clipped (Slide to base width first up by limit) s = false
finds_clipped (Pick to base width index limit) s = false
finds_clipped (Index to width first) s = false
finds_clipped (SetNum num) s = false
finds_clipped (Count subs bit how) s = sets_clip how (tags_in subs s)
finds_clipped First s = false
finds_clipped (Below to how) s = false

-- whether an operation of a list does, in its order; what it finds changes no slice
unfoldable pub clips : List MicroOp → Slices → Bool
clips [] s = false
clips (op ∷ ops) s = finds_clipped op s || clips ops (effect op s)

-- the state of a chain beside its control number
abbrev pub state_of : ChainValue → ℕ → Slices
state_of chain num = record (slices_of chain) { num = num }

-- whether an operation leaves the control numbers
abbrev pub keeps_control : MicroOp → Bool
keeps_control (Search subs keys join) = true
keeps_control (Update subs row bit) = true
keeps_control (Pass up times) = true
keeps_control (Window row width first from to masked) = true
keeps_control (Free row width first from to masked tail off) = true
keeps_control (PackMask from under to width first) = true
keeps_control (UpdateBy row width) = true
keeps_control (Spread from to narrow wide part) = true
keeps_control (Narrow from to wide part) = true
keeps_control (Slide to base width first up by limit) = true
keeps_control (Pick to base width index limit) = true
keeps_control (Index to width first) = true
keeps_control (SetNum num) = false
keeps_control (Count subs bit how) = false
keeps_control First = false
keeps_control (Below to how) = true

-- whether each operation of a list does
abbrev pub all_keep_control : List MicroOp → Bool
all_keep_control [] = true
all_keep_control (op ∷ ops) = keeps_control op && all_keep_control ops

-- the control numbers after a list
abbrev pub control_after : List MicroOp → Control → ChainValue → Control
control_after ops c chain = record { num = (replay ops (state_of chain c.num)).num; clip = c.clip || clips ops (state_of chain c.num) }

-- A chain of so many columns can run the operation: rows are below 64, widths are built, a pass moves tags by 1 to 31
-- subarrays, the bits of a mask that an operation reads or packs lie in its register, a part is one of its row, the registers
-- of a group that elements below the limit lie in are below 32, and a tag stands for one of the lowest 32 bits.
abbrev pub IsInRange : ℕ → MicroOp → Type 0
IsInRange columns (Search subs keys join) = Unit {0}
IsInRange columns (Update subs row bit) = row < 64
IsInRange columns (Pass up times) = (1 ≤ times) × (times ≤ 31)
IsInRange columns (Window row width first from to masked) =
    (row < 64) × (is_width width ≡ true) × (masked ≡ true → MaskReaches columns width first from to)
IsInRange columns (Free row width first from to masked tail off) =
    (row < 64) × (is_width width ≡ true) × (masked ≡ true → off ≡ true → MaskReaches columns width first from to)
IsInRange columns (PackMask from under to width first) =
    (from < 64) × (under < 64) × (to < 64) × (is_width width ≡ true) × PackReaches columns width first
IsInRange columns (UpdateBy row width) = (row < 64) × (is_width width ≡ true)
IsInRange columns (Spread from to narrow wide part) =
    (from < 64) × (to < 64) × (is_width narrow ≡ true) × (is_width wide ≡ true) × (narrow < wide) × (part < wide / narrow)
IsInRange columns (Narrow from to wide part) = (from < 64) × (to < 64) × (is_wide wide ≡ true) × (part ≤ 1)
IsInRange columns (Slide to base width first up by limit) = (to < 64) × (is_width width ≡ true) × GroupReaches columns base width limit
IsInRange columns (Pick to base width index limit) = (to < 64) × (is_width width ≡ true) × GroupReaches columns base width limit
IsInRange columns (Index to width first) = (to < 64) × (is_width width ≡ true)
IsInRange columns (SetNum num) = Unit {0}
IsInRange columns (Count subs bit how) = bit < 32
IsInRange columns First = Unit {0}
IsInRange columns (Below to how) = to < 64

-- a chain of so many columns can run each operation of the list
unfoldable pub AllInRange : ℕ → List MicroOp → Type 0
AllInRange columns [] = Unit {0}
AllInRange columns (op ∷ ops) = IsInRange columns op × AllInRange columns ops

-- the searches, updates and passes of one operation
abbrev pub counts_in : MicroOp → Counts
counts_in (Search subs keys join) = record { searches = 1; updates = 0; passes = 0 }
counts_in (Update subs row bit) = record { searches = 0; updates = 1; passes = 0 }
counts_in (Pass up times) = record { searches = 0; updates = 0; passes = times }
counts_in (Window row width first from to masked) = no_counts
counts_in (Free row width first from to masked tail off) = no_counts
counts_in (PackMask from under to width first) = no_counts
counts_in (UpdateBy row width) = record { searches = 0; updates = 1; passes = 0 }
counts_in (Spread from to narrow wide part) = no_counts
counts_in (Narrow from to wide part) = no_counts
counts_in (Slide to base width first up by limit) = no_counts
counts_in (Pick to base width index limit) = no_counts
counts_in (Index to width first) = no_counts
counts_in (SetNum num) = no_counts
counts_in (Count subs bit how) = no_counts
counts_in First = no_counts
counts_in (Below to how) = no_counts

-- two counts together
abbrev pub counts_and : Counts → Counts → Counts
counts_and a b = record { searches = a.searches + b.searches; updates = a.updates + b.updates; passes = a.passes + b.passes }

-- the searches, updates and passes of a list
unfoldable pub tally : List MicroOp → Counts
tally [] = no_counts
tally (op ∷ ops) = counts_and (counts_in op) (tally ops)
