-- The lists of shifts: a barrel shifter, whose stage j moves by 2^j places where bit j of the amount is 1.
use Rattle.std.specs.Prelude.{ℕ, zero, suc, ◌+◌, ◌-◌, ◌^◌, Bool, true, false, cond, not, ◌&&◌, eqb, List, [], ◌∷◌, ◌++◌}
use lib.Dec.{ltb, leb}
use Rattle.micro_ir.specs.Steps.{Step}
use Rattle.micro_ir.specs.WorkRows.{broadcast_row}
use Rattle.micro_ir.specs.declared.pieces.BitRange.{BitRange}
use Rattle.micro_ir.specs.Pieces.{everywhere, ranged, above, below, clear, commit, ups, downs, broadcast}
use Rattle.micro_ir.specs.Increments.{increment}
use Rattle.gen_shift.specs.declared.kinds.Shift.{Shift}
use Rattle.gen_shift.specs.declared.kinds.Shift.TheVariants.{Sll, Srl, Sra}
use Rattle.gen_shift.specs.Rows.{moved_row, sign_row, more_row, shift_role, last_role, is_odd, shifted_row, last_row, rounded_row}

-- bits move to higher places
abbrev pub goes_up : Shift → Bool
goes_up Sll = true
goes_up Srl = false
goes_up Sra = false

-- the sign comes in
abbrev pub fills : Shift → Bool
fills Sll = false
fills Srl = false
fills Sra = true

-- the bits x of an element of w bits, moved by n places
abbrev pub moved_bits : Shift → (sign : Bool) (w n : ℕ) (x : ℕ → Bool) → ℕ → Bool
moved_bits Sll sign w n x i = leb n i && x (i - n)
moved_bits Srl sign w n x i = cond (ltb (i + n) w) (x (i + n)) false
moved_bits Sra sign w n x i = cond (ltb (i + n) w) (x (i + n)) sign

-- the bits of an element that a move by h places keeps, and where they go
abbrev pub move_range : (up : Bool) (w h : ℕ) → BitRange
move_range true w h = record { from = 0; to = w - h; up = true; times = h }
move_range false w h = record { from = h; to = w; up = false; times = h }

-- a row moved by h places inside the element, into a clear row
abbrev pub slide : (w : ℕ) (up : Bool) (row out h : ℕ) → Step
slide w up row out h = ranged (row ∷ []) (1 ∷ []) out (move_range up w h)

-- the h highest bits of a row into the same bits of another
abbrev pub top_range : (w h : ℕ) → BitRange
top_range w h = record { from = w - h; to = w; up = true; times = 0 }

abbrev pub top_bits : (w row out h : ℕ) → Step
top_bits w row out h = ranged (row ∷ []) (1 ∷ []) out (top_range w h)

-- the sign into the highest bits of the moved row, where it comes in
abbrev pub filling : Shift → (w h : ℕ) → List Step
filling kind w h = cond (fills kind) (top_bits w sign_row moved_row h ∷ []) []

-- the moved bit where the amount's bit is 1, and else the former one
abbrev pub merging : (w : ℕ) (p : Bool) → Step
merging w p = everywhere w (broadcast_row ∷ moved_row ∷ shift_role p ∷ []) (3 ∷ 4 ∷ 6 ∷ 7 ∷ []) (shift_role (not p)) true

-- ---- what goes out

-- the bits below n of the shifted row, where the bit of the amount is 1: one of them is 1
unfoldable pub strays : (t n : ℕ) → List Step
strays t zero = []
strays t (suc n) = strays t n ++ below (broadcast_row ∷ t ∷ []) (3 ∷ []) more_row n n ∷ []

-- What goes out at a stage of h places. The former last bit is below the new one, and it stays the last one where the bit of the
-- amount is 0.
unfoldable pub outs : (w : ℕ) (p : Bool) (h : ℕ) → List Step
outs w p h =
    above (broadcast_row ∷ last_role p ∷ []) (3 ∷ []) more_row 0 0
    ∷ (strays (shift_role p) (h - 1)
    ++ clear w (last_role (not p))
    ∷ below (broadcast_row ∷ shift_role p ∷ []) (3 ∷ []) (last_role (not p)) (h - 1) (h - 1)
    ∷ above (broadcast_row ∷ last_role p ∷ []) (2 ∷ []) (last_role (not p)) 0 0
    ∷ [])

abbrev pub keeping : (keeps : Bool) (w : ℕ) (p : Bool) (h : ℕ) → List Step
keeping keeps w p h = cond keeps (outs w p h) []

-- nothing is out before the first stage
abbrev pub starting : (keeps : Bool) (w : ℕ) → List Step
starting keeps w = cond keeps (clear w more_row ∷ clear w (last_role false) ∷ []) []

-- ---- stages

-- a stage: by h places where bit j of row b is 1, from one role to the other
unfoldable pub stage : Shift → (keeps : Bool) (w b : ℕ) (p : Bool) (j h : ℕ) → List Step
stage kind keeps w b p j h =
    broadcast w b j
    ++ (clear w moved_row ∷ slide w (goes_up kind) (shift_role p) moved_row h
    ∷ (filling kind w h ++ (clear w (shift_role (not p)) ∷ (keeping keeps w p h ++ merging w p ∷ []))))

-- the first n stages
unfoldable pub stages : Shift → (keeps : Bool) (w b n : ℕ) → List Step
stages kind keeps w b zero = []
stages kind keeps w b (suc n) = stages kind keeps w b n ++ stage kind keeps w b (is_odd n) n (2 ^ n)

-- the highest bit of row a in each bit of the row of the sign
abbrev pub sign_steps : (w a : ℕ) → List Step
sign_steps w a = clear w sign_row ∷ above (a ∷ []) (1 ∷ []) sign_row (w - 1) 0 ∷ downs sign_row (w - 1)

abbrev pub signing : Shift → (w a : ℕ) → List Step
signing kind w a = cond (fills kind) (sign_steps w a) []

-- row a is moved by the low l bits of row b, and what goes out is kept or not
unfoldable pub shifting : Shift → (keeps : Bool) (w l a b : ℕ) → List Step
shifting kind keeps w l a b =
    starting keeps w
    ++ (signing kind w a ++ (clear w (shift_role false) ∷ everywhere w (a ∷ []) (1 ∷ []) (shift_role false) true ∷ stages kind keeps w b l))

-- and committed to the register `to`
unfoldable pub shift_steps : Shift → (w l a b to : ℕ) → List Step
shift_steps kind w l a b to = shifting kind false w l a b ++ commit w (shifted_row l) to

-- ---- rounding

-- the rows that tell a mode what it adds, and their values where that is 1: the quotient, the last bit out, and whether one below
-- it is 1
abbrev pub mode_rows : (mode quotient last more : ℕ) → List ℕ
mode_rows zero quotient last more = last ∷ []
mode_rows (suc zero) quotient last more = quotient ∷ last ∷ more ∷ []
mode_rows (suc (suc zero)) quotient last more = []
mode_rows (suc (suc (suc n))) quotient last more = quotient ∷ last ∷ more ∷ []

abbrev pub mode_on : (mode : ℕ) → List ℕ
mode_on zero = 1 ∷ []
mode_on (suc zero) = 3 ∷ 6 ∷ 7 ∷ []
mode_on (suc (suc zero)) = []
mode_on (suc (suc (suc n))) = 2 ∷ 4 ∷ 6 ∷ []

-- what the mode adds to the quotient, into the result row
abbrev pub mode_steps : (w mode quotient last more : ℕ) → List Step
mode_steps w mode quotient last more = increment w quotient (mode_rows mode quotient last more) (mode_on mode)

-- row a is moved to the right by the low l bits of row b, and rounded
abbrev pub rounding : Shift → (mode w l a b : ℕ) → List Step
rounding kind mode w l a b = cond (eqb mode 2) (shifting kind false w l a b) (shifting kind true w l a b ++ mode_steps w mode (shifted_row l) (last_row l) more_row)

-- and committed to the register `to`
unfoldable pub rounded_steps : Shift → (mode w l a b to : ℕ) → List Step
rounded_steps kind mode w l a b to = rounding kind mode w l a b ++ commit w (rounded_row mode l) to

-- bit v - 1 of a row into the bits above it
abbrev pub extension : (v w row : ℕ) → List Step
extension v w row = ups row (v - 1) (w - v)
