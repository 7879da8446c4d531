-- The class of instructions whose elements are half as wide as those of their first operand. Each element is computed as wide
-- as that one, for the halves of a register of the destination one after the other, and its low half is taken.
use Rattle.std.specs.Prelude.{◌≡◌, ◌≢◌, ℕ, zero, suc, ◌+◌, ◌*◌, ◌/◌, ◌<◌, ◌≤◌, Bool, true, false, cond, ◌&&◌, ◌⊎◌, List, [], ◌∷◌, ◌++◌}
use Rattle.bit_laws.specs.Numbers.{number, low}
use Rattle.bit_rows.specs.Slices.{Slices}
use Rattle.cam_chain.specs.Views.{registers_of}
use Rattle.element_ops.specs.Elements.{Registers, element_in, element_of, mask_bit_of}
use Rattle.element_ops.specs.Places.{is_active}
use Rattle.fold_laws.specs.Folds.{any}
use Rattle.gen_shift.specs.Rows.{is_among}
use Rattle.micro_ir.specs.Pieces.{commit}
use Rattle.micro_ir.specs.Replay.{replay, clips, all_keep_control}
use Rattle.micro_ir.specs.Steps.{element, micros}
use Rattle.micro_ir.specs.WorkRows.{scalar_row, truth_row}
use Rattle.micro_ir.specs.declared.op.MicroOp.{MicroOp}
use Rattle.micro_ir.specs.declared.op.MicroOp.TheVariants.{Narrow}
use Rattle.row_views.specs.Clips.{clip_test}
use Rattle.frame_laws.specs.Shapes.{Shape, Bounds, Bounded}
use Rattle.frame_laws.specs.Programs.{program}
use Rattle.frame_laws.specs.Meaning.{place_in, after}
use Rattle.frame_laws.specs.Laws.{Framed, Holds}
use Rattle.frame_laws.specs.Bytes.{size_of, registers_after}
use Rattle.frame_laws.specs.Classes.Operands.{Operand, group, scalar, narrow, operand_number, operand_of, row_of, laid_out, is_laid_out_in, IsUnwritten}
use Rattle.frame_laws.specs.declared.rows.TheConstants.{HALVES_ROW}

-- the halves of a register's elements, before these are committed
abbrev pub halves_row : ℕ
halves_row = HALVES_ROW

-- the shape at the width of the first operand
abbrev pub doubled : Shape → Shape
doubled i = record i { width = 2 * i.width }

-- the operands: the group from register a on, whose elements are twice as wide, and b
pub record Pair : Type 0 where
  pub a : ℕ
  pub b : Operand

-- A list for each register of the first operand, and the row where it leaves what it computes; whether it tells which results
-- are clipped, and the row where it leaves that.
pub record Lists : Type 0 where
  pub row : ℕ
  pub body : ℕ → List MicroOp
  pub clips : Bool
  pub flag : ℕ

-- the low halves of what tells which results are clipped, where the list does
abbrev pub narrowed_flags : Lists → (wide part : ℕ) → List MicroOp
narrowed_flags lists wide part = cond lists.clips (Narrow lists.flag truth_row wide part ∷ []) []

-- the operations on half h of register g, which is register 2g + h of the first operand
abbrev pub half_list : (w : ℕ) → Pair → Lists → (g h : ℕ) → List MicroOp
half_list w with lists g h =
    laid_out with.b (2 * w) (2 * g + h) ++ (lists.body (2 * g + h) ++ Narrow lists.row halves_row (2 * w) h ∷ narrowed_flags lists (2 * w) h)

-- those on the first halves
unfoldable pub halves_list : (w : ℕ) → Pair → Lists → (g count : ℕ) → List MicroOp
halves_list w with lists g zero = []
halves_list w with lists g (suc h) = halves_list w with lists g h ++ half_list w with lists g h

-- what sets the flag of a register's results that are clipped, where the list tells these
abbrev pub flag_test : (w : ℕ) → Lists → List MicroOp
flag_test w lists = cond lists.clips (clip_test w truth_row) []

-- the list of register g of the destination, of which so many halves hold elements
abbrev pub halved_list : Shape → Pair → Lists → (count g : ℕ) → List MicroOp
halved_list i with lists count g =
    halves_list i.width with lists g count ++ (flag_test i.width lists ++ micros i.width (commit i.width halves_row (i.vd + g)))

-- the value of an element, from the operands' numbers
abbrev pub HalfValue : Type 0
HalfValue = (a b : ℕ) → ℕ

-- the result of an element, from registers that are bits
abbrev pub half_result : (vlen w x : ℕ) → Pair → HalfValue → Registers → ℕ → Bool → ℕ
half_result vlen w x with value v e m = value (element_in vlen v with.a (2 * w) e) (operand_number with.b vlen (2 * w) x v e)

-- and from registers that are lists of bytes
abbrev pub half_value : Shape → Pair → HalfValue → List (List ℕ) → ℕ → ℕ
half_value i with value v e = value (element_of (size_of i) v with.a (2 * i.width) e) (operand_of with.b (size_of i) (2 * i.width) i.scalar v e)

-- the second operand can be read: it is the scalar, or a group whose elements are as wide as those of the destination
abbrev pub IsHalfReadable : Shape → Operand → Type 0
IsHalfReadable i (group r) = ⊥
IsHalfReadable i scalar = (i.splat ≡ true) × (i.scalar_width ≡ 2 * i.width)
IsHalfReadable i (narrow signed by n r row) = (by ≡ 2) × (n ≡ i.width) × (scalar_row < row) × ((g : ℕ) → g < i.registers → IsUnwritten i g (r + g))

-- What such an instruction needs, on slices of so many columns. Of each register so many halves hold elements.
pub record IsHalved (i : Shape) (with : Pair) (value : HalfValue) (count columns : ℕ) : Type 0 where
  pub framed : Framed i columns
  pub whole : 8 * (i.width / 8) ≡ i.width
  pub lanes : 32 / (2 * i.width) * (2 * i.width) ≡ 32
  pub result : (v : Registers) (e : ℕ) (m : Bool) → i.result v e m ≡ half_result i.vlen i.width i.scalar with value v e m
  pub some : 0 < count
  pub few : count ≤ 2
  pub halves : (count ≡ 2) ⊎ (i.len ≤ i.vlen / (2 * i.width))
  pub a : (g h : ℕ) → g < i.registers → h < count → IsUnwritten i g (with.a + (2 * g + h))
  pub b : IsHalfReadable i with.b
  -- laying b out leaves the halves that are done
  pub apart : is_laid_out_in halves_row with.b ≡ false

-- The low half of each element of the row gets that of the value of the rows' numbers, which have 2w bits. Each row that is
-- not one of `work` stays.
pub record LowLeft (w row : ℕ) (work : List ℕ) (value : (ℕ → ℕ) → ℕ) (e now : ℕ → ℕ → Bool) : Type 0 where
  pub made : number w (now row) ≡ low w (value (λ r. number (2 * w) (e r)))
  pub kept : (r j : ℕ) → is_among work r ≡ false → j < 2 * w → now r j ≡ e r j

unfoldable pub LeavesLow : (w row : ℕ) (work : List ℕ) (value : (ℕ → ℕ) → ℕ) → List MicroOp → Type 0
LeavesLow w row work value ops =
    (s : Slices) (k col : ℕ) → k * (2 * w) + 2 * w ≤ 32 → col < s.columns → LowLeft w row work value (element (2 * w) k col s) (element (2 * w) k col (replay ops s))

-- The list of each register of the first operand leaves the value in its row, from the rows of the operands, and keeps the
-- registers, the halves that are done and what the windows and the scalar wrote.
pub record AllLeave (i : Shape) (with : Pair) (value : HalfValue) (lists : Lists) (count : ℕ) : Type 0 where
  pub work : List ℕ
  pub spares : (r : ℕ) → r ≤ scalar_row → is_among work r ≡ false
  pub spares_halves : is_among work halves_row ≡ false
  pub leaves : (g h : ℕ) → g < i.registers → h < count
      → LeavesLow i.width lists.row work (λ n. value (n (with.a + (2 * g + h))) (n (row_of with.b (2 * g + h)))) (lists.body (2 * g + h))

-- The program of such an instruction leaves the registers of its meaning.
abbrev pub HalvedLaw : Type 0
HalvedLaw =
    (i : Shape) (b : Bounds) (with : Pair) (value : HalfValue) (lists : Lists) (count : ℕ) (v : Registers) (s : Slices)
    → IsHalved i with value count s.columns → Bounded i b → AllLeave i with value lists count → Holds i.vlen s v
    → Holds i.vlen (replay (program i b (halved_list i with lists count)) s) (after i v)

-- The same on lists of bytes, where elements are whole bytes.
abbrev pub HalvedBytesLaw : Type 0
HalvedBytesLaw =
    (i : Shape) (b : Bounds) (with : Pair) (value : HalfValue) (lists : Lists) (count : ℕ) (s : Slices)
    → IsHalved i with value count s.columns → Bounded i b → AllLeave i with value lists count → 0 < s.columns
    → registers_of (replay (program i b (halved_list i with lists count)) s) ≡ registers_after i (half_value i with value (registers_of s)) (registers_of s)

-- ---- clips

-- whether the result of an element is clipped, from the operands' numbers
abbrev pub HalfTest : Type 0
HalfTest = (a b : ℕ) → Bool

-- from registers that are bits, and from registers that are lists of bytes
abbrev pub half_clipped : (vlen w x : ℕ) → Pair → HalfTest → Registers → ℕ → Bool
half_clipped vlen w x with test v e = test (element_in vlen v with.a (2 * w) e) (operand_number with.b vlen (2 * w) x v e)

abbrev pub half_clip : Shape → Pair → HalfTest → List (List ℕ) → ℕ → Bool
half_clip i with test v e = test (element_of (size_of i) v with.a (2 * i.width) e) (operand_of with.b (size_of i) (2 * i.width) i.scalar v e)

-- the lowest bit of each element of the row, which has 2w bits, tells a truth of the rows' numbers
unfoldable pub LeavesFlag : (w row : ℕ) (truth : (ℕ → ℕ) → Bool) → List MicroOp → Type 0
LeavesFlag w row truth ops =
    (s : Slices) (k col : ℕ) → k * (2 * w) + 2 * w ≤ 32 → col < s.columns → element (2 * w) k col (replay ops s) row 0 ≡ truth (λ r. number (2 * w) (element (2 * w) k col s r))

-- The list of each register of the first operand tells which results are clipped. It keeps the control numbers, and works in
-- rows `work` that spare those of the halves before it.
pub record AllFlag (i : Shape) (with : Pair) (test : HalfTest) (lists : Lists) (count : ℕ) (work : List ℕ) : Type 0 where
  pub told : lists.clips ≡ true
  pub keeps : (q : ℕ) → all_keep_control (lists.body q) ≡ true
  pub spares_flags : is_among work truth_row ≡ false
  pub apart_flags : is_laid_out_in truth_row with.b ≡ false
  pub apart_halves : lists.flag ≢ halves_row
  pub flags : (g h : ℕ) → g < i.registers → h < count
      → LeavesFlag i.width lists.flag (λ n. test (n (with.a + (2 * g + h))) (n (row_of with.b (2 * g + h)))) (lists.body (2 * g + h))

-- The program of such an instruction sets the flag exactly where an active element is clipped, as the registers before it tell
-- as lists of bytes.
abbrev pub HalvedClipLaw : Type 0
HalvedClipLaw =
    (i : Shape) (b : Bounds) (with : Pair) (value : HalfValue) (test : HalfTest) (lists : Lists) (count : ℕ) (s : Slices)
    → IsHalved i with value count s.columns → Bounded i b → (leave : AllLeave i with value lists count) → AllFlag i with test lists count leave.work → 0 < s.columns
    → clips (program i b (halved_list i with lists count)) s
    ≡ any (i.registers * (i.vlen / i.width)) (λ e. is_active (place_in i (mask_bit_of (registers_of s) 0) e) && half_clip i with test (registers_of s) e)
