-- What the operations on the halves of a register leave.
use Rattle.std.proofs.Common.{◌≡◌, ◌≢◌, ℕ, zero, suc, ◌+◌, ◌-◌, ◌*◌, ◌/◌, ◌%◌, ◌^◌, ◌<◌, ◌≤◌, Bool, true, false, cond, eqb, leb, List, [], ◌∷◌, ◌++◌, refl, sym, ◌∙◌, ap, arith, ⊎_elim}
use Rattle.std.proofs.lemmas.Bool.{cases_lt, cases_Bool, eq-eqb, ne_eqb, lt-ltb, le-leb, leb-true}
use Rattle.std.proofs.lemmas.Nat.{div-mul-add, mod-mul-add}
use Rattle.std.proofs.Math.Nat.{mul-le-mul_right}
use Rattle.std.proofs.Math.Pow.{mod-mod-pow}
use Rattle.bit_laws.specs.Numbers.{number, low}
use Rattle.bit_laws.proofs.Numbers.{number-same, number-lt, number-cat}
use Rattle.bit_rows.specs.Slices.{Slices}
use Rattle.steer_net.specs.Moves.{rewritten, narrowed, in_part, per_row}
use Rattle.steer_net.specs.Network.{bit_in}
use Rattle.element_ops.specs.Elements.{element_in}
use Rattle.gen_shift.specs.Laws.{LeavesValue}
use Rattle.gen_shift.specs.Rows.{is_among}
use Rattle.micro_ir.specs.Replay.{replay}
use Rattle.micro_ir.specs.Steps.{element}
use Rattle.micro_ir.specs.WorkRows.{scalar_row, truth_row}
use Rattle.micro_ir.specs.declared.op.MicroOp.{MicroOp}
use Rattle.micro_ir.specs.declared.op.MicroOp.TheVariants.{Narrow}
use Rattle.micro_ir.proofs.Lists.{replay-append}
use Rattle.micro_ir.proofs.Lift.{replay-columns, element-inside}
use Rattle.frame_laws.specs.Shapes.{Shape}
use Rattle.frame_laws.specs.Realising.{Splatted}
use Rattle.frame_laws.specs.Classes.Operands.{Operand, group, scalar, narrow, operand_number, row_of, laid_out, is_laid_out_in}
use Rattle.frame_laws.specs.Classes.Halved.{halves_row, doubled, Pair, Lists, narrowed_flags, LeavesLow, half_list, halves_list, HalfValue, HalfTest, IsHalfReadable, IsHalved, AllLeave, LeavesFlag, AllFlag}
use Rattle.frame_laws.proofs.Elements.{rewritten-bit, in_column, in_element, bit_place}
use Rattle.frame_laws.proofs.Classes.Operands.{Agrees, operand-here}
use Rattle.frame_laws.proofs.Classes.Spreading.{IsPresent, laid, laid-bits}

-- ---- numbers and bits

-- the low half of a number
number-low : (n m : ℕ) (f : ℕ → Bool) → number n f ≡ low n (number (n + m) f)
number-low n m f = sym (ap (low n) (number-cat n m f) ∙ ap (low n) (swap (number n f) (number m (λ j. f (n + j)) * 2 ^ n)) ∙ mod-mul-add (number m (λ j. f (n + j))) (2 ^ n) (number n f) (number-lt n f))
  where
    swap : (a b : ℕ) → a + b ≡ b + a
    swap a b = omega arith

-- and of a number that is cut already
low-low : (n m z : ℕ) → low n (low (m + n) z) ≡ low n z
low-low n m z = mod-mod-pow z m n

-- a list that leaves a value of 2w bits leaves its low half
pub leaves-low : (w row : ℕ) (work : List ℕ) (value : (ℕ → ℕ) → ℕ) (ops : List MicroOp) → LeavesValue (2 * w) row work value ops → LeavesLow w row work value ops
unfolding LeavesValue LeavesLow
leaves-low w row work value ops leaves s k col fits inside =
    let x = leaves s k col fits inside in
    let now = element (2 * w) k col (replay ops s) row in
    let z = value (λ r. number (2 * w) (element (2 * w) k col s r)) in
    let twice : w + w ≡ 2 * w = omega arith in
    record {
      made = number-low w w now ∙ ap (λ (n : ℕ). low w (number n now)) twice ∙ ap (low w) x.made ∙ ap (λ (n : ℕ). low w (low n z)) (sym twice) ∙ low-low w w z;
      kept = x.kept;
    }

-- a row whose half is written, bit by bit
narrowed-bit : (w from to part : ℕ) (s : Slices) (r at : ℕ) → 0 < w → 32 / w * w ≡ 32 → at < 32 * s.columns
    → bit_in (narrowed from to (2 * w) part s) r at
    ≡ cond (eqb r to) (cond (in_part part (per_row (2 * w) s) (at / w)) (bit_in s from ((at / w - part * per_row (2 * w) s) * (2 * w) + at % w)) (bit_in s to (at / w * w + at % w))) (bit_in s r at)
narrowed-bit w from to part s r at pos lanes inside =
    let per = per_row (2 * w) s in
    let half : 2 * w / 2 ≡ w = halve w in
    ap (λ (u : ℕ). bit_in (rewritten to u (λ e j. cond (in_part part per e) (bit_in s from ((e - part * per) * (2 * w) + j)) (bit_in s to (e * u + j))) s) r at) half
    ∙ rewritten-bit w to (λ e j. cond (in_part part per e) (bit_in s from ((e - part * per) * (2 * w) + j)) (bit_in s to (e * w + j))) s r at pos lanes inside
  where
    halve : (w : ℕ) → 2 * w / 2 ≡ w
    halve w = omega arith

not-leb : (a b : ℕ) → b < a → leb a b ≡ false
not-leb a b l = ⊎_elim (λ (y : leb a b ≡ true). absurd (omega (arith, leb-true a b y))) (λ (f : leb a b ≡ false). f) (cases_Bool (leb a b))

-- a bit of the part that is written, and one of a part before it
narrowed-here : (w from to part p j per : ℕ) (s : Slices) → 0 < w → 32 / w * w ≡ 32 → per_row (2 * w) s ≡ per → p < per → j < w → (part * per + p) * w + j < 32 * s.columns
    → bit_in (narrowed from to (2 * w) part s) to ((part * per + p) * w + j) ≡ bit_in s from (p * (2 * w) + j)
narrowed-here w from to part p j per s pos lanes same inside within place =
    let back : part * per + p - part * per ≡ p = omega arith in
    let next : part * per + p < (part + 1) * per = omega arith in
    narrowed-bit w from to part s to ((part * per + p) * w + j) pos lanes place
    ∙ rw (eq-eqb to to refl, same, div-mul-add (part * per + p) w j within, mod-mul-add (part * per + p) w j within, le-leb (part * per) (part * per + p) (omega arith), lt-ltb (part * per + p) ((part + 1) * per) next, back) refl

narrowed-before : (w from to part t p j per : ℕ) (s : Slices) → 0 < w → 32 / w * w ≡ 32 → per_row (2 * w) s ≡ per → t < part → p < per → j < w → (t * per + p) * w + j < 32 * s.columns
    → bit_in (narrowed from to (2 * w) part s) to ((t * per + p) * w + j) ≡ bit_in s to ((t * per + p) * w + j)
narrowed-before w from to part t p j per s pos lanes same before inside within place =
    let m : suc t * per ≤ part * per = mul-le-mul_right per before in
    let less : t * per + p < part * per = omega arith in
    narrowed-bit w from to part s to ((t * per + p) * w + j) pos lanes place
    ∙ rw (eq-eqb to to refl, same, div-mul-add (t * per + p) w j within, mod-mul-add (t * per + p) w j within, not-leb (part * per) (t * per + p) less) refl

-- every other row stays
narrowed-else : (w from to part : ℕ) (s : Slices) (r at : ℕ) → 0 < w → 32 / w * w ≡ 32 → at < 32 * s.columns → r ≢ to → bit_in (narrowed from to (2 * w) part s) r at ≡ bit_in s r at
narrowed-else w from to part s r at pos lanes place other = narrowed-bit w from to part s r at pos lanes place ∙ rw (ne_eqb r to other) refl

-- ---- one register

-- the second operand is laid out for register q of the first one, which has half h of register g
half-present : (i : Shape) (op : Operand) (g h : ℕ) → 0 < i.width → 8 * (i.width / 8) ≡ i.width → g < i.registers → h < 2 → IsHalfReadable i op → IsPresent (doubled i) op (2 * g + h)
half-present i (group r) g h pos whole below first readable = absurd readable
half-present i scalar g h pos whole below first readable = readable
half-present i (narrow signed by n r row) g h pos whole below first readable =
    let two : by ≡ 2 = readable.0 in
    let same : n ≡ i.width = readable.1 in
    let wide : by * n ≡ 2 * i.width = λ z. two z * same z in
    let q : (2 * g + h) / 2 ≡ g = omega arith in
    let register : (2 * g + h) / by ≡ g = ap (λ (x : ℕ). (2 * g + h) / x) two ∙ q in
    let place : r + (2 * g + h) / by < 32 = rw register (readable.3 g below).0 in
    (record { times = omega arith; some = omega arith; wide = wide; whole = rw same whole; above = readable.2 }, place)

half-free : (i : Shape) (op : Operand) (r : ℕ) → IsHalfReadable i op → r ≤ scalar_row → is_laid_out_in r op ≡ false
half-free i (group x) r readable small = absurd readable
half-free i scalar r readable small = refl
half-free i (narrow signed by n x row) r readable small =
    let above : 34 < row = readable.2 in
    ne_eqb r row (omega arith)

module _ (i : Shape) (with : Pair) (value : HalfValue) (count columns g : ℕ) (lists : Lists) (halved : IsHalved i with value count columns) (leave : AllLeave i with value lists count) (below : g < i.registers) (start : Slices) (there : start.columns ≡ columns) (splatted : Splatted i start) where
  abbrev w : ℕ
  w = i.width

  abbrev d : ℕ
  d = 2 * i.width

  -- the wide elements of a register
  abbrev pub per : ℕ
  per = columns * (32 / (2 * i.width))

  -- the value of element p of register q of the first operand
  abbrev pub value_at : (q p : ℕ) → ℕ
  value_at q p = value (element_in i.vlen (bit_in start) with.a (2 * i.width) (q * (i.vlen / (2 * i.width)) + p)) (operand_number with.b i.vlen (2 * i.width) i.scalar (bit_in start) (q * (i.vlen / (2 * i.width)) + p))

  -- and whether it is clipped
  abbrev pub test_at : HalfTest → (q p : ℕ) → Bool
  test_at test q p = test (element_in i.vlen (bit_in start) with.a (2 * i.width) (q * (i.vlen / (2 * i.width)) + p)) (operand_number with.b i.vlen (2 * i.width) i.scalar (bit_in start) (q * (i.vlen / (2 * i.width)) + p))

  -- what the first halves leave: their values; the registers and the rows up to that of the scalar stay
  pub record Done (h : ℕ) (s : Slices) : Type 0 where
    pub columns_left : s.columns ≡ columns
    pub kept : (r at : ℕ) → r ≤ scalar_row → at < 32 * columns → bit_in s r at ≡ bit_in start r at
    pub made : (t p : ℕ) → t < h → p < per → number i.width (λ j. bit_in s halves_row ((t * per + p) * i.width + j)) ≡ low i.width (value_at (2 * g + t) p)

  pos : 0 < w
  pos = halved.framed.width

  wide-pos : 0 < d
  wide-pos = let p : 0 < i.width = halved.framed.width in omega arith

  -- both halves fill the register
  pub room : 2 * per * i.width ≡ 32 * columns
  room = let e : columns * (32 / (2 * i.width) * (2 * i.width)) ≡ columns * 32 = ap (λ x. columns * x) halved.lanes in omega arith

  -- a half that is done has its bits there
  place-inside : (t p j : ℕ) → t < 2 → p < per → j < w → (t * per + p) * w + j < 32 * columns
  place-inside t p j first inside within =
      let m1 : suc (t * per + p) ≤ 2 * per = let m : suc t * per ≤ 2 * per = mul-le-mul_right per first in omega arith in
      let m2 : suc (t * per + p) * w ≤ 2 * per * w = mul-le-mul_right w m1 in
      let all = room in
      omega arith

  module _ (h : ℕ) (first : h < count) (s : Slices) (done : Done h s) where
    abbrev q : ℕ
    q = 2 * g + h

    abbrev laid_state : Slices
    laid_state = replay (laid_out with.b (2 * i.width) (2 * g + h)) s

    abbrev listed_state : Slices
    listed_state = replay (lists.body (2 * g + h)) laid_state

    abbrev done_state : Slices
    done_state = narrowed lists.row halves_row (2 * i.width) h listed_state

    small : h < 2
    small = let few : count ≤ 2 = halved.few in omega arith

    laid-columns : laid_state.columns ≡ columns
    laid-columns = replay-columns (laid_out with.b (2 * i.width) (2 * g + h)) s ∙ done.columns_left

    listed-columns : listed_state.columns ≡ columns
    listed-columns = replay-columns (lists.body (2 * g + h)) laid_state ∙ laid-columns

    present : IsPresent (doubled i) with.b (2 * g + h)
    present = half-present i with.b g h pos halved.whole below small halved.b

    agrees : Agrees (doubled i) s (bit_in start)
    agrees r at register inside = let l : at < 32 * columns = rw (sym halved.framed.vlen) inside in done.kept r at (omega arith) l

    still-splatted : Splatted (doubled i) s
    still-splatted is at inside =
        let l : at < 32 * columns = rw (sym done.columns_left) inside in
        let l0 : at < 32 * start.columns = rw there l in
        done.kept scalar_row at (omega arith) l ∙ splatted is at l0

    -- a row that is spared by laying the operand out, and by the list
    laid-kept : (r at : ℕ) → is_laid_out_in r with.b ≡ false → at < 32 * columns → bit_in laid_state r at ≡ bit_in s r at
    laid-kept r at free inside = let l : at < 32 * s.columns = rw done.columns_left inside in laid-bits (doubled i) with.b (2 * g + h) s r at wide-pos halved.lanes l present free

    listed-kept : (r at : ℕ) → is_among leave.work r ≡ false → at < 32 * columns → bit_in listed_state r at ≡ bit_in laid_state r at
    unfolding LeavesLow
    listed-kept r at free inside =
        let l1 : at < 32 * laid_state.columns = rw laid-columns inside in
        let l2 : at < 32 * listed_state.columns = rw listed-columns inside in
        let before = in_element (2 * i.width) (32 / (2 * i.width)) laid_state r at wide-pos halved.lanes l1 in
        let now = in_element (2 * i.width) (32 / (2 * i.width)) listed_state r at wide-pos halved.lanes l2 in
        now.bit ∙ (leave.leaves g h below first laid_state (at % 32 / (2 * i.width)) (at / 32) before.fits before.inside).kept r (at % 32 % (2 * i.width)) free before.below ∙ sym before.bit

    -- the operands stand in their rows when the list begins
    pub record Operands (k col : ℕ) : Type 0 where
      pub a : number (2 * i.width) (element (2 * i.width) k col laid_state (with.a + (2 * g + h))) ≡ element_in i.vlen (bit_in start) with.a (2 * i.width) ((2 * g + h) * (i.vlen / (2 * i.width)) + (col * (32 / (2 * i.width)) + k))
      pub b : number (2 * i.width) (element (2 * i.width) k col laid_state (row_of with.b (2 * g + h))) ≡ operand_number with.b i.vlen (2 * i.width) i.scalar (bit_in start) ((2 * g + h) * (i.vlen / (2 * i.width)) + (col * (32 / (2 * i.width)) + k))

    pub operands : (k col : ℕ) → k * (2 * i.width) + 2 * i.width ≤ 32 → col < columns → Operands k col
    operands k col fits inside =
        let l0 : col < s.columns = rw done.columns_left inside in
        let long : i.vlen ≡ 32 * s.columns = rw done.columns_left halved.framed.vlen in
        let lay = laid (doubled i) with.b (2 * g + h) k col s (bit_in start) wide-pos halved.lanes long fits l0 agrees still-splatted present in
        let register : with.a + (2 * g + h) < 32 = (halved.a g h below first).0 in
        record {
          a = number-same (2 * i.width) _ _ (λ j l. lay.kept (with.a + (2 * g + h)) j (half-free i with.b (with.a + (2 * g + h)) halved.b (omega arith)) l)
              ∙ operand-here (group with.a) (doubled i) (2 * g + h) k col s (bit_in start) wide-pos halved.lanes long fits l0 register agrees still-splatted;
          b = lay.made;
        }

    -- what the list leaves in its row
    listed-made : (k col : ℕ) → k * (2 * i.width) + 2 * i.width ≤ 32 → col < columns
        → number i.width (element (2 * i.width) k col listed_state lists.row) ≡ low i.width (value_at (2 * g + h) (col * (32 / (2 * i.width)) + k))
    unfolding LeavesLow
    listed-made k col fits inside =
        let l1 : col < laid_state.columns = rw laid-columns inside in
        let x = operands k col fits inside in
        (leave.leaves g h below first laid_state k col fits l1).made ∙ rw (x.a, x.b) refl

    -- the wide elements of a register, in the state after the list
    same-row : per_row (2 * i.width) listed_state ≡ per
    same-row = ap (λ (x : ℕ). x * (32 / (2 * i.width))) listed-columns

    -- the bits of the half that is computed, and of those before it
    here-bit : (p j : ℕ) → p < per → j < w → bit_in done_state halves_row ((h * per + p) * w + j) ≡ bit_in listed_state lists.row (p * d + j)
    here-bit p j inside within =
        let place : (h * per + p) * w + j < 32 * listed_state.columns = rw listed-columns (place-inside h p j small inside within) in
        narrowed-here w lists.row halves_row h p j per listed_state pos halved.framed.lanes same-row inside within place

    old-bit : (t p j : ℕ) → t < h → p < per → j < w → bit_in done_state halves_row ((t * per + p) * w + j) ≡ bit_in listed_state halves_row ((t * per + p) * w + j)
    old-bit t p j before inside within =
        let place : (t * per + p) * w + j < 32 * listed_state.columns = rw listed-columns (place-inside t p j (let l = small in omega arith) inside within) in
        narrowed-before w lists.row halves_row h t p j per listed_state pos halved.framed.lanes same-row before inside within place

    kept-rows : (r at : ℕ) → r ≤ scalar_row → at < 32 * columns → bit_in done_state r at ≡ bit_in start r at
    kept-rows r at low_row inside =
        let place : at < 32 * listed_state.columns = rw listed-columns inside in
        narrowed-else w lists.row halves_row h listed_state r at pos halved.framed.lanes place (omega arith)
        ∙ listed-kept r at (leave.spares r low_row) inside
        ∙ laid-kept r at (half-free i with.b r halved.b low_row) inside ∙ done.kept r at low_row inside

    here-made : (p : ℕ) → p < per → number i.width (λ j. bit_in done_state halves_row ((h * per + p) * i.width + j)) ≡ low i.width (value_at (2 * g + h) p)
    here-made p inside =
        let at = in_column (2 * i.width) (32 / (2 * i.width)) columns p wide-pos halved.lanes inside in
        let l2 : at.col < listed_state.columns = rw listed-columns at.inside in
        let bit : (j : ℕ) → j < i.width → bit_in done_state halves_row ((h * per + p) * i.width + j) ≡ element (2 * i.width) at.k at.col listed_state lists.row j =
        λ j within.
        let fit : at.k * (2 * i.width) + j < 32 = let f = at.fits in omega arith in
        let short : j < 2 * i.width = omega arith in
        here-bit p j inside within ∙ ap (bit_in listed_state lists.row) (at.bits j) ∙ bit_place listed_state lists.row at.col (at.k * (2 * i.width) + j) fit
        ∙ sym (element-inside (2 * i.width) at.k at.col listed_state lists.row j short) in
        number-same i.width _ _ bit
        ∙ listed-made at.k at.col at.fits at.inside
        ∙ ap (λ (x : ℕ). low i.width (value_at (2 * g + h) x)) at.number

    old-made : (t p : ℕ) → t < h → p < per → number i.width (λ j. bit_in done_state halves_row ((t * per + p) * i.width + j)) ≡ low i.width (value_at (2 * g + t) p)
    old-made t p before inside =
        number-same i.width _ _ (λ j within.
        let place = place-inside t p j (let l = small in omega arith) inside within in
        let at = (t * per + p) * i.width + j in
        old-bit t p j before inside within ∙ listed-kept halves_row at leave.spares_halves place ∙ laid-kept halves_row at halved.apart place)
        ∙ done.made t p before inside

    all_made : (t p : ℕ) → t < suc h → p < per → number i.width (λ j. bit_in done_state halves_row ((t * per + p) * i.width + j)) ≡ low i.width (value_at (2 * g + t) p)
    all_made t p before inside =
        ⊎_elim
        (λ (l : t < h). old-made t p l inside)
        (λ (l : h ≤ t). let e : t ≡ h = omega arith in rw e (here-made p inside))
        (cases_lt t h)

    -- the flags are narrowed into another row
    flagged-bit : (r at : ℕ) → r ≢ truth_row → at < 32 * columns → bit_in (replay (narrowed_flags lists (2 * i.width) h) done_state) r at ≡ bit_in done_state r at
    unfolding replay
    flagged-bit r at other inside =
        let place : at < 32 * done_state.columns = rw listed-columns inside in
        elim lists.clips as (λ x. bit_in (replay (cond x (Narrow lists.flag truth_row (2 * i.width) h ∷ []) []) done_state) r at ≡ bit_in done_state r at) [
          | true ↦ narrowed-else w lists.flag truth_row h done_state r at pos halved.framed.lanes place other
          | false ↦ refl
        ]

    flagged-columns : (replay (narrowed_flags lists (2 * i.width) h) done_state).columns ≡ columns
    flagged-columns = replay-columns (narrowed_flags lists (2 * i.width) h) done_state ∙ listed-columns

    -- the state after the operations on the half
    pub half-state : replay (half_list i.width with lists g h) s ≡ replay (narrowed_flags lists (2 * i.width) h) done_state
    unfolding replay
    half-state =
        replay-append (laid_out with.b (2 * i.width) (2 * g + h)) (lists.body (2 * g + h) ++ Narrow lists.row halves_row (2 * i.width) h ∷ narrowed_flags lists (2 * i.width) h) s
        ∙ replay-append (lists.body (2 * g + h)) (Narrow lists.row halves_row (2 * i.width) h ∷ narrowed_flags lists (2 * i.width) h) laid_state

    next-done : Done (suc h) (replay (half_list i.width with lists g h) s)
    next-done =
        rw half-state (record {
          columns_left = flagged-columns;
          kept = λ r at small inside. flagged-bit r at (omega arith) inside ∙ kept-rows r at small inside;
          made = λ t p before inside.
              number-same i.width _ _ (λ j within. flagged-bit halves_row ((t * per + p) * i.width + j) (omega arith) (place-inside t p j (let l = small in omega arith) inside within))
              ∙ all_made t p before inside;
        })

    -- the flags of the half that is computed, and of those before it
    flag-listed : (test : HalfTest) → AllFlag i with test lists count leave.work → (p : ℕ) → p < per → bit_in done_state lists.flag (p * (2 * i.width) + 0) ≡ test_at test (2 * g + h) p
    unfolding LeavesFlag
    flag-listed test flag p inside =
        let at = in_column (2 * i.width) (32 / (2 * i.width)) columns p wide-pos halved.lanes inside in
        let fit : at.k * (2 * i.width) + 0 < 32 = let f = at.fits in let some = wide-pos in omega arith in
        let place : p * (2 * i.width) + 0 < 32 * listed_state.columns = rw listed-columns (let a = at.inside in omega (arith, at.bits 0)) in
        let l1 : at.col < laid_state.columns = rw laid-columns at.inside in
        let x = operands at.k at.col at.fits at.inside in
        narrowed-else w lists.row halves_row h listed_state lists.flag (p * (2 * i.width) + 0) pos halved.framed.lanes place flag.apart_halves
        ∙ ap (bit_in listed_state lists.flag) (at.bits 0)
        ∙ bit_place listed_state lists.flag at.col (at.k * (2 * i.width) + 0) fit
        ∙ sym (element-inside (2 * i.width) at.k at.col listed_state lists.flag 0 wide-pos)
        ∙ flag.flags g h below first laid_state at.k at.col at.fits l1
        ∙ rw (x.a, x.b) refl
        ∙ ap (test_at test (2 * g + h)) at.number

    flag-here : (test : HalfTest) → AllFlag i with test lists count leave.work → (p : ℕ) → p < per → bit_in (narrowed lists.flag truth_row (2 * i.width) h done_state) truth_row ((h * per + p) * i.width + 0) ≡ test_at test (2 * g + h) p
    flag-here test flag p inside =
        let place : (h * per + p) * w + 0 < 32 * done_state.columns = rw listed-columns (place-inside h p 0 small inside pos) in
        narrowed-here w lists.flag truth_row h p 0 per done_state pos halved.framed.lanes same-row inside pos place ∙ flag-listed test flag p inside

    flag-old : (test : HalfTest) → AllFlag i with test lists count leave.work → (t p : ℕ) → t < h → p < per
        → bit_in (narrowed lists.flag truth_row (2 * i.width) h done_state) truth_row ((t * per + p) * i.width + 0) ≡ bit_in s truth_row ((t * per + p) * i.width + 0)
    flag-old test flag t p before inside =
        let at = (t * per + p) * w + 0 in
        let inner : at < 32 * columns = place-inside t p 0 (let l = small in omega arith) inside pos in
        let place : at < 32 * done_state.columns = rw listed-columns inner in
        narrowed-before w lists.flag truth_row h t p 0 per done_state pos halved.framed.lanes same-row before inside pos place
        ∙ narrowed-else w lists.row halves_row h listed_state truth_row at pos halved.framed.lanes place (omega arith)
        ∙ listed-kept truth_row at flag.spares_flags inner ∙ laid-kept truth_row at flag.apart_flags inner

    pub flag-next : (test : HalfTest) → AllFlag i with test lists count leave.work → ((t p : ℕ) → t < h → p < per → bit_in s truth_row ((t * per + p) * i.width + 0) ≡ test_at test (2 * g + t) p)
        → (t p : ℕ) → t < suc h → p < per → bit_in (replay (half_list i.width with lists g h) s) truth_row ((t * per + p) * i.width + 0) ≡ test_at test (2 * g + t) p
    unfolding replay
    flag-next test flag before t p less inside =
        let at = (t * per + p) * i.width + 0 in
        ap (λ (z : Slices). bit_in z truth_row at) half-state
        ∙ ap (λ (x : Bool). bit_in (replay (cond x (Narrow lists.flag truth_row (2 * i.width) h ∷ []) []) done_state) truth_row at) flag.told
        ∙ ⊎_elim
        (λ (l : t < h). flag-old test flag t p l inside ∙ before t p l inside)
        (λ (l : h ≤ t). let e : t ≡ h = omega arith in rw e (flag-here test flag p inside))
        (cases_lt t h)

  -- all halves
  pub halves-done : (h : ℕ) → h ≤ count → Done h (replay (halves_list i.width with lists g h) start)
  unfolding halves_list replay
  halves-done zero most = record { columns_left = there; kept = λ r at small inside. refl; made = λ t p before inside. absurd (omega (arith, before)) }
  halves-done (suc h) most =
      rw (replay-append (halves_list i.width with lists g h) (half_list i.width with lists g h) start)
      (next-done h most (replay (halves_list i.width with lists g h) start) (halves-done h (omega arith)))

  -- the flags of all halves
  pub flags-done : (test : HalfTest) → AllFlag i with test lists count leave.work → (h : ℕ) → h ≤ count
      → (t p : ℕ) → t < h → p < per → bit_in (replay (halves_list i.width with lists g h) start) truth_row ((t * per + p) * i.width + 0) ≡ test_at test (2 * g + t) p
  unfolding halves_list
  flags-done test flag zero most t p less inside = absurd (omega (arith, less))
  flags-done test flag (suc h) most t p less inside =
      let s1 = replay (halves_list i.width with lists g h) start in
      ap (λ (z : Slices). bit_in z truth_row ((t * per + p) * i.width + 0)) (replay-append (halves_list i.width with lists g h) (half_list i.width with lists g h) start)
      ∙ flag-next h most s1 (halves-done h (omega arith)) test flag (flags-done test flag h (omega arith)) t p less inside
