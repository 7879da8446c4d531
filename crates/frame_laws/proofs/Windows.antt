-- The windows and the fill of a register, on its elements.
use Rattle.std.proofs.Common.{◌≡◌, ◌≢◌, ℕ, ◌+◌, ◌*◌, ◌/◌, ◌<◌, ◌≤◌, Bool, true, false, cond, ◌&&◌, ◌||◌, not, eqb, ltb, leb, [], ◌∷◌, refl, sym, ◌∙◌, ap, arith, ⊎_elim}
use Rattle.std.proofs.lemmas.Bool.{cases_eq, eq-eqb, ne_eqb, and_parts}
use Rattle.bit_rows.specs.Slices.{Slices}
use Rattle.steer_net.specs.Network.{bit_in, numbered, is_within, is_free}
use Rattle.micro_ir.specs.declared.op.MicroOp.TheVariants.{Window, Free}
use Rattle.micro_ir.specs.Replay.{effect, replay}
use Rattle.micro_ir.specs.Steps.{element, fires, steps_on, micros}
use Rattle.micro_ir.proofs.Lift.{replay-columns, micros-element}
use Rattle.micro_ir.specs.WorkRows.{active_row, mask_row, scalar_row, free_row}
use Rattle.micro_ir.specs.Pieces.{fill_step}
use Rattle.frame_laws.specs.Shapes.{Shape, Bounds, first_of, element_number}
use Rattle.frame_laws.specs.Programs.{active_window, mask_window, fill}
use Rattle.frame_laws.specs.Realising.{Windowed}
use Rattle.frame_laws.proofs.Elements.{numbered-element}
use Rattle.micro_ir.proofs.OneElement.{step-row, everywhere-here, everywhere-fits}

-- ---- small facts of tests

pub none : (b x y : Bool) → cond (b && false) x y ≡ y
none true x y = refl
none false x y = refl

pub either : (a b : Bool) → b ≡ true → (a || b) ≡ true
either true b h = refl
either false b h = h

pub free_same : (from until : ℕ) (masked tail vma : Bool) (f g : ℕ → Bool) (e : ℕ) → (masked ≡ true → f e ≡ g e)
    → is_free from until masked tail (masked && vma) f e ≡ is_free from until masked tail (masked && vma) g e
free_same from until true tail vma f g e h = rw (h refl) refl
free_same from until false tail vma f g e h = refl

pub within_same : (from len : ℕ) (masked : Bool) (f g : ℕ → Bool) (e : ℕ) → (masked ≡ true → f e ≡ g e) → is_within from len masked f e ≡ is_within from len masked g e
within_same from len true f g e h = rw (h refl) refl
within_same from len false f g e h = refl

-- an element in a window has the mask bit that the window of mask bits gives it
pub within_true : (from len : ℕ) (masked : Bool) (mask : ℕ → Bool) (e : ℕ) → is_within from len masked mask e ≡ true → is_within from len true mask e ≡ mask e
within_true from len masked mask e h = rw (and_parts (leb from e && ltb e len) (not masked || mask e) h).0 refl

-- ---- the windows

-- the window of mask bits writes its row, where there is one
mask_window-element : (i : Shape) (b : Bounds) (g k col : ℕ) (s : Slices) → k * i.width + i.width ≤ 32 → col < s.columns → (r j : ℕ) → j < i.width
    → element i.width k col (replay (mask_window i b g) s) r j
    ≡ cond (i.reads && eqb r mask_row) (is_within b.from i.len true (bit_in s 0) (element_number i g k col)) (element i.width k col s r j)
unfolding replay
mask_window-element i b g k col s fits inside r j below =
    elim i.reads as (λ x. element i.width k col (replay (cond x (Window mask_row i.width (first_of i g) b.from i.len true ∷ []) []) s) r j
    ≡ cond (x && eqb r mask_row) (is_within b.from i.len true (bit_in s 0) (element_number i g k col)) (element i.width k col s r j)) [
      | true ↦ numbered-element i.width k col mask_row (first_of i g) (is_within b.from i.len true (bit_in s 0)) s fits inside r j below
      | false ↦ refl
    ]

-- the slices after the windows of register g
unfoldable pub with_windows : Shape → Bounds → (g : ℕ) → Slices → Slices
with_windows i b g s = replay (mask_window i b g) (effect (active_window i b g) s)

pub windows-columns : (i : Shape) (b : Bounds) (g : ℕ) (s : Slices) → (with_windows i b g s).columns ≡ s.columns
unfolding with_windows
windows-columns i b g s = replay-columns (mask_window i b g) (effect (active_window i b g) s)

pub windows-active : (i : Shape) (b : Bounds) (g k col : ℕ) (s : Slices) → k * i.width + i.width ≤ 32 → col < s.columns → (j : ℕ) → j < i.width
    → element i.width k col (with_windows i b g s) active_row j ≡ is_within b.from i.len i.masked (bit_in s 0) (element_number i g k col)
unfolding with_windows
windows-active i b g k col s fits inside j below =
    let s1 = effect (active_window i b g) s in
    mask_window-element i b g k col s1 fits inside active_row j below
    ∙ none i.reads _ (element i.width k col s1 active_row j)
    ∙ numbered-element i.width k col active_row (first_of i g) (is_within b.from i.len i.masked (bit_in s 0)) s fits inside active_row j below

pub windows-mask : (i : Shape) (b : Bounds) (g k col : ℕ) (s : Slices) → k * i.width + i.width ≤ 32 → col < s.columns → i.reads ≡ true → (j : ℕ) → j < i.width
    → element i.width k col (with_windows i b g s) mask_row j ≡ is_within b.from i.len true (bit_in s 0) (element_number i g k col)
unfolding with_windows
windows-mask i b g k col s fits inside reads j below =
    let s1 = effect (active_window i b g) s in
    mask_window-element i b g k col s1 fits inside mask_row j below ∙ rw reads refl

pub windows-rest : (i : Shape) (b : Bounds) (g k col : ℕ) (s : Slices) → k * i.width + i.width ≤ 32 → col < s.columns → (r j : ℕ) → r ≢ active_row → r ≢ mask_row → j < i.width
    → element i.width k col (with_windows i b g s) r j ≡ element i.width k col s r j
unfolding with_windows
windows-rest i b g k col s fits inside r j m n below =
    let s1 = effect (active_window i b g) s in
    mask_window-element i b g k col s1 fits inside r j below
    ∙ rw (ne_eqb r 33 n) (none i.reads _ (element i.width k col s1 r j))
    ∙ numbered-element i.width k col active_row (first_of i g) (is_within b.from i.len i.masked (bit_in s 0)) s fits inside r j below
    ∙ rw (ne_eqb r 32 m) refl

-- every other row stays
pub windows-bits : (i : Shape) (b : Bounds) (g : ℕ) (s : Slices) (r at : ℕ) → r ≢ active_row → r ≢ mask_row → bit_in (with_windows i b g s) r at ≡ bit_in s r at
unfolding with_windows replay
windows-bits i b g s r at n m =
    let s1 = effect (active_window i b g) s in
    let one : bit_in s1 r at ≡ bit_in s r at = rw (ne_eqb r 32 n) refl in
    elim i.reads as (λ x. bit_in (replay (cond x (Window mask_row i.width (first_of i g) b.from i.len true ∷ []) []) s1) r at ≡ bit_in s r at) [
      | true ↦ rw (ne_eqb r 33 m) one
      | false ↦ one
    ]

-- the windows stand in their rows
pub windows-stand : (i : Shape) (b : Bounds) (g : ℕ) (s : Slices) → Windowed i b g (with_windows i b g s)
windows-stand i b g s =
    let kept : bit_in (with_windows i b g s) 0 ≡ bit_in s 0 = λ x at. windows-bits i b g s 0 at (omega arith) (omega arith) x in
    let cols : (with_windows i b g s).columns ≡ s.columns = windows-columns i b g s in
    record {
      active = λ k col j fits inside below. let l : col < s.columns = rw (sym cols) inside in
          windows-active i b g k col s fits l j below ∙ ap (λ (f : ℕ → Bool). is_within b.from i.len i.masked f (element_number i g k col)) (sym kept);
      mask = λ reads k col j fits inside below. let l : col < s.columns = rw (sym cols) inside in
          windows-mask i b g k col s fits l reads j below ∙ ap (λ (f : ℕ → Bool). is_within b.from i.len true f (element_number i g k col)) (sym kept);
    }

-- ---- the fill

-- what the fill makes of a bit, by the bit of the row of agnostic elements
pub filled : (b o : Bool) → cond (fires (0 ∷ []) (1 ∷ []) (λ r. b)) true o ≡ cond b true o
filled true o = refl
filled false o = refl

-- and without a fill
pub nothing : (a o : Bool) → o ≡ cond (a && false) true o
nothing true o = refl
nothing false o = refl

-- ones, where what is written into the row of agnostic elements says so
fill_on : (w first to k col : ℕ) (what : ℕ → Bool) (s : Slices) → k * w + w ≤ 32 → col < s.columns → to < 32 → (r j : ℕ) → r ≤ scalar_row → j < w
    → element w k col (replay (micros w (fill_step w to ∷ [])) (numbered free_row w first what s)) r j
    ≡ cond (eqb r to && what (first + (col * (32 / w) + k))) true (element w k col s r j)
unfolding steps_on
fill_on w first to k col what s fits inside register r j low below =
    let s1 = numbered free_row w first what s in
    let update = fill_step w to in
    let old : (r : ℕ) → r ≤ 34 → element w k col s1 r j ≡ element w k col s r j =
    λ r l. let n : r ≢ 52 = omega arith in numbered-element w k col free_row first what s fits inside r j below ∙ rw (ne_eqb r 52 n) refl in
    ap (λ (z : ℕ → ℕ → Bool). z r j) (micros-element w k col (update ∷ []) s1 (everywhere-fits w (free_row ∷ []) (1 ∷ []) to, tt) fits inside)
    ∙ ⊎_elim
    (λ (x : r ≡ to). rw (x, eq-eqb to to refl) (everywhere-here w (free_row ∷ []) (1 ∷ []) to true (element w k col s1) j below
    ∙ rw (numbered-element w k col free_row first what s fits inside free_row j below, old to (omega arith)) (filled (what (first + (col * (32 / w) + k))) (element w k col s to j))))
    (λ (x : r ≢ to). rw (ne_eqb r to x) (step-row update (element w k col s1) r j x ∙ old r low))
    (cases_eq r to)

pub fill-element : (i : Shape) (b : Bounds) (g k col : ℕ) (s : Slices) → k * i.width + i.width ≤ 32 → col < s.columns → i.vd + g < 32 → (r j : ℕ) → r ≤ scalar_row → j < i.width
    → element i.width k col (replay (fill i b g) s) r j
    ≡ cond (eqb r (i.vd + g) && (i.ones && is_free b.from b.until i.masked i.tail (i.masked && i.vma) (bit_in s 0) (element_number i g k col))) true (element i.width k col s r j)
unfolding replay
fill-element i b g k col s fits inside register r j low below =
    let what = is_free b.from b.until i.masked i.tail (i.masked && i.vma) (bit_in s 0) in
    elim i.ones as (λ x. element i.width k col (replay (cond x
    (Free free_row i.width (first_of i g) b.from b.until i.masked i.tail (i.masked && i.vma) ∷ micros i.width (fill_step i.width (i.vd + g) ∷ [])) []) s) r j
    ≡ cond (eqb r (i.vd + g) && (x && what (element_number i g k col))) true (element i.width k col s r j)) [
      | true ↦ fill_on i.width (first_of i g) (i.vd + g) k col what s fits inside register r j low below
      | false ↦ nothing (eqb r (i.vd + g)) (element i.width k col s r j)
    ]
