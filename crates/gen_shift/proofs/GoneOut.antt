-- What goes out at a stage of a shift.
use Rattle.std.proofs.Common.{◌≡◌, ℕ, zero, suc, ◌+◌, ◌-◌, ◌<◌, ◌≤◌, Bool, true, false, ◌||◌, ◌&&◌, cond, not, List, [], ◌∷◌, map, refl, sym, ap, ◌∙◌, arith}
use Rattle.bit_laws.specs.Rounding.{any_below, last_out, more_out}
use Rattle.micro_ir.specs.Steps.{Step, step_on, steps_on}
use Rattle.micro_ir.specs.Pieces.{above, below, clear}
use Rattle.micro_ir.specs.WorkRows.{broadcast_row}
use Rattle.micro_ir.proofs.OneElement.{hit, fires-hit, clear-here, above-here, below-here}
use Rattle.micro_ir.proofs.StepLists.{steps_on-append}
use Rattle.gen_shift.specs.Rows.{shift_role, last_role, more_row, is_among}
use Rattle.gen_shift.specs.Lists.{strays, outs}
use Rattle.gen_shift.proofs.Stays.{Within, stays, within-append}

-- ---- tables

both : (x y : Bool) → hit (3 ∷ []) (x ∷ y ∷ []) ≡ x && y
both true true = refl
both true false = refl
both false true = refl
both false false = refl

second_only : (x y : Bool) → hit (2 ∷ []) (x ∷ y ∷ []) ≡ not x && y
second_only true true = refl
second_only true false = refl
second_only false true = refl
second_only false false = refl

-- ---- bits that are the same

pub any-same : (n : ℕ) (x y : ℕ → Bool) → ((i : ℕ) → i < n → x i ≡ y i) → any_below n x ≡ any_below n y
any-same zero x y same = refl
any-same (suc n) x y same = rw (any-same n x y (λ i l. same i (omega arith)), same n (omega arith)) refl

pub last-same : (n w : ℕ) (x y : ℕ → Bool) → n ≤ w → ((i : ℕ) → i < w → x i ≡ y i) → last_out x n ≡ last_out y n
last-same zero w x y room same = refl
last-same (suc n) w x y room same = same n (omega arith)

pub more-same : (n w : ℕ) (x y : ℕ → Bool) → n ≤ w → ((i : ℕ) → i < w → x i ≡ y i) → more_out x n ≡ more_out y n
more-same zero w x y room same = refl
more-same (suc n) w x y room same = any-same n x y (λ i l. same i (omega arith))

-- ---- the rows that are written

within-strays : (rows : List ℕ) (t n : ℕ) → is_among rows more_row ≡ true → Within rows (strays t n)
unfolding strays
within-strays rows t zero m = tt
within-strays rows t (suc n) m = within-append rows (strays t n) (below (broadcast_row ∷ t ∷ []) (3 ∷ []) more_row n n ∷ []) (within-strays rows t n m) (m, tt)

pub within-outs : (rows : List ℕ) (w : ℕ) (p : Bool) (h : ℕ) → is_among rows more_row ≡ true → is_among rows (last_role (not p)) ≡ true → Within rows (outs w p h)
unfolding outs
within-outs rows w p h m k =
    (m, within-append rows (strays (shift_role p) (h - 1)) _ (within-strays rows (shift_role p) (h - 1) m) (k, (k, (k, tt))))

-- a step at the lowest bit, and one that brings a bit there
low-here : (inputs on : List ℕ) (out : ℕ) (e : ℕ → ℕ → Bool) → step_on (above inputs on out 0 0) e out 0 ≡ hit on (map (λ r. e r 0) inputs) || e out 0
low-here inputs on out e = above-here inputs on out 0 0 e ∙ rw (fires-hit inputs on (λ r. e r 0)) refl

down-here : (inputs on : List ℕ) (out n : ℕ) (e : ℕ → ℕ → Bool) → step_on (below inputs on out n n) e out 0 ≡ hit on (map (λ r. e r n) inputs) || e out 0
down-here inputs on out n e =
    let z : 0 + n ≡ n = omega arith in
    ap (λ (k : ℕ). step_on (below inputs on out k n) e out 0) (sym z) ∙ below-here inputs on out 0 n e ∙ rw (z, fires-hit inputs on (λ r. e r n)) refl

-- ---- what they leave

gathers : (s o x y : Bool) → (s && y) || (o || (s && x)) ≡ o || (s && (x || y))
gathers true true x true = refl
gathers true true x false = refl
gathers true false true true = refl
gathers true false true false = refl
gathers true false false true = refl
gathers true false false false = refl
gathers false true x y = refl
gathers false false x y = refl

nothing-more : (s o : Bool) → o ≡ o || (s && false)
nothing-more true true = refl
nothing-more true false = refl
nothing-more false true = refl
nothing-more false false = refl

strays-here : (t n w : ℕ) (s : Bool) (e : ℕ → ℕ → Bool) → n ≤ w → is_among (more_row ∷ []) t ≡ false → ((i : ℕ) → i < w → e broadcast_row i ≡ s)
    → steps_on (strays t n) e more_row 0 ≡ e more_row 0 || (s && any_below n (e t))
unfolding strays steps_on
strays-here t zero w s e room apart is = nothing-more s (e more_row 0)
strays-here t (suc n) w s e room apart is =
    let e1 = steps_on (strays t n) e in
    let in_rows = within-strays (more_row ∷ []) t n refl in
    let b : e1 broadcast_row n ≡ s = stays (more_row ∷ []) (strays t n) e broadcast_row n in_rows refl ∙ is n (omega arith) in
    let x : e1 t n ≡ e t n = stays (more_row ∷ []) (strays t n) e t n in_rows apart in
    rw (steps_on-append (strays t n) (below (broadcast_row ∷ t ∷ []) (3 ∷ []) more_row n n ∷ []) e)
    (down-here (broadcast_row ∷ t ∷ []) (3 ∷ []) more_row n e1
    ∙ rw (b, x, both s (e t n), strays-here t n w s e (omega arith) apart is) (gathers s (e more_row 0) (any_below n (e t)) (e t n)))

-- the rows of a role are apart
pub shift-apart : (p : Bool) → is_among (more_row ∷ last_role (not p) ∷ []) (shift_role p) ≡ false
shift-apart true = refl
shift-apart false = refl

shift-apart-more : (p : Bool) → is_among (more_row ∷ []) (shift_role p) ≡ false
shift-apart-more true = refl
shift-apart-more false = refl

last-apart-more : (p : Bool) → is_among (more_row ∷ []) (last_role p) ≡ false
last-apart-more true = refl
last-apart-more false = refl

last-other : (p : Bool) → is_among (last_role (not p) ∷ []) (last_role p) ≡ false
last-other true = refl
last-other false = refl

last-here : (p : Bool) → is_among (last_role p ∷ []) (last_role p) ≡ true
last-here true = refl
last-here false = refl

last-broadcast : (p : Bool) → is_among (last_role p ∷ []) broadcast_row ≡ false
last-broadcast true = refl
last-broadcast false = refl

last-shift : (p : Bool) → is_among (last_role (not p) ∷ []) (shift_role p) ≡ false
last-shift true = refl
last-shift false = refl

last-more : (p : Bool) → is_among (last_role p ∷ []) more_row ≡ false
last-more true = refl
last-more false = refl

first-more : (s o g a : Bool) → ((s && g) || o) || (s && a) ≡ o || (s && (g || a))
first-more true true true a = refl
first-more true true false a = refl
first-more true false true a = refl
first-more true false false a = refl
first-more false true g a = refl
first-more false false g a = refl

picks-last : (s x g : Bool) → (not s && g) || ((s && x) || false) ≡ cond s x g
picks-last true true g = refl
picks-last true false g = refl
picks-last false x true = refl
picks-last false x false = refl

pub record Out (w h : ℕ) (p s : Bool) (e now : ℕ → ℕ → Bool) : Type 0 where
  pub last : now (last_role (not p)) 0 ≡ cond s (e (shift_role p) (h - 1)) (e (last_role p) 0)
  pub more : now more_row 0 ≡ e more_row 0 || (s && (e (last_role p) 0 || any_below (h - 1) (e (shift_role p))))

pub outs-here : (w h : ℕ) (p s : Bool) (e : ℕ → ℕ → Bool) → 0 < h → h ≤ w → ((i : ℕ) → i < w → e broadcast_row i ≡ s)
    → Out w h p s e (steps_on (outs w p h) e)
unfolding steps_on outs
outs-here w h p s e some room is =
    let t = shift_role p in
    let g = last_role p in
    let g2 = last_role (not p) in
    let one = above (broadcast_row ∷ g ∷ []) (3 ∷ []) more_row 0 0 in
    let two = below (broadcast_row ∷ t ∷ []) (3 ∷ []) g2 (h - 1) (h - 1) in
    let three = above (broadcast_row ∷ g ∷ []) (2 ∷ []) g2 0 0 in
    let rest : List Step = clear w g2 ∷ two ∷ three ∷ [] in
    let e1 = step_on one e in
    let e2 = steps_on (strays t (h - 1)) e1 in
    let e3 = step_on (clear w g2) e2 in
    let e4 = step_on two e3 in
    let front : (r i : ℕ) → is_among (more_row ∷ []) r ≡ false → e2 r i ≡ e r i =
    λ r i q. stays (more_row ∷ []) (strays t (h - 1)) e1 r i (within-strays (more_row ∷ []) t (h - 1) refl) q ∙ stays (more_row ∷ []) (one ∷ []) e r i (refl, tt) q in
    let b1 : (i : ℕ) → i < w → e1 broadcast_row i ≡ s = λ i l. stays (more_row ∷ []) (one ∷ []) e broadcast_row i (refl, tt) refl ∙ is i l in
    let t1 : (i : ℕ) → e1 t i ≡ e t i = λ i. stays (more_row ∷ []) (one ∷ []) e t i (refl, tt) (shift-apart-more p) in
    let o1 : e1 more_row 0 ≡ (s && e g 0) || e more_row 0 = low-here (broadcast_row ∷ g ∷ []) (3 ∷ []) more_row e ∙ rw (is 0 (omega arith), both s (e g 0)) refl in
    let m2 : e2 more_row 0 ≡ e more_row 0 || (s && (e g 0 || any_below (h - 1) (e t))) =
    strays-here t (h - 1) w s e1 (omega arith) (shift-apart-more p) b1 ∙ ap (λ (x : Bool). e1 more_row 0 || (s && x)) (any-same (h - 1) (e1 t) (e t) (λ i l. t1 i)) ∙ rw o1 (first-more s (e more_row 0) (e g 0) (any_below (h - 1) (e t))) in
    let here : is_among (g2 ∷ []) g2 ≡ true = last-here (not p) in
    let c3 : e3 g2 0 ≡ false = clear-here w g2 e2 0 (omega arith) in
    let b3 : (i : ℕ) → i < w → e3 broadcast_row i ≡ s = λ i l. stays (g2 ∷ []) (clear w g2 ∷ []) e2 broadcast_row i (here, tt) (last-broadcast (not p)) ∙ front broadcast_row i refl ∙ is i l in
    let t3 : e3 t (h - 1) ≡ e t (h - 1) = stays (g2 ∷ []) (clear w g2 ∷ []) e2 t (h - 1) (here, tt) (last-shift p) ∙ front t (h - 1) (shift-apart-more p) in
    let g4 : e4 g 0 ≡ e g 0 = stays (g2 ∷ []) (clear w g2 ∷ two ∷ []) e2 g 0 (here, (here, tt)) (last-other p) ∙ front g 0 (last-apart-more p) in
    let b4 : e4 broadcast_row 0 ≡ s = stays (g2 ∷ []) (two ∷ []) e3 broadcast_row 0 (here, tt) (last-broadcast (not p)) ∙ b3 0 (omega arith) in
    let x4 : e4 g2 0 ≡ (s && e t (h - 1)) || false = down-here (broadcast_row ∷ t ∷ []) (3 ∷ []) g2 (h - 1) e3 ∙ rw (b3 (h - 1) (omega arith), t3, both s (e t (h - 1)), c3) refl in
    rw (steps_on-append (strays t (h - 1)) rest e1) (record {
      last = low-here (broadcast_row ∷ g ∷ []) (2 ∷ []) g2 e4 ∙ rw (b4, g4, second_only s (e g 0), x4) (picks-last s (e t (h - 1)) (e g 0));
      more = stays (g2 ∷ []) rest e2 more_row 0 (here, (here, (here, tt))) (last-more (not p)) ∙ m2;
    })
