-- One stage of a shift.
use Rattle.std.proofs.Common.{◌≡◌, ◌≢◌, ℕ, ◌+◌, ◌-◌, ◌<◌, ◌≤◌, Bool, true, false, ◌||◌, ◌&&◌, ltb, cond, not, List, [], ◌∷◌, ◌++◌, refl, ap, ◌∙◌, arith, ⊎_elim}
use Rattle.std.proofs.lemmas.Bool.{cases_lt, lt-ltb, le-ltb, le-leb, lt-leb}
use Rattle.micro_ir.specs.Steps.{Step, step_on, steps_on}
use Rattle.micro_ir.specs.Pieces.{clear, broadcast}
use Rattle.micro_ir.specs.WorkRows.{broadcast_row}
use Rattle.micro_ir.proofs.OneElement.{hit, fires-hit, step-row, clear-here, everywhere-here}
use Rattle.micro_ir.proofs.StepLists.{steps_on-append}
use Rattle.micro_ir.proofs.Effects.{broadcast-on}
use Rattle.gen_shift.specs.declared.kinds.Shift.{Shift}
use Rattle.gen_shift.specs.declared.kinds.Shift.TheVariants.{Sll, Srl, Sra}
use Rattle.gen_shift.specs.Rows.{moved_row, sign_row, more_row, shift_role, last_role, is_among, stage_rows}
use Rattle.gen_shift.specs.Lists.{slide, filling, merging, outs, keeping, stage, goes_up, fills, moved_bits}
use Rattle.gen_shift.proofs.Stays.{Within, stays, within-append, within-broadcast}
use Rattle.gen_shift.proofs.Single.{slide-up, slide-down, top-here}
use Rattle.gen_shift.proofs.GoneOut.{within-outs, shift-apart, Out, outs-here}

-- ---- tables

chosen : (s x y : Bool) → hit (3 ∷ 4 ∷ 6 ∷ 7 ∷ []) (s ∷ x ∷ y ∷ []) ≡ cond s x y
chosen true true true = refl
chosen true true false = refl
chosen true false true = refl
chosen true false false = refl
chosen false true true = refl
chosen false true false = refl
chosen false false true = refl
chosen false false false = refl

pub as-found : (b : Bool) → cond b true false ≡ b
as-found true = refl
as-found false = refl

-- ---- the rows of a role

shift-in : (keeps p : Bool) → is_among (stage_rows keeps) (shift_role p) ≡ true
shift-in true true = refl
shift-in true false = refl
shift-in false true = refl
shift-in false false = refl

last-in : (p : Bool) → is_among (stage_rows true) (last_role p) ≡ true
last-in true = refl
last-in false = refl

moved-in : (keeps : Bool) → is_among (stage_rows keeps) moved_row ≡ true
moved-in true = refl
moved-in false = refl

pub broadcast-in : (keeps : Bool) → is_among (stage_rows keeps) broadcast_row ≡ true
broadcast-in true = refl
broadcast-in false = refl

pub sign-out : (keeps : Bool) → is_among (stage_rows keeps) sign_row ≡ false
sign-out true = refl
sign-out false = refl

shift-moved : (p : Bool) → shift_role p ≢ moved_row
shift-moved true = λ q. absurd (omega arith)
shift-moved false = λ q. absurd (omega arith)

-- the rows that the stage writes before it keeps what goes out, and those that it writes then
abbrev front : (p : Bool) → List ℕ
front p = broadcast_row ∷ moved_row ∷ shift_role (not p) ∷ []

abbrev back : (p : Bool) → List ℕ
back p = more_row ∷ last_role (not p) ∷ []

-- the former row and the former last bit are none of them
former-front : (p : Bool) → is_among (front p) (shift_role p) ≡ false
former-front true = refl
former-front false = refl

last-front : (p : Bool) → is_among (front p) (last_role p) ≡ false
last-front true = refl
last-front false = refl

more-front : (p : Bool) → is_among (front p) more_row ≡ false
more-front true = refl
more-front false = refl

next-front : (p : Bool) → is_among (front p) (shift_role (not p)) ≡ true
next-front true = refl
next-front false = refl

-- and what goes out is kept in others than those that the next row is made of
next-back : (p : Bool) → is_among (back p) (shift_role (not p)) ≡ false
next-back true = refl
next-back false = refl

moved-back : (p : Bool) → is_among (back p) moved_row ≡ false
moved-back true = refl
moved-back false = refl

broadcast-back : (p : Bool) → is_among (back p) broadcast_row ≡ false
broadcast-back true = refl
broadcast-back false = refl

last-back : (p : Bool) → is_among (back p) (last_role (not p)) ≡ true
last-back true = refl
last-back false = refl

next-alone : (p : Bool) → is_among (shift_role p ∷ []) (shift_role p) ≡ true
next-alone true = refl
next-alone false = refl

moved-apart : (p : Bool) → is_among (shift_role p ∷ []) moved_row ≡ false
moved-apart true = refl
moved-apart false = refl

broadcast-apart : (p : Bool) → is_among (shift_role p ∷ []) broadcast_row ≡ false
broadcast-apart true = refl
broadcast-apart false = refl

last-apart : (p q : Bool) → is_among (shift_role p ∷ []) (last_role q) ≡ false
last-apart true true = refl
last-apart true false = refl
last-apart false true = refl
last-apart false false = refl

more-apart : (p : Bool) → is_among (shift_role p ∷ []) more_row ≡ false
more-apart true = refl
more-apart false = refl

former-low : (p : Bool) → is_among (broadcast_row ∷ []) (shift_role p) ≡ false
former-low true = refl
former-low false = refl

-- ---- the rows that are written

within-filling : (rows : List ℕ) (kind : Shift) (w h : ℕ) → is_among rows moved_row ≡ true → Within rows (filling kind w h)
within-filling rows Sll w h m = tt
within-filling rows Srl w h m = tt
within-filling rows Sra w h m = (m, tt)

within-keeping : (rows : List ℕ) (keeps : Bool) (w : ℕ) (p : Bool) (h : ℕ) → (keeps ≡ true → is_among rows more_row ≡ true) → (keeps ≡ true → is_among rows (last_role (not p)) ≡ true)
    → Within rows (keeping keeps w p h)
within-keeping rows true w p h m l = within-outs rows w p h (m refl) (l refl)
within-keeping rows false w p h m l = tt

pub stage-within : (kind : Shift) (keeps : Bool) (w b : ℕ) (p : Bool) (j h : ℕ) → Within (stage_rows keeps) (stage kind keeps w b p j h)
unfolding stage
stage-within kind keeps w b p j h =
    let rows : List ℕ = stage_rows keeps in
    within-append rows (broadcast w b j) _ (within-broadcast rows w b j (broadcast-in keeps)) (
      moved-in keeps,
      (
        moved-in keeps,
        within-append rows (filling kind w h) _ (within-filling rows kind w h (moved-in keeps))
            (shift-in keeps (not p), within-append rows (keeping keeps w p h) _ (kept keeps) (shift-in keeps (not p), tt)),
      ),
    )
  where
    kept : (keeps : Bool) → Within (stage_rows keeps) (keeping keeps w p h)
    kept true = within-outs (stage_rows true) w p h refl (last-in (not p))
    kept false = tt

-- ---- the moved row

-- by the three ways
moves : (kind : Shift) (f : Bool) (w t h : ℕ) (e : ℕ → ℕ → Bool) (i : ℕ) → i < w → h ≤ w → t ≢ moved_row → (fills kind ≡ true → (i : ℕ) → i < w → e sign_row i ≡ f)
    → steps_on (filling kind w h) (step_on (slide w (goes_up kind) t moved_row h) (step_on (clear w moved_row) e)) moved_row i ≡ moved_bits kind f w h (e t) i
unfolding steps_on
moves Sll f w t h e i inside room apart sign =
    slide-up w t moved_row h (step_on (clear w moved_row) e) i inside (clear-here w moved_row e i inside) ∙ rw (step-row (clear w moved_row) e t (i - h) apart) refl
moves Srl f w t h e i inside room apart sign =
    slide-down w t moved_row h (step_on (clear w moved_row) e) i (clear-here w moved_row e i inside) ∙ rw (step-row (clear w moved_row) e t (i + h) apart) (and-cond (ltb (i + h) w) (e t (i + h)))
  where
    and-cond : (x y : Bool) → x && y ≡ cond x y false
    and-cond true y = refl
    and-cond false y = refl
moves Sra f w t h e i inside room apart sign =
    let e1 = step_on (clear w moved_row) e in
    let e2 = step_on (slide w false t moved_row h) e1 in
    top-here w sign_row moved_row h e2 i inside
    ∙ rw (slide-down w t moved_row h e1 i (clear-here w moved_row e i inside), step-row (slide w false t moved_row h) e1 sign_row i (omega arith), step-row (clear w moved_row) e sign_row i (omega arith), step-row (clear w moved_row) e t (i + h) apart, sign refl i inside)
    (⊎_elim
    (λ (l : i + h < w). rw (lt-ltb (i + h) w l, lt-leb (w - h) i (omega arith)) (or_no (e t (i + h))))
    (λ (l : w ≤ i + h). rw (le-ltb (i + h) w l, le-leb (w - h) i (omega arith)) refl)
    (cases_lt (i + h) w))
  where
    or_no : (b : Bool) → b || false ≡ b
    or_no true = refl
    or_no false = refl

-- ---- the stage

-- What a stage of h places makes of an element.
pub record Staged (kind : Shift) (keeps : Bool) (w b : ℕ) (p : Bool) (j h : ℕ) (f : Bool) (e now : ℕ → ℕ → Bool) : Type 0 where
  pub row : (i : ℕ) → i < w → now (shift_role (not p)) i ≡ cond (e b j) (moved_bits kind f w h (e (shift_role p)) i) (e (shift_role p) i)
  pub out : keeps ≡ true → Out w h p (e b j) e now
  pub rest : (r i : ℕ) → is_among (stage_rows keeps) r ≡ false → now r i ≡ e r i

pub staged : (kind : Shift) (keeps : Bool) (w b : ℕ) (p : Bool) (j h : ℕ) (f : Bool) (e : ℕ → ℕ → Bool) → j < w → 0 < h → h ≤ w → b ≢ broadcast_row
    → (fills kind ≡ true → (i : ℕ) → i < w → e sign_row i ≡ f) → Staged kind keeps w b p j h f e (steps_on (stage kind keeps w b p j h) e)
unfolding steps_on stage
staged kind keeps w b p j h f e below_w some room other sign =
    let t = shift_role p in
    let u = shift_role (not p) in
    let s1 = clear w moved_row in
    let s2 = slide w (goes_up kind) t moved_row h in
    let F : List Step = filling kind w h in
    let s3 = clear w u in
    let O : List Step = keeping keeps w p h in
    let m = merging w p in
    let e1 = steps_on (broadcast w b j) e in
    let e3 = step_on s2 (step_on s1 e1) in
    let e4 = steps_on F e3 in
    let e5 = step_on s3 e4 in
    let e6 = steps_on O e5 in
    let e7 = step_on m e6 in
    let s = e b j in
    let parts : steps_on (stage kind keeps w b p j h) e ≡ e7 =
    steps_on-append (broadcast w b j) (s1 ∷ s2 ∷ (F ++ (s3 ∷ (O ++ m ∷ [])))) e ∙ steps_on-append F (s3 ∷ (O ++ m ∷ [])) e3 ∙ steps_on-append O (m ∷ []) e5 in
    let in_broadcast : Within (broadcast_row ∷ []) (broadcast w b j) = within-broadcast (broadcast_row ∷ []) w b j refl in
    let in_moved : Within (moved_row ∷ []) (s1 ∷ s2 ∷ []) = (refl, (refl, tt)) in
    let in_filling : Within (moved_row ∷ []) F = within-filling (moved_row ∷ []) kind w h refl in
    let in_clear : Within (u ∷ []) (s3 ∷ []) = (next-alone (not p), tt) in
    let in_merge : Within (u ∷ []) (m ∷ []) = (next-alone (not p), tt) in
    let in_back : Within (back p) O = within-keeping (back p) keeps w p h (λ y. refl) (λ y. last-back p) in
    let after : (r i : ℕ) → is_among (front p) r ≡ false → e5 r i ≡ e r i =
    λ r i q. stays (front p) (s3 ∷ []) e4 r i (next-front p, tt) q ∙ stays (front p) F e3 r i (within-filling (front p) kind w h refl) q
    ∙ stays (front p) (s1 ∷ s2 ∷ []) e1 r i (refl, (refl, tt)) q ∙ stays (front p) (broadcast w b j) e r i (within-broadcast (front p) w b j refl) q in
    let t1 : e1 t ≡ e t = λ x i. stays (broadcast_row ∷ []) (broadcast w b j) e t i in_broadcast (former-low p) x in
    let t5 : e5 t ≡ e t = λ x i. after t i (former-front p) x in
    let sign1 : fills kind ≡ true → (i : ℕ) → i < w → e1 sign_row i ≡ f = λ y i l. stays (broadcast_row ∷ []) (broadcast w b j) e sign_row i in_broadcast refl ∙ sign y i l in
    let b1 : (i : ℕ) → i < w → e1 broadcast_row i ≡ s = λ i l. broadcast-on w b j e below_w other broadcast_row i l ∙ rw (lt-ltb i w l) refl in
    let s5 : (i : ℕ) → i < w → e5 broadcast_row i ≡ s =
    λ i l. stays (u ∷ []) (s3 ∷ []) e4 broadcast_row i in_clear (broadcast-apart (not p)) ∙ stays (moved_row ∷ []) F e3 broadcast_row i in_filling refl
    ∙ stays (moved_row ∷ []) (s1 ∷ s2 ∷ []) e1 broadcast_row i in_moved refl ∙ b1 i l in
    let x5 : (i : ℕ) → i < w → e5 moved_row i ≡ moved_bits kind f w h (e t) i =
    λ i l. stays (u ∷ []) (s3 ∷ []) e4 moved_row i in_clear (moved-apart (not p)) ∙ moves kind f w t h e1 i l room (shift-moved p) sign1 ∙ ap (λ x. moved_bits kind f w h x i) t1 in
    let u6 : (i : ℕ) → i < w → e6 u i ≡ false = λ i l. stays (back p) O e5 u i in_back (next-back p) ∙ clear-here w u e4 i l in
    let x6 : (i : ℕ) → i < w → e6 moved_row i ≡ moved_bits kind f w h (e t) i = λ i l. stays (back p) O e5 moved_row i in_back (moved-back p) ∙ x5 i l in
    let s6 : (i : ℕ) → i < w → e6 broadcast_row i ≡ s = λ i l. stays (back p) O e5 broadcast_row i in_back (broadcast-back p) ∙ s5 i l in
    let t6 : (i : ℕ) → e6 t i ≡ e t i = λ i. stays (back p) O e5 t i in_back (shift-apart p) ∙ after t i (former-front p) in
    record {
      row = λ i l. ap (λ g. g u i) parts
          ∙ everywhere-here w (broadcast_row ∷ moved_row ∷ t ∷ []) (3 ∷ 4 ∷ 6 ∷ 7 ∷ []) u true e6 i l
          ∙ rw (u6 i l, fires-hit (broadcast_row ∷ moved_row ∷ t ∷ []) (3 ∷ 4 ∷ 6 ∷ 7 ∷ []) (λ r. e6 r i), s6 i l, x6 i l, t6 i, chosen s (moved_bits kind f w h (e t) i) (e t i)) (as-found (cond s (moved_bits kind f w h (e t) i) (e t i)));
      out = λ yes.
          let kept : O ≡ outs w p h = ap (λ c. cond c (outs w p h) []) yes in
          let o = outs-here w h p s e5 some room s5 in
          record {
            last = ap (λ g. g (last_role (not p)) 0) parts ∙ stays (u ∷ []) (m ∷ []) e6 (last_role (not p)) 0 in_merge (last-apart (not p) (not p))
                ∙ ap (λ c. steps_on c e5 (last_role (not p)) 0) kept ∙ o.last ∙ rw (after t (h - 1) (former-front p), after (last_role p) 0 (last-front p)) refl;
            more = ap (λ g. g more_row 0) parts ∙ stays (u ∷ []) (m ∷ []) e6 more_row 0 in_merge (more-apart (not p))
                ∙ ap (λ c. steps_on c e5 more_row 0) kept ∙ o.more ∙ rw (t5, after more_row 0 (more-front p), after (last_role p) 0 (last-front p)) refl;
          };
      rest = λ r i q. stays (stage_rows keeps) (stage kind keeps w b p j h) e r i (stage-within kind keeps w b p j h) q;
    }
