-- The lists of shifts, as they are written.
use Rattle.std.proofs.Common.{◌≡◌, ◌≢◌, ℕ, ◌+◌, ◌-◌, ◌^◌, Bool, false, true, not, List, [], ◌∷◌, ◌++◌, suc, refl, ◌∙◌, ap, arith, append_assoc}
use Rattle.std.proofs.lemmas.Bool.{ne_eqb}
use Rattle.micro_ir.specs.declared.op.MicroOp.{MicroOp}
use Rattle.micro_ir.specs.Steps.{micro, micros}
use Rattle.micro_ir.specs.WorkRows.{broadcast_row}
use Rattle.micro_ir.specs.Pieces.{above, below, everywhere, clear, commit, downs, broadcast}
use Rattle.micro_ir.proofs.StepLists.{micros-append, micros-one}
use Rattle.gen_shift.specs.declared.kinds.Shift.{Shift}
use Rattle.gen_shift.specs.Rows.{moved_row, sign_row, more_row, shift_role, last_role, shifted_row, last_row, rounded_row, is_odd}
use Rattle.gen_shift.specs.Lists.{goes_up, fills, slide, top_bits, filling, merging, strays, outs, keeping, starting, stage, stages, sign_steps, signing, shifting, shift_steps, mode_steps, rounding, rounded_steps}

no-steps : (w : ℕ) → micros w [] ≡ []
unfolding micros
no-steps w = refl

pub sign-list : (w a : ℕ) → micros w (sign_steps w a) ≡ micro w (clear w sign_row) ++ (micro w (above (a ∷ []) (1 ∷ []) sign_row (w - 1) 0) ++ micros w (downs sign_row (w - 1)))
unfolding micros
sign-list w a = refl

-- what stands where the sign comes in, and where it does not
pub signing-none : (kind : Shift) (w a : ℕ) → fills kind ≡ false → micros w (signing kind w a) ≡ []
signing-none kind w a is = rw is (no-steps w)

pub signing-some : (kind : Shift) (w a : ℕ) → fills kind ≡ true → micros w (signing kind w a) ≡ micros w (sign_steps w a)
signing-some kind w a is = rw is refl

pub filling-none : (kind : Shift) (w h : ℕ) → fills kind ≡ false → micros w (filling kind w h) ≡ []
filling-none kind w h is = rw is (no-steps w)

pub filling-some : (kind : Shift) (w h : ℕ) → fills kind ≡ true → micros w (filling kind w h) ≡ micro w (top_bits w sign_row moved_row h)
filling-some kind w h is = rw is (micros-one w (top_bits w sign_row moved_row h))

-- what goes out, where it is kept and where it is not
pub strays-none : (w t : ℕ) → micros w (strays t 0) ≡ []
unfolding strays micros
strays-none w t = refl

pub strays-more : (w t n : ℕ) → micros w (strays t (n + 1)) ≡ micros w (strays t n) ++ micro w (below (broadcast_row ∷ t ∷ []) (3 ∷ []) more_row n n)
unfolding strays
strays-more w t n =
    let e : n + 1 ≡ suc n = omega arith in
    let step = below (broadcast_row ∷ t ∷ []) (3 ∷ []) more_row n n in
    rw e (micros-append w (strays t n) (step ∷ []) ∙ ap (λ l. micros w (strays t n) ++ l) (micros-one w step))

pub outs-list : (w : ℕ) (p : Bool) (h : ℕ)
    → micros w (outs w p h)
    ≡ micro w (above (broadcast_row ∷ last_role p ∷ []) (3 ∷ []) more_row 0 0)
    ++ (micros w (strays (shift_role p) (h - 1))
    ++ (micro w (clear w (last_role (not p)))
    ++ (micro w (below (broadcast_row ∷ shift_role p ∷ []) (3 ∷ []) (last_role (not p)) (h - 1) (h - 1))
    ++ micro w (above (broadcast_row ∷ last_role p ∷ []) (2 ∷ []) (last_role (not p)) 0 0))))
unfolding outs micros
outs-list w p h =
    let first = above (broadcast_row ∷ last_role p ∷ []) (3 ∷ []) more_row 0 0 in
    let second = clear w (last_role (not p)) in
    let third = below (broadcast_row ∷ shift_role p ∷ []) (3 ∷ []) (last_role (not p)) (h - 1) (h - 1) in
    let last = above (broadcast_row ∷ last_role p ∷ []) (2 ∷ []) (last_role (not p)) 0 0 in
    ap (λ l. micro w first ++ l)
    (micros-append w (strays (shift_role p) (h - 1)) (second ∷ third ∷ last ∷ [])
    ∙ ap (λ l. micros w (strays (shift_role p) (h - 1)) ++ (micro w second ++ (micro w third ++ l))) (micros-one w last))

pub keeping-none : (w : ℕ) (p : Bool) (h : ℕ) → micros w (keeping false w p h) ≡ []
keeping-none w p h = no-steps w

pub starting-none : (w : ℕ) → micros w (starting false w) ≡ []
starting-none w = no-steps w

pub starting-some : (w : ℕ) → micros w (starting true w) ≡ micro w (clear w more_row) ++ micro w (clear w (last_role false))
unfolding micros
starting-some w = ap (λ l. micro w (clear w more_row) ++ l) (micros-one w (clear w (last_role false)))

pub stage-list : (kind : Shift) (keeps : Bool) (w b : ℕ) (p : Bool) (j h : ℕ)
    → micros w (stage kind keeps w b p j h)
    ≡ micros w (broadcast w b j)
    ++ (micro w (clear w moved_row)
    ++ (micro w (slide w (goes_up kind) (shift_role p) moved_row h)
    ++ (micros w (filling kind w h) ++ (micro w (clear w (shift_role (not p))) ++ (micros w (keeping keeps w p h) ++ micro w (merging w p))))))
unfolding stage micros
stage-list kind keeps w b p j h =
    let first = clear w moved_row in
    let second = slide w (goes_up kind) (shift_role p) moved_row h in
    let third = clear w (shift_role (not p)) in
    let last = merging w p in
    micros-append w (broadcast w b j) (first ∷ second ∷ (filling kind w h ++ (third ∷ (keeping keeps w p h ++ last ∷ []))))
    ∙ ap (λ l. micros w (broadcast w b j) ++ (micro w first ++ (micro w second ++ l)))
    (micros-append w (filling kind w h) (third ∷ (keeping keeps w p h ++ last ∷ []))
    ∙ ap (λ l. micros w (filling kind w h) ++ (micro w third ++ l)) (micros-append w (keeping keeps w p h) (last ∷ []) ∙ ap (λ l. micros w (keeping keeps w p h) ++ l) (micros-one w last)))

-- a list that has grown by a part
pub one-more : (first done m : List MicroOp) {all now last : List MicroOp} → last ≡ now ++ m → now ≡ first ++ done → all ≡ done ++ m → last ≡ first ++ all
one-more first done m p q r = p ∙ rw (q, r) (simp append_assoc)

-- no stage yet, and one more
pub stages-none : (kind : Shift) (keeps : Bool) (w b : ℕ) → micros w (stages kind keeps w b 0) ≡ []
unfolding stages micros
stages-none kind keeps w b = refl

pub stages-more : (kind : Shift) (keeps : Bool) (w b n : ℕ) → micros w (stages kind keeps w b (n + 1)) ≡ micros w (stages kind keeps w b n) ++ micros w (stage kind keeps w b (is_odd n) n (2 ^ n))
unfolding stages
stages-more kind keeps w b n =
    let e : n + 1 ≡ suc n = omega arith in
    rw e (micros-append w (stages kind keeps w b n) (stage kind keeps w b (is_odd n) n (2 ^ n)))

pub shifting-list : (kind : Shift) (keeps : Bool) (w l a b : ℕ)
    → micros w (shifting kind keeps w l a b)
    ≡ micros w (starting keeps w)
    ++ (micros w (signing kind w a)
    ++ (micro w (clear w (shift_role false)) ++ (micro w (everywhere w (a ∷ []) (1 ∷ []) (shift_role false) true) ++ micros w (stages kind keeps w b l))))
unfolding shifting micros
shifting-list kind keeps w l a b =
    let rest = clear w (shift_role false) ∷ everywhere w (a ∷ []) (1 ∷ []) (shift_role false) true ∷ stages kind keeps w b l in
    micros-append w (starting keeps w) (signing kind w a ++ rest) ∙ ap (λ l. micros w (starting keeps w) ++ l) (micros-append w (signing kind w a) rest)

pub shift-list : (kind : Shift) (w l a b to : ℕ) → micros w (shift_steps kind w l a b to) ≡ micros w (shifting kind false w l a b) ++ micros w (commit w (shifted_row l) to)
unfolding shift_steps
shift-list kind w l a b to = micros-append w (shifting kind false w l a b) (commit w (shifted_row l) to)

-- ---- where it is rounded

pub rounding-down : (kind : Shift) (mode w l a b : ℕ) → mode ≡ 2 → micros w (rounding kind mode w l a b) ≡ micros w (shifting kind false w l a b)
rounding-down kind mode w l a b is = rw is refl

pub rounding-up : (kind : Shift) (mode w l a b : ℕ) → mode ≢ 2
    → micros w (rounding kind mode w l a b) ≡ micros w (shifting kind true w l a b) ++ micros w (mode_steps w mode (shifted_row l) (last_row l) more_row)
rounding-up kind mode w l a b other =
    rw (ne_eqb mode 2 other) (micros-append w (shifting kind true w l a b) (mode_steps w mode (shifted_row l) (last_row l) more_row))

pub rounded-list : (kind : Shift) (mode w l a b to : ℕ)
    → micros w (rounded_steps kind mode w l a b to) ≡ micros w (rounding kind mode w l a b) ++ micros w (commit w (rounded_row mode l) to)
unfolding rounded_steps
rounded-list kind mode w l a b to = micros-append w (rounding kind mode w l a b) (commit w (rounded_row mode l) to)
