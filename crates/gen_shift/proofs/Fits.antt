-- No step of a shift leaves its element.
use Rattle.std.proofs.Common.{◌≡◌, ◌≢◌, ℕ, zero, suc, ◌-◌, ◌*◌, ◌^◌, ◌<◌, ◌≤◌, Bool, true, false, cond, eqb, not, [], ◌∷◌, ◌++◌, length, refl, arith, inl}
use Rattle.std.proofs.lemmas.Nat.{pow_pos}
use Rattle.std.proofs.Math.Nat.{pow-suc}
use Rattle.micro_ir.specs.Steps.{pass_of, Fits, AllFit}
use Rattle.micro_ir.specs.WorkRows.{active_row, result_row, broadcast_row}
use Rattle.micro_ir.specs.Pieces.{StaysIn, commit, broadcast}
use Rattle.micro_ir.proofs.Folds.{copy-whole}
use Rattle.micro_ir.proofs.StepLists.{AllFit-append}
use Rattle.micro_ir.proofs.OneElement.{everywhere-fits, clear-fits, above-fits, ranged-fits, commit-fits}
use Rattle.micro_ir.proofs.Effects.{downs-fit, broadcast-fits}
use Rattle.gen_shift.specs.declared.kinds.Shift.{Shift}
use Rattle.gen_shift.specs.declared.kinds.Shift.TheVariants.{Sll, Srl, Sra}
use Rattle.micro_ir.proofs.Incrementing.{increment-fits}
use Rattle.gen_shift.specs.Rows.{moved_row, sign_row, more_row, shift_role, shifted_row, last_row, rounded_row, is_odd}
use Rattle.gen_shift.specs.Lists.{goes_up, move_range, slide, top_range, filling, keeping, stage, stages, signing, starting, shifting, shift_steps, mode_rows, mode_on, mode_steps, rounding, rounded_steps}
use Rattle.gen_shift.proofs.Barrel.{below-power}
use Rattle.gen_shift.proofs.OutCosts.{keeping-fits, starting-fits}

one-pass : (up : Bool) (h : ℕ) → 0 < h → length (pass_of up h) ≡ 1
one-pass up zero some = absurd (omega arith)
one-pass up (suc h) some = refl

pub move-stays : (w : ℕ) (up : Bool) (h : ℕ) → h < w → StaysIn w (move_range up w h)
move-stays w true h room = record { top = omega arith; low = omega arith; near = room }
move-stays w false h room = record { top = omega arith; low = omega arith; near = room }

pub top-stays : (w h : ℕ) → 0 < w → StaysIn w (top_range w h)
top-stays w h some = record { top = omega arith; low = omega arith; near = some }

-- a move by some places is one pass
pub move-pass : (w : ℕ) (up : Bool) (h : ℕ) → 0 < h → length (pass_of (move_range up w h).up (move_range up w h).times) ≡ 1
move-pass w true h some = one-pass true h some
move-pass w false h some = one-pass false h some

slide-fits : (w : ℕ) (up : Bool) (row out h : ℕ) → h < w → Fits w (slide w up row out h)
slide-fits w up row out h room = ranged-fits w (row ∷ []) (1 ∷ []) out (move_range up w h) (move-stays w up h room) (inl (copy-whole row))

filling-fits : (kind : Shift) (w h : ℕ) → 0 < w → AllFit w (filling kind w h)
filling-fits Sll w h some = tt
filling-fits Srl w h some = tt
filling-fits Sra w h some = (ranged-fits w (sign_row ∷ []) (1 ∷ []) moved_row (top_range w h) (top-stays w h some) (inl (copy-whole sign_row)), tt)

stage-fits : (kind : Shift) (keeps : Bool) (w b : ℕ) (p : Bool) (j h : ℕ) → j < w → 0 < h → h < w → AllFit w (stage kind keeps w b p j h)
unfolding stage
stage-fits kind keeps w b p j h low some room =
    AllFit-append w (broadcast w b j) _ (broadcast-fits w b j low) (
      clear-fits w moved_row,
      (
        slide-fits w (goes_up kind) (shift_role p) moved_row h room,
        AllFit-append w (filling kind w h) _ (filling-fits kind w h (omega arith)) (
          clear-fits w (shift_role (not p)),
          AllFit-append w (keeping keeps w p h) _ (keeping-fits keeps w p h some (omega arith))
              (everywhere-fits w (broadcast_row ∷ moved_row ∷ shift_role p ∷ []) (3 ∷ 4 ∷ 6 ∷ 7 ∷ []) (shift_role (not p)), tt),
        ),
      ),
    )

stages-fits : (kind : Shift) (keeps : Bool) (w b n : ℕ) → 2 ^ n ≤ w → AllFit w (stages kind keeps w b n)
unfolding stages
stages-fits kind keeps w b zero room = tt
stages-fits kind keeps w b (suc n) room =
    let d : 2 ^ suc n ≡ 2 ^ n * 2 = pow-suc 2 n in
    let some : 0 < 2 ^ n = pow_pos n in
    let small : n < 2 ^ n = below-power n in
    let half : 2 ^ n ≤ w = omega (arith, d, room) in
    let inside : n < w = omega arith in
    let less : 2 ^ n < w = omega (arith, d, room, some) in
    AllFit-append w (stages kind keeps w b n) (stage kind keeps w b (is_odd n) n (2 ^ n)) (stages-fits kind keeps w b n half) (stage-fits kind keeps w b (is_odd n) n (2 ^ n) inside some less)

signing-fits : (kind : Shift) (w a : ℕ) → 0 < w → AllFit w (signing kind w a)
signing-fits Sll w a some = tt
signing-fits Srl w a some = tt
signing-fits Sra w a some = (clear-fits w sign_row, (above-fits w (a ∷ []) (1 ∷ []) sign_row (w - 1) 0 (omega arith) (inl (copy-whole a)), downs-fit w sign_row (w - 1) (omega arith)))

pub shifting-fits : (kind : Shift) (keeps : Bool) (w l a b : ℕ) → w ≡ 2 ^ l → AllFit w (shifting kind keeps w l a b)
unfolding shifting
shifting-fits kind keeps w l a b is =
    let some : 0 < w = let p : 0 < 2 ^ l = pow_pos l in omega arith in
    AllFit-append w (starting keeps w) _ (starting-fits keeps w)
    (AllFit-append w (signing kind w a) _ (signing-fits kind w a some)
    (clear-fits w (shift_role false), (everywhere-fits w (a ∷ []) (1 ∷ []) (shift_role false), stages-fits kind keeps w b l (omega arith))))

pub row-high : (p : Bool) → 36 < shift_role p
row-high true = omega arith
row-high false = omega arith

pub shift-fits : (kind : Shift) (w l a b to : ℕ) → w ≡ 2 ^ l → AllFit w (shift_steps kind w l a b to)
unfolding shift_steps
shift-fits kind w l a b to is =
    let other : shifted_row l ≢ active_row = λ q. let h = row-high (is_odd l) in absurd (omega arith) in
    AllFit-append w (shifting kind false w l a b) (commit w (shifted_row l) to) (shifting-fits kind false w l a b is) (commit-fits w (shifted_row l) to other)

-- ---- where it is rounded

pub rounding-fits : (kind : Shift) (mode w l a b : ℕ) → w ≡ 2 ^ l → AllFit w (rounding kind mode w l a b)
rounding-fits kind mode w l a b is = by (eqb mode 2)
  where
    some : 0 < w
    some = let p : 0 < 2 ^ l = pow_pos l in omega arith

    t : ℕ
    t = shifted_row l

    g : ℕ
    g = last_row l

    by : (down : Bool) → AllFit w (cond down (shifting kind false w l a b) (shifting kind true w l a b ++ mode_steps w mode t g more_row))
    by true = shifting-fits kind false w l a b is
    by false =
        AllFit-append w (shifting kind true w l a b) (mode_steps w mode t g more_row) (shifting-fits kind true w l a b is) (increment-fits w t (mode_rows mode t g more_row) (mode_on mode) some)

pub rounded-high : (mode l : ℕ) → 35 < rounded_row mode l
rounded-high mode l = by (eqb mode 2)
  where
    by : (down : Bool) → 35 < cond down (shifted_row l) result_row
    by true = let h = row-high (is_odd l) in omega arith
    by false = omega arith

pub rounded-fits : (kind : Shift) (mode w l a b to : ℕ) → w ≡ 2 ^ l → AllFit w (rounded_steps kind mode w l a b to)
unfolding rounded_steps
rounded-fits kind mode w l a b to is =
    let other : rounded_row mode l ≢ active_row = λ q. let h = rounded-high mode l in absurd (omega arith) in
    AllFit-append w (rounding kind mode w l a b) (commit w (rounded_row mode l) to) (rounding-fits kind mode w l a b is) (commit-fits w (rounded_row mode l) to other)
