-- What the lists of shifts cost, and how long they are.
use Rattle.std.proofs.Common.{◌≡◌, ℕ, ◌+◌, ◌-◌, ◌*◌, ◌^◌, ◌<◌, ◌≤◌, Bool, true, false, not, List, [], ◌∷◌, ◌++◌, zero, suc, refl, sym, ◌∙◌, ap, arith}
use Rattle.std.proofs.lemmas.Nat.{pow_pos}
use Rattle.std.proofs.Math.Nat.{pow-suc, mul-le-mul_right}
use Rattle.std.proofs.Math.Pow.{pow_mono}
use Rattle.cam_chain.specs.declared.counts.Counts.{Counts}
use Rattle.micro_ir.specs.Replay.{counts_and}
use Rattle.micro_ir.specs.Steps.{Step, micros}
use Rattle.micro_ir.specs.WorkRows.{broadcast_row}
use Rattle.micro_ir.specs.Pieces.{above, clear, commit, ups, downs, broadcast, everywhere}
use Rattle.micro_ir.specs.Measures.{counts, Measured}
use Rattle.micro_ir.proofs.StepLists.{RowsFit, RowsFit-append, pass_length, steps_counts, steps_counts-append, tally-micros, steps_length, steps_length-append, length-micros, AllInRange-micros}
use Rattle.micro_ir.proofs.Effects.{ups-counts, downs-counts, broadcast-tally, broadcast-length}
use Rattle.gen_shift.specs.declared.kinds.Shift.{Shift}
use Rattle.gen_shift.specs.declared.kinds.Shift.TheVariants.{Sll, Srl, Sra}
use Rattle.gen_shift.specs.Rows.{moved_row, sign_row, shift_role, shifted_row, is_odd}
use Rattle.gen_shift.specs.Lists.{goes_up, slide, filling, merging, keeping, stage, stages, signing, starting, shifting, shift_steps}
use Rattle.gen_shift.specs.Kinds.{shift_counts, shift_length, raw_counts, raw_length, sign_length, fill_length, stage_length, start_length, out_length, out_lengths, stages_length, shifting_length}
use Rattle.gen_shift.proofs.OutCosts.{start_count, starting-counts, starting-length, starting-rows, out_count, out_passes, out_counts, all_passes, counts-next, passes-next, keeping-counts, keeping-length, keeping-rows}
use Rattle.gen_shift.proofs.Barrel.{below-power}

counts-same : (a b c x y z : ℕ) → a ≡ x → b ≡ y → c ≡ z → counts a b c ≡ counts x y z
counts-same a b c x y z p q r = λ i. counts (p i) (q i) (r i)

pub counts-add : (x y : Counts) (a b c d e f : ℕ) → x ≡ counts a b c → y ≡ counts d e f → counts_and x y ≡ counts (a + d) (b + e) (c + f)
counts-add x y a b c d e f p q = rw (p, q) refl

-- ---- counts

broadcast-counts : (w b j : ℕ) → j < w → steps_counts (broadcast w b j) ≡ counts (w + 1) (w + 1) (w - 1)
broadcast-counts w b j low = sym (tally-micros w (broadcast w b j)) ∙ broadcast-tally w b j low

-- the searches and the updates that the sign takes at a stage
abbrev fill_count : Shift → ℕ
fill_count Sra = 1
fill_count _ = 0

-- a stage after its broadcast
abbrev after_broadcast : Shift → (keeps : Bool) (w : ℕ) (p : Bool) (h : ℕ) → List Step
after_broadcast kind keeps w p h =
    clear w moved_row ∷ slide w (goes_up kind) (shift_role p) moved_row h ∷ (filling kind w h ++ (clear w (shift_role (not p)) ∷ (keeping keeps w p h ++ merging w p ∷ [])))

-- what follows the bits that go out
out-merged : (keeps : Bool) (w : ℕ) (p : Bool) (h : ℕ) → 0 < h
    → steps_counts (keeping keeps w p h ++ merging w p ∷ []) ≡ counts (out_count keeps h + 4) (out_count keeps h + 1) (out_passes keeps h)
out-merged keeps w p h some =
    steps_counts-append (keeping keeps w p h) (merging w p ∷ []) ∙ rw (keeping-counts keeps w p h some) (counts-same _ _ _ _ _ _ (omega arith) (omega arith) (omega arith))

after-counts : (kind : Shift) (keeps : Bool) (w : ℕ) (p : Bool) (h : ℕ) → 0 < h
    → steps_counts (after_broadcast kind keeps w p h) ≡ counts (7 + fill_count kind + out_count keeps h) (4 + fill_count kind + out_count keeps h) (h + out_passes keeps h)
after-counts Sll keeps w p h some = rw (out-merged keeps w p h some) (counts-same _ _ _ _ _ _ (omega arith) (omega arith) (omega arith))
after-counts Srl keeps w p h some = rw (out-merged keeps w p h some) (counts-same _ _ _ _ _ _ (omega arith) (omega arith) (omega arith))
after-counts Sra keeps w p h some = rw (out-merged keeps w p h some) (counts-same _ _ _ _ _ _ (omega arith) (omega arith) (omega arith))

stage-counts : (kind : Shift) (keeps : Bool) (w b : ℕ) (p : Bool) (j h : ℕ) → j < w → 0 < h
    → steps_counts (stage kind keeps w b p j h) ≡ counts (w + 8 + fill_count kind + out_count keeps h) (w + 5 + fill_count kind + out_count keeps h) (w - 1 + h + out_passes keeps h)
unfolding stage
stage-counts kind keeps w b p j h low some =
    steps_counts-append (broadcast w b j) (after_broadcast kind keeps w p h)
    ∙ counts-add _ _ _ _ _ _ _ _ (broadcast-counts w b j low) (after-counts kind keeps w p h some)
    ∙ counts-same _ _ _ _ _ _ (omega arith) (omega arith) (omega arith)

-- the passes of one stage more, and of the sign
more-passes : (n m p q x y z : ℕ) → q ≡ p * 2 → 0 < p → z ≡ x + y → (n * m + (p - 1) + x) + (m + p + y) ≡ suc n * m + (q - 1) + z
more-passes n m p q x y z d some e = omega (arith, d, some, e)

more-count : (n m x y z : ℕ) → z ≡ x + y → (n * m + x) + (m + y) ≡ suc n * m + z
more-count n m x y z e = omega (arith, e)

plain-passes : (l m : ℕ) → 0 + (l * m + m) ≡ (l + 1) * m
plain-passes l m = omega arith

signed-passes : (l m : ℕ) → m + (l * m + m) ≡ (l + 2) * m
signed-passes l m = omega arith

stages-counts : (kind : Shift) (keeps : Bool) (w b n : ℕ) → 2 ^ n ≤ w
    → steps_counts (stages kind keeps w b n)
    ≡ counts (n * (w + 8 + fill_count kind) + out_counts keeps n) (n * (w + 5 + fill_count kind) + out_counts keeps n) (n * (w - 1) + (2 ^ n - 1) + all_passes keeps n)
unfolding stages
stages-counts kind true w b zero room = counts-same 0 0 0 _ _ _ (omega arith) (omega arith) (omega arith)
stages-counts kind false w b zero room = counts-same 0 0 0 _ _ _ (omega arith) (omega arith) (omega arith)
stages-counts kind keeps w b (suc n) room =
    let d : 2 ^ suc n ≡ 2 ^ n * 2 = pow-suc 2 n in
    let some : 0 < 2 ^ n = pow_pos n in
    let small : n < 2 ^ n = below-power n in
    let half : 2 ^ n ≤ w = omega (arith, d, room) in
    let inside : n < w = omega arith in
    let more = counts-next keeps n in
    steps_counts-append (stages kind keeps w b n) (stage kind keeps w b (is_odd n) n (2 ^ n))
    ∙ counts-add _ _ _ _ _ _ _ _ (stages-counts kind keeps w b n half) (stage-counts kind keeps w b (is_odd n) n (2 ^ n) inside some)
    ∙ counts-same _ _ _ _ _ _ (more-count n (w + 8 + fill_count kind) (out_counts keeps n) (out_count keeps (2 ^ n)) (out_counts keeps (suc n)) more)
    (more-count n (w + 5 + fill_count kind) (out_counts keeps n) (out_count keeps (2 ^ n)) (out_counts keeps (suc n)) more)
    (more-passes n (w - 1) (2 ^ n) (2 ^ suc n) (all_passes keeps n) (out_passes keeps (2 ^ n)) (all_passes keeps (suc n)) d some (passes-next keeps n))

-- the searches, the updates and the passes that the sign takes before the stages
abbrev sign_count : Shift → (w : ℕ) → ℕ
sign_count Sra w = w + 1
sign_count _ w = 0

abbrev sign_passes : Shift → (w : ℕ) → ℕ
sign_passes Sra w = w - 1
sign_passes _ w = 0

signing-counts : (kind : Shift) (w a : ℕ) → 0 < w → steps_counts (signing kind w a) ≡ counts (sign_count kind w) (sign_count kind w) (sign_passes kind w)
signing-counts Sll w a some = refl
signing-counts Srl w a some = refl
signing-counts Sra w a some = rw (downs-counts sign_row (w - 1)) (counts-same _ _ _ _ _ _ (omega arith) (omega arith) (omega arith))

whole-counts : (kind : Shift) (keeps : Bool) (w l a b : ℕ) → w ≡ 2 ^ l
    → steps_counts (shifting kind keeps w l a b)
    ≡ counts (sign_count kind w + (2 + l * (w + 8 + fill_count kind)) + (start_count keeps + out_counts keeps l))
    (sign_count kind w + (2 + l * (w + 5 + fill_count kind)) + (start_count keeps + out_counts keeps l))
    (sign_passes kind w + (l * (w - 1) + (w - 1)) + all_passes keeps l)
unfolding shifting
whole-counts kind keeps w l a b is =
    let some : 0 < w = let p : 0 < 2 ^ l = pow_pos l in omega arith in
    let first : List Step = clear w (shift_role false) ∷ everywhere w (a ∷ []) (1 ∷ []) (shift_role false) true ∷ [] in
    steps_counts-append (starting keeps w) (signing kind w a ++ (first ++ stages kind keeps w b l))
    ∙ counts-add _ _ _ _ _ _ _ _ (starting-counts keeps w)
    (steps_counts-append (signing kind w a) (first ++ stages kind keeps w b l)
    ∙ counts-add _ _ _ _ _ _ _ _ (signing-counts kind w a some) (steps_counts-append first (stages kind keeps w b l) ∙ counts-add _ _ 2 2 0 _ _ _ refl (stages-counts kind keeps w b l (omega arith))))
    ∙ counts-same _ _ _ _ _ _ (omega arith) (omega arith) (omega (arith, is))

-- beside those that keep nothing
pub shifting-counts : (kind : Shift) (keeps : Bool) (w l a b : ℕ) → w ≡ 2 ^ l
    → steps_counts (shifting kind keeps w l a b) ≡ counts_and (raw_counts kind w l) (counts (start_count keeps + out_counts keeps l) (start_count keeps + out_counts keeps l) (all_passes keeps l))
shifting-counts Sll keeps w l a b is =
    whole-counts Sll keeps w l a b is ∙ counts-same _ _ _ _ _ _ (omega arith) (omega arith) (let h = plain-passes l (w - 1) in omega (arith, h))
shifting-counts Srl keeps w l a b is =
    whole-counts Srl keeps w l a b is ∙ counts-same _ _ _ _ _ _ (omega arith) (omega arith) (let h = plain-passes l (w - 1) in omega (arith, h))
shifting-counts Sra keeps w l a b is =
    whole-counts Sra keeps w l a b is ∙ counts-same _ _ _ _ _ _ (omega arith) (omega arith) (let h = signed-passes l (w - 1) in omega (arith, h))

pub raw-counts : (kind : Shift) (w l a b : ℕ) → w ≡ 2 ^ l → steps_counts (shifting kind false w l a b) ≡ raw_counts kind w l
raw-counts kind w l a b is = shifting-counts kind false w l a b is ∙ counts-same _ _ _ _ _ _ (omega arith) (omega arith) (omega arith)

-- ---- lengths

broadcast-steps : (w b j : ℕ) → j < w → steps_length (broadcast w b j) ≡ 3 * w + 1
broadcast-steps w b j low = sym (length-micros w (broadcast w b j)) ∙ broadcast-length w b j low

pass-one : (h : ℕ) → 0 < h → pass_length h ≡ 1
pass-one zero some = absurd (omega arith)
pass-one (suc h) some = refl

out-length : (keeps : Bool) (w : ℕ) (p : Bool) (h : ℕ) → 0 < h → steps_length (keeping keeps w p h ++ merging w p ∷ []) ≡ out_length keeps h + 5
out-length keeps w p h some = steps_length-append (keeping keeps w p h) (merging w p ∷ []) ∙ rw (keeping-length keeps w p h some) (omega arith)

after-length : (kind : Shift) (keeps : Bool) (w : ℕ) (p : Bool) (h : ℕ) → 0 < h → steps_length (after_broadcast kind keeps w p h) ≡ 12 + fill_length kind + out_length keeps h
after-length Sll keeps w p h some = rw (pass-one h some, out-length keeps w p h some) (omega arith)
after-length Srl keeps w p h some = rw (pass-one h some, out-length keeps w p h some) (omega arith)
after-length Sra keeps w p h some = rw (pass-one h some, out-length keeps w p h some) (omega arith)

stage-steps : (kind : Shift) (keeps : Bool) (w b : ℕ) (p : Bool) (j h : ℕ) → j < w → 0 < h → steps_length (stage kind keeps w b p j h) ≡ stage_length kind w + out_length keeps h
unfolding stage
stage-steps kind keeps w b p j h low some =
    steps_length-append (broadcast w b j) (after_broadcast kind keeps w p h) ∙ rw (broadcast-steps w b j low, after-length kind keeps w p h some) (omega arith)

-- no stage, and one more
pub lengths-none : (kind : Shift) (keeps : Bool) (w : ℕ) → stages_length kind keeps w 0 ≡ 0
lengths-none kind true w = omega arith
lengths-none kind false w = omega arith

pub lengths-next : (kind : Shift) (keeps : Bool) (w n : ℕ) → stages_length kind keeps w (suc n) ≡ stages_length kind keeps w n + (stage_length kind w + out_length keeps (2 ^ n))
lengths-next kind true w n =
    let d : 2 ^ suc n ≡ 2 ^ n * 2 = pow-suc 2 n in
    let some : 0 < 2 ^ n = pow_pos n in
    omega (arith, d, some)
lengths-next kind false w n = omega arith

-- fewer stages take no more
pub lengths-most : (kind : Shift) (keeps : Bool) (w m n : ℕ) → m ≤ n → stages_length kind keeps w m ≤ stages_length kind keeps w n
lengths-most kind keeps w m n few = by (stage_length kind w) keeps (pow_mono {i = m} {j = n} few)
  where
    by : (each : ℕ) (keeps : Bool) → 2 ^ m ≤ 2 ^ n → m * each + out_lengths keeps m ≤ n * each + out_lengths keeps n
    by each true power = let h : m * each ≤ n * each = mul-le-mul_right each few in omega (arith, h, power, few)
    by each false power = let h : m * each ≤ n * each = mul-le-mul_right each few in omega (arith, h)

stages-steps : (kind : Shift) (keeps : Bool) (w b n : ℕ) → 2 ^ n ≤ w → steps_length (stages kind keeps w b n) ≡ stages_length kind keeps w n
unfolding stages
stages-steps kind keeps w b zero room = sym (lengths-none kind keeps w)
stages-steps kind keeps w b (suc n) room =
    let d : 2 ^ suc n ≡ 2 ^ n * 2 = pow-suc 2 n in
    let some : 0 < 2 ^ n = pow_pos n in
    let small : n < 2 ^ n = below-power n in
    let half : 2 ^ n ≤ w = omega (arith, d, room) in
    let inside : n < w = omega arith in
    steps_length-append (stages kind keeps w b n) (stage kind keeps w b (is_odd n) n (2 ^ n))
    ∙ rw (stages-steps kind keeps w b n half, stage-steps kind keeps w b (is_odd n) n (2 ^ n) inside some) (sym (lengths-next kind keeps w n))

downs-steps : (row n : ℕ) → steps_length (downs row n) ≡ 3 * n
unfolding downs
downs-steps row zero = refl
downs-steps row (suc n) = rw (downs-steps row n) (omega arith)

signing-steps : (kind : Shift) (w a : ℕ) → 0 < w → steps_length (signing kind w a) ≡ sign_length kind w
signing-steps Sll w a some = refl
signing-steps Srl w a some = refl
signing-steps Sra w a some = rw (downs-steps sign_row (w - 1)) (omega arith)

whole-steps : (kind : Shift) (keeps : Bool) (w l a b : ℕ) → w ≡ 2 ^ l
    → steps_length (shifting kind keeps w l a b) ≡ start_length keeps + (sign_length kind w + (4 + stages_length kind keeps w l))
unfolding shifting
whole-steps kind keeps w l a b is =
    let some : 0 < w = let p : 0 < 2 ^ l = pow_pos l in omega arith in
    let first : List Step = clear w (shift_role false) ∷ everywhere w (a ∷ []) (1 ∷ []) (shift_role false) true ∷ [] in
    steps_length-append (starting keeps w) (signing kind w a ++ (first ++ stages kind keeps w b l))
    ∙ rw (starting-length keeps w, steps_length-append (signing kind w a) (first ++ stages kind keeps w b l), signing-steps kind w a some, stages-steps kind keeps w b l (omega arith)) (omega arith)

-- the length of a list, part by part
pub raw-size : (kind : Shift) (keeps : Bool) (w l : ℕ) → start_length keeps + (sign_length kind w + (4 + stages_length kind keeps w l)) ≡ shifting_length kind keeps w l
raw-size Sll keeps w l = omega arith
raw-size Srl keeps w l = omega arith
raw-size Sra keeps w l = omega arith

pub plain-size : (kind : Shift) (w l : ℕ) → shifting_length kind false w l ≡ raw_length kind w l
plain-size kind w l = omega arith

pub shift-size : (kind : Shift) (w l : ℕ) → raw_length kind w l + 4 ≡ shift_length kind w l
shift-size Sll w l = omega arith
shift-size Srl w l = omega arith
shift-size Sra w l = omega arith

-- no list of a shift is longer
pub shift-few : (kind : Shift) (w l : ℕ) → shift_length kind w l ≤ l * (3 * w + 15) + (3 * w + 9)
shift-few Sll w l = omega arith
shift-few Srl w l = omega arith
shift-few Sra w l = omega arith

-- ---- in a chain's range

ups-rows : (row j n : ℕ) → row < 64 → RowsFit (ups row j n)
unfolding ups
ups-rows row j zero h = tt
ups-rows row j (suc n) h = RowsFit-append (ups row j n) (above (row ∷ []) (1 ∷ []) row (j + n) 1 ∷ []) (ups-rows row j n h) (h, omega arith, tt)

downs-rows : (row n : ℕ) → row < 64 → RowsFit (downs row n)
unfolding downs
downs-rows row zero h = tt
downs-rows row (suc n) h = (h, omega arith, downs-rows row n h)

broadcast-rows : (w b j : ℕ) → RowsFit (broadcast w b j)
unfolding broadcast
broadcast-rows w b j =
    (omega arith, omega arith, (omega arith, omega arith, RowsFit-append (ups broadcast_row j (w - 1 - j)) (downs broadcast_row j) (ups-rows broadcast_row j (w - 1 - j) (omega arith)) (downs-rows broadcast_row j (omega arith))))

pub role-row : (p : Bool) → shift_role p < 64
role-row true = omega arith
role-row false = omega arith

out-rows : (keeps : Bool) (w : ℕ) (p : Bool) (h : ℕ) → h ≤ 31 → RowsFit (keeping keeps w p h ++ merging w p ∷ [])
out-rows keeps w p h room = RowsFit-append (keeping keeps w p h) (merging w p ∷ []) (keeping-rows keeps w p h room) (role-row (not p), omega arith, tt)

after-rows : (kind : Shift) (keeps : Bool) (w : ℕ) (p : Bool) (h : ℕ) → h ≤ 31 → RowsFit (after_broadcast kind keeps w p h)
after-rows Sll keeps w p h room = (omega arith, omega arith, (omega arith, room, (role-row (not p), omega arith, out-rows keeps w p h room)))
after-rows Srl keeps w p h room = (omega arith, omega arith, (omega arith, room, (role-row (not p), omega arith, out-rows keeps w p h room)))
after-rows Sra keeps w p h room = (omega arith, omega arith, (omega arith, room, (omega arith, omega arith, (role-row (not p), omega arith, out-rows keeps w p h room))))

stage-rows : (kind : Shift) (keeps : Bool) (w b : ℕ) (p : Bool) (j h : ℕ) → h ≤ 31 → RowsFit (stage kind keeps w b p j h)
unfolding stage
stage-rows kind keeps w b p j h room = RowsFit-append (broadcast w b j) (after_broadcast kind keeps w p h) (broadcast-rows w b j) (after-rows kind keeps w p h room)

stages-rows : (kind : Shift) (keeps : Bool) (w b n : ℕ) → 2 ^ n ≤ 32 → RowsFit (stages kind keeps w b n)
unfolding stages
stages-rows kind keeps w b zero room = tt
stages-rows kind keeps w b (suc n) room =
    let d : 2 ^ suc n ≡ 2 ^ n * 2 = pow-suc 2 n in
    let half : 2 ^ n ≤ 31 = omega (arith, d, room) in
    RowsFit-append (stages kind keeps w b n) (stage kind keeps w b (is_odd n) n (2 ^ n)) (stages-rows kind keeps w b n (omega arith)) (stage-rows kind keeps w b (is_odd n) n (2 ^ n) half)

signing-rows : (kind : Shift) (w a : ℕ) → RowsFit (signing kind w a)
signing-rows Sll w a = tt
signing-rows Srl w a = tt
signing-rows Sra w a = (omega arith, omega arith, (omega arith, omega arith, downs-rows sign_row (w - 1) (omega arith)))

pub shifting-rows : (kind : Shift) (keeps : Bool) (w l a b : ℕ) → 2 ^ l ≤ 32 → RowsFit (shifting kind keeps w l a b)
unfolding shifting
shifting-rows kind keeps w l a b room =
    RowsFit-append (starting keeps w) _ (starting-rows keeps w)
    (RowsFit-append (signing kind w a) _ (signing-rows kind w a) (omega arith, omega arith, (omega arith, omega arith, stages-rows kind keeps w b l room)))

-- ---- measured

pub shifting-steps : (kind : Shift) (keeps : Bool) (w l a b : ℕ) → w ≡ 2 ^ l → steps_length (shifting kind keeps w l a b) ≡ shifting_length kind keeps w l
shifting-steps kind keeps w l a b is = whole-steps kind keeps w l a b is ∙ raw-size kind keeps w l

pub raw-measured : (kind : Shift) (w l a b : ℕ) → w ≡ 2 ^ l → w ≤ 32 → Measured (raw_counts kind w l) (raw_length kind w l) (micros w (shifting kind false w l a b))
raw-measured kind w l a b is room =
    let few : 2 ^ l ≤ 32 = omega arith in
    record {
      cost = tally-micros w (shifting kind false w l a b) ∙ raw-counts kind w l a b is;
      count = length-micros w (shifting kind false w l a b) ∙ shifting-steps kind false w l a b is ∙ plain-size kind w l;
      range = λ columns. AllInRange-micros columns w (shifting kind false w l a b) (shifting-rows kind false w l a b few);
    }

pub more-counts : (kind : Shift) (w l : ℕ) → counts_and (raw_counts kind w l) (counts 2 2 0) ≡ shift_counts kind w l
more-counts Sll w l = counts-same _ _ _ _ _ _ (omega arith) (omega arith) (omega arith)
more-counts Srl w l = counts-same _ _ _ _ _ _ (omega arith) (omega arith) (omega arith)
more-counts Sra w l = counts-same _ _ _ _ _ _ (omega arith) (omega arith) (omega arith)

pub shift-measured : (kind : Shift) (w l a b to : ℕ) → w ≡ 2 ^ l → w ≤ 32 → to < 32 → Measured (shift_counts kind w l) (shift_length kind w l) (micros w (shift_steps kind w l a b to))
unfolding shift_steps
shift-measured kind w l a b to is room register =
    let few : 2 ^ l ≤ 32 = omega arith in
    let first = shifting kind false w l a b in
    let last = commit w (shifted_row l) to in
    record {
      cost = tally-micros w (first ++ last) ∙ steps_counts-append first last ∙ ap (λ (c : Counts). counts_and c (counts 2 2 0)) (raw-counts kind w l a b is) ∙ more-counts kind w l;
      count = length-micros w (first ++ last) ∙ steps_length-append first last ∙ rw (shifting-steps kind false w l a b is ∙ plain-size kind w l) (shift-size kind w l);
      range = λ columns. AllInRange-micros columns w (first ++ last) (RowsFit-append first last (shifting-rows kind false w l a b few) (omega arith, omega arith, (omega arith, omega arith, tt)));
    }

-- ---- the extension

ups-steps : (row j n : ℕ) → steps_length (ups row j n) ≡ 3 * n
unfolding ups
ups-steps row j zero = refl
ups-steps row j (suc n) = rw (steps_length-append (ups row j n) (above (row ∷ []) (1 ∷ []) row (j + n) 1 ∷ []), ups-steps row j n) (omega arith)

pub ups-measured : (w row j n : ℕ) → row < 64 → Measured (counts n n n) (3 * n) (micros w (ups row j n))
ups-measured w row j n h =
    record {
      cost = tally-micros w (ups row j n) ∙ ups-counts row j n;
      count = length-micros w (ups row j n) ∙ ups-steps row j n;
      range = λ columns. AllInRange-micros columns w (ups row j n) (ups-rows row j n h);
    }
