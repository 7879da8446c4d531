-- What it costs to keep what goes out, how long that is, and that it stays in its element.
use Rattle.std.proofs.Common.{◌≡◌, ℕ, zero, suc, ◌+◌, ◌-◌, ◌*◌, ◌/◌, ◌^◌, ◌<◌, ◌≤◌, Bool, true, false, cond, not, List, [], ◌∷◌, refl, arith, inl, inr}
use Rattle.std.proofs.lemmas.Nat.{pow_pos}
use Rattle.std.proofs.Math.Nat.{pow-suc}
use Rattle.micro_ir.specs.Steps.{Step, AllFit}
use Rattle.micro_ir.specs.WorkRows.{broadcast_row}
use Rattle.micro_ir.specs.Pieces.{above, below, clear}
use Rattle.micro_ir.specs.Measures.{counts}
use Rattle.micro_ir.proofs.Folds.{level-whole}
use Rattle.micro_ir.proofs.OneElement.{clear-fits, above-fits, below-fits}
use Rattle.micro_ir.proofs.Effects.{counts-same}
use Rattle.micro_ir.proofs.StepLists.{RowsFit, RowsFit-append, AllFit-append, steps_counts, steps_counts-append, pass_length, steps_length, steps_length-append}
use Rattle.gen_shift.specs.Rows.{shift_role, last_role, more_row}
use Rattle.gen_shift.specs.Lists.{strays, outs, keeping, starting}
use Rattle.gen_shift.specs.Kinds.{start_length, out_length}

-- the sum of the numbers below n
abbrev pub triangle : ℕ → ℕ
triangle zero = 0
triangle (suc n) = triangle n + n

-- ---- the bits below the last one

strays-counts : (t n : ℕ) → steps_counts (strays t n) ≡ counts n n (triangle n)
unfolding strays
strays-counts t zero = refl
strays-counts t (suc n) =
    rw (steps_counts-append (strays t n) (below (broadcast_row ∷ t ∷ []) (3 ∷ []) more_row n n ∷ []), strays-counts t n)
    (counts-same _ _ _ _ _ _ (omega arith) (omega arith) (omega arith))

strays-length : (t n : ℕ) → steps_length (strays t n) ≡ 3 * n - 1
unfolding strays
strays-length t zero = refl
strays-length t (suc n) =
    rw (steps_length-append (strays t n) (below (broadcast_row ∷ t ∷ []) (3 ∷ []) more_row n n ∷ []), strays-length t n) (longer n)
  where
    longer : (n : ℕ) → (3 * n - 1) + (1 + (pass_length n + 1) + 0) ≡ 3 * suc n - 1
    longer zero = omega arith
    longer (suc n) = omega arith

strays-rows : (t n : ℕ) → n ≤ 32 → RowsFit (strays t n)
unfolding strays
strays-rows t zero room = tt
strays-rows t (suc n) room = RowsFit-append (strays t n) (below (broadcast_row ∷ t ∷ []) (3 ∷ []) more_row n n ∷ []) (strays-rows t n (omega arith)) (omega arith, omega arith, tt)

strays-fits : (w t n : ℕ) → n ≤ w → AllFit w (strays t n)
unfolding strays
strays-fits w t zero room = tt
strays-fits w t (suc n) room =
    AllFit-append w (strays t n) (below (broadcast_row ∷ t ∷ []) (3 ∷ []) more_row n n ∷ []) (strays-fits w t n (omega arith))
    (below-fits w (broadcast_row ∷ t ∷ []) (3 ∷ []) more_row n n (omega arith) (omega arith) (inl (level-whole (broadcast_row ∷ t ∷ []) (3 ∷ []) refl)), tt)

-- ---- what goes out at a stage

abbrev last_steps : (w : ℕ) (p : Bool) (n : ℕ) → List Step
last_steps w p n =
    clear w (last_role (not p)) ∷ below (broadcast_row ∷ shift_role p ∷ []) (3 ∷ []) (last_role (not p)) n n ∷ above (broadcast_row ∷ last_role p ∷ []) (2 ∷ []) (last_role (not p)) 0 0 ∷ []

outs-counts : (w : ℕ) (p : Bool) (h : ℕ) → 0 < h → steps_counts (outs w p h) ≡ counts (h + 3) (h + 3) (triangle h)
unfolding outs
outs-counts w p zero some = absurd (omega arith)
outs-counts w p (suc n) some =
    let z : suc n - 1 ≡ n = omega arith in
    rw (z, steps_counts-append (strays (shift_role p) n) (last_steps w p n), strays-counts (shift_role p) n)
    (counts-same _ _ _ _ _ _ (omega arith) (omega arith) (omega arith))

outs-length : (w : ℕ) (p : Bool) (h : ℕ) → 0 < h → steps_length (outs w p h) ≡ 3 * h + 5
unfolding outs
outs-length w p zero some = absurd (omega arith)
outs-length w p (suc n) some =
    let z : suc n - 1 ≡ n = omega arith in
    rw (z, steps_length-append (strays (shift_role p) n) (last_steps w p n), strays-length (shift_role p) n) (longer n)
  where
    longer : (n : ℕ) → 2 + ((3 * n - 1) + (2 + (1 + (pass_length n + 1) + 2))) ≡ 3 * suc n + 5
    longer zero = omega arith
    longer (suc n) = omega arith

last-row : (p : Bool) → last_role p < 64
last-row true = omega arith
last-row false = omega arith

outs-rows : (w : ℕ) (p : Bool) (h : ℕ) → h ≤ 31 → RowsFit (outs w p h)
unfolding outs
outs-rows w p h room = (
  omega arith,
  omega arith,
  RowsFit-append (strays (shift_role p) (h - 1)) (last_steps w p (h - 1)) (strays-rows (shift_role p) (h - 1) (omega arith))
      (last-row (not p), omega arith, (last-row (not p), omega arith, (last-row (not p), omega arith, tt))),
)

outs-fits : (w : ℕ) (p : Bool) (h : ℕ) → 0 < h → h ≤ w → AllFit w (outs w p h)
unfolding outs
outs-fits w p h some room = (
  above-fits w (broadcast_row ∷ last_role p ∷ []) (3 ∷ []) more_row 0 0 (omega arith) (inr (refl, refl)),
  AllFit-append w (strays (shift_role p) (h - 1)) (last_steps w p (h - 1)) (strays-fits w (shift_role p) (h - 1) (omega arith)) (
    clear-fits w (last_role (not p)),
    (
      below-fits w (broadcast_row ∷ shift_role p ∷ []) (3 ∷ []) (last_role (not p)) (h - 1) (h - 1) (omega arith) (omega arith) (inl (level-whole (broadcast_row ∷ shift_role p ∷ []) (3 ∷ []) refl)),
      (above-fits w (broadcast_row ∷ last_role p ∷ []) (2 ∷ []) (last_role (not p)) 0 0 (omega arith) (inr (refl, refl)), tt),
    ),
  ),
)

-- ---- the same, where it is kept

-- the searches and the updates, and the passes
abbrev pub out_count : (keeps : Bool) (h : ℕ) → ℕ
out_count keeps h = cond keeps (h + 3) 0

abbrev pub out_passes : (keeps : Bool) (h : ℕ) → ℕ
out_passes keeps h = cond keeps (triangle h) 0

pub keeping-counts : (keeps : Bool) (w : ℕ) (p : Bool) (h : ℕ) → 0 < h → steps_counts (keeping keeps w p h) ≡ counts (out_count keeps h) (out_count keeps h) (out_passes keeps h)
keeping-counts true w p h some = outs-counts w p h some
keeping-counts false w p h some = refl

pub keeping-length : (keeps : Bool) (w : ℕ) (p : Bool) (h : ℕ) → 0 < h → steps_length (keeping keeps w p h) ≡ out_length keeps h
keeping-length true w p h some = outs-length w p h some
keeping-length false w p h some = refl

pub keeping-rows : (keeps : Bool) (w : ℕ) (p : Bool) (h : ℕ) → h ≤ 31 → RowsFit (keeping keeps w p h)
keeping-rows true w p h room = outs-rows w p h room
keeping-rows false w p h room = tt

pub keeping-fits : (keeps : Bool) (w : ℕ) (p : Bool) (h : ℕ) → 0 < h → h ≤ w → AllFit w (keeping keeps w p h)
keeping-fits true w p h some room = outs-fits w p h some room
keeping-fits false w p h some room = tt

-- before the first stage
abbrev pub start_count : (keeps : Bool) → ℕ
start_count keeps = cond keeps 2 0

pub starting-counts : (keeps : Bool) (w : ℕ) → steps_counts (starting keeps w) ≡ counts (start_count keeps) (start_count keeps) 0
starting-counts true w = refl
starting-counts false w = refl

pub starting-length : (keeps : Bool) (w : ℕ) → steps_length (starting keeps w) ≡ start_length keeps
starting-length true w = refl
starting-length false w = refl

pub starting-rows : (keeps : Bool) (w : ℕ) → RowsFit (starting keeps w)
starting-rows true w = (omega arith, omega arith, (omega arith, omega arith, tt))
starting-rows false w = tt

pub starting-fits : (keeps : Bool) (w : ℕ) → AllFit w (starting keeps w)
starting-fits true w = (clear-fits w more_row, (clear-fits w (last_role false), tt))
starting-fits false w = tt

-- ---- at n stages

abbrev pub out_counts : (keeps : Bool) (n : ℕ) → ℕ
out_counts keeps n = cond keeps (3 * n + (2 ^ n - 1)) 0

-- the sum of the triangles of the powers of two below 2^n
abbrev pub triangles : ℕ → ℕ
triangles zero = 0
triangles (suc n) = triangles n + triangle (2 ^ n)

abbrev pub all_passes : (keeps : Bool) (n : ℕ) → ℕ
all_passes keeps n = cond keeps (triangles n) 0

pub counts-next : (keeps : Bool) (n : ℕ) → out_counts keeps (suc n) ≡ out_counts keeps n + out_count keeps (2 ^ n)
counts-next true n =
    let d : 2 ^ suc n ≡ 2 ^ n * 2 = pow-suc 2 n in
    let some : 0 < 2 ^ n = pow_pos n in
    omega (arith, d, some)
counts-next false n = refl

pub passes-next : (keeps : Bool) (n : ℕ) → all_passes keeps (suc n) ≡ all_passes keeps n + out_passes keeps (2 ^ n)
passes-next true n = refl
passes-next false n = refl

twice-triangle : (n : ℕ) → 2 * triangle n + n ≡ n * n
twice-triangle zero = refl
twice-triangle (suc n) = let h : 2 * triangle n + n ≡ n * n = twice-triangle n in omega (arith, h)

six-triangles : (n : ℕ) → 6 * triangles n + 3 * 2 ^ n ≡ 2 ^ n * 2 ^ n + 2
six-triangles zero = refl
six-triangles (suc n) = rw (pow-suc 2 n) (step (triangles n) (triangle (2 ^ n)) (2 ^ n) (six-triangles n) (twice-triangle (2 ^ n)))
  where
    step : (s t p : ℕ) → 6 * s + 3 * p ≡ p * p + 2 → 2 * t + p ≡ p * p → 6 * (s + t) + 3 * (p * 2) ≡ (p * 2) * (p * 2) + 2
    step s t p h k = omega (arith, h, k)

-- they are a sixth of a product
pub triangles-are : (w l : ℕ) → w ≡ 2 ^ l → (w - 1) * (w - 2) / 6 ≡ triangles l
triangles-are w l is =
    let some : 0 < w = let p : 0 < 2 ^ l = pow_pos l in omega arith in
    let h : 6 * triangles l + 3 * w ≡ w * w + 2 = rw is (six-triangles l) in
    let q : (w - 1) * (w - 2) ≡ 6 * triangles l = by w (triangles l) some h in
    rw q (omega arith)
  where
    by : (w s : ℕ) → 0 < w → 6 * s + 3 * w ≡ w * w + 2 → (w - 1) * (w - 2) ≡ 6 * s
    by zero s some h = absurd (omega arith)
    by (suc zero) s some h = omega (arith, h)
    by (suc (suc u)) s some h =
        let a : suc (suc u) - 1 ≡ u + 1 = omega arith in
        let b : suc (suc u) - 2 ≡ u = omega arith in
        let c : (u + 1) * u ≡ u * u + u = omega arith in
        let d : suc (suc u) * suc (suc u) ≡ u * u + 4 * u + 4 = omega arith in
        rw (a, b) (omega (arith, h, c, d))
