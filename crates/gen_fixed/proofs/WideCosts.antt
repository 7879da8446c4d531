-- What clips of wide numbers cost, how long they are, that a chain can run them, and how they are written.
use Rattle.std.proofs.Common.{◌≡◌, ℕ, zero, suc, ◌+◌, ◌-◌, ◌*◌, ◌/◌, ◌<◌, ◌≤◌, true, List, [], ◌∷◌, ◌++◌, length, refl, ◌∙◌, ap, arith}
use Rattle.micro_ir.specs.Measures.{Measured}
use Rattle.micro_ir.specs.Pieces.{everywhere, below, clear, downs, broadcast}
use Rattle.micro_ir.specs.Steps.{Step, micro, micros}
use Rattle.micro_ir.specs.WorkRows.{broadcast_row}
use Rattle.micro_ir.proofs.StepLists.{micros-append, micros-one}
use Rattle.gen_arith.proofs.Costs.{counts-same}
use Rattle.row_sums.proofs.Costs.{Sized, sized-append, sized-as, measured, none-sized, clear-sized, downs-sized, broadcast-sized, pass-one}
use Rattle.gen_fixed.specs.declared.kinds.Clipping.{Clipping}
use Rattle.gen_fixed.specs.declared.kinds.Clipping.TheVariants.{Clipu, Clip}
use Rattle.gen_fixed.specs.Lists.{overflow_row, clipped_row, bounded, high_bits, differing, clipping_unsigned, clipping_signed, clipping}
use Rattle.gen_fixed.specs.Kinds.{clip_counts, clip_length}
use Rattle.gen_fixed.proofs.Costs.{bounded-sized}

-- ---- costs

-- the sum of the numbers below n + 1
abbrev sums : ℕ → ℕ
sums zero = 0
sums (suc n) = sums n + suc n

twice : (n : ℕ) → 2 * sums n ≡ n * (n + 1)
twice zero = refl
twice (suc n) = let h = twice n in omega (arith, h)

sums-is : (n : ℕ) → sums n ≡ n * (n + 1) / 2
sums-is n = let h = twice n in omega (arith, h)

-- a step below the place that it reads
below-sized : (inputs on : List ℕ) (t j h : ℕ) (ts : List ℕ) → h ≤ 31 → 0 < h → on ≡ t ∷ ts
    → Sized (length (t ∷ ts)) 1 h (length (t ∷ ts) + 2) (below inputs on overflow_row j h ∷ [])
below-sized inputs on t j h ts few some is =
    rw is (record { cost = counts-same _ _ _ _ _ _ (omega arith) refl (omega arith); long = rw (pass-one h some) (omega arith); rows = (omega arith, few, tt) })

high-sized : (x w m : ℕ) → m ≤ 31 → Sized m m (sums m) (3 * m) (high_bits x w m)
unfolding high_bits
high-sized x w zero few = none-sized
high-sized x w (suc m) few =
    sized-as (sized-append (high_bits x w m) (below (x ∷ []) (1 ∷ []) overflow_row (w + m) (m + 1) ∷ []) (high-sized x w m (omega arith)) (below-sized (x ∷ []) (1 ∷ []) 1 (w + m) (m + 1) [] (omega arith) (omega arith) refl))
    (omega arith) (omega arith) (omega arith) (omega arith)

-- one step at the place itself, and m more
differing-sized : (x n m : ℕ) → m ≤ 31 → Sized (2 * m + 2) (m + 1) (sums m) (4 * m + 3) (differing x n (suc m))
unfolding differing
differing-sized x n zero few = record { cost = refl; long = refl; rows = (omega arith, omega arith, tt) }
differing-sized x n (suc m) few =
    sized-as (sized-append (differing x n (suc m)) (below (x ∷ broadcast_row ∷ []) (1 ∷ 2 ∷ []) overflow_row (n + suc m) (suc m) ∷ []) (differing-sized x n m (omega arith))
    (below-sized (x ∷ broadcast_row ∷ []) (1 ∷ 2 ∷ []) 1 (n + suc m) (suc m) (2 ∷ []) few (omega arith) refl))
    (omega arith) (omega arith) refl (omega arith)

unsigned-sized : (n x : ℕ) → n ≤ 30 → Sized (2 * n + 6) (2 * n + 4) (sums (suc n) + n) (6 * n + 11) (clipping_unsigned (suc n) x)
unfolding clipping_unsigned
unsigned-sized n x few =
    let w = suc n in
    let d = 2 * w in
    let z : suc n - 1 ≡ n = omega arith in
    let first = clear d overflow_row ∷ [] in
    let found = high_bits x w w in
    let spread = downs overflow_row (w - 1) in
    let last : List Step = clear d clipped_row ∷ everywhere d (x ∷ overflow_row ∷ []) (1 ∷ 2 ∷ 3 ∷ []) clipped_row true ∷ [] in
    let s : Sized n n n (3 * n) spread = rw z (downs-sized overflow_row n (omega arith)) in
    let l : Sized 4 2 0 6 last = record { cost = refl; long = refl; rows = (omega arith, omega arith, (omega arith, omega arith, tt)) } in
    sized-as (sized-append first (found ++ (spread ++ last)) (clear-sized d overflow_row (omega arith)) (sized-append found (spread ++ last) (high-sized x w w (omega arith)) (sized-append spread last s l)))
    (omega arith) (omega arith) (omega arith) (omega arith)

signed-sized : (n x : ℕ) → n ≤ 31 → Sized (5 * n + 15) (4 * n + 8) (3 * n + 1 + sums n) (13 * n + 24) (clipping_signed (suc n) x)
unfolding clipping_signed
signed-sized n x few =
    let w = suc n in
    let d = 2 * w in
    let z : suc n - 1 ≡ n = omega arith in
    let cast = broadcast d x (d - 1) in
    let first = clear d overflow_row ∷ [] in
    let found = differing x (w - 1) w in
    let spread = downs overflow_row (w - 1) in
    let last = bounded d w x clipped_row in
    let s : Sized n n n (3 * n) spread = rw z (downs-sized overflow_row n (omega arith)) in
    sized-as (sized-append cast (first ++ (found ++ (spread ++ last))) (broadcast-sized d x (d - 1) (omega arith))
    (sized-append first (found ++ (spread ++ last)) (clear-sized d overflow_row (omega arith)) (sized-append found (spread ++ last) (differing-sized x (w - 1) n few) (sized-append spread last s (bounded-sized d w x clipped_row (omega arith))))))
    (omega arith) (omega arith) (omega arith) (omega arith)

pub clip-measured : (kind : Clipping) (w x : ℕ) → 0 < w → w ≤ 31 → Measured (clip_counts kind w) (clip_length kind w) (micros (2 * w) (clipping kind w x))
clip-measured kind zero x some few = absurd (omega arith)
clip-measured Clipu (suc n) x some few =
    let p = sums-is (suc n) in
    let z : suc n - 1 ≡ n = omega arith in
    measured (2 * suc n) (clipping_unsigned (suc n) x) (sized-as (unsigned-sized n x (omega arith)) (omega arith) (omega arith) (rw z (omega (arith, p))) (omega arith))
clip-measured Clip (suc n) x some few =
    let p = sums-is n in
    let z : suc n - 1 ≡ n = omega arith in
    let q : suc n * n / 2 ≡ n * (n + 1) / 2 = ap (λ (m : ℕ). m / 2) (omega arith) in
    measured (2 * suc n) (clipping_signed (suc n) x) (sized-as (signed-sized n x (omega arith)) (omega arith) (omega arith) (rw (z, q) (omega (arith, p))) (omega arith))

-- ---- how they are written

pub high-none : (d x w : ℕ) → micros d (high_bits x w 0) ≡ []
unfolding high_bits micros
high-none d x w = refl

pub high-more : (d x w m : ℕ) → micros d (high_bits x w (m + 1)) ≡ micros d (high_bits x w m) ++ micro d (below (x ∷ []) (1 ∷ []) overflow_row (w + m) (m + 1))
unfolding high_bits
high-more d x w m =
    let e : m + 1 ≡ suc m = omega arith in
    let step = below (x ∷ []) (1 ∷ []) overflow_row (w + m) (m + 1) in
    ap (λ (k : ℕ). micros d (high_bits x w k)) e ∙ micros-append d (high_bits x w m) (step ∷ []) ∙ ap (λ l. micros d (high_bits x w m) ++ l) (micros-one d step)

pub differing-none : (d x n : ℕ) → micros d (differing x n 0) ≡ []
unfolding differing micros
differing-none d x n = refl

pub differing-more : (d x n m : ℕ) → micros d (differing x n (m + 1)) ≡ micros d (differing x n m) ++ micro d (below (x ∷ broadcast_row ∷ []) (1 ∷ 2 ∷ []) overflow_row (n + m) m)
unfolding differing
differing-more d x n m =
    let e : m + 1 ≡ suc m = omega arith in
    let step = below (x ∷ broadcast_row ∷ []) (1 ∷ 2 ∷ []) overflow_row (n + m) m in
    ap (λ (k : ℕ). micros d (differing x n k)) e ∙ micros-append d (differing x n m) (step ∷ []) ∙ ap (λ l. micros d (differing x n m) ++ l) (micros-one d step)

pub unsigned-list : (w x : ℕ)
    → micros (2 * w) (clipping_unsigned w x)
    ≡ micro (2 * w) (clear (2 * w) overflow_row)
    ++ (micros (2 * w) (high_bits x w w)
    ++ (micros (2 * w) (downs overflow_row (w - 1))
    ++ (micro (2 * w) (clear (2 * w) clipped_row) ++ micro (2 * w) (everywhere (2 * w) (x ∷ overflow_row ∷ []) (1 ∷ 2 ∷ 3 ∷ []) clipped_row true))))
unfolding clipping_unsigned micros
unsigned-list w x =
    let d = 2 * w in
    let found = high_bits x w w in
    let spread = downs overflow_row (w - 1) in
    let c = clear d clipped_row in
    let l = everywhere d (x ∷ overflow_row ∷ []) (1 ∷ 2 ∷ 3 ∷ []) clipped_row true in
    ap (λ t. micro d (clear d overflow_row) ++ t)
    (micros-append d found (spread ++ (c ∷ l ∷ []))
    ∙ ap (λ t. micros d found ++ t) (micros-append d spread (c ∷ l ∷ []) ∙ ap (λ t. micros d spread ++ (micro d c ++ t)) (micros-one d l)))

pub signed-list : (w x : ℕ)
    → micros (2 * w) (clipping_signed w x)
    ≡ micros (2 * w) (broadcast (2 * w) x (2 * w - 1))
    ++ (micro (2 * w) (clear (2 * w) overflow_row)
    ++ (micros (2 * w) (differing x (w - 1) w) ++ (micros (2 * w) (downs overflow_row (w - 1)) ++ micros (2 * w) (bounded (2 * w) w x clipped_row))))
unfolding clipping_signed micros
signed-list w x =
    let d = 2 * w in
    let cast = broadcast d x (d - 1) in
    let found = differing x (w - 1) w in
    let spread = downs overflow_row (w - 1) in
    let last = bounded d w x clipped_row in
    micros-append d cast (clear d overflow_row ∷ (found ++ (spread ++ last)))
    ∙ ap (λ t. micros d cast ++ (micro d (clear d overflow_row) ++ t)) (micros-append d found (spread ++ last) ∙ ap (λ t. micros d found ++ t) (micros-append d spread last))
