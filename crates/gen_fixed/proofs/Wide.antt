-- The lists of clips of wide numbers, on one element.
use Rattle.std.proofs.Common.{◌≡◌, ◌≢◌, ℕ, zero, suc, ◌+◌, ◌-◌, ◌*◌, ◌<◌, ◌≤◌, Bool, true, false, cond, not, ◌||◌, List, [], ◌∷◌, ◌++◌, refl, sym, ◌∙◌, ap, arith}
use mathlib.Core.Bool.{beq}
use Rattle.std.proofs.lemmas.Bool.{lt-ltb}
use Rattle.bit_laws.specs.Rounding.{any_below}
use Rattle.micro_ir.specs.Steps.{step_on, steps_on}
use Rattle.micro_ir.specs.WorkRows.{broadcast_row}
use Rattle.micro_ir.specs.Pieces.{everywhere, below, clear, downs, broadcast}
use Rattle.micro_ir.proofs.Effects.{downs-here, downs-above, broadcast-on}
use Rattle.micro_ir.proofs.OneElement.{hit, fires-hit, step-row, clear-here, everywhere-here, below-here, below-else}
use Rattle.micro_ir.proofs.StepLists.{steps_on-append}
use Rattle.gen_shift.specs.Rows.{is_among}
use Rattle.gen_shift.proofs.Stays.{Within, within-append, within-downs, within-broadcast}
use Rattle.row_sums.proofs.Kept.{kept, differ}
use Rattle.gen_fixed.specs.declared.kinds.Clipping.{Clipping}
use Rattle.gen_fixed.specs.declared.kinds.Clipping.TheVariants.{Clipu, Clip}
use Rattle.gen_fixed.specs.Lists.{overflow_row, clipped_row, bounded, high_bits, differing, clipping_unsigned, clipping_signed, clipping}
use Rattle.gen_fixed.specs.Laws.{clip_rows}
use Rattle.gen_fixed.proofs.Operands.{fewer}
use Rattle.gen_fixed.proofs.Bounds.{clip_bits}
use Rattle.gen_fixed.proofs.Bounded.{bounded-only, bounded-low, bounded-high}
use Rattle.gen_fixed.proofs.Unsigned.{bound-found, as_found}
use Rattle.gen_fixed.proofs.Narrowing.{differs}

abbrev one : List ℕ
one = overflow_row ∷ []

turned : (a b : Bool) → a || b ≡ b || a
turned true true = refl
turned true false = refl
turned false true = refl
turned false false = refl

copied : (a : Bool) → hit (1 ∷ []) (a ∷ []) ≡ a
copied true = refl
copied false = refl

unlike : (a b : Bool) → hit (1 ∷ 2 ∷ []) (a ∷ b ∷ []) ≡ not (beq a b)
unlike true true = refl
unlike true false = refl
unlike false true = refl
unlike false false = refl

-- ---- whether a high bit is 1, and whether one differs from the sign

pub high-only : (rows : List ℕ) (x w m : ℕ) → is_among rows overflow_row ≡ true → Within rows (high_bits x w m)
unfolding high_bits
high-only rows x w zero h = tt
high-only rows x w (suc m) h = within-append rows (high_bits x w m) (below (x ∷ []) (1 ∷ []) overflow_row (w + m) (m + 1) ∷ []) (high-only rows x w m h) (h, tt)

pub differing-only : (rows : List ℕ) (x n m : ℕ) → is_among rows overflow_row ≡ true → Within rows (differing x n m)
unfolding differing
differing-only rows x n zero h = tt
differing-only rows x n (suc m) h = within-append rows (differing x n m) (below (x ∷ broadcast_row ∷ []) (1 ∷ 2 ∷ []) overflow_row (n + m) m ∷ []) (differing-only rows x n m h) (h, tt)

-- the place n, with w bits below the high ones
high-here : (x n m : ℕ) (e : ℕ → ℕ → Bool) → is_among one x ≡ false → e overflow_row n ≡ false
    → steps_on (high_bits x (suc n) m) e overflow_row n ≡ any_below m (λ i. e x (suc n + i))
unfolding high_bits steps_on
high-here x n zero e apart clear = clear
high-here x n (suc m) e apart clear =
    let step = below (x ∷ []) (1 ∷ []) overflow_row (suc n + m) (m + 1) in
    let e1 = steps_on (high_bits x (suc n) m) e in
    let z : suc n + m ≡ n + (m + 1) = omega arith in
    let y : e1 x (suc n + m) ≡ e x (suc n + m) = (λ i. kept one (high_bits x (suc n) m) e x (high-only one x (suc n) m refl) apart i (suc n + m)) in
    rw (steps_on-append (high_bits x (suc n) m) (step ∷ []) e)
    (ap (λ (k : ℕ). step_on (below (x ∷ []) (1 ∷ []) overflow_row k (m + 1)) e1 overflow_row n) z
    ∙ below-here (x ∷ []) (1 ∷ []) overflow_row n (m + 1) e1
    ∙ rw (sym z, fires-hit (x ∷ []) (1 ∷ []) (λ r. e1 r (suc n + m)), y, copied (e x (suc n + m)), high-here x n m e apart clear) (turned (e x (suc n + m)) (any_below m (λ i. e x (suc n + i)))))

high-else : (x n m : ℕ) (e : ℕ → ℕ → Bool) (i : ℕ) → i ≢ n → steps_on (high_bits x (suc n) m) e overflow_row i ≡ e overflow_row i
unfolding high_bits steps_on
high-else x n zero e i l = refl
high-else x n (suc m) e i l =
    let step = below (x ∷ []) (1 ∷ []) overflow_row (suc n + m) (m + 1) in
    let e1 = steps_on (high_bits x (suc n) m) e in
    rw (steps_on-append (high_bits x (suc n) m) (step ∷ []) e) (below-else (x ∷ []) (1 ∷ []) overflow_row (suc n + m) (m + 1) e1 overflow_row i (λ q. l (omega arith)) ∙ high-else x n m e i l)

differing-here : (x n m : ℕ) (s : Bool) (e : ℕ → ℕ → Bool) → is_among one x ≡ false → ((i : ℕ) → i < n + m → e broadcast_row i ≡ s) → e overflow_row n ≡ false
    → steps_on (differing x n m) e overflow_row n ≡ differs m (λ i. e x (n + i)) s
unfolding differing steps_on
differing-here x n zero s e apart is clear = clear
differing-here x n (suc m) s e apart is clear =
    let rows : List ℕ = x ∷ broadcast_row ∷ [] in
    let step = below rows (1 ∷ 2 ∷ []) overflow_row (n + m) m in
    let e1 = steps_on (differing x n m) e in
    let w = differing-only one x n m refl in
    let b : e1 broadcast_row (n + m) ≡ s = (λ i. kept one (differing x n m) e broadcast_row w refl i (n + m)) ∙ is (n + m) (omega arith) in
    let y : e1 x (n + m) ≡ e x (n + m) = (λ i. kept one (differing x n m) e x w apart i (n + m)) in
    rw (steps_on-append (differing x n m) (step ∷ []) e)
    (below-here rows (1 ∷ 2 ∷ []) overflow_row n m e1
    ∙ rw (fires-hit rows (1 ∷ 2 ∷ []) (λ r. e1 r (n + m)), b, y, unlike (e x (n + m)) s, differing-here x n m s e apart (λ i l. is i (omega arith)) clear)
    (turned (not (beq (e x (n + m)) s)) (differs m (λ i. e x (n + i)) s)))

differing-else : (x n m : ℕ) (e : ℕ → ℕ → Bool) (i : ℕ) → i ≢ n → steps_on (differing x n m) e overflow_row i ≡ e overflow_row i
unfolding differing steps_on
differing-else x n zero e i l = refl
differing-else x n (suc m) e i l =
    let rows : List ℕ = x ∷ broadcast_row ∷ [] in
    let step = below rows (1 ∷ 2 ∷ []) overflow_row (n + m) m in
    let e1 = steps_on (differing x n m) e in
    rw (steps_on-append (differing x n m) (step ∷ []) e) (below-else rows (1 ∷ 2 ∷ []) overflow_row (n + m) m e1 overflow_row i (λ q. l (omega arith)) ∙ differing-else x n m e i l)

-- ---- the lists

-- What a clip of n + 1 bits leaves: bits in the low half of one row, what stands above them, and in the other row whether the
-- number is clipped, in its low half alone.
pub record Left (n : ℕ) (low high : ℕ → Bool) (v : Bool) (now : ℕ → ℕ → Bool) : Type 0 where
  pub bits : (i : ℕ) → i ≤ n → now clipped_row i ≡ low i
  pub above : (i : ℕ) → n < i → i < 2 * suc n → now clipped_row i ≡ high i
  pub flag : (i : ℕ) → i ≤ n → now overflow_row i ≡ v
  pub none : (i : ℕ) → n < i → i < 2 * suc n → now overflow_row i ≡ false

pub clipping-only : (kind : Clipping) (w x : ℕ) → Within clip_rows (clipping kind w x)
unfolding clipping_unsigned clipping_signed
clipping-only Clipu w x = (refl, within-append clip_rows (high_bits x w w) _ (high-only clip_rows x w w refl) (within-append clip_rows (downs overflow_row (w - 1)) _ (within-downs clip_rows overflow_row (w - 1) refl) (refl, (refl, tt))))
clipping-only Clip w x =
    within-append clip_rows (broadcast (2 * w) x (2 * w - 1)) _ (within-broadcast clip_rows (2 * w) x (2 * w - 1) refl)
    (refl, within-append clip_rows (differing x (w - 1) w) _ (differing-only clip_rows x (w - 1) w refl) (within-append clip_rows (downs overflow_row (w - 1)) _ (within-downs clip_rows overflow_row (w - 1) refl) (bounded-only clip_rows (2 * w) w x clipped_row refl)))

pub unsigned-left : (n x : ℕ) (e : ℕ → ℕ → Bool) → is_among clip_rows x ≡ false
    → (let v = any_below (suc n) (λ i. e x (suc n + i)) in
    Left n (λ i. cond v true (e x i)) (e x) v (steps_on (clipping_unsigned (suc n) x) e))
unfolding clipping_unsigned steps_on
unsigned-left n x e off =
    let w = suc n in
    let top : suc n - 1 ≡ n = omega arith in
    let v = any_below w (λ i. e x (w + i)) in
    let c1 = clear (2 * w) overflow_row in
    let found = high_bits x w w in
    let spread = downs overflow_row (w - 1) in
    let c2 = clear (2 * w) clipped_row in
    let last = everywhere (2 * w) (x ∷ overflow_row ∷ []) (1 ∷ 2 ∷ 3 ∷ []) clipped_row true in
    let e1 = step_on c1 e in
    let e2 = steps_on found e1 in
    let e3 = steps_on spread e2 in
    let e4 = step_on c2 e3 in
    let e5 = step_on last e4 in
    let x_one = fewer one clip_rows x refl off in
    let x_out : x ≢ clipped_row = differ x clipped_row clip_rows off refl in
    let x1 : e1 x ≡ e x = kept one (c1 ∷ []) e x (refl, tt) x_one in
    let x3 : e3 x ≡ e x = kept one spread e2 x (within-downs one overflow_row (w - 1) refl) x_one ∙ kept one found e1 x (high-only one x w w refl) x_one ∙ x1 in
    let v1 : (i : ℕ) → i < 2 * w → e1 overflow_row i ≡ false = λ i l. clear-here (2 * w) overflow_row e i l in
    let v2 : e2 overflow_row n ≡ v = high-here x n w e1 x_one (v1 n (omega arith)) ∙ ap (λ f. any_below w (λ i. f (w + i))) x1 in
    let off2 : (i : ℕ) → i ≢ n → i < 2 * w → e2 overflow_row i ≡ false = λ i q l. high-else x n w e1 i q ∙ v1 i l in
    let v3 : (i : ℕ) → i ≤ n → e3 overflow_row i ≡ v =
    λ i l. ap (λ (k : ℕ). steps_on (downs overflow_row k) e2 overflow_row i) top ∙ downs-here overflow_row n e2 (λ i m. off2 i (omega arith) (omega arith)) i l ∙ v2 in
    let n3 : (i : ℕ) → n < i → i < 2 * w → e3 overflow_row i ≡ false =
    λ i l m. ap (λ (k : ℕ). steps_on (downs overflow_row k) e2 overflow_row i) top ∙ downs-above overflow_row n e2 overflow_row i (omega arith) ∙ off2 i (omega arith) m in
    let made : (i : ℕ) → i < 2 * w → e5 clipped_row i ≡ cond (e3 overflow_row i) true (e x i) =
    λ i l. everywhere-here (2 * w) (x ∷ overflow_row ∷ []) (1 ∷ 2 ∷ 3 ∷ []) clipped_row true e4 i l
    ∙ rw (clear-here (2 * w) clipped_row e3 i l, fires-hit (x ∷ overflow_row ∷ []) (1 ∷ 2 ∷ 3 ∷ []) (λ r. e4 r i), step-row c2 e3 x i x_out, step-row c2 e3 overflow_row i (omega arith), x3)
    (as_found _ ∙ bound-found false (e x i) (e3 overflow_row i)) in
    let same : (i : ℕ) → e5 overflow_row i ≡ e3 overflow_row i = λ i. step-row last e4 overflow_row i (omega arith) ∙ step-row c2 e3 overflow_row i (omega arith) in
    rw (steps_on-append found (spread ++ (c2 ∷ last ∷ [])) e1, steps_on-append spread (c2 ∷ last ∷ []) e2) (record {
      bits = λ i l. made i (omega arith) ∙ rw (v3 i l) refl;
      above = λ i l m. made i m ∙ rw (n3 i l m) refl;
      flag = λ i l. same i ∙ v3 i l;
      none = λ i l m. same i ∙ n3 i l m;
    })

pub signed-left : (n x : ℕ) (e : ℕ → ℕ → Bool) → is_among clip_rows x ≡ false
    → (let s = e x (n + suc n) in
    let v = differs (suc n) (λ i. e x (n + i)) s in
    Left n (clip_bits n v s (e x)) (λ i. false) v (steps_on (clipping_signed (suc n) x) e))
unfolding clipping_signed steps_on
signed-left n x e off =
    let w = suc n in
    let top : suc n - 1 ≡ n = omega arith in
    let last_bit : 2 * w - 1 ≡ n + w = omega arith in
    let s = e x (n + w) in
    let v = differs w (λ i. e x (n + i)) s in
    let cast = broadcast (2 * w) x (2 * w - 1) in
    let c1 = clear (2 * w) overflow_row in
    let found = differing x (w - 1) w in
    let spread = downs overflow_row (w - 1) in
    let last = bounded (2 * w) w x clipped_row in
    let e1 = steps_on cast e in
    let e2 = step_on c1 e1 in
    let e3 = steps_on found e2 in
    let e4 = steps_on spread e3 in
    let x_one = fewer one clip_rows x refl off in
    let x_cast : is_among (broadcast_row ∷ []) x ≡ false = fewer (broadcast_row ∷ []) clip_rows x refl off in
    let x_out : x ≢ clipped_row = differ x clipped_row clip_rows off refl in
    let x1 : e1 x ≡ e x = kept (broadcast_row ∷ []) cast e x (within-broadcast (broadcast_row ∷ []) (2 * w) x (2 * w - 1) refl) x_cast in
    let x2 : e2 x ≡ e x = kept one (c1 ∷ []) e1 x (refl, tt) x_one ∙ x1 in
    let back : (r : ℕ) → is_among one r ≡ false → e4 r ≡ e2 r = λ r q. kept one spread e3 r (within-downs one overflow_row (w - 1) refl) q ∙ kept one found e2 r (differing-only one x (w - 1) w refl) q in
    let s2 : (i : ℕ) → i < 2 * w → e2 broadcast_row i ≡ s =
    λ i l. step-row c1 e1 broadcast_row i (omega arith) ∙ broadcast-on (2 * w) x (2 * w - 1) e (omega arith) (differ x broadcast_row clip_rows off refl) broadcast_row i l ∙ rw (lt-ltb i (2 * w) l) (ap (e x) last_bit) in
    let v2 : (i : ℕ) → i < 2 * w → e2 overflow_row i ≡ false = λ i l. clear-here (2 * w) overflow_row e1 i l in
    let v3 : e3 overflow_row n ≡ v =
    ap (λ (k : ℕ). steps_on (differing x k w) e2 overflow_row n) top ∙ differing-here x n w s e2 x_one (λ i l. s2 i (omega arith)) (v2 n (omega arith)) ∙ ap (λ f. differs w (λ i. f (n + i)) s) x2 in
    let off3 : (i : ℕ) → i ≢ n → i < 2 * w → e3 overflow_row i ≡ false = λ i q l. ap (λ (k : ℕ). steps_on (differing x k w) e2 overflow_row i) top ∙ differing-else x n w e2 i q ∙ v2 i l in
    let v4 : (i : ℕ) → i ≤ n → e4 overflow_row i ≡ v =
    λ i l. ap (λ (k : ℕ). steps_on (downs overflow_row k) e3 overflow_row i) top ∙ downs-here overflow_row n e3 (λ i m. off3 i (omega arith) (omega arith)) i l ∙ v3 in
    let n4 : (i : ℕ) → n < i → i < 2 * w → e4 overflow_row i ≡ false =
    λ i l m. ap (λ (k : ℕ). steps_on (downs overflow_row k) e3 overflow_row i) top ∙ downs-above overflow_row n e3 overflow_row i (omega arith) ∙ off3 i (omega arith) m in
    let s4 : (i : ℕ) → i ≤ n → e4 broadcast_row i ≡ s = λ i l. (λ k. back broadcast_row refl k i) ∙ s2 i (omega arith) in
    let x4 : e4 x ≡ e x = back x x_one ∙ x2 in
    let same : (i : ℕ) → steps_on last e4 overflow_row i ≡ e4 overflow_row i = λ i k. kept (clipped_row ∷ []) last e4 overflow_row (bounded-only (clipped_row ∷ []) (2 * w) w x clipped_row refl) refl k i in
    rw (steps_on-append cast (c1 ∷ (found ++ (spread ++ last))) e, steps_on-append found (spread ++ last) e2, steps_on-append spread last e3) (record {
      bits = λ i l. bounded-low (2 * w) n x clipped_row v s e4 (omega arith) (omega arith) (omega arith) x_out v4 s4 i l ∙ ap (λ f. clip_bits n v s f i) x4;
      above = λ i l m. bounded-high (2 * w) n x clipped_row v s e4 (omega arith) (omega arith) (omega arith) x_out v4 s4 i l m;
      flag = λ i l. same i ∙ v4 i l;
      none = λ i l m. same i ∙ n4 i l m;
    })
