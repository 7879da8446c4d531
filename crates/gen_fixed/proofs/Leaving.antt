-- The laws of clips of wide numbers.
use Rattle.std.proofs.Common.{◌≡◌, ◌≢◌, ℕ, zero, suc, ◌+◌, ◌-◌, ◌*◌, ◌/◌, ◌^◌, ◌<◌, ◌≤◌, Bool, true, false, cond, [], ◌∷◌, refl, sym, ◌∙◌, ap, arith, inl}
use Rattle.bit_laws.specs.Numbers.{number, low}
use Rattle.bit_laws.specs.Signed.{signed}
use Rattle.bit_laws.specs.Rounding.{any_below}
use Rattle.bit_laws.proofs.Numbers.{number-lt, number-same, number-cat}
use Rattle.bit_laws.proofs.Ints.{low-small}
use Rattle.micro_ir.specs.Pieces.{below, downs, broadcast}
use Rattle.micro_ir.specs.Steps.{AllFit, steps_on, element}
use Rattle.micro_ir.specs.WorkRows.{broadcast_row}
use Rattle.micro_ir.proofs.Effects.{downs-fit, broadcast-fits}
use Rattle.micro_ir.proofs.Folds.{copy-whole, pair-whole}
use Rattle.micro_ir.proofs.Lift.{micros-element}
use Rattle.micro_ir.proofs.OneElement.{everywhere-fits, clear-fits, below-fits}
use Rattle.micro_ir.proofs.StepLists.{AllFit-append}
use Rattle.gen_shift.specs.Laws.{LeavesValue}
use Rattle.gen_shift.specs.Rows.{is_among}
use Rattle.row_sums.proofs.Kept.{kept, differ}
use Rattle.gen_fixed.specs.declared.kinds.Clipping.{Clipping}
use Rattle.gen_fixed.specs.declared.kinds.Clipping.TheVariants.{Clipu, Clip}
use Rattle.gen_fixed.specs.Lists.{overflow_row, clipped_row, high_bits, differing, clipping_unsigned, clipping_signed, clipping}
use Rattle.gen_fixed.specs.Kinds.{clip_value, clip_tells, clip_left, clip_flag}
use Rattle.gen_fixed.specs.Laws.{clip_rows, LeavesClipped, LeavesFlag}
use Rattle.gen_fixed.proofs.Bounds.{none-number, all-number, clip_bits}
use Rattle.gen_fixed.proofs.Fits.{bounded-fits}
use Rattle.gen_fixed.proofs.Narrowing.{differs, narrowed-unsigned, high-part, narrowed-signed}
use Rattle.gen_fixed.proofs.Unsigned.{picked}
use Rattle.gen_fixed.proofs.Wide.{Left, clipping-only, unsigned-left, signed-left}

-- ---- no step leaves its element

high-fits : (x w m : ℕ) → m ≤ w → AllFit (2 * w) (high_bits x w m)
unfolding high_bits
high-fits x w zero few = tt
high-fits x w (suc m) few =
    AllFit-append (2 * w) (high_bits x w m) (below (x ∷ []) (1 ∷ []) overflow_row (w + m) (m + 1) ∷ []) (high-fits x w m (omega arith))
    (below-fits (2 * w) (x ∷ []) (1 ∷ []) overflow_row (w + m) (m + 1) (omega arith) (omega arith) (inl (copy-whole x)), tt)

differing-fits : (x w n m : ℕ) → x ≢ broadcast_row → n + m ≤ 2 * w → AllFit (2 * w) (differing x n m)
unfolding differing
differing-fits x w n zero other few = tt
differing-fits x w n (suc m) other few =
    AllFit-append (2 * w) (differing x n m) (below (x ∷ broadcast_row ∷ []) (1 ∷ 2 ∷ []) overflow_row (n + m) m ∷ []) (differing-fits x w n m other (omega arith))
    (below-fits (2 * w) (x ∷ broadcast_row ∷ []) (1 ∷ 2 ∷ []) overflow_row (n + m) m (omega arith) (omega arith) (inl (pair-whole x broadcast_row 1 (2 ∷ []) other)), tt)

clipping-fits : (kind : Clipping) (w x : ℕ) → 0 < w → is_among clip_rows x ≡ false → AllFit (2 * w) (clipping kind w x)
unfolding clipping_unsigned clipping_signed
clipping-fits Clipu w x some off = (
  clear-fits (2 * w) overflow_row,
  AllFit-append (2 * w) (high_bits x w w) _ (high-fits x w w (omega arith))
      (AllFit-append (2 * w) (downs overflow_row (w - 1)) _ (downs-fit (2 * w) overflow_row (w - 1) (omega arith)) (clear-fits (2 * w) clipped_row, (everywhere-fits (2 * w) (x ∷ overflow_row ∷ []) (1 ∷ 2 ∷ 3 ∷ []) clipped_row, tt))),
)
clipping-fits Clip w x some off =
    AllFit-append (2 * w) (broadcast (2 * w) x (2 * w - 1)) _ (broadcast-fits (2 * w) x (2 * w - 1) (omega arith)) (
      clear-fits (2 * w) overflow_row,
      AllFit-append (2 * w) (differing x (w - 1) w) _ (differing-fits x w (w - 1) w (differ x broadcast_row clip_rows off refl) (omega arith))
          (AllFit-append (2 * w) (downs overflow_row (w - 1)) _ (downs-fit (2 * w) overflow_row (w - 1) (omega arith)) (bounded-fits (2 * w) w x clipped_row some (omega arith))),
    )

-- ---- the numbers

two : (w : ℕ) → 2 * w ≡ w + w
two w = omega arith

-- a number by its halves
by-halves : (w : ℕ) (f low high : ℕ → Bool) → ((i : ℕ) → i < w → f i ≡ low i) → ((i : ℕ) → i < w → f (w + i) ≡ high i)
    → number (2 * w) f ≡ number w low + number w high * 2 ^ w
by-halves w f l h a b =
    ap (λ (m : ℕ). number m f) (two w) ∙ number-cat w w f ∙ rw (number-same w f l a, number-same w (λ i. f (w + i)) h b) refl

const-number : (w : ℕ) (v : Bool) → number w (λ i. v) ≡ cond v (2 ^ w - 1) 0
const-number w true = all-number w
const-number w false = none-number w

-- what a list leaves, as numbers
record Numbers (kind : Clipping) (w : ℕ) (x : ℕ → Bool) (now : ℕ → ℕ → Bool) : Type 0 where
  left : number (2 * w) (now clipped_row) ≡ clip_left kind w (number (2 * w) x)
  flag : number (2 * w) (now overflow_row) ≡ clip_flag kind w (number (2 * w) x)

flag-number : (n : ℕ) (l h : ℕ → Bool) (v c : Bool) (now : ℕ → ℕ → Bool) → Left n l h v now → v ≡ c → number (2 * suc n) (now overflow_row) ≡ cond c (2 ^ suc n - 1) 0
flag-number n l h v c now r is =
    by-halves (suc n) (now overflow_row) (λ i. v) (λ i. false) (λ i m. r.flag i (omega arith)) (λ i m. r.none (suc n + i) (omega arith) (omega arith))
    ∙ rw (const-number (suc n) v, none-number (suc n), is) (plus-none (cond c (2 ^ suc n - 1) 0) (2 ^ suc n))
  where
    plus-none : (a p : ℕ) → a + 0 * p ≡ a
    plus-none a p = omega arith

unsigned-numbers : (n x : ℕ) (e : ℕ → ℕ → Bool) → is_among clip_rows x ≡ false → Numbers Clipu (suc n) (e x) (steps_on (clipping_unsigned (suc n) x) e)
unsigned-numbers n x e off =
    let w = suc n in
    let now = steps_on (clipping_unsigned w x) e in
    let v = any_below w (λ i. e x (w + i)) in
    let r = unsigned-left n x e off in
    let b = narrowed-unsigned w (e x) in
    let whole : number (w + w) (e x) ≡ number (2 * w) (e x) = ap (λ (m : ℕ). number m (e x)) (sym (two w)) in
    let low_is : number w (λ i. cond v true (e x i)) ≡ clip_value Clipu w (number (2 * w) (e x)) =
    picked w v true (e x) ∙ rw (all-number w) b.value ∙ ap (λ (m : ℕ). clip_value Clipu w m) whole in
    let high_is : number w (λ i. e x (w + i)) ≡ number (2 * w) (e x) / 2 ^ w = sym (high-part w (e x)) ∙ ap (λ (m : ℕ). m / 2 ^ w) whole in
    record {
      left = by-halves w (now clipped_row) (λ i. cond v true (e x i)) (λ i. e x (w + i)) (λ i m. r.bits i (omega arith)) (λ i m. r.above (w + i) (omega arith) (omega arith))
          ∙ rw (low_is, high_is) refl;
      flag = flag-number n _ _ v (clip_tells Clipu w (number (2 * w) (e x))) now r (b.clip ∙ ap (λ (m : ℕ). clip_tells Clipu w m) whole);
    }

signed-numbers : (n x : ℕ) (e : ℕ → ℕ → Bool) → is_among clip_rows x ≡ false → Numbers Clip (suc n) (e x) (steps_on (clipping_signed (suc n) x) e)
signed-numbers n x e off =
    let w = suc n in
    let now = steps_on (clipping_signed w x) e in
    let s = e x (n + w) in
    let v = differs w (λ i. e x (n + i)) s in
    let r = signed-left n x e off in
    let b = narrowed-signed n (e x) (signed (2 * w) (number (2 * w) (e x))) (ap (λ (m : ℕ). signed m (number m (e x))) (two w)) in
    record {
      left = by-halves w (now clipped_row) (clip_bits n v s (e x)) (λ i. false) (λ i m. r.bits i (omega arith)) (λ i m. r.above (w + i) (omega arith) (omega arith))
          ∙ rw (none-number w) (plus-none (number w (clip_bits n v s (e x))) (2 ^ w)) ∙ b.0;
      flag = flag-number n _ _ v (clip_tells Clip w (number (2 * w) (e x))) now r b.1;
    }
  where
    plus-none : (a p : ℕ) → a + 0 * p ≡ a
    plus-none a p = omega arith

numbers : (kind : Clipping) (w x : ℕ) (e : ℕ → ℕ → Bool) → 0 < w → is_among clip_rows x ≡ false → Numbers kind w (e x) (steps_on (clipping kind w x) e)
numbers kind zero x e some off = absurd (omega arith)
numbers Clipu (suc n) x e some off = unsigned-numbers n x e off
numbers Clip (suc n) x e some off = signed-numbers n x e off

-- a number of so many bits is what is left of it
own : (d : ℕ) (f : ℕ → Bool) (v : ℕ) → number d f ≡ v → number d f ≡ low d v
own d f v is = is ∙ sym (low-small d v (rw (sym is) (number-lt d f)))

-- ---- the laws

pub leaves-clipped : (kind : Clipping) (w x : ℕ) → 0 < w → is_among clip_rows x ≡ false → LeavesClipped kind w x
unfolding LeavesValue
leaves-clipped kind w x some off s k col inside column =
    let e = element (2 * w) k col s in
    rw (micros-element (2 * w) k col (clipping kind w x) s (clipping-fits kind w x some off) inside column) (record {
      made = own (2 * w) (steps_on (clipping kind w x) e clipped_row) (clip_left kind w (number (2 * w) (e x))) (numbers kind w x e some off).left;
      kept = λ r j free below n. kept clip_rows (clipping kind w x) e r (clipping-only kind w x) free n j;
    })

pub leaves-flag : (kind : Clipping) (w x : ℕ) → 0 < w → is_among clip_rows x ≡ false → LeavesFlag kind w x
unfolding LeavesValue
leaves-flag kind w x some off s k col inside column =
    let e = element (2 * w) k col s in
    rw (micros-element (2 * w) k col (clipping kind w x) s (clipping-fits kind w x some off) inside column) (record {
      made = own (2 * w) (steps_on (clipping kind w x) e overflow_row) (clip_flag kind w (number (2 * w) (e x))) (numbers kind w x e some off).flag;
      kept = λ r j free below n. kept clip_rows (clipping kind w x) e r (clipping-only kind w x) free n j;
    })
