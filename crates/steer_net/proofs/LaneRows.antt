-- Rows that are written lane by lane.
use Rattle.std.proofs.Common.{◌≡◌, ℕ, ◌+◌, ◌*◌, ◌/◌, ◌%◌, ◌^◌, ◌-◌, ◌<◌, ◌≤◌, Bool, true, false, cond, not, ◌&&◌, eqb, leb, ltb, List, length, get_or, set, refl, ap, sym, ◌∙◌, arith, ⊎_elim, ◌⊎◌, inl, inr, bit_or, replicate}
use Rattle.std.proofs.lemmas.Bool.{cases_lt, cases_eq, and_parts, lt-ltb, le-ltb, le-leb, lt-leb, eq-eqb, ne_eqb}
use Rattle.std.proofs.lemmas.Nat.{div-mul-add, mul-add-lt}
use Rattle.bit_rows.specs.Slices.{Slices, placed, words_written}
use Rattle.bit_rows.specs.Words.{word_bit}
use Rattle.steer_net.specs.declared.windows.Ones.{Ones}
use Rattle.steer_net.specs.Network.{numbered, position, is_width, bit_in}
use Rattle.steer_net.specs.Rows.{partly, spans, is_one}
use mathlib.Core.Bool.{beq}
use Rattle.std.proofs.lemmas.Simd.{length-replicate}
use Rattle.std.proofs.lemmas.List.{length-set}
use Rattle.bit_rows.proofs.Packed.{put_set, zero_words}
use Rattle.steer_net.proofs.Parts.{same_slices, joined}
use Rattle.steer_net.proofs.Mask.{mask_unread, mask_near}

-- one more subarray of a lane
pub subarray_more : (row at low : ℕ) (short words : List ℕ) (s : Slices) → low ≤ at → ((k : ℕ) → word_bit short k ≡ word_bit words k)
    → words_written at row short (partly (spans low at) row (λ sub c. word_bit words c) s) ≡ partly (spans low (at + 1)) row (λ sub c. word_bit words c) s
subarray_more row at low short words s h same =
    joined (λ sub c. eqb sub at) (spans low at) (spans low (at + 1)) row (λ sub c. word_bit short c) (λ sub c. word_bit words c) (λ sub c. word_bit words c) s (λ sub col o l m. one sub col o)
  where
    one : (sub col : ℕ) (o : Bool) → cond (eqb sub at) (word_bit short col) (cond (leb low sub && ltb sub at) (word_bit words col) o) ≡ cond (leb low sub && ltb sub (at + 1)) (word_bit words col) o
    one sub col o = ⊎_elim
        (λ (q : sub ≡ at). let m : at < at + 1 = omega arith in rw (q, eq-eqb at at refl, le-leb low at h, lt-ltb at (at + 1) m) (same col))
        (λ (q : sub ≡ at → ⊥). rw (ne_eqb sub at q) (⊎_elim
        (λ (l : sub < at). let m : sub < at + 1 = omega arith in rw (lt-ltb sub at l, lt-ltb sub (at + 1) m) refl)
        (λ (l : at ≤ sub). let m : at + 1 ≤ sub = omega arith in rw (le-ltb sub at l, le-ltb sub (at + 1) m) refl) (cases_lt sub at))) (cases_eq sub at)

-- nothing is written at first
pub none_written : (low row : ℕ) (new : ℕ → ℕ → Bool) (s : Slices) → s ≡ partly (spans low low) row new s
none_written low row new s = same_slices s (partly (spans low low) row new s) refl (λ sub r col. none (eqb r row) (placed s.columns sub col) (spans low low sub col) (new sub col) (s.bit sub r col) (empty sub)) (λ sub col. refl) refl
  where
    empty : (sub : ℕ) → leb low sub && ltb sub low ≡ false
    empty sub = ⊎_elim
        (λ (l : sub < low). rw (lt-leb low sub l) refl)
        (λ (l : low ≤ sub). rw (le-leb low sub l, le-ltb sub low l) refl) (cases_lt sub low)

    none : (b p d n o : Bool) → d ≡ false → o ≡ cond b (cond p (cond d n o) o) o
    none true true true n o e = cc
    none true true false n o e = refl
    none true false d n o e = refl
    none false p d n o e = refl

-- one more lane of a row
pub lane_more : (row width lanes first lane : ℕ) (words : List ℕ) (what : ℕ → Bool) (s : Slices) → lanes ≡ 32 / width → 0 < width
    → ((c : ℕ) → word_bit words c ≡ (ltb c s.columns && what (first + lane + c * lanes)))
    → partly (spans (lane * width) (lane * width + width)) row (λ sub c. word_bit words c) (partly (spans 0 (lane * width)) row (λ sub col. what (first + position width sub col)) s)
    ≡ partly (spans 0 ((lane + 1) * width)) row (λ sub col. what (first + position width sub col)) s
lane_more row width lanes first lane words what s e w bits =
    joined (spans (lane * width) (lane * width + width)) (spans 0 (lane * width)) (spans 0 ((lane + 1) * width)) row
    (λ sub c. word_bit words c) (λ sub col. what (first + position width sub col)) (λ sub col. what (first + position width sub col)) s (λ sub col o l m. one sub col o m)
  where
    next : (lane + 1) * width ≡ lane * width + width
    next = grind arith

    quotient : (sub : ℕ) → lane * width ≤ sub → sub < lane * width + width → sub / width ≡ lane
    quotient sub l m =
        let p : sub ≡ lane * width + (sub - lane * width) = omega arith in
        let h : sub - lane * width < width = omega arith in
        rw p (div-mul-add lane width (sub - lane * width) h)

    bit : (sub col : ℕ) → col < s.columns → lane * width ≤ sub → sub < lane * width + width → word_bit words col ≡ what (first + position width sub col)
    bit sub col c l m =
        let q : sub / width ≡ lane = quotient sub l m in
        let n : first + lane + col * (32 / width) ≡ first + (col * (32 / width) + sub / width) = omega arith in
        bits col ∙ rw (lt-ltb col s.columns c, e) (ap what n)

    one : (sub col : ℕ) (o : Bool) → col < s.columns → cond (leb (lane * width) sub && ltb sub (lane * width + width)) (word_bit words col) (cond (leb 0 sub && ltb sub (lane * width)) (what (first + position width sub col)) o)
        ≡ cond (leb 0 sub && ltb sub ((lane + 1) * width)) (what (first + position width sub col)) o
    one sub col o c = rw (next, le-leb 0 sub (omega arith)) (⊎_elim
        (λ (l : sub < lane * width). let m : sub < lane * width + width = omega arith in rw (lt-leb (lane * width) sub l, lt-ltb sub (lane * width) l, lt-ltb sub (lane * width + width) m) refl)
        (λ (l : lane * width ≤ sub). rw (le-leb (lane * width) sub l, le-ltb sub (lane * width) l) (⊎_elim
        (λ (m : sub < lane * width + width). rw (lt-ltb sub (lane * width + width) m) (bit sub col c l m))
        (λ (m : lane * width + width ≤ sub). rw (le-ltb sub (lane * width + width) m) refl) (cases_lt sub (lane * width + width))))
        (cases_lt sub (lane * width)))

-- all lanes of a row
pub lanes_all : (row width first high : ℕ) (what : ℕ → Bool) (s : Slices) → high ≡ 32 → partly (spans 0 high) row (λ sub col. what (first + position width sub col)) s ≡ numbered row width first what s
lanes_all row width first high what s e =
    same_slices (partly (spans 0 high) row (λ sub col. what (first + position width sub col)) s) (numbered row width first what s) refl
    (λ sub r col. inside (eqb r row) (placed s.columns sub col) (cond (leb 0 sub && ltb sub high) (what (first + position width sub col)) (s.bit sub r col)) (what (first + position width sub col)) (s.bit sub r col)
    (λ p. rw (e, le-leb 0 sub (omega arith), (and_parts (ltb sub 32) (ltb col s.columns) p).0) refl))
    (λ sub col. refl) refl
  where
    inside : (b p x y o : Bool) → (p ≡ true → x ≡ y) → cond b (cond p x o) o ≡ cond b (cond p y o) o
    inside true true x y o h = h refl
    inside true false x y o h = refl
    inside false p x y o h = refl

-- the bits of register 0 are those before, where another row is partly written
pub mask_kept : (row e : ℕ) (done new : ℕ → ℕ → Bool) (s : Slices) → 1 ≤ row → bit_in (partly done row new s) 0 e ≡ bit_in s 0 e
mask_kept row e done new s h = let ne : 0 ≡ row → ⊥ = omega arith in rw (ne_eqb 0 row ne) refl

-- the bits of a lane, by those of its mask
pub lane_told : (ones : Ones) (bits : ℕ → Bool) (mask : List ℕ) (columns step number e n k : ℕ) (x : Bool) → columns ≡ n → e ≡ number + k * step
    → x ≡ (ltb k columns && is_one ones (λ i. word_bit mask k) (number + k * step))
    → ((ones.on ≡ ones.off → ⊥) → k < n → ones.from ≤ e → e < ones.to → word_bit mask k ≡ bits e)
    → x ≡ (ltb k n && is_one ones bits e)
lane_told ones bits mask columns step number e n k x p q h same = h ∙ rw (p, ← q) (⊎_elim
    (λ (l : k < n). rw (lt-ltb k n l) (⊎_elim
    (λ (a : ones.on ≡ ones.off). mask_unread ones (λ i. word_bit mask k) bits e a)
    (λ (a : ones.on ≡ ones.off → ⊥). mask_near ones (λ i. word_bit mask k) bits e (same a l)) (alike ones.on ones.off)))
    (λ (l : n ≤ k). rw (le-ltb k n l) refl) (cases_lt k n))
  where
    alike : (a b : Bool) → (a ≡ b) ⊎ (a ≡ b → ⊥)
    alike true true = inl refl
    alike true false = inr (λ d. cc)
    alike false true = inr (λ d. cc)
    alike false false = inl refl

-- a bit of the mask of a lane, read while the row is written
pub lane_mask : (s t : Slices) (mask : List ℕ) (number step e k : ℕ) → t.columns ≡ s.columns → e ≡ number + k * step → bit_in t 0 e ≡ bit_in s 0 e
    → (k < t.columns → number + k * step < 32 * t.columns → word_bit mask k ≡ bit_in t 0 (number + k * step)) → k < s.columns → e < 32 * s.columns → word_bit mask k ≡ bit_in s 0 e
lane_mask s t mask number step e k same q kept h l m = h (omega (arith, same)) (omega (arith, same, q)) ∙ ap (λ x. bit_in t 0 x) (sym q) ∙ kept

-- the test whether the mask counts
pub counts : (a b : Bool) → (a ≡ b → ⊥) → not (beq a b) ≡ true
counts true true h = absurd (h refl)
counts true false h = refl
counts false true h = refl
counts false false h = absurd (h refl)

-- an element of a lane lies in its row
pub in_row : (width first lane k n : ℕ) → is_width width ≡ true → lane < 32 / width → k < n → first + lane + k * (32 / width) < first + n * (32 / width)
in_row width first lane k n w l h = let b : k * (32 / width) + lane < 32 / width * n = mul-add-lt k (32 / width) lane n h l in omega arith

-- the bits of the mask below column i are read, and the others are 0
pub record MaskRead (what : ℕ → Bool) (i : ℕ) (words : List ℕ) : Type 0 where
  pub len : length words ≡ 32
  pub done : (c : ℕ) → c < i → word_bit words c ≡ what c
  pub todo : (c : ℕ) → i ≤ c → word_bit words c ≡ false

pub mask_start : (what : ℕ → Bool) (n none : ℕ) → n ≡ 32 → none ≡ 0 → MaskRead what 0 (replicate n none)
mask_start what n none h z = record { len = length-replicate n none ∙ h; done = λ c l. absurd (omega arith); todo = λ c l. zero_words n none c z }

pub mask_set : (what : ℕ → Bool) (i : ℕ) (words : List ℕ) → MaskRead what i words → what i ≡ true → i < 2048
    → MaskRead what (i + 1) (set words (i / 64) (bit_or (get_or words (i / 64) 0) (1 * 2 ^ (i % 64) % 2 ^ 64)))
mask_set what i words p e m = let h : i / 64 < length words = omega (arith, p.len) in record {
  len = length-set words (i / 64) _ ∙ p.len;
  done = λ c l. put_set words i c h ∙ ⊎_elim
      (λ (q : c ≡ i). rw (q, eq-eqb i i refl) (sym e))
      (λ (q : c ≡ i → ⊥). rw (ne_eqb c i q) (p.done c (omega arith))) (cases_eq c i);
  todo = λ c l. let q : c ≡ i → ⊥ = omega arith in put_set words i c h ∙ rw (ne_eqb c i q) (p.todo c (omega arith));
}

pub mask_clear : (what : ℕ → Bool) (i : ℕ) (words : List ℕ) → MaskRead what i words → what i ≡ false → MaskRead what (i + 1) words
mask_clear what i words p e = record {
  len = p.len;
  done = λ c l. ⊎_elim
      (λ (q : c ≡ i). rw (q, e) (p.todo i (omega arith)))
      (λ (q : c ≡ i → ⊥). p.done c (omega arith)) (cases_eq c i);
  todo = λ c l. p.todo c (omega arith);
}
