-- Words of ranges of columns.
use Rattle.std.proofs.Common.{◌≡◌, ℕ, suc, ◌+◌, ◌*◌, ◌^◌, ◌/◌, ◌%◌, ◌-◌, ◌<◌, ◌≤◌, Bool, true, false, cond, ◌&&◌, ◌||◌, eqb, ltb, leb, List, length, get_or, set, refl, ap, sym, ◌∙◌, arith, ⊎_elim, bit_and, bit_or, bit_xor, min, replicate}
use Rattle.std.specs.Int.{bit_at}
use Rattle.std.proofs.Math.Nat.{le-div_iff_mul-le, div-lt_iff_lt-mul, suc-mul}
use Rattle.std.proofs.lemmas.Bool.{cases_lt, cases_eq, ltb-true, lt-ltb, le-ltb, le-leb, lt-leb}
use Rattle.std.proofs.lemmas.Nat.{one_shl, div-add-mod'}
use Rattle.std.proofs.lemmas.Nat.Bits.{bit_at-zero, bit_at_ones, bit_at_ones_above}
use Rattle.std.proofs.lemmas.List.{get_or-set_same, get_or-set_other, length-set, get_or_past}
use mathlib.Core.Bool.{beq}
use Rattle.bit_rows.specs.Words.{word_bit}
use Rattle.std.proofs.lemmas.Simd.{length-replicate, get_or-replicate}
use Rattle.bit_rows.proofs.Words.{and_bit, or_bit, flip_bit}
use Rattle.steer_net.specs.declared.windows.Ones.{Ones}
use Rattle.steer_net.specs.Rows.{is_one}

-- the numbers that are below a bound
pub below-none : (number step bound c : ℕ) → bound ≤ number → ltb c 0 ≡ ltb (number + c * step) bound
below-none number step bound c h = rw (le-ltb c 0 (omega arith), le-ltb (number + c * step) bound (omega arith)) refl

-- less than a quotient that is rounded up
less-up : (x step c : ℕ) → 0 < step → ltb c (x / step + min 1 (x % step)) ≡ ltb (c * step) x
less-up x step c p =
    let above = div-lt_iff_lt-mul {k = step} {x = x} {y = c} p in
    let under = le-div_iff_mul-le {k = step} {x = suc c} {y = x} p in
    let e : suc c * step ≡ c * step + step = suc-mul c step in
    let parts : x / step * step + x % step ≡ x = div-add-mod' x step in
    ⊎_elim
    (λ (l : x / step < c). let m : x < c * step = above.0 l in rw (le-ltb c (x / step + min 1 (x % step)) (omega arith), le-ltb (c * step) x (omega arith)) refl)
    (λ (l : c ≤ x / step). ⊎_elim
    (λ (q : c ≡ x / step). let here : c * step + x % step ≡ x = ap (λ t. t * step + x % step) q ∙ parts in ⊎_elim
    (λ (r : 0 < x % step). rw (lt-ltb c (x / step + min 1 (x % step)) (omega arith), lt-ltb (c * step) x (omega arith)) refl)
    (λ (r : x % step ≤ 0). rw (le-ltb c (x / step + min 1 (x % step)) (omega arith), le-ltb (c * step) x (omega arith)) refl) (cases_lt 0 (x % step)))
    (λ (q : c ≡ x / step → ⊥). let m : suc c ≤ x / step = omega arith in let n : suc c * step ≤ x = under.0 m in
    rw (lt-ltb c (x / step + min 1 (x % step)) (omega arith), lt-ltb (c * step) x (omega arith)) refl) (cases_eq c (x / step))) (cases_lt (x / step) c)

pub below-some : (number step bound c : ℕ) → 0 < step → number < bound → ltb c ((bound - number) / step + min 1 ((bound - number) % step)) ≡ ltb (number + c * step) bound
below-some number step bound c p h = less-up (bound - number) step c p ∙ ⊎_elim
    (λ (l : c * step < bound - number). rw (lt-ltb (c * step) (bound - number) l, lt-ltb (number + c * step) bound (omega arith)) refl)
    (λ (l : bound - number ≤ c * step). rw (le-ltb (c * step) (bound - number) l, le-ltb (number + c * step) bound (omega arith)) refl) (cases_lt (c * step) (bound - number))

-- a word of the places below an end
pub word-none : (end base j : ℕ) → end ≤ base → eqb (bit_at 0 j) 1 ≡ ltb (base + j) end
word-none end base j h = rw (bit_at-zero j, le-ltb (base + j) end (omega arith)) refl

pub word-all : (end base j : ℕ) → j < 64 → base + 64 ≤ end → eqb (bit_at 18446744073709551615 j) 1 ≡ ltb (base + j) end
word-all end base j m h = let b : bit_at 18446744073709551615 j ≡ 1 = bit_at_ones 64 j m in rw (b, lt-ltb (base + j) end (omega arith)) refl

pub word-some : (end base k j : ℕ) → end ≡ base + k → k < 64 → eqb (bit_at (1 * 2 ^ k % 2 ^ 64 - 1) j) 1 ≡ ltb (base + j) end
word-some end base k j e h = rw (one_shl k 64 h) (⊎_elim
    (λ (l : j < k). rw (bit_at_ones k j l, lt-ltb (base + j) end (omega arith)) refl)
    (λ (l : k ≤ j). rw (bit_at_ones_above k j l, le-ltb (base + j) end (omega arith)) refl) (cases_lt j k))

-- the places of a word that lie from a start on and below an end
pub word-range : (start end base j a b : ℕ) → j < 64 → eqb (bit_at a j) 1 ≡ ltb (base + j) end → eqb (bit_at b j) 1 ≡ ltb (base + j) start
    → eqb (bit_at (bit_and a (bit_xor b 18446744073709551615)) j) 1 ≡ (leb start (base + j) && ltb (base + j) end)
word-range start end base j a b m x y = rw (and_bit a (bit_xor b 18446744073709551615) j m, flip_bit false b j m, x, y) (both (ltb (base + j) end) (base + j))
  where
    swap : (u v : Bool) → u && v ≡ v && u
    swap true true = refl
    swap true false = refl
    swap false true = refl
    swap false false = refl

    both : (u : Bool) (n : ℕ) → u && beq (ltb n start) false ≡ leb start n && u
    both u n = ⊎_elim
        (λ (l : n < start). rw (lt-ltb n start l, lt-leb start n l) (swap u false))
        (λ (l : start ≤ n). rw (le-ltb n start l, le-leb start n l) (swap u true)) (cases_lt n start)

-- a word whose bits are alike
pub word-alike : (bit : Bool) (j : ℕ) → j < 64 → eqb (bit_at (cond bit 18446744073709551615 0) j) 1 ≡ bit
word-alike true j m = let b : bit_at 18446744073709551615 j ≡ 1 = bit_at_ones 64 j m in rw b refl
word-alike false j m = rw (bit_at-zero j) refl

-- the bits of a mask that are chosen
pub chosen-alike : (m on off : Bool) → beq on off ≡ true → on ≡ cond m on off
chosen-alike true on off e = refl
chosen-alike false true true e = refl
chosen-alike false true false e = cc
chosen-alike false false true e = cc
chosen-alike false false false e = refl

pub chosen-same : (m on off : Bool) → beq on off ≡ false → on ≡ true → m ≡ cond m on off
chosen-same m true true e h = cc
chosen-same true true false e h = refl
chosen-same false true false e h = refl
chosen-same m false off e h = cc

pub chosen-other : (m on off : Bool) → beq on off ≡ false → on ≡ false → beq m false ≡ cond m on off
chosen-other m false false e h = cc
chosen-other true false true e h = refl
chosen-other false false true e h = refl
chosen-other m true off e h = cc

-- the words below i have the bits that are told, and the others are 0
pub record Spelled (what : ℕ → Bool) (i : ℕ) (words : List ℕ) : Type 0 where
  pub len : length words ≡ 32
  pub done : (k j : ℕ) → k < i → j < 64 → eqb (bit_at (get_or words k 0) j) 1 ≡ what (64 * k + j)
  pub todo : (k : ℕ) → i ≤ k → get_or words k 0 ≡ 0

pub spelled_none : (what : ℕ → Bool) (n none : ℕ) → n ≡ 32 → none ≡ 0 → Spelled what 0 (replicate n none)
spelled_none what n none h z = record { len = length-replicate n none ∙ h; done = λ k j l m. absurd (omega arith); todo = λ k l. at k }
  where
    at : (k : ℕ) → get_or (replicate n none) k 0 ≡ 0
    at k = ⊎_elim (λ (l : k < n). get_or-replicate n k none 0 l ∙ z) (λ (l : n ≤ k). get_or_past (replicate n none) k 0 (rw (length-replicate n none) l)) (cases_lt k n)

pub spelled_more : (what : ℕ → Bool) (i word : ℕ) (words : List ℕ) → Spelled what i words → i < 32 → ((j : ℕ) → j < 64 → eqb (bit_at word j) 1 ≡ what (64 * i + j))
    → Spelled what (i + 1) (set words i word)
spelled_more what i word words p h x = record {
  len = length-set words i word ∙ p.len;
  done = λ k j l m. ⊎_elim
      (λ (q : k ≡ i). rw (q, get_or-set_same words i word 0 (rw p.len h)) (x j m))
      (λ (q : k ≡ i → ⊥). rw (get_or-set_other words i k word 0 q) (p.done k j (omega arith) m)) (cases_eq k i);
  todo = λ k l. let q : k ≡ i → ⊥ = omega arith in rw (get_or-set_other words i k word 0 q) (p.todo k (omega arith));
}

pub spelled_all : (what : ℕ → Bool) (i : ℕ) (words : List ℕ) → Spelled what i words → ((c : ℕ) → 64 * i ≤ c → what c ≡ false) → (c : ℕ) → word_bit words c ≡ what c
spelled_all what i words p none c = ⊎_elim
    (λ (h : c / 64 < i). let q : 64 * (c / 64) + c % 64 ≡ c = omega arith in p.done (c / 64) (c % 64) h (omega arith) ∙ rw q refl)
    (λ (h : i ≤ c / 64). rw (p.todo (c / 64) h, bit_at-zero (c % 64), none c (omega arith)) refl) (cases_lt (c / 64) i)

-- tests that agree
pub less-same : (a b x y : ℕ) → ltb a b ≡ ltb x y → x < y → a < b
less-same a b x y e h = ltb-true a b (e ∙ lt-ltb x y h)

pub above-same : (a b x y : ℕ) → ltb a b ≡ ltb x y → y ≤ x → b ≤ a
above-same a b x y e h = ⊎_elim (λ (l : a < b). absurd (differ (sym (lt-ltb a b l) ∙ e ∙ le-ltb x y h))) (λ (l : b ≤ a). l) (cases_lt a b)
  where
    differ : true ≡ false → ⊥
    differ d = cc

-- the ranges of a lane are what is told of its elements
pub lane_place : (ones : Ones) (start bound end columns e c : ℕ) (m : Bool) → ltb c start ≡ ltb e ones.from → ltb c bound ≡ ltb e ones.to → end ≡ min bound columns
    → ((leb start c && ltb c end) && cond m ones.on ones.off) || ((leb end c && ltb c columns) && ones.tail) ≡ (ltb c columns && is_one ones (λ k. m) e)
lane_place ones start bound end columns e c m p q r = ⊎_elim
    (λ (l : c < columns). rw (lt-ltb c columns l) (⊎_elim
    (λ (h : e < ones.to).
    let k : c < bound = less-same c bound e ones.to q h in
    let n : c < end = omega arith in
    rw (lt-ltb c end n, lt-leb end c n, lt-leb ones.to e h) (⊎_elim
    (λ (f : e < ones.from). let g : c < start = less-same c start e ones.from p f in rw (lt-leb ones.from e f, lt-leb start c g) refl)
    (λ (f : ones.from ≤ e). let g : start ≤ c = above-same c start e ones.from p f in rw (le-leb ones.from e f, le-leb start c g) (alone (cond m ones.on ones.off)))
    (cases_lt e ones.from)))
    (λ (h : ones.to ≤ e).
    let k : bound ≤ c = above-same c bound e ones.to q h in
    let n : end ≤ c = omega arith in
    rw (le-ltb c end n, le-leb end c n, le-leb ones.to e h) (past (leb start c) (cond m ones.on ones.off) ones.tail)) (cases_lt e ones.to)))
    (λ (l : columns ≤ c).
    let n : end ≤ c = omega arith in
    rw (le-ltb c columns l, le-ltb c end n, le-leb end c n) (past (leb start c) (cond m ones.on ones.off) false)) (cases_lt c columns)
  where
    alone : (x : Bool) → x || false ≡ x
    alone true = refl
    alone false = refl

    past : (a x t : Bool) → ((a && false) && x) || t ≡ t
    past true x t = refl
    past false x t = refl

-- a bit of a word of a lane
pub lane_word_bit : (ones : Ones) (start bound end columns number step i j a chosen b tails : ℕ) (mask : List ℕ) → j < 64
    → ((k : ℕ) → ltb k start ≡ ltb (number + k * step) ones.from) → ((k : ℕ) → ltb k bound ≡ ltb (number + k * step) ones.to) → end ≡ min bound columns
    → eqb (bit_at a j) 1 ≡ (leb start (64 * i + j) && ltb (64 * i + j) end) → eqb (bit_at chosen j) 1 ≡ cond (eqb (bit_at (get_or mask i 0) j) 1) ones.on ones.off
    → eqb (bit_at b j) 1 ≡ (leb end (64 * i + j) && ltb (64 * i + j) columns) → eqb (bit_at tails j) 1 ≡ ones.tail
    → eqb (bit_at (bit_or (bit_and a chosen) (bit_and b tails)) j) 1 ≡ (ltb (64 * i + j) columns && is_one ones (λ e. word_bit mask (64 * i + j)) (number + (64 * i + j) * step))
lane_word_bit ones start bound end columns number step i j a chosen b tails mask m p q r x y z t =
    let d : (64 * i + j) / 64 ≡ i = omega arith in
    let f : (64 * i + j) % 64 ≡ j = omega arith in
    or_bit (bit_and a chosen) (bit_and b tails) j m ∙ rw (and_bit a chosen j m, and_bit b tails j m, x, y, z, t, d, f)
    (lane_place ones start bound end columns (number + (64 * i + j) * step) (64 * i + j) (eqb (bit_at (get_or mask i 0) j) 1) (p (64 * i + j)) (q (64 * i + j)) r)
