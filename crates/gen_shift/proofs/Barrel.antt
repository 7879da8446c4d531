-- All stages of a shift: a barrel shifter.
use Rattle.std.proofs.Common.{◌≡◌, ◌≢◌, ℕ, zero, suc, ◌+◌, ◌-◌, ◌*◌, ◌%◌, ◌^◌, ◌<◌, ◌≤◌, Bool, true, false, ◌||◌, ◌&&◌, ltb, cond, not, refl, sym, ap, ◌∙◌, arith, ⊎_elim}
use Rattle.std.proofs.lemmas.Bool.{cases_lt, cases_eq, lt-ltb, le-ltb, le-leb, lt-leb}
use Rattle.std.proofs.lemmas.Nat.{pow_pos}
use Rattle.std.proofs.Math.Pow.{pow_mono}
use Rattle.std.proofs.Math.Nat.{pow-suc}
use Rattle.bit_laws.specs.Numbers.{number}
use Rattle.bit_laws.specs.Rounding.{any_below, last_out, more_out}
use Rattle.bit_laws.proofs.Numbers.{number-lt}
use Rattle.micro_ir.specs.Steps.{steps_on}
use Rattle.micro_ir.specs.WorkRows.{broadcast_row}
use Rattle.micro_ir.proofs.StepLists.{steps_on-append}
use Rattle.gen_shift.specs.declared.kinds.Shift.{Shift}
use Rattle.gen_shift.specs.declared.kinds.Shift.TheVariants.{Sll, Srl, Sra}
use Rattle.gen_shift.specs.Rows.{sign_row, more_row, shift_role, last_role, is_odd, is_among, stage_rows}
use Rattle.gen_shift.specs.Lists.{stage, stages, goes_up, fills, moved_bits}
use Rattle.gen_shift.proofs.Stays.{Within, within-append}
use Rattle.gen_shift.proofs.GoneOut.{any-same}
use Rattle.gen_shift.proofs.Stage.{broadcast-in, sign-out, stage-within, staged}

-- ---- bits that are moved

pub moved-none : (kind : Shift) (f : Bool) (w : ℕ) (x : ℕ → Bool) (i : ℕ) → i < w → moved_bits kind f w 0 x i ≡ x i
moved-none Sll f w x i l = let z : i - 0 ≡ i = omega arith in rw (z, le-leb 0 i (omega arith)) refl
moved-none Srl f w x i l = let z : i + 0 ≡ i = omega arith in rw (z, lt-ltb i w l) refl
moved-none Sra f w x i l = let z : i + 0 ≡ i = omega arith in rw (z, lt-ltb i w l) refl

down-twice : (f : Bool) (w h n : ℕ) (x : ℕ → Bool) (i : ℕ)
    → cond (ltb (i + h) w) (cond (ltb (i + h + n) w) (x (i + h + n)) f) f ≡ cond (ltb (i + (n + h)) w) (x (i + (n + h))) f
down-twice f w h n x i =
    let e : i + (n + h) ≡ i + h + n = omega arith in
    rw e (⊎_elim
    (λ (l : i + h < w). rw (lt-ltb (i + h) w l) refl)
    (λ (l : w ≤ i + h). rw (le-ltb (i + h) w l, le-ltb (i + h + n) w (omega arith)) refl)
    (cases_lt (i + h) w))

-- two moves are one
moved-twice : (kind : Shift) (f : Bool) (w h n : ℕ) (x : ℕ → Bool) (i : ℕ) → moved_bits kind f w h (moved_bits kind f w n x) i ≡ moved_bits kind f w (n + h) x i
moved-twice Sll f w h n x i =
    let e : i - (n + h) ≡ i - h - n = omega arith in
    rw e (⊎_elim
    (λ (l : i < h). rw (lt-leb h i l, lt-leb (n + h) i (omega arith)) refl)
    (λ (l : h ≤ i). rw (le-leb h i l) (⊎_elim
    (λ (m : i - h < n). rw (lt-leb n (i - h) m, lt-leb (n + h) i (omega arith)) refl)
    (λ (m : n ≤ i - h). rw (le-leb n (i - h) m, le-leb (n + h) i (omega arith)) refl)
    (cases_lt (i - h) n)))
    (cases_lt i h))
moved-twice Srl f w h n x i = down-twice false w h n x i
moved-twice Sra f w h n x i = down-twice f w h n x i

down-same : (f : Bool) (w n : ℕ) (x y : ℕ → Bool) → ((i : ℕ) → i < w → x i ≡ y i) → (i : ℕ) → cond (ltb (i + n) w) (x (i + n)) f ≡ cond (ltb (i + n) w) (y (i + n)) f
down-same f w n x y same i = ⊎_elim
    (λ (l : i + n < w). rw (same (i + n) l) refl)
    (λ (l : w ≤ i + n). rw (le-ltb (i + n) w l) refl)
    (cases_lt (i + n) w)

moved-same : (kind : Shift) (f : Bool) (w n : ℕ) (x y : ℕ → Bool) → ((i : ℕ) → i < w → x i ≡ y i) → (i : ℕ) → i < w → moved_bits kind f w n x i ≡ moved_bits kind f w n y i
moved-same Sll f w n x y same i l = rw (same (i - n) (omega arith)) refl
moved-same Srl f w n x y same i l = down-same false w n x y same i
moved-same Sra f w n x y same i l = down-same f w n x y same i

-- a bit that is moved down inside the element
moved-inside : (kind : Shift) (f : Bool) (w n : ℕ) (x : ℕ → Bool) (i : ℕ) → goes_up kind ≡ false → i + n < w → moved_bits kind f w n x i ≡ x (i + n)
moved-inside Sll f w n x i down l = absurd (cc)
moved-inside Srl f w n x i down l = rw (lt-ltb (i + n) w l) refl
moved-inside Sra f w n x i down l = rw (lt-ltb (i + n) w l) refl

-- ---- what went out

any-cat : (n m : ℕ) (x : ℕ → Bool) → any_below (n + m) x ≡ any_below n x || any_below m (λ q. x (n + q))
any-cat n zero x = let z : n + 0 ≡ n = omega arith in rw z (or_no (any_below n x))
  where
    or_no : (b : Bool) → b ≡ b || false
    or_no true = refl
    or_no false = refl
any-cat n (suc m) x =
    let e : n + suc m ≡ suc (n + m) = omega arith in
    rw (e, any-cat n m x) (assoc (any_below n x) (any_below m (λ q. x (n + q))) (x (n + m)))
  where
    assoc : (a b c : Bool) → (a || b) || c ≡ a || (b || c)
    assoc true b c = refl
    assoc false b c = refl

last-next : (x : ℕ → Bool) (n h : ℕ) → 0 < h → last_out x (n + h) ≡ x (h - 1 + n)
last-next x n h some = let e : n + h ≡ suc (h - 1 + n) = omega arith in rw e refl

more-next : (x : ℕ → Bool) (n h : ℕ) → 0 < h → more_out x n || (last_out x n || any_below (h - 1) (λ q. x (q + n))) ≡ more_out x (n + h)
more-next x zero h some =
    let e : 0 + h ≡ suc (h - 1) = omega arith in
    rw e (any-same (h - 1) (λ q. x (q + 0)) x (λ i l. let z : i + 0 ≡ i = omega arith in rw z refl))
more-next x (suc m) h some =
    let e : suc m + h ≡ suc (m + 1 + (h - 1)) = omega arith in
    let f : m + 1 ≡ suc m = omega arith in
    let same : any_below (h - 1) (λ q. x (q + suc m)) ≡ any_below (h - 1) (λ q. x (suc m + q)) = any-same (h - 1) (λ q. x (q + suc m)) (λ q. x (suc m + q)) (λ i l. let z : i + suc m ≡ suc m + i = omega arith in rw z refl) in
    rw (e, same) (sym (any-cat (m + 1) (h - 1) x ∙ rw f (assoc (any_below m x) (x m) (any_below (h - 1) (λ q. x (suc m + q))))))
  where
    assoc : (a b c : Bool) → (a || b) || c ≡ a || (b || c)
    assoc true b c = refl
    assoc false b c = refl

-- ---- the stages

-- After n stages of a shift of row a by row b, from the state e.
pub record Shifted (kind : Shift) (keeps : Bool) (w a b : ℕ) (p : Bool) (n : ℕ) (f : Bool) (e now : ℕ → ℕ → Bool) : Type 0 where
  pub row : (i : ℕ) → i < w → now (shift_role p) i ≡ moved_bits kind f w (number n (e b)) (e a) i
  pub last : keeps ≡ true → now (last_role p) 0 ≡ last_out (e a) (number n (e b))
  pub more : keeps ≡ true → now more_row 0 ≡ more_out (e a) (number n (e b))
  pub rest : (r i : ℕ) → is_among (stage_rows keeps) r ≡ false → now r i ≡ e r i

-- one stage more
next : (kind : Shift) (keeps : Bool) (w a b : ℕ) (p : Bool) (j : ℕ) (f : Bool) (e now : ℕ → ℕ → Bool) → j < w → 2 ^ j * 2 ≤ w → is_among (stage_rows keeps) b ≡ false
    → (keeps ≡ true → goes_up kind ≡ false) → (fills kind ≡ true → (i : ℕ) → i < w → e sign_row i ≡ f)
    → Shifted kind keeps w a b p j f e now → Shifted kind keeps w a b (not p) (suc j) f e (steps_on (stage kind keeps w b p j (2 ^ j)) now)
next kind keeps w a b p j f e now inside room other goes sign s =
    let h = 2 ^ j in
    let n = number j (e b) in
    let some : 0 < 2 ^ j = pow_pos j in
    let small : n < 2 ^ j = number-lt j (e b) in
    let apart : b ≢ broadcast_row = λ q. let y : true ≡ false = sym (broadcast-in keeps) ∙ ap (is_among (stage_rows keeps)) (sym q) ∙ other in absurd (cc) in
    let g = staged kind keeps w b p j h f now inside some (omega arith) apart (λ y i l. s.rest sign_row i (sign-out keeps) ∙ sign y i l) in
    let bit : now b j ≡ e b j = s.rest b j other in
    record {
      row = λ i l. g.row i l ∙ rw bit (by_bit (e b j) (λ c. cond c (moved_bits kind f w h (now (shift_role p)) i) (now (shift_role p) i) ≡ moved_bits kind f w (n + cond c h 0) (e a) i)
          (moved-same kind f w h (now (shift_role p)) (moved_bits kind f w n (e a)) s.row i l ∙ moved-twice kind f w h n (e a) i)
          (let z : n + 0 ≡ n = omega arith in rw z (s.row i l)));
      last = λ y. (g.out y).last ∙ rw (bit, s.last y) (by_bit (e b j) (λ c. cond c (now (shift_role p) (h - 1)) (last_out (e a) n) ≡ last_out (e a) (n + cond c h 0))
          (s.row (h - 1) (omega arith) ∙ moved-inside kind f w n (e a) (h - 1) (goes y) (omega arith) ∙ sym (last-next (e a) n h some))
          (let z : n + 0 ≡ n = omega arith in rw z refl));
      more = λ y. (g.out y).more ∙ rw (bit, s.last y, s.more y) (by_bit (e b j) (λ c. more_out (e a) n || (c && (last_out (e a) n || any_below (h - 1) (now (shift_role p)))) ≡ more_out (e a) (n + cond c h 0))
          (ap (λ c. more_out (e a) n || (last_out (e a) n || c)) (any-same (h - 1) (now (shift_role p)) (λ q. e a (q + n)) (λ i l. s.row i (omega arith) ∙ moved-inside kind f w n (e a) i (goes y) (omega arith)))
          ∙ more-next (e a) n h some)
          (let z : n + 0 ≡ n = omega arith in rw z (or_no (more_out (e a) n))));
      rest = λ r i q. g.rest r i q ∙ s.rest r i q;
    }
  where
    by_bit : (c : Bool) (P : Bool → Type 0) → P true → P false → P c
    by_bit true P x y = x
    by_bit false P x y = y

    or_no : (b : Bool) → b || false ≡ b
    or_no true = refl
    or_no false = refl

pub odd-next : (n : ℕ) → is_odd (suc n) ≡ not (is_odd n)
odd-next n =
    ⊎_elim
    (λ (q : n % 2 ≡ 1). let z : suc n % 2 ≡ 0 = omega arith in rw (q, z) refl)
    (λ (q : n % 2 ≢ 1). let y : n % 2 ≡ 0 = omega arith in let z : suc n % 2 ≡ 1 = omega arith in rw (y, z) refl)
    (cases_eq (n % 2) 1)

pub below-power : (j : ℕ) → j < 2 ^ j
below-power zero = omega arith
below-power (suc j) = omega (arith, below-power j, pow-suc 2 j)

pub shifted : (kind : Shift) (keeps : Bool) (w a b n : ℕ) (f : Bool) (e now : ℕ → ℕ → Bool) → 2 ^ n ≤ w → is_among (stage_rows keeps) b ≡ false
    → (keeps ≡ true → goes_up kind ≡ false) → (fills kind ≡ true → (i : ℕ) → i < w → e sign_row i ≡ f)
    → Shifted kind keeps w a b false 0 f e now → Shifted kind keeps w a b (is_odd n) n f e (steps_on (stages kind keeps w b n) now)
unfolding stages steps_on
shifted kind keeps w a b zero f e now room other goes sign s = s
shifted kind keeps w a b (suc n) f e now room other goes sign s =
    let d : 2 ^ suc n ≡ 2 ^ n * 2 = pow-suc 2 n in
    let some : 0 < 2 ^ n = pow_pos n in
    let small : n < 2 ^ n = below-power n in
    let half : 2 ^ n ≤ w = omega (arith, d, room) in
    let whole : 2 ^ n * 2 ≤ w = omega (arith, d, room) in
    let inside : n < w = omega arith in
    rw (odd-next n, steps_on-append (stages kind keeps w b n) (stage kind keeps w b (is_odd n) n (2 ^ n)) now)
    (next kind keeps w a b (is_odd n) n f e (steps_on (stages kind keeps w b n) now) inside whole other goes sign (shifted kind keeps w a b n f e now half other goes sign s))

pub stages-within : (kind : Shift) (keeps : Bool) (w b n : ℕ) → Within (stage_rows keeps) (stages kind keeps w b n)
unfolding stages
stages-within kind keeps w b zero = tt
stages-within kind keeps w b (suc n) =
    within-append (stage_rows keeps) (stages kind keeps w b n) (stage kind keeps w b (is_odd n) n (2 ^ n)) (stages-within kind keeps w b n) (stage-within kind keeps w b (is_odd n) n (2 ^ n))

-- a width of at most 32 bits takes at most 5 stages
pub few-stages : (w l : ℕ) → w ≡ 2 ^ l → w ≤ 32 → l ≤ 5
few-stages w l is room =
    ⊎_elim
    (λ (m : 5 < l).
    let more : 6 ≤ l = omega arith in
    let h : 2 ^ 6 ≤ 2 ^ l = pow_mono {i = 6} {j = l} more in
    let k : 64 ≤ 2 ^ l = h in
    absurd (omega (arith, k, is, room)))
    (λ (m : l ≤ 5). m)
    (cases_lt 5 l)
