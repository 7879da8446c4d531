-- The lists of shifts, of bits and of numbers.
use Rattle.std.proofs.Common.{◌≡◌, ◌≢◌, ℕ, zero, suc, ◌+◌, ◌-◌, ◌*◌, ◌/◌, ◌%◌, ◌^◌, ◌<◌, ◌≤◌, Bool, true, false, ◌||◌, eqb, cond, ℤ, List, [], ◌∷◌, ◌++◌, refl, sym, ap, ◌∙◌, arith}
use Rattle.std.specs.Int.{int_shr}
use Rattle.std.proofs.lemmas.Bool.{lt-ltb, le-leb, lt-leb}
use Rattle.std.proofs.lemmas.Nat.{pow_pos, pow-add, mod-mul-add}
use Rattle.std.proofs.Math.Nat.{mul-lt-mul_of_pos_right}
use Rattle.bit_laws.specs.Numbers.{number, low}
use Rattle.bit_laws.specs.Rounding.{bit_of_int, low_int, last_out, more_out}
use Rattle.bit_laws.specs.Signed.{signed}
use Rattle.bit_laws.proofs.Numbers.{number-lt, number-same, number-cat}
use Rattle.bit_laws.proofs.Ints.{with_sign, bit-signed, number-shr, unsigned-is, signed-is, int-low}
use Rattle.micro_ir.specs.Steps.{Step, step_on, steps_on}
use Rattle.micro_ir.specs.Pieces.{above, clear, everywhere}
use Rattle.micro_ir.proofs.OneElement.{fires-hit, step-row, clear-here, everywhere-here, above-else}
use Rattle.micro_ir.proofs.StepLists.{steps_on-append}
use Rattle.micro_ir.proofs.Effects.{above-copy, downs-here}
use Rattle.gen_shift.specs.declared.kinds.Shift.{Shift}
use Rattle.gen_shift.specs.declared.kinds.Shift.TheVariants.{Sll, Srl, Sra}
use Rattle.gen_shift.specs.Rows.{shift_role, shifted_row, last_role, last_row, more_row, sign_row, is_odd, is_among, stage_rows, work_rows}
use Rattle.gen_shift.specs.Lists.{stages, goes_up, fills, moved_bits, sign_steps, signing, starting, shifting}
use Rattle.gen_shift.specs.Kinds.{shift_value, read_as}
use Rattle.gen_shift.proofs.Stays.{Within, stays, within-downs}
use Rattle.gen_shift.proofs.Single.{copied}
use Rattle.gen_shift.proofs.Stage.{as-found}
use Rattle.gen_shift.proofs.Barrel.{Shifted, shifted, moved-none, below-power}

-- What a shift leaves, from the state e.
pub record ShiftDone (kind : Shift) (keeps : Bool) (w l a b : ℕ) (e now : ℕ → ℕ → Bool) : Type 0 where
  pub row : (i : ℕ) → i < w → now (shifted_row l) i ≡ moved_bits kind (e a (w - 1)) w (number l (e b)) (e a) i
  pub last : keeps ≡ true → now (last_row l) 0 ≡ last_out (e a) (number l (e b))
  pub more : keeps ≡ true → now more_row 0 ≡ more_out (e a) (number l (e b))
  pub rest : (r i : ℕ) → is_among (work_rows keeps) r ≡ false → now r i ≡ e r i

fewer : (keeps : Bool) (r : ℕ) → is_among (work_rows keeps) r ≡ false → is_among (stage_rows keeps) r ≡ false
fewer keeps r h = none (eqb r sign_row) (is_among (stage_rows keeps) r) h
  where
    none : (x t : Bool) → x || t ≡ false → t ≡ false
    none true t h = absurd (cc)
    none false t h = h

-- a row that is kept is none of those that are written
apart-of : (keeps : Bool) (r x : ℕ) → is_among (work_rows keeps) r ≡ false → is_among (work_rows keeps) x ≡ true → r ≢ x
apart-of keeps r x h k = λ q. let y : true ≡ false = sym k ∙ sym (ap (is_among (work_rows keeps)) q) ∙ h in absurd (cc)

first-in : (keeps : Bool) → is_among (stage_rows keeps) (shift_role false) ≡ true
first-in true = refl
first-in false = refl

first-work : (keeps : Bool) → is_among (work_rows keeps) (shift_role false) ≡ true
first-work true = refl
first-work false = refl

sign-here : (w a : ℕ) (e : ℕ → ℕ → Bool) → 0 < w → a ≢ sign_row → (i : ℕ) → i < w → steps_on (sign_steps w a) e sign_row i ≡ e a (w - 1)
unfolding steps_on
sign-here w a e some other i inside =
    let e1 = step_on (clear w sign_row) e in
    let one = above (a ∷ []) (1 ∷ []) sign_row (w - 1) 0 in
    let e2 = step_on one e1 in
    let z : w - 1 + 0 ≡ w - 1 = omega arith in
    let clear_top : e1 sign_row (w - 1 + 0) ≡ false = clear-here w sign_row e (w - 1 + 0) (omega arith) in
    let top : e2 sign_row (w - 1) ≡ e a (w - 1) =
    ap (λ (n : ℕ). step_on one e1 sign_row n) (sym z) ∙ above-copy a sign_row (w - 1) 0 e1 clear_top ∙ step-row (clear w sign_row) e a (w - 1) other in
    downs-here sign_row (w - 1) e2 (λ i l. above-else (a ∷ []) (1 ∷ []) sign_row (w - 1) 0 e1 sign_row i (omega arith) ∙ clear-here w sign_row e i (omega arith)) i (omega arith) ∙ top

within-signing : (kind : Shift) (w a : ℕ) (rows : List ℕ) → is_among rows sign_row ≡ true → Within rows (signing kind w a)
within-signing Sll w a rows h = tt
within-signing Srl w a rows h = tt
within-signing Sra w a rows h = (h, (h, within-downs rows sign_row (w - 1) h))

within-starting : (keeps : Bool) (w : ℕ) → Within (work_rows keeps) (starting keeps w)
within-starting true w = (refl, (refl, tt))
within-starting false w = tt

-- One law for all shifts, of bits.
pub shift-done : (kind : Shift) (keeps : Bool) (w l a b : ℕ) (e : ℕ → ℕ → Bool) → w ≡ 2 ^ l → is_among (work_rows keeps) a ≡ false → is_among (work_rows keeps) b ≡ false
    → (keeps ≡ true → goes_up kind ≡ false) → ShiftDone kind keeps w l a b e (steps_on (shifting kind keeps w l a b) e)
unfolding steps_on shifting
shift-done kind keeps w l a b e power a_free b_free goes =
    let some : 0 < w = let p : 0 < 2 ^ l = pow_pos l in omega arith in
    let f = e a (w - 1) in
    let P : List Step = starting keeps w in
    let S : List Step = signing kind w a in
    let c = clear w (shift_role false) in
    let d = everywhere w (a ∷ []) (1 ∷ []) (shift_role false) true in
    let e0 = steps_on P e in
    let e1 = steps_on S e0 in
    let e2 = step_on c e1 in
    let e3 = step_on d e2 in
    let now = steps_on (stages kind keeps w b l) e3 in
    let parts : steps_on (shifting kind keeps w l a b) e ≡ now =
    steps_on-append P (S ++ (c ∷ d ∷ stages kind keeps w b l)) e ∙ steps_on-append S (c ∷ d ∷ stages kind keeps w b l) e0 in
    let early : (r i : ℕ) → is_among (work_rows keeps) r ≡ false → e1 r i ≡ e r i =
    λ r i q. stays (work_rows keeps) S e0 r i (within-signing kind w a (work_rows keeps) (sign-work keeps)) q ∙ stays (work_rows keeps) P e r i (within-starting keeps w) q in
    let a0 : e0 a (w - 1) ≡ e a (w - 1) = stays (work_rows keeps) P e a (w - 1) (within-starting keeps w) a_free in
    let apath : e1 a ≡ e a = λ x i. early a i a_free x in
    let bpath : e1 b ≡ e b = λ x i. early b i b_free x in
    let sign : fills kind ≡ true → (i : ℕ) → i < w → e1 sign_row i ≡ f =
    λ y i m. ap (λ z. steps_on (cond z (sign_steps w a) []) e0 sign_row i) y ∙ sign-here w a e0 some (apart-of keeps a sign_row a_free (sign-work keeps)) i m ∙ a0 in
    let g1 : keeps ≡ true → e1 (last_role false) 0 ≡ false =
    λ y. stays (sign_row ∷ []) S e0 (last_role false) 0 (within-signing kind w a (sign_row ∷ []) refl) refl
    ∙ ap (λ z. steps_on (starting z w) e (last_role false) 0) y ∙ clear-here w (last_role false) (step_on (clear w more_row) e) 0 some in
    let m1 : keeps ≡ true → e1 more_row 0 ≡ false =
    λ y. stays (sign_row ∷ []) S e0 more_row 0 (within-signing kind w a (sign_row ∷ []) refl) refl
    ∙ ap (λ z. steps_on (starting z w) e more_row 0) y
    ∙ step-row (clear w (last_role false)) (step_on (clear w more_row) e) more_row 0 (omega arith) ∙ clear-here w more_row e 0 some in
    let t3 : (i : ℕ) → i < w → e3 (shift_role false) i ≡ e1 a i =
    λ i m. everywhere-here w (a ∷ []) (1 ∷ []) (shift_role false) true e2 i m
    ∙ rw (clear-here w (shift_role false) e1 i m, fires-hit (a ∷ []) (1 ∷ []) (λ r. e2 r i), step-row c e1 a i (apart-of keeps a (shift_role false) a_free (first-work keeps)), copied (e1 a i)) (as-found (e1 a i)) in
    let start : Shifted kind keeps w a b false 0 f e1 e3 = record {
      row = λ i m. t3 i m ∙ sym (moved-none kind f w (e1 a) i m);
      last = λ y. stays (shift_role false ∷ []) (c ∷ d ∷ []) e1 (last_role false) 0 (refl, (refl, tt)) refl ∙ g1 y;
      more = λ y. stays (shift_role false ∷ []) (c ∷ d ∷ []) e1 more_row 0 (refl, (refl, tt)) refl ∙ m1 y;
      rest = λ r i q. stays (stage_rows keeps) (c ∷ d ∷ []) e1 r i (first-in keeps, (first-in keeps, tt)) q;
    } in
    let s : Shifted kind keeps w a b (is_odd l) l f e1 now = shifted kind keeps w a b l f e1 e3 (omega arith) (fewer keeps b b_free) goes sign start in
    record {
      row = λ i m. ap (λ g. g (shifted_row l) i) parts ∙ s.row i m ∙ ap (λ x. moved_bits kind f w (number l x) (e1 a) i) bpath ∙ ap (λ x. moved_bits kind f w (number l (e b)) x i) apath;
      last = λ y. ap (λ g. g (last_row l) 0) parts ∙ s.last y ∙ ap (λ x. last_out (e1 a) (number l x)) bpath ∙ ap (λ x. last_out x (number l (e b))) apath;
      more = λ y. ap (λ g. g more_row 0) parts ∙ s.more y ∙ ap (λ x. more_out (e1 a) (number l x)) bpath ∙ ap (λ x. more_out x (number l (e b))) apath;
      rest = λ r i q. ap (λ g. g r i) parts ∙ s.rest r i (fewer keeps r q) ∙ early r i q;
    }
  where
    sign-work : (keeps : Bool) → is_among (work_rows keeps) sign_row ≡ true
    sign-work true = refl
    sign-work false = refl

-- ---- numbers

-- the number that a shift down reads: without a sign, or with one
abbrev pub read_bits : Shift → (w : ℕ) (x : ℕ → Bool) → ℤ
read_bits Sll w x = with_sign w x false
read_bits Srl w x = with_sign w x false
read_bits Sra w x = with_sign w x (x (w - 1))

pub moved-int : (kind : Shift) (w n : ℕ) (x : ℕ → Bool) → goes_up kind ≡ false → (i : ℕ) → moved_bits kind (x (w - 1)) w n x i ≡ bit_of_int (read_bits kind w x) (n + i)
moved-int Sll w n x goes i = absurd (cc)
moved-int Srl w n x goes i = let e : n + i ≡ i + n = omega arith in rw e (sym (bit-signed w x false (i + n)))
moved-int Sra w n x goes i = let e : n + i ≡ i + n = omega arith in rw e (sym (bit-signed w x (x (w - 1)) (i + n)))

pub down-number : (kind : Shift) (w n : ℕ) (x : ℕ → Bool) → goes_up kind ≡ false → number w (moved_bits kind (x (w - 1)) w n x) ≡ low_int w (int_shr (read_bits kind w x) n)
down-number kind w n x goes =
    number-same w (moved_bits kind (x (w - 1)) w n x) (λ i. bit_of_int (read_bits kind w x) (n + i)) (λ i l. moved-int kind w n x goes i) ∙ number-shr w (read_bits kind w x) n

-- by the bits of a row, and by its number
pub read-is : (kind : Shift) (w : ℕ) (x : ℕ → Bool) → 0 < w → read_bits kind w x ≡ read_as kind w (number w x)
read-is Sll w x some = unsigned-is w x
read-is Srl w x some = unsigned-is w x
read-is Sra w x some = signed-is w x some

pub read-bit : (kind : Shift) (w : ℕ) (x : ℕ → Bool) (i : ℕ) → i < w → x i ≡ bit_of_int (read_bits kind w x) i
read-bit Sll w x i l = sym (bit-signed w x false i ∙ rw (lt-ltb i w l) refl)
read-bit Srl w x i l = sym (bit-signed w x false i ∙ rw (lt-ltb i w l) refl)
read-bit Sra w x i l = sym (bit-signed w x (x (w - 1)) i ∙ rw (lt-ltb i w l) refl)

-- the low bits of the amount
pub amount : (w l : ℕ) (y : ℕ → Bool) → l ≤ w → number l y ≡ low l (number w y)
amount w l y room =
    let e : l + (w - l) ≡ w = omega arith in
    let c = number-cat l (w - l) y in
    let s : number w y ≡ number (w - l) (λ j. y (l + j)) * 2 ^ l + number l y = omega (arith, ap (λ (n : ℕ). number n y) e, c) in
    sym (ap (low l) s ∙ mod-mul-add (number (w - l) (λ j. y (l + j))) (2 ^ l) (number l y) (number-lt l y))

none-number : (n : ℕ) (x : ℕ → Bool) → ((i : ℕ) → i < n → x i ≡ false) → number n x ≡ 0
none-number zero x none = refl
none-number (suc n) x none = rw (none n (omega arith), none-number n x (λ i l. none i (omega arith))) refl

up-number : (w n : ℕ) (x : ℕ → Bool) (f : Bool) → n ≤ w → number w (moved_bits Sll f w n x) ≡ low w (number w x * 2 ^ n)
up-number w n x f room =
    let d = w - n in
    let e : n + d ≡ w = omega arith in
    let e' : d + n ≡ w = omega arith in
    let y = moved_bits Sll f w n x in
    let under : number n y ≡ 0 = none-number n y (λ i l. rw (lt-leb n i l) refl) in
    let over : number d (λ j. y (n + j)) ≡ number d x = number-same d (λ j. y (n + j)) x (λ j l. let z : n + j - n ≡ j = omega arith in rw (le-leb n (n + j) (omega arith), z) refl) in
    let small : number d x < 2 ^ d = number-lt d x in
    let top = number n (λ j. x (d + j)) in
    let p : 2 ^ (d + n) ≡ 2 ^ d * 2 ^ n = pow-add 2 d n in
    let q : 2 ^ w ≡ 2 ^ d * 2 ^ n = ap (λ (k : ℕ). 2 ^ k) (sym e') ∙ p in
    let whole : number w y ≡ number d x * 2 ^ n = ap (λ (k : ℕ). number k y) (sym e) ∙ number-cat n d y ∙ rw (under, over) (omega arith) in
    let parts : number w x ≡ number d x + top * 2 ^ d = ap (λ (k : ℕ). number k x) (sym e') ∙ number-cat d n x in
    let less : number d x * 2 ^ n < 2 ^ d * 2 ^ n = times-less (number d x) (2 ^ d) (2 ^ n) small (pow_pos n) in
    whole ∙ sym (rw (parts, q) (ap (λ (k : ℕ). k % (2 ^ d * 2 ^ n)) (product (number d x) top (2 ^ d) (2 ^ n)) ∙ mod-mul-add top (2 ^ d * 2 ^ n) (number d x * 2 ^ n) less))
  where
    times-less : (a b c : ℕ) → a < b → 0 < c → a * c < b * c
    times-less a b c l some = mul-lt-mul_of_pos_right l some

    product : (x t p q : ℕ) → (x + t * p) * q ≡ t * (p * q) + x * q
    product x t p q = omega arith

-- ---- the values

pub low-room : (w l : ℕ) → w ≡ 2 ^ l → l ≤ w
low-room w l power = omega (arith, below-power l)

-- The number of the moved bits is the kind's value, at w bits.
pub value-is : (kind : Shift) (w l : ℕ) (x y : ℕ → Bool) → w ≡ 2 ^ l
    → number w (moved_bits kind (x (w - 1)) w (number l y) x) ≡ low w (shift_value kind w l (number w x) (number w y))
value-is Sll w l x y power =
    let n : number l y < 2 ^ l = number-lt l y in up-number w (number l y) x (x (w - 1)) (omega arith) ∙ rw (amount w l y (low-room w l power)) refl
value-is Srl w l x y power =
    down-number Srl w (number l y) x refl
    ∙ ap (λ z. low_int w (int_shr z (number l y))) (unsigned-is w x) ∙ ap (λ n. low w (number w x / 2 ^ n)) (amount w l y (low-room w l power))
value-is Sra w l x y power =
    let some : 0 < w = let p : 0 < 2 ^ l = pow_pos l in omega arith in
    down-number Sra w (number l y) x refl
    ∙ rw (signed-is w x some, amount w l y (low-room w l power)) (int-low w (int_shr (signed w (number w x)) (low l (number w y))))
