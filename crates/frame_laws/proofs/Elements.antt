-- Where the elements of a group lie in the slices, and what the network makes of them.
use Rattle.std.proofs.Common.{◌≡◌, ℕ, suc, ◌+◌, ◌*◌, ◌/◌, ◌%◌, ◌<◌, ◌≤◌, Bool, true, cond, eqb, refl, sym, ◌∙◌, ap, arith, ⊎_elim}
use Rattle.std.proofs.lemmas.Bool.{cases_lt, lt-ltb}
use Rattle.std.proofs.lemmas.Nat.{div-mul-add, mod-mul-add, div-add-mod'}
use Rattle.std.proofs.Math.Nat.{mul-le-mul_right, mod-lt}
use Rattle.bit_laws.specs.Numbers.{number}
use Rattle.bit_laws.proofs.Numbers.{number-same}
use Rattle.bit_rows.specs.Slices.{Slices, placed}
use Rattle.steer_net.specs.Moves.{rewritten}
use Rattle.steer_net.specs.Network.{bit_in, position, numbered}
use Rattle.element_ops.specs.Elements.{Registers, element_in}
use Rattle.micro_ir.specs.Steps.{element}
use Rattle.micro_ir.proofs.Lift.{element-inside}

-- a row that is written by the numbers of its elements: all bits of an element are alike
pub numbered-element : (w k col row first : ℕ) (what : ℕ → Bool) (s : Slices) → k * w + w ≤ 32 → col < s.columns → (r j : ℕ) → j < w
    → element w k col (numbered row w first what s) r j ≡ cond (eqb r row) (what (first + (col * (32 / w) + k))) (element w k col s r j)
numbered-element w k col row first what s fits inside r j below =
    let p : placed s.columns (k * w + j) col ≡ true = rw (lt-ltb (k * w + j) 32 (omega arith), lt-ltb col s.columns inside) refl in
    element-inside w k col (numbered row w first what s) r j below
    ∙ rw (p, div-mul-add k w j below, element-inside w k col s r j below) refl

-- a row whose bits are written by the places of its elements and their places in these
pub rewritten-element : (w k col row : ℕ) (what : ℕ → ℕ → Bool) (s : Slices) → k * w + w ≤ 32 → col < s.columns → (r j : ℕ) → j < w
    → element w k col (rewritten row w what s) r j ≡ cond (eqb r row) (what (col * (32 / w) + k) j) (element w k col s r j)
rewritten-element w k col row what s fits inside r j below =
    let p : placed s.columns (k * w + j) col ≡ true = rw (lt-ltb (k * w + j) 32 (omega arith), lt-ltb col s.columns inside) refl in
    element-inside w k col (rewritten row w what s) r j below
    ∙ rw (p, div-mul-add k w j below, mod-mul-add k w j below, element-inside w k col s r j below) refl

-- where a bit of a row lies, by the elements of the row: in which one, and at which place of it
bit-position : (w at : ℕ) → 0 < w → 32 / w * w ≡ 32 → (at / w ≡ position w (at % 32) (at / 32)) × (at % w ≡ at % 32 % w)
bit-position w at pos lanes =
    let sub = at % 32 in
    let col = at / 32 in
    let n = 32 / w in
    let whole : col * 32 + sub ≡ at = div-add-mod' at 32 in
    let parts : sub / w * w + sub % w ≡ sub = div-add-mod' sub w in
    let rest : sub % w < w = mod-lt sub pos in
    let more : col * (n * w) ≡ col * 32 = ap (λ x. col * x) lanes in
    let e : at ≡ (col * n + sub / w) * w + sub % w = omega arith in
    (ap (λ (x : ℕ). x / w) e ∙ div-mul-add (col * n + sub / w) w (sub % w) rest, ap (λ (x : ℕ). x % w) e ∙ mod-mul-add (col * n + sub / w) w (sub % w) rest)

-- the same row, bit by bit
pub rewritten-bit : (w row : ℕ) (what : ℕ → ℕ → Bool) (s : Slices) (r at : ℕ) → 0 < w → 32 / w * w ≡ 32 → at < 32 * s.columns
    → bit_in (rewritten row w what s) r at ≡ cond (eqb r row) (what (at / w) (at % w)) (bit_in s r at)
rewritten-bit w row what s r at pos lanes inside =
    let place = bit-position w at pos lanes in
    let sub : at % 32 < 32 = mod-lt at (omega arith) in
    let col : at / 32 < s.columns = omega arith in
    rw (place.0, place.1, lt-ltb (at % 32) 32 sub, lt-ltb (at / 32) s.columns col) refl

-- Element p of a row of so many columns, with n elements to a column: in which column it lies, and which one it is there.
pub record InColumn (w n columns p : ℕ) : Type 0 where
  pub k : ℕ
  pub col : ℕ
  pub fits : k * w + w ≤ 32
  pub inside : col < columns
  pub number : col * n + k ≡ p
  pub bits : (j : ℕ) → p * w + j ≡ col * 32 + (k * w + j)

pub in_column : (w n columns p : ℕ) → 0 < w → n * w ≡ 32 → p < columns * n → InColumn w n columns p
in_column w n columns p pos lanes inside =
    let some : 0 < n = ⊎_elim (λ (l : 0 < n). l) (λ (l : n ≤ 0). let z : n * w ≤ 0 * w = mul-le-mul_right w l in absurd (omega arith)) (cases_lt 0 n) in
    let parts : p / n * n + p % n ≡ p = div-add-mod' p n in
    let k : p % n < n = mod-lt p some in
    let f : suc (p % n) * w ≤ n * w = mul-le-mul_right w k in
    let col : p / n < columns = ⊎_elim (λ (l : p / n < columns). l) (λ (l : columns ≤ p / n). let z : columns * n ≤ p / n * n = mul-le-mul_right n l in absurd (omega arith)) (cases_lt (p / n) columns) in
    let all : p / n * (n * w) ≡ p / n * 32 = ap (λ x. p / n * x) lanes in
    record {
      k = p % n;
      col = p / n;
      fits = omega arith;
      inside = col;
      number = parts;
      bits = λ j. let e : p * w ≡ (p / n * n + p % n) * w = ap (λ x. x * w) (sym parts) in omega arith;
    }

-- bit b of column col of a register, counted through its columns
pub bit_place : (s : Slices) (r col b : ℕ) → b < 32 → bit_in s r (col * 32 + b) ≡ s.bit b r col
bit_place s r col b below = rw (div-mul-add col 32 b below, mod-mul-add col 32 b below, bit_in) refl

-- a bit of a register lies in an element
pub record InElement (w : ℕ) (s : Slices) (r i : ℕ) : Type 0 where
  pub fits : i % 32 / w * w + w ≤ 32
  pub inside : i / 32 < s.columns
  pub below : i % 32 % w < w
  pub bit : bit_in s r i ≡ element w (i % 32 / w) (i / 32) s r (i % 32 % w)
  -- and the element's place gives the bit back
  pub back : i / 32 * 32 + (i % 32 / w * w + i % 32 % w) ≡ i

pub in_element : (w n : ℕ) (s : Slices) (r i : ℕ) → 0 < w → n * w ≡ 32 → i < 32 * s.columns → InElement w s r i
in_element w n s r i pos lanes inside =
    let m : i % 32 < 32 = mod-lt i (omega arith) in
    let l : i % 32 % w < w = mod-lt (i % 32) pos in
    let e : i % 32 / w * w + i % 32 % w ≡ i % 32 = div-add-mod' (i % 32) w in
    let q : i % 32 / w < n = ⊎_elim (λ (l : i % 32 / w < n). l) (λ (l : n ≤ i % 32 / w). let z : n * w ≤ i % 32 / w * w = mul-le-mul_right w l in absurd (omega arith)) (cases_lt (i % 32 / w) n) in
    let f : suc (i % 32 / w) * w ≤ n * w = mul-le-mul_right w q in
    let c : i / 32 * 32 + i % 32 ≡ i = div-add-mod' i 32 in
    record {
      fits = omega arith;
      inside = omega arith;
      below = l;
      bit = ap (λ (x : ℕ). s.bit x r (i / 32)) (sym e) ∙ sym (element-inside w (i % 32 / w) (i / 32) s r (i % 32 % w) l);
      back = omega arith;
    }

-- Where bit j of element k of column col lies, with n elements to a column: in its register, and in register g of a group.
pub record Placed (w n vlen columns k col j : ℕ) : Type 0 where
  pub here : col * 32 + (k * w + j) < vlen
  pub per : vlen / w ≡ columns * n
  pub inside : col * n + k < columns * n
  pub number : (g : ℕ) → g * vlen + (col * 32 + (k * w + j)) ≡ (g * (columns * n) + (col * n + k)) * w + j

pub placed_at : (w n vlen columns k col j : ℕ) → 0 < w → n * w ≡ 32 → vlen ≡ 32 * columns → k * w + w ≤ 32 → col < columns → j < w → Placed w n vlen columns k col j
placed_at w n vlen columns k col j pos lanes long fits inside below =
    let kn : k < n = ⊎_elim (λ (l : k < n). l) (λ (l : n ≤ k). let z : n * w ≤ k * w = mul-le-mul_right w l in absurd (omega arith)) (cases_lt k n) in
    let cn : suc col * n ≤ columns * n = mul-le-mul_right n inside in
    let v2 : vlen ≡ columns * n * w = long ∙ omega (arith, ap (λ x. columns * x) lanes) in
    let v3 : vlen ≡ columns * n * w + 0 = v2 ∙ omega arith in
    record {
      here = omega arith;
      per = rw v3 (div-mul-add (columns * n) w 0 pos);
      inside = omega arith;
      number = λ g. rw v2 (omega (arith, ap (λ x. col * x) lanes));
    }

-- an element of a group, by its bits in its register
pub element-placed : (w n vlen columns k col : ℕ) (v : Registers) (r g : ℕ) → 0 < w → n * w ≡ 32 → vlen ≡ 32 * columns → k * w + w ≤ 32 → col < columns
    → element_in vlen v r w (g * (vlen / w) + (col * n + k)) ≡ number w (λ j. v (r + g) (col * 32 + (k * w + j)))
unfolding element_in
element-placed w n vlen columns k col v r g pos lanes long fits inside =
    number-same w _ _ (λ j below.
    let p = placed_at w n vlen columns k col j pos lanes long fits inside below in
    rw (p.per, sym (p.number g), div-mul-add g vlen (col * 32 + (k * w + j)) p.here, mod-mul-add g vlen (col * 32 + (k * w + j)) p.here) refl)
