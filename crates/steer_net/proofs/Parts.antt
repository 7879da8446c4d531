-- Rows that are written place by place.
use Rattle.std.proofs.Common.{◌≡◌, ℕ, ◌+◌, ◌-◌, ◌*◌, ◌/◌, ◌<◌, ◌≤◌, Bool, true, false, cond, ◌&&◌, ◌||◌, eqb, leb, ltb, refl, arith, ⊎_elim}
use Rattle.std.proofs.lemmas.Bool.{cases_lt, cases_eq, and_parts, ltb-true, lt-ltb, le-ltb, le-leb, lt-leb, eq-eqb, ne_eqb, eqb-true, or_cases}
use Rattle.std.proofs.lemmas.Nat.{div-mul-add, div_below, mul-add-lt}
use Rattle.bit_rows.specs.Slices.{Slices, placed}
use Rattle.steer_net.specs.Network.{numbered, position, is_width}
use Rattle.steer_net.specs.Rows.{partly, is_between}

-- slices with the same parts are the same
pub same_slices : (a b : Slices) → a.columns ≡ b.columns → ((s r c : ℕ) → a.bit s r c ≡ b.bit s r c) → ((s c : ℕ) → a.tag s c ≡ b.tag s c) → a.num ≡ b.num → a ≡ b
same_slices a b p q r n = λ i. record { columns = p i; bit = λ s w c. q s w c i; tag = λ s c. r s c i; num = n i }

-- one bit, where a row that is partly written is written further
place : (b p : Bool) (x : Bool → Bool) (y z o : Bool) → (p ≡ true → x y ≡ z)
    → cond b (cond p (x (cond b (cond p y o) o)) (cond b (cond p y o) o)) (cond b (cond p y o) o) ≡ cond b (cond p z o) o
place true true x y z o h = h refl
place true false x y z o h = refl
place false p x y z o h = refl

-- more of a row is written
pub joined : (d e f : ℕ → ℕ → Bool) (row : ℕ) (v u w : ℕ → ℕ → Bool) (s : Slices)
    → ((sub col : ℕ) (o : Bool) → sub < 32 → col < s.columns → cond (d sub col) (v sub col) (cond (e sub col) (u sub col) o) ≡ cond (f sub col) (w sub col) o)
    → partly d row v (partly e row u s) ≡ partly f row w s
joined d e f row v u w s h =
    same_slices (partly d row v (partly e row u s)) (partly f row w s) refl
    (λ sub r col. place (eqb r row) (placed s.columns sub col) (λ o. cond (d sub col) (v sub col) o)
    (cond (e sub col) (u sub col) (s.bit sub r col)) (cond (f sub col) (w sub col) (s.bit sub r col)) (s.bit sub r col)
    (λ p. let q = and_parts (ltb sub 32) (ltb col s.columns) p in h sub col (s.bit sub r col) (ltb-true sub 32 q.0) (ltb-true col s.columns q.1)))
    (λ sub col. refl) refl

inside : (b p x y o : Bool) → (p ≡ true → x ≡ y) → cond b (cond p x o) o ≡ cond b (cond p y o) o
inside true true x y o h = h refl
inside true false x y o h = refl
inside false p x y o h = refl

-- a row that is written at every place
pub whole : (row width first : ℕ) (what : ℕ → Bool) (s : Slices)
    → partly (λ sub col. ltb col s.columns) row (λ sub col. what (first + position width sub col)) s ≡ numbered row width first what s
whole row width first what s =
    same_slices (partly (λ sub col. ltb col s.columns) row (λ sub col. what (first + position width sub col)) s) (numbered row width first what s) refl
    (λ sub r col. inside (eqb r row) (placed s.columns sub col) (cond (ltb col s.columns) (what (first + position width sub col)) (s.bit sub r col)) (what (first + position width sub col)) (s.bit sub r col)
    (λ p. rw (and_parts (ltb sub 32) (ltb col s.columns) p).1 refl))
    (λ sub col. refl) refl

-- one more element of a column is written
pub element_more : (row width at number k : ℕ) (bit : Bool) (what : ℕ → Bool) (s : Slices) → bit ≡ what (number + k)
    → partly (is_between at (k * width) (k * width + width)) row (λ sub col. bit) (partly (is_between at 0 (k * width)) row (λ sub col. what (number + sub / width)) s)
    ≡ partly (is_between at 0 ((k + 1) * width)) row (λ sub col. what (number + sub / width)) s
element_more row width at number k bit what s e =
    joined (is_between at (k * width) (k * width + width)) (is_between at 0 (k * width)) (is_between at 0 ((k + 1) * width)) row
    (λ sub col. bit) (λ sub col. what (number + sub / width)) (λ sub col. what (number + sub / width)) s (λ sub col o l m. one sub col o)
  where
    next : (k + 1) * width ≡ k * width + width
    next = grind arith

    quotient : (sub : ℕ) → k * width ≤ sub → sub < k * width + width → sub / width ≡ k
    quotient sub l m =
        let e : sub ≡ k * width + (sub - k * width) = omega arith in
        let h : sub - k * width < width = omega arith in
        rw e (div-mul-add k width (sub - k * width) h)

    one : (sub col : ℕ) (o : Bool) → cond (is_between at (k * width) (k * width + width) sub col) bit (cond (is_between at 0 (k * width) sub col) (what (number + sub / width)) o)
        ≡ cond (is_between at 0 ((k + 1) * width) sub col) (what (number + sub / width)) o
    one sub col o = elim (eqb col at) as (λ b. cond (b && (leb (k * width) sub && ltb sub (k * width + width))) bit (cond (b && (leb 0 sub && ltb sub (k * width))) (what (number + sub / width)) o)
        ≡ cond (b && (leb 0 sub && ltb sub ((k + 1) * width))) (what (number + sub / width)) o) [
          | true ↦ rw (next, le-leb 0 sub (omega arith)) (⊎_elim
              (λ (l : sub < k * width). let m : sub < k * width + width = omega arith in rw (lt-leb (k * width) sub l, lt-ltb sub (k * width) l, lt-ltb sub (k * width + width) m) refl)
              (λ (l : k * width ≤ sub). rw (le-leb (k * width) sub l, le-ltb sub (k * width) l) (⊎_elim
              (λ (m : sub < k * width + width). let q : sub / width ≡ k = quotient sub l m in rw (lt-ltb sub (k * width + width) m, q) e)
              (λ (m : k * width + width ≤ sub). rw (le-ltb sub (k * width + width) m) refl) (cases_lt sub (k * width + width))))
              (cases_lt sub (k * width)))
          | false ↦ refl
        ]

-- one more column is written
pub column_more : (row width first at number : ℕ) (what : ℕ → Bool) (s : Slices) → number ≡ first + at * (32 / width)
    → partly (λ sub col. eqb col at) row (λ sub col. what (number + sub / width)) (partly (λ sub col. ltb col at) row (λ sub col. what (first + position width sub col)) s)
    ≡ partly (λ sub col. ltb col (at + 1)) row (λ sub col. what (first + position width sub col)) s
column_more row width first at number what s e =
    joined (λ sub col. eqb col at) (λ sub col. ltb col at) (λ sub col. ltb col (at + 1)) row
    (λ sub col. what (number + sub / width)) (λ sub col. what (first + position width sub col)) (λ sub col. what (first + position width sub col)) s (λ sub col o l m. one sub col o)
  where
    one : (sub col : ℕ) (o : Bool) → cond (eqb col at) (what (number + sub / width)) (cond (ltb col at) (what (first + position width sub col)) o)
        ≡ cond (ltb col (at + 1)) (what (first + position width sub col)) o
    one sub col o = ⊎_elim
        (λ (q : col ≡ at). let l : at < at + 1 = omega arith in
        let n : number + sub / width ≡ first + (at * (32 / width) + sub / width) = omega arith in
        rw (q, eq-eqb at at refl, lt-ltb at (at + 1) l, n) refl)
        (λ (q : col ≡ at → ⊥). rw (ne_eqb col at q) (⊎_elim
        (λ (l : col < at). let m : col < at + 1 = omega arith in rw (lt-ltb col at l, lt-ltb col (at + 1) m) refl)
        (λ (l : at ≤ col). let m : at + 1 ≤ col = omega arith in rw (le-ltb col at l, le-ltb col (at + 1) m) refl) (cases_lt col at)))
        (cases_eq col at)

-- the elements of a column fill it
pub width-fills : (width : ℕ) → is_width width ≡ true → (0 < width) × (32 / width * width ≡ 32)
width-fills width h =
    ⊎_elim
    (λ (p : (eqb width 1 || eqb width 8 || eqb width 16) ≡ true). ⊎_elim
    (λ (q : (eqb width 1 || eqb width 8) ≡ true). ⊎_elim
    (λ (r : eqb width 1 ≡ true). rw (eqb-true width 1 r) (omega arith, refl))
    (λ (r : eqb width 8 ≡ true). rw (eqb-true width 8 r) (omega arith, refl)) (or_cases (eqb width 1) (eqb width 8) q))
    (λ (q : eqb width 16 ≡ true). rw (eqb-true width 16 q) (omega arith, refl)) (or_cases (eqb width 1 || eqb width 8) (eqb width 16) p))
    (λ (p : eqb width 32 ≡ true). rw (eqb-true width 32 p) (omega arith, refl)) (or_cases (eqb width 1 || eqb width 8 || eqb width 16) (eqb width 32) h)

-- a place of the chain lies in one of its elements
pub position-lt : (width n sub col : ℕ) → is_width width ≡ true → sub < 32 → col < n → position width sub col < n * (32 / width)
position-lt width n sub col h s c =
    let w = width-fills width h in
    let l : sub < 32 / width * width = rw w.1 s in
    let q : sub / width < 32 / width = div_below sub width (32 / width) w.0 l in
    let b : col * (32 / width) + sub / width < 32 / width * n = mul-add-lt col (32 / width) (sub / width) n c q in
    omega arith

-- only the elements of the row count
pub numbered_same : (row width first : ℕ) (f g : ℕ → Bool) (s : Slices) → is_width width ≡ true
    → ((e : ℕ) → first ≤ e → e < first + s.columns * (32 / width) → f e ≡ g e) → numbered row width first f s ≡ numbered row width first g s
numbered_same row width first f g s h same =
    same_slices (numbered row width first f s) (numbered row width first g s) refl
    (λ sub r col. inside (eqb r row) (placed s.columns sub col) (f (first + position width sub col)) (g (first + position width sub col)) (s.bit sub r col)
    (λ p. let q = and_parts (ltb sub 32) (ltb col s.columns) p in
    let l : position width sub col < s.columns * (32 / width) = position-lt width s.columns sub col h (ltb-true sub 32 q.0) (ltb-true col s.columns q.1) in
    same (first + position width sub col) (omega arith) (omega arith)))
    (λ sub col. refl) refl
