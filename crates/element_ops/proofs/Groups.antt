-- Groups of registers whose elements are written: when two are equal, and what one more element makes of them.
use Rattle.std.proofs.Common.{◌≡◌, ℕ, zero, suc, ◌+◌, ◌-◌, ◌*◌, ◌/◌, ◌%◌, ◌^◌, ◌<◌, ◌≤◌, Bool, true, false, cond, ◌&&◌, eqb, List, [], length, get_or, leb, ltb, refl, sym, ◌∙◌, ap, arith, ⊎_elim}
use Rattle.std.proofs.lemmas.Bool.{cases_lt, cases_eq, eq-eqb, ne_eqb, lt-ltb, le-leb, lt-leb, le-ltb}
use Rattle.std.proofs.lemmas.Nat.{div-mul-add, mod-mul-add, div-add-mod', pow-add, pow_pos}
use Rattle.std.proofs.lemmas.Nat.Bits.{bit_at_cat_low}
use Rattle.std.proofs.lemmas.List.{get_or_default}
use Rattle.std.proofs.Math.Nat.{mod-lt, mod-eq_of_lt, mul-le-mul_right, div-lt_iff_lt-mul}
use Rattle.bit_laws.specs.Numbers.{low, little, bit_of, byte_of}
use Rattle.bit_laws.specs.Lists.{tabulate}
use Rattle.bit_laws.proofs.Numbers.{number-same, bit-number, number-bits}
use Rattle.bit_laws.proofs.Lists.{length-tabulate, get-tabulate, same-lists, tabulate-same}
use Rattle.element_ops.specs.Elements.{AreRegisters, byte_at, group_byte, element_of, with_bytes, with_element, with_elements, place_in_group}
use Rattle.element_ops.proofs.Bytes.{byte-bits}
use Rattle.element_ops.proofs.Writing.{byte-with_bytes}

-- ---- bytes

-- a write that follows another
pub bytes-again : (v : List (List ℕ)) (f g h : ℕ → ℕ → ℕ) → ((q j : ℕ) → q < length v → j < length (get_or v q []) → g q j ≡ h q j)
    → with_bytes (with_bytes v f) g ≡ with_bytes v h
unfolding with_bytes
bytes-again v f g h same =
    rw (length-tabulate (length v) (λ q. tabulate (length (get_or v q [])) (f q)))
    (tabulate-same (length v) (λ q. tabulate (length (get_or (tabulate (length v) (λ p. tabulate (length (get_or v p [])) (f p))) q [])) (g q)) (λ q. tabulate (length (get_or v q [])) (h q)) (λ q inside.
    let here = get-tabulate (length v) (λ p. tabulate (length (get_or v p [])) (f p)) q [] inside in
    let long : length (get_or (tabulate (length v) (λ p. tabulate (length (get_or v p [])) (f p))) q []) ≡ length (get_or v q []) = ap (λ (l : List ℕ). length l) here ∙ length-tabulate (length (get_or v q [])) (f q) in
    rw long (tabulate-same (length (get_or v q [])) (g q) (h q) (λ j within. same q j inside within))))

pub bytes-same : (v : List (List ℕ)) (g h : ℕ → ℕ → ℕ) → ((q j : ℕ) → q < length v → j < length (get_or v q []) → g q j ≡ h q j) → with_bytes v g ≡ with_bytes v h
unfolding with_bytes
bytes-same v g h same =
    tabulate-same (length v) (λ q. tabulate (length (get_or v q [])) (g q)) (λ q. tabulate (length (get_or v q [])) (h q)) (λ q inside.
    tabulate-same (length (get_or v q [])) (g q) (h q) (λ j within. same q j inside within))

pub bytes-kept : (v : List (List ℕ)) (g : ℕ → ℕ → ℕ) → ((q j : ℕ) → q < length v → j < length (get_or v q []) → g q j ≡ byte_at v q j) → with_bytes v g ≡ v
unfolding with_bytes
bytes-kept v g same =
    same-lists (tabulate (length v) (λ q. tabulate (length (get_or v q [])) (g q))) v (length-tabulate (length v) (λ q. tabulate (length (get_or v q [])) (g q))) (λ q d inside.
    let within : q < length v = omega (arith, length-tabulate (length v) (λ q. tabulate (length (get_or v q [])) (g q))) in
    get-tabulate (length v) (λ q. tabulate (length (get_or v q [])) (g q)) q d within
    ∙ same-lists (tabulate (length (get_or v q [])) (g q)) (get_or v q []) (length-tabulate (length (get_or v q [])) (g q)) (λ j x there.
    let here : j < length (get_or v q []) = omega (arith, length-tabulate (length (get_or v q [])) (g q)) in
    get-tabulate (length (get_or v q [])) (g q) j x here ∙ same q j within here ∙ get_or_default (get_or v q []) j 0 x here)
    ∙ get_or_default v q [] d within)

-- ---- a byte of a number that is cut, and of a number of bytes

pub byte-cut : (z w k : ℕ) → 8 * (k + 1) ≤ w → byte_of (low w z) k ≡ byte_of z k
byte-cut z w k inside =
    byte-bits (low w z) k
    ∙ number-same 8 (λ b. bit_of (low w z) (8 * k + b)) (λ b. bit_of z (8 * k + b)) (λ b below.
    ap (λ (x : ℕ). bit_of x (8 * k + b)) (sym (number-bits w z)) ∙ bit-number w (bit_of z) (8 * k + b) (omega arith))
    ∙ sym (byte-bits z k)

pub little-lt : (n : ℕ) (f : ℕ → ℕ) → ((k : ℕ) → f k < 2 ^ 8) → little n f < 2 ^ (8 * n)
little-lt zero f small = omega arith
little-lt (suc n) f small =
    let e : 8 * suc n ≡ 8 * n + 8 = omega arith in
    let p : 2 ^ (8 * n + 8) ≡ 2 ^ (8 * n) * 2 ^ 8 = pow-add 2 (8 * n) 8 in
    let m : (f n + 1) * 2 ^ (8 * n) ≤ 2 ^ 8 * 2 ^ (8 * n) = mul-le-mul_right (2 ^ (8 * n)) (omega (arith, small n)) in
    rw (e, p) (omega (arith, little-lt n f small))

pub byte-little : (n : ℕ) (f : ℕ → ℕ) (k : ℕ) → ((j : ℕ) → f j < 2 ^ 8) → k < n → byte_of (little n f) k ≡ f k
byte-little zero f k small inside = absurd (omega arith)
byte-little (suc n) f k small inside =
    ⊎_elim
    (λ (below : k < n).
    byte-bits (little n f + f n * 2 ^ (8 * n)) k
    ∙ number-same 8 (λ b. bit_of (little n f + f n * 2 ^ (8 * n)) (8 * k + b)) (λ b. bit_of (little n f) (8 * k + b)) (λ b lower.
    let e : little n f + f n * 2 ^ (8 * n) ≡ f n * 2 ^ (8 * n) + little n f = omega arith in
    rw e (ap (λ (x : ℕ). eqb x 1) (bit_at_cat_low (f n) (8 * n) (little n f) (8 * k + b) (omega arith))))
    ∙ sym (byte-bits (little n f) k)
    ∙ byte-little n f k small below)
    (λ (above : n ≤ k).
    let last : k ≡ n = omega arith in
    let e : little n f + f n * 2 ^ (8 * n) ≡ f n * 2 ^ (8 * n) + little n f = omega arith in
    rw (last, e, div-mul-add (f n) (2 ^ (8 * n)) (little n f) (little-lt n f small)) (mod-eq_of_lt (small n)))
    (cases_lt k n)

-- ---- elements of a group

-- the slot of a byte lies in the group
slot-in : (p n count : ℕ) → 0 < n → p < count * n → p / n < count
slot-in p n count some inside = (div-lt_iff_lt-mul some).1 inside

-- a byte of a group
place-in : (size r count q j : ℕ) → j < size → r ≤ q → q < r + count → place_in_group size r q j < count * size
place-in size r count q j within from past =
    let d = q - r in
    let less : suc d ≤ count = omega arith in
    let m : suc d * size ≤ count * size = mul-le-mul_right size less in
    omega arith

place-past : (size r count q j : ℕ) → r + count ≤ q → count * size ≤ place_in_group size r q j
place-past size r count q j past =
    let d = q - r in
    let less : count ≤ d = omega arith in
    let m : count * size ≤ d * size = mul-le-mul_right size less in
    omega arith

-- Two groups with the same elements are equal; each element counts at its width alone.
pub elements-same : (size : ℕ) (v : List (List ℕ)) (r count w slots : ℕ) (g h : ℕ → ℕ) → AreRegisters size v → 8 * (w / 8) ≡ w → 0 < w → count * size ≤ slots * (w / 8)
    → ((s : ℕ) → s < slots → low w (g s) ≡ low w (h s)) → with_elements size v r count w g ≡ with_elements size v r count w h
unfolding with_elements
elements-same size v r count w slots g h are whole wide all same =
    bytes-same v (λ q j. cond (leb r q && ltb q (r + count)) (byte_of (g (place_in_group size r q j / (w / 8))) (place_in_group size r q j % (w / 8))) (byte_at v q j)) (λ q j. cond (leb r q && ltb q (r + count)) (byte_of (h (place_in_group size r q j / (w / 8))) (place_in_group size r q j % (w / 8))) (byte_at v q j)) (λ q j inside within.
    let n = w / 8 in
    let some : 0 < n = omega arith in
    let long : length (get_or v q []) ≡ size = are.sizes q (omega (arith, are.count)) in
    let p = place_in_group size r q j in
    ⊎_elim
    (λ (below : q < r). rw (lt-leb r q below) refl)
    (λ (from : r ≤ q).
    rw (le-leb r q from) (
    ⊎_elim
    (λ (past : q < r + count).
    let lies : p < count * size = place-in size r count q j (omega arith) from past in
    let slot : p / n < slots = slot-in p n slots some (omega arith) in
    let rest : p % n < n = mod-lt p some in
    rw (lt-ltb q (r + count) past) (
    sym (byte-cut (g (p / n)) w (p % n) (omega arith))
    ∙ ap (λ (z : ℕ). byte_of z (p % n)) (same (p / n) slot)
    ∙ byte-cut (h (p / n)) w (p % n) (omega arith)))
    (λ (out : r + count ≤ q). rw (le-ltb q (r + count) out) refl)
    (cases_lt q (r + count))))
    (cases_lt q r))

-- One more element.
pub element-more : (size : ℕ) (v : List (List ℕ)) (r count w at z : ℕ) (g : ℕ → ℕ) → AreRegisters size v → 8 * (w / 8) ≡ w → 0 < w → (at + 1) * (w / 8) ≤ count * size
    → with_element size (with_elements size v r count w g) r w at z ≡ with_elements size v r count w (λ s. cond (eqb s at) z (g s))
unfolding with_elements with_element
element-more size v r count w at z g are whole wide inside =
    let n = w / 8 in
    let some : 0 < n = omega arith in
    let f : ℕ → ℕ → ℕ = λ q j. cond (leb r q && ltb q (r + count)) (byte_of (g (place_in_group size r q j / (w / 8))) (place_in_group size r q j % (w / 8))) (byte_at v q j) in
    bytes-again v f (λ q j. cond (leb r q && eqb (place_in_group size r q j / (w / 8)) at) (byte_of z (place_in_group size r q j % (w / 8))) (byte_at (with_bytes v f) q j)) (λ q j. cond (leb r q && ltb q (r + count)) (byte_of (cond (eqb (place_in_group size r q j / (w / 8)) at) z (g (place_in_group size r q j / (w / 8)))) (place_in_group size r q j % (w / 8))) (byte_at v q j)) (λ q j lies within.
    let long : length (get_or v q []) ≡ size = are.sizes q (omega (arith, are.count)) in
    let p = place_in_group size r q j in
    rw (byte-with_bytes v f q j lies within) (
    ⊎_elim
    (λ (below : q < r). rw (lt-leb r q below) refl)
    (λ (from : r ≤ q).
    rw (le-leb r q from) (
    ⊎_elim
    (λ (past : q < r + count). rw (lt-ltb q (r + count) past) (chosen (eqb (p / n) at) z (g (p / n)) (p % n)))
    (λ (out : r + count ≤ q).
    let beyond : count * size ≤ p = place-past size r count q j out in
    let apart : p / n ≡ at → ⊥ = λ e. let whole_p : p / n * n + p % n ≡ p = div-add-mod' p n in let rest : p % n < n = mod-lt p some in let same_place : p / n * n ≡ at * n = ap (λ (x : ℕ). x * n) e in omega arith in
    rw (le-ltb q (r + count) out, ne_eqb (p / n) at apart) refl)
    (cases_lt q (r + count))))
    (cases_lt q r)))
  where
    chosen : (t : Bool) (x y k : ℕ) → cond t (byte_of x k) (byte_of y k) ≡ byte_of (cond t x y) k
    chosen true x y k = refl
    chosen false x y k = refl

-- a byte of an element that is read
pub old-byte : (size : ℕ) (v : List (List ℕ)) (r w q j : ℕ) → AreRegisters size v → 0 < w / 8 → r ≤ q → j < size
    → byte_of (element_of size v r w (place_in_group size r q j / (w / 8))) (place_in_group size r q j % (w / 8)) ≡ byte_at v q j
unfolding element_of
old-byte size v r w q j are some from below =
    let n = w / 8 in
    let p = place_in_group size r q j in
    byte-little n (λ k. group_byte size v r (p / n * n + k)) (p % n) (λ k. are.bytes (r + (p / n * n + k) / size) ((p / n * n + k) % size)) (mod-lt p some)
    ∙ ap (λ (x : ℕ). group_byte size v r x) (div-add-mod' p n)
    ∙ here (q - r) (omega arith)
  where
    here : (d : ℕ) → q ≡ r + d → group_byte size v r (d * size + j) ≡ byte_at v q j
    here d e = rw (div-mul-add d size j below, mod-mul-add d size j below, e) refl

-- A group that keeps its elements is as it was.
pub elements-kept : (size : ℕ) (v : List (List ℕ)) (r count w : ℕ) → AreRegisters size v → 0 < size → 8 * (w / 8) ≡ w → 0 < w → with_elements size v r count w (element_of size v r w) ≡ v
unfolding with_elements
elements-kept size v r count w are positive whole wide =
    bytes-kept v (λ q j. cond (leb r q && ltb q (r + count)) (byte_of (element_of size v r w (place_in_group size r q j / (w / 8))) (place_in_group size r q j % (w / 8))) (byte_at v q j)) (λ q j inside within.
    let some : 0 < w / 8 = omega arith in
    let long : length (get_or v q []) ≡ size = are.sizes q (omega (arith, are.count)) in
    ⊎_elim
    (λ (below : q < r). rw (lt-leb r q below) refl)
    (λ (from : r ≤ q). rw (le-leb r q from, old-byte size v r w q j are some from (omega arith)) (either (ltb q (r + count)) (byte_at v q j)))
    (cases_lt q r))
  where
    either : (t : Bool) (x : ℕ) → cond (true && t) x x ≡ x
    either true x = refl
    either false x = refl

-- ---- a group that is written again

-- what is written over is gone
pub elements-over : (size : ℕ) (v : List (List ℕ)) (r count w : ℕ) (g h : ℕ → ℕ) → AreRegisters size v → with_elements size (with_elements size v r count w g) r count w h ≡ with_elements size v r count w h
unfolding with_elements
elements-over size v r count w g h are =
    let f : ℕ → ℕ → ℕ = λ q j. cond (leb r q && ltb q (r + count)) (byte_of (g (place_in_group size r q j / (w / 8))) (place_in_group size r q j % (w / 8))) (byte_at v q j) in
    bytes-again v f (λ q j. cond (leb r q && ltb q (r + count)) (byte_of (h (place_in_group size r q j / (w / 8))) (place_in_group size r q j % (w / 8))) (byte_at (with_bytes v f) q j)) (λ q j. cond (leb r q && ltb q (r + count)) (byte_of (h (place_in_group size r q j / (w / 8))) (place_in_group size r q j % (w / 8))) (byte_at v q j)) (λ q j lies within.
    rw (byte-with_bytes v f q j lies within) (inside (leb r q && ltb q (r + count)) (byte_of (h (place_in_group size r q j / (w / 8))) (place_in_group size r q j % (w / 8))) (byte_of (g (place_in_group size r q j / (w / 8))) (place_in_group size r q j % (w / 8))) (byte_at v q j)))
  where
    inside : (b : Bool) (x y z : ℕ) → cond b x (cond b y z) ≡ cond b x z
    inside true x y z = refl
    inside false x y z = refl

pub low-low : (w z : ℕ) → low w (low w z) ≡ low w z
low-low w z = mod-eq_of_lt (mod-lt z (pow_pos w))
