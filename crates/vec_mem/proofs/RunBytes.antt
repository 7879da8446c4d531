-- Bytes of registers that are written side by side.
use Rattle.std.proofs.Common.{◌≡◌, ℕ, suc, ◌+◌, ◌-◌, ◌*◌, ◌<◌, ◌≤◌, Bool, true, false, cond, ◌&&◌, eqb, ltb, leb, List, get_or, refl, sym, ◌∙◌, ap, arith, ⊎_elim}
use Rattle.std.proofs.lemmas.Bool.{cases_lt, cases_eq, eq-eqb, ne_eqb, lt-ltb, le-ltb, le-leb, lt-leb}
use Rattle.std.proofs.Math.Nat.{mul-le-mul_right}
use Rattle.bit_rows.specs.Slices.{Slices}
use Rattle.cam_chain.specs.Views.{registers_of, register_byte}
use Rattle.cam_chain.proofs.Registers.{length-registers_of, byte-here, are-registers_of}
use Rattle.element_ops.specs.Elements.{AreRegisters, byte_at, with_bytes, place_in_group}
use Rattle.element_ops.proofs.Groups.{bytes-again, bytes-same, bytes-kept}
use Rattle.element_ops.proofs.Writing.{byte-with_bytes}
use Rattle.register_bytes.specs.Registers.{with_register}
use Rattle.vec_mem.specs.Runs.{with_run}

-- a byte that lies in a run, or not
abbrev in_run : (from to p x y : ℕ) → ℕ
in_run from to p x y = cond (leb from p && ltb p to) x y

outside : (from to p x y : ℕ) → to ≤ from → in_run from to p x y ≡ y
outside from to p x y none = ⊎_elim
    (λ (l : p < from). rw (lt-leb from p l) refl)
    (λ (l : from ≤ p). rw (le-leb from p l, le-ltb p to (omega arith)) refl) (cases_lt p from)

guard : (t u : Bool) (x y : ℕ) → (t ≡ true → cond u x y ≡ y) → cond (t && u) x y ≡ y
guard false u x y same = refl
guard true u x y same = same refl

pub run-none : (size : ℕ) (v : List (List ℕ)) (r from to : ℕ) (byte : ℕ → ℕ) → to ≤ from → v ≡ with_run size v r from to byte
unfolding with_run
run-none size v r from to byte none =
    sym (bytes-kept v (λ q j. cond (leb r q && (leb from (place_in_group size r q j) && ltb (place_in_group size r q j) to)) (byte (place_in_group size r q j)) (byte_at v q j)) (λ q j inside within.
    guard (leb r q) (leb from (place_in_group size r q j) && ltb (place_in_group size r q j) to) (byte (place_in_group size r q j)) (byte_at v q j) (λ e.
    outside from to (place_in_group size r q j) (byte (place_in_group size r q j)) (byte_at v q j) none)))

-- a register some of whose bytes are new
pub run-of-register : (s : Slices) (r low to : ℕ) (bytes : List ℕ) (byte : ℕ → ℕ) → r < 32 → to ≤ 4 * s.columns
    → ((j : ℕ) → j < 4 * s.columns → get_or bytes j 0 ≡ in_run low to j (byte j) (register_byte s r j))
    → with_register (registers_of s) r bytes ≡ with_run (4 * s.columns) (registers_of s) r low to byte
unfolding with_register with_run
run-of-register s r low to bytes byte register room each =
    let n = 4 * s.columns in
    let v = registers_of s in
    bytes-same v (λ q j. cond (eqb q r) (get_or bytes j 0) (byte_at v q j)) (λ q j. cond (leb r q && (leb low (place_in_group n r q j) && ltb (place_in_group n r q j) to)) (byte (place_in_group n r q j)) (byte_at v q j)) (λ q j inside within.
    let lies : q < 32 = omega (arith, length-registers_of s) in
    let below : j < n = omega (arith, (are-registers_of s).sizes q lies) in
    ⊎_elim
    (λ (e : q ≡ r).
    let here : (q - r) * n + j ≡ j = first (q - r) n j (omega arith) in
    rw (here, e, eq-eqb r r refl, le-leb r r (omega arith)) (each j below ∙ ap (in_run low to j (byte j)) (sym (byte-here s r j register below))))
    (λ (e : q ≡ r → ⊥).
    rw (ne_eqb q r e) (
    ⊎_elim
    (λ (l : q < r). rw (lt-leb r q l) refl)
    (λ (l : r ≤ q).
    let wide : n ≤ (q - r) * n = later (q - r) n (omega arith) in
    let past : to ≤ (q - r) * n + j = omega arith in
    sym (guard (leb r q) (leb low (place_in_group n r q j) && ltb (place_in_group n r q j) to) (byte (place_in_group n r q j)) (byte_at v q j) (λ g. behind low to (place_in_group n r q j) (byte (place_in_group n r q j)) (byte_at v q j) past)))
    (cases_lt q r)))
    (cases_eq q r))
  where
    first : (d n j : ℕ) → d ≡ 0 → d * n + j ≡ j
    first d n j none = rw none (omega arith)

    later : (d m : ℕ) → 0 < d → m ≤ d * m
    later d m some = let e : 1 * m ≤ d * m = mul-le-mul_right m some in omega arith

    behind : (from to p x y : ℕ) → to ≤ p → in_run from to p x y ≡ y
    behind from to p x y past = ⊎_elim
        (λ (l : p < from). rw (lt-leb from p l) refl)
        (λ (l : from ≤ p). rw (le-leb from p l, le-ltb p to past) refl) (cases_lt p from)

-- bytes that are written after others
at-once : (from mid low count base p y x old : ℕ) → mid ≡ base + low → from ≤ mid → (low ≤ p → p < low + count → y ≡ x)
    → in_run low (low + count) p y (in_run from mid (base + p) x old) ≡ in_run from (mid + count) (base + p) x old
at-once from mid low count base p y x old is order same = ⊎_elim
    (λ (l : p < low).
    rw (lt-leb low p l, lt-ltb (base + p) mid (omega arith), lt-ltb (base + p) (mid + count) (omega arith)) refl)
    (λ (l : low ≤ p).
    rw (le-leb low p l) (
    ⊎_elim
    (λ (h : p < low + count). rw (lt-ltb p (low + count) h, le-leb from (base + p) (omega arith), lt-ltb (base + p) (mid + count) (omega arith)) (same l h))
    (λ (h : low + count ≤ p). rw (le-ltb p (low + count) h, le-leb from (base + p) (omega arith), le-ltb (base + p) mid (omega arith), le-ltb (base + p) (mid + count) (omega arith)) refl)
    (cases_lt p (low + count))))
    (cases_lt p low)

-- bytes of the next register
pub run-more : (size : ℕ) (v : List (List ℕ)) (r k low count from : ℕ) (byte more : ℕ → ℕ) → AreRegisters size v → from ≤ k * size + low
    → ((p : ℕ) → low ≤ p → p < low + count → more p ≡ byte (k * size + p))
    → with_run size (with_run size v r from (k * size + low) byte) (r + k) low (low + count) more ≡ with_run size v r from (k * size + low + count) byte
unfolding with_run
run-more size v r k low count from byte more are order same =
    let mid = k * size + low in
    let f : ℕ → ℕ → ℕ = λ q j. cond (leb r q && (leb from (place_in_group size r q j) && ltb (place_in_group size r q j) mid)) (byte (place_in_group size r q j)) (byte_at v q j) in
    let g : ℕ → ℕ → ℕ = λ q j. cond (leb (r + k) q && (leb low (place_in_group size (r + k) q j) && ltb (place_in_group size (r + k) q j) (low + count))) (more (place_in_group size (r + k) q j)) (byte_at (with_bytes v f) q j) in
    let h : ℕ → ℕ → ℕ = λ q j. cond (leb r q && (leb from (place_in_group size r q j) && ltb (place_in_group size r q j) (mid + count))) (byte (place_in_group size r q j)) (byte_at v q j) in
    bytes-again v f g h (λ q j inside within.
    let below : j < size = omega (arith, are.sizes q (omega (arith, are.count))) in
    rw (byte-with_bytes v f q j inside within) (
    ⊎_elim
    (λ (l : q < r + k).
    rw (lt-leb (r + k) q l) (
    ⊎_elim
    (λ (b : q < r). rw (lt-leb r q b) refl)
    (λ (b : r ≤ q).
    let early : (q - r) * size + j < k * size = before (q - r) k size j (omega arith) below in
    rw (lt-ltb ((q - r) * size + j) mid (omega arith), lt-ltb ((q - r) * size + j) (mid + count) (omega arith)) refl)
    (cases_lt q r)))
    (λ (l : r + k ≤ q).
    let d = q - (r + k) in
    let p = d * size + j in
    let split : (q - r) * size + j ≡ k * size + p = apart (q - r) k d size j (omega arith) in
    rw (le-leb (r + k) q l, le-leb r q (omega arith), split)
    (at-once from mid low count (k * size) p (more p) (byte (k * size + p)) (byte_at v q j) refl order (same p)))
    (cases_lt q (r + k))))
  where
    before : (d k size j : ℕ) → d < k → j < size → d * size + j < k * size
    before d k size j less inside = let e : suc d * size ≤ k * size = mul-le-mul_right size less in omega arith

    apart : (x k d size j : ℕ) → x ≡ k + d → x * size + j ≡ k * size + (d * size + j)
    apart x k d size j is = rw is (omega arith)
