-- Runs of bits of a group of registers.
use Rattle.std.proofs.Common.{◌≡◌, ℕ, ◌+◌, ◌-◌, ◌*◌, ◌/◌, ◌%◌, ◌<◌, ◌≤◌, Bool, true, false, cond, ◌&&◌, eqb, leb, ltb, get_or, refl, ap, sym, ◌∙◌, arith, ⊎_elim, replicate}
use Rattle.std.proofs.lemmas.Bool.{cases_lt, cases_eq, lt-ltb, le-ltb, le-leb, lt-leb, eq-eqb, ne_eqb}
use Rattle.std.proofs.lemmas.Nat.{div-mul-add, mod-mul-add}
use Rattle.std.proofs.Math.Nat.{mul-le-mul_right}
use Rattle.std.specs.Int.{bit_at}
use Rattle.std.proofs.lemmas.Simd.{get_or-replicate}
use Rattle.bit_rows.specs.Slices.{Slices}
use Rattle.bit_rows.specs.Words.{word_bit}
use Rattle.steer_net.specs.Moves.{bit_in_group}
use Rattle.steer_net.specs.Runs.{RunReaches}
use Rattle.steer_net.specs.declared.runs.Run.{Run}
use Rattle.steer_net.proofs.SubarrayRows.{column}

-- a bit of a chain's rows has a small number
pub number_small : (base columns n : ℕ) → columns ≤ 2048 → n < (64 - base) * (32 * columns) → n < 4194304
number_small base columns n few h =
    let m : (64 - base) * (32 * columns) ≤ 64 * (32 * columns) = mul-le-mul_right (32 * columns) (omega arith) in
    omega arith

-- the columns of a run below `at` have their bits, and the others are as they were
abbrev pub running : (from at : ℕ) → (bits old : ℕ → Bool) → ℕ → Bool
running from at bits old c = cond (leb from c && ltb c at) (bits c) (old c)

-- no column is written at first
pub running_none : (from : ℕ) (bits old : ℕ → Bool) (c : ℕ) → old c ≡ running from from bits old c
running_none from bits old c = ⊎_elim
    (λ (l : c < from). rw (lt-leb from c l) refl)
    (λ (l : from ≤ c). rw (le-leb from c l, le-ltb c from l) refl) (cases_lt c from)

-- one column more
pub running_more : (from at c : ℕ) (bits old : ℕ → Bool) (bit : Bool) → from ≤ at → bit ≡ bits at → cond (eqb c at) bit (running from at bits old c) ≡ running from (at + 1) bits old c
running_more from at c bits old bit h e = ⊎_elim
    (λ (q : c ≡ at). let m : at < at + 1 = omega arith in rw (q, eq-eqb at at refl, le-leb from at h, lt-ltb at (at + 1) m) e)
    (λ (q : c ≡ at → ⊥). rw (ne_eqb c at q) (⊎_elim
    (λ (l : c < at). let m : c < at + 1 = omega arith in rw (lt-ltb c at l, lt-ltb c (at + 1) m) refl)
    (λ (l : at ≤ c). let m : at + 1 ≤ c = omega arith in rw (le-ltb c at l, le-ltb c (at + 1) m) refl) (cases_lt c at))) (cases_eq c at)

-- all columns of a row, which had none before
pub running_whole : (n c : ℕ) (bits old : ℕ → Bool) → old c ≡ false → running 0 n bits old c ≡ (ltb c n && bits c)
running_whole n c bits old e = rw (e, le-leb 0 c (omega arith)) (both (ltb c n) (bits c))
  where
    both : (l b : Bool) → cond l b false ≡ (l && b)
    both true b = refl
    both false b = refl

-- ---- runs along a subarray

-- a bit of a group, by its register, column and subarray
pub group_place : (s : Slices) (base q a sub : ℕ) → a < s.columns → sub < 32 → bit_in_group s base ((q * s.columns + a) * 32 + sub) ≡ s.bit sub (base + q) a
group_place s base q a sub h l =
    let below : a * 32 + sub < 32 * s.columns = omega arith in
    let e : (q * s.columns + a) * 32 + sub ≡ q * (32 * s.columns) + (a * 32 + sub) = grind arith in
    let d : ((q * s.columns + a) * 32 + sub) / (32 * s.columns) ≡ q = rw e (div-mul-add q (32 * s.columns) (a * 32 + sub) below) in
    let m : ((q * s.columns + a) * 32 + sub) % (32 * s.columns) ≡ a * 32 + sub = rw e (mod-mul-add q (32 * s.columns) (a * 32 + sub) below) in
    rw (d, m) (column s (base + q) sub a l)

-- bits that lie one column from the other
along_number : (start n q at c from a : ℕ) → start / 32 ≡ q * n + at → at + (c - from) ≡ a → start + (c - from) * 32 ≡ (q * n + a) * 32 + start % 32
along_number start n q at c from a e h =
    let split : start ≡ start / 32 * 32 + start % 32 = omega arith in
    let all : (q * n + at) * 32 + (c - from) * 32 ≡ (q * n + (at + (c - from))) * 32 = grind arith in
    let f : start / 32 * 32 ≡ (q * n + at) * 32 = ap (λ t. t * 32) e in
    let g : (q * n + (at + (c - from))) * 32 ≡ (q * n + a) * 32 = ap (λ t. (q * n + t) * 32) h in
    omega arith

-- a column of the register in which the run begins
pub along_first : (s : Slices) (base start q at c from : ℕ) → start / 32 ≡ q * s.columns + at → at + (c - from) < s.columns
    → s.bit (start % 32) (base + q) (at + (c - from)) ≡ bit_in_group s base (start + (c - from) * 32)
along_first s base start q at c from e h =
    sym (ap (bit_in_group s base) (along_number start s.columns q at c from (at + (c - from)) e refl) ∙ group_place s base q (at + (c - from)) (start % 32) h (omega arith))

-- a column of the next register
pub along_next : (s : Slices) (base start q at c from split : ℕ) → start / 32 ≡ q * s.columns + at → at < s.columns → split ≡ from + (s.columns - at) → split ≤ c → c < s.columns
    → s.bit (start % 32) (base + q + 1) (0 + (c - split)) ≡ bit_in_group s base (start + (c - from) * 32)
along_next s base start q at c from split e i h l m =
    let a : at + (c - from) ≡ s.columns + (c - split) = omega arith in
    let next : (q + 1) * s.columns + (c - split) ≡ q * s.columns + (s.columns + (c - split)) = grind arith in
    let b : base + q + 1 ≡ base + (q + 1) = omega arith in
    let z : 0 + (c - split) ≡ c - split = omega arith in
    let n : c - split < s.columns = omega arith in
    sym (ap (bit_in_group s base) (along_number start s.columns q at c from (s.columns + (c - split)) e a ∙ ap (λ t. t * 32 + start % 32) (sym next))
    ∙ group_place s base (q + 1) (c - split) (start % 32) n (omega arith) ∙ rw (b, z) refl)

-- the columns of both registers
pub along_all : (from split to c : ℕ) (first next bits old : ℕ → Bool) → from ≤ split → split ≤ to → (from ≤ c → c < split → first c ≡ bits c) → (split ≤ c → c < to → next c ≡ bits c)
    → cond (leb split c && ltb c to) (next c) (cond (leb from c && ltb c split) (first c) (old c)) ≡ cond (leb from c && ltb c to) (bits c) (old c)
along_all from split to c first next bits old h k f n = ⊎_elim
    (λ (l : c < split). rw (lt-leb split c l, lt-ltb c split l, lt-ltb c to (omega arith)) (⊎_elim
    (λ (m : c < from). rw (lt-leb from c m) refl)
    (λ (m : from ≤ c). rw (le-leb from c m) (f m l)) (cases_lt c from)))
    (λ (l : split ≤ c). rw (le-leb split c l, le-ltb c split l, le-leb from c (omega arith)) (⊎_elim
    (λ (m : c < to). rw (lt-ltb c to m) (n l m))
    (λ (m : to ≤ c). rw (le-ltb c to m) refl) (cases_lt c to))) (cases_lt c split)

-- a run that has a column begins in a chain's rows
pub run_start : (s : Slices) (run : Run) → RunReaches s run → run.from < run.to → run.start < (64 - run.base) * (32 * s.columns)
run_start s run reach some =
    let l : run.from ≤ run.from = omega arith in
    let h : run.start + (run.from - run.from) * run.step < (64 - run.base) * (32 * s.columns) = reach run.from l some in
    let d : run.from - run.from ≡ 0 = omega arith in
    let z : (run.from - run.from) * run.step ≡ 0 = rw d (omega arith) in
    omega arith

-- the registers of a run are a chain's
row_below : (base columns n i : ℕ) → i < (64 - base) * (32 * columns) → n * (32 * columns) ≤ i → base + n < 64
row_below base columns n i h l = ⊎_elim
    (λ (m : n < 64 - base). omega arith)
    (λ (m : 64 - base ≤ n). let o : (64 - base) * (32 * columns) ≤ n * (32 * columns) = mul-le-mul_right (32 * columns) m in absurd (omega arith)) (cases_lt n (64 - base))

pub first_row : (base columns start q at : ℕ) → start / 32 ≡ q * columns + at → start < (64 - base) * (32 * columns) → base + q < 64
first_row base columns start q at e h =
    let f : start / 32 * 32 ≡ (q * columns + at) * 32 = ap (λ t. t * 32) e in
    let g : (q * columns + at) * 32 ≡ q * (32 * columns) + at * 32 = grind arith in
    row_below base columns q start h (omega arith)

pub next_row : (base columns start q at : ℕ) → start / 32 ≡ q * columns + at → at < columns → start + (columns - at) * 32 < (64 - base) * (32 * columns) → base + q + 1 < 64
next_row base columns start q at e i h =
    let f : start / 32 * 32 ≡ (q * columns + at) * 32 = ap (λ t. t * 32) e in
    let g : (q * columns + at) * 32 ≡ q * (32 * columns) + at * 32 = grind arith in
    let k : (q + 1) * (32 * columns) ≡ q * (32 * columns) + 32 * columns = grind arith in
    let r = row_below base columns (q + 1) (start + (columns - at) * 32) h (omega arith) in
    omega arith

-- ---- bits that are chosen

pub chosen_same : (from to c : ℕ) (x y old : Bool) → (from ≤ c → c < to → x ≡ y) → cond (leb from c && ltb c to) x old ≡ cond (leb from c && ltb c to) y old
chosen_same from to c x y old h = ⊎_elim
    (λ (l : c < from). rw (lt-leb from c l) refl)
    (λ (l : from ≤ c). rw (le-leb from c l) (⊎_elim
    (λ (m : c < to). rw (lt-ltb c to m) (h l m))
    (λ (m : to ≤ c). rw (le-ltb c to m) refl) (cases_lt c to))) (cases_lt c from)

pub none_chosen : (from to c : ℕ) (x old : Bool) → to ≤ from → old ≡ cond (leb from c && ltb c to) x old
none_chosen from to c x old h = ⊎_elim
    (λ (l : c < from). rw (lt-leb from c l) refl)
    (λ (l : from ≤ c). rw (le-leb from c l, le-ltb c to (omega arith)) refl) (cases_lt c from)

-- words that are all alike
pub alike_words : (n word k : ℕ) (bit : Bool) → k < 64 * n → ((j : ℕ) → j < 64 → eqb (bit_at word j) 1 ≡ bit) → word_bit (replicate n word) k ≡ bit
alike_words n word k bit h all =
    let i : k / 64 < n = omega arith in
    let e : get_or (replicate n word) (k / 64) 0 ≡ word = get_or-replicate n (k / 64) word 0 i in
    rw e (all (k % 64) (omega arith))
