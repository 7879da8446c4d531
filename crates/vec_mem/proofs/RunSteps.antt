-- The steps of a run, as the code says them.
use Rattle.std.proofs.Common.{◌≡◌, ℕ, zero, suc, ◌+◌, ◌-◌, ◌*◌, ◌/◌, ◌%◌, ◌^◌, ◌<◌, ◌≤◌, cond, ◌&&◌, ltb, leb, List, ◌++◌, take, drop, length, get_or, None, refl, sym, ◌∙◌, ap, arith, ⊎_elim, append_assoc}
use Rattle.std.proofs.lemmas.Bool.{cases_lt, lt-ltb, le-ltb, le-leb, lt-leb}
use Rattle.std.proofs.lemmas.List.{get_or_append_left, get_or-append_right, get_or-take, get_or-drop, length-take-le, length-append, length-drop, ext_get_or, drop-drop}
use Rattle.std.proofs.lemmas.Nat.{div-add-mod'}
use Rattle.std.proofs.Math.Seq.{take-append_seam}
use Rattle.bit_laws.specs.Numbers.{low}
use Rattle.bit_laws.specs.Lists.{tabulate}
use Rattle.bit_laws.proofs.Lists.{length-tabulate, get-tabulate}
use Rattle.bit_rows.specs.Slices.{Slices}
use Rattle.cam_chain.specs.Views.{registers_of, register_byte, register_of}
use Rattle.cam_chain.proofs.Registers.{register-here}
use Rattle.element_ops.specs.Elements.{AreRegisters, byte_at}
use Rattle.guest_mem.specs.Pages.{Pages, first_bad}
use Rattle.guest_mem.specs.Ranges.{range_bytes}
use Rattle.guest_mem.proofs.Ranges.{range_bytes-append, range_bytes-cons, length-range_bytes, first_bad-append_none}
use Rattle.vec_mem.specs.Runs.{byte_after, with_run}
use Rattle.vec_mem.proofs.RunBytes.{run-more}

-- ---- bytes of memory

pub get-range : (pages : Pages) (a n k : ℕ) → a < 2 ^ 32 → k < n → get_or (range_bytes pages a n) k 0 ≡ byte_after pages a k
get-range pages a zero k fits inside = absurd (omega arith)
get-range pages a (suc n) zero fits inside = let here : (a + 0) % 2 ^ 32 ≡ a = omega arith in rw (range_bytes-cons pages a n, here) refl
get-range pages a (suc n) (suc k) fits inside =
    let more : ((a + 1) % 2 ^ 32 + k) % 2 ^ 32 ≡ (a + suc k) % 2 ^ 32 = omega arith in
    rw (range_bytes-cons pages a n) (get-range pages ((a + 1) % 2 ^ 32) n k (omega arith) (omega arith) ∙ rw more refl)

-- one piece more is copied
pub copied-more : (pages : Pages) (a done count : ℕ) (into bytes new : List ℕ) → a < 2 ^ 32 → done + count ≤ length into → take done into ≡ range_bytes pages a done
    → bytes ≡ range_bytes pages ((a + done) % 2 ^ 32) count → new ≡ take done into ++ (bytes ++ drop (done + count) into) → take (done + count) new ≡ range_bytes pages a (done + count)
copied-more pages a done count into bytes new fits room before is made =
    let xs = take done into ++ bytes in
    let rest = drop (done + count) into in
    let few : length bytes ≡ count = ap length is ∙ length-range_bytes pages ((a + done) % 2 ^ 32) count in
    let long : length xs ≡ done + count = omega (arith, length-append (take done into) bytes, length-take-le done into (omega arith)) in
    let front : take (done + count) (xs ++ rest) ≡ xs = rw long at (take-append_seam xs rest) in
    ap (take (done + count)) (made ∙ sym (append_assoc (take done into) bytes rest)) ∙ front ∙ rw (before, is) (sym (range_bytes-append pages a done count fits))

-- ---- bytes of one register

pub spliced : (b bytes : List ℕ) (first count j : ℕ) → first + count ≤ length b → length bytes ≡ count
    → get_or (take first b ++ (bytes ++ drop (first + count) b)) j 0 ≡ cond (leb first j && ltb j (first + count)) (get_or bytes (j - first) 0) (get_or b j 0)
spliced b bytes first count j room few =
    let front : length (take first b) ≡ first = length-take-le first b (omega arith) in
    ⊎_elim
    (λ (l : j < first).
    rw (lt-leb first j l) (get_or_append_left (take first b) (bytes ++ drop (first + count) b) 0 j (omega arith) ∙ get_or-take first b j 0 l))
    (λ (l : first ≤ j).
    rw (le-leb first j l) (
    get_or-append_right (take first b) (bytes ++ drop (first + count) b) first j 0 front l
    ∙ ⊎_elim
    (λ (h : j < first + count). rw (lt-ltb j (first + count) h) (get_or_append_left bytes (drop (first + count) b) 0 (j - first) (omega arith)))
    (λ (h : first + count ≤ j).
    let back : first + count + (j - first - count) ≡ j = omega arith in
    rw (le-ltb j (first + count) h) (get_or-append_right bytes (drop (first + count) b) count (j - first) 0 few (omega arith) ∙ get_or-drop (first + count) b (j - first - count) 0 ∙ ap (λ (x : ℕ). get_or b x 0) back))
    (cases_lt j (first + count))))
    (cases_lt j first)

-- a register with bytes of memory in the place of its own
pub part-bytes : (s : Slices) (pages : Pages) (r first count a : ℕ) (buffer bytes new : List ℕ) → a < 2 ^ 32 → first + count ≤ 4 * s.columns → buffer ≡ register_of s r → bytes ≡ range_bytes pages a count
    → new ≡ take first buffer ++ (bytes ++ drop (first + count) buffer)
    → (j : ℕ) → j < 4 * s.columns → get_or new j 0 ≡ cond (leb first j && ltb j (first + count)) (byte_after pages a (j - first)) (register_byte s r j)
part-bytes s pages r first count a buffer bytes new fits room is taken made j inside =
    let few : length bytes ≡ count = ap length taken ∙ length-range_bytes pages a count in
    let all : length buffer ≡ 4 * s.columns = ap length is ∙ length-tabulate (4 * s.columns) (register_byte s r) in
    let old : get_or buffer j 0 ≡ register_byte s r j = ap (λ (x : List ℕ). get_or x j 0) is ∙ get-tabulate (4 * s.columns) (register_byte s r) j 0 inside in
    ap (λ (x : List ℕ). get_or x j 0) made ∙ spliced buffer bytes first count j (omega arith) few ∙ rw old (⊎_elim
    (λ (l : j < first). rw (lt-leb first j l) refl)
    (λ (l : first ≤ j). ⊎_elim
    (λ (h : j < first + count). rw (le-leb first j l, lt-ltb j (first + count) h, taken) (get-range pages a count (j - first) fits (omega arith)))
    (λ (h : first + count ≤ j). rw (le-leb first j l, le-ltb j (first + count) h) refl) (cases_lt j (first + count))) (cases_lt j first))

-- bytes of memory that were copied are bytes
pub part-small : (pages : Pages) (count a k : ℕ) (bytes : List ℕ) → a < 2 ^ 32 → bytes ≡ range_bytes pages a count → get_or bytes k 0 < 2 ^ 8 → k < count → byte_after pages a k < 2 ^ 8
part-small pages count a k bytes fits taken small inside =
    let b : get_or bytes k 0 ≡ byte_after pages a k = ap (λ (x : List ℕ). get_or x k 0) taken ∙ get-range pages a count k fits inside in
    rw (← b) small

-- a part of a list, as the code cuts it
pub cut-long : (first count : ℕ) (b : List ℕ) → first + count ≤ length b → length (take (first + count - first) (drop first b)) ≡ count
cut-long first count b room =
    let gap : first + count - first ≡ count = omega arith in
    rw gap (length-take-le count (drop first b) (omega (arith, length-drop first b)))

pub cut-form : (first count : ℕ) (b bytes new : List ℕ) → new ≡ bytes → take first b ++ (new ++ drop (first + count - first) (drop first b)) ≡ take first b ++ (bytes ++ drop (first + count) b)
cut-form first count b bytes new is =
    let gap : first + count - first ≡ count = omega arith in
    rw (is, gap, drop-drop count first b) refl

pub form-long : (first count : ℕ) (b bytes : List ℕ) → first + count ≤ length b → length bytes ≡ count → length (take first b ++ (bytes ++ drop (first + count) b)) ≡ length b
form-long first count b bytes room few =
    omega (arith, length-append (take first b) (bytes ++ drop (first + count) b), length-append bytes (drop (first + count) b), length-take-le first b (omega arith), length-drop (first + count) b)

-- bytes of a register
pub part-read : (s : Slices) (r first count : ℕ) → r < 32 → first + count ≤ 4 * s.columns → take count (drop first (register_of s r)) ≡ tabulate count (λ k. byte_at (registers_of s) r (first + k))
part-read s r first count register room =
    let n = 4 * s.columns in
    let all : length (register_of s r) ≡ n = length-tabulate n (register_byte s r) in
    let rest : count ≤ length (drop first (register_of s r)) = omega (arith, length-drop first (register_of s r)) in
    let long : length (take count (drop first (register_of s r))) ≡ count = length-take-le count (drop first (register_of s r)) rest in
    ext_get_or 0 (take count (drop first (register_of s r))) (tabulate count (λ k. byte_at (registers_of s) r (first + k))) (long ∙ sym (length-tabulate count (λ k. byte_at (registers_of s) r (first + k)))) (λ k below.
    let inside : k < count = omega arith in
    get_or-take count (drop first (register_of s r)) k 0 inside ∙ get_or-drop first (register_of s r) k 0
    ∙ ap (λ (x : List ℕ). get_or x (first + k) 0) (sym (register-here s r register)) ∙ sym (get-tabulate count (λ k. byte_at (registers_of s) r (first + k)) k 0 inside))

pub part-taken : (s : Slices) (r first count : ℕ) (buffer : List ℕ) → r < 32 → first + count ≤ 4 * s.columns → buffer ≡ register_of s r → take (first + count - first) (drop first buffer) ≡ tabulate count (λ k. byte_at (registers_of s) r (first + k))
part-taken s r first count buffer register room is =
    let gap : first + count - first ≡ count = omega arith in
    rw (gap, is) (part-read s r first count register room)

-- ---- a part of what may be reached

pub part-of-run : (pages : Pages) (need base from at count to : ℕ) → from ≤ at → at + count ≤ to → first_bad pages need (low 32 (base + from)) (to - from) ≡ None → first_bad pages need ((base + at) % 2 ^ 32) count ≡ None
part-of-run pages need base from at count to order room none =
    let rest = to - at - count in
    let whole : to - from ≡ at - from + (count + rest) = omega arith in
    let spot : (low 32 (base + from) + (at - from)) % 2 ^ 32 ≡ (base + at) % 2 ^ 32 = omega arith in
    let later = ((first_bad-append_none pages need (low 32 (base + from)) (at - from) (count + rest) (omega arith)).0 (rw whole at none)).1 in
    ((first_bad-append_none pages need ((base + at) % 2 ^ 32) count rest (omega arith)).0 (rw spot at later)).0

pub small-more : (pages : Pages) (base from at count : ℕ) → ((p : ℕ) → from ≤ p → p < at → byte_after pages base p < 2 ^ 8) → ((k : ℕ) → k < count → byte_after pages ((base + at) % 2 ^ 32) k < 2 ^ 8)
    → (p : ℕ) → from ≤ p → p < at + count → byte_after pages base p < 2 ^ 8
small-more pages base from at count before more p lower upper = ⊎_elim
    (λ (l : p < at). before p lower l)
    (λ (l : at ≤ p).
    let spot : ((base + at) % 2 ^ 32 + (p - at)) % 2 ^ 32 ≡ (base + p) % 2 ^ 32 = omega arith in
    rw spot at (more (p - at) (omega arith))) (cases_lt p at)

-- ---- a register more

span-more : (size : ℕ) (v u w : List (List ℕ)) (pages : Pages) (first from at count base : ℕ) → AreRegisters size v → from ≤ at → u ≡ with_run size v first from at (byte_after pages base)
    → w ≡ with_run size u (first + at / size) (at % size) (at % size + count) (λ p. byte_after pages ((base + at) % 2 ^ 32) (p - at % size))
    → w ≡ with_run size v first from (at + count) (byte_after pages base)
span-more size v u w pages first from at count base are order before made =
    let parts : at / size * size + at % size ≡ at = div-add-mod' at size in
    let more = run-more size v first (at / size) (at % size) count from (byte_after pages base) (λ p. byte_after pages ((base + at) % 2 ^ 32) (p - at % size)) are (rw parts order) (λ p lower upper.
    let spot : ((base + at) % 2 ^ 32 + (p - at % size)) % 2 ^ 32 ≡ (base + (at / size * size + p)) % 2 ^ 32 = along p parts lower in
    rw spot refl) in
    made ∙ rw before (rw parts at more)
  where
    along : (p : ℕ) → at / size * size + at % size ≡ at → at % size ≤ p → ((base + at) % 2 ^ 32 + (p - at % size)) % 2 ^ 32 ≡ (base + (at / size * size + p)) % 2 ^ 32
    along p parts lower = omega arith

pub span-step : (l m n : ℕ) (v u w : List (List ℕ)) (pages : Pages) (first from at count base : ℕ) → l ≡ n → m ≡ n → AreRegisters (4 * n) v → from ≤ at → u ≡ with_run (4 * n) v first from at (byte_after pages base)
    → w ≡ with_run (4 * l) u (first + at / (4 * m)) (at % (4 * m)) (at % (4 * m) + count) (λ p. byte_after pages ((base + at) % 2 ^ 32) (p - at % (4 * m)))
    → w ≡ with_run (4 * n) v first from (at + count) (byte_after pages base)
span-step l m n v u w pages first from at count base same_l same_m are order before made = span-more (4 * n) v u w pages first from at count base are order before (rw (same_l, same_m) at made)
