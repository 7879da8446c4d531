-- The elements of a run as bytes.
use Rattle.std.proofs.Common.{◌≡◌, ℕ, zero, suc, ◌+◌, ◌-◌, ◌*◌, ◌/◌, ◌%◌, ◌^◌, ◌<◌, ◌≤◌, Bool, true, false, not, ◌&&◌, eqb, leb, List, Option, Some, None, is_some, is_none, unwrap_or, refl, ◌∙◌, ap, arith, ⊎_elim}
use Rattle.std.proofs.lemmas.Bool.{cases_lt, and_parts, eqb-true, lt-leb}
use Rattle.std.proofs.lemmas.Nat.{shr-shr}
use Rattle.bit_laws.specs.Numbers.{low, byte_of}
use Rattle.guest_mem.specs.Pages.{Pages, first_bad, loaded, next, byte_at as memory_byte}
use Rattle.vtype_cfg.specs.declared.configuration.Cfg.{Cfg}
use Rattle.rvv_meaning.specs.declared.accesses.Offset.{Offset}
use Rattle.rvv_meaning.specs.declared.accesses.Offset.TheVariants.{Step, Index}
use Rattle.rvv_meaning.specs.declared.accesses.Access.{Access}
use Rattle.rvv_meaning.specs.LoadsAndStores.{field_size, element_size, address, is_unmasked, moved, bad, stop}
use Rattle.vec_mem.specs.Runs.{byte_after, is_step_of, is_run, run_start, run_length, runs}
use Rattle.vec_mem.proofs.Finding.{find-skips}
use Rattle.vec_mem.proofs.Numbering.{part-none}

-- ---- what the test says

pub record IsRun (t : Access) : Type 0 where
  pub fields : t.fields ≡ 1
  pub masked : t.masked ≡ false
  pub offset : t.offset ≡ Step (field_size t)

step-is : (o : Offset) (m : ℕ) → is_step_of o m ≡ true → o ≡ Step m
step-is (Step n) m is = ap Step (eqb-true n m is)
step-is (Index r w) m is = cc

not-masked : (b : Bool) → not b ≡ true → b ≡ false
not-masked false is = refl
not-masked true is = cc

pub is-run : (t : Access) → is_run t ≡ true → IsRun t
is-run t is =
    let a = and_parts (eqb t.fields 1) (not t.masked && is_step_of t.offset (field_size t)) is in
    let b = and_parts (not t.masked) (is_step_of t.offset (field_size t)) a.1 in
    record { fields = eqb-true t.fields 1 a.0; masked = not-masked t.masked b.0; offset = step-is t.offset (field_size t) b.1 }

pub record Runs (c : Cfg) (t : Access) (base need : ℕ) (pages : Pages) : Type 0 where
  pub run : IsRun t
  pub order : c.vstart ≤ t.len
  pub may : first_bad pages need (run_start c t base) (run_length c t) ≡ None

none-is : (o : Option ℕ) → is_none o ≡ true → o ≡ None
none-is None is = refl
none-is (Some x) is = cc

ordered : (a b : ℕ) → leb a b ≡ true → a ≤ b
ordered a b is = ⊎_elim (λ (l : b < a). let e = lt-leb a b l in absurd (clash (leb a b) is e)) (λ (l : a ≤ b). l) (cases_lt b a)
  where
    clash : (x : Bool) → x ≡ true → x ≡ false → ⊥
    clash true p q = cc
    clash false p q = cc

pub runs-are : (c : Cfg) (t : Access) (base need : ℕ) (pages : Pages) → runs c t base need pages ≡ true → Runs c t base need pages
runs-are c t base need pages is =
    let a = and_parts (is_run t) (leb c.vstart t.len && is_none (first_bad pages need (run_start c t base) (run_length c t))) is in
    let b = and_parts (leb c.vstart t.len) (is_none (first_bad pages need (run_start c t base) (run_length c t))) a.1 in
    record { run = is-run t a.0; order = ordered c.vstart t.len b.0; may = none-is (first_bad pages need (run_start c t base) (run_length c t)) b.1 }

-- ---- no element stops it

pub at-address : (c : Cfg) (t : Access) (base : ℕ) (v : List (List ℕ)) (e : ℕ) → IsRun t → address c t base v e ≡ low 32 (base + e * field_size t)
unfolding address
at-address c t base v e run = rw run.offset refl

pub run-stops : (c : Cfg) (t : Access) (base : ℕ) (v : List (List ℕ)) (need : ℕ) (pages : Pages) → Runs c t base need pages → stop c t base v need pages ≡ None
unfolding stop moved bad
run-stops c t base v need pages r =
    let k = t.len - c.vstart in
    let m = field_size t in
    let all : k + 0 ≡ k = omega arith in
    let whole : run_length c t ≡ k * m = taken c.vstart t.len k m (omega (arith, r.order)) in
    let may : first_bad pages need (run_start c t base) (k * m) ≡ None = rw whole at r.may in
    let skips = find-skips (λ e. is_some (first_bad pages need (address c t base v e) (element_size t))) (is_unmasked c t base v) c.vstart k 0 (λ x lower upper there.
    let d = x - c.vstart in
    let here = part-none pages need (run_start c t base) m k d (omega arith) may (omega arith) in
    let spot : (run_start c t base + d * m) % 2 ^ 32 ≡ (base + x * m) % 2 ^ 32 = along base c.vstart x d m (omega arith) in
    let long : element_size t ≡ m = rw r.run.fields (omega arith) in
    rw (at-address c t base v x r.run, long) (ap (λ (o : Option ℕ). is_some o) (rw spot at here))) in
    rw all at skips
  where
    taken : (a b k m : ℕ) → b ≡ a + k → b * m - a * m ≡ k * m
    taken a b k m is = rw is (let e : (a + k) * m ≡ a * m + k * m = omega arith in omega arith)

    along : (base a x d m : ℕ) → x ≡ a + d → ((base + a * m) % 2 ^ 32 + d * m) % 2 ^ 32 ≡ (base + x * m) % 2 ^ 32
    along base a x d m is = rw is (let e : (a + d) * m ≡ a * m + d * m = omega arith in omega arith)

-- ---- a byte of a number in memory

pub loaded-byte : (pages : Pages) (a n k : ℕ) → a < 2 ^ 32 → k < n → ((j : ℕ) → j < n → byte_after pages a j < 2 ^ 8) → byte_of (loaded pages a n) k ≡ byte_after pages a k
unfolding loaded
loaded-byte pages a zero k fits inside small = absurd (omega arith)
loaded-byte pages a (suc n) zero fits inside small =
    let here : (a + 0) % 2 ^ 32 ≡ a = omega arith in
    let b = rw here at (small 0 (omega arith)) in
    rw here (lowest (unwrap_or (memory_byte pages a) 0) (loaded pages (next a) n) b)
  where
    lowest : (x y : ℕ) → x < 2 ^ 8 → (x + 2 ^ 8 * y) / 2 ^ (8 * 0) % 2 ^ 8 ≡ x
    lowest x y l = omega arith
loaded-byte pages a (suc n) (suc k) fits inside small =
    let here : (a + 0) % 2 ^ 32 ≡ a = omega arith in
    let b = rw here at (small 0 (omega arith)) in
    let more : (j : ℕ) → (next a + j) % 2 ^ 32 ≡ (a + suc j) % 2 ^ 32 = λ j. step a j in
    let ih = loaded-byte pages (next a) n k (omega arith) (omega arith) (λ j l. rw (more j) (small (suc j) (omega arith))) in
    higher (unwrap_or (memory_byte pages a) 0) (loaded pages (next a) n) b ∙ ih ∙ rw (more k) refl
  where
    step : (a j : ℕ) → ((a + 1) % 2 ^ 32 + j) % 2 ^ 32 ≡ (a + suc j) % 2 ^ 32
    step a j = omega arith

    higher : (x y : ℕ) → x < 2 ^ 8 → (x + 2 ^ 8 * y) / 2 ^ (8 * suc k) % 2 ^ 8 ≡ y / 2 ^ (8 * k) % 2 ^ 8
    higher x y l =
        let e : 8 * suc k ≡ 8 + 8 * k = omega arith in
        let d : (x + 2 ^ 8 * y) / 2 ^ 8 ≡ y = omega arith in
        rw (e, ← shr-shr (x + 2 ^ 8 * y) 8 (8 * k), d) refl
