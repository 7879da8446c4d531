-- The pages that the store of a run leaves.
use Rattle.std.proofs.Common.{◌≡◌, ℕ, zero, suc, ◌+◌, ◌-◌, ◌*◌, ◌/◌, ◌%◌, ◌^◌, ◌<◌, ◌≤◌, Bool, true, ltb, List, [], ◌∷◌, ◌++◌, refl, sym, ◌∙◌, ap, arith, append_assoc, append-nil}
use Rattle.std.specs.List.{filter, range_with_len}
use Rattle.std.proofs.lemmas.Bool.{lt-ltb}
use Rattle.std.proofs.lemmas.Nat.{div-mul-add, mod-mul-add, div-add-mod'}
use Rattle.bit_laws.specs.Numbers.{low}
use Rattle.bit_laws.specs.Lists.{tabulate}
use Rattle.bit_laws.proofs.Lists.{length-tabulate, tabulate-same}
use Rattle.element_ops.specs.Elements.{group_byte, byte_at}
use Rattle.guest_mem.specs.Pages.{Pages, written}
use Rattle.guest_mem.proofs.Writing.{written-none, written-append}
use Rattle.vtype_cfg.specs.declared.configuration.Cfg.{Cfg}
use Rattle.rvv_meaning.specs.declared.accesses.Access.{Access}
use Rattle.rvv_meaning.specs.Elementwise.{size_of}
use Rattle.rvv_meaning.specs.LoadsAndStores.{field_size, element_size, per_field, address, is_unmasked, moved, byte_stored, bytes_of, stored_all, pages_stored}
use Rattle.vec_mem.specs.Steps.{Fits}
use Rattle.vec_mem.specs.Runs.{run_start, run_length}
use Rattle.vec_mem.proofs.RunElements.{IsRun, Runs, at-address, run-stops}

-- a list that is made in two parts
tabulate-more : (n : ℕ) (f : ℕ → ℕ) → tabulate (suc n) f ≡ tabulate n f ++ f n ∷ []
unfolding tabulate
tabulate-more n f = refl

pub tabulate-joined : (a b : ℕ) (f : ℕ → ℕ) → tabulate (a + b) f ≡ tabulate a f ++ tabulate b (λ j. f (a + j))
unfolding tabulate
tabulate-joined a zero f = let e : a + 0 ≡ a = omega arith in rw (e, append-nil (tabulate a f)) refl
tabulate-joined a (suc b) f =
    let e : a + suc b ≡ suc (a + b) = omega arith in
    rw (e, tabulate-joined a b f) (append_assoc (tabulate a f) (tabulate b (λ j. f (a + j))) (f (a + b) ∷ []))

filter-all : (q : ℕ → Bool) (a n : ℕ) → ((x : ℕ) → a ≤ x → x < a + n → q x ≡ true) → filter q (range_with_len a n) ≡ range_with_len a n
filter-all q a zero all = refl
filter-all q a (suc n) all = rw (all a (omega arith) (omega arith)) (ap (λ (l : List ℕ). a ∷ l) (filter-all q (a + 1) n (λ x lower upper. all x (omega arith) (omega arith))))

pub none-stored : (p : Pages) (a n : ℕ) (f : ℕ → ℕ) → n ≡ 0 → p ≡ written p a (tabulate n f)
unfolding tabulate
none-stored p a n f none = rw none (sym (written-none p a))

pub all-stored : (p q : Pages) (a at to from : ℕ) (f : ℕ → ℕ) → at ≡ to → q ≡ written p a (tabulate (at - from) f) → q ≡ written p a (tabulate (to - from) f)
all-stored p q a at to from f end is = rw end at is

-- the bytes of one register more
pub store-more : (size : ℕ) (v : List (List ℕ)) (first from at count base : ℕ) (p q r : Pages) → 0 < size → at % size + count ≤ size → from ≤ at
    → q ≡ written p (low 32 (base + from)) (tabulate (at - from) (λ k. group_byte size v first (from + k)))
    → r ≡ written q ((base + at) % 2 ^ 32) (tabulate count (λ k. byte_at v (first + at / size) (at % size + k)))
    → r ≡ written p (low 32 (base + from)) (tabulate (at + count - from) (λ k. group_byte size v first (from + k)))
store-more size v first from at count base p q r some room order before made =
    let long : at + count - from ≡ at - from + count = omega arith in
    let spot : (low 32 (base + from) + (at - from)) % 2 ^ 32 ≡ (base + at) % 2 ^ 32 = omega arith in
    let f : ℕ → ℕ = λ k. group_byte size v first (from + k) in
    let later : tabulate count (λ k. byte_at v (first + at / size) (at % size + k)) ≡ tabulate count (λ k. f (at - from + k)) =
    tabulate-same count (λ k. byte_at v (first + at / size) (at % size + k)) (λ k. f (at - from + k)) (λ k inside.
    let place : from + (at - from + k) ≡ at / size * size + (at % size + k) = along k (div-add-mod' at size) in
    let below : at % size + k < size = omega arith in
    rw (place, div-mul-add (at / size) size (at % size + k) below, mod-mul-add (at / size) size (at % size + k) below) refl) in
    let joined = written-append p (low 32 (base + from)) (tabulate (at - from) f) (tabulate count (λ k. f (at - from + k))) (omega arith) in
    made ∙ rw (before, later, long, tabulate-joined (at - from) count f, ← spot) (sym (rw (length-tabulate (at - from) f) at joined))
  where
    along : (k : ℕ) → at / size * size + at % size ≡ at → from + (at - from + k) ≡ at / size * size + (at % size + k)
    along k parts = omega arith

pub store-step : (m n : ℕ) (v : List (List ℕ)) (first from at count base : ℕ) (p q r : Pages) → m ≡ n → 0 < m → at % (4 * m) + count ≤ 4 * m → from ≤ at
    → q ≡ written p (low 32 (base + from)) (tabulate (at - from) (λ k. group_byte (4 * n) v first (from + k)))
    → r ≡ written q ((base + at) % 2 ^ 32) (tabulate count (λ k. byte_at v (first + at / (4 * m)) (at % (4 * m) + k)))
    → r ≡ written p (low 32 (base + from)) (tabulate (at + count - from) (λ k. group_byte (4 * n) v first (from + k)))
store-step m n v first from at count base p q r same some room order before made =
    store-more (4 * n) v first from at count base p q r (rw (← same) (omega arith)) (rw same at room) order before (rw same at made)

module _ (c : Cfg) (t : Access) (base : ℕ) (v : List (List ℕ)) (run : IsRun t) where
  abbrev m : ℕ
  m = field_size t

  abbrev byte : ℕ → ℕ
  byte p = group_byte (size_of c) v t.register p

  one-element : (e : ℕ) → bytes_of c t v e ≡ tabulate m (λ k. byte (e * m + k))
  unfolding bytes_of
  one-element e =
      let long : element_size t ≡ m = rw run.fields (omega arith) in
      rw long (tabulate-same m (byte_stored c t v e) (λ k. byte (e * m + k)) (λ k inside. ap byte (spot (per_field c t) e m k inside)))
    where
      spot : (per e m k : ℕ) → k < m → (k / m * per + e) * m + k % m ≡ e * m + k
      spot per e m k inside =
          let z : 0 * m + k ≡ k = omega arith in
          let q : k / m ≡ 0 = rw z at (div-mul-add 0 m k inside) in
          let r : k % m ≡ k = rw z at (mod-mul-add 0 m k inside) in
          rw (q, r) (omega arith)

  stored-run : (k e : ℕ) (p : Pages) → stored_all c t base v p (range_with_len e k) ≡ written p (low 32 (base + e * m)) (tabulate (k * m) (λ j. byte (e * m + j)))
  unfolding stored_all
  stored-run zero e p =
      let none : 0 * m ≡ 0 = omega arith in
      rw none (none-stored p (low 32 (base + e * m)) 0 (λ j. byte (e * m + j)) refl)
  stored-run (suc k) e p =
      let ih = stored-run k (e + 1) (written p (address c t base v e) (bytes_of c t v e)) in
      let more : suc k * m ≡ m + k * m = omega arith in
      let spot : low 32 (base + (e + 1) * m) ≡ (low 32 (base + e * m) + m) % 2 ^ 32 = next-address e in
      let later : tabulate (k * m) (λ j. byte ((e + 1) * m + j)) ≡ tabulate (k * m) (λ j. byte (e * m + (m + j))) =
      tabulate-same (k * m) (λ j. byte ((e + 1) * m + j)) (λ j. byte (e * m + (m + j))) (λ j inside. ap byte (further e j)) in
      let both = written-append p (low 32 (base + e * m)) (tabulate m (λ j. byte (e * m + j))) (tabulate (k * m) (λ j. byte (e * m + (m + j)))) (omega arith) in
      ih ∙ rw (at-address c t base v e run, one-element e, spot, later) (
      sym (rw (more, tabulate-joined m (k * m) (λ j. byte (e * m + j))) (rw (length-tabulate m (λ j. byte (e * m + j))) at both)))
    where
      next-address : (e : ℕ) → low 32 (base + (e + 1) * m) ≡ (low 32 (base + e * m) + m) % 2 ^ 32
      next-address e = let x : (e + 1) * m ≡ e * m + m = omega arith in rw x (omega arith)

      further : (e j : ℕ) → (e + 1) * m + j ≡ e * m + (m + j)
      further e j = omega arith

  -- the pages after the store of a run
  pub run-stored : (first : Pages) → Fits c t → Runs c t base 2 first → pages_stored c t base v first ≡ written first (run_start c t base) (tabulate (run_length c t) (λ k. byte (c.vstart * m + k)))
  unfolding pages_stored moved
  run-stored first fits r =
      let k = t.len - c.vstart in
      let whole : k * m ≡ run_length c t = taken c.vstart t.len k m (omega (arith, r.order)) in
      let all = filter-all (is_unmasked c t base v) c.vstart k (λ x lower upper. rw run.masked refl) in
      let below = filter-all (λ e. ltb e (per_field c t)) c.vstart k (λ x lower upper. lt-ltb x (per_field c t) (omega (arith, fits.len, r.order))) in
      rw (run-stops c t base v 2 first r, all, below) (stored-run k c.vstart first ∙ rw whole refl)
    where
      taken : (a b k m : ℕ) → b ≡ a + k → k * m ≡ b * m - a * m
      taken a b k m is = rw is (let e : (a + k) * m ≡ a * m + k * m = omega arith in omega arith)

-- the same, as the code says it
pub run-left : (c : Cfg) (t : Access) (n size base : ℕ) (v : List (List ℕ)) (first : Pages) → c.vlen ≡ 32 * n → size ≡ field_size t → Fits c t → Runs c t base 2 first
    → written first (low 32 (base + c.vstart * size)) (tabulate (t.len * size - c.vstart * size) (λ k. group_byte (4 * n) v t.register (c.vstart * size + k))) ≡ pages_stored c t base v first
run-left c t n size base v first vlen is fits r =
    let words : 4 * n ≡ size_of c = omega arith in
    rw (is, words) (sym (run-stored c t base v r.run first fits r))
