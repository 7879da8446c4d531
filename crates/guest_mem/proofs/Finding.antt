-- A list of numbers with the pages beside them, as the map of pages that it holds.
use Rattle.std.proofs.Common.{◌≡◌, ◌≢◌, ◌≤◌, ◌↔◌, ℕ, zero, suc, ◌<◌, true, false, cond, List, [], ◌∷◌, length, get_or, map, Option, Some, None, refl, sym, ap, ◌∙◌, arith, ⊎_elim}
use Rattle.std.specs.Prelude.{nat_eq, slice_get, slice_set, insert, Contains, IsSome}
use Rattle.std.specs.Ordering.{nat_cmp, eq_by_cmp}
use Rattle.std.specs.List.{zip}
use Rattle.std.specs.List.Sorted.{IsStrictlyIncreasing}
use Rattle.std.specs.FinMap as fin
use Rattle.std.proofs.lemmas.Cmp.{nat_cmp_total}
use Rattle.std.proofs.lemmas.Bool.{cases_Bool, cases_eq, eq-eqb, ne_eqb}
use Rattle.std.proofs.lemmas.Bool.Decides.{nat_tests}
use Rattle.std.proofs.lemmas.List.{length-map, get_or-map, map-set}
use Rattle.std.proofs.lemmas.List.Edits.{length-insert}
use Rattle.std.proofs.lemmas.Option.{slice_get_within, slice_get-get_or, get_or_from_slice_get}
use Rattle.guest_mem.specs.Pages.{Page, Pages}
use Rattle.guest_mem.specs.Indexes.{IsIndex}
use Rattle.guest_mem.proofs.Rising.{rising-apart, rising-insert, found-at}

pub alike : (x y : ℕ) → eq_by_cmp nat_cmp x y ≡ nat_eq y x
alike x y = grind (arith, nat_tests)

abbrev pub mapped : List ℕ → List Page → Pages
mapped numbers pages = fin.from_entries {R = nat_cmp} (zip numbers pages)

-- the page that a look-up of a number finds
unfoldable seek : List ℕ → List Page → ℕ → Option Page
seek numbers pages n = fin.get (mapped numbers pages) n

seek-none : (pages : List Page) (n : ℕ) → seek [] pages n ≡ None
unfolding seek
seek-none pages n = fin.get-from_entries nat_cmp_total [] n

seek-empty : (numbers : List ℕ) (n : ℕ) → seek numbers [] n ≡ None
unfolding seek
seek-empty [] n = fin.get-from_entries nat_cmp_total [] n
seek-empty (m ∷ numbers) n = fin.get-from_entries nat_cmp_total [] n

seek-cons : (m : ℕ) (p : Page) (numbers : List ℕ) (pages : List Page) (n : ℕ) → seek (m ∷ numbers) (p ∷ pages) n ≡ cond (nat_eq m n) (Some p) (seek numbers pages n)
unfolding seek
seek-cons m p numbers pages n = fin.get-insert nat_cmp_total (mapped numbers pages) m p n ∙ rw (alike n m) refl

-- the first place of a number
record First (numbers : List ℕ) (n k : ℕ) : Type 0 where
  inside : k < length numbers
  here : nat_eq (get_or numbers k 0) n ≡ true
  before : (j : ℕ) → j < k → nat_eq (get_or numbers j 0) n ≡ false

first : (numbers : List ℕ) (n k : ℕ) → IsStrictlyIncreasing numbers → slice_get numbers k ≡ Some n → First numbers n k
first numbers n k rising at =
    let inside = slice_get_within numbers k n at in
    let is : get_or numbers k 0 ≡ n = get_or_from_slice_get numbers k n 0 at in
    record {
      inside = inside;
      here = eq-eqb (get_or numbers k 0) n is;
      before = λ j less.
          let apart = rising-apart numbers j k rising less inside in
          ne_eqb (get_or numbers j 0) n (λ same. omega (arith, apart, is, same));
    }

first-later : (m : ℕ) (numbers : List ℕ) (n k : ℕ) → First (m ∷ numbers) n (suc k) → First numbers n k
first-later m numbers n k f = record { inside = omega (arith, f.inside); here = f.here; before = λ j h. f.before (suc j) (omega arith) }

found : (numbers : List ℕ) (pages : List Page) (n k : ℕ) (d : Page) → length numbers ≡ length pages → First numbers n k → seek numbers pages n ≡ Some (get_or pages k d)
found [] pages n k d same f = absurd (omega (arith, f.inside))
found (m ∷ numbers) [] n k d same f = absurd (omega (arith, same))
found (m ∷ numbers) (p ∷ pages) n zero d same f = seek-cons m p numbers pages n ∙ rw f.here refl
found (m ∷ numbers) (p ∷ pages) n (suc k) d same f =
    seek-cons m p numbers pages n ∙ rw (f.before 0 (omega arith)) (found numbers pages n k d (omega (arith, same)) (first-later m numbers n k f))

-- the page at the first place of a number is what the map holds there
pub page-there : (numbers : List ℕ) (pages : List Page) (n k : ℕ) (p : Page) → IsIndex numbers pages → slice_get numbers k ≡ Some n → p ≡ get_or pages k p → fin.get (mapped numbers pages) n ≡ Some p
unfolding seek
page-there numbers pages n k p index at is = found numbers pages n k p index.same (first numbers n k index.rising at) ∙ ap Some (sym is)

absent : (numbers : List ℕ) (pages : List Page) (n : ℕ) → ((k : ℕ) → slice_get numbers k ≢ Some n) → seek numbers pages n ≡ None
absent [] pages n nowhere = seek-none pages n
absent (m ∷ numbers) [] n nowhere = seek-empty (m ∷ numbers) n
absent (m ∷ numbers) (p ∷ pages) n nowhere =
    let other : nat_eq m n ≡ false = ne_eqb m n (λ same. nowhere 0 (ap Some same)) in
    seek-cons m p numbers pages n ∙ rw other (absent numbers pages n (λ k. nowhere (suc k)))

pub page-absent : (numbers : List ℕ) (pages : List Page) (n : ℕ) → ((k : ℕ) → slice_get numbers k ≢ Some n) → fin.get (mapped numbers pages) n ≡ None
unfolding seek
page-absent numbers pages n nowhere = absent numbers pages n nowhere

both : (a b c : ℕ) (x y z : Option Page) → nat_eq a b ≡ false → cond (nat_eq a c) x (cond (nat_eq b c) y z) ≡ cond (nat_eq b c) y (cond (nat_eq a c) x z)
both a b c x y z apart = grind (arith, nat_tests, apart)

hidden : (a b c : ℕ) (x y z : Option Page) → nat_eq a b ≡ true → cond (nat_eq a c) x z ≡ cond (nat_eq b c) x (cond (nat_eq a c) y z)
hidden a b c x y z same = grind (arith, nat_tests, same)

changed : (numbers : List ℕ) (pages : List Page) (n k : ℕ) (q : Page) (x : ℕ) → length numbers ≡ length pages → First numbers n k → seek numbers (slice_set pages k q) x ≡ cond (nat_eq n x) (Some q) (seek numbers pages x)
changed [] pages n k q x same f = absurd (omega (arith, f.inside))
changed (m ∷ numbers) [] n k q x same f = absurd (omega (arith, same))
changed (m ∷ numbers) (p ∷ pages) n zero q x same f =
    rw (seek-cons m q numbers pages x, seek-cons m p numbers pages x) (hidden m n x (Some q) (Some p) (seek numbers pages x) f.here)
changed (m ∷ numbers) (p ∷ pages) n (suc k) q x same f =
    let later = changed numbers pages n k q x (omega (arith, same)) (first-later m numbers n k f) in
    rw (seek-cons m p numbers (slice_set pages k q) x, seek-cons m p numbers pages x, later) (both m n x (Some p) (Some q) (seek numbers pages x) (f.before 0 (omega arith)))

-- a change of the page at the first place of a number is the change of what the map holds there
pub mapped-set : (numbers : List ℕ) (pages : List Page) (n k : ℕ) (q : Page) → IsIndex numbers pages → slice_get numbers k ≡ Some n → mapped numbers (slice_set pages k q) ≡ fin.insert (mapped numbers pages) n q
unfolding seek
mapped-set numbers pages n k q index at =
    fin.same_map nat_cmp_total fin.nat_cmp-IsAntisymmetric (mapped numbers (slice_set pages k q)) (fin.insert (mapped numbers pages) n q) (λ x.
    changed numbers pages n k q x index.same (first numbers n k index.rising at) ∙ sym (fin.get-insert nat_cmp_total (mapped numbers pages) n q x ∙ rw (alike x n) refl))

missed : (m n : ℕ) (p : Page) (o : Option Page) → cond (nat_eq m n) (Some p) o ≡ None → (nat_eq m n ≡ false) × (o ≡ None)
missed m n p o none =
    ⊎_elim
    (λ (here : nat_eq m n ≡ true). let some = rw here at none in (cc))
    (λ (other : nat_eq m n ≡ false). (other, rw other at none))
    (cases_Bool (nat_eq m n))

added : (numbers : List ℕ) (pages : List Page) (at n : ℕ) (p : Page) (x : ℕ) → length numbers ≡ length pages → at ≤ length numbers → seek numbers pages n ≡ None
    → seek (insert numbers at n) (insert pages at p) x ≡ cond (nat_eq n x) (Some p) (seek numbers pages x)
added numbers pages zero n p x same inside none = seek-cons n p numbers pages x
added [] pages (suc at) n p x same inside none = absurd (omega arith)
added (m ∷ numbers) [] (suc at) n p x same inside none = absurd (omega (arith, same))
added (m ∷ numbers) (q ∷ pages) (suc at) n p x same inside none =
    let parts = missed m n q (seek numbers pages n) (sym (seek-cons m q numbers pages n) ∙ none) in
    let later = added numbers pages at n p x (omega (arith, same)) (omega arith) parts.1 in
    rw (seek-cons m q numbers pages x) (seek-cons m q (insert numbers at n) (insert pages at p) x ∙ rw later (both m n x (Some q) (Some p) (seek numbers pages x) parts.0))

-- a page of a number that was not there, in any place, is a page more
pub mapped-insert : (numbers : List ℕ) (pages : List Page) (at n : ℕ) (p : Page) → length numbers ≡ length pages → at ≤ length numbers → fin.get (mapped numbers pages) n ≡ None
    → mapped (insert numbers at n) (insert pages at p) ≡ fin.insert (mapped numbers pages) n p
unfolding seek
mapped-insert numbers pages at n p same inside none =
    fin.same_map nat_cmp_total fin.nat_cmp-IsAntisymmetric (mapped (insert numbers at n) (insert pages at p)) (fin.insert (mapped numbers pages) n p) (λ x.
    added numbers pages at n p x same inside none ∙ sym (fin.get-insert nat_cmp_total (mapped numbers pages) n p x ∙ rw (alike x n) refl))

-- ---- pages that lie in boxes

pub boxed-there :
    {B : Type 0} (value : B → Page) (numbers : List ℕ) (boxes : List B) (n at : ℕ) (b : B) (p : Page)
    → IsIndex numbers (map value boxes)
    → slice_get numbers at ≡ Some n
    → b ≡ get_or boxes at b
    → p ≡ value b
    → fin.get (mapped numbers (map value boxes)) n ≡ Some p
boxed-there value numbers boxes n at b p index here is holds =
    let within = slice_get_within numbers at n here in
    let inside : at < length boxes = omega (arith, within, index.same, length-map boxes value) in
    page-there numbers (map value boxes) n at p index here (holds ∙ ap value is ∙ sym (get_or-map value boxes at b p inside))

pub boxed-set :
    {B : Type 0} (value : B → Page) (numbers : List ℕ) (boxes : List B) (n at : ℕ) (b : B) (q : Page)
    → IsIndex numbers (map value boxes)
    → slice_get numbers at ≡ Some n
    → value b ≡ q
    → mapped numbers (map value (slice_set boxes at b)) ≡ fin.insert (mapped numbers (map value boxes)) n q
boxed-set value numbers boxes n at b q index here holds =
    ap (mapped numbers) (map-set value boxes at b ∙ ap (slice_set (map value boxes) at) holds) ∙ mapped-set numbers (map value boxes) n at q index here

map-insert : {B : Type 0} (value : B → Page) (boxes : List B) (at : ℕ) (b : B) → map value (insert boxes at b) ≡ insert (map value boxes) at (value b)
map-insert value boxes zero b = refl
map-insert value [] (suc at) b = refl
map-insert value (c ∷ boxes) (suc at) b = ap (λ (ps : List Page). value c ∷ ps) (map-insert value boxes at b)

pub boxed-insert :
    {B : Type 0} (value : B → Page) (numbers : List ℕ) (boxes : List B) (n at : ℕ) (b : B) (q : Page)
    → IsIndex numbers (map value boxes)
    → at ≤ length numbers
    → value b ≡ q
    → fin.get (mapped numbers (map value boxes)) n ≡ None
    → mapped (insert numbers at n) (map value (insert boxes at b)) ≡ fin.insert (mapped numbers (map value boxes)) n q
boxed-insert value numbers boxes n at b q index inside holds none =
    ap (mapped (insert numbers at n)) (map-insert value boxes at b ∙ ap (insert (map value boxes) at) holds) ∙ mapped-insert numbers (map value boxes) at n q index.same inside none

-- a number that is not mapped stands nowhere
elsewhere : (numbers : List ℕ) (pages : List Page) (n k : ℕ) → IsIndex numbers pages → fin.get (mapped numbers pages) n ≡ None → k < length numbers → get_or numbers k 0 ≡ n → ⊥
unfolding seek
elsewhere numbers pages n k index none inside is =
    let blank : Page = record { perms = 0; bytes = [] } in
    let some : seek numbers pages n ≡ Some (get_or pages k blank) = found numbers pages n k blank index.same (first numbers n k index.rising (found-at numbers k n inside is)) in
    let both : Some (get_or pages k blank) ≡ None = sym some ∙ none in
    (cc)

pub boxed-index :
    {B : Type 0} (value : B → Page) (numbers : List ℕ) (boxes : List B) (n at : ℕ) (b : B)
    → IsIndex numbers (map value boxes)
    → at ≤ length numbers
    → ((k : ℕ) → k < at → get_or numbers k 0 < n)
    → ((k : ℕ) → at ≤ k → k < length numbers → n ≤ get_or numbers k 0)
    → fin.get (mapped numbers (map value boxes)) n ≡ None
    → IsIndex (insert numbers at n) (map value (insert boxes at b))
boxed-index value numbers boxes n at b index inside below above none =
    let count = length-map boxes value in
    let more = length-map (insert boxes at b) value in
    let same = index.same in
    let within : at ≤ length boxes = omega (arith, same, count) in
    record {
      same = omega (arith, same, count, more, length-insert numbers at n inside, length-insert boxes at b within);
      rising = rising-insert numbers at n index.rising inside below (λ here.
          let up = above at (omega arith) here in
          let apart = elsewhere numbers (map value boxes) n at index none here in
          let ne : get_or numbers at 0 ≢ n = apart in
          omega (arith, up, ne));
    }

-- ---- the numbers of the pages

contains-found : (numbers : List ℕ) (pages : List Page) (n : ℕ) → length numbers ≡ length pages → (p : Page) → seek numbers pages n ≡ Some p → Contains numbers n
contains-found [] pages n same p is = let none = sym (seek-none pages n) ∙ is in (cc)
contains-found (m ∷ numbers) [] n same p is = absurd (omega (arith, same))
contains-found (m ∷ numbers) (q ∷ pages) n same p is =
    ⊎_elim
    (λ (here : m ≡ n). (0, omega arith, here))
    (λ (other : m ≡ n → ⊥).
    let e : nat_eq m n ≡ false = ne_eqb m n other in
    let rest = contains-found numbers pages n (omega (arith, same)) p (rw e at (sym (seek-cons m q numbers pages n) ∙ is)) in
    (suc rest.0, omega (arith, rest.1), rest.2))
    (cases_eq m n)

contains-some : (numbers : List ℕ) (pages : List Page) (n : ℕ) → length numbers ≡ length pages → (o : Option Page) → seek numbers pages n ≡ o → IsSome o → Contains numbers n
contains-some numbers pages n same None is some = (cc)
contains-some numbers pages n same (Some p) is some = contains-found numbers pages n same p is

-- they are the numbers that are mapped
pub contains-mapped : (numbers : List ℕ) (pages : List Page) (n : ℕ) → IsIndex numbers pages → Contains numbers n ↔ IsSome (fin.get (mapped numbers pages) n)
unfolding seek
contains-mapped numbers pages n index = (
  λ (here : Contains numbers n).
      let blank : Page = record { perms = 0; bytes = [] } in
      let at : slice_get numbers here.0 ≡ Some n = slice_get-get_or numbers here.0 n here.1 ∙ ap Some here.2 in
      let some : seek numbers pages n ≡ Some (get_or pages here.0 blank) = found numbers pages n here.0 blank index.same (first numbers n here.0 index.rising at) in
      rw some refl,
  λ (some : IsSome (seek numbers pages n)). contains-some numbers pages n index.same (seek numbers pages n) refl some,
)
