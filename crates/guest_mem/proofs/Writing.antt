-- Bytes that are written: one after the other, and within one page at once.
use Rattle.std.proofs.Common.{◌≡◌, ℕ, suc, ◌+◌, ◌%◌, ◌^◌, ◌<◌, ◌≤◌, true, false, List, [], ◌∷◌, ◌++◌, length, take, drop, Some, None, refl, sym, ◌∙◌, arith, ⊎_elim}
use Rattle.std.specs.Prelude.{nat_eq, slice_set}
use Rattle.std.specs.FinMap as fin
use Rattle.std.proofs.lemmas.Cmp.{nat_cmp_total}
use Rattle.std.proofs.lemmas.Bool.{cases_Bool}
use Rattle.std.proofs.lemmas.Bool.Decides.{nat_tests}
use Rattle.std.proofs.lemmas.List.{take-append-drop, take_more_set, drop-set-lt, append_assoc, length-set}
use Rattle.guest_mem.specs.Pages.{Page, Pages, written, put, next, with_byte, page_of, place_of, splice}
use Rattle.guest_mem.proofs.Finding.{alike}

-- what was before and after them stays
pub splice-form : (l : List ℕ) (i : ℕ) (bs : List ℕ) → i + length bs ≤ length l → splice l i bs ≡ take i l ++ (bs ++ drop (i + length bs) l)
unfolding splice
splice-form l i [] inside =
    let z : i + 0 ≡ i = omega arith in
    rw z (sym (take-append-drop i l))
splice-form l i (b ∷ bs) inside =
    let more : i + suc (length bs) ≡ i + 1 + length bs = omega arith in
    let rest = splice-form (slice_set l i b) (i + 1) bs (rw (length-set l i b) (omega arith)) in
    rest ∙ rw (more, take_more_set l i b (omega arith), drop-set-lt (i + 1 + length bs) l i b (omega arith), append_assoc (take i l) (b ∷ []) (bs ++ drop (i + 1 + length bs) l)) refl

is-at : (x n : ℕ) → nat_eq n x ≡ true → n ≡ x
is-at x n e = grind (arith, nat_tests, e)

-- to write back what a page holds changes nothing
pub insert-same : (pages : Pages) (n : ℕ) (p : Page) → fin.get pages n ≡ Some p → fin.insert pages n p ≡ pages
insert-same pages n p there =
    fin.same_map nat_cmp_total fin.nat_cmp-IsAntisymmetric (fin.insert pages n p) pages (λ x.
    fin.get-insert nat_cmp_total pages n p x ∙ rw (alike x n) (
    ⊎_elim
    (λ (e : nat_eq n x ≡ true). rw (e, ← is-at x n e, there) refl)
    (λ (e : nat_eq n x ≡ false). rw e refl)
    (cases_Bool (nat_eq n x))))

-- of two writes of a page the second stays
insert-twice : (pages : Pages) (n : ℕ) (p q : Page) → fin.insert (fin.insert pages n p) n q ≡ fin.insert pages n q
insert-twice pages n p q =
    fin.same_map nat_cmp_total fin.nat_cmp-IsAntisymmetric (fin.insert (fin.insert pages n p) n q) (fin.insert pages n q) (λ x.
    rw (fin.get-insert nat_cmp_total (fin.insert pages n p) n q x, fin.get-insert nat_cmp_total pages n p x, fin.get-insert nat_cmp_total pages n q x, alike x n) (
    ⊎_elim
    (λ (e : nat_eq n x ≡ true). rw e refl)
    (λ (e : nat_eq n x ≡ false). rw e refl)
    (cases_Bool (nat_eq n x))))

pub get-here : (pages : Pages) (n : ℕ) (p : Page) → fin.get (fin.insert pages n p) n ≡ Some p
get-here pages n p =
    let same : nat_eq n n ≡ true = grind (arith, nat_tests) in
    fin.get-insert nat_cmp_total pages n p n ∙ rw (alike n n, same) refl

put-there : (pages : Pages) (a b : ℕ) (p : Page) → fin.get pages (page_of a) ≡ Some p → put pages a b ≡ fin.insert pages (page_of a) (with_byte p (place_of a) b)
put-there pages a b p there = rw there refl

put-absent : (pages : Pages) (a b : ℕ) → fin.get pages (page_of a) ≡ None → put pages a b ≡ pages
put-absent pages a b absent = rw absent refl

pub written-none : (pages : Pages) (a : ℕ) → written pages a [] ≡ pages
unfolding written
written-none pages a = refl

pub written-more : (pages : Pages) (a b : ℕ) (bs : List ℕ) → written pages a (b ∷ bs) ≡ written (put pages a b) (next a) bs
unfolding written
written-more pages a b bs = refl

-- where the page is not mapped nothing is written
pub written-absent :
    (pages : Pages) (a : ℕ) (bs : List ℕ)
    → place_of a + length bs ≤ 4096
    → a < 2 ^ 32
    → fin.get pages (page_of a) ≡ None
    → written pages a bs ≡ pages
written-absent pages a [] inside fits absent = written-none pages a
written-absent pages a (b ∷ []) inside fits absent = written-more pages a b [] ∙ written-none (put pages a b) (next a) ∙ put-absent pages a b absent
written-absent pages a (b ∷ c ∷ bs) inside fits absent =
    let same : page_of (next a) ≡ page_of a = omega arith in
    let place : place_of (next a) ≡ place_of a + 1 = omega arith in
    let rest = written-absent pages (next a) (c ∷ bs) (omega (arith, place)) (omega arith) (rw same absent) in
    written-more pages a b (c ∷ bs) ∙ rw (put-absent pages a b absent) rest

-- where it is mapped its bytes are spliced
pub written-there :
    (pages : Pages) (a : ℕ) (bs : List ℕ) (p : Page)
    → place_of a + length bs ≤ 4096
    → a < 2 ^ 32
    → fin.get pages (page_of a) ≡ Some p
    → written pages a bs ≡ fin.insert pages (page_of a) (record p { bytes = splice p.bytes (place_of a) bs })
unfolding splice
written-there pages a [] p inside fits there = written-none pages a ∙ sym (insert-same pages (page_of a) p there)
written-there pages a (b ∷ []) p inside fits there = written-more pages a b [] ∙ written-none (put pages a b) (next a) ∙ put-there pages a b p there
written-there pages a (b ∷ c ∷ bs) p inside fits there =
    let same : page_of (next a) ≡ page_of a = omega arith in
    let place : place_of (next a) ≡ place_of a + 1 = omega arith in
    let q = with_byte p (place_of a) b in
    let after = fin.insert pages (page_of a) q in
    let rest : written after (next a) (c ∷ bs) ≡ fin.insert after (page_of (next a)) (record q { bytes = splice q.bytes (place_of (next a)) (c ∷ bs) }) =
    written-there after (next a) (c ∷ bs) q (omega (arith, place)) (omega arith) (rw same (get-here pages (page_of a) q)) in
    let there' : written (put pages a b) (next a) (c ∷ bs) ≡ fin.insert after (page_of (next a)) (record q { bytes = splice q.bytes (place_of (next a)) (c ∷ bs) }) = rw (put-there pages a b p there) rest in
    written-more pages a b (c ∷ bs) ∙ there' ∙ rw (same, place) (insert-twice pages (page_of a) q (record p { bytes = splice (slice_set p.bytes (place_of a) b) (place_of a + 1) (c ∷ bs) }))

-- bytes written one after the other
pub written-append :
    (pages : Pages) (a : ℕ) (xs ys : List ℕ)
    → a < 2 ^ 32
    → written pages a (xs ++ ys) ≡ written (written pages a xs) ((a + length xs) % 2 ^ 32) ys
written-append pages a [] ys fits =
    let same : (a + 0) % 2 ^ 32 ≡ a = omega arith in
    rw (written-none pages a, same) refl
written-append pages a (b ∷ xs) ys fits =
    let same : (next a + length xs) % 2 ^ 32 ≡ (a + suc (length xs)) % 2 ^ 32 = omega arith in
    let rest : written (put pages a b) (next a) (xs ++ ys) ≡ written (written (put pages a b) (next a) xs) ((a + suc (length xs)) % 2 ^ 32) ys = rw same at (written-append (put pages a b) (next a) xs ys (omega arith)) in
    written-more pages a b (xs ++ ys) ∙ rest ∙ rw (written-more pages a b xs) refl
