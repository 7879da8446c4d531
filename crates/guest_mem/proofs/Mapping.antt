-- Pages that are added or written: what may be reached, and what it holds.
use Rattle.std.proofs.Common.{◌≡◌, ℕ, zero, suc, ◌+◌, ◌-◌, ◌%◌, ◌^◌, ◌<◌, true, false, IsSome, is_some, List, [], ◌∷◌, Option, Some, None, refl, sym, ◌∙◌, ap, arith, ⊎_elim}
use Rattle.std.specs.Prelude.{nat_eq}
use Rattle.std.specs.FinMap as fin
use Rattle.std.proofs.lemmas.Cmp.{nat_cmp_total}
use Rattle.std.proofs.lemmas.Bool.{cases_Bool}
use Rattle.std.proofs.lemmas.Bool.Decides.{nat_tests}
use Rattle.guest_mem.specs.Pages.{Page, Pages, allows, first_bad, loaded, next, page_of, perms_at, place_of, put, put_in, with_byte, with_page, written, zero_page}
use Rattle.guest_mem.specs.Mapping.{SamePerms, Extends}
use Rattle.guest_mem.proofs.Finding.{alike}
use Rattle.guest_mem.proofs.Ranges.{bad-none, bad-later, allows-mapped, first_bad-each, first_bad_rest}

-- ---- permissions

is-at : (x n : ℕ) → nat_eq n x ≡ true → n ≡ x
is-at x n e = grind (arith, nat_tests, e)

-- a byte that is put leaves every permission
pub perms-put_in : (pages : Pages) (a b x : ℕ) (o : Option Page) → fin.get pages (page_of a) ≡ o → perms_at (put_in pages a b o) x ≡ perms_at pages x
perms-put_in pages a b x None there = refl
perms-put_in pages a b x (Some p) there =
    rw (fin.get-insert nat_cmp_total pages (page_of a) (with_byte p (place_of a) b) (page_of x), alike (page_of x) (page_of a)) (
    ⊎_elim
    (λ (e : nat_eq (page_of a) (page_of x) ≡ true). rw (e, ← is-at (page_of x) (page_of a) e, there) refl)
    (λ (e : nat_eq (page_of a) (page_of x) ≡ false). rw e refl)
    (cases_Bool (nat_eq (page_of a) (page_of x))))

perms-written : (pages : Pages) (a x : ℕ) (bs : List ℕ) → perms_at (written pages a bs) x ≡ perms_at pages x
unfolding written
perms-written pages a x [] = refl
perms-written pages a x (b ∷ bs) = perms-written (put pages a b) (next a) x bs ∙ perms-put_in pages a b x (fin.get pages (page_of a)) refl

-- ranges may be reached alike
pub bad-by-perms : (p q : Pages) (need a n : ℕ) → SamePerms p q → first_bad p need a n ≡ first_bad q need a n
unfolding first_bad
bad-by-perms p q need a zero same = refl
bad-by-perms p q need a (suc n) same = rw (same a, bad-by-perms p q need (next a) n same) refl

pub same-written : (p q : Pages) (a : ℕ) (bs : List ℕ) → SamePerms p q → SamePerms (written p a bs) q
same-written p q a bs same = λ x. perms-written p a x bs ∙ same x

-- ---- pages that stay

same-page : (o m : Option Page) → IsSome o → ((p : Page) → o ≡ Some p → m ≡ Some p) → m ≡ o
same-page None m some extends = cc
same-page (Some p) m some extends = extends p refl

pub page-same : (pages more : Pages) (need a : ℕ) → Extends pages more → 0 < need → allows need (perms_at pages a) ≡ true → fin.get more (page_of a) ≡ fin.get pages (page_of a)
page-same pages more need a extends some has = same-page (fin.get pages (page_of a)) (fin.get more (page_of a)) (allows-mapped pages need a some has) (extends (page_of a))

-- a range that may be reached may be reached still, and holds the same number
pub range-same : (pages more : Pages) (need a n : ℕ) → Extends pages more → 0 < need → a < 2 ^ 32 → first_bad pages need a n ≡ None → (first_bad more need a n ≡ None) × (loaded more a n ≡ loaded pages a n)
unfolding loaded
range-same pages more need a zero extends some fits none = (bad-none more need a, refl)
range-same pages more need a (suc n) extends some fits none =
    let here : (a + 0) % 2 ^ 32 ≡ a = omega arith in
    let has = rw here at (first_bad-each pages need a (suc n) 0 fits none (omega arith)) in
    let less : suc n - 1 ≡ n = omega arith in
    let later = rw less at (first_bad_rest pages need a 1 (suc n) fits (omega arith) none) in
    let same = page-same pages more need a extends some has in
    let ih = range-same pages more need (next a) n extends some (omega arith) later in
    (bad-later more need a n (rw same has) ∙ ih.0, rw (same, ih.1) refl)

-- ---- a page that is added

get-other : (p : Pages) (k x : ℕ) (z : Page) → nat_eq k x ≡ false → fin.get (fin.insert p k z) x ≡ fin.get p x
get-other p k x z apart = fin.get-insert nat_cmp_total p k z x ∙ rw (alike x k, apart) refl

get-same : (p : Pages) (k x : ℕ) (z : Page) → nat_eq k x ≡ true → fin.get (fin.insert p k z) x ≡ Some z
get-same p k x z same = fin.get-insert nat_cmp_total p k z x ∙ rw (alike x k, same) refl

-- two pages are added in either order
insert-apart : (p : Pages) (a b : ℕ) (x y : Page) → (a ≡ b → ⊥) → fin.insert (fin.insert p a x) b y ≡ fin.insert (fin.insert p b y) a x
insert-apart p a b x y apart =
    fin.same_map nat_cmp_total fin.nat_cmp-IsAntisymmetric (fin.insert (fin.insert p a x) b y) (fin.insert (fin.insert p b y) a x) (λ z.
    rw (fin.get-insert nat_cmp_total (fin.insert p a x) b y z, fin.get-insert nat_cmp_total p a x z, fin.get-insert nat_cmp_total (fin.insert p b y) a x z, fin.get-insert nat_cmp_total p b y z, alike z a, alike z b) (
    ⊎_elim
    (λ (e : nat_eq a z ≡ true).
    ⊎_elim
    (λ (f : nat_eq b z ≡ true). absurd (apart (is-at z a e ∙ sym (is-at z b f))))
    (λ (f : nat_eq b z ≡ false). rw (e, f) refl)
    (cases_Bool (nat_eq b z)))
    (λ (e : nat_eq a z ≡ false). rw e refl)
    (cases_Bool (nat_eq a z))))

-- A byte that is put into a page that is mapped, and a page that is added, change places.
put-with_page : (p : Pages) (a b q : ℕ) (o z : Option Page) → fin.get p (page_of a) ≡ o → is_some o ≡ true → fin.get p (page_of q) ≡ z → with_page (put_in p a b o) q ≡ put_in (with_page p q) a b (fin.get (with_page p q) (page_of a))
put-with_page p a b q None z there mapped at = cc
put-with_page p a b q (Some g) (Some h) there mapped at =
    let changed = with_byte g (place_of a) b in
    let still : is_some (fin.get (fin.insert p (page_of a) changed) (page_of q)) ≡ true =
    ⊎_elim
    (λ (e : nat_eq (page_of a) (page_of q) ≡ true). rw (get-same p (page_of a) (page_of q) changed e) refl)
    (λ (e : nat_eq (page_of a) (page_of q) ≡ false). rw (get-other p (page_of a) (page_of q) changed e, at) refl)
    (cases_Bool (nat_eq (page_of a) (page_of q))) in
    rw (still, at, there) refl
put-with_page p a b q (Some g) None there mapped at =
    let changed = with_byte g (place_of a) b in
    let apart : page_of a ≡ page_of q → ⊥ = λ e. let f : Some g ≡ None = sym there ∙ ap (λ (n : ℕ). fin.get p n) e ∙ at in cc in
    let test : nat_eq (page_of a) (page_of q) ≡ false = grind (arith, nat_tests, apart) in
    let back : nat_eq (page_of q) (page_of a) ≡ false = grind (arith, nat_tests, apart) in
    rw (get-other p (page_of a) (page_of q) changed test, at, get-other p (page_of q) (page_of a) zero_page back, there)
    (insert-apart p (page_of a) (page_of q) changed zero_page apart)

pub put-mapped : (p : Pages) (a b q : ℕ) → is_some (fin.get p (page_of a)) ≡ true → with_page (put p a b) q ≡ put (with_page p q) a b
put-mapped p a b q mapped = put-with_page p a b q (fin.get p (page_of a)) (fin.get p (page_of q)) refl mapped refl

-- a page that is mapped stays
pub get-added : (p : Pages) (q k : ℕ) (g : Page) → fin.get p k ≡ Some g → fin.get (with_page p q) k ≡ Some g
get-added p q k g there = by (fin.get p (page_of q)) refl
  where
    by : (o : Option Page) → fin.get p (page_of q) ≡ o → fin.get (with_page p q) k ≡ Some g
    by (Some h) at = rw at there
    by None at =
        let apart : page_of q ≡ k → ⊥ = λ e. let f : Some g ≡ None = sym there ∙ ap (λ (n : ℕ). fin.get p n) (sym e) ∙ at in cc in
        let test : nat_eq (page_of q) k ≡ false = grind (arith, nat_tests, apart) in
        rw at (get-other p (page_of q) k zero_page test ∙ there)
