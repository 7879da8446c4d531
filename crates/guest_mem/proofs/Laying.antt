-- What is found in the pages that a region is laid over.
use Rattle.std.proofs.Common.{◌≡◌, ℕ, zero, suc, ◌+◌, ◌-◌, ◌*◌, ◌^◌, ◌<◌, ◌≤◌, eqb, true, false, cond, List, [], ◌∷◌, length, get_or, Option, Some, None, refl, sym, ap, ◌∙◌, arith, ⊎_elim}
use Rattle.std.specs.Prelude.{nat_lt, slice_get, slice_set, unwrap_or}
use Rattle.std.specs.FinMap as fin
use Rattle.std.proofs.lemmas.Cmp.{nat_cmp_total}
use Rattle.std.proofs.lemmas.Bool.{cases_eq, cases_order, eq-eqb, ne_eqb, lt-ltb, false_from_ne_true, ltb-true}
use Rattle.std.proofs.lemmas.List.{get_or-set_same, get_or-set_other, length-set}
use Rattle.guest_mem.specs.Pages.{Page, Pages, joined, put, put_in, with_byte, written, next, page_of, place_of}
use Rattle.guest_mem.specs.Laying.{granted}
use Rattle.guest_mem.specs.Opening.{byte_from}
use Rattle.guest_mem.proofs.Finding.{alike}
use Rattle.guest_mem.proofs.Writing.{get-here, written-none, written-more}

pub insert-other : (pages : Pages) (n : ℕ) (p : Page) (x : ℕ) → (n ≡ x → ⊥) → fin.get (fin.insert pages n p) x ≡ fin.get pages x
insert-other pages n p x apart =
    let e : eqb n x ≡ false = ne_eqb n x apart in
    fin.get-insert nat_cmp_total pages n p x ∙ rw (alike x n, e) refl

-- ---- permissions

pub granted-none : (pages : Pages) (perms first : ℕ) → granted pages perms first 0 ≡ pages
unfolding granted
granted-none pages perms first = refl

pub granted-more : (pages : Pages) (perms first n : ℕ) → granted pages perms first (suc n) ≡ granted (fin.insert pages first (joined (fin.get pages first) perms)) perms (first + 1) n
unfolding granted
granted-more pages perms first n = refl

pub granted-before : (pages : Pages) (perms first n x : ℕ) → x < first → fin.get (granted pages perms first n) x ≡ fin.get pages x
granted-before pages perms first zero x before = ap (λ (m : Pages). fin.get m x) (granted-none pages perms first)
granted-before pages perms first (suc n) x before =
    let one = fin.insert pages first (joined (fin.get pages first) perms) in
    rw (granted-more pages perms first n) (granted-before one perms (first + 1) n x (omega arith) ∙ insert-other pages first (joined (fin.get pages first) perms) x (λ same. omega arith))

pub granted-past : (pages : Pages) (perms first n x : ℕ) → first + n ≤ x → fin.get (granted pages perms first n) x ≡ fin.get pages x
granted-past pages perms first zero x past = ap (λ (m : Pages). fin.get m x) (granted-none pages perms first)
granted-past pages perms first (suc n) x past =
    let one = fin.insert pages first (joined (fin.get pages first) perms) in
    rw (granted-more pages perms first n) (granted-past one perms (first + 1) n x (omega arith) ∙ insert-other pages first (joined (fin.get pages first) perms) x (λ same. omega arith))

pub granted-within : (pages : Pages) (perms first n x : ℕ) → first ≤ x → x < first + n → fin.get (granted pages perms first n) x ≡ Some (joined (fin.get pages x) perms)
granted-within pages perms first zero x from to = absurd (omega arith)
granted-within pages perms first (suc n) x from to =
    let p = joined (fin.get pages first) perms in
    let one = fin.insert pages first p in
    rw (granted-more pages perms first n) (
    ⊎_elim
    (λ (here : first ≡ x). granted-before one perms (first + 1) n x (omega arith) ∙ rw (← here) (get-here pages first p))
    (λ (other : first ≡ x → ⊥).
    granted-within one perms (first + 1) n x (omega arith) (omega arith) ∙ ap (λ (o : Option Page). Some (joined o perms)) (insert-other pages first p x other))
    (cases_eq first x))

-- ---- bytes

-- what a look-up of a page found: a page with these permissions, and with the bytes that a function gives for its places
pub record Holds (found : Option Page) (perms : ℕ) (byte : ℕ → ℕ) : Type 0 where
  pub page : Page
  pub is : found ≡ Some page
  pub perms_are : page.perms ≡ perms
  pub whole : length page.bytes ≡ 4096
  pub each : (k : ℕ) → k < 4096 → get_or page.bytes k 0 ≡ byte k

-- the same bytes by another function
pub holds-same : (found : Option Page) (perms : ℕ) (f g : ℕ → ℕ) → ((k : ℕ) → k < 4096 → f k ≡ g k) → Holds found perms f → Holds found perms g
holds-same found perms f g same h = record { page = h.page; is = h.is; perms_are = h.perms_are; whole = h.whole; each = λ k within. h.each k within ∙ same k within }

put_in-other : (pages : Pages) (a b x : ℕ) (o : Option Page) → (page_of a ≡ x → ⊥) → fin.get (put_in pages a b o) x ≡ fin.get pages x
put_in-other pages a b x None apart = refl
put_in-other pages a b x (Some p) apart = insert-other pages (page_of a) (with_byte p (place_of a) b) x apart

put-absent-elsewhere : (pages : Pages) (a b x : ℕ) → fin.get pages x ≡ None → fin.get (put pages a b) x ≡ None
put-absent-elsewhere pages a b x none =
    ⊎_elim
    (λ (here : page_of a ≡ x). let absent : fin.get pages (page_of a) ≡ None = rw here none in rw absent none)
    (λ (other : page_of a ≡ x → ⊥). put_in-other pages a b x (fin.get pages (page_of a)) other ∙ none)
    (cases_eq (page_of a) x)

-- what is not mapped stays so
pub written-unmapped : (pages : Pages) (a : ℕ) (bs : List ℕ) (x : ℕ) → fin.get pages x ≡ None → fin.get (written pages a bs) x ≡ None
written-unmapped pages a [] x none = rw (written-none pages a) none
written-unmapped pages a (b ∷ bs) x none = rw (written-more pages a b bs) (written-unmapped (put pages a b) (next a) bs x (put-absent-elsewhere pages a b x none))

put-here : (pages : Pages) (a b : ℕ) (p : Page) → fin.get pages (page_of a) ≡ Some p → fin.get (put pages a b) (page_of a) ≡ Some (with_byte p (place_of a) b)
put-here pages a b p there = rw there (get-here pages (page_of a) (with_byte p (place_of a) b))

byte-put : (a b x k : ℕ) (bytes : List ℕ) → length bytes ≡ 4096 → page_of a ≡ x → k < 4096 → get_or (slice_set bytes (place_of a) b) k 0 ≡ cond (eqb (x * 4096 + k) a) b (get_or bytes k 0)
byte-put a b x k bytes whole here within =
    ⊎_elim
    (λ (same : k ≡ place_of a).
    let e : eqb (x * 4096 + k) a ≡ true = eq-eqb (x * 4096 + k) a (omega arith) in
    rw (e, same) (get_or-set_same bytes (place_of a) b 0 (omega arith)))
    (λ (other : k ≡ place_of a → ⊥).
    let e : eqb (x * 4096 + k) a ≡ false = ne_eqb (x * 4096 + k) a (λ same. other (omega arith)) in
    rw e (get_or-set_other bytes (place_of a) k b 0 other))
    (cases_eq k (place_of a))

-- one byte more
put-holds : (pages : Pages) (a b x perms : ℕ) (f : ℕ → ℕ) → Holds (fin.get pages x) perms f → Holds (fin.get (put pages a b) x) perms (λ k. cond (eqb (x * 4096 + k) a) b (f k))
put-holds pages a b x perms f h =
    ⊎_elim
    (λ (here : page_of a ≡ x). record {
      page = with_byte h.page (place_of a) b;
      is = rw (← here) (put-here pages a b h.page (rw here h.is));
      perms_are = h.perms_are;
      whole = length-set h.page.bytes (place_of a) b ∙ h.whole;
      each = λ k within. byte-put a b x k h.page.bytes h.whole here within ∙ ap (λ v. cond (eqb (x * 4096 + k) a) b v) (h.each k within);
    })
    (λ (other : page_of a ≡ x → ⊥). record {
      page = h.page;
      is = put_in-other pages a b x (fin.get pages (page_of a)) other ∙ h.is;
      perms_are = h.perms_are;
      whole = h.whole;
      each = λ k within.
          let e : eqb (x * 4096 + k) a ≡ false = ne_eqb (x * 4096 + k) a (λ same. other (omega arith)) in
          rw e (h.each k within);
    })
    (cases_eq (page_of a) x)

-- the byte of an address after bytes are written from a start on
abbrev pub byte_after : ℕ → List ℕ → ℕ → ℕ → ℕ
byte_after a bs y before = unwrap_or (byte_from a bs y) before

byte_after-none : (a y before : ℕ) → byte_after a [] y before ≡ before
byte_after-none a y before = elim (nat_lt y a) as (λ b. unwrap_or (cond b None (slice_get [] (y - a))) before ≡ before) [ true ↦ refl | false ↦ refl ]

byte_after-more : (a b : ℕ) (bs : List ℕ) (y before : ℕ) → byte_after (a + 1) bs y (cond (eqb y a) b before) ≡ byte_after a (b ∷ bs) y before
byte_after-more a b bs y before =
    ⊎_elim
    (λ (same : y ≡ a).
    let below : nat_lt y (a + 1) ≡ true = lt-ltb y (a + 1) (omega arith) in
    let at : nat_lt y a ≡ false = false_from_ne_true (nat_lt y a) (λ less. let l : y < a = ltb-true y a less in omega arith) in
    let is : eqb y a ≡ true = eq-eqb y a same in
    let first : y - a ≡ 0 = omega arith in
    rw (below, at, is, first) refl)
    (λ other.
    ⊎_elim
    (λ (less : y < a).
    let below : nat_lt y (a + 1) ≡ true = lt-ltb y (a + 1) (omega arith) in
    let at : nat_lt y a ≡ true = lt-ltb y a less in
    let is : eqb y a ≡ false = ne_eqb y a (λ same. omega arith) in
    rw (below, at, is) refl)
    (λ (more : a < y).
    let below : nat_lt y (a + 1) ≡ false = false_from_ne_true (nat_lt y (a + 1)) (λ less. let l : y < a + 1 = ltb-true y (a + 1) less in omega arith) in
    let at : nat_lt y a ≡ false = false_from_ne_true (nat_lt y a) (λ less. let l : y < a = ltb-true y a less in omega arith) in
    let is : eqb y a ≡ false = ne_eqb y a (λ same. omega arith) in
    let one : y - a ≡ suc (y - (a + 1)) = omega arith in
    rw (below, at, is, one) refl)
    other)
    (cases_order y a)

-- bytes that do not wrap
pub written-holds : (pages : Pages) (a : ℕ) (bs : List ℕ) (x perms : ℕ) (f : ℕ → ℕ) → length bs ≤ 2 ^ 32 - a → Holds (fin.get pages x) perms f
    → Holds (fin.get (written pages a bs) x) perms (λ k. byte_after a bs (x * 4096 + k) (f k))
written-holds pages a [] x perms f fits h =
    rw (written-none pages a) (holds-same (fin.get pages x) perms f (λ k. byte_after a [] (x * 4096 + k) (f k)) (λ k within. sym (byte_after-none a (x * 4096 + k) (f k))) h)
written-holds pages a (b ∷ []) x perms f fits h =
    rw (written-more pages a b [], written-none (put pages a b) (next a)) (
    holds-same (fin.get (put pages a b) x) perms (λ k. cond (eqb (x * 4096 + k) a) b (f k)) (λ k. byte_after a (b ∷ []) (x * 4096 + k) (f k))
    (λ k within. sym (byte_after-none (a + 1) (x * 4096 + k) (cond (eqb (x * 4096 + k) a) b (f k))) ∙ byte_after-more a b [] (x * 4096 + k) (f k))
    (put-holds pages a b x perms f h))
written-holds pages a (b ∷ c ∷ bs) x perms f fits h =
    let after : next a ≡ a + 1 = omega arith in
    let one = put-holds pages a b x perms f h in
    let rest = written-holds (put pages a b) (a + 1) (c ∷ bs) x perms (λ k. cond (eqb (x * 4096 + k) a) b (f k)) (omega arith) one in
    rw (written-more pages a b (c ∷ bs), after) (
    holds-same (fin.get (written (put pages a b) (a + 1) (c ∷ bs)) x) perms (λ k. byte_after (a + 1) (c ∷ bs) (x * 4096 + k) (cond (eqb (x * 4096 + k) a) b (f k))) (λ k. byte_after a (b ∷ c ∷ bs) (x * 4096 + k) (f k))
    (λ k within. byte_after-more a b (c ∷ bs) (x * 4096 + k) (f k))
    rest)
