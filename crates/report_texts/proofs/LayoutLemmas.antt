-- What the text about the layout of an image rests on: digits, pages, edges and runs.
use Rattle.std.proofs.Common.{◌≡◌, ℕ, zero, suc, ◌+◌, ◌-◌, ◌/◌, ◌%◌, ◌^◌, ◌<◌, ◌≤◌, min, Bool, true, false, List, [], ◌∷◌, ◌++◌, length, take, drop, map, get_or, Option, Some, None, Result, Ok, Err, OnErr, refl, sym, ap, ◌∙◌, subst, append_assoc, append-nil, arith, ◌==◌, bit_or, bit_and, inl, inr, ◌⊎◌}
use Rattle.std.specs.Prelude.{◌||◌, if◌then◌else◌}
use Rattle.std.proofs.lemmas.Nat.{pow_pos}
use Rattle.std.specs.Int.Bits.{or_zero_r}
use Rattle.std.proofs.lemmas.Nat.Bits.{same_from_bits, bit_at_or, and_pow}
use Rattle.std.proofs.lemmas.Bool.Decides.{nat_tests}
use Rattle.std.proofs.lemmas.List.{at_drop_more, drop_all}
use Rattle.std.proofs.lemmas.List.Elements.{All-more, All-weaker, All-map, All-head, All-tail}
use Rattle.std.specs.List.{All, list_any}
use Rattle.guest_mem.specs.declared.regions.Region.{Region}
use Rattle.bit_laws.specs.Digits.{hex_word}
use Rattle.guest_mem.specs.declared.spans.Span.{Span}
use Rattle.guest_mem.specs.Spans.{span_of, meets, is_mapped, page_perms, page_numbers}
use Rattle.report_texts.specs.Layouts.{perms_of, same_perms, letter, line_of_run, lines_from, map_lines, IsSteady, IsRun}

-- ---- digits

-- a word has the digits of any number that is the same at 32 bits
pub hex_word_wraps : (n : ℕ) → hex_word (n % 2 ^ 32) ≡ hex_word n
unfolding hex_word
hex_word_wraps n =
    let d7 : n % 2 ^ 32 / 16 ^ 7 % 16 ≡ n / 16 ^ 7 % 16 = omega arith in
    let d6 : n % 2 ^ 32 / 16 ^ 6 % 16 ≡ n / 16 ^ 6 % 16 = omega arith in
    let d5 : n % 2 ^ 32 / 16 ^ 5 % 16 ≡ n / 16 ^ 5 % 16 = omega arith in
    let d4 : n % 2 ^ 32 / 16 ^ 4 % 16 ≡ n / 16 ^ 4 % 16 = omega arith in
    let d3 : n % 2 ^ 32 / 16 ^ 3 % 16 ≡ n / 16 ^ 3 % 16 = omega arith in
    let d2 : n % 2 ^ 32 / 16 ^ 2 % 16 ≡ n / 16 ^ 2 % 16 = omega arith in
    let d1 : n % 2 ^ 32 / 16 ^ 1 % 16 ≡ n / 16 ^ 1 % 16 = omega arith in
    let d0 : n % 2 ^ 32 / 16 ^ 0 % 16 ≡ n / 16 ^ 0 % 16 = omega arith in
    rw (d7, d6, d5, d4, d3, d2, d1, d0) refl

-- ---- the permissions of a page

pub list_any-map : {X Y : Type 0} (p : X → Bool) (h : Y → X) (ys : List Y) → list_any p (map h ys) ≡ list_any (λ y. p (h y)) ys
list_any-map p h [] = refl
list_any-map p h (y ∷ ys) = ap (λ b. p (h y) || b) (list_any-map p h ys)

pub or_assoc : (a b c : ℕ) → bit_or (bit_or a b) c ≡ bit_or a (bit_or b c)
or_assoc a b c = same_from_bits _ _ (λ i. omega (arith, bit_at_or (bit_or a b) c i, bit_at_or a b i, bit_at_or a (bit_or b c) i, bit_at_or b c i))

-- the union over the regions that are left, at the next of them
pub page_perms_more : (rs : List Region) (i : ℕ) (r : Region) (page : ℕ) → i < length rs → r ≡ get_or rs i r
    → page_perms (map span_of (drop i rs)) page ≡ (if meets page (span_of r) then bit_or r.perms.0 (page_perms (map span_of (drop (i + 1) rs)) page) else page_perms (map span_of (drop (i + 1) rs)) page)
unfolding page_perms
page_perms_more rs i r page within is =
    at_drop_more (λ xs. page_perms (map span_of xs) page) rs i r within
    ∙ ap (λ (x : Region). if meets page (span_of x) then bit_or x.perms.0 (page_perms (map span_of (drop (i + 1) rs)) page) else page_perms (map span_of (drop (i + 1) rs)) page) (sym is)

-- the regions that were seen, and one that meets the page, or one that does not
pub union_taken : (seen here perms rest all : ℕ) (met : Bool) → here ≡ (if met then bit_or perms rest else rest) → bit_or seen here ≡ all → met ≡ true → bit_or (bit_or seen perms) rest ≡ all
union_taken seen here perms rest all met is whole e = or_assoc seen perms rest ∙ rw (is, e) at whole

pub union_passed : (seen here perms rest all : ℕ) (met : Bool) → here ≡ (if met then bit_or perms rest else rest) → bit_or seen here ≡ all → met ≡ false → bit_or seen rest ≡ all
union_passed seen here perms rest all met is whole e = rw (is, e) at whole

pub union_done : (rs : List Region) (i seen all page : ℕ) → length rs ≤ i → bit_or seen (page_perms (map span_of (drop i rs)) page) ≡ all → seen ≡ all
unfolding page_perms
union_done rs i seen all page done whole = sym (or_zero_r seen) ∙ rw (drop_all i rs done) at whole

-- a permission is there where its bit is
pub has_permission : (perms place : ℕ) → (bit_and perms (2 ^ place) == 2 ^ place) ≡ (perms / 2 ^ place % 2 == 1)
has_permission perms place =
    let some = pow_pos place in
    let cases : (perms / 2 ^ place % 2 ≡ 0) ⊎ (perms / 2 ^ place % 2 ≡ 1) = grind arith in
    rw (and_pow perms place) (elim cases [ inl e ↦ rw e (grind (arith, nat_tests, some)) | inr e ↦ rw e (grind (arith, nat_tests, some)) ])

-- the letter of a permission, by the test that finds it
pub letter_there : (perms place code : ℕ) (there : Bool) → there ≡ (bit_and perms (2 ^ place) == 2 ^ place) → (if there then code else 45) ≡ letter perms (2 ^ place) code
letter_there perms place code there is = ap (λ b. if b then code else 45) (is ∙ has_permission perms place)

pub three_more : (front : List ℕ) (a b c : ℕ) → ((front ++ a ∷ []) ++ b ∷ []) ++ c ∷ [] ≡ front ++ a ∷ b ∷ c ∷ []
three_more front a b c = append_assoc (front ++ a ∷ []) (b ∷ []) (c ∷ []) ∙ append_assoc front (a ∷ []) (b ∷ c ∷ [])

-- ---- edges

steady_shorter : (s : Span) (page after edge : ℕ) → after ≤ edge → IsSteady page edge s → IsSteady page after s
steady_shorter s page after edge short steady = record { same = λ other from to. steady.same other from (omega arith) }

-- one more region: up to the first edge of all
pub steady_more : (rs : List Region) (i page edge next : ℕ) (r : Region) → i < length rs → r ≡ get_or rs i r
    → All (λ x. IsSteady page edge (span_of x)) (take i rs) → IsSteady page next (span_of r) → All (λ x. IsSteady page (min edge next) (span_of x)) (take (i + 1) rs)
steady_more rs i page edge next r within is steady one =
    All-more (λ (x : Region). IsSteady page (min edge next) (span_of x)) rs i r within
    (All-weaker (λ (x : Region). IsSteady page edge (span_of x)) (λ (x : Region). IsSteady page (min edge next) (span_of x)) (λ x h. steady_shorter (span_of x) page (min edge next) edge (omega arith) h) (take i rs) steady)
    (subst (λ (x : Region). IsSteady page (min edge next) (span_of x)) is (steady_shorter (span_of r) page (min edge next) next (omega arith) one))

steady_mapped : (ss : List Span) (page after other : ℕ) → page ≤ other → other < after → All (IsSteady page after) ss → is_mapped ss other ≡ is_mapped ss page
steady_mapped [] page after other from to steady = refl
steady_mapped (s ∷ ss) page after other from to steady =
    rw (IsSteady.same (All-head (IsSteady page after) s ss steady) other from to) (ap (λ b. meets page s || b) (steady_mapped ss page after other from to (All-tail (IsSteady page after) s ss steady)))

steady_perms : (ss : List Span) (page after other : ℕ) → page ≤ other → other < after → All (IsSteady page after) ss → page_perms ss other ≡ page_perms ss page
unfolding page_perms
steady_perms [] page after other from to steady = refl
steady_perms (s ∷ ss) page after other from to steady =
    rw (IsSteady.same (All-head (IsSteady page after) s ss steady) other from to, steady_perms ss page after other from to (All-tail (IsSteady page after) s ss steady)) refl

-- up to the first edge of all, the permissions stay as they are
pub run_of_steady : (rs : List Region) (page after : ℕ) → All (λ x. IsSteady page after (span_of x)) rs → IsRun (map span_of rs) page after
run_of_steady rs page after steady =
    let all = All-map (IsSteady page after) span_of rs steady in
    record {
      same = λ other from to. rw (steady_mapped (map span_of rs) page after other from to all, steady_perms (map span_of rs) page after other from to all) refl;
    }

-- ---- runs

same_perms_refl : (p : Option ℕ) → same_perms p p ≡ true
same_perms_refl None = refl
same_perms_refl (Some n) = grind (arith, nat_tests)

-- no line ends within a run
lines_through : (ss : List Span) (first page k n : ℕ) → ((other : ℕ) → page ≤ other → other < page + k → perms_of ss other ≡ perms_of ss first)
    → lines_from ss first page (k + n) ≡ lines_from ss first (page + k) n
unfolding lines_from
lines_through ss first page zero n same =
    let e : 0 + n ≡ n = omega arith in
    let e' : page + 0 ≡ page = omega arith in
    rw (e, e') refl
lines_through ss first page (suc k) n same =
    let e : suc k + n ≡ suc (k + n) = omega arith in
    let e' : page + suc k ≡ page + 1 + k = omega arith in
    rw (e, e', same page (omega arith) (omega arith), same_perms_refl (perms_of ss first))
    (lines_through ss first (page + 1) k n (λ other from to. same other (omega arith) (omega arith)))

-- the lines of the pages from one on, at which a run begins, and of which n are left
unfoldable pub lines_left : List Span → ℕ → ℕ → List ℕ
lines_left ss first zero = []
lines_left ss first (suc n) = lines_from ss first (first + 1) n

-- where a run ends, its line stands before those of the pages that are left
lines_at_end : (ss : List Span) (first after n : ℕ) → (0 < n → same_perms (perms_of ss after) (perms_of ss first) ≡ false)
    → lines_from ss first after n ≡ line_of_run (perms_of ss first) first after ++ lines_left ss after n
unfolding lines_from lines_left
lines_at_end ss first after zero ends = sym (append-nil (line_of_run (perms_of ss first) first after))
lines_at_end ss first after (suc n) ends = rw (ends (omega arith)) refl

lines_of_run : (ss : List Span) (first k n : ℕ) → IsRun ss first (first + suc k) → (0 < n → same_perms (perms_of ss (first + suc k)) (perms_of ss first) ≡ false)
    → lines_left ss first (suc k + n) ≡ line_of_run (perms_of ss first) first (first + suc k) ++ lines_left ss (first + suc k) n
unfolding lines_left
lines_of_run ss first k n run ends =
    let e : suc k + n ≡ suc (k + n) = omega arith in
    let e' : first + 1 + k ≡ first + suc k = omega arith in
    rw e (lines_through ss first (first + 1) k n (λ other from to. run.same other (omega arith) (omega arith)) ∙ ap (λ page. lines_from ss first page n) e' ∙ lines_at_end ss first (first + suc k) n ends)

-- all lines are those of the pages from the first on
pub lines-whole : (ss : List Span) → lines_left ss 0 (page_numbers - 0) ≡ map_lines ss
unfolding map_lines lines_left
lines-whole ss = refl

-- no line is left where no page is
pub lines-none : (ss : List Span) (first : ℕ) → page_numbers ≤ first → lines_left ss first (page_numbers - first) ≡ []
unfolding lines_left
lines-none ss first end =
    let none : page_numbers - first ≡ 0 = omega arith in
    rw none refl

-- the lines from a run on, by how many pages it has and how many are after it
pub lines_by : (ss : List Span) (first after : ℕ) → first < after → after ≤ page_numbers → IsRun ss first after
    → (after < page_numbers → same_perms (perms_of ss after) (perms_of ss first) ≡ false)
    → lines_left ss first (page_numbers - first) ≡ line_of_run (perms_of ss first) first after ++ lines_left ss after (page_numbers - after)
lines_by ss first after some within run longest =
    let k : ℕ = after - first - 1 in
    let e : first + suc k ≡ after = omega arith in
    let e' : suc k + (page_numbers - after) ≡ page_numbers - first = omega arith in
    rw (e, e') at (lines_of_run ss first k (page_numbers - after) (rw e run) (λ more. rw e (longest (omega arith))))
