-- Which pages ranges meet, and how many.
use Rattle.std.proofs.Common.{◌≡◌, ℕ, zero, suc, length, take, drop, get_or, bit_or, add-one, ◌+◌, ◌-◌, ◌/◌, ◌^◌, ◌<◌, ◌≤◌, Bool, true, false, not, ◌||◌, ◌&&◌, List, [], ◌∷◌, ◌++◌, refl, sym, ap, ◌∙◌, arith}
use Rattle.std.specs.List.{list_all}
use Rattle.std.specs.Int.Bits.{or_zero_l, or_zero_r}
use Rattle.std.proofs.lemmas.Bool.{and_parts, and_left, and_from, or_from, ne_eqb, both_ways, ltb-true, leb-true, lt-ltb, le-leb, lt-leb, false_from_ne_true, true_from_ne_false}
use Rattle.std.proofs.lemmas.List.Folds.{list_any-append, list_all_at}
use Rattle.std.proofs.lemmas.Nat.Bits.{same_from_bits, bit_at_or}
use Rattle.std.proofs.lemmas.List.{take_more, drop_all}
use Rattle.std.proofs.Math.Seq.{drop-cons}
use Rattle.std.proofs.Math.Bool.{or-false}
use Rattle.guest_mem.specs.declared.spans.Span.{Span}
use Rattle.guest_mem.specs.Spans.{page_numbers, first_page, last_page, meets, is_mapped}
use Rattle.guest_mem.proofs.Meeting.{IsMet, IsMet-from_meets, meets-from_IsMet, is_mapped-push}
use Rattle.elf_load.specs.Layout.{apart, all_apart, page_count, pages_added, count_below}
use Rattle.elf_load.proofs.Counting.{one_if, count_from, count_below-is, count_from-none, count_from-sum, count_from-ends, count_from-single, count_from-le}

-- two ranges that share no byte are not both round one byte
pub apart-ends : (a b : Span) → apart a b ≡ true → 0 < a.len → 0 < b.len → a.start < b.start + b.len → b.start < a.start + a.len → ⊥
apart-ends a b e some_a some_b low high =
    let shared : apart a b ≡ false = or_from _ _ (or_from _ _ (or_from _ _ (lt-leb _ _ high) (lt-leb _ _ low)) (ne_eqb _ _ (λ none. omega arith))) (ne_eqb _ _ (λ none. omega arith)) in
    both_ways (apart a b) shared e

-- a page that lies strictly inside a range is met by none that is apart from it
pub meets-inside : (page : ℕ) (a s : Span) → apart a s ≡ true → first_page s < page → page < last_page s → meets page a ≡ false
meets-inside page a s e low high =
    false_from_ne_true (meets page a) (λ met.
    let m = IsMet-from_meets page a met in
    let some : 0 < a.len = m.has_bytes in
    let from : a.start / 4096 ≤ page = m.from in
    let to : page ≤ (a.start + a.len - 1) / 4096 = m.to in
    apart-ends a s e some (omega arith) (omega arith) (omega arith))

pub is_mapped-inside : (page : ℕ) (ss : List Span) (s : Span) → list_all (λ a. apart a s) ss ≡ true → first_page s < page → page < last_page s → is_mapped ss page ≡ false
is_mapped-inside page [] s e low high = refl
is_mapped-inside page (a ∷ ss) s e low high =
    let both = and_parts (apart a s) (list_all (λ x. apart x s) ss) e in
    or_from _ _ (meets-inside page a s both.0 low high) (is_mapped-inside page ss s both.1 low high)

-- The pages that the next range adds: none where it has no byte, and otherwise those strictly between its first and its
-- last page, and each of the two that is met by no range before it.

abbrev pub is_added : List Span → Span → ℕ → Bool
is_added ss s page = meets page s && not (is_mapped ss page)

is_added-outside : (ss : List Span) (s : Span) (page : ℕ) → meets page s ≡ false → is_added ss s page ≡ false
is_added-outside ss s page e = and_left _ _ e

is_added-before : (ss : List Span) (s : Span) (page : ℕ) → page < first_page s → is_added ss s page ≡ false
is_added-before ss s page low = is_added-outside ss s page (false_from_ne_true (meets page s) (λ met. let m = IsMet-from_meets page s met in let from : first_page s ≤ page = m.from in omega arith))

is_added-after : (ss : List Span) (s : Span) (page : ℕ) → last_page s < page → is_added ss s page ≡ false
is_added-after ss s page high = is_added-outside ss s page (false_from_ne_true (meets page s) (λ met. let m = IsMet-from_meets page s met in let to : page ≤ last_page s = m.to in omega arith))

is_added-met : (ss : List Span) (s : Span) (page : ℕ) → IsMet page s → is_added ss s page ≡ not (is_mapped ss page)
is_added-met ss s page m = rw (meets-from_IsMet page s m) refl

pub pages_added-empty : (ss : List Span) (s : Span) → s.len ≡ 0 → pages_added ss s ≡ 0
unfolding pages_added
pages_added-empty ss s empty =
    count_below-is page_numbers (is_added ss s) ∙ count_from-none (is_added ss s) 0 page_numbers (λ page low high. is_added-outside ss s page (false_from_ne_true (meets page s) (λ met. let some : 0 < s.len = (IsMet-from_meets page s met).has_bytes in omega arith)))

pub pages_added-one : (ss : List Span) (s : Span) → 0 < s.len → s.start + s.len ≤ 2 ^ 32 → first_page s ≡ last_page s → pages_added ss s ≡ one_if (not (is_mapped ss (first_page s)))
unfolding pages_added
pages_added-one ss s some fits same =
    count_below-is page_numbers (is_added ss s)
    ∙ count_from-single (is_added ss s) (first_page s) page_numbers (omega arith) (λ page low. is_added-before ss s page low) (λ page high. is_added-after ss s page (omega arith))
    ∙ ap one_if (is_added-met ss s (first_page s) (record { has_bytes = some; from = omega arith; to = omega arith }))

pub pages_added-more : (ss : List Span) (s : Span) → 0 < s.len → s.start + s.len ≤ 2 ^ 32 → first_page s < last_page s → list_all (λ a. apart a s) ss ≡ true
    → pages_added ss s ≡ (last_page s - first_page s - 1) + (one_if (not (is_mapped ss (first_page s))) + one_if (not (is_mapped ss (last_page s))))
unfolding pages_added
pages_added-more ss s some fits rising free =
    let first_is = is_added-met ss s (first_page s) (record { has_bytes = some; from = omega arith; to = omega arith }) in
    let last_is = is_added-met ss s (last_page s) (record { has_bytes = some; from = omega arith; to = omega arith }) in
    count_below-is page_numbers (is_added ss s)
    ∙ count_from-ends (is_added ss s) (first_page s) (last_page s) page_numbers rising (omega arith)
    (λ page low. is_added-before ss s page low) (λ page high. is_added-after ss s page high)
    (λ page low high. is_added-met ss s page (record { has_bytes = some; from = omega arith; to = omega arith }) ∙ ap not (is_mapped-inside page ss s free low high))
    ∙ ap (λ ends. (last_page s - first_page s - 1) + ends) (ap (λ b. one_if b + one_if (is_added ss s (last_page s))) first_is ∙ ap (λ b. one_if (not (is_mapped ss (first_page s))) + one_if b) last_is)

or-split : (a b : Bool) → one_if (a || b) ≡ one_if a + one_if (b && not a)
or-split true true = refl
or-split true false = refl
or-split false true = refl
or-split false false = refl

-- one more range adds exactly the pages that it meets and no earlier one does
pub page_count-push : (ss : List Span) (s : Span) → page_count (ss ++ s ∷ []) ≡ page_count ss + pages_added ss s
unfolding page_count pages_added
page_count-push ss s =
    count_below-is page_numbers (is_mapped (ss ++ s ∷ []))
    ∙ count_from-sum (is_mapped (ss ++ s ∷ [])) (is_mapped ss) (is_added ss s) 0 page_numbers (λ page. ap one_if (is_mapped-push ss s page) ∙ or-split (is_mapped ss page) (meets page s))
    ∙ sym (ap (λ n. n + count_from (is_added ss s) 0 page_numbers) (count_below-is page_numbers (is_mapped ss)))
    ∙ sym (ap (λ n. count_below page_numbers (is_mapped ss) + n) (count_below-is page_numbers (is_added ss s)))

pub page_count-nil : page_count [] ≡ 0
unfolding page_count
page_count-nil = count_below-is page_numbers (is_mapped []) ∙ count_from-none (is_mapped []) 0 page_numbers (λ page low high. refl)

pub page_count-le : (ss : List Span) → page_count ss ≤ page_numbers
unfolding page_count
page_count-le ss = omega (arith, count_below-is page_numbers (is_mapped ss), count_from-le (is_mapped ss) 0 page_numbers)

-- a test that each element passes
pub list_all-at : {X : Type 0} (p : X → Bool) (xs : List X) (k : ℕ) (d : X) → list_all p xs ≡ true → k < length xs → p (get_or xs k d) ≡ true
list_all-at p xs k d all within = true_from_ne_false (p (get_or xs k d)) (λ fails. both_ways (list_all p xs) (list_all_at p xs k d within fails) all)

-- In a list of ranges that share no byte, each is apart from those before it.
pub all_apart-front : (ss : List Span) (k : ℕ) (d : Span) → all_apart ss ≡ true → k < length ss → list_all (λ a. apart a (get_or ss k d)) (take k ss) ≡ true
unfolding all_apart
all_apart-front [] k d e within = absurd (omega arith)
all_apart-front (s ∷ ss) zero d e within = refl
all_apart-front (s ∷ ss) (suc k) d e within =
    let both = and_parts (list_all (apart s) ss) (all_apart ss) e in
    and_from _ _ (list_all-at (apart s) ss k d both.0 (omega arith)) (all_apart-front ss k d both.1 (omega arith))

-- one more range of a list
pub page_count-more : (ss : List Span) (k : ℕ) (d : Span) → k < length ss → page_count (take (k + 1) ss) ≡ page_count (take k ss) + pages_added (take k ss) (get_or ss k d)
page_count-more ss k d within = ap page_count (take_more ss k d within) ∙ page_count-push (take k ss) (get_or ss k d)

-- the steps of the loops over the ranges
pub ruleset new_page_cases = (pages_added-empty, pages_added-one, pages_added-more)

pub ruleset page_count_steps = (all_apart-front, list_all-at, page_count-more, page_count-nil, page_count-le)
