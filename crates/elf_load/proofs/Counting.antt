-- How many numbers below another pass a test.
use Rattle.std.proofs.Common.{◌≡◌, ℕ, zero, suc, ◌+◌, ◌-◌, ◌<◌, ◌≤◌, Bool, true, false, cond, refl, ap, arith, count_by}
use Rattle.std.specs.List.{range_with_len}
use Rattle.std.proofs.lemmas.List.Sums.{sum_by-cons, count_by-le-length}
use Rattle.std.proofs.lemmas.List.FromFn.{length-range_with_len}
use Rattle.elf_load.specs.Layout.{count_below}

-- a test as a number
abbrev pub one_if : Bool → ℕ
one_if b = cond b 1 0

-- how many of n numbers from a on pass
pub count_from : (ℕ → Bool) → ℕ → ℕ → ℕ
count_from test a n = count_by test (range_with_len a n)

pub count_from-zero : (test : ℕ → Bool) (a : ℕ) → count_from test a 0 ≡ 0
unfolding count_from
count_from-zero test a = refl

pub count_from-suc : (test : ℕ → Bool) (a n : ℕ) → count_from test a (suc n) ≡ one_if (test a) + count_from test (a + 1) n
unfolding count_from
count_from-suc test a n = sum_by-cons (λ x. cond (test x) 1 0) a (range_with_len (a + 1) n)

pub count_below-is : (n : ℕ) (test : ℕ → Bool) → count_below n test ≡ count_from test 0 n
unfolding count_below count_from
count_below-is n test = refl

pub count_from-le : (test : ℕ → Bool) (a n : ℕ) → count_from test a n ≤ n
unfolding count_from
count_from-le test a n = omega (arith, count_by-le-length test (range_with_len a n), length-range_with_len a n)

pub count_from-none : (test : ℕ → Bool) (a n : ℕ) → ((x : ℕ) → a ≤ x → x < a + n → test x ≡ false) → count_from test a n ≡ 0
count_from-none test a zero none = count_from-zero test a
count_from-none test a (suc n) none =
    let here : one_if (test a) ≡ 0 = ap one_if (none a (omega arith) (omega arith)) in
    let rest : count_from test (a + 1) n ≡ 0 = count_from-none test (a + 1) n (λ x low high. none x (omega arith) (omega arith)) in
    omega (arith, count_from-suc test a n)

pub count_from-all : (test : ℕ → Bool) (a n : ℕ) → ((x : ℕ) → a ≤ x → x < a + n → test x ≡ true) → count_from test a n ≡ n
count_from-all test a zero all = count_from-zero test a
count_from-all test a (suc n) all =
    let here : one_if (test a) ≡ 1 = ap one_if (all a (omega arith) (omega arith)) in
    let rest : count_from test (a + 1) n ≡ n = count_from-all test (a + 1) n (λ x low high. all x (omega arith) (omega arith)) in
    omega (arith, count_from-suc test a n)

-- where a test splits in two that never pass together, so does the count
pub count_from-sum : (test first second : ℕ → Bool) (a n : ℕ) → ((x : ℕ) → one_if (test x) ≡ one_if (first x) + one_if (second x)) → count_from test a n ≡ count_from first a n + count_from second a n
count_from-sum test first second a zero sums = omega (arith, count_from-zero test a, count_from-zero first a, count_from-zero second a)
count_from-sum test first second a (suc n) sums =
    omega (arith, sums a, count_from-suc test a n, count_from-suc first a n, count_from-suc second a n, count_from-sum test first second (a + 1) n sums)

-- the count from a on, split at b
pub count_from-split : (test : ℕ → Bool) (a m n b k : ℕ) → b ≡ a + m → k ≡ m + n → count_from test a k ≡ count_from test a m + count_from test b n
count_from-split test a zero n b k at whole =
    let at_a : b ≡ a = omega arith in
    let all : k ≡ n = omega arith in
    rw (at_a, all) (omega (arith, count_from-zero test a))
count_from-split test a (suc m) n b k at whole =
    let later : count_from test (a + 1) (m + n) ≡ count_from test (a + 1) m + count_from test b n = count_from-split test (a + 1) m n b (m + n) (omega arith) refl in
    let one_more : k ≡ suc (m + n) = omega arith in
    rw one_more (omega (arith, count_from-suc test a (m + n), count_from-suc test a m))

-- one number
pub count_from-one : (test : ℕ → Bool) (a : ℕ) → count_from test a 1 ≡ one_if (test a)
count_from-one test a = omega (arith, count_from-suc test a 0, count_from-zero test (a + 1))

-- A test that no number before `first` or after `last` passes, and each number strictly between them: how many pass
-- below n is what lies between, and one for each of the two that passes.
pub count_from-ends : (test : ℕ → Bool) (first last n : ℕ) → first < last → last < n
    → ((x : ℕ) → x < first → test x ≡ false) → ((x : ℕ) → last < x → test x ≡ false) → ((x : ℕ) → first < x → x < last → test x ≡ true)
    → count_from test 0 n ≡ (last - first - 1) + (one_if (test first) + one_if (test last))
count_from-ends test first last n rising below before after between =
    let middle = last - first - 1 in
    let front : count_from test 0 first ≡ 0 = count_from-none test 0 first (λ x low high. before x (omega arith)) in
    let inner : count_from test (first + 1) middle ≡ middle = count_from-all test (first + 1) middle (λ x low high. between x (omega arith) (omega arith)) in
    let back : count_from test (last + 1) (n - last - 1) ≡ 0 = count_from-none test (last + 1) (n - last - 1) (λ x low high. after x (omega arith)) in
    omega (
      arith,
      count_from-split test 0 first (n - first) first n (omega arith) (omega arith),
      count_from-split test first 1 (n - first - 1) (first + 1) (n - first) (omega arith) (omega arith),
      count_from-split test (first + 1) middle (n - last) last (n - first - 1) (omega arith) (omega arith),
      count_from-split test last 1 (n - last - 1) (last + 1) (n - last) (omega arith) (omega arith),
      count_from-one test first,
      count_from-one test last,
    )

-- the same where `first` is `last`
pub count_from-single : (test : ℕ → Bool) (page n : ℕ) → page < n
    → ((x : ℕ) → x < page → test x ≡ false) → ((x : ℕ) → page < x → test x ≡ false)
    → count_from test 0 n ≡ one_if (test page)
count_from-single test page n below before after =
    let front : count_from test 0 page ≡ 0 = count_from-none test 0 page (λ x low high. before x (omega arith)) in
    let back : count_from test (page + 1) (n - page - 1) ≡ 0 = count_from-none test (page + 1) (n - page - 1) (λ x low high. after x (omega arith)) in
    omega (
      arith,
      count_from-split test 0 page (n - page) page n (omega arith) (omega arith),
      count_from-split test page 1 (n - page - 1) (page + 1) (n - page) (omega arith) (omega arith),
      count_from-one test page,
    )
