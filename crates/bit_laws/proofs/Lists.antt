-- Lists made place by place, and lists that are equal at each place.
use Rattle.std.proofs.Common.{◌≡◌, ℕ, zero, suc, ◌<◌, ◌≤◌, List, [], ◌∷◌, ◌++◌, length, get_or, refl, sym, ◌∙◌, ap, arith, ⊎_elim, length-append}
use Rattle.std.proofs.Math.ListN.{replicate, length-replicate}
use Rattle.std.proofs.lemmas.List.{get_or-replicate}
use Rattle.std.proofs.lemmas.Bool.{cases_lt}
use Rattle.bit_laws.specs.Lists.{tabulate}

pub length-tabulate : {A : Type 0} (n : ℕ) (f : ℕ → A) → length (tabulate n f) ≡ n
unfolding tabulate
length-tabulate zero f = refl
length-tabulate (suc n) f = length-append (tabulate n f) (f n ∷ []) ∙ omega (arith, length-tabulate n f)

at_front : {A : Type 0} (xs : List A) (y : A) (i : ℕ) (d : A) → i < length xs → get_or (xs ++ y ∷ []) i d ≡ get_or xs i d
at_front [] y i d inside = absurd (omega arith)
at_front (x ∷ xs) y zero d inside = refl
at_front (x ∷ xs) y (suc i) d inside = at_front xs y i d (omega arith)

at_end : {A : Type 0} (xs : List A) (y d : A) → get_or (xs ++ y ∷ []) (length xs) d ≡ y
at_end [] y d = refl
at_end (x ∷ xs) y d = at_end xs y d

-- the element at a place
pub get-tabulate : {A : Type 0} (n : ℕ) (f : ℕ → A) (i : ℕ) (d : A) → i < n → get_or (tabulate n f) i d ≡ f i
unfolding tabulate
get-tabulate zero f i d inside = absurd (omega arith)
get-tabulate (suc n) f i d inside =
    ⊎_elim
    (λ (below : i < n). at_front (tabulate n f) (f n) i d (omega (arith, length-tabulate n f)) ∙ get-tabulate n f i d below)
    (λ (past : n ≤ i).
    let here : i ≡ length (tabulate n f) = omega (arith, length-tabulate n f) in
    let last : i ≡ n = omega arith in
    rw here (at_end (tabulate n f) (f n) d) ∙ ap f (sym last))
    (cases_lt i n)

-- two lists of one length that are equal at each place are equal
pub same-lists : {A : Type 0} (xs ys : List A) → length xs ≡ length ys → ((i : ℕ) (d : A) → i < length xs → get_or xs i d ≡ get_or ys i d) → xs ≡ ys
same-lists [] [] long same = refl
same-lists [] (y ∷ ys) long same = absurd (omega arith)
same-lists (x ∷ xs) [] long same = absurd (omega arith)
same-lists (x ∷ xs) (y ∷ ys) long same =
    let head : x ≡ y = same 0 x (omega arith) in
    let tail : xs ≡ ys = same-lists xs ys (omega arith) (λ i d inside. same (suc i) d (omega arith)) in
    rw (head, tail) refl

-- equal elements make equal lists
pub tabulate-same : {A : Type 0} (n : ℕ) (f g : ℕ → A) → ((i : ℕ) → i < n → f i ≡ g i) → tabulate n f ≡ tabulate n g
unfolding tabulate
tabulate-same zero f g same = refl
tabulate-same (suc n) f g same = rw (same n (omega arith), tabulate-same n f g (λ i below. same i (omega arith))) refl

-- equal elements everywhere make a list of copies
pub tabulate-constant : {A : Type 0} (n : ℕ) (f : ℕ → A) (x : A) → ((i : ℕ) → i < n → f i ≡ x) → tabulate n f ≡ replicate n x
tabulate-constant n f x same =
    let long : length (tabulate n f) ≡ length (replicate n x) = length-tabulate n f ∙ sym (length-replicate n x) in
    same-lists (tabulate n f) (replicate n x) long
    (λ i d inside.
    let below : i < n = omega (arith, length-tabulate n f) in
    get-tabulate n f i d below ∙ same i below ∙ sym (get_or-replicate n i x d below))
