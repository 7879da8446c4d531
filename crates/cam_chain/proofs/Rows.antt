-- A row of a list of rows, written.
use Rattle.std.proofs.Common.{◌≡◌, ℕ, ◌+◌, ◌-◌, ◌<◌, ◌≤◌, Bool, false, List, [], ◌++◌, length, get_or, refl, sym, ◌∙◌, arith, ⊎_elim, set, ap, length-set, get_or-set_same, get_or-set_other}
use Rattle.std.proofs.lemmas.List.{get_or_default, set-append_left, set-append_right, get_or_append_left, get_or-append_right}
use Rattle.std.proofs.lemmas.Bool.{cases_eq}
use Rattle.cam_chain.specs.ChainValue.{EachLong}

-- a row that is lent has the rows' length
pub lent_long : (n : ℕ) (rows : List (List Bool)) (k : ℕ) (row : List Bool) → EachLong n rows → k < length rows → row ≡ get_or rows k row → length row ≡ n
lent_long n rows k row long h e = ap length (e ∙ get_or_default rows k row [] h) ∙ long k h

-- a row written in the place of another of its length
pub set-long : (n : ℕ) (rows : List (List Bool)) (i : ℕ) (row old : List Bool) → EachLong n rows → i < length rows → length row ≡ length (get_or rows i old) → EachLong n (set rows i row)
set-long n rows i row old p h e k m =
    let q : get_or rows i old ≡ get_or rows i [] = get_or_default rows i old [] h in
    ⊎_elim (λ (x : k ≡ i). rw (x, get_or-set_same rows i row [] h) (e ∙ rw q (p i h)))
    (λ (x : k ≡ i → ⊥). rw (get_or-set_other rows i k row [] x) (p k (omega (arith, length-set rows i row)))) (cases_eq k i)

-- the rows from low on and below i are clear, and the others are as they were
pub record Clearing (low i : ℕ) (old now : List (List Bool)) : Type 0 where
  pub len : length now ≡ length old
  pub cleared : (s c : ℕ) → low ≤ s → s < i → get_or (get_or now s []) c false ≡ false
  pub below : (s : ℕ) → s < low → get_or now s [] ≡ get_or old s []
  pub above : (s : ℕ) → i ≤ s → get_or now s [] ≡ get_or old s []
  pub long : (n : ℕ) → EachLong n old → EachLong n now

-- one row more is cleared
pub clear_next : (low i : ℕ) (old now : List (List Bool)) (row before : List Bool) → Clearing low i old now → low ≤ i → i < length now → length row ≡ length (get_or now i before)
    → ((c : ℕ) → get_or row c false ≡ false) → Clearing low (i + 1) old (set now i row)
clear_next low i old now row before p h l e z = record {
  len = length-set now i row ∙ p.len;
  cleared = λ s c a b. ⊎_elim (λ (x : s ≡ i). rw (x, get_or-set_same now i row [] l) (z c))
      (λ (x : s ≡ i → ⊥). rw (get_or-set_other now i s row [] x) (p.cleared s c a (omega arith))) (cases_eq s i);
  below = λ s a. let x : s ≡ i → ⊥ = omega arith in rw (get_or-set_other now i s row [] x) (p.below s a);
  above = λ s a. let x : s ≡ i → ⊥ = omega arith in rw (get_or-set_other now i s row [] x) (p.above s (omega arith));
  long = λ n a. set-long n now i row before (p.long n a) l e;
}

-- a row that is written between the parts of a list
pub set-below : (rows below above : List (List Bool)) (i : ℕ) (row : List Bool) → rows ≡ below ++ above → i < length below → set below i row ++ above ≡ set rows i row
set-below rows below above i row e h = rw e (sym (set-append_left below above i row h))

pub set-above : (rows below above : List (List Bool)) (i : ℕ) (row : List Bool) → rows ≡ below ++ above → length below ≡ i → below ++ set above 0 row ≡ set rows i row
set-above rows below above i row e h = let z : i - i ≡ 0 = omega arith in rw e (sym (set-append_right below above i i row h (omega arith) ∙ rw z refl))

-- a row of a part of a list
pub lent_below : (rows below above : List (List Bool)) (i : ℕ) (row : List Bool) → rows ≡ below ++ above → i < length below → get_or below i row ≡ get_or rows i []
lent_below rows below above i row e h = get_or_default below i row [] h ∙ rw e (sym (get_or_append_left below above [] i h))

pub lent_above : (rows below above : List (List Bool)) (i : ℕ) (row : List Bool) → rows ≡ below ++ above → length below ≡ i → 0 < length above → get_or above 0 row ≡ get_or rows i []
lent_above rows below above i row e l h =
    let z : i - i ≡ 0 = omega arith in
    get_or_default above 0 row [] h ∙ rw e (sym (get_or-append_right below above i i [] l (omega arith) ∙ rw z refl))

-- rows of one length have that of the first
pub even_long : (n : ℕ) (rows : List (List Bool)) → EachLong n rows → EachLong (length (get_or rows 0 [])) rows
even_long n rows long k h = long k h ∙ sym (long 0 (omega arith))

-- the last k rows are those that stood t below them, and the others are as they were
pub record MovedUp (t k : ℕ) (old now : List (List Bool)) : Type 0 where
  pub len : length now ≡ length old
  pub moved : (s : ℕ) → length old ≤ s + k → s < length old → get_or now s [] ≡ get_or old (s - t) []
  pub kept : (s : ℕ) → s + k < length old → get_or now s [] ≡ get_or old s []
  pub long : (n : ℕ) → EachLong n old → EachLong n now

pub up_start : (t : ℕ) (old : List (List Bool)) → MovedUp t 0 old old
up_start t old = record { len = refl; moved = λ s a b. absurd (omega arith); kept = λ s a. refl; long = λ n a. a }

pub up_next : (t k from to : ℕ) (old now : List (List Bool)) → MovedUp t k old now → 0 < t → to + k + 1 ≡ length old → from + t ≡ to → MovedUp t (k + 1) old (set now to (get_or now from []))
up_next t k from to old now p z e f =
    let row = get_or now from [] in
    let inside : to < length now = omega (arith, p.len) in
    record {
      len = length-set now to row ∙ p.len;
      moved = λ s a b. ⊎_elim
          (λ (x : s ≡ to). let y : s - t ≡ from = omega arith in rw (x, get_or-set_same now to row [] inside) (p.kept from (omega arith) ∙ rw (← x, y) refl))
          (λ (x : s ≡ to → ⊥). rw (get_or-set_other now to s row [] x) (p.moved s (omega arith) b)) (cases_eq s to);
      kept = λ s a. let x : s ≡ to → ⊥ = omega arith in rw (get_or-set_other now to s row [] x) (p.kept s (omega arith));
      long = λ n a. set-long n now to row [] (p.long n a) inside (p.long n a from (omega arith) ∙ sym (p.long n a to inside));
    }

-- the first k rows are those that stood t above them, and the others are as they were
pub record MovedDown (t k : ℕ) (old now : List (List Bool)) : Type 0 where
  pub len : length now ≡ length old
  pub moved : (s : ℕ) → s < k → get_or now s [] ≡ get_or old (s + t) []
  pub kept : (s : ℕ) → k ≤ s → get_or now s [] ≡ get_or old s []
  pub long : (n : ℕ) → EachLong n old → EachLong n now

pub down_start : (t : ℕ) (old : List (List Bool)) → MovedDown t 0 old old
down_start t old = record { len = refl; moved = λ s a. absurd (omega arith); kept = λ s a. refl; long = λ n a. a }

pub down_next : (t k : ℕ) (old now : List (List Bool)) → MovedDown t k old now → k + t < length old → MovedDown t (k + 1) old (set now k (get_or now (k + t) []))
down_next t k old now p h =
    let row = get_or now (k + t) [] in
    let inside : k < length now = omega (arith, p.len) in
    record {
      len = length-set now k row ∙ p.len;
      moved = λ s a. ⊎_elim
          (λ (x : s ≡ k). rw (x, get_or-set_same now k row [] inside) (p.kept (k + t) (omega arith)))
          (λ (x : s ≡ k → ⊥). rw (get_or-set_other now k s row [] x) (p.moved s (omega arith))) (cases_eq s k);
      kept = λ s a. let x : s ≡ k → ⊥ = omega arith in rw (get_or-set_other now k s row [] x) (p.kept s (omega arith));
      long = λ n a. set-long n now k row [] (p.long n a) inside (p.long n a (k + t) (omega (arith, p.len)) ∙ sym (p.long n a k inside));
    }
