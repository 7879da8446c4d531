-- Which pages ranges meet, and the permissions that a page gets of them.
use Rattle.std.proofs.Common.{◌≡◌, ℕ, length, drop, get_or, bit_or, add-one, ◌+◌, ◌<◌, ◌≤◌, Bool, true, false, cond, ◌||◌, List, [], ◌∷◌, ◌++◌, refl, sym, ap, ◌∙◌, arith}
use Rattle.std.specs.Int.Bits.{or_zero_l, or_zero_r}
use Rattle.std.proofs.lemmas.Bool.{and_parts, and_from, or_parts, ltb-true, leb-true, lt-ltb, le-leb}
use Rattle.std.proofs.lemmas.List.{drop_all}
use Rattle.std.proofs.lemmas.List.Folds.{list_any-append}
use Rattle.std.proofs.lemmas.Nat.Bits.{same_from_bits, bit_at_or}
use Rattle.std.proofs.Math.Bool.{or-false}
use Rattle.std.proofs.Math.Seq.{drop-cons}
use Rattle.guest_mem.specs.declared.spans.Span.{Span}
use Rattle.guest_mem.specs.Spans.{first_page, last_page, meets, is_mapped, page_perms}

-- what it is to meet a page
pub record IsMet (page : ℕ) (s : Span) : Type 0 where
  pub has_bytes : 0 < s.len
  pub from : first_page s ≤ page
  pub to : page ≤ last_page s

pub IsMet-from_meets : (page : ℕ) (s : Span) → meets page s ≡ true → IsMet page s
IsMet-from_meets page s e =
    let outer = and_parts _ _ e in
    let inner = and_parts _ _ outer.0 in
    record { has_bytes = ltb-true _ _ inner.0; from = leb-true _ _ inner.1; to = leb-true _ _ outer.1 }

pub meets-from_IsMet : (page : ℕ) (s : Span) → IsMet page s → meets page s ≡ true
meets-from_IsMet page s h = and_from _ _ (and_from _ _ (lt-ltb _ _ h.has_bytes) (le-leb _ _ h.from)) (le-leb _ _ h.to)

-- one range more
pub is_mapped-push : (ss : List Span) (s : Span) (page : ℕ) → is_mapped (ss ++ s ∷ []) page ≡ (is_mapped ss page || meets page s)
is_mapped-push ss s page =
    list_any-append (meets page) ss (s ∷ []) ∙ ap (λ b. is_mapped ss page || b) (or-false (meets page s))

-- the order in which permissions are joined is free
pub bit_or-assoc : (a b c : ℕ) → bit_or (bit_or a b) c ≡ bit_or a (bit_or b c)
bit_or-assoc a b c =
    same_from_bits _ _ (λ i. omega (arith, bit_at_or (bit_or a b) c i, bit_at_or a b i, bit_at_or a (bit_or b c) i, bit_at_or b c i))

either-joined : (first last : Bool) (p q rest : ℕ) → cond first (bit_or p (cond last (bit_or rest q) rest)) (cond last (bit_or rest q) rest) ≡ cond last (bit_or (cond first (bit_or p rest) rest) q) (cond first (bit_or p rest) rest)
either-joined true true p q rest = sym (bit_or-assoc p rest q)
either-joined true false p q rest = refl
either-joined false true p q rest = refl
either-joined false false p q rest = refl

one-joined : (met : Bool) (p : ℕ) → cond met (bit_or p 0) 0 ≡ cond met (bit_or 0 p) 0
one-joined true p = or_zero_r p ∙ sym (or_zero_l p)
one-joined false p = refl

pub page_perms-push : (ss : List Span) (s : Span) (page : ℕ) → page_perms (ss ++ s ∷ []) page ≡ cond (meets page s) (bit_or (page_perms ss page) s.perms.0) (page_perms ss page)
unfolding page_perms
page_perms-push [] s page = one-joined (meets page s) s.perms.0
page_perms-push (t ∷ ss) s page = rw (page_perms-push ss s page) (either-joined (meets page t) (meets page s) t.perms.0 s.perms.0 (page_perms ss page))

-- a page that is not mapped has none
pub page_perms-unmapped : (ss : List Span) (page : ℕ) → is_mapped ss page ≡ false → page_perms ss page ≡ 0
unfolding page_perms
page_perms-unmapped [] page e = refl
page_perms-unmapped (t ∷ ss) page e =
    let both = or_parts (meets page t) (is_mapped ss page) e in
    rw both.0 (page_perms-unmapped ss page both.1)

-- the permissions of a page, range by range
pub page_perms-done : (ss : List Span) (k page : ℕ) → length ss ≤ k → page_perms (drop k ss) page ≡ 0
unfolding page_perms
page_perms-done ss k page done = rw (drop_all k ss done) refl

pub page_perms-met : (ss : List Span) (k : ℕ) (d : Span) (page : ℕ) → k < length ss → meets page (get_or ss k d) ≡ true
    → page_perms (drop k ss) page ≡ bit_or (get_or ss k d).perms.0 (page_perms (drop (k + 1) ss) page)
unfolding page_perms
page_perms-met ss k d page within met = rw (drop-cons ss k d, add-one k) (rw met refl)

pub page_perms-missed : (ss : List Span) (k : ℕ) (d : Span) (page : ℕ) → k < length ss → meets page (get_or ss k d) ≡ false
    → page_perms (drop k ss) page ≡ page_perms (drop (k + 1) ss) page
unfolding page_perms
page_perms-missed ss k d page within missed = rw (drop-cons ss k d, add-one k) (rw missed refl)

-- the steps of a loop over ranges that joins their permissions
pub ruleset page_perms_steps = (page_perms-done, page_perms-met, page_perms-missed, bit_or-assoc, or_zero_l, or_zero_r)
