-- The tags after a pass.
use Rattle.std.proofs.Common.{◌≡◌, ℕ, ◌+◌, ◌-◌, ◌<◌, ◌≤◌, Bool, true, false, cond, ◌&&◌, leb, ltb, List, [], length, get_or, refl, arith, ⊎_elim, take, drop, ◌++◌}
use Rattle.std.proofs.lemmas.Bool.{cases_lt, cases_Bool, ltb-true, and_parts, lt-ltb, le-ltb, le-leb, lt-leb}
use Rattle.bit_rows.specs.Slices.{placed}
use Rattle.cam_chain.specs.Slices.{passed}
use Rattle.cam_chain.specs.ChainValue.{ChainValue, slices_of}
use Rattle.cam_chain.proofs.SlicesLemmas.{same_slices}
use Rattle.std.proofs.Math.Seq.{take-append_seam}

-- a tag of the chain
tags_at : (n : ℕ) (tags : List (List Bool)) (s c : ℕ) → s < 32 → c < n → cond (placed n s c) (get_or (get_or tags s []) c false) false ≡ get_or (get_or tags s []) c false
tags_at n tags s c h l = rw (lt-ltb s 32 h, lt-ltb c n l) refl

-- a tag after the pass, inside the chain and outside
passed_place : (n : ℕ) (up : Bool) (t : ℕ) (tags : List (List Bool)) (s c : ℕ) (x : Bool)
    → (s < 32 → c < n → x ≡ cond up (leb t s && cond (placed n (s - t) c) (get_or (get_or tags (s - t) []) c false) false) (ltb (s + t) 32 && cond (placed n (s + t) c) (get_or (get_or tags (s + t) []) c false) false))
    → cond (placed n s c) x false
    ≡ cond (placed n s c) (cond up (leb t s && cond (placed n (s - t) c) (get_or (get_or tags (s - t) []) c false) false) (ltb (s + t) 32 && cond (placed n (s + t) c) (get_or (get_or tags (s + t) []) c false) false)) (cond (placed n s c) (get_or (get_or tags s []) c false) false)
passed_place n up t tags s c x h =
    ⊎_elim (λ (p : placed n s c ≡ true). let q = and_parts (ltb s 32) (ltb c n) p in rw p (h (ltb-true s 32 q.0) (ltb-true c n q.1)))
    (λ (p : placed n s c ≡ false). rw p refl) (cases_Bool (placed n s c))

-- rows moved up are the tags passed up
pub passed_up : (v w : ChainValue) (t : ℕ) → w.columns ≡ v.columns → w.rows ≡ v.rows → length v.tags ≡ 32
    → ((s c : ℕ) → s < t → get_or (get_or w.tags s []) c false ≡ false) → ((s : ℕ) → t ≤ s → s < length v.tags → get_or w.tags s [] ≡ get_or v.tags (s - t) [])
    → slices_of w ≡ passed true t (slices_of v)
unfolding slices_of
passed_up v w t p q n f g =
    same_slices (slices_of w) (passed true t (slices_of v)) p
    (λ s r c. rw (p, q) refl)
    (λ s c. rw p (passed_place v.columns true t v.tags s c (get_or (get_or w.tags s []) c false) (λ l m.
    ⊎_elim (λ (a : s < t). rw (lt-leb t s a) (f s c a))
    (λ (a : t ≤ s). rw (le-leb t s a, tags_at v.columns v.tags (s - t) c (omega arith) m, g s a (omega arith)) refl) (cases_lt s t)))) refl

-- rows moved down are the tags passed down
pub passed_down : (v w : ChainValue) (t : ℕ) → w.columns ≡ v.columns → w.rows ≡ v.rows → length v.tags ≡ 32
    → ((s c : ℕ) → length v.tags ≤ s + t → s < length v.tags → get_or (get_or w.tags s []) c false ≡ false) → ((s : ℕ) → s + t < length v.tags → get_or w.tags s [] ≡ get_or v.tags (s + t) [])
    → slices_of w ≡ passed false t (slices_of v)
unfolding slices_of
passed_down v w t p q n f g =
    same_slices (slices_of w) (passed false t (slices_of v)) p
    (λ s r c. rw (p, q) refl)
    (λ s c. rw p (passed_place v.columns false t v.tags s c (get_or (get_or w.tags s []) c false) (λ l m.
    ⊎_elim (λ (a : s + t < 32). rw (tags_at v.columns v.tags (s + t) c a m, lt-ltb (s + t) 32 a, g s (omega arith)) refl)
    (λ (a : 32 ≤ s + t). rw (le-ltb (s + t) 32 a) (f s c (omega arith) (omega arith))) (cases_lt (s + t) 32)))) refl

-- a list written whole
pub same_items : (n : ℕ) (new old : List (List Bool)) → n ≡ length new → length new ≡ length old → take n (new ++ drop (length new) old) ≡ new
same_items n new old p q = rw (p, take-append_seam new (drop (length new) old)) refl
