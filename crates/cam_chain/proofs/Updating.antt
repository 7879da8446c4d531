-- What an update has done after some subarrays.
use Rattle.std.proofs.Common.{◌≡◌, ℕ, ◌+◌, ◌*◌, ◌<◌, ◌≤◌, Bool, true, false, cond, ◌&&◌, eqb, ltb, List, [], length, get_or, refl, ◌∙◌, arith, ⊎_elim, sym, set, length-set, get_or-set_same, get_or-set_other}
use Rattle.std.proofs.lemmas.List.{get_or_default}
use Rattle.std.proofs.lemmas.Bool.{cases_lt, cases_eq, cases_Bool, ltb-true, and_parts, lt-ltb, le-ltb, eq-eqb, ne_eqb}
use Rattle.bit_rows.specs.Slices.{placed}
use Rattle.cam_chain.specs.Slices.{updated, selected}
use Rattle.cam_chain.specs.ChainValue.{ChainValue, slices_of, EachLong}
use Rattle.cam_chain.proofs.SlicesLemmas.{same_slices}
use Rattle.cam_chain.proofs.Searching.{Taken, none_left, taken_other, taken_apart}
use Rattle.cam_chain.proofs.Rows.{set-long}

-- the row of the subarrays that are not left is updated, and all else is as it was
pub record Updating (n : ℕ) (tags : List (List Bool)) (subs row : ℕ) (bit : Bool) (old : List (List Bool)) (left : ℕ) (now : List (List Bool)) : Type 0 where
  pub len : length now ≡ length old
  pub long : EachLong n now
  pub done : (s c : ℕ) → s < 32 → selected left s ≡ false → c < n → get_or (get_or now (s * 64 + row) []) c false
      ≡ cond (selected subs s && get_or (get_or tags s []) c false) bit (get_or (get_or old (s * 64 + row) []) c false)
  pub todo : (s : ℕ) → s < 32 → selected left s ≡ true → get_or now (s * 64 + row) [] ≡ get_or old (s * 64 + row) []
  pub within : (s : ℕ) → s < 32 → selected left s ≡ true → selected subs s ≡ true
  pub rest : (s r : ℕ) → r < 64 → (r ≡ row → ⊥) → get_or now (s * 64 + r) [] ≡ get_or old (s * 64 + r) []

-- at first all of the set are left
pub update_start : (n : ℕ) (tags : List (List Bool)) (subs row : ℕ) (bit : Bool) (old : List (List Bool)) → EachLong n old → Updating n tags subs row bit old subs old
update_start n tags subs row bit old long = record { len = refl; long = long; done = λ s c l e m. rw e refl; todo = λ s l e. refl; within = λ s l e. e; rest = λ s r l e. refl }

-- the subarray is updated
pub update_one : (n : ℕ) (tags : List (List Bool)) (subs row : ℕ) (bit : Bool) (old : List (List Bool)) (left i after : ℕ) (now : List (List Bool)) (before new mask : List Bool)
    → Updating n tags subs row bit old left now → Taken left i after → selected left i ≡ true → i < 32 → row < 64 → i * 64 + row < length now → before ≡ get_or now (i * 64 + row) before
    → mask ≡ get_or tags i mask → i < length tags → length new ≡ length before
    → ((c : ℕ) → c < length before → get_or new c false ≡ cond (get_or mask c false) bit (get_or before c false))
    → Updating n tags subs row bit old after (set now (i * 64 + row) new)
update_one n tags subs row bit old left i after now before new mask p k h d r l b m t e each =
    let at = i * 64 + row in
    let q : before ≡ get_or now (i * 64 + row) [] = b ∙ get_or_default now (i * 64 + row) before [] l in
    let u : mask ≡ get_or tags i [] = m ∙ get_or_default tags i mask [] t in
    let w : length before ≡ n = rw q (p.long (i * 64 + row) l) in
    record {
      len = length-set now (i * 64 + row) new ∙ p.len;
      long = set-long n now (i * 64 + row) new before p.long l (rw (← b) e);
      done = λ s c a f z. ⊎_elim
          (λ (x : s ≡ i). rw (x, get_or-set_same now (i * 64 + row) new [] l, p.within i d h) (each c (omega arith) ∙ rw (u, q, p.todo i d h) refl))
          (λ (x : s ≡ i → ⊥). let y : s * 64 + row ≡ i * 64 + row → ⊥ = omega arith in rw (get_or-set_other now (i * 64 + row) (s * 64 + row) new [] y) (p.done s c a (sym (taken_other left i after s k a x) ∙ f) z)) (cases_eq s i);
      todo = λ s a f. let x = taken_apart left i after s k a f in let y : s * 64 + row ≡ i * 64 + row → ⊥ = omega arith in rw (get_or-set_other now (i * 64 + row) (s * 64 + row) new [] y) (p.todo s a (sym (taken_other left i after s k a x) ∙ f));
      within = λ s a f. let x = taken_apart left i after s k a f in p.within s a (sym (taken_other left i after s k a x) ∙ f);
      rest = λ s u v z. let y : s * 64 + u ≡ i * 64 + row → ⊥ = omega arith in rw (get_or-set_other now (i * 64 + row) (s * 64 + u) new [] y) (p.rest s u v z);
    }

-- a bit after the update, inside the chain and outside
updated_place : (n : ℕ) (tags : List (List Bool)) (subs row : ℕ) (bit : Bool) (s r c : ℕ) (x y : Bool)
    → (s < 32 → c < n → r < 64 → x ≡ cond (eqb r row) (cond (selected subs s && get_or (get_or tags s []) c false) bit y) y) → row < 64
    → cond (placed n s c) (cond (ltb r 64) x false) false
    ≡ cond (placed n s c && selected subs s && eqb r row && cond (placed n s c) (get_or (get_or tags s []) c false) false) bit (cond (placed n s c) (cond (ltb r 64) y false) false)
updated_place n tags subs row bit s r c x y h z =
    ⊎_elim
    (λ (p : placed n s c ≡ true). let q = and_parts (ltb s 32) (ltb c n) p in
    ⊎_elim (λ (l : r < 64). rw (p, lt-ltb r 64 l, h (ltb-true s 32 q.0) (ltb-true c n q.1) l) (turn (eqb r row) (selected subs s) (get_or (get_or tags s []) c false) bit y))
    (λ (l : 64 ≤ r). let ne : r ≡ row → ⊥ = omega arith in rw (p, ne_eqb r row ne, le-ltb r 64 l) (off (selected subs s) (get_or (get_or tags s []) c false) bit false)) (cases_lt r 64))
    (λ (p : placed n s c ≡ false). rw p refl) (cases_Bool (placed n s c))
  where
    turn : (e f g b o : Bool) → cond e (cond (f && g) b o) o ≡ cond (f && e && g) b o
    turn true true g b o = refl
    turn true false g b o = refl
    turn false true g b o = refl
    turn false false g b o = refl

    off : (f g b o : Bool) → o ≡ cond (f && false && g) b o
    off true g b o = refl
    off false g b o = refl

-- after all subarrays the update is done
pub updated_all : (v w : ChainValue) (subs left row : ℕ) (bit : Bool) → row < 64 → w.columns ≡ v.columns → w.tags ≡ v.tags → left ≡ 0
    → Updating v.columns v.tags subs row bit v.rows left w.rows → slices_of w ≡ updated subs row bit (slices_of v)
unfolding slices_of
updated_all v w subs left row bit z p q n h =
    same_slices (slices_of w) (updated subs row bit (slices_of v)) p
    (λ s r c. rw p (updated_place v.columns v.tags subs row bit s r c (get_or (get_or w.rows (s * 64 + r) []) c false) (get_or (get_or v.rows (s * 64 + r) []) c false)
    (λ l m a. ⊎_elim (λ (e : r ≡ row). rw (e, eq-eqb row row refl) (h.done s c l (none_left left s n) m))
    (λ (e : r ≡ row → ⊥). rw (ne_eqb r row e, h.rest s r a e) refl) (cases_eq r row)) z))
    (λ s c. rw (p, q) refl) refl
