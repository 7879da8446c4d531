-- How an element ends, from the window, the fill and the element's place.
use Rattle.std.proofs.Common.{◌≡◌, ℕ, ◌<◌, ◌≤◌, Bool, true, false, cond, ◌&&◌, ◌||◌, not, ltb, leb, refl, sym, ◌∙◌, ap, arith, ⊎_elim}
use Rattle.std.proofs.lemmas.Bool.{cases_Bool, cases_lt, lt-ltb, le-ltb, leb-true, le-leb}
use Rattle.std.proofs.lemmas.Nat.Bits.{bit_at_ones}
use Rattle.bit_laws.specs.Numbers.{low, bit_of}
use Rattle.element_ops.specs.Places.{Place, prestart, active, masked_off, tail, agnostic_value}
use Rattle.steer_net.specs.Network.{is_within, is_free}
use Rattle.frame_laws.specs.Shapes.{Shape, Bounds, Bounded, is_prestart, UsualBoundsLaw}
use Rattle.frame_laws.specs.Meaning.{outcome, place_in}

pub leb_not : (a b : ℕ) → leb a b ≡ not (ltb b a)
leb_not a b = ⊎_elim (λ (l : b < a). rw (lt-ltb b a l) (sym (gone a b l))) (λ (l : a ≤ b). rw (le-leb a b l, le-ltb b a l) refl) (cases_lt b a)
  where
    gone : (a b : ℕ) → b < a → false ≡ leb a b
    gone a b l = ⊎_elim (λ (t : leb a b ≡ true). absurd (omega (arith, leb-true a b t))) (λ (f : leb a b ≡ false). sym f) (cases_Bool (leb a b))

-- a bit of an element as it ends, from the value's bit and the old one
abbrev pub ends : (ones vma tail_too x old : Bool) → Place → Bool
ends ones vma tail_too x old prestart = old
ends ones vma tail_too x old active = x
ends ones vma tail_too x old masked_off = cond (ones && vma) true old
ends ones vma tail_too x old tail = cond (ones && tail_too) true old

bit_of-agnostic_value : (b : Bool) (w old j : ℕ) → j < w → bit_of (agnostic_value b w old) j ≡ cond b true (bit_of old j)
bit_of-agnostic_value true w old j below = rw (bit_at_ones w j below) refl
bit_of-agnostic_value false w old j below = refl

-- a bit of what an element becomes
pub outcome-bit : (i : Shape) (z old j : ℕ) (at : Place) → j < i.width
    → bit_of (outcome i z old at) j ≡ ends i.ones i.vma i.tail (bit_of (low i.width z) j) (bit_of old j) at
outcome-bit i z old j prestart below = refl
outcome-bit i z old j active below = refl
outcome-bit i z old j masked_off below = bit_of-agnostic_value (i.ones && i.vma) i.width old j below
outcome-bit i z old j tail below = bit_of-agnostic_value (i.ones && i.tail) i.width old j below

-- p: prestart, q: below len
core : (ones vma tail_too p q m c x old : Bool)
    → cond (ones && ((tail_too && (not p && not q)) || ((m && vma) && ((not p && q) && not c)))) true (cond ((not p && q) && (not m || c)) x old)
    ≡ ends ones vma tail_too x old (cond p prestart (cond q (cond (not m || c) active masked_off) tail))
core true true true true true true c x old = refl
core true false true true true true c x old = refl
core true vma true true true false c x old = refl
core false vma true true true m c x old = refl
core true true false true true true c x old = refl
core true false false true true true c x old = refl
core true vma false true true false c x old = refl
core false vma false true true m c x old = refl
core true true true true false true c x old = refl
core true false true true false true c x old = refl
core true vma true true false false c x old = refl
core false vma true true false m c x old = refl
core true true false true false true c x old = refl
core true false false true false true c x old = refl
core true vma false true false false c x old = refl
core false vma false true false m c x old = refl
core true true true false true true true x old = refl
core true true true false true true false x old = refl
core true false true false true true true x old = refl
core true false true false true true false x old = refl
core true vma true false true false c x old = refl
core false true true false true true true x old = refl
core false true true false true true false x old = refl
core false false true false true true true x old = refl
core false false true false true true false x old = refl
core false vma true false true false c x old = refl
core true true false false true true true x old = refl
core true true false false true true false x old = refl
core true false false false true true true x old = refl
core true false false false true true false x old = refl
core true vma false false true false c x old = refl
core false true false false true true true x old = refl
core false true false false true true false x old = refl
core false false false false true true true x old = refl
core false false false false true true false x old = refl
core false vma false false true false c x old = refl
core ones vma true false false m c x old = refl
core true true false false false true c x old = refl
core true false false false false true c x old = refl
core true vma false false false false c x old = refl
core false vma false false false m c x old = refl

apart : (m vma a b c : Bool) → (((((m && vma) && m) && a) && b) && not c) ≡ ((m && vma) && ((a && b) && not c))
apart true true true b c = refl
apart true true false b c = refl
apart true false a b c = refl
apart false vma a b c = refl

when_tail : (tail_too f g : Bool) → (tail_too ≡ true → f ≡ g) → (tail_too && f) ≡ (tail_too && g)
when_tail true f g h = h refl
when_tail false f g h = refl

when_off : (m vma : Bool) (f g : Bool) → (m ≡ true → f ≡ g) → ((m && vma) && f) ≡ ((m && vma) && g)
when_off true vma f g h = rw (h refl) refl
when_off false vma f g h = refl

-- the window and the fill together end an element as its place says
pub settled : (i : Shape) (b : Bounds) (mask : ℕ → Bool) (x old : Bool) (e : ℕ) → Bounded i b
    → cond (i.ones && is_free b.from b.until i.masked i.tail (i.masked && i.vma) mask e) true (cond (is_within b.from i.len i.masked mask e) x old)
    ≡ ends i.ones i.vma i.tail x old (place_in i mask e)
settled i b mask x old e h =
    let p = is_prestart i e in
    let q = ltb e i.len in
    let inside : is_within b.from i.len i.masked mask e ≡ ((not p && q) && (not i.masked || mask e)) = ap (λ (z : Bool). z && (not i.masked || mask e)) (h.window e) in
    let second : (((((i.masked && i.vma) && i.masked) && leb b.from e) && ltb e b.until) && not (mask e)) ≡ ((i.masked && i.vma) && ((not p && q) && not (mask e))) =
    apart i.masked i.vma (leb b.from e) (ltb e b.until) (mask e)
    ∙ when_off i.masked i.vma _ _ (λ t. ap (λ (z : ℕ). (leb b.from e && ltb e z) && not (mask e)) (h.off t) ∙ ap (λ (z : Bool). z && not (mask e)) (h.window e)) in
    let first : (i.tail && leb b.until e) ≡ (i.tail && (not p && not q)) = when_tail i.tail _ _ (λ t. h.tail t e) in
    ap (λ (z : Bool). cond (i.ones && is_free b.from b.until i.masked i.tail (i.masked && i.vma) mask e) true (cond z x old)) inside
    ∙ ap (λ (z : Bool). cond (i.ones && z) true (cond ((not p && q) && (not i.masked || mask e)) x old))
    (ap (λ (z : Bool). z || (((((i.masked && i.vma) && i.masked) && leb b.from e) && ltb e b.until) && not (mask e))) first
    ∙ ap (λ (z : Bool). (i.tail && (not p && not q)) || z) second)
    ∙ core i.ones i.vma i.tail p q i.masked (mask e) x old

-- ---- the usual bounds

absorb : (b c : Bool) → (not b && c) ≡ (not (b || (b && c)) && c)
absorb true c = refl
absorb false c = refl

pub usual_bounds_law : UsualBoundsLaw
usual_bounds_law i same some = record {
  window = λ e. rw (leb_not i.vstart e, same) (absorb (ltb e i.vstart) (ltb e i.len));
  tail = λ tail_too e.
      let l : i.vstart < i.len = some tail_too in
      ⊎_elim
      (λ (a : e < i.len). rw (leb_not i.len e, lt-ltb e i.len a) (sym (never (not (ltb e i.vstart || (ltb e i.from && true))))))
      (λ (a : i.len ≤ e). let b : i.vstart ≤ e = omega arith in rw (leb_not i.len e, same, le-ltb e i.len a, le-ltb e i.vstart b) refl)
      (cases_lt e i.len);
  off = λ h. refl;
}
  where
    never : (b : Bool) → (b && false) ≡ false
    never true = refl
    never false = refl
