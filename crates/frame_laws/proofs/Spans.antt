-- The bounds of windows and fills, for any first element and any length.
use Rattle.std.proofs.Common.{◌≡◌, ℕ, ◌<◌, ◌≤◌, max, Bool, true, false, ◌&&◌, ◌||◌, not, ltb, leb, refl, arith, ⊎_elim}
use Rattle.std.proofs.lemmas.Bool.{cases_lt, lt-ltb, le-ltb}
use Rattle.std.proofs.lemmas.Bool.Decides.{nat_tests}
use Rattle.frame_laws.specs.Spans.{BoundsLaw}

-- the window is where an element is computed that is not masked off
window-fits : (start vstart from len e : ℕ) → (0 < len → start ≡ max vstart from) → (leb start e && ltb e len) ≡ (not (ltb e vstart || (ltb e from && ltb e len)) && ltb e len)
window-fits start vstart from len e is =
    ⊎_elim
    (λ (l : e < len). let s : start ≡ max vstart from = is (omega arith) in rw (s, lt-ltb e len l) (below vstart from e))
    (λ (m : len ≤ e). rw (le-ltb e len m) (never (leb start e) (not (ltb e vstart || (ltb e from && false)))))
    (cases_lt e len)
  where
    below : (a b e : ℕ) → (leb (max a b) e && true) ≡ (not (ltb e a || (ltb e b && true)) && true)
    below a b e = grind (arith, nat_tests)

    never : (a b : Bool) → (a && false) ≡ (b && false)
    never true true = refl
    never true false = refl
    never false true = refl
    never false false = refl

-- the tail is where the elements end, and not before vstart
tail-fits : (until vstart from len e : ℕ) → until ≡ max vstart len → leb until e ≡ (not (ltb e vstart || (ltb e from && ltb e len)) && not (ltb e len))
tail-fits until vstart from len e is = rw is (grind (arith, nat_tests))

pub bounds_law : BoundsLaw
bounds_law i b from until off = record {
  window = λ e. window-fits b.from i.vstart i.from i.len e from;
  tail = λ tail_too e. tail-fits b.until i.vstart i.from i.len e (until tail_too);
  off = off;
}
