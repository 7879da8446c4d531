-- The fields of an element, written one after the other.
use Rattle.std.proofs.Common.{◌≡◌, ℕ, zero, suc, ◌+◌, ◌*◌, ◌/◌, ◌%◌, ◌<◌, ◌≤◌, Bool, true, false, cond, ◌&&◌, eqb, List, ltb, refl, sym, ◌∙◌, ap, arith, ⊎_elim}
use Rattle.std.proofs.lemmas.Bool.{cases_lt, cases_eq, eq-eqb, ne_eqb, lt-ltb, le-ltb}
use Rattle.std.proofs.lemmas.Nat.{div-mul-add, mod-mul-add, div-add-mod'}
use Rattle.std.proofs.Math.Nat.{mul-le-mul_right}
use Rattle.bit_laws.specs.Numbers.{low}
use Rattle.element_ops.specs.Elements.{AreRegisters, with_elements}
use Rattle.element_ops.proofs.Groups.{element-more, elements-same}
use Rattle.vec_mem.specs.Steps.{fields_written}

pub slot-parts : (per f e : ℕ) → e < per → ((f * per + e) % per ≡ e) × ((f * per + e) / per ≡ f)
slot-parts per f e inside = (mod-mul-add f per e inside, div-mul-add f per e inside)

abbrev pub is_field_below : (per e n s : ℕ) → Bool
is_field_below per e n s = eqb (s % per) e && ltb (s / per) n

pub fields-more : (size : ℕ) (v : List (List ℕ)) (r count w slots per e : ℕ) (g value : ℕ → ℕ) (n : ℕ) → AreRegisters size v → 8 * (w / 8) ≡ w → 0 < w → count * size ≡ slots * (w / 8) → e < per → n * per ≤ slots
    → fields_written size (with_elements size v r count w g) r w per e value n ≡ with_elements size v r count w (λ s. cond (is_field_below per e n s) (value (s / per)) (g s))
unfolding fields_written
fields-more size v r count w slots per e g value zero are whole wide all inside room =
    elements-same size v r count w slots g (λ s. cond (is_field_below per e 0 s) (value (s / per)) (g s)) are whole wide (omega arith) (λ s below.
    let no : ltb (s / per) 0 ≡ false = le-ltb (s / per) 0 (omega arith) in
    rw no (not_both (eqb (s % per) e) (value (s / per)) (g s)))
  where
    not_both : (t : Bool) (x y : ℕ) → low w y ≡ low w (cond (t && false) x y)
    not_both true x y = refl
    not_both false x y = refl
fields-more size v r count w slots per e g value (suc n) are whole wide all inside room =
    let before : n * per ≤ slots = omega arith in
    let ih = fields-more size v r count w slots per e g value n are whole wide all inside before in
    let at = n * per + e in
    let slot : at + 1 ≤ slots = omega arith in
    let place : (at + 1) * (w / 8) ≤ slots * (w / 8) = mul-le-mul_right (w / 8) slot in
    rw ih (
    element-more size v r count w at (value n) (λ s. cond (is_field_below per e n s) (value (s / per)) (g s)) are whole wide (omega arith)
    ∙ elements-same size v r count w slots (λ s. cond (eqb s at) (value n) (cond (is_field_below per e n s) (value (s / per)) (g s))) (λ s. cond (is_field_below per e (suc n) s) (value (s / per)) (g s)) are whole wide (omega arith) (λ s below.
    ap (low w) (each s)))
  where
    each : (s : ℕ) → cond (eqb s (n * per + e)) (value n) (cond (is_field_below per e n s) (value (s / per)) (g s)) ≡ cond (is_field_below per e (suc n) s) (value (s / per)) (g s)
    each s =
        let parts = slot-parts per n e inside in
        ⊎_elim
        (λ (same : s ≡ n * per + e).
        rw (same, parts.0, parts.1, eq-eqb (n * per + e) (n * per + e) refl, eq-eqb e e refl, lt-ltb n (suc n) (omega arith)) refl)
        (λ (other : s ≡ n * per + e → ⊥).
        rw (ne_eqb s (n * per + e) other) (
        ⊎_elim
        (λ (here : s % per ≡ e).
        let apart : s / per ≡ n → ⊥ = λ q. other (sym (div-add-mod' s per) ∙ rw (q, here) refl) in
        ⊎_elim
        (λ (less : s / per < n). rw (lt-ltb (s / per) n less, lt-ltb (s / per) (suc n) (omega arith)) refl)
        (λ (more : n ≤ s / per). let past : suc n ≤ s / per = omega arith in rw (le-ltb (s / per) n more, le-ltb (s / per) (suc n) past) refl)
        (cases_lt (s / per) n))
        (λ (there : s % per ≡ e → ⊥). rw (ne_eqb (s % per) e there) refl)
        (cases_eq (s % per) e)))
        (cases_eq s (n * per + e))
