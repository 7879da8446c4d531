-- The registers whose elements of the destination are written one after the other, from the lowest on.
use Rattle.std.proofs.Common.{◌≡◌, ℕ, ◌+◌, ◌-◌, ◌*◌, ◌/◌, ◌^◌, ◌<◌, ◌≤◌, Bool, true, false, not, cond, ◌&&◌, ◌||◌, eqb, List, ltb, refl, sym, ◌∙◌, ap, arith, inl, inr, ⊎_elim}
use Rattle.std.proofs.lemmas.Bool.{cases_lt, cases_eq, lt-ltb, le-ltb, eq-eqb, ne_eqb, and_parts, ltb-true}
use Rattle.std.proofs.Math.Nat.{mul-le-mul_right}
use Rattle.bit_laws.specs.Numbers.{low}
use Rattle.cam_chain.proofs.Registers.{some-size}
use Rattle.element_ops.specs.Elements.{AreRegisters, element_of, mask_bit_of, with_elements}
use Rattle.element_ops.specs.Places.{agnostic_value}
use Rattle.element_ops.proofs.Groups.{elements-same, element-more, elements-kept, elements-over, low-low}
use Rattle.element_ops.proofs.Writing.{element-with_elements}
use Rattle.rvv_decode.specs.declared.instruction.VInstr.{VInstr}
use Rattle.vtype_cfg.specs.declared.configuration.Cfg.{Cfg}
use Rattle.rvv_meaning.specs.Elementwise.{Elementwise, size_of, is_ones, element_after, registers_by, registers_after}
use Rattle.element_moves.specs.Permutations.{in_group}
use Rattle.element_moves.specs.Steps.{Fits, Reads, ReadsBits, registers, group_elements, is_left_in, fills_tail, put, ones, element_written, ones_from, tail_written}
use Rattle.element_moves.proofs.Staying.{bit-stays, element-stays}

-- the registers whose elements of the destination below n are as an instruction leaves them
abbrev pub come_to : Cfg → Elementwise → List (List ℕ) → (n : ℕ) → List (List ℕ)
come_to c e v n =
    with_elements (size_of c) v e.vd e.registers e.width (λ s. cond (ltb s n) (element_after c e v (is_ones c.policy) s) (element_of (size_of c) v e.vd e.width s))

-- an element that is never filled
unfilled : (t : Bool) (w old : ℕ) → agnostic_value (t && false) w old ≡ old
unfilled true w old = refl
unfilled false w old = refl

-- the elements of a destination, so many of them, from vstart on
module _ (i : VInstr) (c : Cfg) (len : ℕ) (masked : Bool) (value : ℕ → ℕ) (v : List (List ℕ)) (fits : Fits i c) (are : AreRegisters (size_of c) v) (some : 0 < size_of c) where
  abbrev e : Elementwise
  e = in_group i c len masked value

  abbrev w : ℕ
  w = c.vtype.sew

  abbrev after : ℕ → ℕ
  after s = element_after c e v (is_ones c.policy) s

  abbrev old : ℕ → ℕ
  old s = element_of (size_of c) v i.vd w s

  abbrev there : ℕ → List (List ℕ)
  there n = come_to c e v n

  -- ---- the width of an element

  positive : 0 < w / 8
  positive = some-size (w / 8) fits.size

  wide : 0 < w
  wide = omega (arith, positive)

  no_mask : eqb w 1 ≡ false
  no_mask = ne_eqb w 1 (λ is. omega (arith, positive, is))

  all : registers c * size_of c ≤ group_elements c * (w / 8)
  all = omega (arith, fits.fills)

  -- ---- what an element becomes, by its place

  before-start : (s : ℕ) → s < c.vstart → after s ≡ old s
  unfolding element_after
  before-start s first = rw (lt-ltb s c.vstart first, no_mask) (unfilled (is_ones c.policy) w (old s))

  when-active : (s : ℕ) → c.vstart ≤ s → s < len → (not masked || mask_bit_of v 0 s) ≡ true → after s ≡ low w (value s)
  unfolding element_after
  when-active s from inside left = rw (le-ltb s c.vstart from, lt-ltb s len inside, left) refl

  when-masked_off : (s : ℕ) → c.vstart ≤ s → s < len → (not masked || mask_bit_of v 0 s) ≡ false → after s ≡ agnostic_value (is_ones c.policy && c.vtype.vma) w (old s)
  unfolding element_after
  when-masked_off s from inside out = rw (le-ltb s c.vstart from, lt-ltb s len inside, out, no_mask) refl

  in-tail : (s : ℕ) → c.vstart ≤ s → len ≤ s → after s ≡ agnostic_value (fills_tail c) w (old s)
  unfolding element_after
  in-tail s from past = rw (le-ltb s c.vstart from, le-ltb s len past, no_mask) refl

  -- ---- steps

  -- where all elements count as they were
  come-same : (n m : ℕ) → ((s : ℕ) → s < group_elements c → low w (cond (ltb s n) (after s) (old s)) ≡ low w (cond (ltb s m) (after s) (old s))) → there n ≡ there m
  come-same n m same =
      elements-same (size_of c) v i.vd (registers c) w (group_elements c) (λ s. cond (ltb s n) (after s) (old s)) (λ s. cond (ltb s m) (after s) (old s)) are fits.whole wide all same

  -- nothing is written before the first element
  pub come-start : v ≡ there c.vstart
  come-start =
      sym (elements-same (size_of c) v i.vd (registers c) w (group_elements c) (λ s. cond (ltb s c.vstart) (after s) (old s)) old are fits.whole wide all (λ s inside.
      ⊎_elim
      (λ (first : s < c.vstart). rw (lt-ltb s c.vstart first) (ap (low w) (before-start s first)))
      (λ (from : c.vstart ≤ s). rw (le-ltb s c.vstart from) refl)
      (cases_lt s c.vstart))
      ∙ elements-kept (size_of c) v i.vd (registers c) w are some fits.whole wide)

  -- one element is written
  pub come-more : (u : List (List ℕ)) (n z : ℕ) → u ≡ there n → n < group_elements c → low w z ≡ low w (after n) → put i c u n z ≡ there (n + 1)
  come-more u n z come inside is =
      let slots : (n + 1) * (w / 8) ≤ group_elements c * (w / 8) = mul-le-mul_right (w / 8) (omega arith) in
      rw come (element-more (size_of c) v i.vd (registers c) w n z (λ s. cond (ltb s n) (after s) (old s)) are fits.whole wide (omega (arith, fits.fills)))
      ∙ elements-same (size_of c) v i.vd (registers c) w (group_elements c) (λ s. cond (eqb s n) z (cond (ltb s n) (after s) (old s))) (λ s. cond (ltb s (n + 1)) (after s) (old s)) are fits.whole wide all (λ s within.
      ⊎_elim
      (λ (here : s ≡ n). rw (eq-eqb s n here, lt-ltb s (n + 1) (omega (arith, here)), here) is)
      (λ (other : s ≡ n → ⊥). rw (ne_eqb s n other)
      (⊎_elim
      (λ (below : s < n). rw (lt-ltb s n below, lt-ltb s (n + 1) (omega arith)) refl)
      (λ (past : n ≤ s). rw (le-ltb s n past, le-ltb s (n + 1) (omega (arith, other))) refl)
      (cases_lt s n)))
      (cases_eq s n))

  -- an active one gets its value
  pub come-value : (u : List (List ℕ)) (n z : ℕ) → u ≡ there n → n < group_elements c → c.vstart ≤ n → n < len → (not masked || mask_bit_of v 0 n) ≡ true → low w z ≡ low w (value n) → put i c u n z ≡ there (n + 1)
  come-value u n z come lies from inside left is = come-more u n z come lies (is ∙ sym (ap (low w) (when-active n from inside left) ∙ low-low w (value n)))

  -- one element stays
  pub come-on : (u : List (List ℕ)) (n : ℕ) → u ≡ there n → after n ≡ old n → u ≡ there (n + 1)
  come-on u n come stays =
      come ∙ come-same n (n + 1) (λ s within.
      ⊎_elim
      (λ (here : s ≡ n). rw (le-ltb s n (omega (arith, here)), lt-ltb s (n + 1) (omega (arith, here)), here) (ap (low w) (sym stays)))
      (λ (other : s ≡ n → ⊥).
      ⊎_elim
      (λ (below : s < n). rw (lt-ltb s n below, lt-ltb s (n + 1) (omega arith)) refl)
      (λ (past : n ≤ s). rw (le-ltb s n past, le-ltb s (n + 1) (omega (arith, other))) refl)
      (cases_lt s n))
      (cases_eq s n))

  -- ---- what is read later

  pub still-element : (n s first count k : ℕ) → Reads i c s first count → k < count → element_of (size_of c) (there n) first s k ≡ element_of (size_of c) v first s k
  still-element n s first count k reads inside =
      let scaled : (k + 1) * (s / 8) ≤ count * (s / 8) = mul-le-mul_right (s / 8) (omega arith) in
      element-stays (size_of c) v i.vd (registers c) w (λ x. cond (ltb x n) (after x) (old x)) are reads.taken first s k reads.apart some (omega (arith, reads.inside))

  pub still-bit : (n first x : ℕ) → ReadsBits i c first → x < 8 * size_of c → mask_bit_of (there n) first x ≡ mask_bit_of v first x
  still-bit n first x reads within =
      let room : first + 1 ≤ 32 = reads.room in
      bit-stays (size_of c) v i.vd (registers c) w (λ x. cond (ltb x n) (after x) (old x)) are first x (omega arith) within
      (⊎_elim (λ (before : first + 1 ≤ i.vd). inl (omega arith)) (λ (past : i.vd + registers c ≤ first). inr past) reads.apart)

  pub still-left_in : (n x : ℕ) → x < 8 * size_of c → is_left_in i (there n) x ≡ is_left_in i v x
  still-left_in n x within = by i.vm fits.spares_mask
    where
      by : (vm : Bool) → (vm ≡ false → 0 < i.vd) → (vm || mask_bit_of (there n) 0 x) ≡ (vm || mask_bit_of v 0 x)
      by true spares = refl
      by false spares = bit-stays (size_of c) v i.vd (registers c) w (λ x. cond (ltb x n) (after x) (old x)) are 0 x (omega arith) within (inl (spares refl))

  -- ---- the end

  -- the elements of the tail
  tail-filled : (n : ℕ) → c.vstart ≤ n → len ≤ n → fills_tail c ≡ true → ones_from i c (there n) n ≡ with_elements (size_of c) v i.vd (registers c) w after
  unfolding ones_from
  tail-filled n from past fills =
      let g : ℕ → ℕ = λ s. cond (ltb s n) (after s) (old s) in
      elements-over (size_of c) v i.vd (registers c) w g (λ s. cond (ltb s n) (element_of (size_of c) (there n) i.vd w s) (2 ^ w - 1)) are
      ∙ elements-same (size_of c) v i.vd (registers c) w (group_elements c) (λ s. cond (ltb s n) (element_of (size_of c) (there n) i.vd w s) (2 ^ w - 1)) after are fits.whole wide all (λ s within.
      let scaled : (s + 1) * (w / 8) ≤ group_elements c * (w / 8) = mul-le-mul_right (w / 8) (omega arith) in
      ⊎_elim
      (λ (below : s < n).
      rw (lt-ltb s n below)
      (ap (low w) (element-with_elements (size_of c) v i.vd (registers c) w g s are some fits.room fits.whole (omega (arith, fits.fills)))
      ∙ low-low w (g s)
      ∙ rw (lt-ltb s n below) refl))
      (λ (out : n ≤ s). rw (le-ltb s n out, in-tail s (omega arith) (omega arith), fills) refl)
      (cases_lt s n))

  tail-stays : (n : ℕ) → c.vstart ≤ n → len ≤ n → fills_tail c ≡ false → there n ≡ with_elements (size_of c) v i.vd (registers c) w after
  tail-stays n from past stays =
      elements-same (size_of c) v i.vd (registers c) w (group_elements c) (λ s. cond (ltb s n) (after s) (old s)) after are fits.whole wide all (λ s within.
      ⊎_elim
      (λ (below : s < n). rw (lt-ltb s n below) refl)
      (λ (out : n ≤ s). rw (le-ltb s n out, in-tail s (omega arith) (omega arith), stays) refl)
      (cases_lt s n))

  -- what the code leaves that comes to the end of the elements and writes the tail
  pub come-end : (u x : List (List ℕ)) (n from : ℕ) → u ≡ there n → c.vstart ≤ n → len ≤ n → (c.vstart < c.vl → from ≡ n) → x ≡ tail_written i c u from → x ≡ registers_after c e v
  unfolding registers_by tail_written
  come-end u x n from come first past at is =
      is ∙ rw (come, no_mask) (by (fills_tail c) refl)
    where
      by : (t : Bool) → fills_tail c ≡ t → cond t (ones_from i c (there n) from) (there n) ≡ with_elements (size_of c) v i.vd (registers c) w after
      by true fills =
          let a = and_parts (is_ones c.policy) (ltb c.vstart c.vl && c.vtype.vta) fills in
          let b = and_parts (ltb c.vstart c.vl) c.vtype.vta a.1 in
          rw (at (ltb-true c.vstart c.vl b.0)) (tail-filled n first past fills)
      by false stays = tail-stays n first past stays

  -- an element that is computed, or masked off, where the mask is the instruction's
  module _ (by_mask : masked ≡ not i.vm) where
    left-in : (s : ℕ) → (not masked || mask_bit_of v 0 s) ≡ is_left_in i v s
    left-in s = rw by_mask (by i.vm)
      where
        by : (vm : Bool) → (not (not vm) || mask_bit_of v 0 s) ≡ (vm || mask_bit_of v 0 s)
        by true = refl
        by false = refl

    pub come-written : (u : List (List ℕ)) (n z : ℕ) → u ≡ there n → c.vstart ≤ n → n < len → n < 8 * size_of c → n < group_elements c → low w z ≡ low w (value n) → element_written i c u n z ≡ there (n + 1)
    unfolding element_written
    come-written u n z come from inside within lies is =
        let same : is_left_in i u n ≡ is_left_in i v n = rw come (still-left_in n n within) in
        rw same (by (is_left_in i v n) refl)
      where
        fill : (t : Bool) → (is_ones c.policy && c.vtype.vma) ≡ t → is_left_in i v n ≡ false → cond t (put i c u n (ones i c u)) u ≡ there (n + 1)
        fill true fills out = come-more u n (ones i c u) come lies (ap (low w) (sym (when-masked_off n from inside (left-in n ∙ out) ∙ rw fills refl)))
        fill false stays out = come-on u n come (when-masked_off n from inside (left-in n ∙ out) ∙ rw stays refl)

        by : (t : Bool) → is_left_in i v n ≡ t → cond t (put i c u n z) (cond (is_ones c.policy && c.vtype.vma) (put i c u n (ones i c u)) u) ≡ there (n + 1)
        by true left = come-value u n z come lies from inside (left-in n ∙ left) is
        by false out = fill (is_ones c.policy && c.vtype.vma) refl out
