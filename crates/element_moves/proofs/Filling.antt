-- One element that is written, and the elements that become all ones from one on; and where an element lies.
use Rattle.std.proofs.Common.{◌≡◌, ℕ, ◌+◌, ◌-◌, ◌*◌, ◌/◌, ◌^◌, ◌<◌, ◌≤◌, true, false, cond, ◌&&◌, eqb, List, leb, ltb, refl, sym, ◌∙◌, arith, ⊎_elim}
use Rattle.std.proofs.lemmas.Bool.{cases_lt, cases_eq, lt-ltb, le-ltb, le-leb, lt-leb, eq-eqb, ne_eqb}
use Rattle.std.proofs.Math.Nat.{mul-le-mul_right}
use Rattle.bit_rows.specs.Slices.{Slices}
use Rattle.cam_chain.specs.Views.{registers_of, KeepsRest}
use Rattle.cam_chain.proofs.Registers.{some-size, are-registers_of}
use Rattle.element_ops.specs.Elements.{AreRegisters, element_of, mask_bit_of, with_element, with_elements}
use Rattle.element_ops.proofs.Groups.{elements-same, element-more, elements-kept}
use Rattle.rvv_decode.specs.declared.instruction.VInstr.{VInstr}
use Rattle.vtype_cfg.specs.declared.configuration.Cfg.{Cfg}
use Rattle.rvv_meaning.specs.Elementwise.{size_of, is_ones}
use Rattle.element_moves.specs.Steps.{Fits, Reads, registers, element_size, group_elements, is_left_in, fills_tail, put, ones, element_written, ones_from, tail_written, taken}

-- ---- slices

pub keeps-all : (s : Slices) → KeepsRest s s
keeps-all s = record { columns = refl; tags = λ sub col. refl; num = refl; rows = λ sub row col past. refl }

pub keeps-twice : (s t u : Slices) → KeepsRest s t → KeepsRest t u → KeepsRest s u
keeps-twice s t u a b = record {
  columns = b.columns ∙ a.columns;
  tags = λ sub col. b.tags sub col ∙ a.tags sub col;
  num = b.num ∙ a.num;
  rows = λ sub row col past. b.rows sub row col past ∙ a.rows sub row col past;
}

-- the registers of slices with so many columns
pub registers-are : (c : Cfg) (s : Slices) → c.vlen ≡ 32 * s.columns → AreRegisters (size_of c) (registers_of s)
registers-are c s long = let words : size_of c ≡ 4 * s.columns = omega arith in rw words (are-registers_of s)

-- a register has a byte
pub some-bytes : (i : VInstr) (c : Cfg) → Fits i c → 0 < size_of c
some-bytes i c fits = omega (arith, fits.wide)

-- ---- where an element lies

-- an element of the destination
pub element-room : (i : VInstr) (c : Cfg) (columns size s : ℕ) → Fits i c → c.vlen ≡ 32 * columns → size ≡ element_size c → s < group_elements c → (s + 1) * size ≤ (32 - i.vd) * (4 * columns)
element-room i c columns size s fits long is inside =
    let slots : (s + 1) * element_size c ≤ group_elements c * element_size c = mul-le-mul_right (element_size c) (omega arith) in
    let there : registers c * size_of c ≤ (32 - i.vd) * size_of c = mul-le-mul_right (size_of c) (omega (arith, fits.room)) in
    let words : 4 * columns ≡ size_of c = omega arith in
    rw (is, words) (omega (arith, fits.fills))

-- it is written
pub as-put : (i : VInstr) (c : Cfg) (columns size : ℕ) (u : List (List ℕ)) (s z : ℕ) → Fits i c → c.vlen ≡ 32 * columns → size ≡ element_size c → with_element (4 * columns) u i.vd (8 * size) s z ≡ put i c u s z
as-put i c columns size u s z fits long is =
    let words : 4 * columns ≡ size_of c = omega arith in
    rw (is, words, fits.whole) refl

-- all ones, as the code has them
pub as-ones : (i : VInstr) (c : Cfg) (u : List (List ℕ)) (size z : ℕ) → Fits i c → size ≡ element_size c → z ≡ 2 ^ (8 * size) - 1 → z ≡ ones i c u
as-ones i c u size z fits is full = rw (full, is, fits.whole) refl

-- ---- all ones

-- the registers whose elements of the destination are all ones from one on and below another
abbrev pub filled : VInstr → Cfg → List (List ℕ) → (from n : ℕ) → List (List ℕ)
filled i c u from n =
    with_elements (size_of c) u i.vd (registers c) c.vtype.sew (λ s. cond (leb from s && ltb s n) (ones i c u) (element_of (size_of c) u i.vd c.vtype.sew s))

module _ (i : VInstr) (c : Cfg) (u : List (List ℕ)) (fits : Fits i c) (are : AreRegisters (size_of c) u) (some : 0 < size_of c) where
  abbrev w : ℕ
  w = c.vtype.sew

  abbrev old : ℕ → ℕ
  old s = element_of (size_of c) u i.vd w s

  abbrev there : (from n : ℕ) → List (List ℕ)
  there from n = filled i c u from n

  wide : 0 < w
  wide = omega (arith, some-size (w / 8) fits.size)

  all : registers c * size_of c ≤ group_elements c * (w / 8)
  all = omega (arith, fits.fills)

  pub fill-start : (from : ℕ) → u ≡ there from from
  fill-start from =
      sym (elements-same (size_of c) u i.vd (registers c) w (group_elements c) (λ s. cond (leb from s && ltb s from) (ones i c u) (old s)) old are fits.whole wide all (λ s inside.
      ⊎_elim
      (λ (below : s < from). rw (lt-leb from s below) refl)
      (λ (past : from ≤ s). rw (le-leb from s past, le-ltb s from past) refl)
      (cases_lt s from))
      ∙ elements-kept (size_of c) u i.vd (registers c) w are some fits.whole wide)

  pub fill-more : (x : List (List ℕ)) (from n : ℕ) → x ≡ there from n → from ≤ n → n < group_elements c → with_element (size_of c) x i.vd w n (ones i c u) ≡ there from (n + 1)
  fill-more x from n come order inside =
      let slots : (n + 1) * (w / 8) ≤ group_elements c * (w / 8) = mul-le-mul_right (w / 8) (omega arith) in
      rw come (element-more (size_of c) u i.vd (registers c) w n (ones i c u) (λ s. cond (leb from s && ltb s n) (ones i c u) (old s)) are fits.whole wide (omega (arith, fits.fills)))
      ∙ elements-same (size_of c) u i.vd (registers c) w (group_elements c) (λ s. cond (eqb s n) (ones i c u) (cond (leb from s && ltb s n) (ones i c u) (old s))) (λ s. cond (leb from s && ltb s (n + 1)) (ones i c u) (old s)) are fits.whole wide all (λ s within.
      ⊎_elim
      (λ (here : s ≡ n). rw (eq-eqb s n here, le-leb from s (omega (arith, here)), lt-ltb s (n + 1) (omega (arith, here))) refl)
      (λ (other : s ≡ n → ⊥). rw (ne_eqb s n other)
      (⊎_elim
      (λ (below : s < n). rw (lt-ltb s n below, lt-ltb s (n + 1) (omega arith)) refl)
      (λ (past : n ≤ s). rw (le-ltb s n past, le-ltb s (n + 1) (omega (arith, other))) refl)
      (cases_lt s n)))
      (cases_eq s n))

  -- as the code writes it
  pub fill-step : (x y : List (List ℕ)) (from n columns size z : ℕ) → c.vlen ≡ 32 * columns → size ≡ element_size c → z ≡ 2 ^ (8 * size) - 1
      → x ≡ there from n → from ≤ n → n < group_elements c → y ≡ with_element (4 * columns) x i.vd (8 * size) n z → y ≡ there from (n + 1)
  fill-step x y from n columns size z long is full come order inside written =
      written ∙ as-put i c columns size x n z fits long is ∙ rw (as-ones i c u size z fits is full) (fill-more x from n come order inside)

  pub fill-end : (from n : ℕ) → group_elements c ≤ n → there from n ≡ ones_from i c u from
  unfolding ones_from
  fill-end from n past =
      elements-same (size_of c) u i.vd (registers c) w (group_elements c) (λ s. cond (leb from s && ltb s n) (ones i c u) (old s)) (λ s. cond (ltb s from) (old s) (ones i c u)) are fits.whole wide all (λ s within.
      ⊎_elim
      (λ (below : s < from). rw (lt-leb from s below, lt-ltb s from below) refl)
      (λ (there : from ≤ s). rw (le-leb from s there, le-ltb s from there, lt-ltb s n (omega arith)) refl)
      (cases_lt s from))

-- ---- one element, and the tail

module _ (i : VInstr) (c : Cfg) (u : List (List ℕ)) where
  pub written-left : (s z : ℕ) → is_left_in i u s ≡ true → put i c u s z ≡ element_written i c u s z
  unfolding element_written
  written-left s z left = rw left refl

  pub written-ones : (s z : ℕ) → is_left_in i u s ≡ false → (is_ones c.policy && c.vtype.vma) ≡ true → put i c u s (ones i c u) ≡ element_written i c u s z
  unfolding element_written
  written-ones s z out fills = rw (out, fills) refl

  pub written-kept : (s z : ℕ) → is_left_in i u s ≡ false → (is_ones c.policy && c.vtype.vma) ≡ false → u ≡ element_written i c u s z
  unfolding element_written
  written-kept s z out stays = rw (out, stays) refl

  pub tail-ones : (from : ℕ) → fills_tail c ≡ true → ones_from i c u from ≡ tail_written i c u from
  unfolding tail_written
  tail-ones from fills = rw fills refl

  pub tail-kept : (from : ℕ) → fills_tail c ≡ false → u ≡ tail_written i c u from
  unfolding tail_written
  tail-kept from stays = rw stays refl

  pub taken-here : (s to : ℕ) → mask_bit_of u i.vs1 s ≡ true → put i c u to (element_of (size_of c) u i.vs2 c.vtype.sew s) ≡ taken i c u s to
  unfolding taken
  taken-here s to is = rw is refl

  pub taken-not : (s to : ℕ) → mask_bit_of u i.vs1 s ≡ false → u ≡ taken i c u s to
  unfolding taken
  taken-not s to is = rw is refl

-- an element that is read
pub read-room : (i : VInstr) (c : Cfg) (columns size w first count s : ℕ) → Reads i c w first count → c.vlen ≡ 32 * columns → size ≡ w / 8 → s < count → (s + 1) * size ≤ (32 - first) * (4 * columns)
read-room i c columns size w first count s reads long is inside =
    let slots : (s + 1) * (w / 8) ≤ count * (w / 8) = mul-le-mul_right (w / 8) (omega arith) in
    let there : reads.taken * size_of c ≤ (32 - first) * size_of c = mul-le-mul_right (size_of c) (omega (arith, reads.apart.room)) in
    let words : 4 * columns ≡ size_of c = omega arith in
    rw (is, words) (omega (arith, reads.inside))

-- the place of a bit of the mask
pub bit-room : (i : VInstr) (c : Cfg) (columns s : ℕ) → Fits i c → c.vlen ≡ 32 * columns → s < c.vl → s < 32 * columns
bit-room i c columns s fits long inside = omega (arith, fits.short)

pub as-read : (c : Cfg) (columns size w : ℕ) (u : List (List ℕ)) (first s : ℕ) → c.vlen ≡ 32 * columns → size ≡ w / 8 → 8 * (w / 8) ≡ w → element_of (4 * columns) u first (8 * size) s ≡ element_of (size_of c) u first w s
as-read c columns size w u first s long is whole =
    let words : 4 * columns ≡ size_of c = omega arith in
    rw (is, words, whole) refl
