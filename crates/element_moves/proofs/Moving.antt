-- The three moves, element by element.
use Rattle.std.proofs.Common.{◌≡◌, ℕ, ◌+◌, ◌*◌, ◌<◌, ◌≤◌, Bool, true, false, not, cond, ltb, List, refl, sym, ◌∙◌, ap, arith, ⊎_elim}
use Rattle.std.proofs.lemmas.Bool.{cases_lt, lt-ltb, le-ltb}
use Rattle.bit_laws.specs.Numbers.{low}
use Rattle.element_ops.specs.Elements.{AreRegisters, element_of, mask_bit_of}
use Rattle.fold_laws.specs.Folds.{count, nth}
use Rattle.rvv_decode.specs.declared.instruction.VInstr.{VInstr}
use Rattle.vtype_cfg.specs.declared.configuration.Cfg.{Cfg}
use Rattle.vtype_cfg.specs.Settings.{vlmax}
use Rattle.rvv_meaning.specs.Elementwise.{size_of, registers_after}
use Rattle.rvv_meaning.specs.Whole.{is_set, bit_of_vs1, gathered, read}
use Rattle.element_moves.specs.Permutations.{gathered_by, counted, packed}
use Rattle.element_moves.specs.Steps.{Fits, Reads, ReadsBits, put, element_written, tail_written, taken}
use Rattle.element_moves.proofs.Coming.{come_to, come-start, come-value, come-written, come-end, still-element, still-bit, still-left_in}
use Rattle.element_moves.proofs.Counting.{count-suc, count-most, count-less, nth-count}

module _ (i : VInstr) (c : Cfg) (v : List (List ℕ)) (fits : Fits i c) (are : AreRegisters (size_of c) v) (some : 0 < size_of c) where
  inside-mask : (e : ℕ) → e < c.vl → e < 8 * size_of c
  inside-mask e inside = omega (arith, fits.short)

  -- ---- gathers, by indices of n bytes

  module _ (n : ℕ) (indices : Reads i c (8 * n) i.vs1 c.vl) (source : Reads i c c.vtype.sew i.vs2 (vlmax c.vtype c.vlen)) where
    abbrev index : ℕ → ℕ
    index e = read i c 0 v (8 * n) i.vs1 e

    abbrev value : ℕ → ℕ
    value e = gathered i c 0 v (index e)

    pub gather-start : v ≡ come_to c (gathered_by i c (8 * n) v) v c.vstart
    gather-start = come-start i c c.vl (not i.vm) value v fits are some

    -- the element that is read at an index
    same-value : (u : List (List ℕ)) (e k : ℕ) → u ≡ come_to c (gathered_by i c (8 * n) v) v e
        → cond (ltb k (vlmax c.vtype c.vlen)) (element_of (size_of c) u i.vs2 c.vtype.sew k) 0 ≡ gathered i c 0 v k
    same-value u e k come =
        ⊎_elim
        (λ (below : k < vlmax c.vtype c.vlen). rw (lt-ltb k (vlmax c.vtype c.vlen) below, come) (still-element i c c.vl (not i.vm) value v fits are some e c.vtype.sew i.vs2 (vlmax c.vtype c.vlen) k source below))
        (λ (past : vlmax c.vtype c.vlen ≤ k). rw (le-ltb k (vlmax c.vtype c.vlen) past) refl)
        (cases_lt k (vlmax c.vtype c.vlen))

    -- what the code reads
    pub gather-value : (u : List (List ℕ)) (columns e most k z : ℕ) → c.vlen ≡ 32 * columns → u ≡ come_to c (gathered_by i c (8 * n) v) v e → e < c.vl → most ≡ vlmax c.vtype c.vlen
        → k ≡ element_of (4 * columns) u i.vs1 (8 * n) e → z ≡ cond (ltb k most) (element_of (4 * columns) u i.vs2 c.vtype.sew k) 0 → z ≡ value e
    gather-value u columns e most k z long come inside is_most is_index is =
        let words : 4 * columns ≡ size_of c = omega arith in
        let at : k ≡ index e = is_index ∙ rw (words, come) (still-element i c c.vl (not i.vm) value v fits are some e (8 * n) i.vs1 c.vl e indices inside) in
        is ∙ rw (is_most, words) (same-value u e k come) ∙ ap (gathered i c 0 v) at

    pub gather-more : (u x : List (List ℕ)) (e z : ℕ) → u ≡ come_to c (gathered_by i c (8 * n) v) v e → c.vstart ≤ e → e < c.vl → z ≡ value e → x ≡ element_written i c u e z → x ≡ come_to c (gathered_by i c (8 * n) v) v (e + 1)
    gather-more u x e z come from inside is written =
        written ∙ come-written i c c.vl (not i.vm) value v fits are some refl u e z come from inside (inside-mask e inside) (omega (arith, fits.length)) (ap (low c.vtype.sew) is)

    pub gather-end : (u x : List (List ℕ)) (e : ℕ) → u ≡ come_to c (gathered_by i c (8 * n) v) v e → c.vstart ≤ e → c.vl ≤ e → (c.vstart ≤ c.vl → e ≤ c.vl) → x ≡ tail_written i c u c.vl → x ≡ registers_after c (gathered_by i c (8 * n) v) v
    gather-end u x e come from past order written =
        come-end i c c.vl (not i.vm) value v fits are some u x e c.vl come from past (λ first. let most : e ≤ c.vl = order (omega arith) in omega arith) written

  -- ---- the numbers of set places

  module _ (start : c.vstart ≡ 0) (source : ReadsBits i c i.vs2) where
    abbrev below : ℕ → ℕ
    below e = count e (is_set i c 0 v)

    pub count-start : v ≡ come_to c (counted i c v) v 0
    count-start = come-start i c c.vl (not i.vm) below v fits are some ∙ ap (come_to c (counted i c v) v) start

    pub same-set : (u : List (List ℕ)) (e : ℕ) (b : Bool) → u ≡ come_to c (counted i c v) v e → e < c.vl → b ≡ is_set i c 0 u e → b ≡ is_set i c 0 v e
    same-set u e b come inside is =
        is
        ∙ rw (come, still-left_in i c c.vl (not i.vm) below v fits are some e e (inside-mask e inside), still-bit i c c.vl (not i.vm) below v fits are some e i.vs2 e source (inside-mask e inside)) refl

    pub count-more : (u x : List (List ℕ)) (e k : ℕ) → u ≡ come_to c (counted i c v) v e → e < c.vl → k ≡ below e → x ≡ element_written i c u e k → x ≡ come_to c (counted i c v) v (e + 1)
    count-more u x e k come inside is written =
        written ∙ come-written i c c.vl (not i.vm) below v fits are some refl u e k come (omega arith) inside (inside-mask e inside) (omega (arith, fits.length)) (ap (low c.vtype.sew) is)

    pub count-end : (u x : List (List ℕ)) (e : ℕ) → u ≡ come_to c (counted i c v) v e → c.vl ≤ e → e ≤ c.vl → x ≡ tail_written i c u c.vl → x ≡ registers_after c (counted i c v) v
    count-end u x e come past order written =
        come-end i c c.vl (not i.vm) below v fits are some u x e c.vl come (omega arith) past (λ first. omega arith) written

  -- ---- compressions

  module _ (start : c.vstart ≡ 0) (source : Reads i c c.vtype.sew i.vs2 c.vl) (mask : ReadsBits i c i.vs1) where
    abbrev bit : ℕ → Bool
    bit e = bit_of_vs1 i c 0 v e

    abbrev len : ℕ
    len = count c.vl bit

    abbrev nth_value : ℕ → ℕ
    nth_value k = element_of (size_of c) v i.vs2 c.vtype.sew (nth k c.vl bit)

    pub pack-start : v ≡ come_to c (packed i c v) v 0
    pack-start = come-start i c len false nth_value v fits are some ∙ ap (come_to c (packed i c v) v) start

    pub same-bit : (u : List (List ℕ)) (e k : ℕ) → u ≡ come_to c (packed i c v) v k → e < c.vl → mask_bit_of u i.vs1 e ≡ bit e
    same-bit u e k come inside = rw come (still-bit i c len false nth_value v fits are some k i.vs1 e mask (inside-mask e inside))

    pub pack-more : (u x : List (List ℕ)) (e k next : ℕ) → u ≡ come_to c (packed i c v) v k → e < c.vl → k ≡ count e bit → x ≡ taken i c u e k → next ≡ k + cond (mask_bit_of u i.vs1 e) 1 0
        → (x ≡ come_to c (packed i c v) v next) × (next ≡ count (e + 1) bit)
    unfolding taken
    pack-more u x e k next come inside counted_so written is =
        let same = same-bit u e k come inside in
        let there : next ≡ k + cond (bit e) 1 0 = rw same at is in
        let number : next ≡ count (e + 1) bit = rw (there, counted_so) (sym (count-suc e bit)) in
        (written ∙ rw (same, there) (by (bit e) refl), number)
      where
        here : bit e ≡ true → low c.vtype.sew (element_of (size_of c) u i.vs2 c.vtype.sew e) ≡ low c.vtype.sew (nth_value k)
        here set =
            let read : element_of (size_of c) u i.vs2 c.vtype.sew e ≡ element_of (size_of c) v i.vs2 c.vtype.sew e = rw come (still-element i c len false nth_value v fits are some k c.vtype.sew i.vs2 c.vl e source inside) in
            let at : nth k c.vl bit ≡ e = rw counted_so (nth-count c.vl e bit inside set) in
            rw (read, at) refl

        by : (b : Bool) → bit e ≡ b → cond b (put i c u k (element_of (size_of c) u i.vs2 c.vtype.sew e)) u ≡ come_to c (packed i c v) v (k + cond b 1 0)
        by true set =
            let less : count e bit < len = count-less c.vl e bit inside set in
            let most : count e bit ≤ e = count-most e bit in
            come-value i c len false nth_value v fits are some u k (element_of (size_of c) u i.vs2 c.vtype.sew e) come (omega (arith, fits.length)) (omega arith) (omega arith) refl (here set)
        by false set = let none : k + 0 ≡ k = omega arith in rw none come

    pub pack-end : (u x : List (List ℕ)) (e k : ℕ) → u ≡ come_to c (packed i c v) v k → c.vl ≤ e → e ≤ c.vl → k ≡ count e bit → x ≡ tail_written i c u k → x ≡ registers_after c (packed i c v) v
    pack-end u x e k come past order counted_so written =
        let last : e ≡ c.vl = omega arith in
        let all : k ≡ len = rw last at counted_so in
        come-end i c len false nth_value v fits are some u x k k come (omega arith) (omega arith) (λ first. refl) written
