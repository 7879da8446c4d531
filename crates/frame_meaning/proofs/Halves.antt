-- Legal narrowing instructions are of the class that the frame takes.
use Rattle.std.proofs.Common.{◌≡◌, suc, ◌+◌, ◌-◌, ℕ, ◌*◌, ◌/◌, ◌^◌, ◌<◌, ◌≤◌, Bool, nat_le, nat_lt, IsTrue, true, false, cond, ◌&&◌, ◌||◌, ltb, List, refl, sym, ◌∙◌, ap, arith, ◌⊎◌, inl, inr, ⊎_elim}
use Rattle.std.specs.List.{list_all}
use Rattle.std.proofs.lemmas.Bool.{and_parts, ltb-true, leb-true, ne_eqb, cases_lt, cases_Bool, lt-ltb, le-ltb, le-leb}
use Rattle.std.proofs.lemmas.Nat.{pow_pos}
use Rattle.std.proofs.Math.Nat.{mod-eq_of_lt, mod-lt, mul-le-mul_right}
use Rattle.std.proofs.Math.Pow.{pow_mono}
use Rattle.bit_laws.specs.Numbers.{low}
use Rattle.bit_rows.specs.Slices.{Slices}
use Rattle.cam_chain.specs.Views.{registers_of}
use Rattle.element_ops.specs.Elements.{element_of}
use Rattle.rvv_decode.specs.declared.instruction.VInstr.{VInstr}
use Rattle.rvv_decode.specs.declared.instruction.Form.{Form}
use Rattle.rvv_decode.specs.declared.instruction.Form.TheVariants.{V, X, I}
use Rattle.vtype_cfg.specs.declared.configuration.Cfg.{Cfg}
use Rattle.vtype_cfg.specs.declared.vtype.Vtype.{Vtype}
use Rattle.vtype_cfg.specs.Settings.{Setting, settings, is_vill_or_supported, vlmax}
use Rattle.vtype_cfg.specs.Classes.{Class, Row, class_of, row_of, count_at, narrowing, group as group_place}
use Rattle.vtype_cfg.proofs.Supported.{at_supported}
use Rattle.rvv_meaning.specs.Elementwise.{Elementwise, makes_mask, registers_after}
use Rattle.rvv_meaning.specs.Operations.{Operation, reads_mask, immediate_bits, elements_at, on_elements}
use Rattle.rvv_meaning.specs.Operations as meaning
use Rattle.legal_groups.specs.Facts.{registers_for, is_read_for, ReadBeside, GroupWritten}
use Rattle.legal_groups.proofs.Laws.{legal_group_law}
use Rattle.legal_groups.proofs.Widths.{width-least, in_force, vlmax-held_at}
use Rattle.frame_laws.specs.Shapes.{Shape, Bounded, usual_bounds}
use Rattle.frame_laws.specs.Laws.{Framed}
use Rattle.frame_laws.specs.Bytes as frame
use Rattle.frame_laws.proofs.Ends.{usual_bounds_law}
use Rattle.frame_laws.proofs.Costs.{even_tally_law, length_law, range_law}
use Rattle.frame_laws.specs.Classes.Operands.{operand_of, is_laid_out_in, IsUnwritten}
use Rattle.frame_laws.specs.Classes.Halved.{halves_row, half_value, IsHalfReadable, IsHalved}
use Rattle.frame_laws.proofs.Classes.Halved.{halved_bytes_law}
use Rattle.frame_laws.proofs.Classes.Operands.{whole-register}
use Rattle.frame_meaning.specs.Shapes.{has_scalar}
use Rattle.frame_meaning.specs.Laws.{Runs}
use Rattle.frame_meaning.specs.Costs.{cost_of, length_of}
use Rattle.frame_meaning.specs.Halves.{half_count, half_row, half_in_vs1, half_operands, half_scalar_in, half_scalar, half_value_in, half_elements, half_shape, half_body, half_program_in, IsOfHalves, HalvesMeaningLaw, HalvesCostLaw}
use Rattle.frame_meaning.proofs.Meaning.{meaning_law}
use Rattle.frame_meaning.proofs.Instructions.{count, no_mask, reads-same}
use Rattle.frame_meaning.proofs.OperandWidths.{width-of}

-- ---- registers of the first operand

-- each half of each register of the destination has its register, and where one half alone holds elements the operand is one
-- register
abbrev has_halves : (sew lmul8 : ℕ) → Bool
has_halves sew lmul8 = nat_le (2 * (count sew sew lmul8 - 1) + cond (nat_lt lmul8 8) 1 2) (count (2 * sew) sew lmul8) && (nat_le 8 lmul8 || nat_le (count (2 * sew) sew lmul8) 1)

all-halves : list_all (λ (s : Setting). has_halves s.sew s.lmul8) settings ≡ true
unfolding settings
all-halves = refl

pub record HalvesThere (vt : Vtype) : Type 0 where
  pub inside : (g h : ℕ) → g < registers_for vt vt.sew → h < half_count vt → 2 * g + h < registers_for vt (2 * vt.sew)
  pub one : (half_count vt ≡ 2) ⊎ (registers_for vt (2 * vt.sew) ≤ 1)

pub halves-there : (vt : Vtype) → IsTrue (is_vill_or_supported vt) → vt.vill ≡ false → HalvesThere vt
halves-there vt setting there =
    let d = 2 * vt.sew in
    let all = and_parts (nat_le (2 * (registers_for vt vt.sew - 1) + half_count vt) (registers_for vt d)) (nat_le 8 vt.lmul8 || nat_le (registers_for vt d) 1) (at_supported has_halves vt all-halves (in_force vt setting there)) in
    let most : 2 * (registers_for vt vt.sew - 1) + half_count vt ≤ registers_for vt d = leb-true _ _ all.0 in
    record {
      inside = λ g h few first. omega (arith, most, few, first);
      one = ⊎_elim
          (λ (l : vt.lmul8 < 8). inr (leb-true _ _ (rw (lt-leb-false 8 vt.lmul8 l) at all.1)))
          (λ (l : 8 ≤ vt.lmul8). inl (rw (le-ltb vt.lmul8 8 l) refl))
          (cases_lt vt.lmul8 8);
    }
  where
    lt-leb-false : (a b : ℕ) → b < a → nat_le a b ≡ false
    lt-leb-false a b l = ⊎_elim (λ (t : nat_le a b ≡ true). absurd (omega (arith, leb-true a b t))) (λ (f : nat_le a b ≡ false). f) (cases_Bool (nat_le a b))

-- a register of the first operand is read where the destination's with its elements is written
reads-half : (n first all g h : ℕ) → 0 < n → h < 2 → 2 * g + h < all → is_read_for n (2 * n) first all g (first + (2 * g + h)) ≡ true
reads-half n first all g h some half inside =
    let q = 2 * g + h in
    let z : first + q - first ≡ q = omega arith in
    let m1 : suc q ≤ 2 * suc g = omega arith in
    let m2 : suc q * n ≤ 2 * suc g * n = mul-le-mul_right n m1 in
    let low_side : q * n < suc g * (2 * n) = omega arith in
    let m3 : 2 * g ≤ q = omega arith in
    let m4 : 2 * g * n ≤ q * n = mul-le-mul_right n m3 in
    let high : g * (2 * n) < suc q * n = omega arith in
    rw (le-leb first (first + q) (omega arith), lt-ltb (first + q) (first + all) (omega arith), z, lt-ltb (q * n) (suc g * (2 * n)) low_side, lt-ltb (g * (2 * n)) (suc q * n) high) refl

-- ---- the second operand

second-readable : (sh : Shape) (f : Form) (sew vs1 : ℕ) → (f ≡ V → (g : ℕ) → g < sh.registers → IsUnwritten sh g (vs1 + g)) → sew ≡ sh.width → sh.splat ≡ has_scalar f → sh.scalar_width ≡ 2 * sh.width → IsHalfReadable sh (half_in_vs1 f sew vs1)
second-readable sh V sew vs1 beside same splat wide = (refl, same, omega arith, beside refl)
second-readable sh X sew vs1 beside same splat wide = (splat, wide)
second-readable sh I sew vs1 beside same splat wide = (splat, wide)

second-apart : (f : Form) (sew vs1 : ℕ) → is_laid_out_in halves_row (half_in_vs1 f sew vs1) ≡ false
second-apart V sew vs1 = refl
second-apart X sew vs1 = refl
second-apart I sew vs1 = refl

-- it is that of the meaning
second-value : (i : VInstr) (c : Cfg) (x : ℕ) (at : Row) (o : Operation) (f : Form) (v : List (List ℕ)) (e : ℕ) → IsOfHalves o
    → at.vs1 ≡ group_place c.vtype.sew → 8 ≤ c.vtype.sew → i.vs1 < 32
    → operand_of (half_in_vs1 f c.vtype.sew i.vs1) (c.vlen / 8) (2 * c.vtype.sew) (half_scalar_in f c.vtype.sew i.vs1 x) v e ≡ meaning.second_operand i c x at o f v e
second-value i c x at o V v e of place least small = rw (place, of.b) refl
second-value i c x at o X v e of place least small =
    let most : 2 ^ c.vtype.sew ≤ 2 ^ (2 * c.vtype.sew) = pow_mono (twice c.vtype.sew) in
    let fits : low c.vtype.sew x < 2 ^ (2 * c.vtype.sew) = let l : low c.vtype.sew x < 2 ^ c.vtype.sew = mod-lt x (pow_pos c.vtype.sew) in omega arith in
    rw (place, of.b) (mod-eq_of_lt fits)
  where
    twice : (w : ℕ) → w ≤ 2 * w
    twice w = omega arith
second-value i c x at o I v e of place least small =
    let more : 8 ≤ 2 * c.vtype.sew = omega arith in
    let most : 2 ^ 8 ≤ 2 ^ (2 * c.vtype.sew) = pow_mono more in
    let fits : i.vs1 < 2 ^ (2 * c.vtype.sew) = omega arith in
    rw of.immediate (mod-eq_of_lt fits)

-- ---- shapes

row-of-class : (class : Class) (sew : ℕ) (i : VInstr) → class ≡ narrowing → row_of class sew i ≡ half_row sew
unfolding row_of
row-of-class class sew i is = rw is refl

-- what legality says of the registers
pub half-facts : (i : VInstr) (c : Cfg) (s : Slices) → Runs i c s → class_of i.op ≡ narrowing → GroupWritten narrowing i c.vtype c.vtype.sew
unfolding row_of
half-facts i c s runs class = legal_group_law narrowing i c.vtype c.vstart runs.setting runs.legal class c.vtype.sew refl

module _ (o : Operation) (i : VInstr) (c : Cfg) (x : ℕ) where
  abbrev shape : Shape
  shape = half_shape i c x o

  module _ (facts : GroupWritten narrowing i c.vtype c.vtype.sew) where
    -- the elements of the first operand are no wider than 32 bits
    wide-source : ReadBeside c.vtype c.vtype.sew i.vd (2 * c.vtype.sew) i.vs2
    unfolding row_of
    wide-source = facts.sources.vs2 (2 * c.vtype.sew) refl

    framed : (columns : ℕ) → c.vlen ≡ 32 * columns → Framed shape columns
    unfolding half_shape half_elements elements_at
    framed columns long =
        let w = width-of c.vtype.sew facts.sew in
        let d = width-of (2 * c.vtype.sew) wide-source.width in
        let few : registers_for c.vtype c.vtype.sew ≤ 8 = facts.place.few in
        let least : 8 ≤ c.vtype.sew = w.least in
        record {
          width = omega arith;
          lanes = w.lanes;
          vlen = long;
          numbers = omega arith;
          room = facts.place.room;
          scalar_width = omega arith;
          scalar_lanes = d.lanes;
          not_mask = λ t. facts.spares_mask (no_mask o.takes_mask i.vm t);
        }

  pub bounded : Bounded shape (usual_bounds shape)
  unfolding half_shape half_elements elements_at
  bounded =
      usual_bounds_law shape refl (λ t. ltb-true c.vstart c.vl (and_parts (ltb c.vstart c.vl) (makes_mask (half_elements i c x o) || c.vtype.vta) t).0)

  pub halved : (s : Slices) → IsOfHalves o → Runs i c s → c.vl ≤ vlmax c.vtype c.vlen → class_of i.op ≡ narrowing
      → IsHalved shape (half_operands i c.vtype.sew) (half_value_in c o) (half_count c.vtype) s.columns
  unfolding half_shape half_elements elements_at row_of
  halved s of runs short class =
      let sew = c.vtype.sew in
      let facts = half-facts i c s runs class in
      let source = wide-source facts in
      let w = width-of sew facts.sew in
      let d = width-of (2 * sew) source.width in
      let least : 8 ≤ sew = w.least in
      let there = halves-there c.vtype runs.setting facts.vill in
      let small : half_count c.vtype ≤ 2 = few c.vtype in
      let whole : c.vlen / (2 * sew) * (2 * sew) ≡ c.vlen = whole-register (2 * sew) c.vlen s.columns (omega arith) d.lanes runs.long in
      let held : vlmax c.vtype c.vlen ≤ registers_for c.vtype (2 * sew) * (c.vlen / (2 * sew)) = vlmax-held_at c.vtype (2 * sew) c.vlen source.width runs.setting facts.vill whole in
      record {
        framed = framed facts s.columns runs.long;
        whole = w.whole;
        lanes = d.lanes;
        result = λ v e m. refl;
        some = some c.vtype;
        few = small;
        halves = ⊎_elim
            (λ (two : half_count c.vtype ≡ 2). inl two)
            (λ (one : registers_for c.vtype (2 * sew) ≤ 1).
            let m : registers_for c.vtype (2 * sew) * (c.vlen / (2 * sew)) ≤ 1 * (c.vlen / (2 * sew)) = mul-le-mul_right (c.vlen / (2 * sew)) one in
            inr (omega arith))
            there.one;
        a = λ g h inside first.
            source.unwritten g (i.vs2 + (2 * g + h)) inside (reads-half sew i.vs2 (registers_for c.vtype (2 * sew)) g h (omega arith) (omega arith) (there.inside g h inside first));
        b = second-readable shape i.form sew i.vs1
            (λ is g inside. let beside = facts.sources.vs1 sew is refl in beside.unwritten g (i.vs1 + g) inside (reads-same sew i.vs1 (registers_for c.vtype sew) g (omega arith) inside))
            refl refl refl;
        apart = second-apart i.form sew i.vs1;
      }
    where
      some : (vt : Vtype) → 0 < half_count vt
      some vt = elim (nat_lt vt.lmul8 8) as (λ b. 0 < cond b 1 2) [ true ↦ omega arith | false ↦ omega arith ]

      few : (vt : Vtype) → half_count vt ≤ 2
      few vt = elim (nat_lt vt.lmul8 8) as (λ b. cond b 1 2 ≤ 2) [ true ↦ omega arith | false ↦ omega arith ]

  -- the value of the operands that stand in the rows is that of the operands of the meaning
  pub value-here : (v : List (List ℕ)) (e : ℕ) → IsOfHalves o → 8 ≤ c.vtype.sew → i.vs1 < 32 → half_value shape (half_operands i c.vtype.sew) (half_value_in c o) v e ≡ (half_elements i c x o).value v e
  unfolding half_shape half_elements elements_at
  value-here v e of least small =
      let w = c.vtype.sew in
      let at = half_row w in
      let a = element_of (c.vlen / 8) v i.vs2 (2 * w) e in
      let d = meaning.operand_d i c x at o v e in
      let m = meaning.mask_operand i c x at o v e in
      let first : a ≡ meaning.operand_a i c x at o v e = rw of.a refl in
      ap (λ (z : ℕ). o.value w c.vxrm a z 0 false) (second-value i c x at o i.form v e of refl least small)
      ∙ ap (λ (z : ℕ). o.value w c.vxrm z (meaning.operand_b i c x at o v e) 0 false) first
      ∙ sym (of.ignores w c.vxrm (meaning.operand_a i c x at o v e) (meaning.operand_b i c x at o v e) d m)

  -- what the instruction writes is what it means
  pub half-elements-are : class_of i.op ≡ narrowing → half_elements i c x o ≡ on_elements i c x o
  unfolding half_elements elements_at
  half-elements-are class =
      let once : count_at c.vtype (group_place c.vtype.sew) ≡ registers_for c.vtype c.vtype.sew = omega arith in
      ap (λ (n : ℕ). record (elements_at i c x (half_row c.vtype.sew) o) { registers = n; width = c.vtype.sew }) (sym once)
      ∙ ap (λ (at : Row). elements_at i c x at o) (sym (row-of-class (class_of i.op) c.vtype.sew i class))

  whole-elements : 8 ≤ c.vtype.sew → makes_mask (half_elements i c x o) ≡ false
  unfolding half_elements
  whole-elements least = ne_eqb c.vtype.sew 1 (omega arith)

-- ---- the laws

pub halves_meaning_law : HalvesMeaningLaw
unfolding half_program_in half_shape half_elements elements_at
halves_meaning_law o i c x lists s of runs short class leave =
    let v = registers_of s in
    let sh = half_shape i c x o in
    let facts = half-facts i c s runs class in
    let least : 8 ≤ c.vtype.sew = width-least c.vtype.sew facts.sew in
    halved_bytes_law sh (usual_bounds sh) (half_operands i c.vtype.sew) (half_value_in c o) lists (half_count c.vtype) s (halved o i c x s of runs short class) (bounded o i c x) leave runs.some
    ∙ ap (λ (f : ℕ → ℕ). frame.registers_after sh f v) (λ n e. value-here o i c x v e of least runs.immediate n)
    ∙ meaning_law c (half_elements i c x o) (reads_mask i o) (has_scalar i.form) (half_scalar i c.vtype.sew x) (2 * c.vtype.sew) sh.result v (whole-elements o i c x least)
    ∙ ap (λ (e : Elementwise). registers_after c e v) (half-elements-are o i c x class)

pub halves_cost_law : HalvesCostLaw
unfolding half_program_in half_shape half_elements elements_at cost_of length_of
halves_cost_law o i c x lists s each long runs class costs =
    let sh = half_shape i c x o in
    let b = usual_bounds sh in
    let all = half_body i c x o lists in
    let facts = half-facts i c s runs class in
    let w = width-of c.vtype.sew facts.sew in
    record {
      cost = even_tally_law sh b all each (λ g below. (costs g below).cost);
      count = length_law sh b all long (λ g below. (costs g below).count);
      range = range_law sh b all s.columns (framed o i c x facts s.columns runs.long) w.built (λ g below. (costs g below).range s.columns);
    }
