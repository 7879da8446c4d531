-- Legal instructions whose operands are groups of elements at the same place are of the class that the frame takes.
use Rattle.std.proofs.Common.{◌≡◌, suc, ◌+◌, ◌-◌, ℕ, ◌*◌, ◌/◌, ◌%◌, ◌<◌, ◌≤◌, max, Bool, nat_le, IsTrue, eqb, true, false, not, ◌&&◌, ◌||◌, ltb, List, refl, sym, ◌∙◌, ap, arith, inr, ⊎_elim}
use Rattle.std.specs.List.{list_all}
use Rattle.std.proofs.lemmas.Bool.{and_parts, ltb-true, leb-true, ne_eqb, cases_lt, lt-ltb, le-leb}
use Rattle.std.proofs.lemmas.Nat.{div-add-mod', pow_pos}
use Rattle.std.proofs.Math.Nat.{mod-eq_of_lt, mod-lt, mul-le-mul_right}
use Rattle.bit_laws.specs.Numbers.{low}
use Rattle.bit_laws.specs.Signed.{extended}
use Rattle.cam_chain.specs.Views.{registers_of}
use Rattle.micro_ir.specs.WorkRows.{result_row, left_row, right_row}
use Rattle.element_ops.specs.Elements.{element_of}
use Rattle.rvv_decode.specs.declared.instruction.VInstr.{VInstr}
use Rattle.rvv_decode.specs.declared.instruction.Form.{Form}
use Rattle.rvv_decode.specs.declared.instruction.Form.TheVariants.{V, X, I}
use Rattle.vtype_cfg.specs.declared.configuration.Cfg.{Cfg}
use Rattle.vtype_cfg.specs.declared.vtype.Vtype.{Vtype}
use Rattle.vtype_cfg.specs.Settings.{Setting, settings, is_vill_or_supported}
use Rattle.vtype_cfg.specs.Legality.{is_legal}
use Rattle.vtype_cfg.proofs.Supported.{at_supported}
use Rattle.vtype_cfg.specs.Classes.{Class, Row, class_of, row_of, width_at, count_at, group as group_place}
use Rattle.rvv_meaning.specs.Elementwise.{Elementwise, makes_mask, registers_after}
use Rattle.rvv_meaning.specs.Operations.{Operation, reads_mask, elements_at, on_elements}
use Rattle.rvv_meaning.specs.Operations as meaning
use Rattle.legal_groups.specs.Facts.{IsElementWidth, registers_for, is_read_for, ReadBeside, GroupWritten}
use Rattle.legal_groups.proofs.Laws.{legal_group_law}
use Rattle.legal_groups.proofs.Widths.{at_width, width-least, in_force}
use Rattle.frame_laws.specs.Shapes.{Shape, Bounded, usual_bounds}
use Rattle.frame_laws.specs.Laws.{Framed}
use Rattle.frame_laws.specs.Bytes as frame
use Rattle.frame_laws.proofs.Ends.{usual_bounds_law}
use Rattle.frame_laws.proofs.Costs.{even_tally_law, length_law, range_law}
use Rattle.frame_laws.specs.Classes.Operands.{group, narrow, operand_of, is_laid_out_in, IsReadable}
use Rattle.frame_laws.specs.Classes.Plain.{plain_value, IsPlain}
use Rattle.frame_laws.proofs.Classes.Plain.{plain_bytes_law}
use Rattle.frame_meaning.specs.declared.Order.{Order}
use Rattle.frame_meaning.specs.declared.Order.TheVariants.{Straight, Reversed, Second, Exchanged, Widening, WideSource, Half, Quarter}
use Rattle.frame_meaning.specs.Shapes.{source_in_vs1, narrow_in_vs1, has_scalar, signs_of, scalar_at, scalar_in, scalar_of, width_in, count_in, row_in, class_in, operands_in, value_in, elements_in, shape_in, body_in, program_in}
use Rattle.frame_meaning.specs.Laws.{Ignores, ElementsMeaningLaw}
use Rattle.frame_meaning.specs.Costs.{cost_of, length_of, ElementsCostLaw}
use Rattle.frame_meaning.proofs.Meaning.{meaning_law}
use Rattle.frame_meaning.proofs.OperandWidths.{width-of, extended-same, immediate-fits, extended-fits}

-- ---- registers of narrower groups

-- how many registers a group takes
abbrev pub count : (w sew lmul8 : ℕ) → ℕ
count w sew lmul8 = max 1 (lmul8 * w / sew / 8)

-- a group takes no more registers, in proportion, than one whose elements are narrower
abbrev is_fewer : (by n sew lmul8 : ℕ) → Bool
is_fewer by n sew lmul8 = nat_le (count (by * n) sew lmul8) (by * count n sew lmul8)

abbrev AllFewer : (by n : ℕ) → Type 0
AllFewer by n = list_all (λ (s : Setting). is_fewer by n s.sew s.lmul8) settings ≡ true

fewer-halves : (n : ℕ) → IsElementWidth n → AllFewer 2 n
unfolding settings
fewer-halves n is = at_width (AllFewer 2) refl refl refl n is

fewer-quarters : (n : ℕ) → IsElementWidth n → AllFewer 4 n
unfolding settings
fewer-quarters n is = at_width (AllFewer 4) refl refl refl n is

-- a register of a group has its elements in a register of the narrower one
narrow-inside : (vt : Vtype) (by n g : ℕ) → 0 < by → AllFewer by n → IsTrue (is_vill_or_supported vt) → vt.vill ≡ false → g < registers_for vt (by * n) → g / by < registers_for vt n
narrow-inside vt by n g some fewer setting there inside =
    let most : registers_for vt (by * n) ≤ by * registers_for vt n = leb-true _ _ (at_supported (is_fewer by n) vt fewer (in_force vt setting there)) in
    let all : ℕ = registers_for vt n in
    let q : g / by * by + g % by ≡ g = div-add-mod' g by in
    ⊎_elim
    (λ (l : g / by < all). l)
    (λ (l : all ≤ g / by). let m : all * by ≤ g / by * by = mul-le-mul_right by l in absurd (omega arith))
    (cases_lt (g / by) all)

-- a register of a group as wide is read where the destination's with the same number is written; and one of a narrower group
-- where its elements are
pub reads-same : (d first n g : ℕ) → 0 < d → g < n → is_read_for d d first n g (first + g) ≡ true
reads-same d first n g some inside =
    let z : first + g - first ≡ g = omega arith in
    let less : g * d < suc g * d = omega arith in
    rw (le-leb first (first + g) (omega arith), lt-ltb (first + g) (first + n) (omega arith), z, lt-ltb (g * d) (suc g * d) less) refl

reads-narrow : (by s first n g : ℕ) → 0 < by → 0 < s → g / by < n → is_read_for (by * s) s first n g (first + g / by) ≡ true
reads-narrow by s first n g some wide inside =
    let q : g / by * by + g % by ≡ g = div-add-mod' g by in
    let r : g % by < by = mod-lt g some in
    let z : first + g / by - first ≡ g / by = omega arith in
    let low_most : g / by * by ≤ g = omega arith in
    let low_all : g / by * by * s ≤ g * s = mul-le-mul_right s low_most in
    let low : g / by * (by * s) < suc g * s = omega arith in
    let high_most : suc g ≤ suc (g / by) * by = omega arith in
    let high_all : suc g * s ≤ suc (g / by) * by * s = mul-le-mul_right s high_most in
    let high : g * s < suc (g / by) * (by * s) = omega arith in
    rw (le-leb first (first + g / by) (omega arith), lt-ltb (first + g / by) (first + n) (omega arith), z, lt-ltb (g / by * (by * s)) (suc g * s) low, lt-ltb (g * s) (suc (g / by) * (by * s)) high) refl

-- ---- operands

-- a source as wide as the destination can be read
whole-readable : (sh : Shape) (vt : Vtype) (d r : ℕ) → sh.registers ≡ registers_for vt d → ReadBeside vt d sh.vd d r → IsReadable sh (group r)
whole-readable sh vt d r count beside g inside =
    let few : g < registers_for vt d = rw (sym count) inside in
    let least = width-least d beside.width in
    beside.unwritten g (r + g) few (reads-same d r (registers_for vt d) g (omega (arith, least)) few)

-- so can one that is narrower
narrow-readable : (sh : Shape) (vt : Vtype) (signed : Bool) (by n r row : ℕ) → 1 < by → 34 < row → AllFewer by n → IsTrue (is_vill_or_supported vt) → vt.vill ≡ false
    → by * n ≡ sh.width → sh.registers ≡ registers_for vt (by * n) → ReadBeside vt (by * n) sh.vd n r → IsReadable sh (narrow signed by n r row)
narrow-readable sh vt signed by n r row times high fewer setting there wide count beside =
    let least = width-least n beside.width in (
      record { times = times; some = omega (arith, least); wide = wide; whole = (width-of n beside.width).whole; above = high },
      λ g inside.
          let few : g < registers_for vt (by * n) = rw (sym count) inside in
          let held = narrow-inside vt by n g (omega arith) fewer setting there few in
          beside.unwritten g (r + g / by) few (reads-narrow by n r (registers_for vt n) g (omega arith) (omega (arith, least)) held),
    )

-- what stands in the place of vs1
second-readable : (sh : Shape) (f : Form) (vs1 : ℕ) → (f ≡ V → IsReadable sh (group vs1)) → sh.splat ≡ has_scalar f → sh.scalar_width ≡ sh.width → IsReadable sh (source_in_vs1 f vs1)
second-readable sh V vs1 beside splat wide = beside refl
second-readable sh X vs1 beside splat wide = (splat, wide)
second-readable sh I vs1 beside splat wide = (splat, wide)

wide-readable : (sh : Shape) (f : Form) (signed : Bool) (sew vs1 : ℕ) → (f ≡ V → IsReadable sh (narrow signed 2 sew vs1 right_row)) → sh.splat ≡ has_scalar f → sh.scalar_width ≡ sh.width
    → IsReadable sh (narrow_in_vs1 f signed sew vs1)
wide-readable sh V signed sew vs1 beside splat wide = beside refl
wide-readable sh X signed sew vs1 beside splat wide = (splat, wide)
wide-readable sh I signed sew vs1 beside splat wide = (splat, wide)

-- it is laid out in no row of the first operand
second-apart : (f : Form) (vs1 row : ℕ) → is_laid_out_in row (source_in_vs1 f vs1) ≡ false
second-apart V vs1 row = refl
second-apart X vs1 row = refl
second-apart I vs1 row = refl

wide-apart : (f : Form) (signed : Bool) (sew vs1 row : ℕ) → eqb row right_row ≡ false → is_laid_out_in row (narrow_in_vs1 f signed sew vs1) ≡ false
wide-apart V signed sew vs1 row other = other
wide-apart X signed sew vs1 row other = refl
wide-apart I signed sew vs1 row other = refl

-- the second operand is that of the meaning
pub second-value : (order : Order) (i : VInstr) (c : Cfg) (x : ℕ) (at : Row) (o : Operation) (f : Form) (v : List (List ℕ)) (e : ℕ) → width_in order c.vtype.sew ≡ c.vtype.sew → scalar_at order o.signed_b c.vtype.sew x ≡ x
    → at.vs1 ≡ group_place c.vtype.sew → meaning.value_width i c x at o ≡ c.vtype.sew → 8 ≤ c.vtype.sew → i.vs1 < 32
    → operand_of (source_in_vs1 f i.vs1) (c.vlen / 8) c.vtype.sew (scalar_in f order (signs_of o) c.vtype.sew i.vs1 x) v e ≡ meaning.second_operand i c x at o f v e
second-value order i c x at o V v e same cut place wide least small = rw (place, wide) (sym (extended-same o.signed_b c.vtype.sew (element_of (c.vlen / 8) v i.vs1 c.vtype.sew e)))
second-value order i c x at o X v e same cut place wide least small = rw (place, wide, cut) (sym (extended-same o.signed_b c.vtype.sew _))
second-value order i c x at o I v e same cut place wide least small = rw (wide, same) (mod-eq_of_lt (immediate-fits o.signed_immediate c.vtype.sew i.vs1 least small))

wide-value : (order : Order) (i : VInstr) (c : Cfg) (x : ℕ) (at : Row) (o : Operation) (f : Form) (v : List (List ℕ)) (e : ℕ) → width_in order c.vtype.sew ≡ 2 * c.vtype.sew
    → scalar_at order o.signed_b c.vtype.sew x ≡ extended o.signed_b c.vtype.sew (2 * c.vtype.sew) (low c.vtype.sew x)
    → at.vs1 ≡ group_place c.vtype.sew → meaning.value_width i c x at o ≡ 2 * c.vtype.sew → 8 ≤ c.vtype.sew → i.vs1 < 32
    → operand_of (narrow_in_vs1 f o.signed_b c.vtype.sew i.vs1) (c.vlen / 8) (2 * c.vtype.sew) (scalar_in f order (signs_of o) c.vtype.sew i.vs1 x) v e ≡ meaning.second_operand i c x at o f v e
wide-value order i c x at o V v e same cut place wide least small = rw (place, wide) refl
wide-value order i c x at o X v e same cut place wide least small =
    let short : c.vtype.sew ≤ 2 * c.vtype.sew = omega arith in
    rw (place, wide, cut) (mod-eq_of_lt (extended-fits o.signed_b c.vtype.sew (2 * c.vtype.sew) (low c.vtype.sew x) short (mod-lt x (pow_pos c.vtype.sew))))
wide-value order i c x at o I v e same cut place wide least small =
    let more : 8 ≤ 2 * c.vtype.sew = omega arith in
    rw (wide, same) (mod-eq_of_lt (immediate-fits o.signed_immediate (2 * c.vtype.sew) i.vs1 more small))

-- ---- shapes

-- the mask is used, as an operand or to leave elements out
pub no_mask : (takes vm : Bool) → ((not takes && not vm) || (takes && not vm)) ≡ true → vm ≡ false
no_mask true true h = sym h
no_mask true false h = refl
no_mask false true h = sym h
no_mask false false h = refl

-- what legality says of the registers
abbrev Facts : Order → VInstr → Cfg → Type 0
Facts order i c = GroupWritten (class_in order) i c.vtype (width_in order c.vtype.sew)

vd-place : (order : Order) (sew : ℕ) (i : VInstr) → (row_of (class_in order) sew i).vd ≡ group_place (width_in order sew)
unfolding row_of
vd-place Straight sew i = refl
vd-place Reversed sew i = refl
vd-place Second sew i = refl
vd-place Exchanged sew i = refl
vd-place Widening sew i = refl
vd-place WideSource sew i = refl
vd-place Half sew i = refl
vd-place Quarter sew i = refl

pub facts-of : (order : Order) (i : VInstr) (c : Cfg) → IsTrue (is_vill_or_supported c.vtype) → is_legal i c.vtype c.vstart ≡ true → class_of i.op ≡ class_in order → Facts order i c
facts-of order i c setting legal class = legal_group_law (class_in order) i c.vtype c.vstart setting legal class (width_in order c.vtype.sew) (vd-place order c.vtype.sew i)

module _ (order : Order) (o : Operation) (i : VInstr) (c : Cfg) (x : ℕ) where
  abbrev shape : Shape
  shape = shape_in order i c x o

  module _ (facts : Facts order i c) where
    framed : (columns : ℕ) → c.vlen ≡ 32 * columns → Framed shape columns
    unfolding shape_in elements_in elements_at
    framed columns long =
        let w = width-of (width_in order c.vtype.sew) facts.width in
        let few : count_in order c.vtype ≤ 8 = facts.place.few in
        let least : 8 ≤ width_in order c.vtype.sew = w.least in
        record {
          width = omega arith;
          lanes = w.lanes;
          vlen = long;
          numbers = omega arith;
          room = facts.place.room;
          scalar_width = omega arith;
          scalar_lanes = w.lanes;
          not_mask = λ t. facts.spares_mask (no_mask o.takes_mask i.vm t);
        }

    -- the destination as an operand
    destination : IsReadable shape (group i.vd)
    unfolding shape_in elements_in elements_at
    destination g inside =
        let room = facts.place.room in
        (omega arith, inr (omega arith))

  pub bounded : Bounded shape (usual_bounds shape)
  unfolding shape_in elements_in elements_at
  bounded =
      usual_bounds_law shape refl (λ t. ltb-true c.vstart c.vl (and_parts (ltb c.vstart c.vl) (makes_mask (elements_in order i c x o) || c.vtype.vta) t).0)

-- ---- what the classes say of the operands

halves : (w : ℕ) → IsElementWidth w → 2 * (w / 2) ≡ w
halves w is = at_width (λ (n : ℕ). 2 * (n / 2) ≡ n) refl refl refl w is

quarters : (w : ℕ) → IsElementWidth w → 4 * (w / 4) ≡ w
quarters w is = at_width (λ (n : ℕ). 4 * (n / 4) ≡ n) refl refl refl w is

pub is-plain : (order : Order) (o : Operation) (i : VInstr) (c : Cfg) (x columns : ℕ) → IsTrue (is_vill_or_supported c.vtype) → c.vlen ≡ 32 * columns → Facts order i c
    → IsPlain (shape_in order i c x o) (operands_in order (signs_of o) i c.vtype.sew) (value_in order i c o) columns
unfolding shape_in elements_in elements_at row_of
is-plain Straight o i c x columns setting long facts =
    let sh = shape_in Straight i c x o in
    let sew = c.vtype.sew in
    record {
      framed = framed Straight o i c x facts columns long;
      result = λ v e m. refl;
      a = whole-readable sh c.vtype sew i.vs2 refl (facts.sources.vs2 sew refl);
      b = second-readable sh i.form i.vs1 (λ is. whole-readable sh c.vtype sew i.vs1 refl (facts.sources.vs1 sew is refl)) refl refl;
      addend = destination Straight o i c x facts;
      apart = λ g inside. second-apart i.form i.vs1 (i.vs2 + g);
    }
is-plain Reversed o i c x columns setting long facts =
    let sh = shape_in Reversed i c x o in
    let sew = c.vtype.sew in
    record {
      framed = framed Reversed o i c x facts columns long;
      result = λ v e m. refl;
      a = second-readable sh i.form i.vs1 (λ is. whole-readable sh c.vtype sew i.vs1 refl (facts.sources.vs1 sew is refl)) refl refl;
      b = whole-readable sh c.vtype sew i.vs2 refl (facts.sources.vs2 sew refl);
      addend = destination Reversed o i c x facts;
      apart = λ g inside. refl;
    }
is-plain Second o i c x columns setting long facts =
    let sh = shape_in Second i c x o in
    let sew = c.vtype.sew in
    record {
      framed = framed Second o i c x facts columns long;
      result = λ v e m. refl;
      a = destination Second o i c x facts;
      b = second-readable sh i.form i.vs1 (λ is. whole-readable sh c.vtype sew i.vs1 refl (facts.sources.vs1 sew is refl)) refl refl;
      addend = destination Second o i c x facts;
      apart = λ g inside. second-apart i.form i.vs1 (i.vd + g);
    }
is-plain Exchanged o i c x columns setting long facts =
    let sh = shape_in Exchanged i c x o in
    let sew = c.vtype.sew in
    record {
      framed = framed Exchanged o i c x facts columns long;
      result = λ v e m. refl;
      a = destination Exchanged o i c x facts;
      b = second-readable sh i.form i.vs1 (λ is. whole-readable sh c.vtype sew i.vs1 refl (facts.sources.vs1 sew is refl)) refl refl;
      addend = whole-readable sh c.vtype sew i.vs2 refl (facts.sources.vs2 sew refl);
      apart = λ g inside. second-apart i.form i.vs1 (i.vd + g);
    }
is-plain Widening o i c x columns setting long facts =
    let sh = shape_in Widening i c x o in
    let sew = c.vtype.sew in
    let fewer = fewer-halves sew facts.sew in
    record {
      framed = framed Widening o i c x facts columns long;
      result = λ v e m. refl;
      a = narrow-readable sh c.vtype o.signed_a 2 sew i.vs2 left_row (omega arith) (omega arith) fewer setting facts.vill refl refl (facts.sources.vs2 sew refl);
      b = wide-readable sh i.form o.signed_b sew i.vs1
          (λ is. narrow-readable sh c.vtype o.signed_b 2 sew i.vs1 right_row (omega arith) (omega arith) fewer setting facts.vill refl refl (facts.sources.vs1 sew is refl)) refl refl;
      addend = destination Widening o i c x facts;
      apart = λ g inside. wide-apart i.form o.signed_b sew i.vs1 left_row refl;
    }
is-plain WideSource o i c x columns setting long facts =
    let sh = shape_in WideSource i c x o in
    let sew = c.vtype.sew in
    let fewer = fewer-halves sew facts.sew in
    let first : IsReadable sh (group i.vs2) = whole-readable sh c.vtype (2 * sew) i.vs2 refl (facts.sources.vs2 (2 * sew) refl) in
    record {
      framed = framed WideSource o i c x facts columns long;
      result = λ v e m. refl;
      a = first;
      b = wide-readable sh i.form o.signed_b sew i.vs1
          (λ is. narrow-readable sh c.vtype o.signed_b 2 sew i.vs1 right_row (omega arith) (omega arith) fewer setting facts.vill refl refl (facts.sources.vs1 sew is refl)) refl refl;
      addend = destination WideSource o i c x facts;
      apart = λ g inside. let register : i.vs2 + g < 32 = (first g inside).0 in wide-apart i.form o.signed_b sew i.vs1 (i.vs2 + g) (ne_eqb (i.vs2 + g) right_row (omega arith));
    }
is-plain Half o i c x columns setting long facts =
    let sh = shape_in Half i c x o in
    let sew = c.vtype.sew in
    let beside = facts.sources.vs2 (sew / 2) refl in
    let wide : 2 * (sew / 2) ≡ sew = halves sew facts.sew in
    record {
      framed = framed Half o i c x facts columns long;
      result = λ v e m. refl;
      a = narrow-readable sh c.vtype o.signed_a 2 (sew / 2) i.vs2 result_row (omega arith) (omega arith) (fewer-halves (sew / 2) beside.width) setting facts.vill wide (ap (registers_for c.vtype) (sym wide)) (rw wide beside);
      b = destination Half o i c x facts;
      addend = destination Half o i c x facts;
      apart = λ g inside. refl;
    }
is-plain Quarter o i c x columns setting long facts =
    let sh = shape_in Quarter i c x o in
    let sew = c.vtype.sew in
    let beside = facts.sources.vs2 (sew / 4) refl in
    let wide : 4 * (sew / 4) ≡ sew = quarters sew facts.sew in
    record {
      framed = framed Quarter o i c x facts columns long;
      result = λ v e m. refl;
      a = narrow-readable sh c.vtype o.signed_a 4 (sew / 4) i.vs2 result_row (omega arith) (omega arith) (fewer-quarters (sew / 4) beside.width) setting facts.vill wide (ap (registers_for c.vtype) (sym wide)) (rw wide beside);
      b = destination Quarter o i c x facts;
      addend = destination Quarter o i c x facts;
      apart = λ g inside. refl;
    }

-- ---- what the instruction means

-- where all are as wide
same-value : (order : Order) (o : Operation) (i : VInstr) (c : Cfg) (x : ℕ) (v : List (List ℕ)) (e d : ℕ) (m : Bool) → width_in order c.vtype.sew ≡ c.vtype.sew → scalar_at order o.signed_b c.vtype.sew x ≡ x → 8 ≤ c.vtype.sew → i.vs1 < 32
    → o.value c.vtype.sew c.vxrm (element_of (c.vlen / 8) v i.vs2 c.vtype.sew e)
    (operand_of (source_in_vs1 i.form i.vs1) (c.vlen / 8) c.vtype.sew (scalar_in i.form order (signs_of o) c.vtype.sew i.vs1 x) v e) d m
    ≡ o.value c.vtype.sew c.vxrm (meaning.operand_a i c x (row_in Straight c.vtype.sew) o v e) (meaning.operand_b i c x (row_in Straight c.vtype.sew) o v e) d m
same-value order o i c x v e d m same cut least small =
    let w = c.vtype.sew in
    let at = row_in Straight w in
    let second = operand_of (source_in_vs1 i.form i.vs1) (c.vlen / 8) w (scalar_in i.form order (signs_of o) w i.vs1 x) v e in
    ap (λ (z : ℕ). o.value w c.vxrm z second d m) (sym (extended-same o.signed_a w (element_of (c.vlen / 8) v i.vs2 w e)))
    ∙ ap (λ (z : ℕ). o.value w c.vxrm (meaning.operand_a i c x at o v e) z d m) (second-value order i c x at o i.form v e same cut refl refl least small)

-- the value of the operands that stand in the rows is that of the operands of the meaning
pub values : (order : Order) (o : Operation) (i : VInstr) (c : Cfg) (x : ℕ) (v : List (List ℕ)) (e : ℕ) → Ignores order o → 8 ≤ c.vtype.sew → i.vs1 < 32
    → plain_value (shape_in order i c x o) (operands_in order (signs_of o) i c.vtype.sew) (value_in order i c o) v e ≡ (elements_in order i c x o).value v e
unfolding shape_in elements_in elements_at
values Straight o i c x v e ignores least small =
    let at = row_in Straight c.vtype.sew in
    same-value Straight o i c x v e (meaning.operand_d i c x at o v e) (meaning.mask_operand i c x at o v e) refl refl least small
values Reversed o i c x v e ignores least small =
    let at = row_in Reversed c.vtype.sew in
    same-value Reversed o i c x v e (meaning.operand_d i c x at o v e) (meaning.mask_operand i c x at o v e) refl refl least small
values Exchanged o i c x v e ignores least small =
    let at = row_in Exchanged c.vtype.sew in
    same-value Exchanged o i c x v e (meaning.operand_d i c x at o v e) (meaning.mask_operand i c x at o v e) refl refl least small
values Second o i c x v e ignores least small =
    let w = c.vtype.sew in
    let at = row_in Second w in
    let d = meaning.operand_d i c x at o v e in
    let m = meaning.mask_operand i c x at o v e in
    let second = operand_of (source_in_vs1 i.form i.vs1) (c.vlen / 8) w (scalar_in i.form Second (signs_of o) w i.vs1 x) v e in
    ignores w c.vxrm (element_of (c.vlen / 8) v i.vd w e) (meaning.operand_a i c x at o v e) second d m
    ∙ ap (λ (z : ℕ). o.value w c.vxrm (meaning.operand_a i c x at o v e) z d m) (second-value Second i c x at o i.form v e refl refl refl refl least small)
values Widening o i c x v e ignores least small =
    let at = row_in Widening c.vtype.sew in
    let d = meaning.operand_d i c x at o v e in
    let m = meaning.mask_operand i c x at o v e in
    ap (λ (z : ℕ). o.value (2 * c.vtype.sew) c.vxrm (meaning.operand_a i c x at o v e) z d m) (wide-value Widening i c x at o i.form v e refl refl refl refl least small)
values WideSource o i c x v e ignores least small =
    let w = 2 * c.vtype.sew in
    let at = row_in WideSource c.vtype.sew in
    let d = meaning.operand_d i c x at o v e in
    let m = meaning.mask_operand i c x at o v e in
    let second = operand_of (narrow_in_vs1 i.form o.signed_b c.vtype.sew i.vs1) (c.vlen / 8) w (scalar_in i.form WideSource (signs_of o) c.vtype.sew i.vs1 x) v e in
    ap (λ (z : ℕ). o.value w c.vxrm z second d m) (sym (extended-same o.signed_a w (element_of (c.vlen / 8) v i.vs2 w e)))
    ∙ ap (λ (z : ℕ). o.value w c.vxrm (meaning.operand_a i c x at o v e) z d m) (wide-value WideSource i c x at o i.form v e refl refl refl refl least small)
values Half o i c x v e ignores least small =
    let at = row_in Half c.vtype.sew in
    ignores c.vtype.sew c.vxrm (meaning.operand_a i c x at o v e) (element_of (c.vlen / 8) v i.vd c.vtype.sew e) (meaning.operand_b i c x at o v e) (meaning.operand_d i c x at o v e) (meaning.mask_operand i c x at o v e)
values Quarter o i c x v e ignores least small =
    let at = row_in Quarter c.vtype.sew in
    ignores c.vtype.sew c.vxrm (meaning.operand_a i c x at o v e) (element_of (c.vlen / 8) v i.vd c.vtype.sew e) (meaning.operand_b i c x at o v e) (meaning.operand_d i c x at o v e) (meaning.mask_operand i c x at o v e)

-- the places of the class
row-of-class : (order : Order) (class : Class) (sew : ℕ) (i : VInstr) → class ≡ class_in order → row_of class sew i ≡ row_in order sew
unfolding row_of
row-of-class Straight class sew i is = rw is refl
row-of-class Reversed class sew i is = rw is refl
row-of-class Second class sew i is = rw is refl
row-of-class Exchanged class sew i is = rw is refl
row-of-class Widening class sew i is = rw is refl
row-of-class WideSource class sew i is = rw is refl
row-of-class Half class sew i is = rw is refl
row-of-class Quarter class sew i is = rw is refl

-- the destination of each order
row-vd : (order : Order) (sew : ℕ) → (row_in order sew).vd ≡ group_place (width_in order sew)
row-vd Straight sew = refl
row-vd Reversed sew = refl
row-vd Second sew = refl
row-vd Exchanged sew = refl
row-vd Widening sew = refl
row-vd WideSource sew = refl
row-vd Half sew = refl
row-vd Quarter sew = refl

vd-width : (order : Order) (c : Cfg) → width_at c.vtype (row_in order c.vtype.sew).vd ≡ width_in order c.vtype.sew
vd-width order c = rw (row-vd order c.vtype.sew) refl

vd-count : (order : Order) (c : Cfg) → count_at c.vtype (row_in order c.vtype.sew).vd ≡ count_in order c.vtype
vd-count order c = rw (row-vd order c.vtype.sew) (omega arith)

-- what the instruction writes, with the registers of its destination, is what it means
pub elements-are : (order : Order) (o : Operation) (i : VInstr) (c : Cfg) (x : ℕ) → class_of i.op ≡ class_in order → elements_in order i c x o ≡ on_elements i c x o
unfolding elements_in elements_at
elements-are order o i c x class =
    ap (λ (n : ℕ). record (elements_at i c x (row_in order c.vtype.sew) o) { registers = n; width = width_in order c.vtype.sew }) (sym (vd-count order c))
    ∙ ap (λ (w : ℕ). record (elements_at i c x (row_in order c.vtype.sew) o) { width = w }) (sym (vd-width order c))
    ∙ ap (λ (at : Row). elements_at i c x at o) (sym (row-of-class order (class_of i.op) c.vtype.sew i class))

-- the results are no bits of a mask
whole-elements : (order : Order) (o : Operation) (i : VInstr) (c : Cfg) (x : ℕ) → 8 ≤ width_in order c.vtype.sew → makes_mask (elements_in order i c x o) ≡ false
unfolding elements_in
whole-elements order o i c x least = ne_eqb (width_in order c.vtype.sew) 1 (omega arith)

-- ---- the laws

pub elements_meaning_law : ElementsMeaningLaw
unfolding program_in shape_in elements_in elements_at
elements_meaning_law order o i c x body s ignores runs class is =
    let v = registers_of s in
    let sh = shape_in order i c x o in
    let signs = signs_of o in
    let with = operands_in order signs i c.vtype.sew in
    let value = value_in order i c o in
    let facts = facts-of order i c runs.setting runs.legal class in
    let w = width-of (width_in order c.vtype.sew) facts.width in
    let least : 8 ≤ c.vtype.sew = width-least c.vtype.sew facts.sew in
    let plain = is-plain order o i c x s.columns runs.setting runs.long facts in
    plain_bytes_law sh (usual_bounds sh) with value body s plain (bounded order o i c x) is runs.some w.whole
    ∙ ap (λ (f : ℕ → ℕ). frame.registers_after sh f v) (λ n e. values order o i c x v e ignores least runs.immediate n)
    ∙ meaning_law c (elements_in order i c x o) (reads_mask i o) (has_scalar i.form) (scalar_of order signs i c.vtype.sew x) (width_in order c.vtype.sew) sh.result v (whole-elements order o i c x w.least)
    ∙ ap (λ (e : Elementwise). registers_after c e v) (elements-are order o i c x class)

pub elements_cost_law : ElementsCostLaw
unfolding program_in shape_in elements_in elements_at cost_of length_of
elements_cost_law order o i c x body s each long runs class costs =
    let sh = shape_in order i c x o in
    let b = usual_bounds sh in
    let all = body_in order i c o body in
    let facts = facts-of order i c runs.setting runs.legal class in
    let p = is-plain order o i c x s.columns runs.setting runs.long facts in
    let w = width-of (width_in order c.vtype.sew) facts.width in
    record {
      cost = even_tally_law sh b all each (λ g below. (costs g below).cost);
      count = length_law sh b all long (λ g below. (costs g below).count);
      range = range_law sh b all s.columns p.framed w.built (λ g below. (costs g below).range s.columns);
    }
