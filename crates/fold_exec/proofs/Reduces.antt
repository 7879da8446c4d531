-- What legality says of a reduction, and that its group lies in the registers.
use Rattle.std.proofs.Common.{◌≡◌, ◌≢◌, ℕ, zero, suc, ◌+◌, ◌*◌, ◌/◌, ◌<◌, ◌≤◌, Bool, true, false, cond, Some, refl, sym, ◌∙◌, ap, arith, inl, inr}
use Rattle.std.specs.Prelude.{IsTrue}
use Rattle.std.proofs.lemmas.Bool.{false≢true}
use Rattle.std.proofs.lemmas.Nat.{div-mul-add, mul-le}
use Rattle.std.proofs.Math.Nat.{mul-le-mul_left}
use Rattle.frame_laws.proofs.Classes.Operands.{whole-register}
use Rattle.frame_meaning.proofs.OperandWidths.{width-of}
use Rattle.frame_meaning.proofs.Wholes.{valid-parts}
use Rattle.legal_groups.specs.Facts.{IsElementWidth, registers_for, group_count}
use Rattle.legal_groups.proofs.Groups.{count-is, vlmax-held}
use Rattle.legal_groups.proofs.Rules.{legal_law}
use Rattle.legal_groups.proofs.Widths.{vlmax-short}
use Rattle.gen_reduce.specs.Kinds.{is_wide}
use Rattle.row_counts.specs.declared.span.Span.{Span}
use Rattle.row_counts.specs.Spans.{IsSpan, SpanFits}
use Rattle.rvv_decode.specs.declared.instruction.VInstr.{VInstr}
use Rattle.vtype_cfg.specs.declared.configuration.Cfg.{Cfg}
use Rattle.vtype_cfg.specs.Classes.{reduction, widening_reduction, row_of, class_of, starts_at_zero, needs_no_setting}
use Rattle.vtype_cfg.specs.Legality.{is_legal}
use Rattle.vtype_cfg.specs.Settings.{is_valid}
use Rattle.vtype_cfg.proofs.Lengths.{vlen_from, vlen_words}
use Rattle.vtype_cfg.proofs.Supported.{vlen_bounded}
use Rattle.fold_exec.specs.declared.kinds.Folding.{Folding}
use Rattle.fold_exec.specs.declared.kinds.Folding.TheVariants.{Counted, Ordered}
use Rattle.fold_exec.specs.declared.kinds.Kind.TheVariants.{Fold}
use Rattle.fold_exec.specs.Kinds.{kind_for, is_widening, result_bits}
use Rattle.fold_exec.specs.Programs.{span_of, folding_length}
use Rattle.fold_exec.proofs.Table.{of-kind}

-- where the registers of a legal reduction lie, and how wide its elements are
pub record Reduces (wide : Bool) (i : VInstr) (c : Cfg) : Type 0 where
  pub start : c.vstart ≡ 0
  pub vill : c.vtype.vill ≡ false
  pub sew : IsElementWidth c.vtype.sew
  pub few : 1 * registers_for c.vtype c.vtype.sew ≤ 8
  pub room : i.vs2 + 1 * registers_for c.vtype c.vtype.sew ≤ 32
  pub most : cond wide (2 * c.vtype.sew) c.vtype.sew ≤ 32

reduces-as : (wide : Bool) (i : VInstr) (c : Cfg) → IsTrue (is_valid c) → is_legal i c.vtype c.vstart ≡ true → class_of i.op ≡ cond wide widening_reduction reduction → Reduces wide i c
unfolding row_of starts_at_zero needs_no_setting
reduces-as true i c valid legal class =
    let o = legal_law widening_reduction i c.vtype c.vstart (valid-parts c valid).setting legal class in
    let setting = o.setting refl in
    record { start = o.start refl; vill = setting.0; sew = setting.1; few = o.vs2.few; room = o.vs2.room (omega arith); most = o.vd.wide }
reduces-as false i c valid legal class =
    let o = legal_law reduction i c.vtype c.vstart (valid-parts c valid).setting legal class in
    let setting = o.setting refl in
    record { start = o.start refl; vill = setting.0; sew = setting.1; few = o.vs2.few; room = o.vs2.room (omega arith); most = o.vd.wide }

pub widest : (w : ℕ) → IsElementWidth w → w ≤ 32
widest w (inl is) = omega arith
widest w (inr (inl is)) = omega arith
widest w (inr (inr is)) = omega arith

pub last-width : (w : ℕ) → IsElementWidth w → w ≢ 8 → w ≢ 16 → w ≡ 32
last-width w (inl is) a b = absurd (a is)
last-width w (inr (inl is)) a b = absurd (b is)
last-width w (inr (inr is)) a b = is

-- where the result is twice as wide, an element is narrow
pub narrow : (wide : Bool) (w : ℕ) → cond wide (2 * w) w ≤ 32 → wide ≡ true → w ≤ 16
narrow true w most is = omega arith
narrow false w most is = absurd (false≢true is)

-- how long a list is, at most
counted-few : (wide : Bool) (w regs : ℕ) → w ≤ 32 → regs ≤ 8 → regs * (2 * w + 1) + (2 * cond wide (2 * w) w + 11) ≤ 4096
counted-few wide w regs narrow few =
    let rows : regs * (2 * w + 1) ≤ 8 * 65 = mul-le regs (2 * w + 1) 8 65 few (omega arith) in
    chosen wide rows
  where
    chosen : (b : Bool) → regs * (2 * w + 1) ≤ 8 * 65 → regs * (2 * w + 1) + (2 * cond b (2 * w) w + 11) ≤ 4096
    chosen true rows = omega arith
    chosen false rows = omega arith

length-few : (folding : Folding) (w : ℕ) (span : Span) → w ≤ 32 → span.regs ≤ 8 → folding_length folding w span ≤ 4096
length-few (Counted kind) w span narrow few = counted-few (is_wide kind) w span.regs narrow few
length-few (Ordered kind) w span narrow few =
    let all : w * (7 * (span.regs + 1) + 4) ≤ 32 * 67 = mul-le w (7 * (span.regs + 1) + 4) 32 67 narrow (omega arith) in
    omega arith

-- twice a width, where that is no more than the widest
twice-width : (w : ℕ) → IsElementWidth w → 2 * w ≤ 32 → IsElementWidth (2 * w)
twice-width w (inl is) most = inr (inl (omega arith))
twice-width w (inr (inl is)) most = inr (inr (omega arith))
twice-width w (inr (inr is)) most = absurd (omega arith)

wide-width : (wide : Bool) (w : ℕ) → IsElementWidth w → cond wide (2 * w) w ≤ 32 → IsElementWidth (cond wide (2 * w) w)
wide-width true w is most = twice-width w is most
wide-width false w is most = is

module _ (folding : Folding) (i : VInstr) (c : Cfg) (is : kind_for i.op ≡ Some (Fold folding)) (valid : IsTrue (is_valid c)) (legal : is_legal i c.vtype c.vstart ≡ true) where
  pub reduces : Reduces (is_widening folding) i c
  reduces = reduces-as (is_widening folding) i c valid legal (of-kind i.op (Fold folding) is).class

  pub result-width : IsElementWidth (result_bits folding c.vtype.sew)
  result-width = wide-width (is_widening folding) c.vtype.sew reduces.sew reduces.most

  pub vlen-is : c.vlen ≡ 32 * (c.vlen / 32)
  vlen-is = sym (vlen_words c.vlen (valid-parts c valid).length)

  pub group-few : group_count c.vtype ≤ 8
  group-few = let few = reduces.few in omega (arith, count-is c.vtype reduces.sew, few)

  pub group-room : i.vs2 + group_count c.vtype ≤ 32
  group-room = let room = reduces.room in omega (arith, count-is c.vtype reduces.sew, room)

  pub length-short : c.vl ≤ c.vlen
  length-short =
      let v = valid-parts c valid in
      let short = v.short in
      omega (arith, short, vlmax-short c.vtype c.vlen v.setting reduces.vill)

  module _ (columns : ℕ) (long : c.vlen ≡ 32 * columns) where
    pub per-is : c.vlen / c.vtype.sew ≡ columns * (32 / c.vtype.sew)
    per-is =
        let w = width-of c.vtype.sew reduces.sew in
        let least = w.least in
        let whole : c.vlen ≡ columns * (32 / c.vtype.sew) * c.vtype.sew + 0 = long ∙ omega (arith, ap (λ x. columns * x) w.lanes) in
        rw whole (div-mul-add (columns * (32 / c.vtype.sew)) c.vtype.sew 0 (omega arith))

    pub span-is : IsSpan (span_of i c)
    span-is =
        let v = valid-parts c valid in
        let w = width-of c.vtype.sew reduces.sew in
        let sew = c.vtype.sew in
        let least = w.least in
        let short = v.short in
        let divides : c.vlen / sew * sew ≡ c.vlen = whole-register sew c.vlen columns (omega arith) w.lanes long in
        let held = vlmax-held c.vtype c.vlen v.setting reduces.vill divides in
        let lowest = vlen_from c.vlen v.length in
        let highest = vlen_bounded c.vlen v.length in
        record {
          some = omega arith;
          few = group-few;
          room = group-room;
          per_some = per-some (c.vlen / sew) sew (omega (arith, divides, lowest));
          per_few = per-few (c.vlen / sew) sew least (omega (arith, divides, highest));
          to = omega (arith, short, held);
        }
      where
        per-some : (n w : ℕ) → 0 < n * w → 0 < n
        per-some zero w some = let z : 0 * w ≡ 0 = omega arith in omega (arith, z)
        per-some (suc n) w some = omega arith

        per-few : (n w : ℕ) → 8 ≤ w → n * w ≤ 65536 → n ≤ 8192
        per-few n w least most = let m : n * 8 ≤ n * w = mul-le-mul_left n least in omega arith

    pub span-fits : SpanFits c.vtype.sew columns (span_of i c)
    span-fits = record { group = span-is; per = per-is; mask = λ masked. omega (arith, length-short) }

  -- how long the list is, at most
  pub folding-few : folding_length folding c.vtype.sew (span_of i c) ≤ 4096
  folding-few = length-few folding c.vtype.sew (span_of i c) (widest c.vtype.sew reduces.sew) group-few
