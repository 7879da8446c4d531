-- What a valid configuration has, and where the operands of a legal instruction stand.
use Rattle.std.proofs.Common.{◌≡◌, inl, inr, ℕ, ◌+◌, ◌*◌, ◌/◌, ◌<◌, ◌≤◌, Bool, true, false, cond, eqb, nat_lt, refl, sym, arith, ◌⊎◌}
use Rattle.std.specs.Prelude.{IsTrue}
use Rattle.std.proofs.lemmas.Bool.{and_parts, leb-true, false≢true}
use Rattle.gen_div.specs.Rows.{IsSignedRow}
use Rattle.gen_div.specs.declared.kinds.Division.TheVariants.{Divu, Remu, Div, Rem}
use Rattle.micro_ir.specs.WorkRows.{IsOperandRow, result_row, right_row}
use Rattle.steer_net.specs.Moves.{is_wide}
use Rattle.rvv_decode.specs.declared.instruction.Form.{Form}
use Rattle.rvv_decode.specs.declared.instruction.Form.TheVariants.{V, X, I}
use Rattle.rvv_decode.specs.declared.instruction.VInstr.{VInstr}
use Rattle.vtype_cfg.specs.declared.configuration.Cfg.{Cfg}
use Rattle.vtype_cfg.specs.declared.vtype.Vtype.{Vtype}
use Rattle.vtype_cfg.specs.Settings.{is_legal_vlen, is_vill_or_supported, is_valid, vlmax}
use Rattle.vtype_cfg.specs.Classes.{class_of, narrowing}
use Rattle.vtype_cfg.specs.Classes as classes
use Rattle.vtype_cfg.specs.Legality.{is_legal}
use Rattle.legal_groups.specs.Facts.{IsElementWidth, registers_for, group_count, ReadBeside, GroupWritten}
use Rattle.legal_groups.proofs.Laws.{legal_group_law}
use Rattle.frame_laws.specs.Classes.Operands.{narrow, row_of, IsReadable}
use Rattle.frame_laws.specs.Classes.Plain.{Operands}
use Rattle.frame_laws.specs.Shapes.{Shape}
use Rattle.frame_meaning.specs.declared.Order.TheVariants.{Half, Quarter}
use Rattle.frame_meaning.specs.Shapes.{source_in_vs1, narrow_in_vs1, class_in}
use Rattle.frame_meaning.specs.Halves.{half_count, half_in_vs1}
use Rattle.frame_meaning.proofs.Halves.{HalvesThere, halves-there}
use Rattle.vec_exec.specs.declared.recipes.Listed.{Listed}
use Rattle.vec_exec.specs.declared.recipes.Listed.TheVariants.{Bits, Sums, Truths, Choices, Shifts, Products, Fractions, Roundings, Averages, Saturations, Divisions, Copies, Halves, Clips}
use Rattle.vec_exec.specs.declared.recipes.Recipe.{Recipe}
use Rattle.vec_exec.specs.Recipes.{takes_laid, uses_wide_rows, FitsRows}
use Rattle.vec_exec.specs.Programs.{width_of, count_of, IsLayable, IsPlaced, IsMaskPlaced, IsHalfPlaced}

-- ---- what a valid configuration has

-- a vector type that is supported or vill, a legal length, and no more elements than a group holds
pub valid-setting : (c : Cfg) → IsTrue (is_valid c) → IsTrue (is_vill_or_supported c.vtype)
unfolding is_valid
valid-setting c valid = (and_parts _ _ (and_parts _ _ (and_parts _ _ (and_parts _ _ valid).0).0).0).1

pub valid-length : (c : Cfg) → IsTrue (is_valid c) → IsTrue (is_legal_vlen c.vlen)
unfolding is_valid
valid-length c valid = (and_parts _ _ (and_parts _ _ (and_parts _ _ (and_parts _ _ valid).0).0).0).0

pub valid-mode : (c : Cfg) → IsTrue (is_valid c) → c.vxrm ≤ 3
unfolding is_valid
valid-mode c valid = leb-true c.vxrm 3 (and_parts _ _ valid).1

pub valid-short : (c : Cfg) → IsTrue (is_valid c) → c.vl ≤ vlmax c.vtype c.vlen
unfolding is_valid
valid-short c valid = leb-true c.vl (vlmax c.vtype c.vlen) (and_parts _ _ (and_parts _ _ (and_parts _ _ valid).0).0).1

-- ---- rows

pub no-bit : (w : ℕ) → IsElementWidth w → eqb w 1 ≡ false
no-bit w (inl is) = rw is refl
no-bit w (inr (inl is)) = rw is refl
no-bit w (inr (inr is)) = rw is refl

-- the row of what stands in the place of vs1: where it is as wide, and where it is laid out
pub second-row : (sh : Shape) (form : Form) (vs1 g : ℕ) → g < sh.registers → IsReadable sh (source_in_vs1 form vs1) → IsSignedRow (row_of (source_in_vs1 form vs1) g)
second-row sh V vs1 g inside readable = inl (readable g inside).0
second-row sh X vs1 g inside readable = inr refl
second-row sh I vs1 g inside readable = inr refl

pub wide-row : (form : Form) (signed : Bool) (sew vs1 g : ℕ) → IsOperandRow (row_of (narrow_in_vs1 form signed sew vs1) g)
wide-row V signed sew vs1 g = inr (inr (inr (inr refl)))
wide-row X signed sew vs1 g = inr (inr (inl refl))
wide-row I signed sew vs1 g = inr (inr (inl refl))

pub compared-row : (form : Form) (vs1 n g : ℕ) → g < n → (form ≡ V → vs1 + n ≤ 32) → IsSignedRow (row_of (source_in_vs1 form vs1) g)
compared-row V vs1 n g inside room = let r : vs1 + n ≤ 32 = room refl in inl (omega arith)
compared-row X vs1 n g inside room = inr refl
compared-row I vs1 n g inside room = inr refl

pub operand-row : (row : ℕ) → IsSignedRow row → IsOperandRow row
operand-row row (inl register) = inl register
operand-row row (inr scalar) = inr (inr (inl scalar))

-- the rows that fit a list: registers and the scalar's, those of wide operands too, and that of results
pub plain-rows : (list : Listed) (a b : ℕ) → takes_laid list ≡ false → IsSignedRow a → IsSignedRow b → FitsRows list a b
plain-rows (Divisions Divu) a b laid first second = (operand-row a first, operand-row b second)
plain-rows (Divisions Remu) a b laid first second = (operand-row a first, operand-row b second)
plain-rows (Divisions Div) a b laid first second = (first, second)
plain-rows (Divisions Rem) a b laid first second = (first, second)
plain-rows (Bits kind) a b laid first second = (operand-row a first, operand-row b second)
plain-rows (Sums kind) a b laid first second = (operand-row a first, operand-row b second)
plain-rows (Truths kind) a b laid first second = (operand-row a first, operand-row b second)
plain-rows (Choices kind) a b laid first second = (operand-row a first, operand-row b second)
plain-rows (Shifts kind) a b laid first second = (operand-row a first, operand-row b second)
plain-rows (Products kind) a b laid first second = (operand-row a first, operand-row b second)
plain-rows Fractions a b laid first second = (operand-row a first, operand-row b second)
plain-rows (Saturations kind) a b laid first second = (operand-row a first, operand-row b second)
plain-rows (Averages kind sub) a b laid first second = (operand-row a first, operand-row b second)
plain-rows (Roundings right) a b laid first second = (operand-row a first, operand-row b second)
plain-rows (Halves kind) a b laid first second = (operand-row a first, operand-row b second)
plain-rows (Clips kind) a b laid first second = (operand-row a first, operand-row b second)
plain-rows Copies a b laid first second = absurd (false≢true (sym laid))

pub wide-rows : (list : Listed) (a b : ℕ) → takes_laid list ≡ false → uses_wide_rows list ≡ false → IsOperandRow a → IsOperandRow b → FitsRows list a b
wide-rows (Divisions kind) a b laid free first second = absurd (false≢true (sym free))
wide-rows (Bits kind) a b laid free first second = (first, second)
wide-rows (Sums kind) a b laid free first second = (first, second)
wide-rows (Truths kind) a b laid free first second = (first, second)
wide-rows (Choices kind) a b laid free first second = (first, second)
wide-rows (Shifts kind) a b laid free first second = (first, second)
wide-rows (Products kind) a b laid free first second = (first, second)
wide-rows Fractions a b laid free first second = (first, second)
wide-rows (Saturations kind) a b laid free first second = (first, second)
wide-rows (Averages kind sub) a b laid free first second = (first, second)
wide-rows (Roundings right) a b laid free first second = (first, second)
wide-rows (Halves kind) a b laid free first second = (first, second)
wide-rows (Clips kind) a b laid free first second = (first, second)
wide-rows Copies a b laid free first second = absurd (false≢true (sym laid))

pub laid-rows : (list : Listed) (b : ℕ) → takes_laid list ≡ true → IsOperandRow b → FitsRows list result_row b
laid-rows Copies b laid second = (refl, second)
laid-rows (Divisions kind) b laid second = absurd (false≢true laid)
laid-rows (Bits kind) b laid second = absurd (false≢true laid)
laid-rows (Sums kind) b laid second = absurd (false≢true laid)
laid-rows (Truths kind) b laid second = absurd (false≢true laid)
laid-rows (Choices kind) b laid second = absurd (false≢true laid)
laid-rows (Shifts kind) b laid second = absurd (false≢true laid)
laid-rows (Products kind) b laid second = absurd (false≢true laid)
laid-rows Fractions b laid second = absurd (false≢true laid)
laid-rows (Saturations kind) b laid second = absurd (false≢true laid)
laid-rows (Averages kind sub) b laid second = absurd (false≢true laid)
laid-rows (Roundings right) b laid second = absurd (false≢true laid)
laid-rows (Halves kind) b laid second = absurd (false≢true laid)
laid-rows (Clips kind) b laid second = absurd (false≢true laid)

-- rows that fit a list are rows
pub operand-small : (r : ℕ) → IsOperandRow r → r < 64
operand-small r (inl is) = omega (arith, is)
operand-small r (inr (inl is)) = omega (arith, is)
operand-small r (inr (inr (inl is))) = omega (arith, is)
operand-small r (inr (inr (inr (inl is)))) = omega (arith, is)
operand-small r (inr (inr (inr (inr is)))) = omega (arith, is)

pub both-small : (a b : ℕ) → IsOperandRow a × IsOperandRow b → (a < 64) × (b < 64)
both-small a b fit = (operand-small a fit.0, operand-small b fit.1)

pub fits-small : (list : Listed) (a b : ℕ) → FitsRows list a b → (a < 64) × (b < 64)
fits-small (Divisions Divu) a b fit = both-small a b fit
fits-small (Divisions Remu) a b fit = both-small a b fit
fits-small (Divisions Div) a b fit = both-small a b (operand-row a fit.0, operand-row b fit.1)
fits-small (Divisions Rem) a b fit = both-small a b (operand-row a fit.0, operand-row b fit.1)
fits-small (Bits kind) a b fit = both-small a b fit
fits-small (Sums kind) a b fit = both-small a b fit
fits-small (Truths kind) a b fit = both-small a b fit
fits-small (Choices kind) a b fit = both-small a b fit
fits-small (Shifts kind) a b fit = both-small a b fit
fits-small (Products kind) a b fit = both-small a b fit
fits-small Fractions a b fit = both-small a b fit
fits-small (Saturations kind) a b fit = both-small a b fit
fits-small (Averages kind sub) a b fit = both-small a b fit
fits-small (Roundings right) a b fit = both-small a b fit
fits-small (Halves kind) a b fit = both-small a b fit
fits-small (Clips kind) a b fit = both-small a b fit
fits-small Copies a b fit = let is : a ≡ 36 = fit.0 in (omega arith, operand-small b fit.1)

-- an operand that can be read can be laid out
pub layable : (sh : Shape) (signed : Bool) (by n first row g : ℕ) → IsElementWidth n → g < sh.registers → IsReadable sh (narrow signed by n first row) → IsLayable (narrow signed by n first row) sh.width g
layable sh signed by n first row g wide inside readable = ((readable.1 g inside).0, wide, readable.0.times, readable.0.wide)

pub second-layable : (sh : Shape) (form : Form) (vs1 g : ℕ) → IsLayable (source_in_vs1 form vs1) sh.width g
second-layable sh V vs1 g = tt
second-layable sh X vs1 g = tt
second-layable sh I vs1 g = tt

pub wide-layable : (sh : Shape) (form : Form) (signed : Bool) (sew vs1 g : ℕ) → IsElementWidth sew → g < sh.registers → IsReadable sh (narrow_in_vs1 form signed sew vs1) → IsLayable (narrow_in_vs1 form signed sew vs1) sh.width g
wide-layable sh V signed sew vs1 g wide inside readable = layable sh signed 2 sew vs1 right_row g wide inside readable
wide-layable sh X signed sew vs1 g wide inside readable = tt
wide-layable sh I signed sew vs1 g wide inside readable = tt

-- the rows of a list's operands for register g, and that they can be laid out
pub record Rows (list : Listed) (with : Operands) (w g : ℕ) : Type 0 where
  pub fit : FitsRows list (row_of with.a g) (row_of with.b g)
  pub addend : with.addend + g < 32
  pub first : IsLayable with.a w g
  pub second : IsLayable with.b w g

-- what a plan needs of an instruction
pub record Plans (r : Recipe) (i : VInstr) (c : Cfg) : Type 0 where
  pub sew : IsElementWidth c.vtype.sew
  pub width : IsElementWidth (width_of r c)
  pub few : count_of r c ≤ 8
  pub placed : (g : ℕ) → g < count_of r c → IsPlaced r i c g

pub record MaskPlans (r : Recipe) (i : VInstr) (c : Cfg) : Type 0 where
  pub sew : IsElementWidth c.vtype.sew
  pub few : group_count c.vtype ≤ 8
  pub vd : i.vd < 32
  pub placed : (g : ℕ) → g < group_count c.vtype → IsMaskPlaced r i g

pub record HalfPlans (r : Recipe) (i : VInstr) (c : Cfg) : Type 0 where
  pub narrow : (c.vtype.sew ≡ 8) ⊎ (c.vtype.sew ≡ 16)
  pub few : registers_for c.vtype c.vtype.sew ≤ 8
  pub placed : (g : ℕ) → g < registers_for c.vtype c.vtype.sew → IsHalfPlaced r i c g

-- what legality says of such an instruction
pub record HalfLegal (i : VInstr) (c : Cfg) : Type 0 where
  written : GroupWritten narrowing i c.vtype c.vtype.sew
  source : ReadBeside c.vtype c.vtype.sew i.vd (2 * c.vtype.sew) i.vs2
  second : i.form ≡ V → ReadBeside c.vtype c.vtype.sew i.vd c.vtype.sew i.vs1
  there : HalvesThere c.vtype

-- ---- sources of other widths

pub source-half : (i : VInstr) (c : Cfg) → GroupWritten (class_in Half) i c.vtype c.vtype.sew → IsElementWidth (c.vtype.sew / 2)
unfolding classes.row_of
source-half i c facts = (facts.sources.vs2 (c.vtype.sew / 2) refl).width

pub source-quarter : (i : VInstr) (c : Cfg) → GroupWritten (class_in Quarter) i c.vtype c.vtype.sew → IsElementWidth (c.vtype.sew / 4)
unfolding classes.row_of
source-quarter i c facts = (facts.sources.vs2 (c.vtype.sew / 4) refl).width

-- ---- instructions whose first operand is twice as wide

pub half-legal : (i : VInstr) (c : Cfg) → IsTrue (is_vill_or_supported c.vtype) → is_legal i c.vtype c.vstart ≡ true → class_of i.op ≡ narrowing → HalfLegal i c
unfolding classes.row_of
half-legal i c setting legal class =
    let facts = legal_group_law narrowing i c.vtype c.vstart setting legal class c.vtype.sew refl in
    record {
      written = facts;
      source = facts.sources.vs2 (2 * c.vtype.sew) refl;
      second = λ is. facts.sources.vs1 c.vtype.sew is refl;
      there = halves-there c.vtype setting facts.vill;
    }

-- twice as wide an element has at most 32 bits
pub half-narrow : (w : ℕ) → IsElementWidth w → IsElementWidth (2 * w) → (w ≡ 8) ⊎ (w ≡ 16)
half-narrow w (inl is) wide = inl is
half-narrow w (inr (inl is)) wide = inr is
half-narrow w (inr (inr is)) (inl x) = absurd (omega (arith, is, x))
half-narrow w (inr (inr is)) (inr (inl x)) = absurd (omega (arith, is, x))
half-narrow w (inr (inr is)) (inr (inr x)) = absurd (omega (arith, is, x))

pub half-built : (w : ℕ) → (w ≡ 8) ⊎ (w ≡ 16) → is_wide (2 * w) ≡ true
half-built w (inl is) = rw is refl
half-built w (inr is) = rw is refl

pub half-wide : {w : ℕ} → (w ≡ 8) ⊎ (w ≡ 16) → IsElementWidth w
half-wide (inl is) = inl is
half-wide (inr is) = inr (inl is)

pub half-second : (i : VInstr) (c : Cfg) (form : Form) (g h : ℕ) → IsElementWidth c.vtype.sew → g < registers_for c.vtype c.vtype.sew → h < 2 → (form ≡ V → i.vs1 + registers_for c.vtype c.vtype.sew ≤ 32)
    → IsOperandRow (row_of (half_in_vs1 form c.vtype.sew i.vs1) (2 * g + h)) × IsLayable (half_in_vs1 form c.vtype.sew i.vs1) (2 * c.vtype.sew) (2 * g + h)
half-second i c V g h wide inside first room =
    let all : i.vs1 + registers_for c.vtype c.vtype.sew ≤ 32 = room refl in
    let q : (2 * g + h) / 2 ≡ g = omega arith in
    let place : i.vs1 + (2 * g + h) / 2 < 32 = rw q (omega arith) in
    (inr (inr (inr (inl refl))), (place, wide, omega arith, refl))
half-second i c X g h wide inside first room = (inr (inr (inl refl)), tt)
half-second i c I g h wide inside first room = (inr (inr (inl refl)), tt)

pub half-planned : (r : Recipe) (i : VInstr) (c : Cfg) → c.vxrm ≤ 3 → HalfLegal i c → HalfPlans r i c
half-planned r i c mode legal =
    let facts = legal.written in
    let there = legal.there in
    let wide : registers_for c.vtype (2 * c.vtype.sew) ≤ 32 = let room = legal.source.place.room in omega arith in
    record {
      narrow = half-narrow c.vtype.sew facts.sew legal.source.width;
      few = facts.place.few;
      placed = λ g inside. record {
        mode = mode;
        vd = let room : i.vd + registers_for c.vtype c.vtype.sew ≤ 32 = facts.place.room in omega arith;
        wide = half-built c.vtype.sew (half-narrow c.vtype.sew facts.sew legal.source.width);
        a = λ h first. let room : i.vs2 + registers_for c.vtype (2 * c.vtype.sew) ≤ 32 = legal.source.place.room in omega (arith, there.inside g h inside first);
        b = λ h first. let few : half_count c.vtype ≤ 2 = two c.vtype in half-second i c i.form g h facts.sew inside (omega arith) (λ is. (legal.second is).place.room);
      };
    }
  where
    two : (vt : Vtype) → half_count vt ≤ 2
    two vt = elim (nat_lt vt.lmul8 8) as (λ b. cond b 1 2 ≤ 2) [ true ↦ omega arith | false ↦ omega arith ]
