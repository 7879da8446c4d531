-- The programs as the code writes them.
use Rattle.std.proofs.Common.{◌≡◌, ℕ, ◌+◌, ◌-◌, ◌*◌, ◌/◌, ◌%◌, ◌^◌, ◌<◌, ◌≤◌, Bool, true, false, cond, nat_lt, List, [], ◌∷◌, ◌++◌, zero, suc, max, length, eqb, refl, sym, ◌∙◌, ap, subst, arith, inl, inr, ⊎_elim, length-append, append_assoc}
use Rattle.std.proofs.lemmas.Bool.{cases_lt, false≢true}
use Rattle.std.proofs.lemmas.Nat.{mul-le, div-mul-add}
use Rattle.std.proofs.Math.Nat.{mod-eq_of_lt, mod-lt, mul-le-mul_right}
use Rattle.cam_chain.specs.declared.counts.Counts.{Counts}
use Rattle.cam_chain.specs.ChainValue.{no_counts}
use Rattle.frame_laws.specs.Classes.Halved.{half_list, halves_list}
use Rattle.frame_laws.specs.Classes.Operands.{Operand, group, scalar, narrow, laid_out}
use Rattle.frame_laws.specs.Costs.{counts_times}
use Rattle.frame_meaning.specs.Halves.{half_count, half_in_vs1}
use Rattle.frame_meaning.specs.Shapes.{source_in_vs1, narrow_in_vs1, operands_in}
use Rattle.frame_meaning.specs.declared.Order.{Order}
use Rattle.frame_meaning.specs.declared.Order.TheVariants.{Straight, Reversed, Second, Exchanged, Widening, WideSource, Half, Quarter}
use Rattle.frame_meaning.specs.declared.Signs.{Signs}
use Rattle.gen_fixed.specs.Kinds.{clip_length}
use Rattle.gen_fixed.specs.declared.kinds.Clipping.{Clipping}
use Rattle.gen_fixed.specs.declared.kinds.Clipping.TheVariants.{Clipu, Clip}
use Rattle.gen_mul.specs.Fractions.{smul_length}
use Rattle.gen_shift.specs.Kinds.{raw_length, mode_length}
use Rattle.gen_shift.specs.Lists.{mode_on}
use Rattle.gen_shift.specs.Rows.{is_odd, shift_role}
use Rattle.gen_shift.specs.declared.kinds.Shift.{Shift}
use Rattle.gen_shift.specs.declared.kinds.Shift.TheVariants.{Sll, Srl, Sra}
use Rattle.legal_groups.specs.Facts.{IsElementWidth, registers_for, group_count}
use Rattle.legal_groups.proofs.Widths.{width-least}
use Rattle.micro_ir.specs.Measures.{counts, Measured}
use Rattle.micro_ir.specs.Replay.{counts_and}
use Rattle.micro_ir.specs.declared.op.MicroOp.{MicroOp}
use Rattle.micro_ir.specs.declared.op.MicroOp.TheVariants.{Narrow, Spread}
use Rattle.steer_net.specs.Moves.{is_wide}
use Rattle.steer_net.specs.Network.{is_width}
use Rattle.micro_ir.proofs.Lists.{no_counts-and, tally-none, tally-one, tally-append, AllInRange-none, AllInRange-one, AllInRange-append}
use Rattle.rvv_decode.specs.declared.instruction.Form.{Form}
use Rattle.rvv_decode.specs.declared.instruction.Form.TheVariants.{V, X, I}
use Rattle.rvv_decode.specs.declared.instruction.VInstr.{VInstr}
use Rattle.rvv_meaning.specs.Operations.{log2}
use Rattle.vtype_cfg.specs.declared.configuration.Cfg.{Cfg}
use Rattle.vtype_cfg.specs.declared.vtype.Vtype.{Vtype}
use Rattle.vec_exec.specs.declared.recipes.Listed.{Listed}
use Rattle.vec_exec.specs.declared.recipes.Listed.TheVariants.{Bits, Sums, Truths, Choices, Shifts, Products, Fractions, Roundings, Averages, Saturations, Divisions, Copies, Halves, Clips}
use Rattle.vec_exec.specs.declared.recipes.Recipe.{Recipe}
use Rattle.vec_exec.specs.Recipes.{shift_of, moved_in, makes_bits, makes_halves, value_row, tells_clips, length_of}
use Rattle.rvv_meaning.specs.Elementwise.{is_ones}
use Rattle.vec_exec.specs.Programs.{reads, list_for, width_of, operands_of, halves_of, wide_lists, laid_length, laid_counts, IsLayable, one_half_length, free_count, register_list, register_length, registers_list, mask_register_list, mask_register_length, mask_registers_list, half_register_list, half_register_length, half_registers_list}
use Rattle.vec_exec.proofs.Widths.{log2-is, log2-small}

-- a width that divides a word is at most one
pub width-most : (w : ℕ) → 32 % w ≡ 0 → w ≤ 32
width-most w divides =
    ⊎_elim
    (λ (l : 32 < w). let e : 32 % w ≡ 32 = mod-eq_of_lt l in absurd (omega (arith, divides, e)))
    (λ (l : w ≤ 32). l)
    (cases_lt 32 w)

-- a width that is neither of the others
pub last-width : (w : ℕ) → IsElementWidth w → (w ≡ 8 → ⊥) → (w ≡ 16 → ⊥) → w ≡ 32
last-width w (inl is) no_8 no_16 = absurd (no_8 is)
last-width w (inr (inl is)) no_8 no_16 = absurd (no_16 is)
last-width w (inr (inr is)) no_8 no_16 = is

-- a group of elements of SEW bits has as many registers as LMUL says
pub sew-count : (vt : Vtype) → IsElementWidth vt.sew → registers_for vt vt.sew ≡ group_count vt
sew-count vt wide =
    let least = width-least vt.sew wide in
    let z : vt.lmul8 * vt.sew ≡ vt.lmul8 * vt.sew + 0 = omega arith in
    let e : vt.lmul8 * vt.sew / vt.sew ≡ vt.lmul8 = ap (λ (x : ℕ). x / vt.sew) z ∙ div-mul-add vt.lmul8 vt.sew 0 (omega (arith, least)) in
    ap (λ (x : ℕ). max 1 (x / 8)) e

pub flag-few : (b : Bool) (n : ℕ) → cond b n 0 ≤ n
flag-few true n = omega arith
flag-few false n = omega arith

-- so many operations of a list leave a program of 8 registers within its room
abbrev pub ListsFew : Type 0
ListsFew = (list : Listed) (w mode : ℕ) → w ≤ 32 → length_of list w mode ≤ 30000

-- a list that tells truths is none of the others
pub bits-no-halves : (list : Listed) → makes_bits list ≡ true → makes_halves list ≡ false
bits-no-halves (Bits kind) bits = refl
bits-no-halves (Sums kind) bits = refl
bits-no-halves (Truths kind) bits = refl
bits-no-halves (Choices kind) bits = refl
bits-no-halves (Shifts kind) bits = refl
bits-no-halves (Products kind) bits = refl
bits-no-halves Fractions bits = refl
bits-no-halves (Saturations kind) bits = refl
bits-no-halves (Averages kind sub) bits = refl
bits-no-halves (Roundings right) bits = refl
bits-no-halves (Divisions kind) bits = refl
bits-no-halves Copies bits = refl
bits-no-halves (Halves kind) bits = absurd (false≢true bits)
bits-no-halves (Clips kind) bits = absurd (false≢true bits)

-- ---- registers

module _ (r : Recipe) (i : VInstr) (c : Cfg) where
  pub registers-none : registers_list r i c 0 ≡ []
  unfolding registers_list
  registers-none = refl

  pub registers-more : (g : ℕ) → registers_list r i c (g + 1) ≡ registers_list r i c g ++ register_list r i c g
  unfolding registers_list
  registers-more g = let e : g + 1 ≡ suc g = omega arith in rw e refl

  pub mask-registers-none : mask_registers_list r i c 0 ≡ []
  unfolding mask_registers_list
  mask-registers-none = refl

  pub mask-registers-more : (g : ℕ) → mask_registers_list r i c (g + 1) ≡ mask_registers_list r i c g ++ mask_register_list r i c g
  unfolding mask_registers_list
  mask-registers-more g = let e : g + 1 ≡ suc g = omega arith in rw e refl

  pub half-registers-none : half_registers_list r i c 0 ≡ []
  unfolding half_registers_list
  half-registers-none = refl

  pub half-registers-more : (g : ℕ) → half_registers_list r i c (g + 1) ≡ half_registers_list r i c g ++ half_register_list r i c g
  unfolding half_registers_list
  half-registers-more g = let e : g + 1 ≡ suc g = omega arith in rw e refl

  -- the halves of a register
  pub half-none : (g : ℕ) → halves_list c.vtype.sew (halves_of r i c) (wide_lists r i c) g 0 ≡ []
  unfolding halves_list
  half-none g = refl

  pub half-more : (g h : ℕ) → halves_list c.vtype.sew (halves_of r i c) (wide_lists r i c) g (h + 1) ≡ halves_list c.vtype.sew (halves_of r i c) (wide_lists r i c) g h ++ half_list c.vtype.sew (halves_of r i c) (wide_lists r i c) g h
  unfolding halves_list
  half-more g h = let e : h + 1 ≡ suc h = omega arith in rw e refl

-- lists that are appended one after the other
pub four-parts : (xs a b c d s1 s2 s3 s4 : List MicroOp) → s1 ≡ xs ++ a → s2 ≡ s1 ++ b → s3 ≡ s2 ++ c → s4 ≡ s3 ++ d → s4 ≡ xs ++ (a ++ (b ++ (c ++ d)))
four-parts xs a b c d s1 s2 s3 s4 e1 e2 e3 e4 = rw (e4, e3, e2, e1) (simp append_assoc)

-- lists that are appended to the operations that stand round the halves of a register
pub five-parts : (xs a b c d e s1 s2 s3 s4 s5 : List MicroOp) → s1 ≡ xs ++ a → s2 ≡ s1 ++ b → s3 ≡ s2 ++ c → s4 ≡ s3 ++ d → s5 ≡ s4 ++ e → s5 ≡ xs ++ (a ++ ((b ++ (c ++ d)) ++ e))
five-parts xs a b c d e s1 s2 s3 s4 s5 e1 e2 e3 e4 e5 = rw (e5, e4, e3, e2, e1) (simp append_assoc)

-- what holds of each register below g and of register g holds of each below g + 1
pub one-more : (P : ℕ → Type 0) (g : ℕ) → ((k : ℕ) → k < g → P k) → P g → (k : ℕ) → k < g + 1 → P k
one-more P g before here k inside =
    ⊎_elim
    (λ (l : k < g). before k l)
    (λ (l : g ≤ k). let e : k ≡ g = omega (arith, l, inside) in rw e here)
    (cases_lt k g)

-- ---- the free bits of a mask

-- the operations that mark them, with the first registers
abbrev pub free_so_far : (ones : Bool) → (g : ℕ) → ℕ
free_so_far ones zero = 0
free_so_far ones (suc g) = cond ones 1 0

pub free-few : (ones : Bool) (g : ℕ) → free_so_far ones g + free_count ones g ≤ cond ones 1 0
free-few true zero = omega arith
free-few false zero = omega arith
free-few true (suc g) = omega arith
free-few false (suc g) = omega arith

pub free-more : (ones : Bool) (g : ℕ) → free_so_far ones (g + 1) ≡ free_so_far ones g + free_count ones g
free-more ones zero = let e : 0 + 1 ≡ suc 0 = omega arith in rw e (omega arith)
free-more ones (suc g) = let e : suc g + 1 ≡ suc (suc g) = omega arith in rw e (omega arith)

pub free-all : (ones : Bool) (g : ℕ) → 0 < g → free_so_far ones g ≡ cond ones 1 0
free-all ones zero some = absurd (omega arith)
free-all ones (suc g) some = refl

-- the operations of a fill: one marks, a search and an update
pub fill-parts : (ones : Bool) → cond ones 3 0 ≡ cond ones 2 0 + cond ones 1 0
fill-parts true = refl
fill-parts false = refl

-- ---- what lays operands out

laid-few : (op : Operand) (w : ℕ) → w ≤ 32 → laid_length op w ≤ 97
laid-few (group r) w narrow_enough = omega arith
laid-few scalar w narrow_enough = omega arith
laid-few (narrow signed by n r row) w narrow_enough = few signed
  where
    few : (b : Bool) → 1 + cond b (3 * (w - n)) 0 ≤ 97
    few true = omega arith
    few false = omega arith

-- lists one after the other cost together
pub measured-none : Measured no_counts 0 []
measured-none = record { cost = tally-none; count = refl; range = λ columns. AllInRange-none columns }

pub measured-append : (a b : Counts) (m n : ℕ) (xs ys : List MicroOp) → Measured a m xs → Measured b n ys → Measured (counts_and a b) (m + n) (xs ++ ys)
measured-append a b m n xs ys x y = record {
  cost = tally-append xs ys ∙ (λ z. counts_and (x.cost z) (y.cost z));
  count = length-append xs ys ∙ (λ z. x.count z + y.count z);
  range = λ columns. AllInRange-append columns xs ys (x.range columns) (y.range columns);
}

pub measured-same : (a b : Counts) (m n : ℕ) (xs : List MicroOp) → a ≡ b → m ≡ n → Measured a m xs → Measured b n xs
measured-same a b m n xs same long x = subst (λ (k : Counts). Measured k n xs) same (subst (λ (l : ℕ). Measured a l xs) long x)

-- what is not narrower is not laid out
pub record Unlaid (op : Operand) (w g : ℕ) : Type 0 where
  pub list : laid_out op w g ≡ []
  pub long : laid_length op w ≡ 0
  pub cost : Measured (laid_counts op w) (laid_length op w) (laid_out op w g)

unlaid-group : (r w g : ℕ) → Unlaid (group r) w g
unlaid-group r w g = record { list = refl; long = refl; cost = measured-none }

unlaid-scalar : (w g : ℕ) → Unlaid scalar w g
unlaid-scalar w g = record { list = refl; long = refl; cost = measured-none }

unlaid-second : (form : Form) (vs1 w g : ℕ) → Unlaid (source_in_vs1 form vs1) w g
unlaid-second V vs1 w g = unlaid-group vs1 w g
unlaid-second X vs1 w g = unlaid-scalar w g
unlaid-second I vs1 w g = unlaid-scalar w g

pub unlaid-wide : (form : Form) (signed : Bool) (sew vs1 w g : ℕ) → (form ≡ V → ⊥) → Unlaid (narrow_in_vs1 form signed sew vs1) w g
unlaid-wide V signed sew vs1 w g other = absurd (other refl)
unlaid-wide X signed sew vs1 w g other = unlaid-scalar w g
unlaid-wide I signed sew vs1 w g other = unlaid-scalar w g

pub unlaid-half : (form : Form) (sew vs1 w g : ℕ) → (form ≡ V → ⊥) → Unlaid (half_in_vs1 form sew vs1) w g
unlaid-half V sew vs1 w g other = absurd (other refl)
unlaid-half X sew vs1 w g other = unlaid-scalar w g
unlaid-half I sew vs1 w g other = unlaid-scalar w g

pub unlaid-first : (order : Order) (signs : Signs) (i : VInstr) (sew w g : ℕ) → (order ≡ Widening → ⊥) → (order ≡ Half → ⊥) → (order ≡ Quarter → ⊥) → Unlaid (operands_in order signs i sew).a w g
unlaid-first Straight signs i sew w g a b c = unlaid-group i.vs2 w g
unlaid-first Reversed signs i sew w g a b c = unlaid-second i.form i.vs1 w g
unlaid-first Second signs i sew w g a b c = unlaid-group i.vd w g
unlaid-first Exchanged signs i sew w g a b c = unlaid-group i.vd w g
unlaid-first Widening signs i sew w g a b c = absurd (a refl)
unlaid-first WideSource signs i sew w g a b c = unlaid-group i.vs2 w g
unlaid-first Half signs i sew w g a b c = absurd (b refl)
unlaid-first Quarter signs i sew w g a b c = absurd (c refl)

pub unlaid-last : (order : Order) (signs : Signs) (i : VInstr) (sew w g : ℕ) → (order ≡ Widening → ⊥) → (order ≡ WideSource → ⊥) → Unlaid (operands_in order signs i sew).b w g
unlaid-last Straight signs i sew w g a b = unlaid-second i.form i.vs1 w g
unlaid-last Reversed signs i sew w g a b = unlaid-group i.vs2 w g
unlaid-last Second signs i sew w g a b = unlaid-second i.form i.vs1 w g
unlaid-last Exchanged signs i sew w g a b = unlaid-second i.form i.vs1 w g
unlaid-last Widening signs i sew w g a b = absurd (a refl)
unlaid-last WideSource signs i sew w g a b = absurd (b refl)
unlaid-last Half signs i sew w g a b = unlaid-group i.vd w g
unlaid-last Quarter signs i sew w g a b = unlaid-group i.vd w g

-- the widths of an operand that is laid out
pub narrower-than : (by n w : ℕ) → IsElementWidth n → 1 < by → by * n ≡ w → (0 < n) × (n < w)
narrower-than by n w wide times same =
    let least = width-least n wide in
    let more : 2 * n ≤ by * n = mul-le-mul_right n times in
    (omega (arith, least), omega (arith, least, more))

element-built : (w : ℕ) → IsElementWidth w → is_width w ≡ true
element-built w (inl is) = rw is refl
element-built w (inr (inl is)) = rw is refl
element-built w (inr (inr is)) = rw is refl

-- the operation that spreads it
pub measured-spread : (r by n w row g : ℕ) → IsLayable (narrow false by n r row) w g → is_width w ≡ true → row < 64 → Measured no_counts 1 (Spread (r + g / by) row n w (g % by) ∷ [])
measured-spread r by n w row g layable built work =
    let wide = layable.1 in
    let times = layable.2 in
    let size = narrower-than by n w wide times layable.3 in
    let same : by * n + 0 ≡ w = omega (arith, layable.3) in
    let parts : w / n ≡ by = ap (λ (x : ℕ). x / n) (sym same) ∙ div-mul-add by n 0 size.0 in
    let part : g % by < w / n = rw parts (mod-lt g (omega arith)) in
    record {
      cost = tally-one (Spread (r + g / by) row n w (g % by));
      count = refl;
      range = λ columns. AllInRange-one columns (Spread (r + g / by) row n w (g % by)) (let l = layable.0 in omega arith, work, element-built n wide, built, size.1, part);
    }

-- and where it is extended by its sign
pub measured-signed : (r by n w row g : ℕ) (extend : List MicroOp) → IsLayable (narrow true by n r row) w g → is_width w ≡ true → row < 64 → Measured (counts (w - n) (w - n) (w - n)) (3 * (w - n)) extend
    → Measured (counts (w - n) (w - n) (w - n)) (1 + 3 * (w - n)) (Spread (r + g / by) row n w (g % by) ∷ extend)
measured-signed r by n w row g extend layable built work measured =
    measured-same _ _ _ _ _ (no_counts-and _) refl (measured-append _ _ _ _ (Spread (r + g / by) row n w (g % by) ∷ []) extend (measured-spread r by n w row g layable built work) measured)

-- a width that divides a word and is at least 8 is built
pub width-built : (w l : ℕ) → w ≡ 2 ^ l → 32 % w ≡ 0 → 8 ≤ w → is_width w ≡ true
width-built w l power divides least = by-log l (log2-is w l power divides least) power
  where
    by-log : (l : ℕ) → log2 w ≡ l → w ≡ 2 ^ l → is_width w ≡ true
    by-log zero is power = absurd (omega (arith, power, least))
    by-log (suc zero) is power = absurd (omega (arith, power, least))
    by-log (suc (suc zero)) is power = absurd (omega (arith, power, least))
    by-log (suc (suc (suc zero))) is power = rw power refl
    by-log (suc (suc (suc (suc zero)))) is power = rw power refl
    by-log (suc (suc (suc (suc (suc zero))))) is power = rw power refl
    by-log (suc (suc (suc (suc (suc (suc l)))))) is power =
        let small = log2-small w in
        absurd (omega (arith, is, small))

-- the operation that takes the low halves
pub measured-narrow : (from to wide part : ℕ) → from < 64 → to < 64 → is_wide wide ≡ true → part ≤ 1 → Measured no_counts 1 (Narrow from to wide part ∷ [])
measured-narrow from to wide part row other built first = record {
  cost = tally-one (Narrow from to wide part);
  count = refl;
  range = λ columns. AllInRange-one columns (Narrow from to wide part) (row, other, built, first);
}

-- the row that a list leaves its result in
pub value-low : (list : Listed) (l : ℕ) → value_row list l < 64
value-low (Clips kind) l = omega arith
value-low _ l = elim (is_odd l) as (λ b. shift_role b < 64) [ true ↦ omega arith | false ↦ omega arith ]

-- one half more
pub halves-more : (n : ℕ) (c : Counts) → counts_and (counts_times n c) c ≡ counts_times (n + 1) c
halves-more n c =
    let s : n * c.searches + c.searches ≡ (n + 1) * c.searches = omega arith in
    let u : n * c.updates + c.updates ≡ (n + 1) * c.updates = omega arith in
    let p : n * c.passes + c.passes ≡ (n + 1) * c.passes = omega arith in
    λ i. record { searches = s i; updates = u i; passes = p i }

pub halves-none : (c : Counts) → no_counts ≡ counts_times 0 c
halves-none c =
    let s : 0 ≡ 0 * c.searches = omega arith in
    let u : 0 ≡ 0 * c.updates = omega arith in
    let p : 0 ≡ 0 * c.passes = omega arith in
    λ i. record { searches = s i; updates = u i; passes = p i }

pub half-few : (vt : Vtype) → half_count vt ≤ 2
half-few vt = elim (nat_lt vt.lmul8 8) as (λ b. cond b 1 2 ≤ 2) [ true ↦ omega arith | false ↦ omega arith ]

-- ---- the room of a program

-- the length of a shift at twice the width
raw-few : (kind : Shift) (w l : ℕ) → w ≤ 64 → l ≤ 5 → raw_length kind w l ≤ 3000
raw-few Sll w l most few = let each : 3 * w + 13 ≤ 205 = omega arith in let all : l * (3 * w + 13) ≤ 5 * 205 = mul-le l (3 * w + 13) 5 205 few each in omega arith
raw-few Srl w l most few = let each : 3 * w + 13 ≤ 205 = omega arith in let all : l * (3 * w + 13) ≤ 5 * 205 = mul-le l (3 * w + 13) 5 205 few each in omega arith
raw-few Sra w l most few = let each : 3 * w + 15 ≤ 207 = omega arith in let all : l * (3 * w + 15) ≤ 5 * 207 = mul-le l (3 * w + 15) 5 207 few each in omega arith

-- what rounding adds to a list
values-few : (mode : ℕ) → length (mode_on mode) ≤ 3
values-few zero = omega arith
values-few (suc zero) = omega arith
values-few (suc (suc zero)) = omega arith
values-few (suc (suc (suc n))) = omega arith

pub mode-few : (mode w l : ℕ) → w ≤ 64 → l ≤ 5 → mode_length mode w l ≤ 700
mode-few mode w l most few = chosen (eqb mode 2)
  where
    chosen : (b : Bool) → cond b 0 (5 * l + 9 * w + 3 + length (mode_on mode)) ≤ 700
    chosen true = omega arith
    chosen false = omega (arith, values-few mode)

pub smul-few : (mode w : ℕ) → w ≤ 32 → smul_length mode w ≤ 30000
smul-few mode w most =
    let each : 20 * w + 64 ≤ 704 = omega arith in
    let rounds : w * (20 * w + 64) ≤ 32 * 704 = mul-le w (20 * w + 64) 32 704 most each in
    omega (arith, rounds, chosen (eqb mode 2))
  where
    chosen : (b : Bool) → cond b 0 (9 * w + 2 + length (mode_on mode)) ≤ 400
    chosen true = omega arith
    chosen false = omega (arith, values-few mode)

-- that of a clip
clip-few : (kind : Clipping) (w : ℕ) → w ≤ 32 → clip_length kind w ≤ 500
clip-few Clipu w most = omega arith
clip-few Clip w most = omega arith

pub half-list-few : (list : Listed) (w mode : ℕ) → makes_halves list ≡ true → w ≤ 32 → length_of list w mode ≤ 4200
unfolding length_of
half-list-few (Halves kind) w mode halves most = let shift = raw-few kind (2 * w) (log2 (2 * w)) (omega arith) (log2-small (2 * w)) in omega (arith, shift)
half-list-few (Clips kind) w mode halves most =
    let shift = raw-few (shift_of (moved_in kind)) (2 * w) (log2 (2 * w)) (omega arith) (log2-small (2 * w)) in
    let rounding = mode-few mode (2 * w) (log2 (2 * w)) (omega arith) (log2-small (2 * w)) in
    omega (arith, shift, rounding, clip-few kind w most)
half-list-few (Bits kind) w mode halves most = absurd (false≢true halves)
half-list-few (Sums kind) w mode halves most = absurd (false≢true halves)
half-list-few (Truths kind) w mode halves most = absurd (false≢true halves)
half-list-few (Choices kind) w mode halves most = absurd (false≢true halves)
half-list-few (Shifts kind) w mode halves most = absurd (false≢true halves)
half-list-few (Products kind) w mode halves most = absurd (false≢true halves)
half-list-few Fractions w mode halves most = absurd (false≢true halves)
half-list-few (Saturations kind) w mode halves most = absurd (false≢true halves)
half-list-few (Averages kind sub) w mode halves most = absurd (false≢true halves)
half-list-few (Roundings right) w mode halves most = absurd (false≢true halves)
half-list-few (Divisions kind) w mode halves most = absurd (false≢true halves)
half-list-few Copies w mode halves most = absurd (false≢true halves)

module _ (r : Recipe) (i : VInstr) (c : Cfg) (count : ℕ) (list-few : ListsFew) (few : count ≤ 8) where
  pub registers-few : width_of r c ≤ 32 → count * register_length r i c ≤ 8 * 30200
  registers-few narrow_enough =
      let list = list-few (list_for r i) (width_of r c) c.vxrm narrow_enough in
      let first = laid-few (operands_of r i c).a (width_of r c) narrow_enough in
      let second = laid-few (operands_of r i c).b (width_of r c) narrow_enough in
      let one = flag-few (reads r i) 1 in
      let three = flag-few (is_ones c.policy) 3 in
      let each : register_length r i c ≤ 30200 = omega (arith, list, first, second, one, three) in
      mul-le count _ 8 30200 few each

  pub mask-registers-few : c.vtype.sew ≤ 32 → count * mask_register_length r i c ≤ 8 * 30200
  mask-registers-few narrow_enough =
      let list = list-few (list_for r i) c.vtype.sew 0 narrow_enough in
      let one = flag-few (reads r i) 1 in
      let each : mask_register_length r i c ≤ 30200 = omega (arith, list, one) in
      mul-le count _ 8 30200 few each

  -- two halves of at most so many operations
  pub half-registers-few : makes_halves (list_for r i) ≡ true → 2 * c.vtype.sew ≤ 32 → count * half_register_length r i c ≤ 8 * 30200
  half-registers-few halves narrow_enough =
      let list = half-list-few (list_for r i) c.vtype.sew c.vxrm halves (omega arith) in
      let second = laid-few (halves_of r i c).b (2 * c.vtype.sew) narrow_enough in
      let one = flag-few (reads r i) 1 in
      let three = flag-few (is_ones c.policy) 3 in
      let flags = flag-few (tells_clips (list_for r i)) 1 in
      let test = flag-few (tells_clips (list_for r i)) 2 in
      let half : one_half_length r i c ≤ 5000 = omega (arith, list, second, flags) in
      let both : half_count c.vtype * one_half_length r i c ≤ 2 * 5000 = mul-le (half_count c.vtype) (one_half_length r i c) 2 5000 (half-few c.vtype) half in
      let each : half_register_length r i c ≤ 30200 = omega (arith, both, one, three, test) in
      mul-le count _ 8 30200 few each
