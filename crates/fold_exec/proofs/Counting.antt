-- The programs of numbers of masks realise their instructions.
use Rattle.std.proofs.Common.{◌≡◌, ◌≢◌, ℕ, ◌+◌, ◌*◌, ◌/◌, ◌%◌, ◌<◌, ◌≤◌, Bool, true, false, cond, not, ◌&&◌, ◌||◌, leb, eqb, List, Option, Some, refl, sym, ◌∙◌, ap, subst, arith}
use Rattle.std.specs.Prelude.{IsTrue}
use Rattle.std.proofs.lemmas.Bool.{lt-ltb, le-ltb, le-leb, ne_eqb}
use Rattle.std.proofs.Math.Nat.{mod-eq_of_lt}
use Rattle.bit_laws.specs.Numbers.{low}
use Rattle.bit_rows.specs.Slices.{Slices}
use Rattle.cam_chain.specs.Views.{registers_of}
use Rattle.element_ops.specs.Elements.{AreRegisters, mask_bit_of, bits_of}
use Rattle.fold_laws.specs.Folds.{count, least}
use Rattle.frame_laws.proofs.Bytes.{same_registers, are-registers_of, bits-registers_of}
use Rattle.frame_meaning.specs.Realising.{LeavesMeaning, RealisesInstruction}
use Rattle.frame_meaning.proofs.Wholes.{valid-parts, left-is}
use Rattle.gen_reduce.specs.Masks.{is_set, MakesNumber}
use Rattle.legal_groups.specs.Rules.{Obeys}
use Rattle.legal_groups.proofs.Rules.{legal_law}
use Rattle.legal_groups.proofs.Widths.{vlmax-short}
use Rattle.micro_ir.specs.Measures.{Measured, counts}
use Rattle.micro_ir.specs.Replay.{replay, clips, AllInRange, tally}
use Rattle.micro_ir.specs.WorkRows.{active_row}
use Rattle.micro_ir.proofs.Lift.{replay-columns}
use Rattle.micro_ir.proofs.Lists.{no_counts-and}
use Rattle.reduce_tree.specs.Tags.{no_place}
use Rattle.row_views.specs.Views.{view}
use Rattle.row_views.proofs.Views.{view-in, view-numbered}
use Rattle.rvv_decode.specs.Ranges.{IsInRange}
use Rattle.rvv_decode.specs.declared.instruction.VInstr.{VInstr}
use Rattle.rvv_meaning.specs.Vectors.{left_of}
use Rattle.rvv_meaning.specs.Whole.{Left, number}
use Rattle.steer_net.specs.Network.{bit_in, is_within, windowed}
use Rattle.vtype_cfg.specs.declared.configuration.Cfg.{Cfg}
use Rattle.vtype_cfg.specs.declared.configuration.Policy.TheVariants.{Keep}
use Rattle.vtype_cfg.specs.Classes.{mask_count, starts_at_zero, needs_no_setting}
use Rattle.vtype_cfg.specs.Legality.{is_legal}
use Rattle.vtype_cfg.specs.Settings.{is_valid}
use Rattle.vtype_cfg.proofs.Lengths.{vlen_words}
use Rattle.vtype_cfg.proofs.Supported.{vlen_bounded}
use Rattle.fold_exec.specs.declared.kinds.Kind.TheVariants.{Number}
use Rattle.fold_exec.specs.declared.kinds.MaskNumber.{MaskNumber}
use Rattle.fold_exec.specs.declared.kinds.MaskNumber.TheVariants.{Count, First}
use Rattle.fold_exec.specs.Kinds.{kind_for, leaving_of}
use Rattle.fold_exec.specs.Laws.{Fine}
use Rattle.fold_exec.specs.Programs.{number_of, number_list, fold_program, fold_cost, fold_length}
use Rattle.fold_exec.proofs.Cuts.{count-cut, count-few, least-cut, least-few}
use Rattle.frame_meaning.proofs.Quiet.{IsQuiet}
use Rattle.fold_exec.proofs.Table.{of-kind}

-- ---- the window

-- a place of a row under the window
window-bit : (row from to : ℕ) (masked : Bool) (s : Slices) (e : ℕ) → e < 32 * s.columns
    → bit_in (windowed active_row 1 0 from to masked s) row e ≡ cond (eqb row active_row) (is_within from to masked (bit_in s 0) e) (bit_in s row e)
window-bit row from to masked s e inside =
    let u : Slices = windowed active_row 1 0 from to masked s in
    let per : e < s.columns * (32 / 1) = omega arith in
    let z : e * 1 + 0 ≡ e = omega arith in
    let y : 0 + e ≡ e = omega arith in
    let here : view 1 u e row 0 ≡ bit_in u row e = view-in 1 u e row 0 (omega arith) ∙ rw z refl in
    let before : view 1 s e row 0 ≡ bit_in s row e = view-in 1 s e row 0 (omega arith) ∙ rw z refl in
    sym here ∙ view-numbered 1 active_row 0 (is_within from to masked (bit_in s 0)) s e row 0 (omega arith) refl per (omega arith) ∙ rw (before, y) refl

-- the set places under the window: those of the meaning below the vector length
set-here : (vm : Bool) (row to : ℕ) (s : Slices) (e : ℕ) → row < 32 → e < 32 * s.columns → e < to
    → is_set row (windowed active_row 1 0 0 to (not vm) s) e ≡ ((vm || mask_bit_of (registers_of s) 0 e) && mask_bit_of (registers_of s) row e)
unfolding bits_of
set-here vm row to s e register inside below =
    let n : row ≢ active_row = omega arith in
    rw (
      window-bit active_row 0 to (not vm) s e inside,
      window-bit row 0 to (not vm) s e inside,
      ne_eqb row active_row n,
      lt-ltb e to below,
      le-leb 0 e (omega arith),
      bits-registers_of s 0 e (omega arith) inside,
      bits-registers_of s row e register inside,
    ) (left_in vm (bit_in s 0 e) (bit_in s row e))
  where
    left_in : (a b c : Bool) → ((not (not a) || b) && c) ≡ ((a || b) && c)
    left_in true b c = refl
    left_in false b c = refl

set-past : (vm : Bool) (row to : ℕ) (s : Slices) (e : ℕ) → row < 32 → e < 32 * s.columns → to ≤ e → is_set row (windowed active_row 1 0 0 to (not vm) s) e ≡ false
set-past vm row to s e register inside past =
    rw (window-bit active_row 0 to (not vm) s e inside, le-ltb e to past) (none (leb 0 e) (not (not vm) || bit_in s 0 e) (bit_in (windowed active_row 1 0 0 to (not vm) s) row e))
  where
    none : (a b c : Bool) → (((a && false) && b) && c) ≡ false
    none true b c = refl
    none false b c = refl

-- the registers stay
registers-stay : (s t : Slices) → t.columns ≡ s.columns → ((r at : ℕ) → r < 32 → at < 32 * s.columns → bit_in t r at ≡ bit_in s r at) → registers_of t ≡ registers_of s
registers-stay s t columns same =
    same_registers (4 * s.columns) (registers_of t) (registers_of s) (subst (λ (n : ℕ). AreRegisters (4 * n) (registers_of t)) columns (are-registers_of t)) (are-registers_of s) (λ r k register inside.
    let a : k < 32 * s.columns = omega arith in
    let b : k < 32 * t.columns = rw columns a in
    bits-registers_of t r k register b ∙ same r k register a ∙ sym (bits-registers_of s r k register a))

-- ---- the number

-- what an instruction of the kind means
abbrev meant : MaskNumber → (vm : Bool) (row to : ℕ) → List (List ℕ) → ℕ
meant Count vm row to v = count to (λ e. (vm || mask_bit_of v 0 e) && mask_bit_of v row e)
meant First vm row to v = least no_place to (λ e. (vm || mask_bit_of v 0 e) && mask_bit_of v row e)

number-left : (kind : MaskNumber) (i : VInstr) (c : Cfg) (x : ℕ) (v : List (List ℕ)) → leaving_of (Number kind) i c x v ≡ number (meant kind i.vm i.vs2 c.vl v)
number-left Count i c x v = refl
number-left First i c x v = refl

number-meant : (kind : MaskNumber) (vm : Bool) (row to : ℕ) (s : Slices) → row < 32 → to ≤ 32 * s.columns
    → number_of kind row (windowed active_row 1 0 0 to (not vm) s) ≡ meant kind vm row to (registers_of s)
number-meant Count vm row to s register short =
    count-cut (32 * s.columns) to (is_set row (windowed active_row 1 0 0 to (not vm) s)) (λ e. (vm || mask_bit_of (registers_of s) 0 e) && mask_bit_of (registers_of s) row e) short
    (λ e l. set-here vm row to s e register (omega arith) l) (λ e l past. set-past vm row to s e register l past)
number-meant First vm row to s register short =
    least-cut no_place (32 * s.columns) to (is_set row (windowed active_row 1 0 0 to (not vm) s)) (λ e. (vm || mask_bit_of (registers_of s) 0 e) && mask_bit_of (registers_of s) row e) short
    (λ e l. set-here vm row to s e register (omega arith) l) (λ e l past. set-past vm row to s e register l past)

-- it is a number of 32 bits
number-few : (kind : MaskNumber) (vm : Bool) (row to : ℕ) (v : List (List ℕ)) → to ≤ no_place → meant kind vm row to v ≤ no_place
number-few Count vm row to v few = let most : count to (λ e. (vm || mask_bit_of v 0 e) && mask_bit_of v row e) ≤ to = count-few to (λ e. (vm || mask_bit_of v 0 e) && mask_bit_of v row e) in omega (arith, most, few)
number-few First vm row to v few = least-few no_place to (λ e. (vm || mask_bit_of v 0 e) && mask_bit_of v row e) few

low-same : (n : ℕ) → n ≤ no_place → low 32 n ≡ n
low-same n few = mod-eq_of_lt (omega (arith, few))

-- the lists set no flag
number-quiet : (kind : MaskNumber) (row : ℕ) → IsQuiet (number_list kind row)
unfolding clips
number-quiet Count row s = refl
number-quiet First row s = refl

-- ---- the program

module _ (kind : MaskNumber) (i : VInstr) (c : Cfg) (x : ℕ) (is : kind_for i.op ≡ Some (Number kind)) (fields : IsInRange i)
    (valid : IsTrue (is_valid c)) (legal : is_legal i c.vtype c.vstart ≡ true) where
  obeys : Obeys mask_count i c.vtype c.vstart
  obeys = legal_law mask_count i c.vtype c.vstart (valid-parts c valid).setting legal (of-kind i.op (Number kind) is).class

  from-zero : c.vstart ≡ 0
  unfolding starts_at_zero
  from-zero = obeys.start refl

  length-short : c.vl ≤ c.vlen
  unfolding needs_no_setting
  length-short =
      let v = valid-parts c valid in
      let there = (obeys.setting refl).0 in
      let short = v.short in
      omega (arith, short, vlmax-short c.vtype c.vlen v.setting there)

  vlen-few : c.vlen ≤ 65536
  vlen-few = vlen_bounded c.vlen (valid-parts c valid).length

  left : (v : List (List ℕ)) → left_of i c x v ≡ Some (number (meant kind i.vm i.vs2 c.vl v))
  left v =
      let f = of-kind i.op (Number kind) is in
      left-is i c x (leaving_of (Number kind)) f.none f.whole v ∙ ap Some (number-left kind i (record c { policy = Keep }) x v)

  number-realises : MakesNumber (number_of kind i.vs2) (number_list kind i.vs2) → RealisesInstruction i c x (fold_program (Number kind) i c)
  unfolding MakesNumber RealisesInstruction fold_program replay clips
  number-realises makes s empty long =
      let v = registers_of s in
      let u : Slices = windowed active_row 1 0 c.vstart c.vl (not i.vm) s in
      let t : Slices = replay (number_list kind i.vs2) u in
      let short : c.vl ≤ 32 * s.columns = omega (arith, length-short) in
      let few : 32 * u.columns ≤ no_place = omega (arith, vlen-few) in
      let register = fields.vs2 in
      let made = makes u empty few in
      let num : t.num ≡ meant kind i.vm i.vs2 c.vl v =
      made.num ∙ ap (λ (from : ℕ). number_of kind i.vs2 (windowed active_row 1 0 from c.vl (not i.vm) s)) from-zero ∙ number-meant kind i.vm i.vs2 c.vl s register short in
      let kept : (r at : ℕ) → r < 32 → at < 32 * s.columns → bit_in t r at ≡ bit_in s r at = λ r at l a.
      let n : r ≢ active_row = omega arith in
      ap (λ (bit : ℕ → ℕ → ℕ → Bool). bit (at % 32) r (at / 32)) made.bit ∙ window-bit r c.vstart c.vl (not i.vm) s at a ∙ rw (ne_eqb r active_row n) refl in
      let both : LeavesMeaning c v (Some (number (meant kind i.vm i.vs2 c.vl v))) t (clips (number_list kind i.vs2) u) = (
        registers-stay s t (replay-columns (number_list kind i.vs2) u) kept,
        ap (low 32) num ∙ low-same (meant kind i.vm i.vs2 c.vl v) (number-few kind i.vm i.vs2 c.vl v (omega (arith, length-short, vlen-few))),
        number-quiet kind i.vs2 u,
      ) in
      subst (λ (l : Option Left). LeavesMeaning c v l t (clips (number_list kind i.vs2) u)) (sym (left v)) both

  pub number-fine : MakesNumber (number_of kind i.vs2) (number_list kind i.vs2) → Measured (counts 1 0 0) 2 (number_list kind i.vs2) → Fine (Number kind) i c x
  unfolding fold_program fold_cost fold_length tally AllInRange
  number-fine makes measured =
      let words : c.vlen ≡ 32 * (c.vlen / 32) = sym (vlen_words c.vlen (valid-parts c valid).length) in
      record {
        realises = number-realises makes;
        cost = no_counts-and (tally (number_list kind i.vs2)) ∙ measured.cost;
        count = rw measured.count refl;
        range = ((omega arith, refl, λ masked e a b d l. omega (arith, length-short, words)), measured.range (c.vlen / 32));
      }
