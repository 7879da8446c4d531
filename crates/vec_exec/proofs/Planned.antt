-- What legality says of the rows of an instruction; and what its program does and costs.
use Rattle.std.proofs.Common.{◌≡◌, inl, inr, ℕ, ◌+◌, ◌*◌, ◌/◌, ◌<◌, ◌≤◌, true, false, cond, List, None, Some, refl, sym, ◌∙◌, subst, arith, ⊎_elim}
use Rattle.std.specs.Prelude.{IsTrue}
use Rattle.std.proofs.lemmas.Bool.{cases_Bool}
use Rattle.bit_rows.specs.Slices.{Slices, blank}
use Rattle.cam_chain.specs.Views.{registers_of}
use Rattle.gen_div.specs.Rows.{IsSignedRow}
use Rattle.micro_ir.specs.declared.op.MicroOp.{MicroOp}
use Rattle.micro_ir.specs.Measures.{Measured}
use Rattle.micro_ir.specs.Replay.{replay, clips, tally, AllInRange}
use Rattle.micro_ir.specs.WorkRows.{result_row, left_row}
use Rattle.rvv_decode.specs.declared.instruction.VInstr.{VInstr}
use Rattle.vtype_cfg.specs.declared.configuration.Cfg.{Cfg}
use Rattle.vtype_cfg.specs.Settings.{is_valid}
use Rattle.vtype_cfg.specs.Legality.{is_legal}
use Rattle.vtype_cfg.proofs.Lengths.{vlen_from, vlen_words}
use Rattle.legal_groups.specs.Facts.{IsElementWidth, registers_for, group_count, GroupWritten, MaskGroups}
use Rattle.legal_groups.proofs.Groups.{legal_compare_law}
use Rattle.rvv_meaning.specs.Elementwise.{registers_after, clips as clips_elements}
use Rattle.rvv_meaning.specs.Operations.{Operation, operation_for, on_elements, elements_at, reads_mask}
use Rattle.frame_laws.specs.Classes.Operands.{row_of}
use Rattle.frame_laws.specs.Classes.Plain.{Value, with_operands, IsPlain}
use Rattle.frame_laws.specs.Shapes.{Shape}
use Rattle.frame_meaning.specs.declared.Order.{Order}
use Rattle.frame_meaning.specs.declared.Order.TheVariants.{Straight, Reversed, Second, Exchanged, Widening, WideSource, Half, Quarter}
use Rattle.frame_meaning.specs.declared.Signs.{Signs}
use Rattle.frame_meaning.specs.Realising.{RealisesInstruction}
use Rattle.frame_meaning.specs.Shapes.{signs_of, width_in, count_in, class_in, operands_in, value_in, elements_in, shape_in}
use Rattle.frame_meaning.specs.Laws.{Runs}
use Rattle.frame_meaning.specs.Costs.{ElementsMeasured}
use Rattle.frame_meaning.specs.Halves.{half_elements, half_shape}
use Rattle.frame_meaning.specs.Masks.{compare_operands, CompareMeasured}
use Rattle.frame_meaning.proofs.Instructions.{facts-of, is-plain, elements_meaning_law, elements_cost_law}
use Rattle.frame_meaning.proofs.Clips.{elements_clip_law, halves_clip_law}
use Rattle.frame_meaning.proofs.Halves.{halves_meaning_law, halves_cost_law}
use Rattle.frame_meaning.proofs.Masks.{compare_meaning_law, compare_cost_law}
use Rattle.vec_exec.specs.declared.recipes.Listed.{Listed}
use Rattle.vec_exec.specs.declared.recipes.Recipe.{Recipe}
use Rattle.vec_exec.specs.Recipes.{recipe_for, makes_bits, makes_halves, takes_laid, uses_wide_rows, truth_of, tells_clips, counts_of, length_of}
use Rattle.vec_exec.specs.Programs.{list_for, width_of, count_of, kind_list, truth_list, wide_lists, body_counts, body_length, half_counts, half_length, element_program, mask_program, half_program, IsMade, IsMaskMade, IsHalfMade, prog, program_by, whole_program, whole_cost, cost, cost_by}
use Rattle.vec_exec.proofs.Keeping.{elements-keep, mask-keep, halves-keep-program}
use Rattle.vec_exec.proofs.Fits.{takes_one_laid, has_wide_rows, Clipping, Fits}
use Rattle.vec_exec.proofs.Placed.{valid-setting, valid-length, valid-mode, valid-short, second-row, wide-row, compared-row, operand-row, plain-rows, wide-rows, laid-rows, operand-small, fits-small, layable, second-layable, wide-layable, Rows, Plans, MaskPlans, HalfPlans, source-half, source-quarter, half-legal, half-wide, half-planned}
use Rattle.vec_exec.proofs.Listing.{bits-quiet}
use Rattle.vec_exec.proofs.Chosen.{bits-list, class, clip-told, computed, elements-list, flags-all, free-for, half-class, halves-list, laid-for, leaves-all, mask-class, mask-laid, of-halves, quiet-clips, signs, tells-for, told, truth}

-- ---- rows of an instruction

-- the rows of the operands for register g, and that they can be laid out
module _ (r : Recipe) (i : VInstr) (c : Cfg) (list : Listed) (sh : Shape) (value : Value) (columns : ℕ) where
  rows-in : (order : Order) (by_sign : Signs) → takes_laid list ≡ takes_one_laid order → cond (has_wide_rows order) (uses_wide_rows list) false ≡ false → IsElementWidth c.vtype.sew
      → (order ≡ Half → IsElementWidth (c.vtype.sew / 2)) → (order ≡ Quarter → IsElementWidth (c.vtype.sew / 4))
      → IsPlain sh (operands_in order by_sign i c.vtype.sew) value columns → (g : ℕ) → g < sh.registers → Rows list (operands_in order by_sign i c.vtype.sew) sh.width g
  rows-in Straight by_sign laid free sew half quarter p g inside = record {
    fit = plain-rows list _ _ laid (inl (p.a g inside).0) (second-row sh i.form i.vs1 g inside p.b);
    addend = (p.addend g inside).0;
    first = tt;
    second = second-layable sh i.form i.vs1 g;
  }
  rows-in Reversed by_sign laid free sew half quarter p g inside = record {
    fit = plain-rows list _ _ laid (second-row sh i.form i.vs1 g inside p.a) (inl (p.b g inside).0);
    addend = (p.addend g inside).0;
    first = second-layable sh i.form i.vs1 g;
    second = tt;
  }
  rows-in Second by_sign laid free sew half quarter p g inside = record {
    fit = plain-rows list _ _ laid (inl (p.a g inside).0) (second-row sh i.form i.vs1 g inside p.b);
    addend = (p.addend g inside).0;
    first = tt;
    second = second-layable sh i.form i.vs1 g;
  }
  rows-in Exchanged by_sign laid free sew half quarter p g inside = record {
    fit = plain-rows list _ _ laid (inl (p.a g inside).0) (second-row sh i.form i.vs1 g inside p.b);
    addend = (p.addend g inside).0;
    first = tt;
    second = second-layable sh i.form i.vs1 g;
  }
  rows-in Widening by_sign laid free sew half quarter p g inside = record {
    fit = wide-rows list _ _ laid free (inr (inr (inr (inl refl)))) (wide-row i.form by_sign.b c.vtype.sew i.vs1 g);
    addend = (p.addend g inside).0;
    first = layable sh by_sign.a 2 c.vtype.sew i.vs2 left_row g sew inside p.a;
    second = wide-layable sh i.form by_sign.b c.vtype.sew i.vs1 g sew inside p.b;
  }
  rows-in WideSource by_sign laid free sew half quarter p g inside = record {
    fit = wide-rows list _ _ laid free (inl (p.a g inside).0) (wide-row i.form by_sign.b c.vtype.sew i.vs1 g);
    addend = (p.addend g inside).0;
    first = tt;
    second = wide-layable sh i.form by_sign.b c.vtype.sew i.vs1 g sew inside p.b;
  }
  rows-in Half by_sign laid free sew half quarter p g inside = record {
    fit = laid-rows list _ laid (inl (p.b g inside).0);
    addend = (p.addend g inside).0;
    first = layable sh by_sign.a 2 (c.vtype.sew / 2) i.vs2 result_row g (half refl) inside p.a;
    second = tt;
  }
  rows-in Quarter by_sign laid free sew half quarter p g inside = record {
    fit = laid-rows list _ laid (inl (p.b g inside).0);
    addend = (p.addend g inside).0;
    first = layable sh by_sign.a 4 (c.vtype.sew / 4) i.vs2 result_row g (quarter refl) inside p.a;
    second = tt;
  }

-- ---- a legal instruction

-- what a program is for, what it costs, and that a chain can run it
pub record Fine (r : Recipe) (i : VInstr) (c : Cfg) (x : ℕ) : Type 0 where
  pub realises : RealisesInstruction i c x (program_by r i c x)
  pub cost : tally (program_by r i c x) ≡ cost_by r i c
  pub range : AllInRange (c.vlen / 32) (program_by r i c x)

module _ (r : Recipe) (o : Operation) (i : VInstr) (c : Cfg) (x : ℕ) (f : Fits i.op r o) (valid : IsTrue (is_valid c)) (legal : is_legal i c.vtype c.vstart ≡ true) where
  least : 32 ≤ c.vlen
  least = vlen_from c.vlen (valid-length c valid)

  whole : c.vlen ≡ 32 * (c.vlen / 32)
  whole = sym (vlen_words c.vlen (valid-length c valid))

  runs : (s : Slices) → c.vlen ≡ 32 * s.columns → i.vs1 < 32 → Runs i c s
  runs s long small = record { setting = valid-setting c valid; legal = legal; long = long; some = let l = least in omega arith; immediate = small }

  -- ---- what legality says

  pub plans : makes_bits r.masked ≡ false → makes_halves r.masked ≡ false → Plans r i c
  unfolding shape_in elements_in elements_at
  plans numbers unhalved =
      let is = class r o i c x f numbers unhalved in
      let facts = facts-of r.order i c (valid-setting c valid) legal is in
      let plain = is-plain r.order o i c x (c.vlen / 32) (valid-setting c valid) whole facts in
      let signed : r.signs ≡ signs_of o = signs r o i c x f in
      record {
        sew = facts.sew;
        width = facts.width;
        few = facts.place.few;
        placed = λ g inside.
            let rows = rows-in r i c (list_for r i) (shape_in r.order i c x o) (value_in r.order i c o) (c.vlen / 32) r.order (signs_of o) (laid-for r o i c x f) (free-for r o i c x f) facts.sew (half-width facts) (quarter-width facts) plain g inside in
            record {
              mode = valid-mode c valid;
              vd = let room : i.vd + count_in r.order c.vtype ≤ 32 = facts.place.room in omega arith;
              a = rw signed (fits-small _ _ _ rows.fit).0;
              b = rw signed (fits-small _ _ _ rows.fit).1;
              rows = rw signed rows.fit;
              addend = rw signed rows.addend;
              first = rw signed rows.first;
              second = rw signed rows.second;
            };
      }
    where
      half-width : GroupWritten (class_in r.order) i c.vtype (width_in r.order c.vtype.sew) → r.order ≡ Half → IsElementWidth (c.vtype.sew / 2)
      half-width facts is = source-half i c (subst (λ (order : Order). GroupWritten (class_in order) i c.vtype (width_in order c.vtype.sew)) is facts)

      quarter-width : GroupWritten (class_in r.order) i c.vtype (width_in r.order c.vtype.sew) → r.order ≡ Quarter → IsElementWidth (c.vtype.sew / 4)
      quarter-width facts is = source-quarter i c (subst (λ (order : Order). GroupWritten (class_in order) i c.vtype (width_in order c.vtype.sew)) is facts)

  pub mask-plans : makes_bits r.masked ≡ true → MaskPlans r i c
  mask-plans bits =
      let groups : MaskGroups i c.vtype = legal_compare_law i c.vtype c.vstart (valid-setting c valid) legal (mask-class r o i c x f bits) in
      record {
        sew = groups.sew;
        few = groups.few;
        vd = groups.room;
        placed = λ g inside.
            let room : i.vs2 + group_count c.vtype ≤ 32 = groups.vs2.0 in
            let first : IsSignedRow (row_of (compare_operands i).a g) = inl (omega arith) in
            let second = compared-row i.form i.vs1 (group_count c.vtype) g inside (λ is. (groups.vs1 is).0) in
            record {
              vd = groups.room;
              a = operand-small _ (operand-row _ first);
              b = operand-small _ (operand-row _ second);
              rows = plain-rows (list_for r i) _ _ (mask-laid r o i c x f bits) first second;
            };
      }

  pub half-plans : makes_bits r.masked ≡ false → makes_halves r.masked ≡ true → HalfPlans r i c
  half-plans numbers halves = half-planned r i c (valid-mode c valid) (half-legal i c (valid-setting c valid) legal (half-class r o i c x f numbers halves))

  -- ---- programs of elements

  pub elements-realised : (numbers : makes_bits r.masked ≡ false) (unhalved : makes_halves r.masked ≡ false) → ((g : ℕ) → g < count_of r c → IsMade r i c g) → i.vs1 < 32 → (s : Slices) → c.vlen ≡ 32 * s.columns
      → registers_of (replay (element_program r i c x) s) ≡ registers_after c (on_elements i c x o) (registers_of s)
  elements-realised numbers unhalved made small s long =
      rw (elements-list r o i c x f numbers unhalved (plans numbers unhalved).width)
      (elements_meaning_law r.order o i c x (kind_list r i c) s f.ignores (runs s long small) (class r o i c x f numbers unhalved) (computed r o i c x f numbers unhalved made))

  elements-clip : (numbers : makes_bits r.masked ≡ false) (unhalved : makes_halves r.masked ≡ false) → ((g : ℕ) → g < count_of r c → IsMade r i c g) → i.vs1 < 32 → (s : Slices) → c.vlen ≡ 32 * s.columns
      → clips (element_program r i c x) s ≡ clips_elements c (on_elements i c x o) (registers_of s)
  elements-clip numbers unhalved made small s long =
      ⊎_elim
      (λ (told : tells_clips r.masked ≡ true).
      let clip : Clipping r o = rw told at f.clips in
      rw (elements-list r o i c x f numbers unhalved (plans numbers unhalved).width)
      (elements_clip_law r.order o i c x (kind_list r i c) s clip.ignores clip.takes (runs s long small) (valid-short c valid) (class r o i c x f numbers unhalved) (computed r o i c x f numbers unhalved made)
      (clip-told r o i c x f numbers unhalved clip told made)))
      (λ (quiet : tells_clips r.masked ≡ false). quiet-clips r o i c x f (element_program r i c x) s quiet (elements-keep r i c (tells-for r o i c x f ∙ quiet) x))
      (cases_Bool (tells_clips r.masked))

  pub elements-measured : (numbers : makes_bits r.masked ≡ false) (unhalved : makes_halves r.masked ≡ false) → ((g : ℕ) → g < count_of r c → IsMade r i c g) → i.vs1 < 32
      → ElementsMeasured i c (blank (c.vlen / 32)) (count_of r c) (reads_mask i o) (body_counts r i c) (body_length r i c) (element_program r i c x)
  elements-measured numbers unhalved made small =
      rw (elements-list r o i c x f numbers unhalved (plans numbers unhalved).width)
      (elements_cost_law r.order o i c x (kind_list r i c) (blank (c.vlen / 32)) _ _ (runs (blank (c.vlen / 32)) whole small) (class r o i c x f numbers unhalved)
      (λ g inside.
      subst (λ (s : Signs). Measured (body_counts r i c) (body_length r i c) (with_operands (width_of r c) (operands_in r.order s i c.vtype.sew) (kind_list r i c) g)) (signs r o i c x f) (made g inside).cost))

  -- ---- programs of halves

  pub halves-realised : (numbers : makes_bits r.masked ≡ false) (halves : makes_halves r.masked ≡ true) → ((g : ℕ) → g < registers_for c.vtype c.vtype.sew → IsHalfMade r i c g) → i.vs1 < 32 → (s : Slices) → c.vlen ≡ 32 * s.columns
      → registers_of (replay (half_program r i c x) s) ≡ registers_after c (on_elements i c x o) (registers_of s)
  halves-realised numbers halves made small s long =
      rw (halves-list r o i c x f numbers halves (half-wide (half-plans numbers halves).narrow))
      (halves_meaning_law o i c x (wide_lists r i c) s (of-halves r o i c x f numbers halves).value (runs s long small) (valid-short c valid) (half-class r o i c x f numbers halves) (leaves-all r o i c x f numbers halves made))

  halves-clip : (numbers : makes_bits r.masked ≡ false) (halves : makes_halves r.masked ≡ true) → ((g : ℕ) → g < registers_for c.vtype c.vtype.sew → IsHalfMade r i c g) → i.vs1 < 32 → (s : Slices) → c.vlen ≡ 32 * s.columns
      → clips (half_program r i c x) s ≡ clips_elements c (on_elements i c x o) (registers_of s)
  halves-clip numbers halves made small s long =
      ⊎_elim
      (λ (told : tells_clips r.masked ≡ true).
      let clip : Clipping r o = rw told at f.clips in
      let half = of-halves r o i c x f numbers halves in
      rw (halves-list r o i c x f numbers halves (half-wide (half-plans numbers halves).narrow))
      (halves_clip_law o i c x (wide_lists r i c) s half.value half.flag (runs s long small) (valid-short c valid) (half-class r o i c x f numbers halves) (leaves-all r o i c x f numbers halves made)
      (flags-all r o i c x f numbers halves clip told made)))
      (λ (quiet : tells_clips r.masked ≡ false). quiet-clips r o i c x f (half_program r i c x) s quiet (halves-keep-program r i c (tells-for r o i c x f ∙ quiet) x))
      (cases_Bool (tells_clips r.masked))

  pub halves-measured : (numbers : makes_bits r.masked ≡ false) (halves : makes_halves r.masked ≡ true) → ((g : ℕ) → g < registers_for c.vtype c.vtype.sew → IsHalfMade r i c g) → i.vs1 < 32
      → ElementsMeasured i c (blank (c.vlen / 32)) (registers_for c.vtype c.vtype.sew) (reads_mask i o) (half_counts r i c) (half_length r i c) (half_program r i c x)
  unfolding half_shape half_elements elements_at
  halves-measured numbers halves made small =
      rw (halves-list r o i c x f numbers halves (half-wide (half-plans numbers halves).narrow))
      (halves_cost_law o i c x (wide_lists r i c) (blank (c.vlen / 32)) _ _ (runs (blank (c.vlen / 32)) whole small) (half-class r o i c x f numbers halves) (λ g inside. (made g inside).cost))

  -- ---- programs of the bits of a mask

  pub bits-realised : (bits : makes_bits r.masked ≡ true) → ((g : ℕ) → g < group_count c.vtype → IsMaskMade r i c g) → i.vs1 < 32 → (s : Slices) → c.vlen ≡ 32 * s.columns
      → registers_of (replay (mask_program r i c x) s) ≡ registers_after c (on_elements i c x o) (registers_of s)
  bits-realised bits made small s long =
      rw (bits-list r o i c x f bits)
      (compare_meaning_law o (truth_of r.masked) (truth r o i c x f bits) i c x (truth_list r i c) s (runs s long small) (valid-short c valid) (mask-class r o i c x f bits)
      (told r o i c x f bits made))

  bits-clip : (bits : makes_bits r.masked ≡ true) (s : Slices) → c.vlen ≡ 32 * s.columns → clips (mask_program r i c x) s ≡ clips_elements c (on_elements i c x o) (registers_of s)
  bits-clip bits s long =
      let quiet = bits-quiet r.masked bits in
      quiet-clips r o i c x f (mask_program r i c x) s quiet (mask-keep r i c (tells-for r o i c x f ∙ quiet) x)

  pub bits-measured : (bits : makes_bits r.masked ≡ true) → ((g : ℕ) → g < group_count c.vtype → IsMaskMade r i c g) → i.vs1 < 32
      → CompareMeasured i c (blank (c.vlen / 32)) (reads_mask i o) (counts_of (list_for r i) c.vtype.sew 0) (length_of (list_for r i) c.vtype.sew 0) (mask_program r i c x)
  bits-measured bits made small =
      rw (bits-list r o i c x f bits)
      (compare_cost_law o i c x (truth_list r i c) (blank (c.vlen / 32)) _ _ (runs (blank (c.vlen / 32)) whole small) (valid-short c valid) (mask-class r o i c x f bits) (λ g inside. (made g inside).cost))

  -- ---- together

  -- what a list leaves that leaves the registers of the meaning, and sets the flag of its clips
  realised : (ops : List MicroOp) → operation_for i.op ≡ Some o
      → ((s : Slices) → c.vlen ≡ 32 * s.columns → registers_of (replay ops s) ≡ registers_after c (on_elements i c x o) (registers_of s))
      → ((s : Slices) → c.vlen ≡ 32 * s.columns → clips ops s ≡ clips_elements c (on_elements i c x o) (registers_of s)) → RealisesInstruction i c x ops
  unfolding RealisesInstruction
  realised ops is all flag s cleared long = rw is (all s long, flag s long)

  pub elements-program : makes_bits r.masked ≡ false → makes_halves r.masked ≡ false → program_by r i c x ≡ element_program r i c x
  unfolding program_by
  elements-program numbers unhalved = rw (numbers, unhalved) refl

  pub elements-fine : operation_for i.op ≡ Some o → (numbers : makes_bits r.masked ≡ false) (unhalved : makes_halves r.masked ≡ false) → ((g : ℕ) → g < count_of r c → IsMade r i c g) → i.vs1 < 32 → Fine r i c x
  unfolding cost_by
  elements-fine is numbers unhalved made small =
      let m = elements-measured numbers unhalved made small in
      record {
        realises = rw (elements-program numbers unhalved) (realised (element_program r i c x) is (elements-realised numbers unhalved made small) (elements-clip numbers unhalved made small));
        cost = rw (elements-program numbers unhalved) (m.cost ∙ sym (rw (numbers, unhalved) refl));
        range = rw (elements-program numbers unhalved) m.range;
      }

  pub halves-program : makes_bits r.masked ≡ false → makes_halves r.masked ≡ true → program_by r i c x ≡ half_program r i c x
  unfolding program_by
  halves-program numbers halves = rw (numbers, halves) refl

  pub halves-fine : operation_for i.op ≡ Some o → (numbers : makes_bits r.masked ≡ false) (halves : makes_halves r.masked ≡ true) → ((g : ℕ) → g < registers_for c.vtype c.vtype.sew → IsHalfMade r i c g) → i.vs1 < 32 → Fine r i c x
  unfolding cost_by
  halves-fine is numbers halves made small =
      let m = halves-measured numbers halves made small in
      record {
        realises = rw (halves-program numbers halves) (realised (half_program r i c x) is (halves-realised numbers halves made small) (halves-clip numbers halves made small));
        cost = rw (halves-program numbers halves) (m.cost ∙ sym (rw (numbers, halves) refl));
        range = rw (halves-program numbers halves) m.range;
      }

  pub bits-program : makes_bits r.masked ≡ true → program_by r i c x ≡ mask_program r i c x
  unfolding program_by
  bits-program bits = rw bits refl

  pub bits-fine : operation_for i.op ≡ Some o → (bits : makes_bits r.masked ≡ true) → ((g : ℕ) → g < group_count c.vtype → IsMaskMade r i c g) → i.vs1 < 32 → Fine r i c x
  unfolding cost_by
  bits-fine is bits made small =
      let m = bits-measured bits made small in
      record {
        realises = rw (bits-program bits) (realised (mask_program r i c x) is (bits-realised bits made small) (bits-clip bits));
        cost = rw (bits-program bits) (m.cost ∙ sym (rw bits refl));
        range = rw (bits-program bits) m.range;
      }

-- the program and the cost of an instruction whose operation has a recipe
pub prog-is : (r : Recipe) (i : VInstr) (c : Cfg) (x : ℕ) → recipe_for i.op ≡ Some r → prog i c x ≡ program_by r i c x
unfolding prog
prog-is r i c x named = rw named refl

pub cost-is : (r : Recipe) (i : VInstr) (c : Cfg) → recipe_for i.op ≡ Some r → cost i c ≡ cost_by r i c
unfolding cost
cost-is r i c named = rw named refl

-- those of one that reads whole groups or masks
pub whole-prog : (i : VInstr) (c : Cfg) (x : ℕ) → recipe_for i.op ≡ None → prog i c x ≡ whole_program i c x
unfolding prog
whole-prog i c x none = rw none refl

pub whole-costs : (i : VInstr) (c : Cfg) → recipe_for i.op ≡ None → cost i c ≡ whole_cost i c
unfolding cost
whole-costs i c none = rw none refl
