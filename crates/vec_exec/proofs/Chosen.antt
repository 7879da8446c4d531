-- The lists that an instruction takes, and its program in the frame as the code writes it.
use Rattle.std.proofs.Common.{◌≡◌, ℕ, zero, suc, ◌+◌, ◌*◌, ◌<◌, Bool, true, false, ◌&&◌, not, cond, List, ◌++◌, refl, sym, ◌∙◌, ap, subst, arith}
use Rattle.bit_rows.specs.Slices.{Slices}
use Rattle.cam_chain.specs.Views.{registers_of}
use Rattle.gen_fixed.specs.Lists.{overflow_row}
use Rattle.micro_ir.specs.WorkRows.{truth_row}
use Rattle.micro_ir.specs.declared.op.MicroOp.{MicroOp}
use Rattle.micro_ir.specs.Kinds.{Realises}
use Rattle.micro_ir.specs.Replay.{clips, all_keep_control}
use Rattle.micro_ir.proofs.Lists.{clips-none}
use Rattle.micro_ir.proofs.Valued.{tells-same}
use Rattle.row_views.specs.Clips.{ClipsWhere}
use Rattle.rvv_decode.specs.declared.instruction.Form.{Form}
use Rattle.rvv_decode.specs.declared.instruction.Form.TheVariants.{V, X, I}
use Rattle.rvv_decode.specs.declared.instruction.VInstr.{VInstr}
use Rattle.vtype_cfg.specs.declared.configuration.Cfg.{Cfg}
use Rattle.vtype_cfg.specs.Classes.{class_of, compare, narrowing}
use Rattle.legal_groups.specs.Facts.{IsElementWidth, registers_for, group_count}
use Rattle.rvv_meaning.specs.Elementwise.{Elementwise, clips_below, clips as clips_elements}
use Rattle.rvv_meaning.specs.Operations.{Operation, on_elements, elements_at, reads_mask, log2}
use Rattle.frame_laws.specs.Classes.Operands.{row_of, is_laid_out_in}
use Rattle.frame_laws.specs.Classes.Plain.{AllCompute, AllClip}
use Rattle.frame_laws.specs.Classes.Halved.{AllLeave, AllFlag}
use Rattle.frame_laws.specs.Classes.Compared.{AllTell}
use Rattle.frame_laws.specs.Programs.{program, first_registers, one_register}
use Rattle.frame_laws.specs.Shapes.{Shape, usual_bounds}
use Rattle.frame_laws.specs.Masks.Programs as masks
use Rattle.frame_meaning.specs.declared.Order.{Order}
use Rattle.frame_meaning.specs.declared.Order.TheVariants.{Straight}
use Rattle.frame_meaning.specs.declared.Signs.{Signs}
use Rattle.frame_meaning.specs.Shapes.{signs_of, scalar_of, width_in, count_in, class_in, operands_in, value_by, value_in, elements_in, shape_in, body_in, program_in}
use Rattle.frame_meaning.specs.Clips.{clips_by, clips_in, half_clips_in}
use Rattle.frame_meaning.proofs.Clips.{from_bool-same}
use Rattle.frame_meaning.specs.Halves.{half_count, half_in_vs1, half_operands, half_scalar, half_value_in, half_elements, half_shape, half_body, half_program_in}
use Rattle.frame_meaning.specs.Masks.{IsTruth, truth_in, compare_operands, compare_shape, compare_program}
use Rattle.vec_exec.specs.declared.recipes.Listed.{Listed}
use Rattle.vec_exec.specs.declared.recipes.Recipe.{Recipe}
use Rattle.vec_exec.specs.Recipes.{makes_bits, makes_halves, takes_row, takes_laid, uses_wide_rows, value_row, written_rows, value_of, truth_of, tells_clips, clips_of, Computes, TellsClips}
use Rattle.vec_exec.specs.Programs.{reads, list_for, width_of, count_of, kind_list, truth_list, wide_lists, element_program, mask_program, half_program, register_list, registers_list, mask_register_list, mask_registers_list, half_register_list, half_registers_list, mask_fill_list, scalar_list, IsMade, IsMaskMade, IsHalfMade}
use Rattle.vec_exec.proofs.Fits.{never, Traits, takes_one_laid, has_wide_rows, Means, Unmasked, Halved, Clipping, Fits}
use Rattle.vec_exec.proofs.Placed.{no-bit}
use Rattle.vec_exec.proofs.Keeping.{wide-keep}
use Rattle.vec_exec.proofs.Listing.{lists-compute, leaves-same, clips-same, flags-same, spared, spared-halves, spared-flags}

-- no element is clipped where the operation clips none
pub clips-no-element : (c : Cfg) (e : Elementwise) (v : List (List ℕ)) → ((k : ℕ) → e.clipped v k ≡ false) → (n : ℕ) → clips_below c e v n ≡ false
unfolding clips_below
clips-no-element c e v none zero = refl
clips-no-element c e v none (suc n) = rw (clips-no-element c e v none n, none n) (no-and _)
  where
    no-and : (b : Bool) → (b && false) ≡ false
    no-and true = refl
    no-and false = refl

module _ (r : Recipe) (o : Operation) (i : VInstr) (c : Cfg) (x : ℕ) (f : Fits i.op r o) where
  pub takes : r.takes_mask ≡ o.takes_mask
  takes = ap (λ (t : Traits). t.takes_mask) f.same

  pub signs : r.signs ≡ signs_of o
  signs = ap (λ (t : Traits). t.signs) f.same

  pub class-is : class_of i.op ≡ cond (makes_bits r.masked) compare (cond (makes_halves r.masked) narrowing (class_in r.order))
  class-is = ap (λ (t : Traits). t.class) f.same

  -- the list that the instruction takes is like those of its recipe
  pub chosen : (P : Listed → Bool) → P r.plain ≡ P r.masked → P (list_for r i) ≡ P r.masked
  chosen P same = either (reads r i)
    where
      either : (b : Bool) → P (cond b r.masked r.plain) ≡ P r.masked
      either true = refl
      either false = same

  pub bits-for : makes_bits (list_for r i) ≡ makes_bits r.masked
  bits-for = chosen makes_bits (ap (λ (t : Traits). t.bits) f.same)

  pub halves-for : makes_halves (list_for r i) ≡ makes_halves r.masked
  halves-for = chosen makes_halves (ap (λ (t : Traits). t.halves) f.same)

  pub laid-for : takes_laid (list_for r i) ≡ takes_one_laid r.order
  laid-for = chosen takes_laid (ap (λ (t : Traits). t.plain_laid) f.same ∙ sym (ap (λ (t : Traits). t.masked_laid) f.same)) ∙ ap (λ (t : Traits). t.masked_laid) f.same

  pub free-for : cond (has_wide_rows r.order) (uses_wide_rows (list_for r i)) false ≡ false
  free-for = ap (λ (b : Bool). cond (has_wide_rows r.order) b false) (chosen uses_wide_rows (ap (λ (t : Traits). t.uses_wide) f.same)) ∙ ap (λ (t : Traits). t.clashes) f.same

  -- it takes the mask where the instruction reads it
  pub takes-for : takes_row (list_for r i) ≡ reads_mask i o
  takes-for = either r.takes_mask (not i.vm) refl ∙ rw takes refl
    where
      either : (b c : Bool) → r.takes_mask ≡ b → takes_row (cond (b && c) r.masked r.plain) ≡ (b && c)
      either true true is = ap (λ (t : Traits). t.masked) f.same ∙ is
      either true false is = ap (λ (t : Traits). t.plain) f.same
      either false c is = ap (λ (t : Traits). t.plain) f.same

  -- whether the mask is an operand
  pub reads-for : reads r i ≡ reads_mask i o
  reads-for = rw takes refl

  -- it tells clips where those of its recipe do
  pub tells-for : tells_clips (list_for r i) ≡ tells_clips r.masked
  tells-for = chosen tells_clips (ap (λ (t : Traits). t.tells) f.same)

  -- and what the operation clips
  pub clip-for : Clipping r o → (w a b d : ℕ) → clips_of (list_for r i) w c.vxrm a b d ≡ clips_by r.order o w c.vxrm a b d
  clip-for clip w a b d = either (reads r i)
    where
      either : (t : Bool) → clips_of (cond t r.masked r.plain) w c.vxrm a b d ≡ clips_by r.order o w c.vxrm a b d
      either true = clip.means w c.vxrm a b d
      either false = ap (λ (l : Listed). clips_of l w c.vxrm a b d) clip.plain ∙ clip.means w c.vxrm a b d

  -- where no list tells clips, the operation clips no element
  pub unclipped : tells_clips r.masked ≡ false → (v : List (List ℕ)) → clips_elements c (on_elements i c x o) v ≡ false
  unfolding elements_at
  unclipped quiet v =
      let none : o.clips ≡ never = rw quiet at f.clips in
      clips-no-element c (on_elements i c x o) v (λ k. rw none refl) _

  -- a program that leaves the control numbers
  pub quiet-clips : (ops : List MicroOp) (s : Slices) → tells_clips r.masked ≡ false → all_keep_control ops ≡ true → clips ops s ≡ clips_elements c (on_elements i c x o) (registers_of s)
  quiet-clips ops s quiet keep = clips-none ops s keep ∙ sym (unclipped quiet (registers_of s))

  -- ---- results that are elements

  module _ (numbers : makes_bits r.masked ≡ false) where
    pub value-for : (w a b d : ℕ) (m : Bool) → value_of (list_for r i) w c.vxrm a b d m ≡ value_by r.order o w c.vxrm a b d (reads_mask i o && m)
    value-for w a b d m = either (reads r i) ∙ rw takes refl
      where
        means : Means false r o
        means = rw numbers at f.means

        unmasked : Unmasked false r.plain r.masked
        unmasked = rw numbers at f.unmasked

        either : (t : Bool) → value_of (cond t r.masked r.plain) w c.vxrm a b d m ≡ value_by r.order o w c.vxrm a b d (t && m)
        either true = means w c.vxrm a b d m
        either false = unmasked w c.vxrm a b d m ∙ means w c.vxrm a b d false

    module _ (whole : makes_halves r.masked ≡ false) where
      pub class : class_of i.op ≡ class_in r.order
      class = class-is ∙ rw (numbers, whole) refl

      pub computed : ((g : ℕ) → g < count_of r c → IsMade r i c g)
          → AllCompute (width_in r.order c.vtype.sew) i.vd (count_in r.order c.vtype) (reads_mask i o) (operands_in r.order (signs_of o) i c.vtype.sew) (value_in r.order i c o) (kind_list r i c)
      computed made g inside =
          subst
          (λ (s : Signs). Realises (width_in r.order c.vtype.sew) (i.vd + g) (reads_mask i o)
          (λ n m. value_in r.order i c o (n (row_of (operands_in r.order s i c.vtype.sew).a g)) (n (row_of (operands_in r.order s i c.vtype.sew).b g)) (n ((operands_in r.order s i c.vtype.sew).addend + g)) m)
          (kind_list r i c g))
          signs
          (lists-compute r.order o i c (list_for r i) (width_of r c) _ _ _ (i.vd + g) refl (bits-for ∙ numbers) takes-for (value-for (width_of r c)) (made g inside).computes)

      pub clip-told : Clipping r o → tells_clips r.masked ≡ true → ((g : ℕ) → g < count_of r c → IsMade r i c g)
          → AllClip (width_in r.order c.vtype.sew) (count_in r.order c.vtype) (operands_in r.order (signs_of o) i c.vtype.sew) (clips_in r.order i c o) (kind_list r i c)
      unfolding TellsClips
      clip-told clip told made g inside =
          subst
          (λ (s : Signs). ClipsWhere (width_in r.order c.vtype.sew)
          (λ n. clips_in r.order i c o (n (row_of (operands_in r.order s i c.vtype.sew).a g)) (n (row_of (operands_in r.order s i c.vtype.sew).b g)) (n ((operands_in r.order s i c.vtype.sew).addend + g)))
          (kind_list r i c g))
          signs
          (clips-same (width_of r c) _ _ (kind_list r i c g) (λ n. clip-for clip (width_of r c) _ _ _) (rw (tells-for ∙ told) at (made g inside).tells))

      -- the program as it is written
      module _ (wide : IsElementWidth (width_of r c)) where
        abbrev shape : Shape
        shape = shape_in r.order i c x o

        pub one : (g : ℕ) → one_register shape (usual_bounds shape) g (body_in r.order i c o (kind_list r i c) g) ≡ register_list r i c g
        unfolding one_register register_list shape_in elements_in elements_at
        one g = rw (takes, signs, no-bit (width_of r c) wide) refl

        pub first : (g : ℕ) → first_registers shape (usual_bounds shape) (body_in r.order i c o (kind_list r i c)) g ≡ registers_list r i c g
        unfolding first_registers registers_list
        first zero = refl
        first (suc g) = rw (first g, one g) refl

        pub elements-list : element_program r i c x ≡ program_in r.order i c x o (kind_list r i c)
        unfolding program_in shape_in elements_in program
        elements-list =
            ap (λ (signs : Signs). scalar_list i (width_of r c) (scalar_of r.order signs i c.vtype.sew x) ++ registers_list r i c (count_of r c)) signs
            ∙ sym (ap (λ (xs : List MicroOp). scalar_list i (width_of r c) (scalar_of r.order (signs_of o) i c.vtype.sew x) ++ xs) (first (count_of r c)))

    -- ---- results that are half as wide as the first operand

    module _ (halves : makes_halves r.masked ≡ true) where
      pub half-class : class_of i.op ≡ narrowing
      half-class = class-is ∙ rw (numbers, halves) refl

      pub of-halves : Halved r o
      of-halves = rw halves at f.halves

      pub half-value : (w a b : ℕ) → value_of (list_for r i) w c.vxrm a b 0 false ≡ o.value w c.vxrm a b 0 false
      half-value w a b =
          value-for w a b 0 false
          ∙ ap (λ (order : Order). value_by order o w c.vxrm a b 0 (reads_mask i o && false)) of-halves.straight
          ∙ of-halves.value.ignores w c.vxrm a b (cond o.takes_old 0 0) (reads_mask i o && false)

      pub leaves-all : ((g : ℕ) → g < registers_for c.vtype c.vtype.sew → IsHalfMade r i c g) → AllLeave (half_shape i c x o) (half_operands i c.vtype.sew) (half_value_in c o) (wide_lists r i c) (half_count c.vtype)
      unfolding half_shape half_elements elements_at
      leaves-all made = record {
        work = written_rows (list_for r i);
        spares = spared (list_for r i);
        spares_halves = spared-halves (list_for r i);
        leaves = λ g h inside first.
            leaves-same c.vtype.sew (value_row (list_for r i) (log2 (2 * c.vtype.sew))) (written_rows (list_for r i)) _ _ _ (λ n. half-value c.vtype.sew _ _) ((made g inside).leaves h first);
      }

      -- each list tells what the operation clips of two operands
      pub half-clip : Clipping r o → (w a b : ℕ) → clips_of (list_for r i) w c.vxrm a b 0 ≡ o.clips w c.vxrm a b 0 false
      half-clip clip w a b =
          clip-for clip w a b 0
          ∙ ap (λ (order : Order). clips_by order o w c.vxrm a b 0) of-halves.straight
          ∙ from_bool-same _ _ (of-halves.flag.ignores w c.vxrm a b (cond o.takes_old 0 0) false)

      pub flags-all : Clipping r o → tells_clips r.masked ≡ true → (made : (g : ℕ) → g < registers_for c.vtype c.vtype.sew → IsHalfMade r i c g)
          → AllFlag (half_shape i c x o) (half_operands i c.vtype.sew) (half_clips_in c o) (wide_lists r i c) (half_count c.vtype) (leaves-all made).work
      unfolding half_shape half_elements elements_at leaves-all
      flags-all clip told made = record {
        told = tells-for ∙ told;
        keeps = λ q. wide-keep (list_for r i) c.vtype.sew _ _ _ _ _ (halves-for ∙ halves);
        spares_flags = spared-flags (list_for r i);
        apart_flags = apart i.form;
        apart_halves = omega arith;
        flags = λ g h inside first. flags-same c.vtype.sew overflow_row _ _ _ (λ n. half-clip clip c.vtype.sew _ _) (rw (tells-for ∙ told) at ((made g inside).flags h first));
      }
        where
          apart : (form : Form) → is_laid_out_in truth_row (half_in_vs1 form c.vtype.sew i.vs1) ≡ false
          apart V = refl
          apart X = refl
          apart I = refl

      -- the program as it is written
      module _ (wide : IsElementWidth c.vtype.sew) where
        abbrev half_shape_of : Shape
        half_shape_of = half_shape i c x o

        pub one-half : (g : ℕ) → one_register half_shape_of (usual_bounds half_shape_of) g (half_body i c x o (wide_lists r i c) g) ≡ half_register_list r i c g
        unfolding one_register half_register_list half_shape half_elements elements_at
        one-half g = rw (takes, no-bit c.vtype.sew wide) refl

        pub first-half : (g : ℕ) → first_registers half_shape_of (usual_bounds half_shape_of) (half_body i c x o (wide_lists r i c)) g ≡ half_registers_list r i c g
        unfolding first_registers half_registers_list
        first-half zero = refl
        first-half (suc g) = rw (first-half g, one-half g) refl

        pub halves-list : half_program r i c x ≡ half_program_in i c x o (wide_lists r i c)
        unfolding half_program_in half_shape half_elements program
        halves-list = sym (ap (λ (xs : List MicroOp). scalar_list i (2 * c.vtype.sew) (half_scalar i c.vtype.sew x) ++ xs) (first-half (registers_for c.vtype c.vtype.sew)))

  -- ---- results that are bits of a mask

  module _ (bits : makes_bits r.masked ≡ true) where
    pub mask-class : class_of i.op ≡ compare
    mask-class = class-is ∙ rw bits refl

    pub order-is : r.order ≡ Straight
    order-is = sym (ap (λ (b : Bool). cond b r.order Straight) bits) ∙ ap (λ (t : Traits). t.order_of_bits) f.same

    pub mask-width : width_of r c ≡ c.vtype.sew
    mask-width = rw order-is refl

    pub mask-laid : takes_laid (list_for r i) ≡ false
    mask-laid = laid-for ∙ rw order-is refl

    pub truth : IsTruth o (truth_of r.masked)
    truth = rw bits at f.means

    pub truth-for : (a b : ℕ) (m : Bool) → truth_of (list_for r i) c.vtype.sew a b m ≡ truth_in i c o (truth_of r.masked) a b m
    truth-for a b m = either (reads r i) ∙ rw takes refl
      where
        unmasked : Unmasked true r.plain r.masked
        unmasked = rw bits at f.unmasked

        either : (t : Bool) → truth_of (cond t r.masked r.plain) c.vtype.sew a b m ≡ truth_of r.masked c.vtype.sew a b (t && m)
        either true = refl
        either false = unmasked c.vtype.sew a b m

    pub told : ((g : ℕ) → g < group_count c.vtype → IsMaskMade r i c g)
        → AllTell c.vtype.sew (group_count c.vtype) (reads_mask i o) (compare_operands i) (truth_in i c o (truth_of r.masked)) (truth_list r i c)
    unfolding Computes
    told made g inside =
        tells-same _ _ _ _ _ (λ n m small. truth-for _ _ m) (rw (bits-for ∙ bits, takes-for) at (made g inside).computes)

    abbrev mask_shape : Shape
    mask_shape = compare_shape i c x o

    pub one-mask : (g : ℕ) → masks.mask_register mask_shape (usual_bounds mask_shape) g (truth_list r i c g) ≡ mask_register_list r i c g
    unfolding masks.mask_register mask_register_list compare_shape elements_at
    one-mask zero = rw takes refl
    one-mask (suc g) = rw takes refl

    pub first-mask : (g : ℕ) → masks.mask_registers mask_shape (usual_bounds mask_shape) (truth_list r i c) g ≡ mask_registers_list r i c g
    unfolding masks.mask_registers mask_registers_list
    first-mask zero = refl
    first-mask (suc g) = rw (first-mask g, one-mask g) refl

    pub bits-list : mask_program r i c x ≡ compare_program i c x o (truth_list r i c)
    unfolding compare_program compare_shape elements_at masks.mask_program
    bits-list =
        ap (λ (order : Order). scalar_list i c.vtype.sew (scalar_of order r.signs i c.vtype.sew x) ++ (mask_registers_list r i c (group_count c.vtype) ++ mask_fill_list c i.vd)) order-is
        ∙ ap (λ (signs : Signs). scalar_list i c.vtype.sew (scalar_of Straight signs i c.vtype.sew x) ++ (mask_registers_list r i c (group_count c.vtype) ++ mask_fill_list c i.vd)) signs
        ∙ sym (ap (λ (xs : List MicroOp). scalar_list i c.vtype.sew (scalar_of Straight (signs_of o) i c.vtype.sew x) ++ (xs ++ mask_fill_list c i.vd)) (first-mask (group_count c.vtype)))
