-- The programs leave the control numbers.
use Rattle.std.proofs.Common.{◌≡◌, ℕ, ◌+◌, ◌*◌, Bool, true, false, cond, List, [], ◌∷◌, ◌++◌, zero, suc, refl, sym}
use Rattle.std.proofs.lemmas.Bool.{false≢true}
use Rattle.micro_ir.specs.declared.op.MicroOp.{MicroOp}
use Rattle.micro_ir.specs.declared.op.MicroOp.TheVariants.{PackMask}
use Rattle.micro_ir.specs.Replay.{all_keep_control}
use Rattle.micro_ir.specs.WorkRows.{active_row, truth_row}
use Rattle.micro_ir.proofs.Lists.{keep-append}
use Rattle.micro_ir.proofs.Keeping.{micros-keep}
use Rattle.rvv_decode.specs.declared.instruction.VInstr.{VInstr}
use Rattle.vtype_cfg.specs.declared.configuration.Cfg.{Cfg}
use Rattle.rvv_meaning.specs.Elementwise.{is_ones}
use Rattle.vec_exec.specs.declared.recipes.Listed.{Listed}
use Rattle.vec_exec.specs.declared.recipes.Listed.TheVariants.{Bits, Sums, Truths, Choices, Shifts, Products, Fractions, Roundings, Averages, Saturations, Divisions, Copies, Halves, Clips}
use Rattle.vec_exec.specs.declared.recipes.Recipe.{Recipe}
use Rattle.frame_laws.specs.Classes.Halved.{halves_row, halves_list}
use Rattle.frame_laws.specs.Classes.Operands.{laid_out}
use Rattle.frame_laws.proofs.Classes.Spreading.{laid-keep}
use Rattle.frame_laws.proofs.Classes.HalvedClips.{halves-keep}
use Rattle.frame_meaning.specs.Halves.{half_count}
use Rattle.frame_meaning.specs.Shapes.{has_scalar}
use Rattle.micro_ir.specs.Pieces.{commit}
use Rattle.micro_ir.specs.Steps.{micros}
use Rattle.gen_fixed.specs.Kinds.{clip_ops}
use Rattle.gen_shift.specs.Kinds.{rounding_ops}
use Rattle.gen_shift.specs.Rows.{rounded_row}
use Rattle.rvv_meaning.specs.Operations.{log2}
use Rattle.vec_exec.specs.Recipes.{shift_of, moved_in, makes_halves, rows, list_of, tells_clips}
use Rattle.vec_exec.specs.Programs.{test_list, reads, masked, list_for, width_of, operands_of, halves_of, scalar_list, window_list, fill_list, free_bits, mask_fill_list, kind_list, truth_list, wide_lists, body_list, half_list_of, first_in, register_list, registers_list, mask_register_list, mask_registers_list, half_register_list, half_registers_list, element_program, mask_program, half_program}

-- a list that is there, or not
cond-keep : (b : Bool) (ops : List MicroOp) → all_keep_control ops ≡ true → all_keep_control (cond b ops []) ≡ true
cond-keep true ops keep = keep
cond-keep false ops keep = refl

list-keep : (list : Listed) (w mode a b d to : ℕ) → tells_clips list ≡ false → all_keep_control (list_of list w mode a b d to) ≡ true
unfolding list_of
list-keep (Bits kind) w mode a b d to quiet = micros-keep w _
list-keep (Sums kind) w mode a b d to quiet = micros-keep w _
list-keep (Truths kind) w mode a b d to quiet = micros-keep w _
list-keep (Choices kind) w mode a b d to quiet = micros-keep w _
list-keep (Shifts kind) w mode a b d to quiet = micros-keep w _
list-keep (Products kind) w mode a b d to quiet = micros-keep w _
list-keep Fractions w mode a b d to quiet = absurd (false≢true (sym quiet))
list-keep (Saturations kind) w mode a b d to quiet = absurd (false≢true (sym quiet))
list-keep (Averages kind sub) w mode a b d to quiet = micros-keep w _
list-keep (Roundings right) w mode a b d to quiet = micros-keep w _
list-keep (Divisions kind) w mode a b d to quiet = micros-keep w _
list-keep Copies w mode a b d to quiet = micros-keep w _
list-keep (Halves kind) w mode a b d to quiet = micros-keep (2 * w) _
list-keep (Clips kind) w mode a b d to quiet = absurd (false≢true (sym quiet))

-- a list that computes half by half leaves them, also where it tells clips
pub wide-keep : (list : Listed) (w mode a b d to : ℕ) → makes_halves list ≡ true → all_keep_control (list_of list w mode a b d to) ≡ true
unfolding list_of
wide-keep (Halves kind) w mode a b d to halves = micros-keep (2 * w) _
wide-keep (Clips kind) w mode a b d to halves =
    keep-append (rounding_ops (shift_of (moved_in kind)) (2 * w) (log2 (2 * w)) (rows mode a b d to)) (clip_ops kind w (rounded_row mode (log2 (2 * w)))) (micros-keep (2 * w) _) (micros-keep (2 * w) _)
wide-keep (Bits kind) w mode a b d to halves = absurd (false≢true halves)
wide-keep (Sums kind) w mode a b d to halves = absurd (false≢true halves)
wide-keep (Truths kind) w mode a b d to halves = absurd (false≢true halves)
wide-keep (Choices kind) w mode a b d to halves = absurd (false≢true halves)
wide-keep (Shifts kind) w mode a b d to halves = absurd (false≢true halves)
wide-keep (Products kind) w mode a b d to halves = absurd (false≢true halves)
wide-keep Fractions w mode a b d to halves = absurd (false≢true halves)
wide-keep (Saturations kind) w mode a b d to halves = absurd (false≢true halves)
wide-keep (Averages kind sub) w mode a b d to halves = absurd (false≢true halves)
wide-keep (Roundings right) w mode a b d to halves = absurd (false≢true halves)
wide-keep (Divisions kind) w mode a b d to halves = absurd (false≢true halves)
wide-keep Copies w mode a b d to halves = absurd (false≢true halves)

scalar-keep : (i : VInstr) (width number : ℕ) → all_keep_control (scalar_list i width number) ≡ true
scalar-keep i width number = cond-keep (has_scalar i.form) _ (micros-keep width _)

window-keep : (c : Cfg) (width : ℕ) (reads masked : Bool) (first : ℕ) → all_keep_control (window_list c width reads masked first) ≡ true
window-keep c width reads masked first = cond-keep reads _ refl

fill-keep : (c : Cfg) (width first : ℕ) (masked : Bool) (to : ℕ) → all_keep_control (fill_list c width first masked to) ≡ true
fill-keep c width first masked to = cond-keep (is_ones c.policy) _ (micros-keep width _)

free-keep : (c : Cfg) (masked : Bool) (g : ℕ) → all_keep_control (free_bits c masked g) ≡ true
free-keep c masked zero = cond-keep (is_ones c.policy) _ refl
free-keep c masked (suc g) = refl

module _ (r : Recipe) (i : VInstr) (c : Cfg) (quiet : tells_clips (list_for r i) ≡ false) where
  -- what stands round the list of a register
  around-keep : (width first to : ℕ) (body : List MicroOp) → all_keep_control body ≡ true
      → all_keep_control (window_list c width (reads r i) (masked r i) first ++ (body ++ fill_list c width first (masked r i) to)) ≡ true
  around-keep width first to body keep =
      keep-append (window_list c width (reads r i) (masked r i) first) (body ++ fill_list c width first (masked r i) to) (window-keep c width (reads r i) (masked r i) first)
      (keep-append body (fill_list c width first (masked r i) to) keep (fill-keep c width first (masked r i) to))

  body-keep : (g : ℕ) → all_keep_control (body_list r i c g) ≡ true
  body-keep g =
      let with = operands_of r i c in
      keep-append (laid_out with.a (width_of r c) g) (laid_out with.b (width_of r c) g ++ kind_list r i c g) (laid-keep with.a (width_of r c) g)
      (keep-append (laid_out with.b (width_of r c) g) (kind_list r i c g) (laid-keep with.b (width_of r c) g) (list-keep (list_for r i) (width_of r c) _ _ _ _ _ quiet))

  register-keep : (g : ℕ) → all_keep_control (register_list r i c g) ≡ true
  unfolding register_list
  register-keep g = around-keep (width_of r c) (first_in r i c (width_of r c) g) (i.vd + g) (body_list r i c g) (body-keep g)

  registers-keep : (count : ℕ) → all_keep_control (registers_list r i c count) ≡ true
  unfolding registers_list
  registers-keep zero = refl
  registers-keep (suc g) = keep-append (registers_list r i c g) (register_list r i c g) (registers-keep g) (register-keep g)

  mask-register-keep : (g : ℕ) → all_keep_control (mask_register_list r i c g) ≡ true
  unfolding mask_register_list
  mask-register-keep g =
      let first = first_in r i c c.vtype.sew g in
      let last : List MicroOp = PackMask truth_row active_row i.vd c.vtype.sew first ∷ [] in
      keep-append (window_list c c.vtype.sew (reads r i) (masked r i) first) (truth_list r i c g ++ (free_bits c (masked r i) g ++ last)) (window-keep c c.vtype.sew (reads r i) (masked r i) first)
      (keep-append (truth_list r i c g) (free_bits c (masked r i) g ++ last) (list-keep (list_for r i) c.vtype.sew _ _ _ _ _ quiet)
      (keep-append (free_bits c (masked r i) g) last (free-keep c (masked r i) g) refl))

  mask-registers-keep : (count : ℕ) → all_keep_control (mask_registers_list r i c count) ≡ true
  unfolding mask_registers_list
  mask-registers-keep zero = refl
  mask-registers-keep (suc g) = keep-append (mask_registers_list r i c g) (mask_register_list r i c g) (mask-registers-keep g) (mask-register-keep g)

  half-register-keep : (g : ℕ) → all_keep_control (half_register_list r i c g) ≡ true
  unfolding half_register_list
  half-register-keep g =
      around-keep c.vtype.sew (first_in r i c c.vtype.sew g) (i.vd + g) (half_list_of r i c g)
      (keep-append (halves_list c.vtype.sew (halves_of r i c) (wide_lists r i c) g (half_count c.vtype)) (test_list (list_for r i) c.vtype.sew ++ micros c.vtype.sew (commit c.vtype.sew halves_row (i.vd + g)))
      (halves-keep c.vtype.sew (halves_of r i c) (wide_lists r i c) (λ q. list-keep (list_for r i) c.vtype.sew _ _ _ _ _ quiet) g (half_count c.vtype))
      (rw quiet (micros-keep c.vtype.sew _)))

  half-registers-keep : (count : ℕ) → all_keep_control (half_registers_list r i c count) ≡ true
  unfolding half_registers_list
  half-registers-keep zero = refl
  half-registers-keep (suc g) = keep-append (half_registers_list r i c g) (half_register_list r i c g) (half-registers-keep g) (half-register-keep g)

  -- the programs of results that are elements, of results that are the bits of a mask, and of elements half as wide as the
  -- first operand
  pub elements-keep : (x : ℕ) → all_keep_control (element_program r i c x) ≡ true
  elements-keep x = keep-append (scalar_list i _ _) (registers_list r i c _) (scalar-keep i _ _) (registers-keep _)

  pub mask-keep : (x : ℕ) → all_keep_control (mask_program r i c x) ≡ true
  mask-keep x =
      keep-append (scalar_list i _ _) (mask_registers_list r i c _ ++ mask_fill_list c i.vd) (scalar-keep i _ _)
      (keep-append (mask_registers_list r i c _) (mask_fill_list c i.vd) (mask-registers-keep _) (cond-keep (is_ones c.policy) _ (micros-keep c.vtype.sew _)))

  pub halves-keep-program : (x : ℕ) → all_keep_control (half_program r i c x) ≡ true
  halves-keep-program x = keep-append (scalar_list i _ _) (half_registers_list r i c _) (scalar-keep i _ _) (half-registers-keep _)
