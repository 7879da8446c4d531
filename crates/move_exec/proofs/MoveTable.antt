-- The programs of the instructions that move elements realise them.
use Rattle.std.proofs.Common.{◌≡◌, ℕ, ◌+◌, ◌-◌, ◌*◌, ◌/◌, ◌^◌, ◌<◌, ◌≤◌, max, true, false, cond, eqb, List, [], ◌++◌, append-nil, None, Some, refl, sym, ◌∙◌, ap, arith, ⊎_elim, inl}
use Rattle.std.specs.Prelude.{IsTrue}
use Rattle.std.proofs.lemmas.Bool.{cases_Bool, cases_eq, eq-eqb, ne_eqb, lt-ltb, le-leb}
use Rattle.std.proofs.lemmas.Nat.{mul-le}
use Rattle.std.proofs.Math.Nat.{div-lt_iff_lt-mul, div-le_self}
use Rattle.bit_rows.specs.Slices.{Slices}
use Rattle.cam_chain.specs.Views.{registers_of}
use Rattle.cam_chain.specs.ChainValue.{no_counts}
use Rattle.cam_chain.specs.declared.counts.Counts.{Counts}
use Rattle.element_ops.specs.Elements.{element_of, bits_of}
use Rattle.frame_meaning.proofs.OperandWidths.{width-of}
use Rattle.gen_logic.specs.declared.kinds.Logic.TheVariants.{Second}
use Rattle.gen_perm.specs.Moves.{slide_result}
use Rattle.legal_groups.specs.Facts.{IsElementWidth}
use Rattle.legal_groups.specs.Rules.{Obeys, Lies}
use Rattle.legal_groups.proofs.Rules.{legal_law}
use Rattle.legal_groups.proofs.Widths.{sew-width}
use Rattle.micro_ir.specs.declared.op.MicroOp.{MicroOp}
use Rattle.micro_ir.specs.Replay.{replay, counts_and}
use Rattle.rvv_decode.specs.declared.instruction.VInstr.{VInstr}
use Rattle.vtype_cfg.specs.declared.configuration.Cfg.{Cfg}
use Rattle.vtype_cfg.specs.Classes.{plain, slide_up, gather, scalar_in, whole_move, whole as whole_place, register as register_place, class_of, row_of, count_at, overlap_of, needs_no_setting, may_write_mask}
use Rattle.vtype_cfg.specs.Legality.{is_legal}
use Rattle.vtype_cfg.specs.Settings.{is_valid, vlmax}
use Rattle.vtype_cfg.proofs.Lengths.{vlen_words}
use Rattle.rvv_meaning.specs.Elementwise.{registers_after}
use Rattle.rvv_meaning.specs.Operations.{operation_for}
use Rattle.rvv_meaning.specs.Vectors.{left_of}
use Rattle.rvv_meaning.specs.Whole.{whole_for}
use Rattle.move_exec.specs.declared.bodies.Body.TheVariants.{Bits}
use Rattle.move_exec.specs.declared.moves.Move.{Move}
use Rattle.move_exec.specs.declared.moves.Move.TheVariants.{Up, Down, UpByOne, DownByOne, Gathered, ScalarIn, Whole}
use Rattle.move_exec.specs.Bodies.{Ready, emitted_at}
use Rattle.move_exec.specs.Frames.{register_list, registers_list}
use Rattle.move_exec.specs.Laws.{Fine}
use Rattle.move_exec.specs.Moves.{moved, class_of_move, moves_in, frame_of_move, body_of_move, moves_scalar, single_for, single_counts, single_length, last_start, IsPlaced, HasLast}
use Rattle.move_exec.specs.Programs.{scalar_program, scalar_cost, scalar_length}
use Rattle.move_exec.specs.Written.{Sits, group_registers, amount_for, whole_width, whole_length, whole_frame}
use Rattle.move_exec.proofs.ByOne.{single-fine}
use Rattle.move_exec.proofs.Groups.{emitted-width}
use Rattle.move_exec.proofs.Kept.{kept-registers}
use Rattle.move_exec.proofs.Meant.{left-is, realises-elements}
use Rattle.move_exec.proofs.Moved.{up-sound, slid-sound, gathered-sound, up-left, down-left, gathered-left, no-bit}
use Rattle.move_exec.proofs.Quiet.{program-quiet}
use Rattle.move_exec.proofs.Scalars.{first-sound, first-sits}
use Rattle.move_exec.proofs.Slides.{offset-sits, element-here}
use Rattle.move_exec.proofs.Sound.{sound-fine, leaves, measured}
use Rattle.move_exec.proofs.Standing.{Grouped, grouped, grouped-apart, same-or-apart, whole-elements}
use Rattle.move_exec.proofs.Valid.{valid-setting, valid-length, length-bounded}
use Rattle.move_exec.proofs.Wholes.{Wholly, kept, whole-sits, whole-sound, whole_elements}

-- what the program of an instruction that moves elements has
pub record PlannedMove (how : Move) (i : VInstr) (c : Cfg) (x : ℕ) : Type 0 where
  pub sits : Sits (frame_of_move how i c x)
  pub ready : Ready (frame_of_move how i c x) (body_of_move how i c x)
  pub last : HasLast how (emitted_at (frame_of_move how i c x).width) i c
  pub fine : Fine i c x (counts_and (scalar_cost (frame_of_move how i c 0) (body_of_move how i c 0) (moves_scalar how)) (single_counts how))
      (scalar_length (frame_of_move how i c x) (body_of_move how i c x) (moves_scalar how) + single_length how)
      (scalar_program (frame_of_move how i c x) (body_of_move how i c x) c (moves_scalar how) (frame_of_move how i c x).width x ++ single_for how i c)

-- nothing stands after the registers
pub nothing-after : (i : VInstr) (c : Cfg) (x : ℕ) (all : Counts) (long : ℕ) (ops : List MicroOp) → Fine i c x all long ops → Fine i c x (counts_and all no_counts) (long + 0) (ops ++ [])
nothing-after i c x all long ops fine =
    let s : all.searches + 0 ≡ all.searches = omega arith in
    let u : all.updates + 0 ≡ all.updates = omega arith in
    let p : all.passes + 0 ≡ all.passes = omega arith in
    let same : counts_and all no_counts ≡ all = λ z. record { searches = s z; updates = u z; passes = p z } in
    let length : long + 0 ≡ long = omega arith in
    rw (append-nil ops, same, length) fine

-- an instruction, of which legality and the table of kinds say so much
module _ (i : VInstr) (c : Cfg) (x : ℕ) (valid : IsTrue (is_valid c)) (none : operation_for i.op ≡ None) where
  abbrev w : ℕ
  w = c.vtype.sew

  abbrev by : ℕ
  by = amount_for i.form i.vs1 x

  left-of : (how : Move) → whole_for i.op ≡ Some (moved how) → (v : List (List ℕ)) → left_of i c x v ≡ Some (moved how i (kept c) x v)
  left-of how whole v = left-is i c x (moved how) none whole v

  -- ---- slides and gathers

  planned-up : whole_for i.op ≡ Some (moved Up) → Obeys slide_up i c.vtype c.vstart → PlannedMove Up i c x
  unfolding row_of needs_no_setting may_write_mask overlap_of
  planned-up whole o =
      let g = grouped slide_up i c o valid refl refl refl refl in
      let sound = up-sound i c x g by (grouped-apart slide_up i c o refl refl refl) (valid-length c valid) in
      record {
        sits = offset-sits i c x g by;
        ready = sound.ready;
        last = tt;
        fine = nothing-after i c x _ _ _ (sound-fine i c x _ _ false w x _ sound valid (λ v. left-of Up whole v ∙ ap Some (up-left i (kept c) x v)));
      }

  planned-down : whole_for i.op ≡ Some (moved Down) → Obeys plain i c.vtype c.vstart → PlannedMove Down i c x
  unfolding row_of needs_no_setting may_write_mask
  planned-down whole o =
      let g = grouped plain i c o valid refl refl refl refl in
      let sound = slid-sound i c x g false false by g.lies (valid-length c valid) in
      record {
        sits = g.sits;
        ready = sound.ready;
        last = tt;
        fine = nothing-after i c x _ _ _ (sound-fine i c x _ _ false w x _ sound valid (λ v. left-of Down whole v ∙ ap Some (down-left i (kept c) x v)));
      }

  planned-gathered : whole_for i.op ≡ Some (moved Gathered) → moves_in Gathered i.form ≡ true → Obeys gather i c.vtype c.vstart → PlannedMove Gathered i c x
  unfolding row_of needs_no_setting may_write_mask overlap_of
  planned-gathered whole one o =
      let g = grouped gather i c o valid refl refl refl refl in
      let sound = gathered-sound i c x g by (grouped-apart gather i c o refl refl refl) (valid-length c valid) in
      record {
        sits = g.sits;
        ready = sound.ready;
        last = tt;
        fine = nothing-after i c x _ _ _ (sound-fine i c x _ _ false w x _ sound valid (λ v. left-of Gathered whole v ∙ ap Some (gathered-left i (kept c) x v one)));
      }

  -- ---- slides by one

  some-numbers : (g : Grouped i c) → 0 < group_registers c * (c.vlen / w)
  some-numbers g = let m : 1 * 1 ≤ group_registers c * (c.vlen / w) = mul-le 1 1 (group_registers c) (c.vlen / w) (omega arith) g.per in omega arith

  -- an element of the group lies in one of its registers
  single-placed : (g : Grouped i c) (number : ℕ) → number < group_registers c * (c.vlen / w) → number < 2 ^ 31 → IsPlaced i c number
  single-placed g number inside small =
      let l : number / (c.vlen / w) < group_registers c = (div-lt_iff_lt-mul g.per).1 inside in
      let room = g.sits.room in
      record { wide = g.sits.wide; some = g.per; room = omega arith; small = small }

  most-numbers : Grouped i c → vlmax c.vtype c.vlen ≤ 2 ^ 19
  most-numbers g =
      let long = length-bounded c valid in
      let each : c.vlen / w ≤ c.vlen = div-le_self c.vlen w in
      let m : group_registers c * (c.vlen / w) ≤ 8 * 65536 = mul-le (group_registers c) (c.vlen / w) 8 65536 g.sits.few (omega arith) in
      omega (arith, m, g.most)

  -- the values of a slide by one, with the scalar in its element
  up-values : (g : Grouped i c) (s : Slices) (e : ℕ) → c.vlen ≡ 32 * s.columns → e < c.vl
      → cond (eqb e 0) x (slide_result c.vlen w i.vs2 true 1 (vlmax c.vtype c.vlen) (bits_of (registers_of s)) e) ≡ cond (eqb e 0) x (element_of (c.vlen / 8) (registers_of s) i.vs2 w (e - 1))
  up-values g s e long less =
      ⊎_elim
      (λ (is : e ≡ 0). rw (eq-eqb e 0 is) refl)
      (λ (other : e ≡ 0 → ⊥).
      let vl = g.vl in
      let some : 1 ≤ e = omega (arith, other) in
      rw (ne_eqb e 0 other, le-leb 1 e some, lt-ltb (e - 1) (vlmax c.vtype c.vlen) (omega arith)) (element-here i c x g s (e - 1) long))
      (cases_eq e 0)

  down-values : (g : Grouped i c) (s : Slices) (e : ℕ) → c.vlen ≡ 32 * s.columns → e < c.vl
      → cond (eqb e (c.vl - 1)) x (slide_result c.vlen w i.vs2 false 1 (vlmax c.vtype c.vlen) (bits_of (registers_of s)) e) ≡ cond (eqb (e + 1) c.vl) x (element_of (c.vlen / 8) (registers_of s) i.vs2 w (e + 1))
  down-values g s e long less =
      ⊎_elim
      (λ (is : e + 1 ≡ c.vl). rw (eq-eqb (e + 1) c.vl is, eq-eqb e (c.vl - 1) (omega arith)) refl)
      (λ (other : e + 1 ≡ c.vl → ⊥).
      let vl = g.vl in
      let before : e ≡ c.vl - 1 → ⊥ = λ is. other (omega arith) in
      rw (ne_eqb (e + 1) c.vl other, ne_eqb e (c.vl - 1) before, lt-ltb (e + 1) (vlmax c.vtype c.vlen) (omega (arith, other))) (element-here i c x g s (e + 1) long))
      (cases_eq (e + 1) c.vl)

  planned-up_by_one : whole_for i.op ≡ Some (moved UpByOne) → Obeys slide_up i c.vtype c.vstart → PlannedMove UpByOne i c x
  unfolding row_of needs_no_setting may_write_mask overlap_of
  planned-up_by_one whole o =
      let g = grouped slide_up i c o valid refl refl refl refl in
      let apart = grouped-apart slide_up i c o refl refl refl in
      record {
        sits = g.sits;
        ready = (slid-sound i c x g true true 1 apart (valid-length c valid)).ready;
        last = (emitted-width w g.sits.wide, single-placed g 0 (some-numbers g) (omega arith));
        fine = single-fine i c x g true apart valid 0 c.vstart (some-numbers g) (λ l. omega arith) (λ v e. cond (eqb e 0) x (element_of (c.vlen / 8) v i.vs2 w (e - 1)))
            (λ s long e less. up-values g s e long less) (λ v. left-of UpByOne whole v);
      }

  planned-down_by_one : whole_for i.op ≡ Some (moved DownByOne) → Obeys plain i c.vtype c.vstart → PlannedMove DownByOne i c x
  unfolding row_of needs_no_setting may_write_mask
  planned-down_by_one whole o =
      let g = grouped plain i c o valid refl refl refl refl in
      let some = some-numbers g in
      let vl = g.vl in
      let most = g.most in
      let length : vlmax c.vtype c.vlen ≤ 2 ^ 19 = most-numbers g in
      let begins : 0 < c.vl → last_start c ≡ max c.vstart (c.vl - 1) = λ l. rw (ne_eqb c.vl 0 (λ is. absurd (omega arith))) refl in
      record {
        sits = g.sits;
        ready = (slid-sound i c x g true false 1 g.lies (valid-length c valid)).ready;
        last = (emitted-width w g.sits.wide, single-placed g (c.vl - 1) (omega (arith, some, vl, most)) (omega (arith, length, vl)));
        fine = single-fine i c x g false g.lies valid (c.vl - 1) (last_start c) (omega (arith, some, vl, most)) begins (λ v e. cond (eqb (e + 1) c.vl) x (element_of (c.vlen / 8) v i.vs2 w (e + 1)))
            (λ s long e less. down-values g s e long less) (λ v. left-of DownByOne whole v);
      }

  -- ---- the scalar into element 0

  planned-scalar : whole_for i.op ≡ Some (moved ScalarIn) → Obeys scalar_in i c.vtype c.vstart → PlannedMove ScalarIn i c x
  unfolding row_of needs_no_setting
  planned-scalar whole o =
      let wide = (o.setting refl).1 in
      let some : 0 < count_at c.vtype (register_place w) = omega arith in
      let lies : i.vd + count_at c.vtype (register_place w) ≤ 32 = o.vd.room some in
      let room : i.vd + 1 ≤ 32 = omega arith in
      let sound = first-sound i c x wide room in
      record {
        sits = first-sits i c x wide room;
        ready = sound.ready;
        last = tt;
        fine = nothing-after i c x _ _ _ (sound-fine i c x _ _ true w x _ sound valid (λ v. left-of ScalarIn whole v));
      }

  -- ---- whole registers

  -- their elements are as wide as those of a setting, or bytes
  whole-wide : IsElementWidth (whole_width c)
  whole-wide =
      ⊎_elim
      (λ (vill : c.vtype.vill ≡ true). rw vill (inl refl))
      (λ (there : c.vtype.vill ≡ false). rw there (sew-width c.vtype (valid-setting c valid) there))
      (cases_Bool c.vtype.vill)

  wholly : Obeys whole_move i c.vtype c.vstart → Wholly i c
  unfolding row_of
  wholly o =
      let place = whole_place (i.vs1 + 1) in
      let dest : Lies c.vtype place i.vd = o.vd in
      let source : Lies c.vtype place i.vs2 = o.vs2 in
      let count : count_at c.vtype place ≡ i.vs1 + 1 = omega arith in
      let some : 0 < count_at c.vtype place = omega arith in
      record {
        wide = whole-wide;
        few = rw count at dest.few;
        vd = rw count at (dest.room some);
        vs2 = rw count at (source.room some);
        lies = rw count at (same-or-apart c.vtype place i.vs2 i.vd source dest (omega arith) some);
      }

  kept-valid : IsTrue (is_valid (kept c))
  unfolding is_valid
  kept-valid = valid

  -- all bytes of the registers belong to elements
  all-bytes : whole_length i c * (whole_width c / 8) ≡ (i.vs1 + 1) * (c.vlen / 8)
  all-bytes =
      let a = width-of (whole_width c) whole-wide in
      let per = c.vlen / whole_width c in
      let b = whole_width c / 8 in
      let whole : per * whole_width c ≡ c.vlen = whole-elements c.vlen (whole_width c) (valid-length c valid) whole-wide in
      let bytes : 8 * b ≡ whole_width c = a.whole in
      let long : per * (8 * b) ≡ c.vlen = ap (λ (z : ℕ). per * z) bytes ∙ whole in
      let each : per * b ≡ c.vlen / 8 = omega (arith, long) in
      omega (arith, ap (λ (z : ℕ). (i.vs1 + 1) * z) each)

  planned-whole : whole_for i.op ≡ Some (moved Whole) → Obeys whole_move i c.vtype c.vstart → PlannedMove Whole i c x
  unfolding registers_list register_list
  planned-whole whole o =
      let there = wholly o in
      let a = width-of (whole_width c) whole-wide in
      let least = a.least in
      let legal = valid-length c valid in
      let sound = whole-sound i c x there legal (sym (vlen_words c.vlen legal)) in
      let body = Bits Second i.vs2 i.vs2 in
      let ops : List MicroOp = scalar_program (whole_frame i c) body c false (whole_width c) x in
      let m = measured i (kept c) x (whole_frame i c) body false (whole_width c) x (whole_elements i c x there) sound kept-valid in
      let left : (s : Slices) → c.vlen ≡ 32 * s.columns → registers_of (replay ops s) ≡ registers_after c (whole_elements i c x there (registers_of s)) (registers_of s) = λ s long.
      leaves i (kept c) x (whole_frame i c) body false (whole_width c) x (whole_elements i c x there) sound kept-valid s long
      ∙ kept-registers c (whole_elements i c x there (registers_of s)) s (no-bit (whole_width c) whole-wide) long a.whole (omega arith) (omega (arith, all-bytes)) refl in
      record {
        sits = whole-sits i c x there;
        ready = sound.ready;
        last = tt;
        fine = nothing-after i c x _ _ _ (record {
          realises = realises-elements i c x ops (whole_elements i c x there) (λ v. left-of Whole whole v) (λ v k. refl) (program-quiet (whole_frame i c) c body false (whole_width c) x) left;
          cost = m.cost;
          count = m.count;
          range = m.range;
        });
      }

-- any of them
pub planned-move : (how : Move) (i : VInstr) (c : Cfg) (x : ℕ) → class_of i.op ≡ class_of_move how → whole_for i.op ≡ Some (moved how) → operation_for i.op ≡ None → moves_in how i.form ≡ true
    → IsTrue (is_valid c) → is_legal i c.vtype c.vstart ≡ true → PlannedMove how i c x
planned-move Up i c x is whole none form valid legal = planned-up i c x valid none whole (legal_law slide_up i c.vtype c.vstart (valid-setting c valid) legal is)
planned-move Down i c x is whole none form valid legal = planned-down i c x valid none whole (legal_law plain i c.vtype c.vstart (valid-setting c valid) legal is)
planned-move UpByOne i c x is whole none form valid legal = planned-up_by_one i c x valid none whole (legal_law slide_up i c.vtype c.vstart (valid-setting c valid) legal is)
planned-move DownByOne i c x is whole none form valid legal = planned-down_by_one i c x valid none whole (legal_law plain i c.vtype c.vstart (valid-setting c valid) legal is)
planned-move Gathered i c x is whole none form valid legal = planned-gathered i c x valid none whole form (legal_law gather i c.vtype c.vstart (valid-setting c valid) legal is)
planned-move ScalarIn i c x is whole none form valid legal = planned-scalar i c x valid none whole (legal_law scalar_in i c.vtype c.vstart (valid-setting c valid) legal is)
planned-move Whole i c x is whole none form valid legal = planned-whole i c x valid none whole (legal_law whole_move i c.vtype c.vstart (valid-setting c valid) legal is)
