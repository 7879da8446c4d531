-- Instructions that write a group of elements of SEW bits.
use Rattle.std.proofs.Common.{◌≡◌, ℕ, ◌+◌, ◌*◌, ◌/◌, ◌<◌, ◌≤◌, Bool, true, false, not, ◌||◌, ◌&&◌, eqb, ltb, refl, sym, ap, arith, inl, inr}
use Rattle.std.proofs.lemmas.Bool.{and_parts, ltb-true, false≢true}
use Rattle.element_ops.specs.Elements.{Registers}
use Rattle.frame_laws.specs.Shapes.{Bounded}
use Rattle.frame_laws.specs.Laws.{Framed, Legal, AllRealised}
use Rattle.frame_laws.proofs.Ends.{usual_bounds_law}
use Rattle.frame_meaning.specs.Shapes.{shape_of}
use Rattle.frame_meaning.proofs.OperandWidths.{width-of}
use Rattle.gen_perm.specs.Lists.{move_ops}
use Rattle.gen_perm.specs.Laws.{MovesAll}
use Rattle.gen_perm.proofs.Moving.{moves-all, realises-move, move-measured}
use Rattle.legal_groups.specs.Facts.{IsElementWidth, registers_for, GroupWritten}
use Rattle.legal_groups.proofs.Widths.{width-least}
use Rattle.micro_ir.specs.declared.op.MicroOp.{MicroOp}
use Rattle.micro_ir.specs.declared.op.MicroOp.TheVariants.{Index}
use Rattle.micro_ir.specs.WorkRows.{result_row}
use Rattle.rvv_decode.specs.declared.instruction.VInstr.{VInstr}
use Rattle.vtype_cfg.specs.declared.configuration.Cfg.{Cfg}
use Rattle.vtype_cfg.specs.Classes.{Class, group as group_place, count_at}
use Rattle.rvv_meaning.specs.Elementwise.{Elementwise}
use Rattle.move_exec.specs.declared.bodies.Body.TheVariants.{Numbers}
use Rattle.move_exec.specs.declared.frames.Frame.{Frame}
use Rattle.move_exec.specs.Bodies.{AllThere, body_list, emitted_at}
use Rattle.move_exec.specs.Frames.{frame_shape, frame_bounds}
use Rattle.move_exec.specs.Written.{group_registers, group_frame}
use Rattle.move_exec.proofs.Sound.{Sound}

-- a group of elements of SEW bits takes as many registers as such a group does
pub count-is : (c : Cfg) → group_registers c ≡ registers_for c.vtype c.vtype.sew
count-is c = omega arith

-- the lists are emitted at the width of the elements
pub emitted-width : (w : ℕ) → IsElementWidth w → w ≡ emitted_at w
emitted-width w (inl is) = rw is refl
emitted-width w (inr (inl is)) = rw is refl
emitted-width w (inr (inr is)) = rw is refl

no-bit : (w : ℕ) → IsElementWidth w → eqb w 1 ≡ false
no-bit w (inl is) = rw is refl
no-bit w (inr (inl is)) = rw is refl
no-bit w (inr (inr is)) = rw is refl

-- a frame whose registers lie where they must
pub framed-of : (f : Frame) (c : Cfg) (takes : Bool) (w x columns : ℕ) (result : Registers → ℕ → Bool → ℕ)
    → IsElementWidth f.width → IsElementWidth w → f.registers ≤ 8 → f.vd + f.registers ≤ 32 → (f.masked ≡ true → 0 < f.vd) → c.vlen ≡ 32 * columns
    → Framed (frame_shape f c takes w x result) columns
framed-of f c takes w x columns result wide scalar few room spares long =
    let a = width-of f.width wide in
    let b = width-of w scalar in
    let least = width-least f.width wide in
    let scalar_least = width-least w scalar in
    record {
      width = omega (arith, least);
      lanes = a.lanes;
      vlen = long;
      numbers = omega (arith, least, few);
      room = room;
      scalar_width = omega (arith, scalar_least);
      scalar_lanes = b.lanes;
      not_mask = λ t. spares (either f.masked t);
    }
  where
    either : (b : Bool) → (b || false) ≡ true → b ≡ true
    either true t = refl
    either false t = absurd (false≢true t)

module _ (class : Class) (i : VInstr) (c : Cfg) (written : GroupWritten class i c.vtype c.vtype.sew) where
  spares : not i.vm ≡ true → 0 < i.vd
  spares t = written.spares_mask (off i.vm t)
    where
      off : (b : Bool) → not b ≡ true → b ≡ false
      off true t = absurd (false≢true t)
      off false t = refl

  pub group-few : group_registers c ≤ 8
  group-few = let few = written.place.few in omega (arith, count-is c, few)

  pub group-room : i.vd + group_registers c ≤ 32
  group-room = let room = written.place.room in omega (arith, count-is c, room)

  pub group-framed : (columns : ℕ) (result : Registers → ℕ → Bool → ℕ) → c.vlen ≡ 32 * columns → Framed (frame_shape (group_frame i c) c false 8 0 result) columns
  group-framed columns result long =
      framed-of (group_frame i c) c false 8 0 columns result written.sew (inl refl) group-few group-room spares long

  pub group-bounded : (result : Registers → ℕ → Bool → ℕ) → Bounded (frame_shape (group_frame i c) c false 8 0 result) (frame_bounds (group_frame i c))
  group-bounded result = usual_bounds_law (frame_shape (group_frame i c) c false 8 0 result) refl (λ t. ltb-true c.vstart c.vl (and_parts (ltb c.vstart c.vl) c.vtype.vta t).0)

  -- what an instruction leaves that writes the elements of the group
  abbrev pub group_elements : (value : ℕ → ℕ) → Elementwise
  group_elements value = record {
    vd = i.vd;
    registers = count_at c.vtype (group_place c.vtype.sew);
    width = c.vtype.sew;
    from = c.vstart;
    len = c.vl;
    vl = c.vl;
    masked = not i.vm;
    value = λ w e. value e;
    clipped = λ w e. false;
  }

  pub group-shape : (result : Registers → ℕ → Bool → ℕ) (value : ℕ → ℕ) → frame_shape (group_frame i c) c false 8 0 result ≡ shape_of c (group_elements value) false false 0 8 result
  group-shape result value =
      ap (λ (t : Bool). record (frame_shape (group_frame i c) c false 8 0 result) { tail = ltb c.vstart c.vl && (t || c.vtype.vta) }) (sym (no-bit c.vtype.sew written.sew))

  -- ---- the numbers of elements

  abbrev number_result : Registers → ℕ → Bool → ℕ
  number_result v e m = e

  abbrev no_source : (g r : ℕ) → Bool
  no_source g r = false

  numbers-legal : (columns : ℕ) → c.vlen ≡ 32 * columns → Legal (frame_shape (group_frame i c) c false 8 0 number_result) no_source columns
  numbers-legal columns long = record {
    framed = group-framed columns number_result long;
    sources = λ g r l h. absurd (false≢true h);
    reads_only = λ g u v p m l below less same. refl;
  }

  numbers-realised : AllRealised (frame_shape (group_frame i c) c false 8 0 number_result) (frame_bounds (group_frame i c)) (body_list (group_frame i c) Numbers c)
  numbers-realised g l =
      let w = c.vtype.sew in
      let a = width-of w written.sew in
      let least = width-least w written.sew in
      let room = group-room in
      let to : i.vd + g < 32 = omega arith in
      let op : MicroOp = Index result_row w (g * (c.vlen / w)) in
      let all : MovesAll op w (i.vd + g) (move_ops w op (i.vd + g)) = moves-all op w (i.vd + g) (omega (arith, least)) a.lanes to (refl, refl) in
      realises-move op w (i.vd + g) (move_ops w op (i.vd + g)) (omega (arith, least)) all (frame_shape (group_frame i c) c false 8 0 number_result) (frame_bounds (group_frame i c)) g refl refl (λ v p m active. refl)

  pub numbers-sound : Sound (group_frame i c) Numbers c false 8 0 (λ v. group_elements (λ e. e))
  numbers-sound =
      let w = c.vtype.sew in
      let a = width-of w written.sew in
      let least = width-least w written.sew in
      let room = group-room in
      let there : (g : ℕ) → g < group_registers c → AllThere (group_frame i c) Numbers g = λ g l. (omega arith, tt) in
      record {
        ready = record { width = omega (arith, least); wide = emitted-width w written.sew; few = group-few; there = there };
        kind = inr written.sew;
        result = number_result;
        source = no_source;
        legal = numbers-legal;
        bounded = group-bounded number_result;
        realised = numbers-realised;
        range = λ g l. (move-measured (Index result_row w (g * (c.vlen / w))) w (i.vd + g) (omega (arith, least)) (there g l).0 (refl, refl)).range (c.vlen / 32) (omega arith, a.built);
        shape = λ v. group-shape number_result (λ e. e);
        results = λ s long e l. refl;
        unclipped = λ v k. refl;
      }
