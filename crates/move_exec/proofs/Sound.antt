-- What makes the program of an instruction realise it, and the costs that follow.
use Rattle.std.proofs.Common.{◌≡◌, ℕ, ◌+◌, ◌*◌, ◌/◌, ◌<◌, Bool, true, false, eqb, List, length, Some, refl, sym, ◌∙◌, ap, arith, ◌⊎◌, inl, inr, ⊎_elim}
use Rattle.std.specs.Prelude.{IsTrue}
use Rattle.bit_rows.specs.Slices.{Slices}
use Rattle.cam_chain.specs.Views.{registers_of}
use Rattle.element_ops.specs.Elements.{Registers}
use Rattle.frame_laws.specs.Bytes.{AreResults}
use Rattle.frame_laws.specs.Laws.{Legal, AllRealised}
use Rattle.frame_laws.specs.Shapes.{Shape, Bounded}
use Rattle.frame_meaning.specs.Shapes.{shape_of}
use Rattle.frame_meaning.proofs.OperandWidths.{width-of}
use Rattle.gen_logic.proofs.Tables.{logic-measured}
use Rattle.gen_perm.proofs.Moving.{move-measured}
use Rattle.gen_reduce.proofs.Costs.{prefix-measured}
use Rattle.legal_groups.specs.Facts.{IsElementWidth}
use Rattle.micro_ir.specs.declared.op.MicroOp.{MicroOp}
use Rattle.micro_ir.specs.declared.op.MicroOp.TheVariants.{Slide, Pick, Index}
use Rattle.micro_ir.specs.Replay.{replay, tally, AllInRange}
use Rattle.micro_ir.specs.WorkRows.{scalar_row, result_row}
use Rattle.micro_ir.proofs.Effects.{commit-cost}
use Rattle.micro_ir.proofs.PieceLists.{commit-list}
use Rattle.rvv_decode.specs.declared.instruction.VInstr.{VInstr}
use Rattle.rvv_meaning.specs.Elementwise.{Elementwise, makes_mask, registers_after}
use Rattle.rvv_meaning.specs.Vectors.{left_of}
use Rattle.rvv_meaning.specs.Whole.{elements}
use Rattle.steer_net.specs.Network.{is_width}
use Rattle.vtype_cfg.specs.declared.configuration.Cfg.{Cfg}
use Rattle.vtype_cfg.specs.Settings.{is_valid}
use Rattle.vtype_cfg.proofs.Lengths.{vlen_words}
use Rattle.move_exec.specs.declared.bodies.Body.{Body}
use Rattle.move_exec.specs.declared.bodies.Body.TheVariants.{Bits, Marked, Numbers, Slid, Picked, Scalar}
use Rattle.move_exec.specs.declared.frames.Frame.{Frame}
use Rattle.move_exec.specs.Bodies.{Ready, AllThere, body_at, body_list, body_counts, body_length}
use Rattle.move_exec.specs.Frames.{frame_shape, frame_bounds}
use Rattle.move_exec.specs.Laws.{Fine}
use Rattle.move_exec.specs.Programs.{scalar_program, scalar_cost, scalar_length}
use Rattle.move_exec.proofs.Meant.{realises-elements, elements-left, bits-left}
use Rattle.move_exec.proofs.Measured.{ProgramMeasured, frame-measured}
use Rattle.move_exec.proofs.Quiet.{program-quiet}
use Rattle.move_exec.proofs.Valid.{valid-length, some-columns}

-- the bits of a mask, in one register, or elements
abbrev pub IsMaskOrGroup : Frame → Type 0
IsMaskOrGroup f = ((f.width ≡ 1) × (f.registers ≡ 1)) ⊎ IsElementWidth f.width

-- Of an instruction that leaves these elements: the frame, the list of each register and, where it takes one, the scalar, with the
-- results that the registers get and the registers that they are computed from.
pub record Sound (f : Frame) (body : Body) (c : Cfg) (takes : Bool) (w z : ℕ) (e : List (List ℕ) → Elementwise) : Type 0 where
  pub ready : Ready f body
  pub kind : IsMaskOrGroup f
  pub result : Registers → ℕ → Bool → ℕ
  pub source : (g r : ℕ) → Bool
  pub legal : (columns : ℕ) → c.vlen ≡ 32 * columns → Legal (frame_shape f c takes w z result) source columns
  pub bounded : Bounded (frame_shape f c takes w z result) (frame_bounds f)
  pub realised : AllRealised (frame_shape f c takes w z result) (frame_bounds f) (body_list f body c)
  pub range : (g : ℕ) → g < f.registers → AllInRange (c.vlen / 32) (body_list f body c g)
  pub shape : (v : List (List ℕ)) → frame_shape f c takes w z result ≡ shape_of c (e v) false takes z w result
  pub results : (s : Slices) → c.vlen ≡ 32 * s.columns → AreResults (frame_shape f c takes w z result) ((e (registers_of s)).value (registers_of s)) (registers_of s)
  pub unclipped : (v : List (List ℕ)) (k : ℕ) → (e v).clipped v k ≡ false

-- ---- the lists of bodies

-- the searches, updates and passes of the list of a register, and how many operations it has
record BodyMeasured (body : Body) (ops : List MicroOp) : Type 0 where
  cost : tally ops ≡ body_counts body
  count : length ops ≡ body_length body

body-measured : (f : Frame) (body : Body) (first g : ℕ) → 0 < f.width → AllThere f body g → BodyMeasured body (body_at f body first g)
unfolding tally
body-measured f (Bits kind a b) first g some there = let m = logic-measured kind f.width (a + g) (b + g) (f.vd + g) there.0 in record { cost = m.cost; count = m.count }
body-measured f (Marked source how) first g some there = let m = prefix-measured (source + g) how (f.vd + g) there.0 in record { cost = m.cost; count = m.count }
body-measured f Numbers first g some there = let m = move-measured (Index result_row f.width first) f.width (f.vd + g) some there.0 (refl, refl) in record { cost = m.cost; count = m.count }
body-measured f (Slid base up by limit) first g some there =
    let m = move-measured (Slide result_row base f.width first up by limit) f.width (f.vd + g) some there.0 (refl, refl) in record { cost = m.cost; count = m.count }
body-measured f (Picked base index limit) first g some there =
    let m = move-measured (Pick result_row base f.width index limit) f.width (f.vd + g) some there.0 (refl, refl) in record { cost = m.cost; count = m.count }
body-measured f Scalar first g some there = record {
  cost = commit-cost f.width scalar_row (f.vd + g);
  count = rw (commit-list f.width scalar_row (f.vd + g) some (omega arith)) refl;
}

-- ---- what follows

single-bit : (w : ℕ) → w ≡ 1 → eqb w 1 ≡ true
single-bit w is = rw is refl

no-bit : (w : ℕ) → IsElementWidth w → eqb w 1 ≡ false
no-bit w (inl is) = rw is refl
no-bit w (inr (inl is)) = rw is refl
no-bit w (inr (inr is)) = rw is refl

built : (f : Frame) → IsMaskOrGroup f → is_width f.width ≡ true
built f (inl mask) = rw mask.0 refl
built f (inr group) = (width-of f.width group).built

module _ (i : VInstr) (c : Cfg) (x : ℕ) (f : Frame) (body : Body) (takes : Bool) (w z : ℕ) (e : List (List ℕ) → Elementwise) (sound : Sound f body c takes w z e) (valid : IsTrue (is_valid c)) where
  abbrev shape : Shape
  shape = frame_shape f c takes w z sound.result

  pub leaves : (s : Slices) → c.vlen ≡ 32 * s.columns → registers_of (replay (scalar_program f body c takes w z) s) ≡ registers_after c (e (registers_of s)) (registers_of s)
  leaves s long =
      let v : List (List ℕ) = registers_of s in
      let some : 0 < s.columns = some-columns c s.columns valid long in
      let width : f.width ≡ (e v).width = ap (λ (sh : Shape). sh.width) (sound.shape v) in
      let mask : eqb f.width 1 ≡ makes_mask (e v) = ap (λ w. eqb w 1) width in
      ⊎_elim
      (λ (m : (f.width ≡ 1) × (f.registers ≡ 1)).
      bits-left f c takes w z sound.result (body_list f body c) (e v) sound.source s (sound.shape v) (sym mask ∙ single-bit f.width m.0) (sound.legal s.columns long) sound.bounded sound.realised some m.0 m.1 (sound.results s long))
      (λ (g : IsElementWidth f.width).
      elements-left f c takes w z sound.result (body_list f body c) (e v) sound.source s (sound.shape v) (sym mask ∙ no-bit f.width g) (sound.legal s.columns long) sound.bounded sound.realised some (width-of f.width g).whole (sound.results s long))
      sound.kind

  pub measured : ProgramMeasured (c.vlen / 32) (scalar_cost f body takes) (scalar_length f body takes) (scalar_program f body c takes w z)
  measured =
      let words : c.vlen ≡ 32 * (c.vlen / 32) = sym (vlen_words c.vlen (valid-length c valid)) in
      let one = λ (g : ℕ) (l : g < f.registers). body-measured f body (g * (c.vlen / f.width)) g sound.ready.width (sound.ready.there g l) in
      frame-measured f c takes w z (c.vlen / 32) sound.result (body_list f body c) (body_counts body) (body_length body) (sound.legal (c.vlen / 32) words).framed (built f sound.kind)
      (record { cost = λ g l. (one g l).cost; count = λ g l. (one g l).count; range = sound.range })

  pub sound-fine : ((v : List (List ℕ)) → left_of i c x v ≡ Some (elements (e v))) → Fine i c x (scalar_cost f body takes) (scalar_length f body takes) (scalar_program f body c takes w z)
  sound-fine left =
      let m = measured in
      record {
        realises = realises-elements i c x (scalar_program f body c takes w z) e left sound.unclipped (program-quiet f c body takes w z) leaves;
        cost = m.cost;
        count = m.count;
        range = m.range;
      }
