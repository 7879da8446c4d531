-- Instructions that write the bits of a mask; and of these the logic of masks, a truth of the bits of two masks.
use Rattle.std.proofs.Common.{◌≡◌, ◌≢◌, ℕ, ◌+◌, ◌*◌, ◌/◌, ◌<◌, ◌≤◌, Bool, true, false, ◌&&◌, ◌||◌, eqb, ltb, List, refl, sym, ◌∙◌, ap, arith, inl, inr, ⊎_elim}
use Rattle.std.specs.Int.{from_bool}
use Rattle.std.proofs.lemmas.Bool.{ltb-true, or_left, or_right, or_cases, eq-eqb, eqb-true, cases_lt, false≢true}
use Rattle.bit_laws.specs.Numbers.{number, low}
use Rattle.bit_rows.specs.Slices.{Slices}
use Rattle.steer_net.specs.Network.{bit_in}
use Rattle.element_ops.specs.Elements.{Registers, bits_of, mask_bit_of}
use Rattle.micro_ir.specs.declared.op.MicroOp.{MicroOp}
use Rattle.micro_ir.specs.Kinds.{RealisesBits}
use Rattle.micro_ir.specs.Replay.{replay}
use Rattle.micro_ir.specs.Steps.{element}
use Rattle.micro_ir.specs.WorkRows.{result_row, mask_row}
use Rattle.gen_logic.specs.declared.kinds.Logic.{Logic}
use Rattle.gen_logic.specs.declared.kinds.Logic.TheVariants.{Merge}
use Rattle.gen_logic.specs.Recipes.{logic_ops}
use Rattle.gen_logic.specs.Values.{truth_of, takes_mask}
use Rattle.gen_logic.proofs.Tables.{logic-bits, logic-measured}
use Rattle.row_views.proofs.Views.{element-view, view-in}
use Rattle.frame_laws.specs.Shapes.{Shape, Bounded, first_of}
use Rattle.frame_laws.specs.Laws.{Framed, Legal}
use Rattle.frame_laws.specs.Realising.{Realised}
use Rattle.frame_laws.proofs.Ends.{usual_bounds_law}
use Rattle.rvv_decode.specs.declared.instruction.VInstr.{VInstr}
use Rattle.vtype_cfg.specs.declared.configuration.Cfg.{Cfg}
use Rattle.rvv_meaning.specs.Elementwise.{Elementwise}
use Rattle.move_exec.specs.declared.bodies.Body.TheVariants.{Bits}
use Rattle.move_exec.specs.Bodies.{AllThere, place_at, body_list}
use Rattle.move_exec.specs.Frames.{frame_shape, frame_bounds}
use Rattle.move_exec.specs.Written.{mask_frame}
use Rattle.move_exec.proofs.Sound.{Sound}

-- the truth does not depend on the mask
unmasked : (kind : Logic) → takes_mask kind ≡ false → (m x y : Bool) → truth_of kind m x y ≡ truth_of kind false x y
unmasked Merge plain m x y = absurd (false≢true (sym plain))
unmasked _ plain m x y = refl

pub number-one : (f : ℕ → Bool) (t : Bool) → f 0 ≡ t → number 1 f ≡ low 1 (from_bool t)
number-one f true is = rw is refl
number-one f false is = rw is refl

-- a bit of a row is an element of one bit
pub here : (s : Slices) (k col r : ℕ) → k * 1 + 1 ≤ 32 → col < s.columns → element 1 k col s r 0 ≡ bit_in s r (col * 32 + k)
here s k col r fits inside =
    let e = element-view 1 k col s (omega arith) refl fits inside in
    let place : (col * 32 + k) * 1 + 0 ≡ col * 32 + k = omega arith in
    ap (λ (f : ℕ → ℕ → Bool). f r 0) e.0 ∙ view-in 1 s (col * 32 + k) r 0 (omega arith) ∙ ap (bit_in s r) place

pub and-true : (b : Bool) → b ≡ (b && true)
and-true true = refl
and-true false = refl

-- ---- the frame of the bits of a mask

module _ (masked : Bool) (i : VInstr) (c : Cfg) (vd : i.vd < 32) (spares : masked ≡ true → 0 < i.vd) (result : Registers → ℕ → Bool → ℕ) where
  abbrev pub bits_shape : Shape
  bits_shape = frame_shape (mask_frame masked i c) c false 8 0 result

  pub bits-framed : (columns : ℕ) → c.vlen ≡ 32 * columns → Framed bits_shape columns
  bits-framed columns long = record {
    width = omega arith;
    lanes = refl;
    vlen = long;
    numbers = omega arith;
    room = omega arith;
    scalar_width = omega arith;
    scalar_lanes = refl;
    not_mask = λ t. spares (either masked t);
  }
    where
      either : (b : Bool) → (b || false) ≡ true → b ≡ true
      either true t = refl
      either false t = absurd (false≢true t)

  pub bits-bounded : Bounded bits_shape (frame_bounds (mask_frame masked i c))
  bits-bounded = usual_bounds_law bits_shape refl (λ t. ltb-true c.vstart c.vl t)

  -- the one register reads two others, bit by bit
  abbrev pub two_sources : (a b g r : ℕ) → Bool
  two_sources a b g r = eqb r a || eqb r b

  small : (a b : ℕ) → a < 32 → b < 32 → (g r : ℕ) → two_sources a b g r ≡ true → r < 32
  small a b first second g r h =
      ⊎_elim (λ (t : eqb r a ≡ true). let e = eqb-true r a t in omega arith) (λ (t : eqb r b ≡ true). let e = eqb-true r b t in omega arith) (or_cases (eqb r a) (eqb r b) h)

  pub bits-legal : (columns : ℕ) → c.vlen ≡ 32 * columns → (a b : ℕ) → a < 32 → b < 32
      → ((u v : Registers) (e : ℕ) (m : Bool) → e < c.vlen → ((k : ℕ) → k ≤ e → u a k ≡ v a k) → ((k : ℕ) → k ≤ e → u b k ≡ v b k) → result u e m ≡ result v e m)
      → Legal bits_shape (two_sources a b) columns
  bits-legal columns long a b first second reads = record {
    framed = bits-framed columns long;
    sources = λ g r l h. (small a b first second g r h, ⊎_elim (λ (t : r < i.vd). inl t) (λ (t : i.vd ≤ r). inr (omega arith)) (cases_lt r i.vd));
    reads_only = λ g u v p m l below less same.
        let one : c.vlen / 1 ≡ c.vlen = omega arith in
        let none : first_of bits_shape g ≡ 0 = let z : g ≡ 0 = omega arith in rw z (omega arith) in
        let inside : first_of bits_shape g + p < c.vlen = omega (arith, none, below, one) in
        reads u v (first_of bits_shape g + p) m inside
        (λ k h. same a k (or_left (eqb a a) _ (eq-eqb a a refl)) (omega arith))
        (λ k h. same b k (or_right (eqb b a) _ (eq-eqb b b refl)) (omega arith));
  }

module _ (kind : Logic) (plain : takes_mask kind ≡ false) (i : VInstr) (c : Cfg) (vd : i.vd < 32) (vs2 : i.vs2 < 32) (vs1 : i.vs1 < 32) where
  abbrev mask_result : Registers → ℕ → Bool → ℕ
  mask_result v e m = from_bool (truth_of kind false (v i.vs2 e) (v i.vs1 e))

  never : false ≡ true → 0 < i.vd
  never t = absurd (false≢true t)

  -- the list of the register
  only-realised : Realised (bits_shape false i c vd never mask_result) (frame_bounds (mask_frame false i c)) 0 (body_list (mask_frame false i c) (Bits kind i.vs2 i.vs1) c 0)
  unfolding Realised RealisesBits
  only-realised =
      let two : i.vs2 + 0 ≢ result_row = omega arith in
      let one : i.vs1 + 0 ≢ result_row = omega arith in
      let to : i.vd + 0 < 32 = omega arith in
      let second : i.vs2 + 0 ≡ i.vs2 = omega arith in
      let third : i.vs1 + 0 ≡ i.vs1 = omega arith in
      let list : List MicroOp = logic_ops kind 1 (place_at (i.vs2 + 0) (i.vs1 + 0) (i.vd + 0)) in
      let bits : RealisesBits 1 (i.vd + 0) (λ n. truth_of kind (n mask_row) (n (i.vs2 + 0)) (n (i.vs1 + 0))) list = logic-bits kind 1 (i.vs2 + 0) (i.vs1 + 0) (i.vd + 0) two one to in
      λ s vl splatted windowed k col fits inside.
      let y = bits s k col fits inside in
      let first : ℕ = col * 32 + k in
      let zero_first : 0 * (c.vlen / 1) + first ≡ first = omega arith in
      record {
        active = λ on m mask.
            number-one (element 1 k col (replay list s) (i.vd + 0)) (truth_of kind false (bit_in s i.vs2 (0 * (c.vlen / 1) + first)) (bit_in s i.vs1 (0 * (c.vlen / 1) + first)))
            (y.bits 0 (omega arith) ∙ rw (on 0 (omega arith)) (unmasked kind plain _ _ _ ∙ rw (second, third, here s k col i.vs2 fits inside, here s k col i.vs1 fits inside, zero_first) refl));
        idle = λ off j h. y.bits j h ∙ rw (off j h) refl;
        kept = y.kept;
      }

  -- what the instruction leaves
  abbrev pub mask_elements : List (List ℕ) → Elementwise
  mask_elements v = record {
    vd = i.vd;
    registers = 1;
    width = 1;
    from = c.vstart;
    len = c.vl;
    vl = c.vl;
    masked = false;
    value = λ w e. from_bool (truth_of kind false (mask_bit_of v i.vs2 e) (mask_bit_of v i.vs1 e));
    clipped = λ w e. false;
  }

  pub masks-sound : Sound (mask_frame false i c) (Bits kind i.vs2 i.vs1) c false 8 0 mask_elements
  unfolding bits_of
  masks-sound =
      let shape : Shape = bits_shape false i c vd never mask_result in
      let there : (g : ℕ) → g < 1 → AllThere (mask_frame false i c) (Bits kind i.vs2 i.vs1) g = λ g l. (omega arith, (omega arith, omega arith)) in
      record {
        ready = record { width = omega arith; wide = tt; few = omega arith; there = there };
        kind = inl (refl, refl);
        result = mask_result;
        source = two_sources false i c vd never mask_result i.vs2 i.vs1;
        legal = λ columns long. bits-legal false i c vd never mask_result columns long i.vs2 i.vs1 vs2 vs1
            (λ u v e m inside a b. let same : e ≤ e = omega arith in rw (a e same, b e same) refl);
        bounded = bits-bounded false i c vd never mask_result;
        realised = λ g l. let z : g ≡ 0 = omega arith in rw z only-realised;
        range = λ g l. (logic-measured kind 1 (i.vs2 + g) (i.vs1 + g) (i.vd + g) (there g l).0).range (c.vlen / 32);
        shape = λ v. ap (λ (t : Bool). record shape { tail = t }) (and-true (ltb c.vstart c.vl));
        results = λ s long e l. refl;
        unclipped = λ v k. refl;
      }
