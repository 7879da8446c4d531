-- The places that stand so to the first one of a mask: before it, up to it, or at it.
use Rattle.std.proofs.Common.{◌≡◌, ℕ, ◌+◌, ◌*◌, ◌/◌, ◌%◌, ◌<◌, ◌≤◌, Bool, true, false, cond, not, ◌&&◌, ◌||◌, eqb, ltb, leb, List, refl, sym, ◌∙◌, ap, arith, inl}
use Rattle.std.specs.Int.{from_bool}
use Rattle.std.proofs.lemmas.Bool.{and_parts, ltb-true, lt-ltb, le-leb, eq-eqb, ne_eqb}
use Rattle.std.proofs.lemmas.Nat.{div-add-mod'}
use Rattle.std.proofs.Math.Nat.{mod-lt}
use Rattle.bit_rows.specs.Slices.{Slices}
use Rattle.element_ops.specs.Elements.{Registers, mask_bit_of, bits_of}
use Rattle.fold_laws.proofs.Anys.{any-same}
use Rattle.frame_laws.specs.Realising.{Windowed, Realised}
use Rattle.frame_laws.specs.Shapes.{Shape, element_number}
use Rattle.gen_reduce.specs.Masks.{is_set, prefix_bit, prefix_ops, MarksPrefix}
use Rattle.gen_reduce.proofs.Costs.{prefix-measured}
use Rattle.gen_reduce.proofs.MaskLaws.{prefix-marks}
use Rattle.micro_ir.specs.declared.op.MicroOp.{MicroOp}
use Rattle.micro_ir.specs.Replay.{replay}
use Rattle.micro_ir.specs.Steps.{element}
use Rattle.micro_ir.specs.WorkRows.{active_row, scalar_row}
use Rattle.micro_ir.proofs.Lift.{replay-columns}
use Rattle.reduce_tree.specs.Tags.{no_place}
use Rattle.rvv_decode.specs.declared.instruction.VInstr.{VInstr}
use Rattle.rvv_meaning.specs.Elementwise.{Elementwise}
use Rattle.rvv_meaning.specs.Whole.{elements}
use Rattle.steer_net.specs.Network.{bit_in, is_within}
use Rattle.steer_net.specs.declared.reach.Reach.{Reach}
use Rattle.steer_net.specs.declared.reach.Reach.TheVariants.{Before, Upto, At}
use Rattle.vtype_cfg.specs.declared.configuration.Cfg.{Cfg}
use Rattle.move_exec.specs.declared.bodies.Body.TheVariants.{Marked}
use Rattle.move_exec.specs.declared.kinds.Kind.TheVariants.{Marks}
use Rattle.move_exec.specs.Bodies.{AllThere, body_list}
use Rattle.move_exec.specs.Frames.{frame_bounds}
use Rattle.move_exec.specs.Kinds.{leaving_of}
use Rattle.move_exec.specs.Written.{mask_frame}
use Rattle.move_exec.proofs.Masks.{number-one, here, and-true, bits_shape, two_sources, bits-legal, bits-bounded}
use Rattle.move_exec.proofs.Sound.{Sound}

-- how a place stands to the first set one depends on the places up to it alone
prefix-same : (how : Reach) (t u : ℕ → Bool) (e : ℕ) → ((k : ℕ) → k ≤ e → t k ≡ u k) → prefix_bit how t e ≡ prefix_bit how u e
prefix-same Before t u e same = ap not (any-same (e + 1) t u (λ k l. same k (omega arith)))
prefix-same Upto t u e same = ap not (any-same e t u (λ k l. same k (omega arith)))
prefix-same At t u e same = let last : e ≤ e = omega arith in rw (same e last, any-same e t u (λ k l. same k (omega arith))) refl

-- the window of a place of so many that the instruction may compute
window-bit : (from len n : ℕ) (vm b : Bool) → from ≡ 0 → n < len → (leb from n && ltb n len && (not (not vm) || b)) ≡ (vm || b)
window-bit from len n vm b start below = rw (start, le-leb 0 n (omega arith), lt-ltb n len below) (twice vm)
  where
    twice : (vm : Bool) → (true && true && (not (not vm) || b)) ≡ (vm || b)
    twice true = refl
    twice false = refl

module _ (how : Reach) (i : VInstr) (c : Cfg) (start : c.vstart ≡ 0) (long : c.vlen ≤ 65536) (vd : i.vd < 32) (vs2 : i.vs2 < 32) (spares : not i.vm ≡ true → 0 < i.vd) where
  -- a set place: one that the mask leaves in, with a bit of vs2 that is 1
  abbrev set_in : Registers → ℕ → Bool
  set_in v e = (i.vm || v 0 e) && v i.vs2 e

  abbrev marks_result : Registers → ℕ → Bool → ℕ
  marks_result v e m = from_bool (prefix_bit how (set_in v) e)

  abbrev marks_shape : Shape
  marks_shape = bits_shape (not i.vm) i c vd spares marks_result

  -- a place up to an active one is active where the mask leaves it in
  gate : (s : Slices) → Windowed marks_shape (frame_bounds (mask_frame (not i.vm) i c)) 0 s → (n : ℕ) → n < c.vl → n < 32 * s.columns
      → bit_in s active_row n ≡ (i.vm || bit_in s 0 n)
  gate s windowed n below inside =
      let sub : n % 32 < 32 = mod-lt n (omega arith) in
      let col : n / 32 < s.columns = omega arith in
      let fits : n % 32 * 1 + 1 ≤ 32 = omega arith in
      let place : n / 32 * 32 + n % 32 ≡ n = div-add-mod' n 32 in
      let number : element_number marks_shape 0 (n % 32) (n / 32) ≡ n = omega (arith, place) in
      ap (bit_in s active_row) (sym place)
      ∙ sym (here s (n % 32) (n / 32) active_row fits col)
      ∙ windowed.active (n % 32) (n / 32) 0 fits col (omega arith)
      ∙ ap (is_within c.vstart c.vl (not i.vm) (bit_in s 0)) number
      ∙ window-bit c.vstart c.vl n i.vm (bit_in s 0 n) start below

  only-realised : Realised marks_shape (frame_bounds (mask_frame (not i.vm) i c)) 0 (body_list (mask_frame (not i.vm) i c) (Marked i.vs2 how) c 0)
  unfolding Realised MarksPrefix
  only-realised =
      let to : ℕ = i.vd + 0 in
      let register : i.vd + 0 < 32 = omega arith in
      let second : i.vs2 + 0 ≡ i.vs2 = omega arith in
      let ops : List MicroOp = prefix_ops (i.vs2 + 0) how (i.vd + 0) in
      let marks : MarksPrefix (i.vs2 + 0) how (i.vd + 0) ops = prefix-marks (i.vs2 + 0) how (i.vd + 0) register in
      λ s vl splatted windowed k col fits inside.
      let e : ℕ = col * 32 + k in
      let below : e < 32 * s.columns = omega arith in
      let most : 32 * s.columns ≤ no_place = omega (arith, vl, long) in
      let after : col < (replay ops s).columns = rw (replay-columns ops s) inside in
      let bit : (r : ℕ) → r ≤ scalar_row
      → element 1 k col (replay ops s) r 0 ≡ cond (eqb r (i.vd + 0) && bit_in s active_row e) (prefix_bit how (is_set (i.vs2 + 0) s) e) (bit_in s r e) =
      λ r low. here (replay ops s) k col r fits after ∙ marks s r e most low below in
      let same : eqb (i.vd + 0) (i.vd + 0) ≡ true = eq-eqb (i.vd + 0) (i.vd + 0) refl in
      let low : i.vd + 0 ≤ scalar_row = omega arith in
      let number : element_number marks_shape 0 k col ≡ e = omega arith in
      record {
        active = λ on m mask.
            let active : bit_in s active_row e ≡ true = sym (here s k col active_row fits inside) ∙ on 0 (omega arith) in
            let within : is_within c.vstart c.vl (not i.vm) (bit_in s 0) (element_number marks_shape 0 k col) ≡ true = sym (windowed.active k col 0 fits inside (omega arith)) ∙ on 0 (omega arith) in
            let number_here : ℕ = element_number marks_shape 0 k col in
            let bounds : (leb c.vstart number_here && ltb number_here c.vl) ≡ true =
            (and_parts (leb c.vstart number_here && ltb number_here c.vl) (not (not i.vm) || bit_in s 0 number_here) within).0 in
            let less : number_here < c.vl = ltb-true number_here c.vl (and_parts (leb c.vstart number_here) (ltb number_here c.vl) bounds).1 in
            let sets : (n : ℕ) → n ≤ e → is_set (i.vs2 + 0) s n ≡ set_in (bit_in s) n = λ n l.
            rw (second, gate s windowed n (omega (arith, less, number)) (omega arith)) refl in
            number-one (element 1 k col (replay ops s) (i.vd + 0)) (prefix_bit how (set_in (bit_in s)) (element_number marks_shape 0 k col))
            (bit (i.vd + 0) low ∙ rw (same, active, number) (prefix-same how (is_set (i.vs2 + 0) s) (set_in (bit_in s)) e sets));
        idle = λ off j h.
            let z : j ≡ 0 = omega arith in
            let passive : bit_in s active_row e ≡ false = sym (here s k col active_row fits inside) ∙ off 0 (omega arith) in
            rw z (bit (i.vd + 0) low ∙ rw (same, passive) (sym (here s k col (i.vd + 0) fits inside)));
        kept = λ r j small other h.
            let z : j ≡ 0 = omega arith in
            rw z (bit r small ∙ rw (ne_eqb r (i.vd + 0) other) (sym (here s k col r fits inside)));
      }

  -- what the instruction leaves
  abbrev pub marks_elements : List (List ℕ) → Elementwise
  marks_elements v = record {
    vd = i.vd;
    registers = 1;
    width = 1;
    from = c.vstart;
    len = c.vl;
    vl = c.vl;
    masked = not i.vm;
    value = λ w e. from_bool (prefix_bit how (λ k. (i.vm || mask_bit_of v 0 k) && mask_bit_of v i.vs2 k) e);
    clipped = λ w e. false;
  }

  pub marks-sound : Sound (mask_frame (not i.vm) i c) (Marked i.vs2 how) c false 8 0 marks_elements
  unfolding bits_of
  marks-sound =
      let there : (g : ℕ) → g < 1 → AllThere (mask_frame (not i.vm) i c) (Marked i.vs2 how) g = λ g l. (omega arith, omega arith) in
      record {
        ready = record { width = omega arith; wide = tt; few = omega arith; there = there };
        kind = inl (refl, refl);
        result = marks_result;
        source = two_sources (not i.vm) i c vd spares marks_result 0 i.vs2;
        legal = λ columns words. bits-legal (not i.vm) i c vd spares marks_result columns words 0 i.vs2 (omega arith) vs2
            (λ u v e m inside a b. ap from_bool (prefix-same how (set_in u) (set_in v) e (λ k l. rw (a k l, b k l) refl)));
        bounded = bits-bounded (not i.vm) i c vd spares marks_result;
        realised = λ g l. let z : g ≡ 0 = omega arith in rw z only-realised;
        range = λ g l. (prefix-measured (i.vs2 + g) how (i.vd + g) (there g l).0).range (c.vlen / 32);
        shape = λ v. ap (λ (t : Bool). record marks_shape { tail = t }) (and-true (ltb c.vstart c.vl));
        results = λ s long e l. refl;
        unclipped = λ v k. refl;
      }

-- the meanings of the three instructions are one, by how a place stands
pub marks-leave : (how : Reach) (i : VInstr) (c : Cfg) (x : ℕ) (start : c.vstart ≡ 0) (long : c.vlen ≤ 65536) (vd : i.vd < 32) (vs2 : i.vs2 < 32) (spares : not i.vm ≡ true → 0 < i.vd)
    → (v : List (List ℕ)) → leaving_of (Marks how) i c x v ≡ elements (marks_elements how i c start long vd vs2 spares v)
marks-leave Before i c x start long vd vs2 spares v = refl
marks-leave Upto i c x start long vd vs2 spares v = refl
marks-leave At i c x start long vd vs2 spares v = refl
