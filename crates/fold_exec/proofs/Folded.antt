-- A list that brings a fold into the scalar row, with what takes it from there to element 0 of the destination, leaves what a
-- reduction means.
use Rattle.std.proofs.Common.{◌≡◌, ℕ, suc, ◌+◌, ◌*◌, ◌/◌, ◌%◌, ◌<◌, ◌≤◌, min, Bool, true, false, not, ◌||◌, eqb, ltb, List, ◌++◌, refl, sym, ◌∙◌, ap, arith, inl, inr, ⊎_elim}
use Rattle.std.proofs.lemmas.Bool.{and_parts, ltb-true, cases_lt, false≢true}
use Rattle.std.proofs.Math.Nat.{mul-le-mul_right}
use Rattle.bit_laws.specs.Numbers.{low, bit_of}
use Rattle.bit_laws.proofs.Numbers.{bit-number, number-bits}
use Rattle.bit_rows.specs.Slices.{Slices}
use Rattle.cam_chain.specs.Views.{registers_of}
use Rattle.element_ops.specs.Elements.{Registers, element_of, element_in, mask_bit_of, bits_of}
use Rattle.element_ops.proofs.Reading.{element-bits}
use Rattle.fold_laws.specs.Folds.{fold_chosen}
use Rattle.row_counts.proofs.Chosen.{fold-same}
use Rattle.frame_laws.specs.Bytes.{AreResults}
use Rattle.frame_laws.specs.Laws.{Legal, AllRealised, Holds}
use Rattle.frame_laws.specs.Programs.{one_register, first_registers}
use Rattle.frame_laws.specs.Realising.{Splatted}
use Rattle.frame_laws.specs.Shapes.{Shape, Bounds, Bounded}
use Rattle.frame_laws.proofs.Bytes.{held_law, holds-own, are-registers_of, bits-registers_of}
use Rattle.frame_laws.proofs.Elements.{in_element}
use Rattle.frame_laws.proofs.Ends.{usual_bounds_law}
use Rattle.frame_laws.proofs.Preparing.{agreeing_law}
use Rattle.frame_laws.proofs.Registers.{group_law}
use Rattle.frame_meaning.specs.Shapes.{shape_of}
use Rattle.frame_meaning.proofs.Meaning.{meaning_law}
use Rattle.frame_meaning.proofs.OperandWidths.{width-of}
use Rattle.gen_perm.proofs.Moving.{realises-scalar}
use Rattle.legal_groups.specs.Facts.{IsElementWidth}
use Rattle.micro_ir.specs.declared.op.MicroOp.{MicroOp}
use Rattle.micro_ir.specs.Pieces.{commit}
use Rattle.micro_ir.specs.Replay.{replay}
use Rattle.micro_ir.specs.Steps.{micros}
use Rattle.micro_ir.specs.WorkRows.{scalar_row}
use Rattle.micro_ir.proofs.Lift.{replay-columns}
use Rattle.micro_ir.proofs.Lists.{replay-append}
use Rattle.row_counts.specs.Folds.{group_element, is_left_in, fold_of, Folds}
use Rattle.row_counts.specs.Lists.{commit_first}
use Rattle.row_counts.specs.Puts.{Puts}
use Rattle.row_counts.specs.Spans.{SpanFits}
use Rattle.row_views.proofs.Views.{element-view}
use Rattle.rvv_decode.specs.declared.instruction.VInstr.{VInstr}
use Rattle.rvv_meaning.specs.Elementwise.{Elementwise, registers_after}
use Rattle.steer_net.specs.Network.{bit_in}
use Rattle.vtype_cfg.specs.declared.configuration.Cfg.{Cfg}
use Rattle.fold_exec.specs.Programs.{span_of, rest_list}
use Rattle.fold_exec.proofs.Reduces.{widest}

-- ---- a number in the scalar row

-- numbers with the same low bits have the same bits there
same-bit : (w x y j : ℕ) → low w x ≡ low w y → j < w → bit_of x j ≡ bit_of y j
same-bit w x y j same below =
    sym (bit-number w (bit_of x) j below) ∙ ap (λ (n : ℕ). bit_of n j) (number-bits w x ∙ same ∙ sym (number-bits w y)) ∙ bit-number w (bit_of y) j below

-- so one is put where the other is
puts-low : (w x y : ℕ) (s t : Slices) → low w x ≡ low w y → Puts w x s t → Puts w y s t
puts-low w x y s t same puts = record {
  columns = puts.columns;
  kept = puts.kept;
  scalar = λ p j inside below. puts.scalar p j inside below ∙ same-bit w x y j same below;
}

-- ---- elements of registers, as bits and as bytes

same-element : (s : Slices) (w base e n : ℕ) → 0 < s.columns → 8 * (w / 8) ≡ w → base + n ≤ 32 → e * w + w ≤ n * (32 * s.columns)
    → element_in (32 * s.columns) (bit_in s) base w e ≡ element_of (4 * s.columns) (registers_of s) base w e
same-element s w base e n some whole room inside =
    let size = 4 * s.columns in
    let long : 32 * s.columns ≡ 8 * size = omega arith in
    agreeing_law (32 * s.columns) w base e 0 n (bit_in s) (bits_of (registers_of s)) (omega arith) (omega arith) inside (λ r at a b below. sym (bits-registers_of s r at (omega arith) below))
    ∙ ap (λ (m : ℕ). element_in m (bits_of (registers_of s)) base w e) long
    ∙ sym (element-bits size (registers_of s) base w e (omega arith) ((are-registers_of s).bytes) whole)

-- ---- the one register

-- the element that a reduction writes, and the others of its register
abbrev pub first_elements : VInstr → Cfg → (bits z : ℕ) → Elementwise
first_elements i c bits z = record {
  vd = i.vd;
  registers = 1;
  width = bits;
  from = c.vstart;
  len = min 1 c.vl;
  vl = c.vl;
  masked = false;
  value = λ w e. z;
  clipped = λ w e. false;
}

module _ (i : VInstr) (c : Cfg) (bits z : ℕ) (width : IsElementWidth bits) (vd : i.vd < 32) (start : c.vstart ≡ 0) where
  abbrev result : Registers → ℕ → Bool → ℕ
  result v e m = z

  abbrev shape : Shape
  shape = shape_of c (first_elements i c bits z) false true z bits result

  abbrev bounds : Bounds
  bounds = record { from = c.vstart; until = min 1 c.vl }

  abbrev body : (g : ℕ) → List MicroOp
  body g = micros bits (commit bits scalar_row (i.vd + g))

  abbrev none : (g r : ℕ) → Bool
  none g r = false

  no-bit : (w : ℕ) → IsElementWidth w → eqb w 1 ≡ false
  no-bit w (inl is) = rw is refl
  no-bit w (inr (inl is)) = rw is refl
  no-bit w (inr (inr is)) = rw is refl

  legal : (columns : ℕ) → c.vlen ≡ 32 * columns → Legal shape none columns
  legal columns long =
      let w = width-of bits width in
      let least = w.least in
      record {
        framed = record {
          width = omega arith;
          lanes = w.lanes;
          vlen = long;
          numbers = omega arith;
          room = omega arith;
          scalar_width = omega arith;
          scalar_lanes = w.lanes;
          not_mask = λ t. absurd (false≢true t);
        };
        sources = λ g r l h. absurd (false≢true h);
        reads_only = λ g u v p m l below less same. refl;
      }

  bounded : Bounded shape bounds
  bounded = usual_bounds_law shape refl (λ t.
      let some : c.vstart < c.vl = ltb-true c.vstart c.vl (and_parts (ltb c.vstart c.vl) (eqb bits 1 || c.vtype.vta) t).0 in
      omega arith)

  realised : AllRealised shape bounds body
  realised g l =
      let w = width-of bits width in
      let least = w.least in
      let to : i.vd + g < 32 = omega arith in
      realises-scalar bits (i.vd + g) (omega arith) w.lanes to shape bounds g refl refl refl refl (λ v e m. refl)

  -- the operations on it are those of the program
  listed : first_registers shape bounds body 1 ≡ commit_first bits (span_of i c) i.vd ++ rest_list c bits i.vd
  unfolding first_registers one_register
  listed =
      let first : 0 * (c.vlen / bits) ≡ 0 = omega arith in
      let to : i.vd + 0 ≡ i.vd = omega arith in
      rw (first, to, no-bit bits width) refl

  -- Slices that hold the number in the scalar row, and registers, come to hold what the instruction makes of these, whose value
  -- is the number where an element is written.
  after-list : (value : ℕ) (s u : Slices) → 0 < s.columns → c.vlen ≡ 32 * s.columns → Puts bits z s u → (0 < c.vl → z ≡ value)
      → registers_of (replay (commit_first bits (span_of i c) i.vd ++ rest_list c bits i.vd) u) ≡ registers_after c (first_elements i c bits value) (registers_of s)
  after-list value s u some long puts same =
      let w = width-of bits width in
      let least = w.least in
      let pos : 0 < bits = omega arith in
      let v = registers_of s in
      let ops = first_registers shape bounds body 1 in
      let t = replay ops u in
      let cols = puts.columns in
      let long_u : c.vlen ≡ 32 * u.columns = rw cols long in
      let holds : Holds c.vlen u (bits_of v) = λ r at l a. puts.kept r at l (rw long at a) ∙ holds-own s c.vlen long r at l a in
      let splatted : Splatted shape u = λ q at a.
      let p = in_element bits (32 / bits) u scalar_row at pos w.lanes a in
      let e = element-view bits (at % 32 / bits) (at / 32) u pos w.lanes p.fits p.inside in
      p.bit ∙ ap (λ (f : ℕ → ℕ → Bool). f scalar_row (at % 32 % bits)) e.0 ∙ puts.scalar (at / 32 * (32 / bits) + at % 32 / bits) (at % 32 % bits) (rw cols at e.1) p.below in
      let held = (group_law shape bounds none body (bits_of v) u 1 (legal u.columns long_u) bounded realised holds splatted (omega arith)).0 in
      let results : AreResults shape (λ e. value) v = λ e l. same (omega arith) in
      ap (λ (xs : List MicroOp). registers_of (replay xs u)) (sym listed)
      ∙ held_law shape (λ e. value) s t (replay-columns ops u ∙ cols) long pos some w.whole results held
      ∙ meaning_law c (first_elements i c bits value) false true z bits result v (no-bit bits width)

-- ---- the fold

-- the fold that the instruction means
abbrev pub meant : (step : (a e : ℕ) → ℕ) (extend : ℕ → ℕ) → VInstr → Cfg → (bits : ℕ) → List (List ℕ) → ℕ
meant step extend i c bits v =
    fold_chosen step (element_of (c.vlen / 8) v i.vs1 bits 0) (λ e. i.vm || mask_bit_of v 0 e) (λ e. extend (element_of (c.vlen / 8) v i.vs2 c.vtype.sew e)) c.vl

module _ (step : (a e : ℕ) → ℕ) (extend : ℕ → ℕ) (i : VInstr) (c : Cfg) (bits : ℕ) (sew : IsElementWidth c.vtype.sew) (width : IsElementWidth bits) (vs1 : i.vs1 < 32) (vd : i.vd < 32) (start : c.vstart ≡ 0) where
  left-in : (a b : Bool) → (not (not a) || b) ≡ (a || b)
  left-in true b = refl
  left-in false b = refl

  fold-meant : (s : Slices) → 0 < s.columns → c.vlen ≡ 32 * s.columns → SpanFits c.vtype.sew s.columns (span_of i c) → c.vl ≤ c.vlen
      → fold_of step extend c.vtype.sew bits i.vs1 (span_of i c) s ≡ meant step extend i c bits (registers_of s)
  unfolding bits_of
  fold-meant s some long fits short =
      let v = registers_of s in
      let w = width-of c.vtype.sew sew in
      let wide = width-of bits width in
      let least = wide.least in
      let group = fits.group in
      let room = group.room in
      let size : c.vlen / 8 ≡ 4 * s.columns = omega arith in
      let most : bits ≤ 32 = widest bits width in
      let first : group_element bits i.vs1 s 0 ≡ element_of (4 * s.columns) v i.vs1 bits 0 = same-element s bits i.vs1 0 1 some wide.whole (omega arith) (omega arith) in
      let per : (c.vlen / c.vtype.sew) * c.vtype.sew ≡ 32 * s.columns = ap (λ (n : ℕ). n * c.vtype.sew) fits.per ∙ omega (arith, ap (λ (n : ℕ). s.columns * n) w.lanes) in
      let each : (e : ℕ) → e < c.vl → (is_left_in (span_of i c) s e ≡ (i.vm || mask_bit_of v 0 e)) × (extend (group_element c.vtype.sew i.vs2 s e) ≡ extend (element_of (4 * s.columns) v i.vs2 c.vtype.sew e)) =
      λ e l.
      let below : suc e * c.vtype.sew ≤ (span_of i c).regs * (c.vlen / c.vtype.sew) * c.vtype.sew = mul-le-mul_right c.vtype.sew (omega (arith, group.to)) in
      let inside : e * c.vtype.sew + c.vtype.sew ≤ (span_of i c).regs * (32 * s.columns) = omega (arith, below, ap (λ (n : ℕ). (span_of i c).regs * n) per) in (
        left-in i.vm (bit_in s 0 e) ∙ ap (λ (b : Bool). i.vm || b) (sym (bits-registers_of s 0 e (omega arith) (omega arith))),
        ap extend (same-element s c.vtype.sew i.vs2 e (span_of i c).regs some w.whole room inside),
      ) in
      rw (size, first)
      (fold-same step (element_of (4 * s.columns) v i.vs1 bits 0) (is_left_in (span_of i c) s) (λ e. i.vm || mask_bit_of v 0 e) (λ e. extend (group_element c.vtype.sew i.vs2 s e)) (λ e. extend (element_of (4 * s.columns) v i.vs2 c.vtype.sew e)) c.vl each)

  -- where the vector length is 0, the number does not count
  pub folds-left : (pre : List MicroOp) (s : Slices) → Folds step extend c.vtype.sew bits i.vs1 (span_of i c) pre → 0 < s.columns → c.vlen ≡ 32 * s.columns → SpanFits c.vtype.sew s.columns (span_of i c) → c.vl ≤ c.vlen
      → registers_of (replay (pre ++ (commit_first bits (span_of i c) i.vd ++ rest_list c bits i.vd)) s) ≡ registers_after c (first_elements i c bits (meant step extend i c bits (registers_of s))) (registers_of s)
  unfolding Folds
  folds-left pre s folds some long fits short =
      let v = registers_of s in
      let t = replay pre s in
      let f = folds s fits start in
      let value : ℕ = meant step extend i c bits v in
      ap registers_of (replay-append pre (commit_first bits (span_of i c) i.vd ++ rest_list c bits i.vd) s)
      ∙ ⊎_elim
      (λ (full : 0 < c.vl).
      let same : low bits t.num ≡ low bits value = f.number full ∙ ap (low bits) (fold-meant s some long fits short) in
      after-list i c bits value width vd start value s t some long (puts-low bits t.num value s t same f.puts) (λ l. refl))
      (λ (empty : c.vl ≤ 0).
      after-list i c bits t.num width vd start value s t some long f.puts (λ l. absurd (omega arith)))
      (cases_lt 0 c.vl)
