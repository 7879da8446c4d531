-- Slides by one place, which put the scalar into one element after the group.
use Rattle.std.proofs.Common.{◌≡◌, ℕ, ◌+◌, ◌*◌, ◌/◌, ◌<◌, max, min, Bool, true, false, cond, not, eqb, List, ◌∷◌, ◌++◌, Some, add-one, length-append, refl, sym, ◌∙◌, ap, arith}
use Rattle.std.specs.Prelude.{IsTrue}
use Rattle.std.proofs.Math.Nat.{div-lt_iff_lt-mul}
use Rattle.bit_rows.specs.Slices.{Slices}
use Rattle.cam_chain.specs.Views.{registers_of}
use Rattle.element_ops.specs.Elements.{Registers}
use Rattle.frame_laws.specs.Bytes.{AreResults}
use Rattle.frame_laws.specs.Bytes as frame
use Rattle.frame_laws.specs.Laws.{Framed}
use Rattle.frame_laws.specs.Programs.{program}
use Rattle.frame_laws.specs.Realising.{Realised}
use Rattle.frame_laws.specs.Shapes.{Shape}
use Rattle.frame_laws.specs.Singles.{with_single, single_shape, single_bounds, single_operations, HasSingle}
use Rattle.frame_laws.proofs.Costs.{reaches}
use Rattle.frame_laws.proofs.Singles.{single_bytes_law}
use Rattle.frame_meaning.proofs.Meaning.{meaning_law}
use Rattle.frame_meaning.proofs.OperandWidths.{width-of}
use Rattle.frame_meaning.specs.Shapes.{shape_of}
use Rattle.gen_perm.proofs.Moving.{realises-scalar, single-measured}
use Rattle.micro_ir.specs.declared.op.MicroOp.{MicroOp}
use Rattle.micro_ir.specs.declared.op.MicroOp.TheVariants.{Window}
use Rattle.micro_ir.specs.Measures.{counts}
use Rattle.micro_ir.specs.Pieces.{commit}
use Rattle.micro_ir.specs.Replay.{replay, counts_and, all_keep_control}
use Rattle.micro_ir.specs.Steps.{micros}
use Rattle.micro_ir.specs.WorkRows.{active_row, scalar_row}
use Rattle.micro_ir.proofs.Keeping.{micros-keep}
use Rattle.micro_ir.proofs.Lists.{tally-append, AllInRange-append}
use Rattle.rvv_decode.specs.declared.instruction.VInstr.{VInstr}
use Rattle.vtype_cfg.specs.declared.configuration.Cfg.{Cfg}
use Rattle.vtype_cfg.specs.Settings.{is_valid, vlmax}
use Rattle.vtype_cfg.proofs.Lengths.{vlen_words}
use Rattle.rvv_meaning.specs.Elementwise.{Elementwise, registers_after}
use Rattle.rvv_meaning.specs.Vectors.{left_of}
use Rattle.rvv_meaning.specs.Whole.{elements}
use Rattle.move_exec.specs.declared.bodies.Body.{Body}
use Rattle.move_exec.specs.declared.bodies.Body.TheVariants.{Slid}
use Rattle.move_exec.specs.declared.frames.Frame.{Frame}
use Rattle.move_exec.specs.Bodies.{body_list}
use Rattle.move_exec.specs.Frames.{frame_bounds}
use Rattle.move_exec.specs.Written.{group_registers, group_frame}
use Rattle.move_exec.specs.Laws.{Fine}
use Rattle.move_exec.specs.Moves.{single_list}
use Rattle.move_exec.specs.Programs.{scalar_program, scalar_cost, scalar_length}
use Rattle.move_exec.proofs.Listed.{listed}
use Rattle.move_exec.proofs.Meant.{realises-elements}
use Rattle.move_exec.proofs.Moved.{no-bit, elements_from, tailed, slid-sound, slid_elements}
use Rattle.move_exec.proofs.Quiet.{IsQuiet, quiet-keep, quiet-append, program-quiet}
use Rattle.move_exec.proofs.Sized.{sized_shape, sized-framed}
use Rattle.move_exec.proofs.Slides.{slid_result, slid_source, FitsDirection, slid-legal, slid-realised, plain-bounded}
use Rattle.move_exec.proofs.Sound.{measured}
use Rattle.move_exec.proofs.Standing.{Grouped}
use Rattle.move_exec.proofs.Valid.{valid-length, some-columns}

module _ (i : VInstr) (c : Cfg) (x : ℕ) (g : Grouped i c) (up : Bool) (fits : FitsDirection i c x g up) (valid : IsTrue (is_valid c)) (q start : ℕ) (inside : q < group_registers c * (c.vlen / c.vtype.sew))
    (begins : 0 < c.vl → start ≡ max c.vstart q) where
  abbrev w : ℕ
  w = c.vtype.sew

  abbrev most : ℕ
  most = vlmax c.vtype c.vlen

  abbrev f : Frame
  f = group_frame i c

  abbrev body : Body
  body = Slid i.vs2 up 1 most

  abbrev slid : Registers → ℕ → Bool → ℕ
  slid = slid_result i c x g up 1

  abbrev shape : Shape
  shape = sized_shape f c true x slid

  abbrev register : ℕ
  register = q / (c.vlen / w)

  abbrev put : List MicroOp
  put = micros w (commit w scalar_row (i.vd + register))

  abbrev ops : List MicroOp
  ops = scalar_program f body c true w x ++ single_list i c q start

  register-inside : register < group_registers c
  register-inside = (div-lt_iff_lt-mul g.per).1 inside

  has : HasSingle shape q start
  has = record { from = refl; reads = refl; splat = refl; register = register-inside; begins = begins }

  put-realised : Realised (single_shape shape q) (single_bounds shape q start) register put
  put-realised =
      let a = width-of w g.sits.wide in
      let least = a.least in
      let room = g.sits.room in
      let l = register-inside in
      realises-scalar w (i.vd + register) (omega arith) a.lanes (omega arith) (single_shape shape q) (single_bounds shape q start) register refl refl refl refl (λ v e m. refl)

  -- the program is that of the law
  same-list : program shape (frame_bounds f) (body_list f body c) ++ single_operations shape q start put ≡ ops
  same-list =
      ap (λ (xs : List MicroOp). xs ++ single_operations shape q start put) (listed f c true w x slid (body_list f body c))
      ∙ ap (λ (n : ℕ). scalar_program f body c true w x ++ (Window active_row w (register * (c.vlen / w)) start (min n c.vl) (not i.vm) ∷ put)) (sym (add-one q))

  -- ---- what it leaves

  module _ (value : List (List ℕ) → ℕ → ℕ) (results : (s : Slices) → c.vlen ≡ 32 * s.columns → AreResults (with_single shape q) (value (registers_of s)) (registers_of s)) where
    abbrev means : List (List ℕ) → Elementwise
    means v = elements_from i c c.vstart (value v)

    leaves : (s : Slices) → c.vlen ≡ 32 * s.columns → registers_of (replay ops s) ≡ registers_after c (means (registers_of s)) (registers_of s)
    leaves s long =
        let v : List (List ℕ) = registers_of s in
        let a = width-of w g.sits.wide in
        let some = some-columns c s.columns valid long in
        let result : Registers → ℕ → Bool → ℕ = λ u e m. cond (eqb e q) x (slid u e m) in
        let same : with_single shape q ≡ shape_of c (means v) false true x w result = ap (tailed i c x g (with_single shape q)) (sym (no-bit w g.sits.wide)) in
        ap (λ (xs : List MicroOp). registers_of (replay xs s)) (sym same-list)
        ∙ single_bytes_law shape (frame_bounds f) (slid_source i c x g up) (body_list f body c) q start put (value v) s
        (slid-legal i c x g true up 1 s.columns fits long) (plain-bounded i c true x slid) (slid-realised i c x g true up 1) has put-realised some a.whole (results s long)
        ∙ ap (λ (sh : Shape). frame.registers_after sh (value v) v) same
        ∙ meaning_law c (means v) false true x w result v (no-bit w g.sits.wide)

    single-keep : all_keep_control (single_list i c q start) ≡ true
    single-keep = micros-keep w _

    quiet : IsQuiet ops
    quiet = quiet-append (scalar_program f body c true w x) (single_list i c q start) (program-quiet f c body true w x) (quiet-keep (single_list i c q start) single-keep)

    pub single-fine : ((v : List (List ℕ)) → left_of i c x v ≡ Some (elements (means v))) → Fine i c x (counts_and (scalar_cost f body true) (counts 2 2 0)) (scalar_length f body true + 5) ops
    single-fine left =
        let a = width-of w g.sits.wide in
        let least = a.least in
        let room = g.sits.room in
        let l = register-inside in
        let legal = valid-length c valid in
        let words : c.vlen ≡ 32 * (c.vlen / 32) = sym (vlen_words c.vlen legal) in
        let m = measured i c x f body true w x (slid_elements i c up 1) (slid-sound i c x g true up 1 fits legal) valid in
        let op : MicroOp = Window active_row w (register * (c.vlen / w)) start (min (q + 1) c.vl) (not i.vm) in
        let framed : Framed shape (c.vlen / 32) = sized-framed f c true x (c.vlen / 32) slid g.sits words in
        let n = single-measured op w (i.vd + register) (omega arith) (omega arith) (refl, refl) in
        record {
          realises = realises-elements i c x ops means left (λ v k. refl) quiet leaves;
          cost = tally-append (scalar_program f body c true w x) (single_list i c q start) ∙ rw (m.cost, n.cost) refl;
          count = length-append (scalar_program f body c true w x) (single_list i c q start) ∙ rw (m.count, n.count) refl;
          range = AllInRange-append (c.vlen / 32) (scalar_program f body c true w x) (single_list i c q start) m.range
              (n.range (c.vlen / 32) (omega arith, a.built, λ t. reaches shape (c.vlen / 32) register start (min (q + 1) c.vl) framed register-inside));
        }
