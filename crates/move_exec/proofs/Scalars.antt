-- The scalar into element 0 of one register.
use Rattle.std.proofs.Common.{◌≡◌, ◌≢◌, ℕ, ◌+◌, ◌*◌, ◌/◌, ◌<◌, ◌≤◌, min, Bool, true, false, ◌&&◌, ◌||◌, ltb, List, refl, sym, ap, arith, inr}
use Rattle.std.proofs.lemmas.Bool.{false≢true}
use Rattle.element_ops.specs.Elements.{Registers}
use Rattle.frame_laws.specs.Shapes.{Shape}
use Rattle.frame_laws.specs.Laws.{Legal, AllRealised}
use Rattle.frame_laws.proofs.Spans.{bounds_law}
use Rattle.frame_meaning.proofs.OperandWidths.{width-of}
use Rattle.gen_perm.proofs.Moving.{realises-scalar}
use Rattle.legal_groups.specs.Facts.{IsElementWidth}
use Rattle.micro_ir.specs.Pieces.{commit}
use Rattle.micro_ir.specs.Replay.{AllInRange}
use Rattle.micro_ir.specs.Steps.{micros}
use Rattle.micro_ir.specs.WorkRows.{active_row, scalar_row}
use Rattle.micro_ir.proofs.PieceLists.{commit-list}
use Rattle.rvv_decode.specs.declared.instruction.VInstr.{VInstr}
use Rattle.vtype_cfg.specs.declared.configuration.Cfg.{Cfg}
use Rattle.rvv_meaning.specs.Elementwise.{Elementwise}
use Rattle.move_exec.specs.declared.bodies.Body.TheVariants.{Scalar}
use Rattle.move_exec.specs.Bodies.{body_list}
use Rattle.move_exec.specs.Frames.{frame_bounds}
use Rattle.move_exec.specs.Written.{Sits, first_frame}
use Rattle.move_exec.proofs.Moved.{no-bit, ready-of}
use Rattle.move_exec.proofs.Sized.{sized_shape, sized-framed}
use Rattle.move_exec.proofs.Sound.{Sound}

-- a chain can run the list that takes the scalar to a register
pub commit-ranged : (columns w row to : ℕ) → 0 < w → row ≢ active_row → to < 64 → AllInRange columns (micros w (commit w row to))
unfolding AllInRange
commit-ranged columns w row to some work small = rw (commit-list w row to some work) (tt, (small, (tt, (small, tt))))

module _ (i : VInstr) (c : Cfg) (x : ℕ) (wide : IsElementWidth c.vtype.sew) (room : i.vd + 1 ≤ 32) where
  abbrev w : ℕ
  w = c.vtype.sew

  pub first-sits : Sits (first_frame i c)
  first-sits = record { wide = wide; few = omega arith; room = room; spares = λ t. absurd (false≢true t) }

  abbrev first_result : Registers → ℕ → Bool → ℕ
  first_result v e m = x

  abbrev first_shape : Shape
  first_shape = sized_shape (first_frame i c) c true x first_result

  abbrev no_source : (q r : ℕ) → Bool
  no_source q r = false

  -- what an instruction leaves that puts a number into element 0
  abbrev pub first_elements : List (List ℕ) → Elementwise
  first_elements v = record {
    vd = i.vd;
    registers = 1;
    width = c.vtype.sew;
    from = c.vstart;
    len = min 1 c.vl;
    vl = c.vl;
    masked = false;
    value = λ w e. x;
    clipped = λ w e. false;
  }

  first-legal : (columns : ℕ) → c.vlen ≡ 32 * columns → Legal first_shape no_source columns
  first-legal columns long = record {
    framed = sized-framed (first_frame i c) c true x columns first_result first-sits long;
    sources = λ q r below read. absurd (false≢true read);
    reads_only = λ q u v p m below inside less same. refl;
  }

  first-realised : AllRealised first_shape (frame_bounds (first_frame i c)) (body_list (first_frame i c) Scalar c)
  first-realised q below =
      let a = width-of w wide in
      let least = a.least in
      realises-scalar w (i.vd + q) (omega arith) a.lanes (omega arith) first_shape (frame_bounds (first_frame i c)) q refl refl refl refl (λ v e m. refl)

  pub first-sound : Sound (first_frame i c) Scalar c true w x first_elements
  first-sound =
      let a = width-of w wide in
      let least = a.least in
      let work : scalar_row ≢ active_row = omega arith in
      let there : (q : ℕ) → q < 1 → i.vd + q < 32 = λ q l. omega arith in
      record {
        ready = ready-of (first_frame i c) Scalar first-sits tt (λ q below. (there q below, tt));
        kind = inr wide;
        result = first_result;
        source = no_source;
        legal = first-legal;
        bounded = bounds_law first_shape (frame_bounds (first_frame i c)) (λ l. omega arith) (λ t. refl) (λ m. absurd (false≢true m));
        realised = first-realised;
        range = λ q below. commit-ranged (c.vlen / 32) w scalar_row (i.vd + q) (omega arith) work (let l : i.vd + q < 32 = there q below in omega arith);
        shape = λ v. ap (λ (bit : Bool). record first_shape { tail = ltb c.vstart c.vl && (bit || c.vtype.vta) }) (sym (no-bit w wide));
        results = λ s long e less. refl;
        unclipped = λ v k. refl;
      }
