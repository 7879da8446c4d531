-- Moves of whole registers.
use Rattle.std.proofs.Common.{◌≡◌, ◌≢◌, ℕ, ◌+◌, ◌*◌, ◌/◌, ◌<◌, ◌≤◌, Bool, false, ◌&&◌, ◌||◌, ltb, List, refl, sym, ap, arith, ◌⊎◌, inr, ⊎_elim}
use Rattle.std.specs.Prelude.{IsTrue}
use Rattle.std.proofs.lemmas.Bool.{and_parts, ltb-true, false≢true}
use Rattle.element_ops.specs.Elements.{Registers, element_in, element_of}
use Rattle.frame_laws.specs.Shapes.{Shape}
use Rattle.frame_laws.specs.Laws.{AllRealised}
use Rattle.frame_laws.specs.Classes.Operands.{group, IsReadable}
use Rattle.frame_laws.specs.Classes.Plain.{Operands, Value, IsPlain}
use Rattle.frame_laws.proofs.Classes.Operands.{same-here}
use Rattle.frame_laws.proofs.Classes.Plain.{plain-realised, plain-legal, reads}
use Rattle.frame_laws.proofs.Spans.{bounds_law}
use Rattle.frame_meaning.proofs.OperandWidths.{width-of}
use Rattle.gen_logic.specs.declared.kinds.Logic.TheVariants.{Second}
use Rattle.gen_logic.proofs.Tables.{logic-numbers, logic-measured}
use Rattle.legal_groups.specs.Facts.{IsElementWidth}
use Rattle.micro_ir.specs.WorkRows.{result_row}
use Rattle.rvv_decode.specs.declared.instruction.VInstr.{VInstr}
use Rattle.vtype_cfg.specs.declared.configuration.Cfg.{Cfg}
use Rattle.vtype_cfg.specs.declared.configuration.Policy.TheVariants.{Keep}
use Rattle.vtype_cfg.specs.Settings.{is_legal_vlen}
use Rattle.vtype_cfg.proofs.Lengths.{vlen_from}
use Rattle.rvv_meaning.specs.Elementwise.{Elementwise, size_of}
use Rattle.move_exec.specs.declared.bodies.Body.TheVariants.{Bits}
use Rattle.move_exec.specs.Bodies.{body_list}
use Rattle.move_exec.specs.Frames.{frame_bounds}
use Rattle.move_exec.specs.Written.{Sits, whole_width, whole_length, whole_frame}
use Rattle.move_exec.proofs.Moved.{no-bit, ready-of}
use Rattle.move_exec.proofs.Sized.{sized_shape, sized-framed}
use Rattle.move_exec.proofs.Sound.{Sound}
use Rattle.move_exec.proofs.Sources.{IsApart}

-- where the registers of a whole move lie
pub record Wholly (i : VInstr) (c : Cfg) : Type 0 where
  pub wide : IsElementWidth (whole_width c)
  pub few : i.vs1 + 1 ≤ 8
  pub vd : i.vd + (i.vs1 + 1) ≤ 32
  pub vs2 : i.vs2 + (i.vs1 + 1) ≤ 32
  pub lies : (i.vs2 ≡ i.vd) ⊎ IsApart i.vd i.vs2 (i.vs1 + 1)

-- the configuration under which nothing is filled, since nothing is agnostic
abbrev pub kept : Cfg → Cfg
kept c = record c { policy = Keep }

module _ (i : VInstr) (c : Cfg) (x : ℕ) (o : Wholly i c) where
  abbrev w : ℕ
  w = whole_width c

  pub whole-sits : Sits (whole_frame i c)
  whole-sits = record { wide = o.wide; few = o.few; room = o.vd; spares = λ t. absurd (false≢true t) }

  abbrev whole_result : Registers → ℕ → Bool → ℕ
  whole_result v e m = element_in c.vlen v i.vs2 w e

  abbrev whole_shape : Shape
  whole_shape = sized_shape (whole_frame i c) (kept c) false x whole_result

  abbrev operands : Operands
  operands = record { a = group i.vs2; b = group i.vs2; addend = i.vs2 }

  abbrev second : Value
  second a b addend m = b

  -- what the instruction leaves
  abbrev pub whole_elements : List (List ℕ) → Elementwise
  whole_elements v = record {
    vd = i.vd;
    registers = i.vs1 + 1;
    width = w;
    from = c.vstart;
    len = whole_length i c;
    vl = whole_length i c;
    masked = false;
    value = λ u e. element_of (size_of c) v i.vs2 w e;
    clipped = λ u e. false;
  }

  readable : IsReadable whole_shape (group i.vs2)
  readable q below =
      let vs2 = o.vs2 in
      (omega arith, ⊎_elim (λ (same : i.vs2 ≡ i.vd). inr (omega arith)) (λ (apart : IsApart i.vd i.vs2 (i.vs1 + 1)). grind arith) o.lies)

  whole-plain : (columns : ℕ) → c.vlen ≡ 32 * columns → IsPlain whole_shape operands second columns
  whole-plain columns long = record {
    framed = sized-framed (whole_frame i c) (kept c) false x columns whole_result whole-sits long;
    result = λ v e m. refl;
    a = readable;
    b = readable;
    addend = readable;
    apart = λ q below. refl;
  }

  whole-realised : (columns : ℕ) → c.vlen ≡ 32 * columns → AllRealised whole_shape (frame_bounds (whole_frame i c)) (body_list (whole_frame i c) (Bits Second i.vs2 i.vs2) c)
  whole-realised columns long q below =
      let vs2 = o.vs2 in
      let vd = o.vd in
      let source : i.vs2 + q ≢ result_row = omega arith in
      plain-realised whole_shape (frame_bounds (whole_frame i c)) operands second columns q (body_list (whole_frame i c) (Bits Second i.vs2 i.vs2) c) (whole-plain columns long) below
      (logic-numbers Second w (i.vs2 + q) (i.vs2 + q) (i.vd + q) false source source (omega arith))

  pub whole-sound : IsTrue (is_legal_vlen c.vlen) → c.vlen ≡ 32 * (c.vlen / 32) → Sound (whole_frame i c) (Bits Second i.vs2 i.vs2) (kept c) false w x whole_elements
  whole-sound legal words =
      let a = width-of w o.wide in
      let vs2 = o.vs2 in
      let vd = o.vd in
      let there : (q : ℕ) → q < i.vs1 + 1 → (i.vd + q < 32) × ((i.vs2 + q < 32) × (i.vs2 + q < 32)) = λ q l. (omega arith, (omega arith, omega arith)) in
      record {
        ready = ready-of (whole_frame i c) (Bits Second i.vs2 i.vs2) whole-sits tt there;
        kind = inr o.wide;
        result = whole_result;
        source = reads operands;
        legal = λ columns long. plain-legal whole_shape operands second columns (whole-plain columns long);
        bounded = bounds_law whole_shape (frame_bounds (whole_frame i c)) (λ l. omega arith)
            (λ t. let l : c.vstart < whole_length i c = ltb-true c.vstart (whole_length i c) (and_parts (ltb c.vstart (whole_length i c)) c.vtype.vta t).0 in omega arith) (λ m. absurd (false≢true m));
        realised = whole-realised (c.vlen / 32) words;
        range = λ q below. (logic-measured Second w (i.vs2 + q) (i.vs2 + q) (i.vd + q) (there q below).0).range (c.vlen / 32);
        shape = λ v. ap (λ (bit : Bool). record whole_shape { tail = ltb c.vstart (whole_length i c) && (bit || c.vtype.vta) }) (sym (no-bit w o.wide));
        results = λ s long e less.
            let least : 32 ≤ c.vlen = vlen_from c.vlen legal in
            same-here whole_shape (group i.vs2) s e tt long (omega arith) a.whole;
        unclipped = λ v k. refl;
      }
