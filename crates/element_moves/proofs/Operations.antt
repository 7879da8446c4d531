-- What is known of each operation whose elements are moved: where it reads and writes, and what it leaves.
use Rattle.std.proofs.Common.{◌≡◌, ℕ, zero, suc, ◌*◌, Bool, true, false, ◌&&◌, List, Option, Some, IsTrue, refl, ap, arith, inl, inr}
use Rattle.std.specs.Prelude.{is_some}
use Rattle.std.specs.Option.{option_map}
use Rattle.std.proofs.lemmas.Bool.{false≢true}
use Rattle.element_ops.specs.Places.{is_active}
use Rattle.legal_groups.specs.Rules.{Obeys}
use Rattle.legal_groups.proofs.Rules.{legal_law}
use Rattle.legal_groups.proofs.Valid.{Held, held}
use Rattle.rvv_decode.specs.Ranges.{IsInRange}
use Rattle.rvv_decode.specs.declared.instruction.VInstr.{VInstr}
use Rattle.rvv_decode.specs.declared.instruction.Form.{Form}
use Rattle.rvv_decode.specs.declared.instruction.Form.TheVariants.{V, X, I}
use Rattle.rvv_decode.specs.declared.instruction.VOp.TheVariants.{Opi, Opm}
use Rattle.rvv_decode.specs.declared.instruction.OpiOp.{OpiOp}
use Rattle.rvv_decode.specs.declared.instruction.OpiOp.TheVariants.{Vrgather, Vrgatherei16}
use Rattle.rvv_decode.specs.declared.instruction.OpmOp.TheVariants.{Vcompress, Viota}
use Rattle.vtype_cfg.specs.declared.configuration.Cfg.{Cfg}
use Rattle.vtype_cfg.specs.Classes.{Class, gather, gather_sixteen, iota, compress, class_of, opi_class, opm_class, row_of, overlap_of, may_write_mask, needs_no_setting, starts_at_zero}
use Rattle.vtype_cfg.specs.Legality.{is_legal}
use Rattle.vtype_cfg.specs.Settings.{is_valid, vlmax}
use Rattle.rvv_meaning.specs.Elementwise.{Elementwise, registers_after, clips_below, place}
use Rattle.rvv_meaning.specs.Whole.{Left, elements}
use Rattle.element_moves.specs.Permutations.{LeavesRegisters, permuted_by, permuted_for, gathered_by, counted, packed}
use Rattle.element_moves.specs.Steps.{Fits, Reads, ReadsBits, index_size}
use Rattle.element_moves.proofs.Legal.{destination-fits, source-read, bits-read}

-- ---- what is left

no-clips : (c : Cfg) (e : Elementwise) (v : List (List ℕ)) (n : ℕ) → ((s : ℕ) → e.clipped v s ≡ false) → clips_below c e v n ≡ false
unfolding clips_below
no-clips c e v zero none = refl
no-clips c e v (suc n) none = rw (no-clips c e v n none, none n) (never (is_active (place c e v n)))
  where
    never : (b : Bool) → (b && false) ≡ false
    never true = refl
    never false = refl

-- elements, of which none is clipped
pub leaves : (c : Cfg) (v w : List (List ℕ)) (o : Option Left) (e : Elementwise) → o ≡ Some (elements e) → w ≡ registers_after c e v → ((s : ℕ) → e.clipped v s ≡ false) → LeavesRegisters c v o w
leaves c v w o e is so none = rw is (so, no-clips c e v e.len none)

-- what the instruction leaves of its scalar and the registers
abbrev left : VInstr → Cfg → ℕ → List (List ℕ) → Option Left
left i c x v = option_map (λ leaving. leaving i c x v) (permuted_for i)

-- ---- gathers

pub record Gathers (op : OpiOp) (i : VInstr) (c : Cfg) : Type 0 where
  pub fits : Fits i c
  pub indices : Reads i c (8 * index_size op c) i.vs1 c.vl
  pub source : Reads i c c.vtype.sew i.vs2 (vlmax c.vtype c.vlen)
  pub left : (x : ℕ) (v : List (List ℕ)) → left i c x v ≡ Some (elements (gathered_by i c (8 * index_size op c) v))

vector-form : (form : Form) → is_some (permuted_by (Opi Vrgather) form) ≡ true → form ≡ V
vector-form V some = refl
vector-form X some = absurd (false≢true some)
vector-form I some = absurd (false≢true some)

module _ (i : VInstr) (c : Cfg) (n : ℕ) (range : IsInRange i) (legal : is_legal i c.vtype c.vstart ≡ true) (valid : IsTrue (is_valid c)) (words : c.vlen ≡ 32 * n) where
  h : Held c
  h = held c valid

  -- what the rules of a class say
  rules : (class : Class) → class_of i.op ≡ class → Obeys class i c.vtype c.vstart
  rules class is = legal_law class i c.vtype c.vstart h.setting legal is

  gathers-by_index : i.op ≡ Opi Vrgather → i.form ≡ V → Gathers Vrgather i c
  unfolding opi_class row_of overlap_of may_write_mask needs_no_setting
  gathers-by_index is form =
      let law = rules gather (ap class_of is) in
      let there = law.setting refl in
      let fits = destination-fits i c n h words there.0 there.1 law.vd (law.spares_mask refl) in
      record {
        fits = fits;
        indices = rw fits.whole (source-read i c n h words there.0 there.1 c.vtype.sew i.vs1 c.vl there.1 range.vs1 h.length (law.vs1 form) (law.beside_vs1 refl form));
        source = source-read i c n h words there.0 there.1 c.vtype.sew i.vs2 (vlmax c.vtype c.vlen) there.1 range.vs2 (omega arith) law.vs2 (law.beside_vs2 refl);
        left = λ x v. rw (is, form, fits.whole) refl;
      }

  gathers-by_sixteen : i.op ≡ Opi Vrgatherei16 → Gathers Vrgatherei16 i c
  unfolding opi_class row_of overlap_of may_write_mask needs_no_setting
  gathers-by_sixteen is =
      let law = rules gather_sixteen (ap class_of is) in
      let there = law.setting refl in
      let form = range.form (rw is refl) in
      record {
        fits = destination-fits i c n h words there.0 there.1 law.vd (law.spares_mask refl);
        indices = source-read i c n h words there.0 there.1 16 i.vs1 c.vl (inr (inl refl)) range.vs1 h.length (law.vs1 form) (law.beside_vs1 refl form);
        source = source-read i c n h words there.0 there.1 c.vtype.sew i.vs2 (vlmax c.vtype c.vlen) there.1 range.vs2 (omega arith) law.vs2 (law.beside_vs2 refl);
        left = λ x v. rw is refl;
      }

  pub gathers : (op : OpiOp) → i.op ≡ Opi op → is_some (permuted_for i) ≡ true → Gathers op i c
  gathers Vrgather is some = gathers-by_index is (vector-form i.form (rw is at some))
  gathers Vrgatherei16 is some = gathers-by_sixteen is
  gathers _ is some = absurd (false≢true (rw is at some))

  -- ---- the numbers of set places

  pub record Counts : Type 0 where
    pub fits : Fits i c
    pub start : c.vstart ≡ 0
    pub source : ReadsBits i c i.vs2
    pub left : (x : ℕ) (v : List (List ℕ)) → left i c x v ≡ Some (elements (counted i c v))

  pub counts : i.op ≡ Opm Viota → Counts
  unfolding opm_class row_of overlap_of may_write_mask needs_no_setting starts_at_zero
  counts is =
      let law = rules iota (ap class_of is) in
      let there = law.setting refl in
      record {
        fits = destination-fits i c n h words there.0 there.1 law.vd (law.spares_mask refl);
        start = law.start refl;
        source = bits-read i c n h words there.0 there.1 i.vs2 law.vs2 (law.beside_vs2 refl);
        left = λ x v. rw is refl;
      }

  -- ---- compressions

  pub record Compresses : Type 0 where
    pub fits : Fits i c
    pub start : c.vstart ≡ 0
    pub source : Reads i c c.vtype.sew i.vs2 c.vl
    pub mask : ReadsBits i c i.vs1
    pub left : (x : ℕ) (v : List (List ℕ)) → left i c x v ≡ Some (elements (packed i c v))

  pub compresses : i.op ≡ Opm Vcompress → Compresses
  unfolding opm_class row_of overlap_of may_write_mask needs_no_setting starts_at_zero
  compresses is =
      let law = rules compress (ap class_of is) in
      let there = law.setting refl in
      let form = range.form (rw is refl) in
      record {
        fits = destination-fits i c n h words there.0 there.1 law.vd (law.spares_mask refl);
        start = law.start refl;
        source = source-read i c n h words there.0 there.1 c.vtype.sew i.vs2 c.vl there.1 range.vs2 h.length law.vs2 (law.beside_vs2 refl);
        mask = bits-read i c n h words there.0 there.1 i.vs1 (law.vs1 form) (law.beside_vs1 refl form);
        left = λ x v. rw is refl;
      }
