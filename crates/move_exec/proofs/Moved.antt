-- Slides by an amount and gathers of one element leave what they mean.
use Rattle.std.proofs.Common.{◌≡◌, ℕ, ◌+◌, ◌-◌, ◌*◌, ◌/◌, ◌<◌, max, Bool, true, false, cond, not, ◌&&◌, ◌||◌, eqb, ltb, leb, List, refl, sym, ap, arith, inl, inr}
use Rattle.std.specs.Prelude.{IsTrue}
use Rattle.bit_rows.specs.Slices.{Slices}
use Rattle.cam_chain.specs.Views.{registers_of}
use Rattle.element_ops.specs.Elements.{Registers, element_of, bits_of}
use Rattle.frame_laws.specs.Shapes.{Shape}
use Rattle.frame_meaning.specs.Shapes.{shape_of}
use Rattle.gen_perm.specs.Moves.{slide_result}
use Rattle.legal_groups.specs.Facts.{IsElementWidth}
use Rattle.rvv_decode.specs.declared.instruction.Form.{Form}
use Rattle.rvv_decode.specs.declared.instruction.Form.TheVariants.{V, X, I}
use Rattle.rvv_decode.specs.declared.instruction.VInstr.{VInstr}
use Rattle.vtype_cfg.specs.declared.configuration.Cfg.{Cfg}
use Rattle.vtype_cfg.specs.Classes.{group as group_place, count_at}
use Rattle.vtype_cfg.specs.Settings.{is_legal_vlen, vlmax}
use Rattle.vtype_cfg.proofs.Lengths.{vlen_words}
use Rattle.rvv_meaning.specs.Elementwise.{Elementwise, size_of}
use Rattle.rvv_meaning.specs.Whole.{elements, amount_in, index_in, slid_up, slid_down, gathered_by_index}
use Rattle.move_exec.specs.declared.bodies.Body.{Body}
use Rattle.move_exec.specs.declared.bodies.Body.TheVariants.{Slid, Picked}
use Rattle.move_exec.specs.declared.frames.Frame.{Frame}
use Rattle.move_exec.specs.Bodies.{Ready, IsOfWidth, AllThere, emitted_at}
use Rattle.move_exec.specs.Written.{Sits, group_registers, group_frame, amount_for, offset_frame}
use Rattle.move_exec.specs.Moves.{gathers_one}
use Rattle.move_exec.proofs.Groups.{emitted-width}
use Rattle.move_exec.proofs.Sized.{sized_shape}
use Rattle.move_exec.proofs.Sources.{IsApart}
use Rattle.move_exec.proofs.Slides.{slid_result, slid_source, up_result, picked_result, FitsDirection, element-here, slid-legal, slid-realised, slid-ranged, up-legal, up-realised, offset-sits, picked-legal, picked-realised, picked-ranged, offset-bounded, plain-bounded}
use Rattle.move_exec.proofs.Sound.{Sound}
use Rattle.move_exec.proofs.Standing.{Grouped}

-- ---- what they mean

-- what an instruction leaves that writes elements of a group, from one on
abbrev pub elements_from : VInstr → Cfg → (from : ℕ) → (value : ℕ → ℕ) → Elementwise
elements_from i c from value = record {
  vd = i.vd;
  registers = count_at c.vtype (group_place c.vtype.sew);
  width = c.vtype.sew;
  from = from;
  len = c.vl;
  vl = c.vl;
  masked = not i.vm;
  value = λ w e. value e;
  clipped = λ w e. false;
}

-- the amount of a slide, and the index of a gather that has one
amount-is : (i : VInstr) (c : Cfg) (x : ℕ) (v : List (List ℕ)) (form : Form) → amount_in i c x v form ≡ amount_for form i.vs1 x
amount-is i c x v V = refl
amount-is i c x v X = refl
amount-is i c x v I = refl

index-is : (i : VInstr) (c : Cfg) (x : ℕ) (v : List (List ℕ)) (form : Form) (e : ℕ) → gathers_one form ≡ true → index_in i c x v form e ≡ amount_for form i.vs1 x
index-is i c x v V e one = cc
index-is i c x v X e one = refl
index-is i c x v I e one = refl

-- an element of vs2 at any number
abbrev pub gathered_at : VInstr → Cfg → List (List ℕ) → (e : ℕ) → ℕ
gathered_at i c v e = cond (ltb e (vlmax c.vtype c.vlen)) (element_of (size_of c) v i.vs2 c.vtype.sew e) 0

abbrev pub up_elements : VInstr → Cfg → (by : ℕ) → List (List ℕ) → Elementwise
up_elements i c by v = elements_from i c (max c.vstart by) (λ e. element_of (size_of c) v i.vs2 c.vtype.sew (e - by))

-- what a slide leaves that moves 0 to where the group has no element
abbrev pub slid_value : VInstr → Cfg → (up : Bool) → (by : ℕ) → List (List ℕ) → (e : ℕ) → ℕ
slid_value i c true by v e = cond (leb by e && ltb (e - by) (vlmax c.vtype c.vlen)) (element_of (size_of c) v i.vs2 c.vtype.sew (e - by)) 0
slid_value i c false by v e = gathered_at i c v (e + by)

abbrev pub slid_elements : VInstr → Cfg → (up : Bool) → (by : ℕ) → List (List ℕ) → Elementwise
slid_elements i c up by v = elements_from i c c.vstart (slid_value i c up by v)

abbrev pub gathered_elements : VInstr → Cfg → (index : ℕ) → List (List ℕ) → Elementwise
gathered_elements i c index v = elements_from i c c.vstart (λ e. gathered_at i c v index)

pub up-left : (i : VInstr) (c : Cfg) (x : ℕ) (v : List (List ℕ)) → slid_up i c x v ≡ elements (up_elements i c (amount_for i.form i.vs1 x) v)
up-left i c x v = ap (λ (k : ℕ). elements (up_elements i c k v)) (amount-is i c x v i.form)

pub down-left : (i : VInstr) (c : Cfg) (x : ℕ) (v : List (List ℕ)) → slid_down i c x v ≡ elements (slid_elements i c false (amount_for i.form i.vs1 x) v)
down-left i c x v = ap (λ (k : ℕ). elements (slid_elements i c false k v)) (amount-is i c x v i.form)

pub gathered-left : (i : VInstr) (c : Cfg) (x : ℕ) (v : List (List ℕ)) → gathers_one i.form ≡ true → gathered_by_index i c x v ≡ elements (gathered_elements i c (amount_for i.form i.vs1 x) v)
gathered-left i c x v one =
    let same : (λ (e : ℕ). index_in i c x v i.form e) ≡ (λ (e : ℕ). amount_for i.form i.vs1 x) = λ z e. index-is i c x v i.form e one z in
    ap (λ (f : ℕ → ℕ). elements (elements_from i c c.vstart (λ e. gathered_at i c v (f e)))) same

-- ---- the emission

pub no-bit : (w : ℕ) → IsElementWidth w → eqb w 1 ≡ false
no-bit w (inl is) = rw is refl
no-bit w (inr (inl is)) = rw is refl
no-bit w (inr (inr is)) = rw is refl

-- what the emission of lists needs that read no register row by row
pub ready-of : (f : Frame) (body : Body) → Sits f → IsOfWidth (emitted_at f.width) f body → ((g : ℕ) → g < f.registers → AllThere f body g) → Ready f body
ready-of f body sits wide there = record {
  width = some f.width sits.wide;
  wide = wide;
  few = sits.few;
  there = there;
}
  where
    some : (w : ℕ) → IsElementWidth w → 0 < w
    some w (inl is) = omega arith
    some w (inr (inl is)) = omega arith
    some w (inr (inr is)) = omega arith

-- ---- they are sound

module _ (i : VInstr) (c : Cfg) (x : ℕ) (g : Grouped i c) where
  abbrev n : ℕ
  n = group_registers c

  abbrev w : ℕ
  w = c.vtype.sew

  abbrev most : ℕ
  most = vlmax c.vtype c.vlen

  -- the shape of a frame is that of the elements
  abbrev pub tailed : Shape → (bit : Bool) → Shape
  tailed shape bit = record shape { tail = ltb c.vstart c.vl && (bit || c.vtype.vta) }

  pub group-shape : (takes : Bool) (result : Registers → ℕ → Bool → ℕ) (value : ℕ → ℕ) → sized_shape (group_frame i c) c takes x result ≡ shape_of c (elements_from i c c.vstart value) false takes x w result
  group-shape takes result value = ap (tailed (sized_shape (group_frame i c) c takes x result)) (sym (no-bit w g.sits.wide))

  offset-shape : (by : ℕ) (result : Registers → ℕ → Bool → ℕ) (value : ℕ → ℕ) → sized_shape (offset_frame i c by) c false x result ≡ shape_of c (elements_from i c (max c.vstart by) value) false false x w result
  offset-shape by result value = ap (tailed (sized_shape (offset_frame i c by) c false x result)) (sym (no-bit w g.sits.wide))

  there : (q : ℕ) → q < n → i.vd + q < 32
  there q below = let room = g.sits.room in omega arith

  words : IsTrue (is_legal_vlen c.vlen) → c.vlen ≡ 32 * (c.vlen / 32)
  words legal = sym (vlen_words c.vlen legal)

  pub up-sound : (by : ℕ) → IsApart i.vd i.vs2 n → IsTrue (is_legal_vlen c.vlen) → Sound (offset_frame i c by) (Slid i.vs2 true by most) c false w x (up_elements i c by)
  up-sound by apart legal = record {
    ready = ready-of (offset_frame i c by) (Slid i.vs2 true by most) (offset-sits i c x g by) (emitted-width w g.sits.wide) (λ q below. (there q below, tt));
    kind = inr g.sits.wide;
    result = up_result i c x g by;
    source = slid_source i c x g true;
    legal = λ columns long. up-legal i c x g by columns apart long;
    bounded = offset-bounded i c by false x (up_result i c x g by);
    realised = up-realised i c x g by;
    range = λ q below. slid-ranged i c x g (offset_frame i c by) true by (c.vlen / 32) (offset-sits i c x g by) refl refl (words legal) q below;
    shape = λ v. offset-shape by (up_result i c x g by) ((up_elements i c by v).value v);
    results = λ s long e less. element-here i c x g s (e - by) long;
    unclipped = λ v k. refl;
  }

  slid-results : (up : Bool) (by : ℕ) (s : Slices) (e : ℕ) → c.vlen ≡ 32 * s.columns → slide_result c.vlen w i.vs2 up by most (bits_of (registers_of s)) e ≡ slid_value i c up by (registers_of s) e
  slid-results true by s e long = ap (λ (z : ℕ). cond (leb by e && ltb (e - by) most) z 0) (element-here i c x g s (e - by) long)
  slid-results false by s e long = ap (λ (z : ℕ). cond (ltb (e + by) most) z 0) (element-here i c x g s (e + by) long)

  pub slid-sound : (takes up : Bool) (by : ℕ) → FitsDirection i c x g up → IsTrue (is_legal_vlen c.vlen) → Sound (group_frame i c) (Slid i.vs2 up by most) c takes w x (slid_elements i c up by)
  slid-sound takes up by fits legal = record {
    ready = ready-of (group_frame i c) (Slid i.vs2 up by most) g.sits (emitted-width w g.sits.wide) (λ q below. (there q below, tt));
    kind = inr g.sits.wide;
    result = slid_result i c x g up by;
    source = slid_source i c x g up;
    legal = λ columns long. slid-legal i c x g takes up by columns fits long;
    bounded = plain-bounded i c takes x (slid_result i c x g up by);
    realised = slid-realised i c x g takes up by;
    range = λ q below. slid-ranged i c x g (group_frame i c) up by (c.vlen / 32) g.sits refl refl (words legal) q below;
    shape = λ v. group-shape takes (slid_result i c x g up by) (slid_value i c up by v);
    results = λ s long e less. slid-results up by s e long;
    unclipped = λ v k. refl;
  }

  pub gathered-sound : (index : ℕ) → IsApart i.vd i.vs2 n → IsTrue (is_legal_vlen c.vlen) → Sound (group_frame i c) (Picked i.vs2 index most) c false w x (gathered_elements i c index)
  gathered-sound index apart legal = record {
    ready = ready-of (group_frame i c) (Picked i.vs2 index most) g.sits (emitted-width w g.sits.wide) (λ q below. (there q below, tt));
    kind = inr g.sits.wide;
    result = picked_result i c x g index;
    source = slid_source i c x g true;
    legal = λ columns long. picked-legal i c x g index columns apart long;
    bounded = plain-bounded i c false x (picked_result i c x g index);
    realised = picked-realised i c x g index;
    range = λ q below. picked-ranged i c x g index (c.vlen / 32) (words legal) q below;
    shape = λ v. group-shape false (picked_result i c x g index) ((gathered_elements i c index v).value v);
    results = λ s long e less. ap (λ (z : ℕ). cond (ltb index most) z 0) (element-here i c x g s index long);
    unclipped = λ v k. refl;
  }
