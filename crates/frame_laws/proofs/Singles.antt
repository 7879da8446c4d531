-- A scalar in one element, after the registers of a group.
use Rattle.std.proofs.Common.{◌≡◌, ◌≢◌, ℕ, suc, ◌+◌, ◌-◌, ◌*◌, ◌/◌, ◌%◌, ◌<◌, ◌≤◌, min, Bool, true, false, cond, ◌&&◌, ◌||◌, not, eqb, ltb, List, [], ◌++◌, append-nil, refl, sym, ◌∙◌, ap, subst, arith, ⊎_elim, ◌⊎◌, inl, inr}
use Rattle.std.proofs.lemmas.Bool.{cases_eq, cases_lt, cases_Bool, lt-ltb, le-ltb, le-leb, eq-eqb, ne_eqb, false≢true}
use Rattle.std.proofs.lemmas.Bool.Decides.{nat_tests}
use Rattle.std.proofs.lemmas.Nat.{div-mul-add, mod-mul-add, div-add-mod'}
use Rattle.std.proofs.Math.Nat.{mod-lt, div-div-eq-div-mul, mul_comm}
use Rattle.bit_laws.specs.Numbers.{low, bit_of}
use Rattle.bit_laws.proofs.Numbers.{bit-number}
use Rattle.bit_rows.specs.Slices.{Slices}
use Rattle.cam_chain.specs.Views.{registers_of}
use Rattle.steer_net.specs.Network.{bit_in}
use Rattle.element_ops.specs.Elements.{Registers, element_in, with_elements_in, bits_of}
use Rattle.element_ops.specs.Places.{Place, prestart, active, masked_off, tail, place_of, is_active}
use Rattle.micro_ir.specs.declared.op.MicroOp.{MicroOp}
use Rattle.micro_ir.specs.Replay.{replay}
use Rattle.micro_ir.specs.Steps.{micros}
use Rattle.micro_ir.specs.Pieces.{splat}
use Rattle.micro_ir.proofs.Lists.{replay-append}
use Rattle.micro_ir.proofs.Lift.{replay-columns}
use Rattle.frame_laws.specs.Shapes.{Shape, Bounds, Bounded}
use Rattle.frame_laws.specs.Programs.{one_register, first_registers, program}
use Rattle.frame_laws.specs.Meaning.{outcome, place_in, element_after, written, after}
use Rattle.frame_laws.specs.Realising.{Splatted}
use Rattle.frame_laws.specs.Laws.{Framed, Legal, AllRealised, Holds}
use Rattle.frame_laws.specs.Singles.{with_single, single_shape, single_register, single_bounds, single_operations, HasSingle, SingleLaw, SingleBytesLaw}
use Rattle.frame_laws.proofs.Registers.{HoldsFirst, none_held, next, finished, group_law, written_else, splat-stands, splat-bits}
use Rattle.frame_laws.proofs.Spans.{bounds_law}
use Rattle.frame_laws.proofs.Bytes.{held_law, holds-own}
use Rattle.frame_laws.proofs.Classes.Operands.{whole-register}

-- ---- places

-- an element before the one that is computed, and one after it
no-earlier : (a l m : Bool) → is_active (cond (a || (true && l)) prestart (cond l (cond m active masked_off) tail)) ≡ false
no-earlier true l m = refl
no-earlier false true m = refl
no-earlier false false m = refl

no-later : (a f m : Bool) → is_active (cond (a || (f && false)) prestart (cond false (cond m active masked_off) tail)) ≡ false
no-later true f m = refl
no-later false true m = refl
no-later false false m = refl

other-place : (vstart q len : ℕ) (masked : Bool) (mask : ℕ → Bool) (e : ℕ) → e ≢ q → is_active (place_of vstart q (min (suc q) len) masked mask e) ≡ false
other-place vstart q len masked mask e other =
    ⊎_elim
    (λ (l : e < q). rw (lt-ltb e q l) (no-earlier (ltb e vstart) (ltb e (min (suc q) len)) (not masked || mask e)))
    (λ (m : q ≤ e). rw (le-ltb e (min (suc q) len) (omega arith)) (no-later (ltb e vstart) (ltb e q) (not masked || mask e)))
    (cases_lt e q)

-- the element itself is computed where the instruction computes it
same-active : (a l m : Bool) → is_active (cond (a || (false && l)) prestart (cond l (cond m active masked_off) tail)) ≡ is_active (cond (a || (a && l)) prestart (cond l (cond m active masked_off) tail))
same-active true l m = refl
same-active false l m = refl

same-place : (vstart q len : ℕ) (masked : Bool) (mask : ℕ → Bool) → is_active (place_of vstart q (min (suc q) len) masked mask q) ≡ is_active (place_of vstart vstart len masked mask q)
same-place vstart q len masked mask =
    let itself : ltb q q ≡ false = le-ltb q q (omega arith) in
    let below : ltb q (min (suc q) len) ≡ ltb q len = grind (arith, nat_tests) in
    rw (itself, below) (same-active (ltb q vstart) (ltb q len) (not masked || mask q))

-- a place depends on the mask where that is used
masked-place : (vstart from len : ℕ) (masked : Bool) (f g : ℕ → Bool) (e : ℕ) → (masked ≡ true → f e ≡ g e) → place_of vstart from len masked f e ≡ place_of vstart from len masked g e
masked-place vstart from len true f g e same = rw (same refl) refl
masked-place vstart from len false f g e same = refl

-- what becomes of an element that is not computed does not depend on the value
idle-outcome : (i : Shape) (x y old : ℕ) (p : Place) → is_active p ≡ false → outcome i x old p ≡ outcome i y old p
idle-outcome i x y old prestart idle = refl
idle-outcome i x y old active idle = absurd (false≢true (sym idle))
idle-outcome i x y old masked_off idle = refl
idle-outcome i x y old tail idle = refl

active-outcome : (i : Shape) (x old : ℕ) (p : Place) → is_active p ≡ true → outcome i x old p ≡ low i.width x
active-outcome i x old prestart is = absurd (false≢true is)
active-outcome i x old active is = refl
active-outcome i x old masked_off is = absurd (false≢true is)
active-outcome i x old tail is = absurd (false≢true is)

-- and where nothing is filled it stays
unfilled : (i : Shape) (q x old : ℕ) (p : Place) → is_active p ≡ false → outcome (single_shape i q) x old p ≡ old
unfilled i q x old prestart idle = refl
unfilled i q x old active idle = absurd (false≢true (sym idle))
unfilled i q x old masked_off idle = refl
unfilled i q x old tail idle = refl

-- ---- bits of registers

-- the place of bit `at` of register r among the bits of a group from d on
abbrev bit_number : (vlen d r at : ℕ) → ℕ
bit_number vlen d r at = (r - d) * vlen + at

-- a bit of a register is one of an element
bit-here : (vlen w d r at : ℕ) (u : Registers) → 0 < w → d ≤ r → at < vlen → bit_of (element_in vlen u d w (bit_number vlen d r at / w)) (bit_number vlen d r at % w) ≡ u r at
unfolding element_in
bit-here vlen w d r at u pos from inside =
    let x = bit_number vlen d r at in
    let whole : x / w * w + x % w ≡ x = div-add-mod' x w in
    let back : d + (r - d) ≡ r = omega arith in
    bit-number w (λ j. u (d + (x / w * w + j) / vlen) ((x / w * w + j) % vlen)) (x % w) (mod-lt x pos)
    ∙ ap (λ (n : ℕ). u (d + n / vlen) (n % vlen)) whole
    ∙ rw (div-mul-add (r - d) vlen at inside, mod-mul-add (r - d) vlen at inside, back) refl

written-bit : (i : Shape) (m : ℕ) (v : Registers) (r at : ℕ) → i.vd ≤ r → r < i.vd + m
    → written i m v r at ≡ bit_of (element_after i v (bit_number i.vlen i.vd r at / i.width)) (bit_number i.vlen i.vd r at % i.width)
unfolding written with_elements_in
written-bit i m v r at from to = rw (le-leb i.vd r from, lt-ltb r (i.vd + m) to) refl

-- the element that a bit lies in is one of the bit's register
its-register : (vlen w d r at : ℕ) → 0 < w → vlen / w * w ≡ vlen → at < vlen → bit_number vlen d r at / w / (vlen / w) ≡ r - d
its-register vlen w d r at pos whole inside =
    let x = bit_number vlen d r at in
    div-div-eq-div-mul x w (vlen / w) ∙ ap (λ (n : ℕ). x / n) (mul_comm w (vlen / w) ∙ whole) ∙ div-mul-add (r - d) vlen at inside

same-outcome : (i : Shape) (q x old : ℕ) (p : Place) → outcome (with_single i q) x old p ≡ outcome i x old p
same-outcome i q x old prestart = refl
same-outcome i q x old active = refl
same-outcome i q x old masked_off = refl
same-outcome i q x old tail = refl

module _ (i : Shape) (columns q start : ℕ) (framed : Framed i columns) (has : HasSingle i q start) where
  abbrev one : Shape
  one = single_shape i q

  abbrev all : Shape
  all = with_single i q

  abbrev g : ℕ
  g = single_register i q

  abbrev element_at : (r at : ℕ) → ℕ
  element_at r at = bit_number i.vlen i.vd r at / i.width

  abbrev bit_at : (r at : ℕ) → ℕ
  bit_at r at = bit_number i.vlen i.vd r at % i.width

  lies : (r at : ℕ) → at < i.vlen → element_at r at / (i.vlen / i.width) ≡ r - i.vd
  lies r at inside = its-register i.vlen i.width i.vd r at framed.width (whole-register i.width i.vlen columns framed.width framed.lanes framed.vlen) inside

  -- elements of other registers are other elements
  elsewhere : (r at : ℕ) → i.vd ≤ r → r ≢ i.vd + g → at < i.vlen → element_at r at ≢ q
  elsewhere r at from other inside is =
      let same : r - i.vd ≡ g = sym (lies r at inside) ∙ ap (λ (e : ℕ). e / (i.vlen / i.width)) is in
      other (omega arith)

  -- a register once some are written: the scalar's bit, in the one element, or the old bit
  one-bit : (m : ℕ) (u : Registers) (r at : ℕ) → i.vd ≤ r → r < i.vd + m → at < i.vlen
      → written one m u r at ≡ cond (is_active (place_in one (u 0) (element_at r at))) (bit_of (low i.width i.scalar) (bit_at r at)) (u r at)
  unfolding element_after
  one-bit m u r at from to inside =
      let e = element_at r at in
      let old : ℕ = element_in i.vlen u i.vd i.width e in
      let p : Place = place_in one (u 0) e in
      written-bit one m u r at from to
      ∙ ⊎_elim
      (λ (is : is_active p ≡ true). ap (λ (z : ℕ). bit_of z (bit_at r at)) (active-outcome one i.scalar old p is) ∙ rw is refl)
      (λ (is : is_active p ≡ false). ap (λ (z : ℕ). bit_of z (bit_at r at)) (unfilled i q i.scalar old p is) ∙ bit-here i.vlen i.width i.vd r at u framed.width from inside ∙ rw is refl)
      (cases_Bool (is_active p))

  -- no register before the one of the element is written
  none-before : (u : Registers) (r at : ℕ) → at < i.vlen → written one g u r at ≡ u r at
  none-before u r at inside =
      ⊎_elim
      (λ (l : r < i.vd). written_else one g u r at (inl l))
      (λ (from : i.vd ≤ r).
      ⊎_elim
      (λ (to : r < i.vd + g).
      one-bit g u r at from to inside
      ∙ rw (other-place i.vstart q i.len i.masked (u 0) (element_at r at) (elsewhere r at from (omega arith) inside)) refl)
      (λ (past : i.vd + g ≤ r). written_else one g u r at (inr past))
      (cases_lt r (i.vd + g)))
      (cases_lt r i.vd)

  -- the element is computed alone where it is computed among others
  active-alike : (f h : ℕ → Bool) (e : ℕ) → e ≡ q → (i.masked ≡ true → f e ≡ h e) → is_active (place_in one f e) ≡ is_active (place_in i h e)
  active-alike f h e is same =
      ap is_active (masked-place i.vstart q (min (suc q) i.len) i.masked f h e same)
      ∙ ap (λ (n : ℕ). is_active (place_of i.vstart q (min (suc q) i.len) i.masked h n)) is
      ∙ same-place i.vstart q i.len i.masked h
      ∙ ap (λ (n : ℕ). is_active (place_of i.vstart i.vstart i.len i.masked h n)) (sym is)
      ∙ ap (λ (n : ℕ). is_active (place_of i.vstart n i.len i.masked h e)) (sym has.from)

  -- Written after the group, the scalar makes the whole instruction of it.
  joined : (v : Registers) (r at : ℕ) → at < i.vlen → written one (suc g) (after i v) r at ≡ after all v r at
  unfolding element_after
  joined v r at inside =
      let u : Registers = after i v in
      let w = i.width in
      let e = element_at r at in
      let j = bit_at r at in
      let old : ℕ = element_in i.vlen v i.vd w e in
      let result : ℕ = i.result v e (v 0 e) in
      let p : Place = place_in i (v 0) e in
      let register = has.register in
      let group : i.vd ≤ r → r < i.vd + i.registers → u r at ≡ bit_of (outcome i result old p) j = λ from to. written-bit i i.registers v r at from to in
      let whole : i.vd ≤ r → r < i.vd + i.registers → after all v r at ≡ bit_of (outcome i (cond (eqb e q) i.scalar result) old p) j = λ from to.
      written-bit all i.registers v r at from to ∙ ap (λ (z : ℕ). bit_of z j) (same-outcome i q (cond (eqb e q) i.scalar result) old p) in
      let other : i.vd ≤ r → r < i.vd + i.registers → e ≢ q → u r at ≡ after all v r at = λ from to n.
      group from to ∙ sym (whole from to ∙ ap (λ (t : Bool). bit_of (outcome i (cond t i.scalar result) old p) j) (ne_eqb e q n)) in
      let mask : i.masked ≡ true → u 0 e ≡ v 0 e = λ m. let some : 0 < i.vd = framed.not_mask (rw m refl) in written_else i i.registers v 0 e (inl some) in
      let itself : i.vd ≤ r → r < i.vd + suc g → e ≡ q → written one (suc g) u r at ≡ after all v r at = λ from to is.
      let within : r < i.vd + i.registers = omega arith in
      let alike : is_active (place_in one (u 0) e) ≡ is_active p = active-alike (u 0) (v 0) e is mask in
      one-bit (suc g) u r at from to inside ∙ ap (λ (t : Bool). cond t (bit_of (low w i.scalar) j) (u r at)) alike
      ∙ ⊎_elim
      (λ (on : is_active p ≡ true).
      rw on (sym (whole from within ∙ ap (λ (z : ℕ). bit_of z j) (active-outcome i (cond (eqb e q) i.scalar result) old p on ∙ ap (λ (t : Bool). low w (cond t i.scalar result)) (eq-eqb e q is)))))
      (λ (off : is_active p ≡ false).
      rw off (group from within ∙ sym (whole from within ∙ ap (λ (z : ℕ). bit_of z j) (idle-outcome i (cond (eqb e q) i.scalar result) result old p off))))
      (cases_Bool (is_active p)) in
      ⊎_elim
      (λ (l : r < i.vd). written_else one (suc g) u r at (inl l) ∙ written_else i i.registers v r at (inl l) ∙ sym (written_else all i.registers v r at (inl l)))
      (λ (from : i.vd ≤ r).
      ⊎_elim
      (λ (to : r < i.vd + i.registers).
      ⊎_elim
      (λ (near : r < i.vd + suc g).
      ⊎_elim
      (λ (is : e ≡ q). itself from near is)
      (λ (n : e ≢ q).
      one-bit (suc g) u r at from near inside ∙ rw (other-place i.vstart q i.len i.masked (u 0) e n) (other from to n))
      (cases_eq e q))
      (λ (far : i.vd + suc g ≤ r). written_else one (suc g) u r at (inr far) ∙ other from to (elsewhere r at from (omega arith) inside))
      (cases_lt r (i.vd + suc g)))
      (λ (past : i.vd + i.registers ≤ r).
      written_else one (suc g) u r at (inr (omega arith)) ∙ written_else i i.registers v r at (inr past) ∙ sym (written_else all i.registers v r at (inr past)))
      (cases_lt r (i.vd + i.registers)))
      (cases_lt r i.vd)

  -- ---- the one element as an instruction

  one-legal : Legal one (λ h r. false) columns
  one-legal = record {
    framed = record {
      width = framed.width;
      lanes = framed.lanes;
      vlen = framed.vlen;
      numbers = framed.numbers;
      room = framed.room;
      scalar_width = framed.scalar_width;
      scalar_lanes = framed.scalar_lanes;
      not_mask = framed.not_mask;
    };
    sources = λ h r l x. absurd (false≢true x);
    reads_only = λ h u v p c l below less same. refl;
  }

  one-bounded : Bounded one (single_bounds i q start)
  one-bounded = bounds_law one (single_bounds i q start) (λ l. has.begins (omega arith)) (λ t. absurd (false≢true t)) (λ m. refl)

  one-list : (list : List MicroOp) → single_operations i q start list ≡ one_register one (single_bounds i q start) g list
  unfolding one_register
  one-list list = rw (has.reads, append-nil list) refl

-- ---- the laws

-- the program of an instruction with a scalar leaves the registers, and the scalar in its row
program-runs : (i : Shape) (b : Bounds) (source : ℕ → ℕ → Bool) (body : ℕ → List MicroOp) (v : Registers) (s : Slices) → Legal i source s.columns → Bounded i b → AllRealised i b body → i.splat ≡ true → Holds i.vlen s v
    → Holds i.vlen (replay (program i b body) s) (after i v) × Splatted i (replay (program i b body) s)
unfolding program
program-runs i b source body v s legal bounded real splats holds =
    let f = legal.framed in
    let steps = micros i.scalar_width (splat i.scalar_width i.scalar) in
    let s1 = replay steps s in
    let cols : s1.columns ≡ s.columns = replay-columns steps s in
    let legal1 : Legal i source s1.columns = subst (λ (n : ℕ). Legal i source n) (sym cols) legal in
    let holds1 : Holds i.vlen s1 v = λ r at x h. splat-bits i s f.scalar_width f.scalar_lanes r at x (rw f.vlen at h) ∙ holds r at x h in
    let runs = group_law i b source body v s1 i.registers legal1 bounded real holds1 (splat-stands i s f.scalar_width f.scalar_lanes) (omega arith) in
    let same : replay (program i b body) s ≡ replay (first_registers i b body i.registers) s1 =
    ap (λ (c : Bool). replay (cond c steps [] ++ first_registers i b body i.registers) s) splats ∙ replay-append steps (first_registers i b body i.registers) s in
    subst (λ (t : Slices). Holds i.vlen t (after i v) × Splatted i t) (sym same) runs

pub single_law : SingleLaw
single_law i b source body q start list v s legal bounded real has realised holds r at x h =
    let f = legal.framed in
    let g = single_register i q in
    let one = single_shape i q in
    let u : Registers = after i v in
    let s1 = replay (program i b body) s in
    let cols : s1.columns ≡ s.columns = replay-columns (program i b body) s in
    let runs = program-runs i b source body v s legal bounded real has.splat holds in
    let none = none_held one u s1 runs.1 (λ r at x h. runs.0 r at x (rw (f.vlen, ← cols) h)) in
    let before : HoldsFirst one g u s1 = record {
      registers = λ k col r j fits inside x h.
          let at : ℕ = col * 32 + (k * i.width + j) in
          let within : at < i.vlen = rw f.vlen (let l : col < s.columns = rw (sym cols) inside in omega arith) in
          none.registers k col r j fits inside x h ∙ written_else one 0 u r at (any r i.vd) ∙ sym (none-before i s.columns q start f has u r at within);
      scalar = runs.1;
    } in
    let ops = one_register one (single_bounds i q start) g list in
    let done : HoldsFirst one (suc g) u (replay ops s1) =
    next one (single_bounds i q start) (λ h r. false) s.columns g list u s1 (one-legal i s.columns q start f has) (one-bounded i s.columns q start f has) cols has.register realised before in
    ap (λ (t : Slices). bit_in t r at) (replay-append (program i b body) (single_operations i q start list) s ∙ ap (λ (ops : List MicroOp). replay ops s1) (one-list i s.columns q start f has list))
    ∙ finished one s.columns (suc g) u (replay ops s1) f.width f.lanes f.vlen (replay-columns ops s1 ∙ cols) done r at x h
    ∙ joined i s.columns q start f has v r at h
  where
    any : (r d : ℕ) → (r < d) ⊎ (d + 0 ≤ r)
    any r d = ⊎_elim (λ (l : r < d). inl l) (λ (l : d ≤ r). inr (omega arith)) (cases_lt r d)

pub single_bytes_law : SingleBytesLaw
single_bytes_law i b source body q start list value s legal bounded real has realised some whole results =
    let ops = program i b body ++ single_operations i q start list in
    held_law (with_single i q) value s (replay ops s) (replay-columns ops s) legal.framed.vlen legal.framed.width some whole results
    (single_law i b source body q start list (bits_of (registers_of s)) s legal bounded real has realised (holds-own s i.vlen legal.framed.vlen))
