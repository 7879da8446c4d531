-- Legal instructions set the flag where the frame's program does.
use Rattle.std.proofs.Common.{◌≡◌, ℕ, zero, suc, ◌+◌, ◌-◌, ◌*◌, ◌/◌, ◌<◌, ◌≤◌, Bool, true, false, cond, ◌&&◌, ◌||◌, ltb, List, refl, sym, ◌∙◌, ap, arith}
use Rattle.std.specs.Int.{from_bool}
use Rattle.std.proofs.lemmas.Bool.{le-ltb}
use Rattle.cam_chain.specs.Views.{registers_of}
use Rattle.element_ops.specs.Elements.{element_of, mask_bit_of}
use Rattle.element_ops.specs.Places.{is_active, prestart, tail, place_of}
use Rattle.fold_laws.specs.Folds.{any}
use Rattle.fold_laws.proofs.Anys.{any_cat, any-same}
use Rattle.rvv_decode.specs.declared.instruction.VInstr.{VInstr}
use Rattle.vtype_cfg.specs.declared.configuration.Cfg.{Cfg}
use Rattle.vtype_cfg.specs.Settings.{vlmax}
use Rattle.legal_groups.specs.Facts.{registers_for}
use Rattle.legal_groups.proofs.Widths.{width-least, vlmax-held_at}
use Rattle.rvv_meaning.specs.Elementwise.{Elementwise, place, clips_below, clips as clips_elements}
use Rattle.rvv_meaning.specs.Operations.{Operation, reads_mask, elements_at}
use Rattle.frame_laws.specs.Shapes.{usual_bounds}
use Rattle.frame_laws.specs.Meaning.{place_in}
use Rattle.frame_laws.specs.Classes.Operands.{operand_of}
use Rattle.frame_laws.specs.Classes.Plain.{plain_clip}
use Rattle.frame_laws.proofs.Classes.Operands.{whole-register}
use Rattle.frame_laws.specs.Classes.Halved.{half_clip}
use Rattle.frame_laws.proofs.Classes.PlainClips.{plain_clip_law}
use Rattle.frame_laws.proofs.Classes.HalvedClips.{halved_clip_law}
use Rattle.frame_meaning.specs.declared.Order.{Order}
use Rattle.frame_meaning.specs.declared.Order.TheVariants.{Straight, Reversed, Second, Exchanged, Widening, WideSource, Half, Quarter}
use Rattle.frame_meaning.specs.Shapes.{signs_of, scalar_of, width_in, count_in, operands_in, value_by, value_in, elements_in, shape_in, program_in}
use Rattle.frame_meaning.specs.Laws.{Ignores}
use Rattle.frame_meaning.specs.Halves.{half_count, half_operands, half_value_in, half_elements, half_shape, half_program_in, IsOfHalves}
use Rattle.frame_meaning.specs.Clips.{flag_of, clips_by, clips_in, half_clips_in, ElementsClipLaw, HalvesClipLaw}
use Rattle.frame_meaning.proofs.Halves as halves
use Rattle.frame_meaning.proofs.Instructions.{facts-of, is-plain, bounded, values, elements-are}
use Rattle.frame_meaning.proofs.OperandWidths.{width-of}

-- ---- active elements

-- the meaning looks at its elements one by one
pub any-clipped : (c : Cfg) (e : Elementwise) (v : List (List ℕ)) (n : ℕ) → any n (λ k. is_active (place c e v k) && e.clipped v k) ≡ clips_below c e v n
unfolding any clips_below
any-clipped c e v zero = refl
any-clipped c e v (suc n) = rw (any-clipped c e v n) refl

-- elements from the length on are not active
past-none : (vstart from len : ℕ) (masked : Bool) (mask : ℕ → Bool) (e : ℕ) (x : Bool) → len ≤ e → (is_active (place_of vstart from len masked mask e) && x) ≡ false
past-none vstart from len masked mask e x past = rw (le-ltb e len past) (inactive (ltb e vstart || (ltb e from && false)))
  where
    inactive : (b : Bool) → (is_active (cond b prestart tail) && x) ≡ false
    inactive true = refl
    inactive false = refl

-- so a test of active elements need go no further
any-none : (n : ℕ) (t : ℕ → Bool) → ((k : ℕ) → k < n → t k ≡ false) → any n t ≡ false
unfolding any
any-none zero t none = refl
any-none (suc n) t none = rw (none n (omega arith), any-none n t (λ k l. none k (omega arith))) refl

any-shorter : (n m : ℕ) (t : ℕ → Bool) → n ≤ m → ((k : ℕ) → n ≤ k → t k ≡ false) → any m t ≡ any n t
any-shorter n m t le none =
    let split : m ≡ n + (m - n) = omega arith in
    ap (λ (z : ℕ). any z t) split ∙ any_cat n (m - n) t
    ∙ rw (any-none (m - n) (λ k. t (n + k)) (λ k l. none (n + k) (omega arith))) (or_false (any n t))
  where
    or_false : (b : Bool) → (b || false) ≡ b
    or_false true = refl
    or_false false = refl

pub any-active : (c : Cfg) (e : Elementwise) (v : List (List ℕ)) (m : ℕ) → e.len ≤ m → any m (λ k. is_active (place c e v k) && e.clipped v k) ≡ clips_elements c e v
any-active c e v m le =
    any-shorter e.len m (λ k. is_active (place c e v k) && e.clipped v k) le (λ k past. past-none c.vstart e.from e.len e.masked (mask_bit_of v 0) k (e.clipped v k) past)
    ∙ any-clipped c e v e.len

-- ---- flags as values

pub from_bool-same : (x y : Bool) → from_bool x ≡ from_bool y → x ≡ y
from_bool-same true true same = refl
from_bool-same false false same = refl
from_bool-same true false same = absurd (omega (arith, same))
from_bool-same false true same = absurd (omega (arith, same))

-- a flag as the list takes the operands is the value of the operation of flags
flag-value : (order : Order) (o : Operation) (w mode a b addend : ℕ) → from_bool (clips_by order o w mode a b addend) ≡ value_by order (flag_of o) w mode a b addend false
flag-value Straight o w mode a b addend = refl
flag-value Reversed o w mode a b addend = refl
flag-value Second o w mode a b addend = refl
flag-value Exchanged o w mode a b addend = refl
flag-value Widening o w mode a b addend = refl
flag-value WideSource o w mode a b addend = refl
flag-value Half o w mode a b addend = refl
flag-value Quarter o w mode a b addend = refl

flag-unmasked : (order : Order) (o : Operation) (w mode a b addend : ℕ) (m : Bool) → m ≡ false → from_bool (clips_by order o w mode a b addend) ≡ value_by order (flag_of o) w mode a b addend m
flag-unmasked order o w mode a b addend m is = flag-value order o w mode a b addend ∙ ap (value_by order (flag_of o) w mode a b addend) (sym is)

-- where the mask is no operand, the flag of the operands that stand in the rows is that of the operands of the meaning
flags : (order : Order) (o : Operation) (i : VInstr) (c : Cfg) (x : ℕ) (v : List (List ℕ)) (e : ℕ) → Ignores order (flag_of o) → o.takes_mask ≡ false → 8 ≤ c.vtype.sew → i.vs1 < 32
    → plain_clip (shape_in order i c x o) (operands_in order (signs_of o) i c.vtype.sew) (clips_in order i c o) v e ≡ (elements_in order i c x o).clipped v e
unfolding shape_in elements_in elements_at
flags order o i c x v e ignores unmasked least small =
    let no_bit : (reads_mask i o && mask_bit_of v 0 e) ≡ false = rw unmasked refl in
    let w = width_in order c.vtype.sew in
    let with = operands_in order (signs_of o) i c.vtype.sew in
    let x_at = scalar_of order (signs_of o) i c.vtype.sew x in
    from_bool-same _ _
    (flag-unmasked order o w c.vxrm (operand_of with.a (c.vlen / 8) w x_at v e) (operand_of with.b (c.vlen / 8) w x_at v e) (element_of (c.vlen / 8) v with.addend w e) (reads_mask i o && mask_bit_of v 0 e) no_bit
    ∙ values order (flag_of o) i c x v e ignores least small)

-- ---- the law

pub elements_clip_law : ElementsClipLaw
unfolding program_in shape_in elements_in elements_at
elements_clip_law order o i c x body s ignores unmasked runs short class is tells =
    let v = registers_of s in
    let sh = shape_in order i c x o in
    let with = operands_in order (signs_of o) i c.vtype.sew in
    let facts = facts-of order i c runs.setting runs.legal class in
    let w = width-of (width_in order c.vtype.sew) facts.width in
    let least : 8 ≤ c.vtype.sew = width-least c.vtype.sew facts.sew in
    let wide : 8 ≤ width_in order c.vtype.sew = w.least in
    let plain = is-plain order o i c x s.columns runs.setting runs.long facts in
    let whole = whole-register (width_in order c.vtype.sew) c.vlen s.columns (omega arith) w.lanes runs.long in
    let held : vlmax c.vtype c.vlen ≤ count_in order c.vtype * (c.vlen / width_in order c.vtype.sew) = vlmax-held_at c.vtype (width_in order c.vtype.sew) c.vlen facts.width runs.setting facts.vill whole in
    plain_clip_law sh (usual_bounds sh) with (value_in order i c o) (clips_in order i c o) body s plain (bounded order o i c x) is tells runs.some w.whole
    ∙ any-same (count_in order c.vtype * (c.vlen / width_in order c.vtype.sew)) _ (λ e. is_active (place c (elements_in order i c x o) v e) && (elements_in order i c x o).clipped v e) (λ e l.
    ap (λ (t : Bool). is_active (place_in sh (mask_bit_of v 0) e) && t) (flags order o i c x v e ignores unmasked least runs.immediate))
    ∙ any-active c (elements_in order i c x o) v (count_in order c.vtype * (c.vlen / width_in order c.vtype.sew)) (omega arith)
    ∙ ap (λ (e : Elementwise). clips_elements c e v) (elements-are order o i c x class)

-- ---- elements half as wide as those of the first operand

-- the flag of the operands that stand in the rows is that of the operands of the meaning
half-flags : (o : Operation) (i : VInstr) (c : Cfg) (x : ℕ) (v : List (List ℕ)) (e : ℕ) → IsOfHalves (flag_of o) → 8 ≤ c.vtype.sew → i.vs1 < 32
    → half_clip (half_shape i c x o) (half_operands i c.vtype.sew) (half_clips_in c o) v e ≡ (half_elements i c x o).clipped v e
unfolding half_shape half_elements elements_at
half-flags o i c x v e of least small = from_bool-same _ _ (halves.value-here (flag_of o) i c x v e of least small)

pub halves_clip_law : HalvesClipLaw
unfolding half_program_in half_shape half_elements elements_at
halves_clip_law o i c x lists s of flag runs short class leave tells =
    let v = registers_of s in
    let sh = half_shape i c x o in
    let sew = c.vtype.sew in
    let facts = halves.half-facts i c s runs class in
    let w = width-of sew facts.sew in
    let least : 8 ≤ c.vtype.sew = w.least in
    let all = registers_for c.vtype sew * (c.vlen / sew) in
    let whole = whole-register sew c.vlen s.columns (omega arith) w.lanes runs.long in
    let held : vlmax c.vtype c.vlen ≤ registers_for c.vtype c.vtype.sew * (c.vlen / c.vtype.sew) = vlmax-held_at c.vtype sew c.vlen facts.sew runs.setting facts.vill whole in
    halved_clip_law sh (usual_bounds sh) (half_operands i sew) (half_value_in c o) (half_clips_in c o) lists (half_count c.vtype) s (halves.halved o i c x s of runs short class) (halves.bounded o i c x) leave tells runs.some
    ∙ any-same all _ (λ e. is_active (place c (half_elements i c x o) v e) && (half_elements i c x o).clipped v e) (λ e l.
    ap (λ (t : Bool). is_active (place_in sh (mask_bit_of v 0) e) && t) (half-flags o i c x v e flag least runs.immediate))
    ∙ any-active c (half_elements i c x o) v all (omega arith)
    ∙ ap (λ (e : Elementwise). clips_elements c e v) (halves.half-elements-are o i c x class)
