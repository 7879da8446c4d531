-- What legality and a valid configuration say of instructions that move elements.
use Rattle.std.proofs.Common.{◌≡◌, ℕ, ◌+◌, ◌*◌, ◌/◌, ◌<◌, ◌≤◌, Bool, true, false, not, refl, sym, arith, ◌⊎◌, inl, inr, ⊎_elim}
use Rattle.std.specs.Prelude.{IsTrue}
use Rattle.std.proofs.lemmas.Bool.{and_parts, leb-true, false≢true}
use Rattle.std.proofs.lemmas.Nat.{le-div}
use Rattle.frame_laws.proofs.Classes.Operands.{whole-register}
use Rattle.frame_meaning.proofs.OperandWidths.{width-of}
use Rattle.legal_groups.specs.Rules.{Lies, AreApart, Obeys, aligned_to}
use Rattle.legal_groups.proofs.Overlaps.{same_or_apart}
use Rattle.legal_groups.proofs.Widths.{at_width, vlmax-held_at}
use Rattle.rvv_decode.specs.declared.instruction.VInstr.{VInstr}
use Rattle.vtype_cfg.specs.declared.configuration.Cfg.{Cfg}
use Rattle.vtype_cfg.specs.declared.vtype.Vtype.{Vtype}
use Rattle.vtype_cfg.specs.Classes.{Class, Place, group as group_place, nowhere, row_of, count_at, overlap_of, may_write_mask, needs_no_setting}
use Rattle.vtype_cfg.specs.Settings.{is_valid, is_legal_vlen, vlmax}
use Rattle.vtype_cfg.proofs.Lengths.{vlen_from, vlen_words}
use Rattle.move_exec.specs.Written.{Sits, group_registers, group_frame}
use Rattle.move_exec.proofs.Sources.{IsApart}
use Rattle.move_exec.proofs.Valid.{valid-setting, valid-length}

pub valid-most : (c : Cfg) → IsTrue (is_valid c) → c.vl ≤ vlmax c.vtype c.vlen
unfolding is_valid
valid-most c valid = leb-true _ _ (and_parts _ _ (and_parts _ _ (and_parts _ _ valid).0).0).1

-- a register has whole elements
pub whole-elements : (vlen w : ℕ) → IsTrue (is_legal_vlen vlen) → (w ≡ 8) ⊎ ((w ≡ 16) ⊎ (w ≡ 32)) → vlen / w * w ≡ vlen
whole-elements vlen w legal is =
    let words : 32 * (vlen / 32) ≡ vlen = vlen_words vlen legal in
    let a = width-of w is in
    whole-register w vlen (vlen / 32) (let least = a.least in omega arith) a.lanes (sym words)

-- and one at least
pub some-elements : (vlen w : ℕ) → IsTrue (is_legal_vlen vlen) → (w ≡ 8) ⊎ ((w ≡ 16) ⊎ (w ≡ 32)) → 0 < vlen / w
some-elements vlen w legal is =
    let least : 32 ≤ vlen = vlen_from vlen legal in
    let a = width-of w is in
    let wide : 8 ≤ w = a.least in
    let most : w ≤ 32 = at_width (λ (u : ℕ). u ≤ 32) (omega arith) (omega arith) (omega arith) w is in
    let l : 1 ≤ vlen / w = le-div 1 vlen w (omega arith) (omega arith) in
    l

pub masked-off : (vm : Bool) → not vm ≡ true → vm ≡ false
masked-off true t = absurd (false≢true t)
masked-off false t = refl

-- two operands in places of one kind, each a group that is aligned to its registers, are the same or apart
pub same-or-apart : (vt : Vtype) (place : Place) (base vd : ℕ) → Lies vt place base → Lies vt place vd → count_at vt place ≡ aligned_to vt place → 0 < count_at vt place
    → (base ≡ vd) ⊎ IsApart vd base (count_at vt place)
same-or-apart vt place base vd source dest one some =
    same_or_apart (count_at vt place) base vd some (rw one source.aligned) (rw one dest.aligned)

-- the groups of an instruction whose vs2 and vd are groups of elements of SEW bits
pub record Grouped (i : VInstr) (c : Cfg) : Type 0 where
  pub sits : Sits (group_frame i c)
  pub vs2 : i.vs2 + group_registers c ≤ 32
  pub lies : (i.vs2 ≡ i.vd) ⊎ IsApart i.vd i.vs2 (group_registers c)
  pub most : vlmax c.vtype c.vlen ≤ group_registers c * (c.vlen / c.vtype.sew)
  pub vl : c.vl ≤ vlmax c.vtype c.vlen
  pub whole : c.vlen / c.vtype.sew * c.vtype.sew ≡ c.vlen
  pub some : 0 < c.vlen
  pub per : 0 < c.vlen / c.vtype.sew

pub grouped : (class : Class) (i : VInstr) (c : Cfg) → Obeys class i c.vtype c.vstart → IsTrue (is_valid c)
    → (row_of class c.vtype.sew i).vd ≡ group_place c.vtype.sew → (row_of class c.vtype.sew i).vs2 ≡ group_place c.vtype.sew → needs_no_setting class ≡ false → may_write_mask class ≡ false → Grouped i c
grouped class i c o valid vd vs2 needs never =
    let vt = c.vtype in
    let s = o.setting needs in
    let some : 0 < count_at vt (group_place vt.sew) = omega arith in
    let dest : Lies vt (group_place vt.sew) i.vd = rw vd at o.vd in
    let source : Lies vt (group_place vt.sew) i.vs2 = rw vs2 at o.vs2 in
    let long = whole-elements c.vlen vt.sew (valid-length c valid) s.1 in
    let held = vlmax-held_at vt vt.sew c.vlen s.1 (valid-setting c valid) s.0 long in
    let count : count_at vt (group_place vt.sew) ≡ aligned_to vt (group_place vt.sew) = omega arith in
    record {
      sits = record {
        wide = s.1;
        few = dest.few;
        room = dest.room some;
        spares = λ t. (rw vd at o.spares_mask never (masked-off i.vm t)) some;
      };
      vs2 = source.room some;
      lies = same-or-apart vt (group_place vt.sew) i.vs2 i.vd source dest count some;
      most = rw count held;
      vl = valid-most c valid;
      whole = long;
      some = (let least : 32 ≤ c.vlen = vlen_from c.vlen (valid-length c valid) in omega arith);
      per = some-elements c.vlen vt.sew (valid-length c valid) s.1;
    }

-- where its class forbids that they share registers
pub grouped-apart : (class : Class) (i : VInstr) (c : Cfg) → Obeys class i c.vtype c.vstart
    → (row_of class c.vtype.sew i).vd ≡ group_place c.vtype.sew → (row_of class c.vtype.sew i).vs2 ≡ group_place c.vtype.sew → overlap_of class i ≡ nowhere → IsApart i.vd i.vs2 (group_registers c)
grouped-apart class i c o vd vs2 never =
    let vt = c.vtype in
    let some : 0 < count_at vt (group_place vt.sew) = omega arith in
    let apart : AreApart vt (group_place vt.sew) (group_place vt.sew) i.vd i.vs2 = rw (vd, vs2) at o.beside_vs2 never in
    ⊎_elim (λ (l : i.vd + group_registers c ≤ i.vs2). inr l) (λ (l : i.vs2 + group_registers c ≤ i.vd). inl l) (apart some some)
