-- What legality says, class by class, of groups of elements of SEW bits; and what the law of all classes says of some others.
use Rattle.std.proofs.Common.{◌≡◌, ℕ, ◌+◌, ◌-◌, ◌*◌, ◌/◌, ◌≤◌, max, false, IsTrue, refl, ap, subst, arith}
use Rattle.std.proofs.lemmas.Nat.{div-mul-add}
use Rattle.rvv_decode.specs.declared.instruction.VInstr.{VInstr}
use Rattle.rvv_decode.specs.declared.instruction.Form.TheVariants.{V}
use Rattle.vtype_cfg.specs.declared.vtype.Vtype.{Vtype}
use Rattle.vtype_cfg.specs.Settings.{is_vill_or_supported, vlmax}
use Rattle.vtype_cfg.specs.Classes.{Class, plain, move, compare, widening, narrowing, extension_by_four, group, row_of}
use Rattle.legal_groups.specs.Facts.{IsElementWidth, registers_for, Group, ReadBeside, ReadForMask, GroupWritten, Follows, group_count, SameOrApart, SewGroups, LowestOrApart, LegalPlainLaw, LegalMoveLaw, LegalCompareLaw}
use Rattle.legal_groups.proofs.Widths.{at_width, width-least, sew-width, vlmax-held_at}
use Rattle.legal_groups.proofs.Overlaps.{same_or_apart}
use Rattle.legal_groups.proofs.Laws.{legal_group_law, legal_mask_law}

-- the registers of a group of elements of SEW bits
pub count-is : (vt : Vtype) → IsElementWidth vt.sew → registers_for vt vt.sew ≡ group_count vt
count-is vt width =
    let least : 8 ≤ vt.sew = width-least vt.sew width in
    let whole : vt.lmul8 * vt.sew ≡ vt.lmul8 * vt.sew + 0 = omega arith in
    let e : vt.lmul8 * vt.sew / vt.sew ≡ vt.lmul8 = rw whole (div-mul-add vt.lmul8 vt.sew 0 (omega arith)) in
    ap (λ (x : ℕ). max 1 (x / 8)) e

-- the elements up to the greatest vector length lie in such a group
pub vlmax-held : (vt : Vtype) (vlen : ℕ) → IsTrue (is_vill_or_supported vt) → vt.vill ≡ false → vlen / vt.sew * vt.sew ≡ vlen → vlmax vt vlen ≤ group_count vt * (vlen / vt.sew)
vlmax-held vt vlen setting there divides =
    let width = sew-width vt setting there in
    subst (λ (n : ℕ). vlmax vt vlen ≤ n * (vlen / vt.sew)) (count-is vt width) (vlmax-held_at vt vt.sew vlen width setting there divides)

beside : (vt : Vtype) (vd r : ℕ) → IsElementWidth vt.sew → Group (registers_for vt vt.sew) vd → Group (registers_for vt vt.sew) r → SameOrApart (group_count vt) vd r
beside vt vd r width d s =
    subst (λ (n : ℕ). SameOrApart n vd r) (count-is vt width) (s.room, same_or_apart (registers_for vt vt.sew) r vd s.some s.aligned d.aligned)

sew-groups : (class : Class) (i : VInstr) (vt : Vtype) → (row_of class vt.sew i).vs1 ≡ group vt.sew → GroupWritten class i vt vt.sew → SewGroups i vt
sew-groups class i vt at f =
    let n : registers_for vt vt.sew ≡ group_count vt = count-is vt f.sew in
    let few = f.place.few in
    let room = f.place.room in
    record {
      vill = f.vill;
      sew = f.sew;
      few = omega arith;
      room = omega arith;
      spares_mask = f.spares_mask;
      vs1 = λ form. beside vt i.vd i.vs1 f.sew f.place (f.sources.vs1 vt.sew form at).place;
    }

pub legal_move_law : LegalMoveLaw
unfolding row_of
legal_move_law i vt vstart setting legal class = sew-groups move i vt refl (legal_group_law move i vt vstart setting legal class vt.sew refl)

pub legal_plain_law : LegalPlainLaw
unfolding row_of
legal_plain_law i vt vstart setting legal class =
    let f = legal_group_law plain i vt vstart setting legal class vt.sew refl in
    (sew-groups plain i vt refl f, beside vt i.vd i.vs2 f.sew f.place (f.sources.vs2 vt.sew refl).place)

lowest_or_apart : (vt : Vtype) (vd r : ℕ) → IsElementWidth vt.sew → ReadForMask vt vd vt.sew r → LowestOrApart (group_count vt) vd r
lowest_or_apart vt vd r width read =
    let n = registers_for vt vt.sew in
    subst (λ (n : ℕ). LowestOrApart n vd r) (count-is vt width) (
      read.place.room,
      (let away = read.lowest (vd - r) in grind arith),
    )

pub legal_compare_law : LegalCompareLaw
unfolding row_of
legal_compare_law i vt vstart setting legal class =
    let f = legal_mask_law compare i vt vstart setting legal class refl in
    let two = f.sources.vs2 vt.sew refl in
    let n : registers_for vt vt.sew ≡ group_count vt = count-is vt f.sew in
    let few = two.place.few in
    record {
      vill = f.vill;
      sew = f.sew;
      few = omega arith;
      room = f.room;
      vs2 = lowest_or_apart vt i.vd i.vs2 f.sew two;
      vs1 = λ form. lowest_or_apart vt i.vd i.vs1 f.sew (f.sources.vs1 vt.sew form refl);
    }

-- ---- classes of other widths

-- what an instruction has that makes a group of elements of d bits from groups of elements of `two` bits in vs2 and of `one`
-- bits in vs1
abbrev pub MadeFrom : Class → VInstr → Vtype → (d two one : ℕ) → Type 0
MadeFrom class i vt d two one = GroupWritten class i vt d × ReadBeside vt d i.vd two i.vs2 × (i.form ≡ V → ReadBeside vt d i.vd one i.vs1)

pub widening-groups : Follows widening (λ i vt. MadeFrom widening i vt (2 * vt.sew) vt.sew vt.sew)
unfolding row_of
widening-groups i vt vstart setting legal class =
    let f = legal_group_law widening i vt vstart setting legal class (2 * vt.sew) refl in
    (f, f.sources.vs2 vt.sew refl, λ form. f.sources.vs1 vt.sew form refl)

pub narrowing-groups : Follows narrowing (λ i vt. MadeFrom narrowing i vt vt.sew (2 * vt.sew) vt.sew)
unfolding row_of
narrowing-groups i vt vstart setting legal class =
    let f = legal_group_law narrowing i vt vstart setting legal class vt.sew refl in
    (f, f.sources.vs2 (2 * vt.sew) refl, λ form. f.sources.vs1 vt.sew form refl)

pub plain-groups : Follows plain (λ i vt. MadeFrom plain i vt vt.sew vt.sew vt.sew)
unfolding row_of
plain-groups i vt vstart setting legal class =
    let f = legal_group_law plain i vt vstart setting legal class vt.sew refl in
    (f, f.sources.vs2 vt.sew refl, λ form. f.sources.vs1 vt.sew form refl)

-- of an extension by four SEW is 32
pub extension-groups : Follows extension_by_four (λ i vt. GroupWritten extension_by_four i vt vt.sew × ReadBeside vt vt.sew i.vd (vt.sew / 4) i.vs2 × (vt.sew ≡ 32))
unfolding row_of
extension-groups i vt vstart setting legal class =
    let f = legal_group_law extension_by_four i vt vstart setting legal class vt.sew refl in
    let source = f.sources.vs2 (vt.sew / 4) refl in
    let least : 8 ≤ vt.sew / 4 = width-least (vt.sew / 4) source.width in
    (f, source, at_width (λ (w : ℕ). 8 ≤ w / 4 → w ≡ 32) (λ l. absurd (omega arith)) (λ l. absurd (omega arith)) (λ l. refl) vt.sew f.sew least)
