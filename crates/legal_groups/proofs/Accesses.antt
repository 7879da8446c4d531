-- What the rules of legality say of loads and stores.
use Rattle.std.proofs.Common.{◌≡◌, ℕ, zero, suc, ◌+◌, ◌*◌, ◌/◌, ◌<◌, ◌≤◌, max, Bool, true, false, not, ◌&&◌, ◌||◌, ◌==◌, nat_le, nat_lt, IsTrue, if◌then◌else◌, refl, sym, ap, arith, ◌⊎◌, inl, inr, ⊎_elim}
use Rattle.std.proofs.lemmas.Bool.{or_cases, lt-ltb, false≢true, not-true}
use Rattle.std.proofs.lemmas.Bool.Decides.{nat_tests}
use Rattle.std.proofs.Math.Nat.{mul-le-mul_right}
use Rattle.rvv_decode.specs.declared.instruction.VInstr.{VInstr}
use Rattle.vtype_cfg.specs.declared.vtype.Vtype.{Vtype}
use Rattle.vtype_cfg.specs.Settings.{is_vill_or_supported}
use Rattle.vtype_cfg.specs.Groups.{emul_of, register_at, groups_at, whole_at, registers, overlap}
use Rattle.vtype_cfg.specs.Classes.{Class, load, store, indexed_load, indexed_store, whole_load, whole_store, mask_load, mask_store, by_width, nowhere, row_of, needs_no_setting, may_write_mask, overlap_of}
use Rattle.vtype_cfg.specs.Legality.{has_setting, is_placed, may_overlap_by_width, overlaps_legally, spares_mask}
use Rattle.legal_groups.specs.Facts.{registers_for, FieldGroups, IndexBeside, WholeRoom, MaskRoom, LegalAccessLaw}
use Rattle.legal_groups.proofs.Widths.{in_force, sew-width}
use Rattle.legal_groups.proofs.Overlaps.{same_or_apart}
use Rattle.legal_groups.proofs.Rules.{rules, in_setting, OperandLies, operand-lies}
use Rattle.legal_groups.proofs.Laws.{obeyed}

-- ---- operands

some-group : (fields n : ℕ) → 0 < fields → 0 < fields * max 1 n
some-group fields n some = let m : 1 * max 1 n ≤ fields * max 1 n = mul-le-mul_right (max 1 n) some in omega arith

-- groups that spare the mask are not at v0
spared : (class : Class) (vm : Bool) (vt : Vtype) (fields w vd : ℕ) → may_write_mask class ≡ false → 0 < fields → spares_mask class vm (groups_at vt fields w vd) ≡ true → vm ≡ false → 0 < vd
unfolding spares_mask registers
spared class vm vt fields w zero never some spare masked =
    let n : 0 < fields * registers_for vt w = some-group fields (emul_of vt w / 8) some in
    let t : nat_lt 0 (0 + fields * registers_for vt w) ≡ true = lt-ltb 0 (0 + fields * registers_for vt w) (omega arith) in
    absurd (false≢true (rw (masked, never, t) at spare))
spared class vm vt fields w (suc vd) never some spare masked = omega arith

field-groups : (class : Class) (i : VInstr) (vt : Vtype) (d : ℕ) → needs_no_setting class ≡ false → IsTrue (is_vill_or_supported vt) → has_setting class vt ≡ true → is_placed (groups_at vt i.nf d i.vd) ≡ true → FieldGroups i vt d
field-groups class i vt d needs setting has is =
    let there = in_setting class vt needs has in
    let p = operand-lies (groups_at vt i.nf d i.vd) is in
    record { supported = in_force vt setting there; vill = there; sew = sew-width vt setting there; few = p.few; room = p.room }

whole-room : (i : VInstr) (vt : Vtype) → is_placed (whole_at i.nf i.vd) ≡ true → WholeRoom i vt
whole-room i vt is = let p = (operand-lies (whole_at i.nf i.vd) is).room in omega arith

mask-room : (class : Class) (i : VInstr) (vt : Vtype) → needs_no_setting class ≡ false → has_setting class vt ≡ true → is_placed (register_at 8 i.vd) ≡ true → MaskRoom i vt
mask-room class i vt needs has is = let p = (operand-lies (register_at 8 i.vd) is).room in (in_setting class vt needs has, omega arith)

-- ---- indices of loads

-- the registers of the fields and those of the indices share none
apart : (vd n first m : ℕ) → (nat_lt vd (first + m) && nat_lt first (vd + n)) ≡ false → (first + m ≤ vd) ⊎ (vd + n ≤ first)
apart vd n first m off = grind (arith, nat_tests)

abbrev Allowed : (vd n d first m s emul8 : ℕ) → Type 0
Allowed vd n d first m s emul8 = (d ≡ s) ⊎ (((d < s) × (vd ≡ first)) ⊎ ((s < d) × (first + m ≡ vd + n) × (8 ≤ emul8)))

allowed : (vd n d first m s emul8 : ℕ)
    → ((d == s) || (nat_lt d s && ((vd == first) && nat_le (vd + n) (first + m))) || (nat_lt s d && ((first + m == vd + n) && nat_le vd first) && nat_le 8 emul8)) ≡ true
    → Allowed vd n d first m s emul8
allowed vd n d first m s emul8 may = grind (arith, nat_tests)

-- one group, and the indices
one-beside : (vt : Vtype) (vd s first : ℕ) → OperandLies (groups_at vt 1 vt.sew vd) → OperandLies (groups_at vt 1 s first) → may_overlap_by_width (groups_at vt 1 vt.sew vd) (groups_at vt 1 s first) ≡ true
    → (first + registers_for vt s ≤ vd) ⊎ ((vd + 1 * registers_for vt vt.sew ≤ first) ⊎ (((first ≡ vd) × (vt.sew ≤ s)) ⊎ ((first + registers_for vt s ≡ vd + registers_for vt vt.sew) × (s ≤ vt.sew) × (8 ≤ emul_of vt s))))
unfolding may_overlap_by_width registers
one-beside vt vd s first dest index may =
    let n = registers_for vt vt.sew in
    let m = registers_for vt s in
    let how : Allowed vd (1 * n) vt.sew first (1 * m) s (emul_of vt s) = allowed vd (1 * n) vt.sew first (1 * m) s (emul_of vt s) may in
    ⊎_elim
    (λ (same : vt.sew ≡ s).
    let e : n ≡ m = ap (registers_for vt) same in
    ⊎_elim
    (λ (at : vd ≡ first). inr (inr (inl (sym at, omega arith))))
    (λ (off : (vd + n ≤ first) ⊎ (first + n ≤ vd)). ⊎_elim (λ (l : vd + n ≤ first). inr (inl (omega arith))) (λ (l : first + n ≤ vd). inl (omega arith)) off)
    (same_or_apart n vd first (omega arith) dest.aligned (rw e index.aligned)))
    (λ (other : ((vt.sew < s) × (vd ≡ first)) ⊎ ((s < vt.sew) × (first + 1 * m ≡ vd + 1 * n) × (8 ≤ emul_of vt s))).
    ⊎_elim
    (λ (low : (vt.sew < s) × (vd ≡ first)). let l = low.0 in inr (inr (inl (sym low.1, omega arith))))
    (λ (high : (s < vt.sew) × (first + 1 * m ≡ vd + 1 * n) × (8 ≤ emul_of vt s)). let l = high.0 in let e = high.1 in inr (inr (inr (omega arith, omega arith, high.2))))
    other)
    how

-- fields that share no register with the indices
none-shared : (vt : Vtype) (fields d vd s first : ℕ) → overlap (registers (groups_at vt fields d vd)) (registers (groups_at vt 1 s first)) ≡ false → (first + registers_for vt s ≤ vd) ⊎ (vd + fields * registers_for vt d ≤ first)
unfolding registers
none-shared vt fields d vd s first off =
    ⊎_elim (λ (l : first + 1 * registers_for vt s ≤ vd). inl (omega arith)) (λ (l : vd + fields * registers_for vt d ≤ first). inr l)
    (apart vd (fields * registers_for vt d) first (1 * registers_for vt s) off)

index-beside : (i : VInstr) (vt : Vtype) → 0 < i.nf → is_placed (groups_at vt i.nf vt.sew i.vd) ≡ true → is_placed (groups_at vt 1 i.eew i.vs2) ≡ true
    → overlaps_legally (overlap_of indexed_load i) (groups_at vt i.nf vt.sew i.vd) (groups_at vt 1 i.eew i.vs2) ≡ true → IndexBeside i vt
unfolding overlap_of overlaps_legally
index-beside i vt some dest index legally = by i.nf refl
  where
    by : (n : ℕ) → i.nf ≡ n → IndexBeside i vt
    by zero e = absurd (omega arith)
    by (suc zero) e =
        let may : (not (overlap (registers (groups_at vt 1 vt.sew i.vd)) (registers (groups_at vt 1 i.eew i.vs2))) || may_overlap_by_width (groups_at vt 1 vt.sew i.vd) (groups_at vt 1 i.eew i.vs2)) ≡ true = rw e at legally in
        ⊎_elim
        (λ (off : not (overlap (registers (groups_at vt 1 vt.sew i.vd)) (registers (groups_at vt 1 i.eew i.vs2))) ≡ true).
        ⊎_elim (λ (l : i.vs2 + registers_for vt i.eew ≤ i.vd). inl l) (λ (l : i.vd + 1 * registers_for vt vt.sew ≤ i.vs2). inr (inl (rw e l))) (none-shared vt 1 vt.sew i.vd i.eew i.vs2 (not-true _ off)))
        (λ (on : may_overlap_by_width (groups_at vt 1 vt.sew i.vd) (groups_at vt 1 i.eew i.vs2) ≡ true).
        one (one-beside vt i.vd i.eew i.vs2 (operand-lies (groups_at vt 1 vt.sew i.vd) (rw e at dest)) (operand-lies (groups_at vt 1 i.eew i.vs2) index) on))
        (or_cases _ _ may)
      where
        one : ((i.vs2 + registers_for vt i.eew ≤ i.vd) ⊎ ((i.vd + 1 * registers_for vt vt.sew ≤ i.vs2) ⊎ (((i.vs2 ≡ i.vd) × (vt.sew ≤ i.eew)) ⊎ ((i.vs2 + registers_for vt i.eew ≡ i.vd + registers_for vt vt.sew) × (i.eew ≤ vt.sew) × (8 ≤ emul_of vt i.eew)))))
            → IndexBeside i vt
        one (inl l) = inl l
        one (inr (inl l)) = inr (inl (rw e l))
        one (inr (inr (inl h))) = inr (inr (inl (e, h.0, h.1)))
        one (inr (inr (inr h))) = inr (inr (inr (e, h.0, h.1, h.2)))
    by (suc (suc n)) e =
        let off : not (overlap (registers (groups_at vt i.nf vt.sew i.vd)) (registers (groups_at vt 1 i.eew i.vs2))) ≡ true = nowhere-alone (nat_lt 1 i.nf) (rw e (lt-ltb 1 (suc (suc n)) (omega arith))) legally in
        ⊎_elim (λ (l : i.vs2 + registers_for vt i.eew ≤ i.vd). inl l) (λ (l : i.vd + i.nf * registers_for vt vt.sew ≤ i.vs2). inr (inl l)) (none-shared vt i.nf vt.sew i.vd i.eew i.vs2 (not-true _ off))
      where
        nowhere-alone : (b : Bool) → b ≡ true → overlaps_legally (if b then nowhere else by_width) (groups_at vt i.nf vt.sew i.vd) (groups_at vt 1 i.eew i.vs2) ≡ true
            → not (overlap (registers (groups_at vt i.nf vt.sew i.vd)) (registers (groups_at vt 1 i.eew i.vs2))) ≡ true
        nowhere-alone true many h = h
        nowhere-alone false many h = absurd (false≢true many)

-- ---- the law

pub legal_access_law : LegalAccessLaw
unfolding row_of needs_no_setting may_write_mask
legal_access_law = record {
  loads = λ i vt vstart setting legal class some.
      let r = obeyed load i vt vstart (groups_at vt i.nf i.eew i.vd) legal class refl in
      (spared load i.vm vt i.nf i.eew i.vd refl some r.spares, field-groups load i vt i.eew refl setting r.setting r.place);
  stores = λ i vt vstart setting legal class some.
      let r = rules store i vt vstart legal class in
      field-groups store i vt i.eew refl setting r.setting r.vs3;
  indexed_loads = λ i vt vstart setting legal class some.
      let r = obeyed indexed_load i vt vstart (groups_at vt i.nf vt.sew i.vd) legal class refl in
      let x = r.sources.vs2 i.eew refl in
      let p = operand-lies (groups_at vt 1 i.eew i.vs2) x.0 in
      let room : i.vs2 + 1 * registers_for vt i.eew ≤ 32 = p.room in (
        (spared indexed_load i.vm vt i.nf vt.sew i.vd refl some r.spares, field-groups indexed_load i vt vt.sew refl setting r.setting r.place),
        (omega arith, index-beside i vt some r.place x.0 x.1),
      );
  indexed_stores = λ i vt vstart setting legal class some.
      let r = rules indexed_store i vt vstart legal class in
      let p = operand-lies (groups_at vt 1 i.eew i.vs2) r.vs2 in
      let room : i.vs2 + 1 * registers_for vt i.eew ≤ 32 = p.room in
      (field-groups indexed_store i vt vt.sew refl setting r.setting r.vs3, omega arith);
  whole_loads = λ i vt vstart setting legal class some. whole-room i vt (obeyed whole_load i vt vstart (whole_at i.nf i.vd) legal class refl).place;
  whole_stores = λ i vt vstart setting legal class some. whole-room i vt (rules whole_store i vt vstart legal class).vs3;
  mask_loads = λ i vt vstart setting legal class some.
      let r = obeyed mask_load i vt vstart (register_at 8 i.vd) legal class refl in
      mask-room mask_load i vt refl r.setting r.place;
  mask_stores = λ i vt vstart setting legal class some.
      let r = rules mask_store i vt vstart legal class in
      mask-room mask_store i vt refl r.setting r.vs3;
}
