-- How a destination and a source that overlap legally share registers.
use Rattle.std.proofs.Common.{◌≡◌, ℕ, suc, ◌+◌, ◌-◌, ◌*◌, ◌/◌, ◌%◌, ◌<◌, ◌≤◌, Bool, true, false, not, ◌&&◌, ◌||◌, ◌==◌, nat_le, nat_lt, ap, arith, ◌⊎◌, inl, inr, ⊎_elim}
use Rattle.std.proofs.lemmas.Bool.{and_parts, or_cases, leb-true, ltb-true, cases_lt, false≢true, not-true}
use Rattle.std.proofs.lemmas.Bool.Decides.{nat_tests}
use Rattle.std.proofs.lemmas.Nat.{div-add-mod'}
use Rattle.std.proofs.Math.Nat.{mul-le-mul_right, mul-le-mul_left, lt_of_mul-lt-mul_right}
use Rattle.vtype_cfg.specs.declared.vtype.Vtype.{Vtype}
use Rattle.vtype_cfg.specs.Settings.{is_supported}
use Rattle.vtype_cfg.specs.Groups.{Operand, emul_of, mask_at, groups_at, registers, overlap}
use Rattle.vtype_cfg.specs.Classes.{Overlap, in_any_way, by_width, nowhere}
use Rattle.vtype_cfg.specs.Legality.{may_overlap_by_width, overlaps_legally}
use Rattle.legal_groups.specs.Facts.{IsElementWidth, registers_for, Group, is_read_for, ReadBeside, ReadForMask}
use Rattle.legal_groups.proofs.Widths.{width-least, even}

-- ---- arithmetic

-- two aligned groups of one size are the same or apart
pub same_or_apart : (n a b : ℕ) → 0 < n → a % n ≡ 0 → b % n ≡ 0 → (a ≡ b) ⊎ ((a + n ≤ b) ⊎ (b + n ≤ a))
same_or_apart n a b some p q =
    let x : a / n * n + a % n ≡ a = div-add-mod' a n in
    let y : b / n * n + b % n ≡ b = div-add-mod' b n in
    ⊎_elim
    (λ (l : a / n < b / n). let m : suc (a / n) * n ≤ b / n * n = mul-le-mul_right n l in inr (inl (omega arith)))
    (λ (l : b / n ≤ a / n).
    ⊎_elim
    (λ (k : b / n < a / n). let m : suc (b / n) * n ≤ a / n * n = mul-le-mul_right n k in inr (inr (omega arith)))
    (λ (k : a / n ≤ b / n). let e : a / n ≡ b / n = omega arith in let m : a / n * n ≡ b / n * n = ap (λ (z : ℕ). z * n) e in inl (omega arith))
    (cases_lt (b / n) (a / n)))
    (cases_lt (a / n) (b / n))

-- A register k that is read for register g is no earlier one, where elements of the destination are no wider.
narrow-ahead : (d s g k : ℕ) → d ≤ s → g * s < suc k * d → g ≤ k
narrow-ahead d s g k narrow read =
    let m : suc k * d ≤ suc k * s = mul-le-mul_left (suc k) narrow in
    let l : g < suc k = lt_of_mul-lt-mul_right s (omega arith) in
    omega arith

-- Where they are wider, the registers from k on are no more than those from g on.
wide-ahead : (d s n m g k : ℕ) → s ≤ d → m * d ≤ n * s → k < m → g * s < suc k * d → g + m ≤ n + k
wide-ahead d s n m g k wide even inside read =
    ⊎_elim
    (λ (l : n + k < g + m).
    let more : suc (n + k) * s ≤ (g + m) * s = mul-le-mul_right s l in
    let j = m - suc k in
    let rest : j + suc k ≡ m = omega arith in
    let split : (j + suc k) * d ≡ m * d = ap (λ (z : ℕ). z * d) rest in
    let split_source : (j + suc k) * s ≡ m * s = ap (λ (z : ℕ). z * s) rest in
    let least : j * s ≤ j * d = mul-le-mul_left j wide in
    absurd (omega arith))
    (λ (l : g + m ≤ n + k). l)
    (cases_lt (n + k) (g + m))

-- ---- overlaps

-- Not every overlap is legal.
abbrev pub is_limited : Overlap → Bool
is_limited in_any_way = false
is_limited by_width = true
is_limited nowhere = true

-- Where that is so, a destination and a source share no register, or they share some as their widths allow.
apart_or_allowed : (o : Overlap) (d s : Operand) → is_limited o ≡ true → overlaps_legally o d s ≡ true → (overlap (registers d) (registers s) ≡ false) ⊎ (may_overlap_by_width d s ≡ true)
unfolding overlaps_legally
apart_or_allowed in_any_way d s limited legally = absurd (false≢true limited)
apart_or_allowed by_width d s limited legally =
    ⊎_elim
    (λ (no : not (overlap (registers d) (registers s)) ≡ true). inl (not-true _ no))
    (λ (may : may_overlap_by_width d s ≡ true). inr may)
    (or_cases _ _ legally)
apart_or_allowed nowhere d s limited legally = inl (not-true _ legally)

-- groups that share no register
apart : (vd n first m : ℕ) → (nat_lt vd (first + 1 * m) && nat_lt first (vd + 1 * n)) ≡ false → (first + m ≤ vd) ⊎ (vd + n ≤ first)
apart vd n first m off = grind (arith, nat_tests)

-- how widths allow that groups share registers
abbrev Allowed : (vd n d first m s emul8 : ℕ) → Type 0
Allowed vd n d first m s emul8 = (d ≡ s) ⊎ (((d < s) × (vd ≡ first)) ⊎ ((s < d) × (first + m ≡ vd + n) × (vd ≤ first) × (nat_le 8 emul8 ≡ true)))

allowed : (vd n d first m s emul8 : ℕ)
    → ((d == s) || (nat_lt d s && ((vd == first) && nat_le (vd + 1 * n) (first + 1 * m))) || (nat_lt s d && ((first + 1 * m == vd + 1 * n) && nat_le vd first) && nat_le 8 emul8)) ≡ true
    → Allowed vd n d first m s emul8
allowed vd n d first m s emul8 may = grind (arith, nat_tests)

-- what follows of a register that is read
record Read (d s first n g r : ℕ) : Type 0 where
  from : first ≤ r
  inside : r < first + n
  ends : g * s < suc (r - first) * d

read-parts : (d s first n g r : ℕ) → is_read_for d s first n g r ≡ true → Read d s first n g r
read-parts d s first n g r read =
    let a = and_parts _ _ read in
    let b = and_parts _ _ a.0 in
    record { from = leb-true first r b.0; inside = ltb-true r (first + n) b.1; ends = ltb-true (g * s) (suc (r - first) * d) (and_parts _ _ a.1).1 }

-- register r is none of the first g registers from vd on
abbrev IsSpared : (vd g r : ℕ) → Type 0
IsSpared vd g r = (r < vd) ⊎ (vd + g ≤ r)

-- a register of a group is none of a group that is apart
spared-apart : (vd n first m g r : ℕ) → (first + m ≤ vd) ⊎ (vd + n ≤ first) → g < n → first ≤ r → r < first + m → IsSpared vd g r
spared-apart vd n first m g r off below from inside = grind arith

-- a register of a group that begins where the destination does, whose elements are no narrower
spared-lowest : (d s vd first m g r : ℕ) → d ≤ s → vd ≡ first → Read d s first m g r → IsSpared vd g r
spared-lowest d s vd first m g r narrow same read = let l : g ≤ r - first = narrow-ahead d s g (r - first) narrow read.ends in let from = read.from in inr (omega arith)

-- a register of a group that ends where the destination does, whose elements are narrower
spared-highest : (d s vd n first m g r : ℕ) → s < d → first + m ≡ vd + n → vd ≤ first → m * d ≤ n * s → Read d s first m g r → IsSpared vd g r
spared-highest d s vd n first m g r wide ends from even read =
    let start = read.from in
    let inside = read.inside in
    let k = r - first in
    let is : first + k ≡ r = omega arith in
    let l : g + m ≤ n + k = wide-ahead d s n m g k (omega arith) even (omega arith) read.ends in
    inr (omega arith)

module _ (vt : Vtype) (d vd s first : ℕ) (written : IsElementWidth d) (width : IsElementWidth s) (dest : Group (registers_for vt d) vd) (source : Group (registers_for vt s) first) where
  abbrev n : ℕ
  n = registers_for vt d

  abbrev m : ℕ
  m = registers_for vt s

  spared-by_width : is_supported vt ≡ true → may_overlap_by_width (groups_at vt 1 d vd) (groups_at vt 1 s first) ≡ true → (g r : ℕ) → g < n → Read d s first m g r → IsSpared vd g r
  unfolding may_overlap_by_width registers
  spared-by_width setting may g r below read =
      ⊎_elim
      (λ (same : d ≡ s).
      let e : n ≡ m = ap (registers_for vt) same in
      ⊎_elim
      (λ (at : vd ≡ first). spared-lowest d s vd first m g r (omega arith) at read)
      (λ (off : (vd + n ≤ first) ⊎ (first + n ≤ vd)). spared-apart vd n first m g r (grind arith) below read.from read.inside)
      (same_or_apart n vd first dest.some dest.aligned (rw e source.aligned)))
      (λ (other : ((d < s) × (vd ≡ first)) ⊎ ((s < d) × (first + m ≡ vd + n) × (vd ≤ first) × (nat_le 8 (emul_of vt s) ≡ true))).
      ⊎_elim
      (λ (low : (d < s) × (vd ≡ first)). spared-lowest d s vd first m g r (omega arith) low.1 read)
      (λ (high : (s < d) × (first + m ≡ vd + n) × (vd ≤ first) × (nat_le 8 (emul_of vt s) ≡ true)).
      spared-highest d s vd n first m g r high.0 high.1 high.2 (even vt s d width written setting high.3) read)
      other)
      (allowed vd n d first m s (emul_of vt s) may)

  pub read-beside : is_supported vt ≡ true → (o : Overlap) → is_limited o ≡ true → overlaps_legally o (groups_at vt 1 d vd) (groups_at vt 1 s first) ≡ true → ReadBeside vt d vd s first
  unfolding registers
  read-beside setting o limited legally = record {
    width = width;
    place = source;
    unwritten = λ g r below is.
        let read = read-parts d s first m g r is in
        let inside : r < first + m = read.inside in
        let room : first + m ≤ 32 = source.room in (
          omega arith,
          ⊎_elim
              (λ (off : overlap (registers (groups_at vt 1 d vd)) (registers (groups_at vt 1 s first)) ≡ false). spared-apart vd n first m g r (apart vd n first m off) below read.from read.inside)
              (λ (may : may_overlap_by_width (groups_at vt 1 d vd) (groups_at vt 1 s first) ≡ true). spared-by_width setting may g r below read)
              (apart_or_allowed o (groups_at vt 1 d vd) (groups_at vt 1 s first) limited legally),
        );
  }

-- a source of a mask
pub read-for_mask : (vt : Vtype) (vd s first : ℕ) → IsElementWidth s → Group (registers_for vt s) first → (o : Overlap) → is_limited o ≡ true → overlaps_legally o (mask_at vd) (groups_at vt 1 s first) ≡ true → ReadForMask vt vd s first
unfolding registers may_overlap_by_width
read-for_mask vt vd s first width source o limited legally = record {
  width = width;
  place = source;
  lowest = λ g below at.
      let m = registers_for vt s in
      let least : 8 ≤ s = width-least s width in
      ⊎_elim
      (λ (off : overlap (registers (mask_at vd)) (registers (groups_at vt 1 s first)) ≡ false).
      let away = apart vd 1 first m off in grind arith)
      (λ (may : may_overlap_by_width (mask_at vd) (groups_at vt 1 s first) ≡ true).
      let how : Allowed vd 1 1 first m s (emul_of vt s) = allowed vd 1 1 first m s (emul_of vt s) may in grind arith)
      (apart_or_allowed o (mask_at vd) (groups_at vt 1 s first) limited legally);
}
