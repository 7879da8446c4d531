-- The access of a legal instruction lies in the registers, and a load reads what it needs before it writes over it.
use Rattle.std.proofs.Common.{◌≡◌, ℕ, ◌+◌, ◌-◌, ◌*◌, ◌/◌, ◌%◌, ◌<◌, ◌≤◌, max, Bool, true, false, not, nat_le, ◌&&◌, ◌||◌, ◌==◌, IsTrue, refl, sym, ap, arith, ◌⊎◌, inl, inr, ⊎_elim}
use Rattle.std.specs.List.{list_all}
use Rattle.std.proofs.lemmas.Bool.{and_parts, leb-true, eqb-true, le-leb, not-true, cases_Bool, false≢true}
use Rattle.std.proofs.Math.Nat.{mul-le-mul_right, mul-le-mul_left, div-le_of_le-mul}
use Rattle.std.proofs.lemmas.Nat.{div-mul-add, div-add-mod'}
use Rattle.element_ops.specs.Elements.{IsSize}
use Rattle.rvv_decode.specs.Ranges.{IsInRange}
use Rattle.rvv_decode.specs.declared.instruction.MemoryOp.{MemoryOp}
use Rattle.rvv_decode.specs.declared.instruction.MemoryOp.TheVariants.{LoadUnitStride, LoadWholeRegister, LoadMask, LoadFaultOnlyFirst, LoadIndexedUnordered, LoadStrided, LoadIndexedOrdered, StoreUnitStride, StoreWholeRegister, StoreMask, StoreIndexedUnordered, StoreStrided, StoreIndexedOrdered}
use Rattle.rvv_decode.specs.declared.instruction.VInstr.{VInstr}
use Rattle.rvv_decode.specs.declared.instruction.VOp.TheVariants.{Memory}
use Rattle.vtype_cfg.specs.declared.configuration.Cfg.{Cfg}
use Rattle.vtype_cfg.specs.declared.vtype.Vtype.{Vtype}
use Rattle.vtype_cfg.specs.Classes.{class_of, memory_class, needs_no_setting}
use Rattle.vtype_cfg.specs.Groups.{emul_of}
use Rattle.vtype_cfg.specs.Legality.{is_legal, obeys_rules}
use Rattle.vtype_cfg.specs.Settings.{Setting, settings, is_supported, is_vill_or_supported, is_legal_vlen, is_valid, vlmax}
use Rattle.vtype_cfg.proofs.Lengths.{vlen_from}
use Rattle.vtype_cfg.proofs.Supported.{at_supported, vlen_bounded}
use Rattle.legal_groups.specs.Facts.{IsElementWidth, registers_for, SparesMask, FieldGroups, IndexBeside, IndexRoom, WholeRoom, MaskRoom}
use Rattle.legal_groups.proofs.Accesses.{legal_access_law}
use Rattle.legal_groups.proofs.Rules.{in_setting}
use Rattle.legal_groups.proofs.Valid.{held}
use Rattle.legal_groups.proofs.Widths.{vlmax-short}
use Rattle.rvv_meaning.specs.Elementwise.{size_of}
use Rattle.rvv_meaning.specs.VectorAccesses.{of_elements, of_registers, access_of, shape_of, trims_of, is_store}
use Rattle.rvv_meaning.specs.declared.accesses.Access.{Access}
use Rattle.rvv_meaning.specs.declared.accesses.Offset.{Offset}
use Rattle.rvv_meaning.specs.declared.accesses.Offset.TheVariants.{Step, Index}
use Rattle.vec_mem.specs.Steps.{Fits, FitsLoad, IndexFits, OffsetFits, SparesIndex}
use Rattle.vec_mem.proofs.Lengths.{length-held}
use Rattle.vec_mem.proofs.Overlaps.{LiesLegally, spared}

-- ---- widths

width-size : (w : ℕ) → IsElementWidth w → IsSize (w / 8) × (8 * (w / 8) ≡ w)
width-size w is =
    ⊎_elim
    (λ (e : w ≡ 8). rw e (inl refl, refl))
    (λ (other : (w ≡ 16) ⊎ (w ≡ 32)). ⊎_elim (λ (e : w ≡ 16). rw e (inr (inl refl), refl)) (λ (e : w ≡ 32). rw e (inr (inr refl), refl)) other)
    is

width-from : (w : ℕ) → IsElementWidth w → 8 ≤ w
width-from w is =
    ⊎_elim
    (λ (e : w ≡ 8). omega arith)
    (λ (other : (w ≡ 16) ⊎ (w ≡ 32)). ⊎_elim (λ (e : w ≡ 16). omega arith) (λ (e : w ≡ 32). omega arith) other)
    is

-- ---- settings

-- A group with an EMUL of at least 1 is full of the elements up to the greatest vector length, and so is one of elements that
-- are no narrower.
abbrev fills : (w sew lmul8 : ℕ) → Bool
fills w sew lmul8 = max 1 (lmul8 * w / sew / 8) * (8 * sew) == lmul8 * w

abbrev is_full : (w sew lmul8 : ℕ) → Bool
is_full w sew lmul8 = not (nat_le 8 (lmul8 * w / sew) && nat_le w sew) || (fills w sew lmul8 && fills sew sew lmul8)

all-full : (w : ℕ) → IsElementWidth w → list_all (λ (s : Setting). is_full w s.sew s.lmul8) settings ≡ true
unfolding settings
all-full w is =
    ⊎_elim
    (λ (e : w ≡ 8). rw e refl)
    (λ (other : (w ≡ 16) ⊎ (w ≡ 32)). ⊎_elim (λ (e : w ≡ 16). rw e refl) (λ (e : w ≡ 32). rw e refl) other)
    is

-- of m registers that are full, by their elements of x bytes
count-full : (m x n sew lmul8 : ℕ) → IsSize x → 0 < sew → m * (8 * sew) ≡ lmul8 * (8 * x) → m * (4 * n) ≡ lmul8 * (32 * n) / (8 * sew) * x
count-full m x n sew lmul8 is some =
    ⊎_elim
    (λ (e : x ≡ 1). rw e (λ full. let s : m * (8 * sew) * (4 * n) ≡ lmul8 * 8 * (4 * n) = ap (λ (z : ℕ). z * (4 * n)) full in rw (quotient (4 * (m * n)) (omega arith)) (omega arith)))
    (λ (other : (x ≡ 2) ⊎ (x ≡ 4)).
    ⊎_elim
    (λ (e : x ≡ 2). rw e (λ full. let s : m * (8 * sew) * (4 * n) ≡ lmul8 * 16 * (4 * n) = ap (λ (z : ℕ). z * (4 * n)) full in rw (quotient (2 * (m * n)) (omega arith)) (omega arith)))
    (λ (e : x ≡ 4). rw e (λ full. let s : m * (8 * sew) * (4 * n) ≡ lmul8 * 32 * (4 * n) = ap (λ (z : ℕ). z * (4 * n)) full in rw (quotient (m * n) (omega arith)) (omega arith)))
    other)
    is
  where
    quotient : (k : ℕ) → lmul8 * (32 * n) ≡ k * (8 * sew) + 0 → lmul8 * (32 * n) / (8 * sew) ≡ k
    quotient k e = rw e (div-mul-add k (8 * sew) 0 (omega arith))

-- the elements of x bytes that whole registers hold, counted by the bits of a register
whole-count : (f n x : ℕ) → IsSize x → f * (32 * n) / (8 * x) ≡ f * (4 * n) / x
whole-count f n x is =
    ⊎_elim
    (λ (e : x ≡ 1). rw e (same 1 8 (f * (4 * n)) (omega arith) (omega arith) (omega arith) (omega arith)))
    (λ (other : (x ≡ 2) ⊎ (x ≡ 4)).
    ⊎_elim
    (λ (e : x ≡ 2). rw e (same 2 16 (f * (2 * n)) (omega arith) (omega arith) (omega arith) (omega arith)))
    (λ (e : x ≡ 4). rw e (same 4 32 (f * n) (omega arith) (omega arith) (omega arith) (omega arith)))
    other)
    is
  where
    same : (y z k : ℕ) → 0 < y → 0 < z → f * (32 * n) ≡ k * z + 0 → f * (4 * n) ≡ k * y + 0 → f * (32 * n) / z ≡ f * (4 * n) / y
    same y z k some_y some_z p q = rw (p, q, div-mul-add k z 0 some_z, div-mul-add k y 0 some_y) refl

-- ---- configurations

none-under_vill : (c : Cfg) → c.vtype.vill ≡ true → vlmax c.vtype c.vlen ≡ 0
unfolding vlmax
none-under_vill c none = rw none refl

pub length-short : (c : Cfg) → IsTrue (is_valid c) → c.vl ≤ c.vlen
length-short c valid =
    let all = held c valid in
    let length = all.length in
    ⊎_elim
    (λ (none : c.vtype.vill ≡ true). let zero_length = none-under_vill c none in omega arith)
    (λ (there : c.vtype.vill ≡ false). let short = vlmax-short c.vtype c.vlen all.setting there in omega arith)
    (cases_Bool c.vtype.vill)

-- a load or a store that needs a setting has one
pub has-setting : (i : VInstr) (vt : Vtype) (vstart : ℕ) (op : MemoryOp) → is_legal i vt vstart ≡ true → i.op ≡ Memory op → needs_no_setting (memory_class op) ≡ false → vt.vill ≡ false
unfolding is_legal obeys_rules
has-setting i vt vstart op legal is needs =
    let class = memory_class op in
    let same : class_of i.op ≡ class = ap class_of is in
    let h : obeys_rules class i vt vstart ≡ true = rw same at legal in
    let a = and_parts _ _ h in
    let b = and_parts _ _ a.0 in
    in_setting class vt needs (and_parts _ _ b.0).0

-- a legal instruction on a valid configuration, of registers of n words
module _ (i : VInstr) (c : Cfg) (n : ℕ) (valid : IsTrue (is_valid c)) (words : c.vlen ≡ 32 * n) (range : IsInRange i) (some : 0 < i.nf) where
  bytes : size_of c ≡ 4 * n
  bytes = omega arith

  most : ℕ
  most = vlmax c.vtype c.vlen

  vlen-least : 32 ≤ c.vlen
  vlen-least = vlen_from c.vlen (held c valid).vlen

  most-short : c.vtype.vill ≡ false → vlmax c.vtype c.vlen ≤ c.vlen
  most-short there = vlmax-short c.vtype c.vlen (held c valid).setting there

  -- the elements up to the greatest length lie in a group of elements of a width
  most-held : (w : ℕ) → IsElementWidth w → is_supported c.vtype ≡ true → c.vtype.vill ≡ false → vlmax c.vtype c.vlen ≤ registers_for c.vtype w * size_of c / (w / 8)
  most-held w is supported there =
      let size = width-size w is in
      rw (bytes, words) (rw size.1 at (length-held c.vtype n (w / 8) size.0 supported there))

  most-room : (w : ℕ) → IsElementWidth w → is_supported c.vtype ≡ true → c.vtype.vill ≡ false → vlmax c.vtype c.vlen * (w / 8) ≤ registers_for c.vtype w * size_of c
  most-room w is supported there =
      let x = w / 8 in
      let all = registers_for c.vtype w * size_of c in
      let scaled : vlmax c.vtype c.vlen * x ≤ all / x * x = mul-le-mul_right x (most-held w is supported there) in
      let parts : all / x * x + all % x ≡ all = div-add-mod' all x in
      omega arith

  -- ---- vl elements, in groups of a width

  module _ (width : ℕ) (is : IsElementWidth width) (groups : FieldGroups i c.vtype width) (trims : Bool) (offset : Offset) where
    abbrev access : Access
    access = of_elements i c width trims offset

    elements-fit : OffsetFits offset c access → Fits c access
    elements-fit there =
        let size = width-size width is in
        let g = registers_for c.vtype width in
        let one : 1 * g ≤ i.nf * g = mul-le-mul_right g some in
        let per_register : i.nf * 1 ≤ i.nf * g = mul-le-mul_left i.nf (omega arith) in
        let few = groups.few in
        let room = groups.room in
        let length = (held c valid).length in
        let short = most-short groups.vill in
        let fits = most-held width is groups.supported groups.vill in
        record {
          size = size.0;
          whole = size.1;
          few = omega arith;
          some = some;
          room = room;
          register = omega arith;
          len = omega arith;
          short = omega arith;
          vlen = vlen_bounded c.vlen (held c valid).vlen;
          wide = vlen-least;
          offset = there;
        }

    masked-spares : SparesMask i → access.masked ≡ true → 0 < access.register
    masked-spares spares masked = spares (not-true i.vm masked)

  -- ---- indices

  index-fits : (t : Access) → t.len ≡ c.vl → IsElementWidth i.eew → is_supported c.vtype ≡ true → c.vtype.vill ≡ false → IndexRoom i c.vtype → IndexFits c t i.vs2 i.eew
  index-fits t len is supported there room =
      let size = width-size i.eew is in
      let m = registers_for c.vtype i.eew in
      let all : vlmax c.vtype c.vlen * (i.eew / 8) ≤ m * size_of c = most-room i.eew is supported there in
      let length : c.vl * (i.eew / 8) ≤ vlmax c.vtype c.vlen * (i.eew / 8) = mul-le-mul_right (i.eew / 8) (held c valid).length in
      let inside : m * size_of c ≤ (32 - i.vs2) * size_of c = mul-le-mul_right (size_of c) (omega arith) in
      record { size = size.0; whole = size.1; register = omega arith; room = rw len (omega arith) }

  full-count : (w : ℕ) → IsElementWidth w → c.vtype.vill ≡ false → 0 < c.vtype.sew → fills w c.vtype.sew c.vtype.lmul8 ≡ true → registers_for c.vtype w * size_of c ≡ vlmax c.vtype c.vlen * (w / 8)
  unfolding vlmax
  full-count w is there positive full =
      let size = width-size w is in
      let g = registers_for c.vtype w in
      let e : g * (8 * c.vtype.sew) ≡ c.vtype.lmul8 * w = eqb-true _ _ full in
      rw (there, bytes, words) (count-full g (w / 8) n c.vtype.sew c.vtype.lmul8 size.0 positive (rw size.1 e))

  lies-legally : IsElementWidth i.eew → IsElementWidth c.vtype.sew → is_supported c.vtype ≡ true → c.vtype.vill ≡ false → (trims : Bool) → IndexBeside i c.vtype
      → LiesLegally (size_of c) i.vs2 (registers_for c.vtype i.eew) (i.eew / 8) (vlmax c.vtype c.vlen) (of_elements i c c.vtype.sew trims (Index i.vs2 i.eew))
  lies-legally index sew supported there trims (inl l) = inl l
  lies-legally index sew supported there trims (inr (inl l)) = inr (inl l)
  lies-legally index sew supported there trims (inr (inr (inl h))) = let l = h.2 in inr (inr (inl (h.0, h.1, omega arith)))
  lies-legally index sew supported there trims (inr (inr (inr h))) =
      let narrow = h.2 in
      let positive : 0 < c.vtype.sew = let l = width-from c.vtype.sew sew in omega arith in
      let most_eight : nat_le 8 (emul_of c.vtype i.eew) ≡ true = le-leb 8 (emul_of c.vtype i.eew) h.3 in
      let no_wider : nat_le i.eew c.vtype.sew ≡ true = le-leb i.eew c.vtype.sew narrow in
      let both = and_parts _ _ (rw (most_eight, no_wider) at (at_supported (is_full i.eew) c.vtype (all-full i.eew index) supported)) in
      inr (inr (inr (h.0, h.1, omega arith, full-count i.eew index there positive both.0, full-count c.vtype.sew sew there positive both.1)))

  indices-spared : IsElementWidth i.eew → (groups : FieldGroups i c.vtype c.vtype.sew) → (trims : Bool) → IndexBeside i c.vtype → SparesIndex (Index i.vs2 i.eew) c (of_elements i c c.vtype.sew trims (Index i.vs2 i.eew))
  indices-spared index groups trims beside e k inside within =
      let length = (held c valid).length in
      spared (size_of c) i.vs2 (registers_for c.vtype i.eew) (i.eew / 8) (vlmax c.vtype c.vlen) (of_elements i c c.vtype.sew trims (Index i.vs2 i.eew)) e k
      (lies-legally index groups.sew groups.supported groups.vill trims beside)
      (most-room i.eew index groups.supported groups.vill) (omega arith) within

  -- ---- whole registers and masks

  registers-fit : (registers width len : ℕ) (agnostic_tail : Bool) → IsElementWidth width → 0 < registers → i.vd + registers ≤ 32 → len ≤ registers * size_of c / (width / 8) → len ≤ c.vlen
      → Fits c (of_registers i registers width len agnostic_tail)
  registers-fit registers width len agnostic_tail is positive room inside short =
      let size = width-size width is in
      record {
        size = size.0;
        whole = size.1;
        few = omega arith;
        some = omega arith;
        room = omega arith;
        register = omega arith;
        len = inside;
        short = omega arith;
        vlen = vlen_bounded c.vlen (held c valid).vlen;
        wide = vlen-least;
        offset = tt;
      }

  whole-fits : IsElementWidth i.eew → WholeRoom i c.vtype → Fits c (of_registers i i.nf i.eew (i.nf * c.vlen / i.eew) false)
  whole-fits is room =
      let size = width-size i.eew is in
      let count : i.nf * (32 * n) / i.eew ≡ i.nf * (4 * n) / (i.eew / 8) = rw size.1 at (whole-count i.nf n (i.eew / 8) size.0) in
      let order : i.nf * c.vlen ≤ i.eew * c.vlen = mul-le-mul_right c.vlen (omega (arith, range.nf, width-from i.eew is)) in
      registers-fit i.nf i.eew (i.nf * c.vlen / i.eew) false is some room (rw (bytes, words, count) (omega arith)) (div-le_of_le-mul i.eew order)

  mask-fits : MaskRoom i c.vtype → Fits c (of_registers i 1 8 ((c.vl + 7) / 8) true)
  mask-fits room =
      let length = (held c valid).length in
      let short = most-short room.0 in
      registers-fit 1 8 ((c.vl + 7) / 8) true (inl refl) (omega arith) (omega (arith, room.1)) (omega arith) (omega arith)

  plain-load : (registers width len : ℕ) (agnostic_tail : Bool) → FitsLoad c (of_registers i registers width len agnostic_tail)
  plain-load registers width len agnostic_tail = record { mask = λ masked. absurd (false≢true masked); index = tt }

-- ---- the instructions

module _ (i : VInstr) (c : Cfg) (n stride : ℕ) (valid : IsTrue (is_valid c)) (words : c.vlen ≡ 32 * n) (range : IsInRange i) (legal : is_legal i c.vtype c.vstart ≡ true) where
  indexed-fit : 0 < i.nf → IsElementWidth i.eew → FieldGroups i c.vtype c.vtype.sew → IndexRoom i c.vtype → Fits c (of_elements i c c.vtype.sew false (Index i.vs2 i.eew))
  indexed-fit some eew groups room =
      elements-fit i c n valid words range some c.vtype.sew groups.sew groups false (Index i.vs2 i.eew)
      (index-fits i c n valid words range some (of_elements i c c.vtype.sew false (Index i.vs2 i.eew)) refl eew groups.supported groups.vill room)

  stepped-load : (width step : ℕ) (trims : Bool) → SparesMask i → FitsLoad c (of_elements i c width trims (Step step))
  stepped-load width step trims spares = record { mask = λ masked. spares (not-true i.vm masked); index = tt }

  indexed-load : 0 < i.nf → IsElementWidth i.eew → SparesMask i → FieldGroups i c.vtype c.vtype.sew → IndexBeside i c.vtype → FitsLoad c (of_elements i c c.vtype.sew false (Index i.vs2 i.eew))
  indexed-load some eew spares groups beside = record { mask = λ masked. spares (not-true i.vm masked); index = indices-spared i c n valid words range some eew groups false beside }

  pub access-fits : (op : MemoryOp) → i.op ≡ Memory op → Fits c (access_of op i c stride)
  unfolding access_of shape_of trims_of memory_class
  access-fits op is = by op is (range.memory op is).some (range.memory op is).eew (held c valid).setting
    where
      by : (op : MemoryOp) → i.op ≡ Memory op → 0 < i.nf → IsElementWidth i.eew → IsTrue (is_vill_or_supported c.vtype) → Fits c (access_of op i c stride)
      by LoadUnitStride is some eew setting = elements-fit i c n valid words range some i.eew eew (legal_access_law.loads i c.vtype c.vstart setting legal (ap class_of is) some).1 false (Step (i.nf * (i.eew / 8))) tt
      by LoadFaultOnlyFirst is some eew setting = elements-fit i c n valid words range some i.eew eew (legal_access_law.loads i c.vtype c.vstart setting legal (ap class_of is) some).1 true (Step (i.nf * (i.eew / 8))) tt
      by LoadStrided is some eew setting = elements-fit i c n valid words range some i.eew eew (legal_access_law.loads i c.vtype c.vstart setting legal (ap class_of is) some).1 false (Step stride) tt
      by StoreUnitStride is some eew setting = elements-fit i c n valid words range some i.eew eew (legal_access_law.stores i c.vtype c.vstart setting legal (ap class_of is) some) false (Step (i.nf * (i.eew / 8))) tt
      by StoreStrided is some eew setting = elements-fit i c n valid words range some i.eew eew (legal_access_law.stores i c.vtype c.vstart setting legal (ap class_of is) some) false (Step stride) tt
      by LoadIndexedUnordered is some eew setting = let f = legal_access_law.indexed_loads i c.vtype c.vstart setting legal (ap class_of is) some in indexed-fit some eew f.0.1 f.1.0
      by LoadIndexedOrdered is some eew setting = let f = legal_access_law.indexed_loads i c.vtype c.vstart setting legal (ap class_of is) some in indexed-fit some eew f.0.1 f.1.0
      by StoreIndexedUnordered is some eew setting = let f = legal_access_law.indexed_stores i c.vtype c.vstart setting legal (ap class_of is) some in indexed-fit some eew f.0 f.1
      by StoreIndexedOrdered is some eew setting = let f = legal_access_law.indexed_stores i c.vtype c.vstart setting legal (ap class_of is) some in indexed-fit some eew f.0 f.1
      by LoadWholeRegister is some eew setting = whole-fits i c n valid words range some eew (legal_access_law.whole_loads i c.vtype c.vstart setting legal (ap class_of is) some)
      by StoreWholeRegister is some eew setting = whole-fits i c n valid words range some eew (legal_access_law.whole_stores i c.vtype c.vstart setting legal (ap class_of is) some)
      by LoadMask is some eew setting = mask-fits i c n valid words range some (legal_access_law.mask_loads i c.vtype c.vstart setting legal (ap class_of is) some)
      by StoreMask is some eew setting = mask-fits i c n valid words range some (legal_access_law.mask_stores i c.vtype c.vstart setting legal (ap class_of is) some)

  pub load-fits : (op : MemoryOp) → i.op ≡ Memory op → is_store op ≡ false → FitsLoad c (access_of op i c stride)
  unfolding access_of shape_of trims_of memory_class is_store
  load-fits op is = by op is (range.memory op is).some (range.memory op is).eew (held c valid).setting
    where
      by : (op : MemoryOp) → i.op ≡ Memory op → 0 < i.nf → IsElementWidth i.eew → IsTrue (is_vill_or_supported c.vtype) → is_store op ≡ false → FitsLoad c (access_of op i c stride)
      by LoadUnitStride is some eew setting reads = stepped-load i.eew (i.nf * (i.eew / 8)) false (legal_access_law.loads i c.vtype c.vstart setting legal (ap class_of is) some).0
      by LoadFaultOnlyFirst is some eew setting reads = stepped-load i.eew (i.nf * (i.eew / 8)) true (legal_access_law.loads i c.vtype c.vstart setting legal (ap class_of is) some).0
      by LoadStrided is some eew setting reads = stepped-load i.eew stride false (legal_access_law.loads i c.vtype c.vstart setting legal (ap class_of is) some).0
      by LoadIndexedUnordered is some eew setting reads = let f = legal_access_law.indexed_loads i c.vtype c.vstart setting legal (ap class_of is) some in indexed-load some eew f.0.0 f.0.1 f.1.1
      by LoadIndexedOrdered is some eew setting reads = let f = legal_access_law.indexed_loads i c.vtype c.vstart setting legal (ap class_of is) some in indexed-load some eew f.0.0 f.0.1 f.1.1
      by LoadWholeRegister is some eew setting reads = plain-load i c n valid words range some i.nf i.eew (i.nf * c.vlen / i.eew) false
      by LoadMask is some eew setting reads = plain-load i c n valid words range some 1 8 ((c.vl + 7) / 8) true
      by StoreUnitStride is some eew setting reads = absurd (false≢true (sym reads))
      by StoreWholeRegister is some eew setting reads = absurd (false≢true (sym reads))
      by StoreMask is some eew setting reads = absurd (false≢true (sym reads))
      by StoreIndexedUnordered is some eew setting reads = absurd (false≢true (sym reads))
      by StoreStrided is some eew setting reads = absurd (false≢true (sym reads))
      by StoreIndexedOrdered is some eew setting reads = absurd (false≢true (sym reads))
