-- The flag of a program: it is set exactly where an active element is clipped.
use Rattle.std.proofs.Common.{◌≡◌, ℕ, zero, suc, ◌+◌, ◌*◌, ◌/◌, ◌<◌, ◌≤◌, Bool, true, false, cond, ◌&&◌, ◌||◌, not, ltb, leb, List, [], ◌∷◌, ◌++◌, refl, sym, ◌∙◌, ap, arith, ◌⊎◌, inl, ⊎_elim}
use Rattle.std.proofs.lemmas.Bool.{cases_Bool, and_parts, ltb-true, false≢true}
use Rattle.std.proofs.lemmas.Nat.{div-mul-add}
use Rattle.std.proofs.Math.Nat.{mul-le-mul_right}
use Rattle.bit_rows.specs.Slices.{Slices}
use Rattle.element_ops.specs.Elements.{Registers}
use Rattle.element_ops.specs.Places.{prestart, active, masked_off, tail, is_active}
use Rattle.fold_laws.specs.Folds.{any}
use Rattle.fold_laws.proofs.Anys.{any_cat, any-same}
use Rattle.steer_net.specs.Network.{bit_in, is_within}
use Rattle.micro_ir.specs.declared.op.MicroOp.{MicroOp}
use Rattle.micro_ir.specs.declared.op.MicroOp.TheVariants.{Window, Free}
use Rattle.micro_ir.specs.Pieces.{splat, fill_step}
use Rattle.micro_ir.specs.Replay.{replay, effect, clips, all_keep_control}
use Rattle.micro_ir.specs.Steps.{micros}
use Rattle.micro_ir.specs.WorkRows.{mask_row, free_row}
use Rattle.micro_ir.proofs.Keeping.{micros-keep}
use Rattle.micro_ir.proofs.Lists.{clips-append, clips-none, or_false}
use Rattle.micro_ir.proofs.Lift.{replay-columns}
use Rattle.frame_laws.specs.Shapes.{Shape, Bounds, Bounded, first_of, is_prestart}
use Rattle.frame_laws.specs.Programs.{active_window, mask_window, fill, one_register, first_registers, program}
use Rattle.frame_laws.specs.Meaning.{place_in}
use Rattle.frame_laws.specs.Realising.{Splatted}
use Rattle.frame_laws.specs.Laws.{SameAt, Legal, AllRealised}
use Rattle.frame_laws.specs.Clips.{Clipped, clips_at, TellsClips, AllTellClips, DependsOn, ClipLaw}
use Rattle.frame_laws.proofs.Registers.{HoldsFirst, held, none_held, group_runs, written_else, splat-stands, splat-bits}
use Rattle.frame_laws.proofs.Windows.{with_windows, windows-columns, windows-bits, windows-stand, within_same}

-- ---- places

-- an element is active where its window says so
pub active-within : (i : Shape) (b : Bounds) (mask : ℕ → Bool) (e : ℕ) → Bounded i b → is_active (place_in i mask e) ≡ is_within b.from i.len i.masked mask e
active-within i b mask e bounded =
    core (is_prestart i e) (ltb e i.len) (not i.masked || mask e) ∙ sym (ap (λ (z : Bool). z && (not i.masked || mask e)) (bounded.window e))
  where
    core : (p q x : Bool) → is_active (cond p prestart (cond q (cond x active masked_off) tail)) ≡ ((not p && q) && x)
    core true q x = refl
    core false true true = refl
    core false true false = refl
    core false false x = refl

-- a test of active elements alone counts below the length alone
pub where_active : (w x y : Bool) → (w ≡ true → x ≡ y) → (w && x) ≡ (w && y)
where_active true x y same = same refl
where_active false x y same = refl

pub within-len : (from len : ℕ) (masked : Bool) (mask : ℕ → Bool) (e : ℕ) → is_within from len masked mask e ≡ true → e < len
within-len from len masked mask e t = ltb-true e len (and_parts (leb from e) (ltb e len) (and_parts (leb from e && ltb e len) (not masked || mask e) t).0).1

-- so many elements make a register
pub register-elements : (w vlen columns : ℕ) → 0 < w → 32 / w * w ≡ 32 → vlen ≡ 32 * columns → vlen / w ≡ columns * (32 / w)
register-elements w vlen columns pos lanes long =
    let n = 32 / w in
    let z : vlen ≡ columns * n * w + 0 = long ∙ omega (arith, ap (λ x. columns * x) lanes) in
    rw z (div-mul-add (columns * n) w 0 pos)

-- ---- the windows and the fill

windows-clip : (i : Shape) (b : Bounds) (g : ℕ) (s : Slices) → clips (mask_window i b g) s ≡ false
unfolding clips
windows-clip i b g s = elim i.reads as (λ x. clips (cond x (Window mask_row i.width (first_of i g) b.from i.len true ∷ []) []) s ≡ false) [
  | true ↦ refl
  | false ↦ refl
]

fill-keep : (i : Shape) (b : Bounds) (g : ℕ) → all_keep_control (fill i b g) ≡ true
fill-keep i b g =
    elim i.ones as (λ x. all_keep_control (cond x (Free free_row i.width (first_of i g) b.from b.until i.masked i.tail (i.masked && i.vma) ∷ micros i.width (fill_step i.width (i.vd + g) ∷ [])) []) ≡ true) [
      | true ↦ micros-keep i.width (fill_step i.width (i.vd + g) ∷ [])
      | false ↦ refl
    ]

one-clip : (i : Shape) (b : Bounds) (g : ℕ) (body : List MicroOp) (s : Slices) → clips (one_register i b g body) s ≡ clips body (with_windows i b g s)
unfolding one_register clips with_windows
one-clip i b g body s =
    let s1 = effect (active_window i b g) s in
    clips-append (mask_window i b g) (body ++ fill i b g) s1
    ∙ rw (windows-clip i b g s1) (clips-append body (fill i b g) (replay (mask_window i b g) s1)
    ∙ rw (clips-none (fill i b g) (replay body (replay (mask_window i b g) s1)) (fill-keep i b g)) (or_false _))

-- ---- the registers of a group

-- the first n registers, from any state that holds none of them yet
first-clip : (i : Shape) (b : Bounds) (source : ℕ → ℕ → Bool) (columns : ℕ) (body : ℕ → List MicroOp) (clipped : Clipped) (v : Registers) (s : Slices)
    → Legal i source columns → Bounded i b → s.columns ≡ columns → AllRealised i b body → AllTellClips i b clipped body → DependsOn i source clipped
    → HoldsFirst i 0 v s → (n : ℕ) → n ≤ i.registers
    → clips (first_registers i b body n) s ≡ any (n * (i.vlen / i.width)) (clips_at i clipped v)
unfolding first_registers clips any TellsClips
first-clip i b source columns body clipped v s legal bounded cols real tells depends start zero le = let z : 0 * (i.vlen / i.width) ≡ 0 = omega arith in rw z refl
first-clip i b source columns body clipped v s legal bounded cols real tells depends start (suc n) le =
    let w = i.width in
    let per = i.vlen / w in
    let f = legal.framed in
    let before = first_registers i b body n in
    let t = replay before s in
    let cols_t : t.columns ≡ columns = replay-columns before s ∙ cols in
    let holds : HoldsFirst i n v t = group_runs i b source columns body v s legal bounded cols real start n (omega arith) in
    let s2 = with_windows i b n t in
    let cols2 : s2.columns ≡ t.columns = windows-columns i b n t in
    let vl2 : i.vlen ≡ 32 * s2.columns = rw (cols2, cols_t) f.vlen in
    let splatted2 : Splatted i s2 = λ q at h. let l0 : at < 32 * t.columns = rw (sym cols2) h in
    windows-bits i b n t 34 at (omega arith) (omega arith) ∙ holds.scalar q at l0 in
    let room = f.room in
    let seen : (r at : ℕ) → r < 32 → at < i.vlen → (r < i.vd) ⊎ (i.vd + n ≤ r) → bit_in s2 r at ≡ v r at = λ r at l a apart.
    let a1 : at < 32 * t.columns = rw cols_t (rw f.vlen at a) in
    windows-bits i b n t r at (omega arith) (omega arith) ∙ held i n v t f.width f.lanes holds r at l a1 ∙ written_else i n v r at apart in
    let sources : SameAt (source n) i.vlen (bit_in s2) v = λ r at x a. let y = legal.sources n r le x in seen r at y.0 a y.1 in
    let whole : per * w ≡ i.vlen = whole-elements i columns f.width f.lanes f.vlen in
    let most : suc n * per ≤ w * per = mul-le-mul_right per (omega (arith, f.numbers)) in
    let e : suc n * per ≡ n * per + per = omega arith in
    clips-append before (one_register i b n (body n)) s
    ∙ rw (
      first-clip i b source columns body clipped v s legal bounded cols real tells depends start n (omega arith),
      one-clip i b n (body n) t,
      tells n le s2 vl2 splatted2 (windows-stand i b n t),
      any-same per (λ p. is_within b.from i.len i.masked (bit_in s2 0) (n * per + p) && clipped (bit_in s2) (n * per + p)) (λ p. clips_at i clipped v (n * per + p)) (λ p l.
          let here = is_within b.from i.len i.masked (bit_in s2 0) (n * per + p) in
          where_active here (clipped (bit_in s2) (n * per + p)) (clipped v (n * per + p)) (λ t. depends n (bit_in s2) v p le l (within-len b.from i.len i.masked (bit_in s2 0) (n * per + p) t) sources)
          ∙ ap (λ (x : Bool). x && clipped v (n * per + p))
          (within_same b.from i.len i.masked (bit_in s2 0) (v 0) (n * per + p) (λ m. let nz : 0 < i.vd = f.not_mask (rw m refl) in seen 0 (n * per + p) (omega arith) (omega arith) (inl nz))
          ∙ sym (active-within i b (v 0) (n * per + p) bounded))),
    ) (sym (rw e (any_cat (n * per) per (clips_at i clipped v))))
  where
    whole-elements : (i : Shape) (columns : ℕ) → 0 < i.width → 32 / i.width * i.width ≡ 32 → i.vlen ≡ 32 * columns → i.vlen / i.width * i.width ≡ i.vlen
    whole-elements i columns pos lanes long = rw (register-elements i.width i.vlen columns pos lanes long) (omega (arith, long, ap (λ x. columns * x) lanes))

pub clip_law : ClipLaw
unfolding program
clip_law i b source body clipped v s legal bounded real tells depends same =
    let f = legal.framed in
    ⊎_elim
    (λ (t : i.splat ≡ true).
    let steps = micros i.scalar_width (splat i.scalar_width i.scalar) in
    let s1 = replay steps s in
    let cols : s1.columns ≡ s.columns = replay-columns steps s in
    let start : HoldsFirst i 0 v s1 = none_held i v s1 (splat-stands i s f.scalar_width f.scalar_lanes)
    (λ r at x h. let h1 : at < 32 * s.columns = rw (sym cols) h in splat-bits i s f.scalar_width f.scalar_lanes r at x h1 ∙ same r at x (rw f.vlen h1)) in
    ap (λ (c : Bool). clips (cond c steps [] ++ first_registers i b body i.registers) s) t
    ∙ clips-append steps (first_registers i b body i.registers) s
    ∙ rw (clips-none steps s (micros-keep i.scalar_width (splat i.scalar_width i.scalar)))
    (first-clip i b source s.columns body clipped v s1 legal bounded cols real tells depends start i.registers (omega arith)))
    (λ (n : i.splat ≡ false).
    let start : HoldsFirst i 0 v s = none_held i v s (λ z. absurd (false≢true (sym n ∙ z))) (λ r at x h. same r at x (rw f.vlen h)) in
    ap (λ (c : Bool). clips (cond c (micros i.scalar_width (splat i.scalar_width i.scalar)) [] ++ first_registers i b body i.registers) s) n
    ∙ first-clip i b source s.columns body clipped v s legal bounded refl real tells depends start i.registers (omega arith))
    (cases_Bool i.splat)
