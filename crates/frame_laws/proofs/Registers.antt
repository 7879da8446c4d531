-- The program of an instruction leaves the registers of its meaning.
use Rattle.std.proofs.Common.{◌≡◌, ◌≢◌, ℕ, zero, suc, ◌+◌, ◌-◌, ◌*◌, ◌/◌, ◌%◌, ◌<◌, ◌≤◌, Bool, true, false, cond, ◌&&◌, ◌||◌, eqb, leb, ltb, List, [], ◌++◌, refl, sym, ◌∙◌, ap, arith, ◌⊎◌, inl, inr, ⊎_elim}
use Rattle.std.proofs.lemmas.Bool.{cases_lt, cases_Bool, cases_eq, eq-eqb, ne_eqb, lt-ltb, le-ltb, leb-true, le-leb, false≢true}
use Rattle.std.proofs.lemmas.Nat.{div-mul-add, mod-mul-add}
use Rattle.std.proofs.Math.Nat.{mul-le-mul_right, mod-lt}
use Rattle.bit_laws.specs.Numbers.{number, low, bit_of}
use Rattle.bit_laws.proofs.Numbers.{number-same, bit-number}
use Rattle.bit_rows.specs.Slices.{Slices}
use Rattle.steer_net.specs.Network.{bit_in, is_within}
use Rattle.element_ops.specs.Elements.{Registers, element_in, with_elements_in}
use Rattle.element_ops.specs.Places.{prestart, tail}
use Rattle.micro_ir.specs.declared.op.MicroOp.{MicroOp}
use Rattle.micro_ir.specs.Replay.{effect, replay}
use Rattle.micro_ir.specs.Steps.{element, steps_on, micros}
use Rattle.micro_ir.proofs.Lists.{replay-append}
use Rattle.micro_ir.proofs.Lift.{replay-columns, micros-element, element-inside}
use Rattle.micro_ir.specs.WorkRows.{scalar_row}
use Rattle.micro_ir.specs.Pieces.{splat}
use Rattle.frame_laws.specs.Shapes.{Shape, Bounds, Bounded, element_number}
use Rattle.frame_laws.specs.Programs.{active_window, mask_window, fill, one_register, first_registers, program}
use Rattle.frame_laws.specs.Meaning.{outcome, place_in, element_after, written}
use Rattle.frame_laws.specs.Realising.{Splatted, Windowed, Realised}
use Rattle.frame_laws.specs.Laws.{SameAt, Legal, AllRealised, FrameLaw, GroupLaw}
use Rattle.frame_laws.proofs.Elements.{in_element, placed_at, element-placed, bit_place}
use Rattle.micro_ir.proofs.Scalars.{splat-here, splat-row, splat-fits}
use Rattle.frame_laws.proofs.Ends.{ends, outcome-bit, settled}
use Rattle.frame_laws.proofs.Windows.{none, either, free_same, within_same, within_true, with_windows, windows-columns, windows-active, windows-mask, windows-rest, windows-bits, windows-stand, fill-element}

-- What the operations on register g make of one element: its register ends as the element's place says, and every other
-- register and the scalar stay. `mask` is v0, where it is used.
one_register-element : (i : Shape) (b : Bounds) (g k col : ℕ) (body : List MicroOp) (mask : ℕ → Bool) (s : Slices)
    → 0 < i.width → 32 / i.width * i.width ≡ 32 → k * i.width + i.width ≤ 32 → col < s.columns → i.vlen ≡ 32 * s.columns → Bounded i b
    → element_number i g k col < 32 * s.columns → i.vd + g < 32 → ((i.masked || i.reads) ≡ true → 0 < i.vd + g)
    → ((i.masked || i.reads) ≡ true → bit_in s 0 (element_number i g k col) ≡ mask (element_number i g k col))
    → Realised i b g body → Splatted i s
    → (r j : ℕ) → (r < 32) ⊎ (r ≡ scalar_row) → j < i.width
    → element i.width k col (replay (one_register i b g body) s) r j
    ≡ cond (eqb r (i.vd + g))
    (bit_of (outcome i (i.result (bit_in (with_windows i b g s)) (element_number i g k col) (mask (element_number i g k col)))
    (number i.width (element i.width k col s (i.vd + g)))
    (place_in i mask (element_number i g k col))) j)
    (element i.width k col s r j)
unfolding one_register replay Realised with_windows
one_register-element i b g k col body mask s pos d q l vl bounded within_mask to_row not_mask agrees real splatted r j row h =
    let w = i.width in
    let to = i.vd + g in
    let e = element_number i g k col in
    let masked_here : i.masked ≡ true → bit_in s 0 e ≡ mask e = λ t. agrees (rw t refl) in
    let reads_here : i.reads ≡ true → bit_in s 0 e ≡ mask e = λ t. agrees (either i.masked i.reads t) in
    let s2 = with_windows i b g s in
    let s3 = replay body s2 in
    let split : replay (one_register i b g body) s ≡ replay (fill i b g) s3 =
    replay-append (mask_window i b g) (body ++ fill i b g) (effect (active_window i b g) s)
    ∙ replay-append body (fill i b g) s2 in
    let cols2 : s2.columns ≡ s.columns = windows-columns i b g s in
    let cols3 : s3.columns ≡ s.columns = replay-columns body s2 ∙ cols2 in
    let l2 : col < s2.columns = rw cols2 l in
    let l3 : col < s3.columns = rw cols3 l in
    let vl2 : i.vlen ≡ 32 * s2.columns = rw cols2 vl in
    let splatted2 : Splatted i s2 = λ t at l. let l0 : at < 32 * s.columns = rw (sym cols2) l in
    windows-bits i b g s 34 at (omega arith) (omega arith) ∙ splatted t at l0 in
    let stand : Windowed i b g s2 = windows-stand i b g s in
    let does = real s2 vl2 splatted2 stand k col q l2 in
    let old : (r j : ℕ) → (r < 32) ⊎ (r ≡ 34) → j < w → element w k col s2 r j ≡ element w k col s r j =
    λ r j x h. ⊎_elim (λ (y : r < 32). windows-rest i b g k col s q l r j (omega arith) (omega arith) h)
    (λ (y : r ≡ 34). windows-rest i b g k col s q l r j (omega arith) (omega arith) h) x in
    let masks : i.masked ≡ true → bit_in s3 0 e ≡ mask e =
    λ t.
    let nz : 0 < to = not_mask (rw t refl) in
    let before = in_element w (32 / w) s 0 e pos d within_mask in
    let m3 : e < 32 * s3.columns = rw cols3 within_mask in
    let now = in_element w (32 / w) s3 0 e pos d m3 in
    let c2 : e / 32 < s2.columns = rw cols2 before.inside in
    let there = real s2 vl2 splatted2 stand (e % 32 / w) (e / 32) before.fits c2 in
    now.bit ∙ there.kept 0 (e % 32 % w) (omega arith) (omega arith) before.below
    ∙ windows-rest i b g (e % 32 / w) (e / 32) s before.fits before.inside 0 (e % 32 % w) (omega arith) (omega arith) before.below
    ∙ sym before.bit ∙ masked_here t in
    let z = i.result (bit_in s2) e (mask e) in
    let o = number w (element w k col s to) in
    let act : is_within b.from i.len i.masked (bit_in s 0) e ≡ is_within b.from i.len i.masked mask e = within_same b.from i.len i.masked (bit_in s 0) mask e masked_here in
    let value : element w k col s3 to j ≡ cond (is_within b.from i.len i.masked mask e) (bit_of (low w z) j) (element w k col s to j) =
    ⊎_elim
    (λ (t : is_within b.from i.len i.masked mask e ≡ true).
    rw t (sym (bit-number w (element w k col s3 to) j h)
    ∙ ap (λ (v : ℕ). bit_of v j) (does.active (λ j u. windows-active i b g k col s q l j u ∙ act ∙ t) (mask e)
    (λ rd j u. windows-mask i b g k col s q l rd j u ∙ within_same b.from i.len true (bit_in s 0) mask e (λ z. reads_here rd) ∙ within_true b.from i.len i.masked mask e t))))
    (λ (f : is_within b.from i.len i.masked mask e ≡ false).
    rw f (does.idle (λ j u. windows-active i b g k col s q l j u ∙ act ∙ f) j h ∙ old to j (inl to_row) h))
    (cases_Bool (is_within b.from i.len i.masked mask e)) in
    let small : r ≤ 34 = ⊎_elim (λ (y : r < 32). omega arith) (λ (y : r ≡ 34). omega arith) row in
    let at = place_in i mask e in
    ap (λ (v : Slices). element w k col v r j) split
    ∙ fill-element i b g k col s3 q l3 to_row r j small h
    ∙ rw (free_same b.from b.until i.masked i.tail i.vma (bit_in s3 0) mask e masks)
    (⊎_elim
    (λ (u : r ≡ to). rw (u, eq-eqb to to refl) (rw value (settled i b mask (bit_of (low w z) j) (element w k col s to j) e bounded
    ∙ ap (λ (x : Bool). ends i.ones i.vma i.tail (bit_of (low w z) j) x at) (sym (bit-number w (element w k col s to) j h))
    ∙ sym (outcome-bit i z o j at h))))
    (λ (u : r ≢ to). rw (ne_eqb r to u) (does.kept r j small u h ∙ old r j row h))
    (cases_eq r to))

-- a value counts where an element may be computed, and nowhere else
pub computed : (i : Shape) (mask : ℕ → Bool) (e z y old : ℕ) → (e < i.len → z ≡ y) → outcome i z old (place_in i mask e) ≡ outcome i y old (place_in i mask e)
computed i mask e z y old same =
    ⊎_elim
    (λ (l : e < i.len). ap (λ (x : ℕ). outcome i x old (place_in i mask e)) (same l))
    (λ (m : i.len ≤ e). rw (le-ltb e i.len m) (past (ltb e i.vstart || (ltb e i.from && false))))
    (cases_lt e i.len)
  where
    past : (b : Bool) → outcome i z old (cond b prestart tail) ≡ outcome i y old (cond b prestart tail)
    past true = refl
    past false = refl

-- ---- the registers once some are written

written_at : (i : Shape) (columns m g k col j : ℕ) (v : Registers) → 0 < i.width → 32 / i.width * i.width ≡ 32 → i.vlen ≡ 32 * columns → k * i.width + i.width ≤ 32 → col < columns → j < i.width → g < m
    → written i m v (i.vd + g) (col * 32 + (k * i.width + j)) ≡ bit_of (element_after i v (element_number i g k col)) j
unfolding written with_elements_in
written_at i columns m g k col j v pos d s q l h lt =
    let p = placed_at i.width (32 / i.width) i.vlen columns k col j pos d s q l h in
    let z : i.vd + g - i.vd ≡ g = omega arith in
    let e = g * (columns * (32 / i.width)) + (col * (32 / i.width) + k) in
    rw (p.per, le-leb i.vd (i.vd + g) (omega arith), lt-ltb (i.vd + g) (i.vd + m) (omega arith), z, p.number g, div-mul-add e i.width j h, mod-mul-add e i.width j h) refl

pub written_else : (i : Shape) (m : ℕ) (v : Registers) (r at : ℕ) → (r < i.vd) ⊎ (i.vd + m ≤ r) → written i m v r at ≡ v r at
unfolding written with_elements_in
written_else i m v r at h =
    ⊎_elim (λ (l : r < i.vd). rw (lt-leb-false i.vd r l) refl) (λ (l : i.vd + m ≤ r). rw (le-ltb r (i.vd + m) l) (none (leb i.vd r) _ (v r at))) h
  where
    lt-leb-false : (a b : ℕ) → b < a → leb a b ≡ false
    lt-leb-false a b l = ⊎_elim (λ (t : leb a b ≡ true). absurd (omega (arith, leb-true a b t))) (λ (f : leb a b ≡ false). f) (cases_Bool (leb a b))

written_more : (i : Shape) (g : ℕ) (v : Registers) (r at : ℕ) → r ≢ i.vd + g → written i (suc g) v r at ≡ written i g v r at
unfolding written with_elements_in
written_more i g v r at n =
    ⊎_elim (λ (l : r < i.vd + g). rw (lt-ltb r (i.vd + g) l, lt-ltb r (i.vd + suc g) (omega arith)) refl)
    (λ (l : i.vd + g ≤ r). rw (le-ltb r (i.vd + g) l, le-ltb r (i.vd + suc g) (omega arith)) refl)
    (cases_lt r (i.vd + g))

-- The first g registers are written, in slices that held the registers v before.
pub record HoldsFirst (i : Shape) (g : ℕ) (v : Registers) (s : Slices) : Type 0 where
  pub registers : (k col r j : ℕ) → k * i.width + i.width ≤ 32 → col < s.columns → r < 32 → j < i.width → element i.width k col s r j ≡ written i g v r (col * 32 + (k * i.width + j))
  pub scalar : Splatted i s

-- the same, by the bits of a register
pub held : (i : Shape) (g : ℕ) (v : Registers) (s : Slices) → 0 < i.width → 32 / i.width * i.width ≡ 32 → HoldsFirst i g v s → (r at : ℕ) → r < 32 → at < 32 * s.columns → bit_in s r at ≡ written i g v r at
held i g v s pos d holds r at x h =
    let p = in_element i.width (32 / i.width) s r at pos d h in
    p.bit ∙ holds.registers (at % 32 / i.width) (at / 32) r (at % 32 % i.width) p.fits p.inside x p.below ∙ ap (written i g v r) p.back

-- none is written yet
pub none_held : (i : Shape) (v : Registers) (s : Slices) → Splatted i s → ((r at : ℕ) → r < 32 → at < 32 * s.columns → bit_in s r at ≡ v r at) → HoldsFirst i 0 v s
none_held i v s splatted same = record {
  registers = λ k col r j q l x h.
      let lt : k * i.width + j < 32 = omega arith in
      element-inside i.width k col s r j h ∙ sym (bit_place s r col (k * i.width + j) lt)
      ∙ same r (col * 32 + (k * i.width + j)) x (omega arith) ∙ sym (written_else i 0 v r (col * 32 + (k * i.width + j)) (split r i.vd));
  scalar = splatted;
}
  where
    split : (r d : ℕ) → (r < d) ⊎ (d + 0 ≤ r)
    split r d = ⊎_elim (λ (l : r < d). inl l) (λ (l : d ≤ r). inr (omega arith)) (cases_lt r d)

-- one register more
pub next : (i : Shape) (b : Bounds) (source : ℕ → ℕ → Bool) (columns g : ℕ) (body : List MicroOp) (v : Registers) (s : Slices) → Legal i source columns → Bounded i b → s.columns ≡ columns → g < i.registers
    → Realised i b g body → HoldsFirst i g v s
    → HoldsFirst i (suc g) v (replay (one_register i b g body) s)
unfolding element_after
next i b source columns g body v s legal bounded cols lt real holds =
    let w = i.width in
    let n = 32 / w in
    let per = i.vlen / w in
    let first = g * per in
    let to = i.vd + g in
    let s1 = replay (one_register i b g body) s in
    let s2 = with_windows i b g s in
    let pos = legal.framed.width in
    let d = legal.framed.lanes in
    let room = legal.framed.room in
    let small : to < 32 = omega arith in
    let cols1 : s1.columns ≡ s.columns = replay-columns (one_register i b g body) s in
    let vl : i.vlen ≡ 32 * s.columns = rw cols legal.framed.vlen in
    let bound : (k col : ℕ) → k * w + w ≤ 32 → col < columns → (first + (col * n + k) < 32 * s.columns) × (col * n + k < per) =
    λ k col q l.
    let p = placed_at w n i.vlen columns k col 0 pos d legal.framed.vlen q l pos in
    let inside : col * n + k < columns * n = p.inside in
    let most : suc g ≤ w = omega (arith, legal.framed.numbers) in
    let m : suc g * (columns * n) ≤ w * (columns * n) = mul-le-mul_right (columns * n) most in
    let t : w * (columns * n) ≡ 32 * columns = omega (arith, ap (λ x. columns * x) d) in
    rw (p.per, cols) (omega arith, inside) in
    let seen : (r at : ℕ) → r < 32 → at < 32 * s.columns → bit_in s r at ≡ written i g v r at = held i g v s pos d holds in
    let agrees : (e : ℕ) → e < 32 * s.columns → (i.masked || i.reads) ≡ true → bit_in s 0 e ≡ v 0 e =
    λ e h t.
    let nz : 0 < i.vd = legal.framed.not_mask t in
    seen 0 e (omega arith) h ∙ written_else i g v 0 e (inl nz) in
    let sources : SameAt (source g) i.vlen (bit_in s2) v =
    λ r at x h.
    let y = legal.sources g r lt x in
    let h1 : at < 32 * s.columns = rw (← vl) h in
    windows-bits i b g s r at (omega arith) (omega arith) ∙ seen r at y.0 h1 ∙ written_else i g v r at y.1 in
    let main : (k col r j : ℕ) → k * w + w ≤ 32 → col < s1.columns → (r < 32) ⊎ (r ≡ 34) → j < w → element w k col s1 r j ≡ cond (eqb r to) (bit_of (element_after i v (first + (col * n + k))) j) (element w k col s r j) =
    λ k col r j q l x h.
    let l0 : col < s.columns = rw (sym cols1) l in
    let l1 : col < columns = rw (sym cols) l0 in
    let e = first + (col * n + k) in
    let fits = bound k col q l1 in
    let old : number w (element w k col s to) ≡ element_in i.vlen v i.vd w e =
    number-same w _ _ (λ j h. holds.registers k col to j q l0 small h ∙ written_else i g v to (col * 32 + (k * w + j)) (inr (omega arith)))
    ∙ sym (element-placed w n i.vlen columns k col v i.vd g pos d legal.framed.vlen q l1) in
    let result : outcome i (i.result (bit_in s2) e (v 0 e)) (element_in i.vlen v i.vd w e) (place_in i (v 0) e) ≡ element_after i v e =
    computed i (v 0) e (i.result (bit_in s2) e (v 0 e)) (i.result v e (v 0 e)) (element_in i.vlen v i.vd w e) (λ l. legal.reads_only g (bit_in s2) v (col * n + k) (v 0 e) lt fits.1 l sources) in
    one_register-element i b g k col body (v 0) s pos d q l0 vl bounded fits.0 small (λ t. let z : 0 < i.vd = legal.framed.not_mask t in omega arith) (agrees e fits.0) real holds.scalar r j x h
    ∙ rw (old, result) refl in
    record {
      registers = λ k col r j q l x h.
          let l0 : col < s.columns = rw (sym cols1) l in
          let l1 : col < columns = rw (sym cols) l0 in
          main k col r j q l (inl x) h
          ∙ ⊎_elim
          (λ (u : r ≡ to). rw (u, eq-eqb to to refl) (sym (written_at i columns (suc g) g k col j v pos d legal.framed.vlen q l1 h (omega arith))))
          (λ (u : r ≢ to). rw (ne_eqb r to u) (holds.registers k col r j q l0 x h ∙ sym (written_more i g v r _ u)))
          (cases_eq r to);
      scalar = λ t at h.
          let h0 : at < 32 * s.columns = rw (sym cols1) h in
          let u : 34 ≢ to = omega arith in
          let before = in_element w n s 34 at pos d h0 in
          let now = in_element w n s1 34 at pos d h in
          now.bit ∙ main (at % 32 / w) (at / 32) 34 (at % 32 % w) now.fits now.inside (inr refl) now.below ∙ rw (ne_eqb 34 to u) (sym before.bit ∙ holds.scalar t at h0);
    }

-- The first g registers of the group, from any state that holds none of them yet.
pub group_runs : (i : Shape) (b : Bounds) (source : ℕ → ℕ → Bool) (columns : ℕ) (body : ℕ → List MicroOp) (v : Registers) (s : Slices) → Legal i source columns → Bounded i b → s.columns ≡ columns
    → AllRealised i b body → HoldsFirst i 0 v s → (g : ℕ) → g ≤ i.registers → HoldsFirst i g v (replay (first_registers i b body g) s)
unfolding first_registers replay
group_runs i b source columns body v s legal bounded cols real start zero le = start
group_runs i b source columns body v s legal bounded cols real start (suc g) le =
    let done = replay (first_registers i b body g) s in
    let c : done.columns ≡ columns = replay-columns (first_registers i b body g) s ∙ cols in
    rw (replay-append (first_registers i b body g) (one_register i b g (body g)) s)
    (next i b source columns g (body g) v done legal bounded c le (real g le) (group_runs i b source columns body v s legal bounded cols real start g (omega arith)))

-- What the registers hold once some are written.
pub finished : (i : Shape) (columns g : ℕ) (v : Registers) (s : Slices) → 0 < i.width → 32 / i.width * i.width ≡ 32 → i.vlen ≡ 32 * columns → s.columns ≡ columns → HoldsFirst i g v s
    → (r at : ℕ) → r < 32 → at < i.vlen → bit_in s r at ≡ written i g v r at
finished i columns g v s pos d vl cols holds r at x h =
    let h1 : at < 32 * s.columns = rw cols (rw vl at h) in
    held i g v s pos d holds r at x h1

pub group_law : GroupLaw
group_law i b source body v s g legal bounded real same splatted le =
    let start : HoldsFirst i 0 v s = none_held i v s splatted (λ r at x h. same r at x (rw legal.framed.vlen h)) in
    let done = group_runs i b source s.columns body v s legal bounded refl real start g le in (
      finished i s.columns g v (replay (first_registers i b body g) s) legal.framed.width legal.framed.lanes legal.framed.vlen (replay-columns (first_registers i b body g) s) done,
      done.scalar,
    )

-- the scalar's steps, on any slices: the scalar stands in its row, and the registers stay
splat-row-here : (w x : ℕ) (s : Slices) (r at : ℕ) → 0 < w → 32 / w * w ≡ 32 → at < 32 * s.columns
    → bit_in (replay (micros w (splat w x)) s) r at ≡ steps_on (splat w x) (element w (at % 32 / w) (at / 32) s) r (at % 32 % w)
splat-row-here w x s r at pos d h =
    let s1 = replay (micros w (splat w x)) s in
    let h1 : at < 32 * s1.columns = rw (replay-columns (micros w (splat w x)) s) h in
    let p = in_element w (32 / w) s r at pos d h in
    let p1 = in_element w (32 / w) s1 r at pos d h1 in
    p1.bit ∙ ap (λ (f : ℕ → ℕ → Bool). f r (at % 32 % w)) (micros-element w (at % 32 / w) (at / 32) (splat w x) s (splat-fits w x) p.fits p.inside)

pub splat-stands : (i : Shape) (s : Slices) → 0 < i.scalar_width → 32 / i.scalar_width * i.scalar_width ≡ 32 → Splatted i (replay (micros i.scalar_width (splat i.scalar_width i.scalar)) s)
splat-stands i s pos d t at h =
    let w = i.scalar_width in
    let l : at < 32 * s.columns = rw (sym (replay-columns (micros w (splat w i.scalar)) s)) h in
    splat-row-here w i.scalar s 34 at pos d l ∙ splat-here w i.scalar (element w (at % 32 / w) (at / 32) s) (at % 32 % w) (mod-lt (at % 32) pos)

pub splat-bits : (i : Shape) (s : Slices) → 0 < i.scalar_width → 32 / i.scalar_width * i.scalar_width ≡ 32 → (r at : ℕ) → r < 32 → at < 32 * s.columns
    → bit_in (replay (micros i.scalar_width (splat i.scalar_width i.scalar)) s) r at ≡ bit_in s r at
splat-bits i s pos d r at x h =
    let w = i.scalar_width in
    let p = in_element w (32 / w) s r at pos d h in
    splat-row-here w i.scalar s r at pos d h ∙ splat-row w i.scalar (element w (at % 32 / w) (at / 32) s) r (at % 32 % w) (omega arith) ∙ sym p.bit

pub frame_law : FrameLaw
unfolding program
frame_law i b source body v s legal bounded real same r at x h =
    ⊎_elim
    (λ (t : i.splat ≡ true).
    let steps = micros i.scalar_width (splat i.scalar_width i.scalar) in
    let s1 = replay steps s in
    let cols : s1.columns ≡ s.columns = replay-columns steps s in
    let start : HoldsFirst i 0 v s1 = none_held i v s1 (splat-stands i s legal.framed.scalar_width legal.framed.scalar_lanes)
    (λ r at x h. let h1 : at < 32 * s.columns = rw (sym cols) h in splat-bits i s legal.framed.scalar_width legal.framed.scalar_lanes r at x h1 ∙ same r at x (rw legal.framed.vlen h1)) in
    let s2 = replay (first_registers i b body i.registers) s1 in
    let done = group_runs i b source s.columns body v s1 legal bounded cols real start i.registers (omega arith) in
    let all : replay (program i b body) s ≡ s2 =
    ap (λ (c : Bool). replay (cond c steps [] ++ first_registers i b body i.registers) s) t
    ∙ replay-append steps (first_registers i b body i.registers) s in
    ap (λ (z : Slices). bit_in z r at) all
    ∙ finished i s.columns i.registers v s2 legal.framed.width legal.framed.lanes legal.framed.vlen (replay-columns (first_registers i b body i.registers) s1 ∙ cols) done r at x h)
    (λ (f : i.splat ≡ false).
    let all : replay (program i b body) s ≡ replay (first_registers i b body i.registers) s =
    ap (λ (c : Bool). replay (cond c (micros i.scalar_width (splat i.scalar_width i.scalar)) [] ++ first_registers i b body i.registers) s) f in
    ap (λ (z : Slices). bit_in z r at) all
    ∙ (group_law i b source body v s i.registers legal bounded real same (λ z. absurd (false≢true (sym f ∙ z))) (omega arith)).0 r at x h)
    (cases_Bool i.splat)
