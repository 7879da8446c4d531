-- The program of an instruction that makes a mask leaves the registers of its meaning.
use Rattle.std.proofs.Common.{◌≡◌, ◌≢◌, ℕ, zero, suc, ◌+◌, ◌-◌, ◌*◌, ◌/◌, ◌%◌, ◌<◌, ◌≤◌, Bool, true, false, cond, ◌&&◌, ◌||◌, not, eqb, leb, ltb, List, [], ◌∷◌, ◌++◌, refl, sym, ◌∙◌, ap, arith, inl, inr, ⊎_elim}
use Rattle.std.specs.Int.{from_bool}
use Rattle.std.proofs.lemmas.Bool.{cases_lt, cases_Bool, cases_eq, eq-eqb, ne_eqb, lt-ltb, le-ltb, le-leb, ltb-true, and_parts, false≢true}
use Rattle.bit_laws.specs.Numbers.{low, bit_of}
use Rattle.bit_rows.specs.Slices.{Slices}
use Rattle.steer_net.specs.Network.{bit_in, is_within, is_free, top_bit, packed}
use Rattle.element_ops.specs.Elements.{Registers, with_elements_in}
use Rattle.micro_ir.specs.declared.op.MicroOp.{MicroOp}
use Rattle.micro_ir.specs.Replay.{effect, replay}
use Rattle.micro_ir.specs.Steps.{micros}
use Rattle.micro_ir.specs.WorkRows.{active_row, truth_row, free_row}
use Rattle.micro_ir.proofs.Lists.{replay-append}
use Rattle.micro_ir.proofs.Lift.{replay-columns}
use Rattle.micro_ir.specs.Pieces.{splat}
use Rattle.frame_laws.specs.Shapes.{Shape, Bounds, Bounded, first_of}
use Rattle.frame_laws.specs.Programs.{active_window, mask_window}
use Rattle.frame_laws.specs.Meaning.{place_in, element_after, written, after}
use Rattle.frame_laws.specs.Realising.{Splatted}
use Rattle.frame_laws.specs.Laws.{SameAt}
use Rattle.frame_laws.proofs.Elements.{placed_at}
use Rattle.frame_laws.proofs.Ends.{leb_not, ends, outcome-bit, settled}
use Rattle.frame_laws.proofs.Windows.{free_same, within_same, with_windows, windows-bits}
use Rattle.frame_laws.proofs.Registers.{splat-stands, splat-bits}
use Rattle.frame_laws.proofs.Bytes.{one-bit, not_in_one}
use Rattle.frame_laws.specs.Masks.Programs.{mask_of, free_of_mask, pack_of, mask_register, mask_registers, mask_fill, mask_program}
use Rattle.frame_laws.specs.Masks.Telling.{Told}
use Rattle.frame_laws.specs.Masks.Laws.{MaskLegal, AllTold, MaskFrameLaw}
use Rattle.frame_laws.proofs.Masks.Parts.{free-rest, free-first, free-later, pack-here, per-row, in_row, bit-itself, computed, mask_fill-here}

-- ---- the bits of the mask once some are written

-- the bit of an element's result
abbrev pub truth_at : Shape → Registers → ℕ → Bool
truth_at i v e = bit_of (low 1 (i.result v e (v 0 e))) 0

-- the element is in the window
abbrev pub in_window : Shape → Bounds → Registers → ℕ → Bool
in_window i b v e = is_within b.from i.len i.masked (v 0) e

-- an element in the window may be computed
below-len : (i : Shape) (b : Bounds) (v : Registers) (e : ℕ) → in_window i b v e ≡ true → e < i.len
below-len i b v e t = ltb-true e i.len (and_parts (leb b.from e) (ltb e i.len) (and_parts (leb b.from e && ltb e i.len) (not i.masked || v 0 e) t).0).1

-- The bits of the first g registers are written, in slices that held the registers v before, and the agnostic ones are marked.
pub record MaskHolds (i : Shape) (b : Bounds) (g : ℕ) (v : Registers) (s : Slices) : Type 0 where
  pub registers : (r at : ℕ) → r < 32 → at < i.vlen → bit_in s r at ≡ cond (eqb r i.vd && (ltb at (first_of i g) && in_window i b v at)) (truth_at i v at) (v r at)
  pub free : 0 < g → i.ones ≡ true → (at : ℕ) → at < i.vlen → bit_in s free_row at ≡ is_free b.from b.until i.masked i.tail (i.masked && i.vma) (v 0) at
  pub scalar : Splatted i s

-- a bit of the mask that is not written
none_here : (a c x y : Bool) (z : Bool) → z ≡ false → cond (a && (z && c)) x y ≡ y
none_here true c x y z h = rw h refl
none_here false c x y z h = refl

-- none is written yet
none_held : (i : Shape) (b : Bounds) (v : Registers) (s : Slices) → Splatted i s → ((r at : ℕ) → r < 32 → at < i.vlen → bit_in s r at ≡ v r at) → MaskHolds i b 0 v s
none_held i b v s splatted same = record {
  registers = λ r at x h. same r at x h ∙ sym (none_here (eqb r i.vd) (in_window i b v at) (truth_at i v at) (v r at) (ltb at (first_of i 0)) (le-ltb at (first_of i 0) (omega arith)));
  free = λ p. absurd (omega arith);
  scalar = splatted;
}

-- ---- one register more

-- A row whose first bits are written gets those of the next elements: of each that is marked in the row `under`, its truth in
-- the row `from`.
packed-more : (from under to w first : ℕ) (marked truth old : ℕ → Bool) (s : Slices) → 0 < w → 32 / w * w ≡ 32
    → ((at : ℕ) → at < 32 * s.columns → bit_in s to at ≡ cond (ltb at first && marked at) (truth at) (old at))
    → ((k col : ℕ) → k * w + w ≤ 32 → col < s.columns → first + (col * (32 / w) + k) < 32 * s.columns
    → top_bit w s under (col * (32 / w) + k) ≡ marked (first + (col * (32 / w) + k)))
    → ((k col : ℕ) → k * w + w ≤ 32 → col < s.columns → first + (col * (32 / w) + k) < 32 * s.columns → marked (first + (col * (32 / w) + k)) ≡ true
    → top_bit w s from (col * (32 / w) + k) ≡ truth (first + (col * (32 / w) + k)))
    → (at : ℕ) → at < 32 * s.columns
    → bit_in (packed from under to w first s) to at ≡ cond (ltb at (first + s.columns * (32 / w)) && marked at) (truth at) (old at)
packed-more from under to w first marked truth old s pos lanes before marks tells at inside =
    let per = s.columns * (32 / w) in
    pack-here from under to w first at s inside
    ∙ ⊎_elim
    (λ (l : at < first).
    rw (leb_not first at, lt-ltb at first l, lt-ltb at (first + per) (omega arith)) (before at inside ∙ rw (lt-ltb at first l) refl))
    (λ (m : first ≤ at).
    rw (leb_not first at, le-ltb at first m) (⊎_elim
    (λ (l : at < first + per).
    let p = at - first in
    let e = in_row w s.columns p pos lanes (omega arith) in
    let number : first + (p / (32 / w) * (32 / w) + p % (32 / w)) ≡ at = omega (arith, e.back) in
    let low : first + (p / (32 / w) * (32 / w) + p % (32 / w)) < 32 * s.columns = rw number inside in
    let mark : top_bit w s under p ≡ marked at = ap (top_bit w s under) (sym e.back) ∙ marks (p % (32 / w)) (p / (32 / w)) e.fits e.inside low ∙ ap marked number in
    rw (lt-ltb p per (omega arith), lt-ltb at (first + per) l, mark)
    (⊎_elim
    (λ (t : marked at ≡ true).
    rw t (ap (top_bit w s from) (sym e.back) ∙ tells (p % (32 / w)) (p / (32 / w)) e.fits e.inside low (ap marked number ∙ t) ∙ ap truth number))
    (λ (f : marked at ≡ false). rw f (before at inside ∙ rw (le-ltb at first m) refl))
    (cases_Bool (marked at))))
    (λ (u : first + per ≤ at).
    rw (le-ltb (at - first) per (omega arith), le-ltb at (first + per) u) (before at inside ∙ rw (le-ltb at first m) refl))
    (cases_lt at (first + per))))
    (cases_lt at first)

-- the highest bits of a row other than that of the agnostic bits stay when these are marked
free-top : (i : Shape) (b : Bounds) (g w r p : ℕ) (s : Slices) → r ≢ free_row → top_bit w (replay (free_of_mask i b g) s) r p ≡ top_bit w s r p
free-top i b g w r p s other = free-rest i b g s ((p * w + (w - 1)) % 32) r ((p * w + (w - 1)) / 32) other

-- The operations on register g write its elements' bits.
next : (i : Shape) (b : Bounds) (source : ℕ → ℕ → Bool) (columns g : ℕ) (body : List MicroOp) (v : Registers) (s : Slices) → MaskLegal i source columns → s.columns ≡ columns → g < i.registers
    → Told i b g body → MaskHolds i b g v s
    → MaskHolds i b (suc g) v (replay (mask_register i b g body) s)
unfolding mask_register replay with_windows
next i b source columns g body v s legal cols lt told holds =
    let w = i.width in
    let n = 32 / w in
    let first = first_of i g in
    let pos = legal.framed.width in
    let lanes = legal.framed.lanes in
    let room = legal.framed.room in
    let long : i.vlen ≡ 32 * s.columns = rw cols legal.framed.vlen in
    let s2 = with_windows i b g s in
    let s3 = replay body s2 in
    let s4 = replay (free_of_mask i b g) s3 in
    let s5 = effect (pack_of i g) s4 in
    let all : replay (mask_register i b g body) s ≡ s5 =
    replay-append (mask_window i b g) (body ++ (free_of_mask i b g ++ pack_of i g ∷ [])) (effect (active_window i b g) s)
    ∙ replay-append body (free_of_mask i b g ++ pack_of i g ∷ []) s2
    ∙ replay-append (free_of_mask i b g) (pack_of i g ∷ []) s3 in
    let done = computed i b g body s pos lanes long told holds.scalar in
    let cols3 : s3.columns ≡ s.columns = done.columns in
    let cols4 : s4.columns ≡ s.columns = replay-columns (free_of_mask i b g) s3 ∙ cols3 in
    let long4 : i.vlen ≡ 32 * s4.columns = rw cols4 long in
    let lower : (e : ℕ) → e < 32 * s4.columns → e < i.vlen = λ e h. omega arith in
    let kept : (r at : ℕ) → r < 32 → at < i.vlen → bit_in s4 r at ≡ bit_in s r at =
    λ r at x h. let u : r ≢ free_row = omega arith in
    free-rest i b g s3 (at % 32) r (at / 32) u ∙ done.kept r at (inl x) (omega arith) in
    let agrees : (e : ℕ) → e < i.vlen → first ≤ e → bit_in s 0 e ≡ v 0 e =
    λ e h m. holds.registers 0 e (omega arith) h ∙ none_here (eqb 0 i.vd) (in_window i b v e) (truth_at i v e) (v 0 e) (ltb e first) (le-ltb e first m) in
    let sources : SameAt (source g) i.vlen (bit_in s2) v =
    λ r at x h.
    let y = legal.sources g r lt x in
    windows-bits i b g s r at (omega arith) (omega arith) ∙ holds.registers r at y.0 h
    ∙ ⊎_elim
    (λ (u : r ≡ i.vd). let z : g ≡ 0 = y.1 u in let f : first ≡ 0 = ap (first_of i) z ∙ omega arith in
    none_here (eqb r i.vd) (in_window i b v at) (truth_at i v at) (v r at) (ltb at first) (le-ltb at first (omega arith)))
    (λ (u : r ≢ i.vd). rw (ne_eqb r i.vd u) refl)
    (cases_eq r i.vd) in
    let seen : (e : ℕ) → e < i.vlen → first ≤ e → in_window i b (bit_in s) e ≡ in_window i b v e =
    λ e h m. within_same b.from i.len i.masked (bit_in s 0) (v 0) e (λ t. agrees e h m) in
    let marks : (k col : ℕ) → k * w + w ≤ 32 → col < s4.columns → first + (col * n + k) < 32 * s4.columns → top_bit w s4 active_row (col * n + k) ≡ in_window i b v (first + (col * n + k)) =
    λ k col q l h.
    let l0 : col < s.columns = rw (sym cols4) l in
    let h0 = lower (first + (col * n + k)) h in
    free-top i b g w active_row (col * n + k) s3 (omega arith) ∙ done.active k col q l0 ∙ seen (first + (col * n + k)) h0 (omega arith) in
    let truths : (k col : ℕ) → k * w + w ≤ 32 → col < s4.columns → first + (col * n + k) < 32 * s4.columns → in_window i b v (first + (col * n + k)) ≡ true
    → top_bit w s4 truth_row (col * n + k) ≡ truth_at i v (first + (col * n + k)) =
    λ k col q l h t.
    let e = first + (col * n + k) in
    let l0 : col < s.columns = rw (sym cols4) l in
    let h0 = lower e h in
    let place = placed_at w n i.vlen s.columns k col 0 pos lanes long q l0 pos in
    let inside : col * n + k < i.vlen / w = rw place.per place.inside in
    free-top i b g w truth_row (col * n + k) s3 (omega arith) ∙ done.truth k col q l0 (seen e h0 (omega arith) ∙ t)
    ∙ ap (λ (c : Bool). bit_of (low 1 (i.result (bit_in s2) e c)) 0) (agrees e h0 (omega arith))
    ∙ ap (λ (z : ℕ). bit_of (low 1 z) 0) (legal.reads_only g (bit_in s2) v (col * n + k) (v 0 e) lt inside (below-len i b v e t) sources) in
    let before : (at : ℕ) → at < 32 * s4.columns → bit_in s4 i.vd at ≡ cond (ltb at first && in_window i b v at) (truth_at i v at) (v i.vd at) =
    λ at h.
    let h0 = lower at h in
    kept i.vd at room h0 ∙ holds.registers i.vd at room h0 ∙ rw (eq-eqb i.vd i.vd refl) refl in
    let per : first + s4.columns * n ≡ first_of i (suc g) =
    ap (λ (x : ℕ). first + x) (sym (per-row w i.vlen s4.columns pos lanes long4)) ∙ omega arith in
    rw all (record {
      registers = λ r at x h.
          let h4 : at < 32 * s4.columns = omega arith in
          ⊎_elim
          (λ (u : r ≡ i.vd).
          ap (λ (z : ℕ). bit_in s5 z at) u
          ∙ packed-more truth_row active_row i.vd w first (in_window i b v) (truth_at i v) (v i.vd) s4 pos lanes before marks truths at h4
          ∙ ap (λ (z : ℕ). cond (ltb at z && in_window i b v at) (truth_at i v at) (v i.vd at)) per
          ∙ sym (at_vd r i.vd (ltb at (first_of i (suc g)) && in_window i b v at) (truth_at i v at) (λ x. v x at) u))
          (λ (u : r ≢ i.vd).
          let last : bit_in s5 r at ≡ bit_in s4 r at = rw (ne_eqb r i.vd u) refl in
          last ∙ kept r at x h ∙ holds.registers r at x h ∙ rw (ne_eqb r i.vd u) refl)
          (cases_eq r i.vd);
      free = λ p ones at h.
          let h0 : at < 32 * s.columns = omega arith in
          let h3 : at < 32 * s3.columns = rw cols3 h0 in
          let u : 52 ≢ i.vd = omega arith in
          let last : bit_in s5 free_row at ≡ bit_in s4 free_row at = rw (ne_eqb 52 i.vd u) refl in
          last ∙ ⊎_elim
          (λ (z : g ≡ 0).
          let f : first ≡ 0 = ap (first_of i) z ∙ omega arith in
          ap (λ (x : ℕ). bit_in (replay (free_of_mask i b x) s3) free_row at) z ∙ free-first i b s3 at ones h3
          ∙ free_same b.from b.until i.masked i.tail i.vma (bit_in s3 0) (v 0) at (λ t. done.kept 0 at (inl (omega arith)) h0 ∙ agrees at h (omega arith)))
          (λ (z : g ≢ 0).
          ap (λ (x : Slices). bit_in x free_row at) (free-later i b g s3 z) ∙ done.kept free_row at (inr refl) h0 ∙ holds.free (omega arith) ones at h)
          (cases_eq g 0);
      scalar = λ t at l.
          let l3 : at < 32 * s3.columns = rw cols3 (rw (sym cols4) l) in
          let u : 34 ≢ i.vd = omega arith in
          rw (ne_eqb 34 i.vd u) (free-rest i b g s3 (at % 32) 34 (at / 32) (omega arith) ∙ done.scalar t at l3);
    })
  where
    at_vd : (r d : ℕ) (x t : Bool) (f : ℕ → Bool) → r ≡ d → cond (eqb r d && x) t (f r) ≡ cond x t (f d)
    at_vd r d x t f u = rw (u, eq-eqb d d refl) refl

-- the first registers of the groups, from any state that holds no bit of the mask yet
mask_runs : (i : Shape) (b : Bounds) (source : ℕ → ℕ → Bool) (columns : ℕ) (body : ℕ → List MicroOp) (v : Registers) (s : Slices) → MaskLegal i source columns → s.columns ≡ columns
    → AllTold i b body → MaskHolds i b 0 v s → (g : ℕ) → g ≤ i.registers → MaskHolds i b g v (replay (mask_registers i b body g) s)
unfolding mask_registers replay
mask_runs i b source columns body v s legal cols told start zero le = start
mask_runs i b source columns body v s legal cols told start (suc g) le =
    let done = replay (mask_registers i b body g) s in
    let c : done.columns ≡ columns = replay-columns (mask_registers i b body g) s ∙ cols in
    rw (replay-append (mask_registers i b body g) (mask_register i b g (body g)) s)
    (next i b source columns g (body g) v done legal c le (told g le) (mask_runs i b source columns body v s legal cols told start g (omega arith)))

-- ---- the mask once it is filled

-- a bit of the registers after the instruction
after-bit : (i : Shape) (v : Registers) (r at : ℕ) → at < i.vlen
    → after (mask_of i) v r at ≡ cond (eqb r i.vd) (ends i.ones i.vma i.tail (truth_at i v at) (v i.vd at) (place_in (mask_of i) (v 0) at)) (v r at)
unfolding written with_elements_in element_after
after-bit i v r at inside =
    ⊎_elim
    (λ (here : r ≡ i.vd).
    let z : i.vd - i.vd ≡ 0 = omega arith in
    let p : 0 * i.vlen + at ≡ at = omega arith in
    let d : at / 1 ≡ at = omega arith in
    let m : at % 1 ≡ 0 = omega arith in
    rw (here, eq-eqb i.vd i.vd refl, le-leb i.vd i.vd (omega arith), lt-ltb i.vd (i.vd + 1) (omega arith), z, p, d, m, one-bit i.vlen v i.vd at inside)
    (outcome-bit (mask_of i) (i.result v at (v 0 at)) (from_bool (v i.vd at)) 0 (place_in (mask_of i) (v 0) at) (omega arith)
    ∙ ap (λ (x : Bool). ends i.ones i.vma i.tail (truth_at i v at) x (place_in (mask_of i) (v 0) at)) (bit-itself (v i.vd at))))
    (λ (other : r ≢ i.vd). rw (ne_eqb r i.vd other, not_in_one i.vd 1 r refl other) refl)
    (cases_eq r i.vd)

-- What the registers hold once the bits of all elements are written and the agnostic ones are filled.
finished : (i : Shape) (b : Bounds) (source : ℕ → ℕ → Bool) (columns : ℕ) (v : Registers) (s : Slices) → MaskLegal i source columns → s.columns ≡ columns → Bounded (mask_of i) b
    → MaskHolds i b i.registers v s → (r at : ℕ) → r < 32 → at < i.vlen → bit_in (replay (mask_fill i) s) r at ≡ after (mask_of i) v r at
finished i b source columns v s legal cols bounded holds r at x h =
    let long : i.vlen ≡ 32 * s.columns = rw cols legal.framed.vlen in
    let most = first_of i i.registers in
    let within = in_window i b v at in
    let what = is_free b.from b.until i.masked i.tail (i.masked && i.vma) (v 0) at in
    let marked : (i.ones && bit_in s free_row at) ≡ (i.ones && what) =
    ⊎_elim
    (λ (t : i.ones ≡ true). ap (λ (z : Bool). i.ones && z) (holds.free legal.framed.some t at h))
    (λ (f : i.ones ≡ false). rw f refl)
    (cases_Bool i.ones) in
    let reach : (ltb at most && within) ≡ within =
    ⊎_elim
    (λ (l : at < most). ap (λ (z : Bool). z && within) (lt-ltb at most l))
    (λ (l : most ≤ at).
    let far : i.len ≤ at = omega (arith, legal.framed.length) in
    ap (λ (z : Bool). z && within) (le-ltb at most l) ∙ sym (beyond (leb b.from at) (ltb at i.len) (not i.masked || v 0 at) (le-ltb at i.len far)))
    (cases_lt at most) in
    mask_fill-here i s legal.framed.width legal.framed.lanes r at (omega arith)
    ∙ ap (λ (z : Bool). cond (eqb r i.vd && z) true (bit_in s r at)) marked
    ∙ ap (λ (z : Bool). cond (eqb r i.vd && (i.ones && what)) true z)
    (holds.registers r at x h ∙ ap (λ (z : Bool). cond (eqb r i.vd && z) (truth_at i v at) (v r at)) reach)
    ∙ both r i.vd (i.ones && what) within (truth_at i v at) (λ q. v q at)
    ∙ ap (λ (z : Bool). cond (eqb r i.vd) z (v r at)) (settled (mask_of i) b (v 0) (truth_at i v at) (v i.vd at) at bounded)
    ∙ sym (after-bit i v r at h)
  where
    beyond : (a b c : Bool) → b ≡ false → (a && b && c) ≡ false
    beyond true b c h = rw h refl
    beyond false b c h = refl

    both : (r d : ℕ) (f w t : Bool) (old : ℕ → Bool) → cond (eqb r d && f) true (cond (eqb r d && w) t (old r)) ≡ cond (eqb r d) (cond f true (cond w t (old d))) (old r)
    both r d f w t old =
        ⊎_elim
        (λ (x : r ≡ d). rw (x, eq-eqb d d refl) refl)
        (λ (x : r ≢ d). rw (ne_eqb r d x) refl)
        (cases_eq r d)

-- The registers and the fill, from any state that holds no bit of the mask yet.
rest : (i : Shape) (b : Bounds) (source : ℕ → ℕ → Bool) (columns : ℕ) (body : ℕ → List MicroOp) (v : Registers) (s : Slices) → MaskLegal i source columns → s.columns ≡ columns → Bounded (mask_of i) b
    → AllTold i b body → MaskHolds i b 0 v s → (r at : ℕ) → r < 32 → at < i.vlen → bit_in (replay (mask_registers i b body i.registers ++ mask_fill i) s) r at ≡ after (mask_of i) v r at
rest i b source columns body v s legal cols bounded told start r at x h =
    let registers = mask_registers i b body i.registers in
    let done = mask_runs i b source columns body v s legal cols told start i.registers (omega arith) in
    ap (λ (z : Slices). bit_in z r at) (replay-append registers (mask_fill i) s)
    ∙ finished i b source columns v (replay registers s) legal (replay-columns registers s ∙ cols) bounded done r at x h

pub mask_frame_law : MaskFrameLaw
unfolding mask_program
mask_frame_law i b source body v s legal bounded told same r at x h =
    let pos = legal.framed.width in
    let lanes = legal.framed.lanes in
    let vlen = legal.framed.vlen in
    let last = mask_registers i b body i.registers ++ mask_fill i in
    ⊎_elim
    (λ (t : i.splat ≡ true).
    let steps = micros i.scalar_width (splat i.scalar_width i.scalar) in
    let s1 = replay steps s in
    let start : MaskHolds i b 0 v s1 = none_held i b v s1 (splat-stands i s legal.framed.scalar_width legal.framed.scalar_lanes) (λ r at x h. splat-bits i s legal.framed.scalar_width legal.framed.scalar_lanes r at x (omega arith) ∙ same r at x h) in
    ap (λ (c : Bool). bit_in (replay (cond c steps [] ++ last) s) r at) t
    ∙ ap (λ (z : Slices). bit_in z r at) (replay-append steps last s)
    ∙ rest i b source s.columns body v s1 legal (replay-columns steps s) bounded told start r at x h)
    (λ (f : i.splat ≡ false).
    ap (λ (c : Bool). bit_in (replay (cond c (micros i.scalar_width (splat i.scalar_width i.scalar)) [] ++ last) s) r at) f
    ∙ rest i b source s.columns body v s legal refl bounded told (none_held i b v s (λ z. absurd (false≢true (sym f ∙ z))) same) r at x h)
    (cases_Bool i.splat)
