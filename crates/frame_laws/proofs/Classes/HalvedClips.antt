-- The flag of an instruction whose elements are half as wide as those of its first operand.
use Rattle.std.proofs.Common.{◌≡◌, ℕ, zero, suc, ◌+◌, ◌*◌, ◌/◌, ◌%◌, ◌<◌, ◌≤◌, Bool, true, false, cond, ◌&&◌, List, [], ◌∷◌, ◌++◌, refl, sym, ◌∙◌, ap, arith}
use Rattle.std.proofs.lemmas.Nat.{div-add-mod'}
use Rattle.bit_rows.specs.Slices.{Slices}
use Rattle.cam_chain.specs.Views.{registers_of}
use Rattle.steer_net.specs.Network.{bit_in, is_within}
use Rattle.steer_net.specs.Moves.{per_row}
use Rattle.element_ops.specs.Elements.{bits_of, mask_bit_of}
use Rattle.element_ops.specs.Places.{is_active}
use Rattle.fold_laws.specs.Folds.{any}
use Rattle.fold_laws.proofs.Anys.{any-same}
use Rattle.micro_ir.specs.declared.op.MicroOp.{MicroOp}
use Rattle.micro_ir.specs.declared.op.MicroOp.TheVariants.{Narrow}
use Rattle.micro_ir.specs.Pieces.{commit}
use Rattle.micro_ir.specs.Replay.{replay, clips, all_keep_control}
use Rattle.micro_ir.specs.Steps.{micros}
use Rattle.micro_ir.specs.WorkRows.{active_row, truth_row}
use Rattle.micro_ir.proofs.Keeping.{micros-keep}
use Rattle.micro_ir.proofs.Lists.{keep-append, clips-append, clips-none, or_false}
use Rattle.row_views.specs.Clips.{clip_test}
use Rattle.row_views.specs.Views.{view}
use Rattle.row_views.proofs.Clips.{clip_test-clips}
use Rattle.row_views.proofs.Views.{spot, view-element, view-in}
use Rattle.frame_laws.specs.Shapes.{Shape, Bounds, first_of, element_number}
use Rattle.frame_laws.specs.Meaning.{place_in}
use Rattle.frame_laws.specs.Bytes.{size_of}
use Rattle.frame_laws.specs.Clips.{TellsClips, clips_at}
use Rattle.frame_laws.specs.Classes.Operands.{Operand, group, operand_number, operand_of, laid_out}
use Rattle.frame_laws.specs.Classes.Halved.{halves_row, doubled, Pair, Lists, narrowed_flags, half_list, halves_list, flag_test, halved_list, HalfValue, HalfTest, half_clipped, half_clip, IsHalved, AllLeave, AllFlag, HalvedClipLaw}
use Rattle.frame_laws.proofs.Bytes.{bits-registers_of}
use Rattle.frame_laws.proofs.Clips.{register-elements, where_active, within-len, clip_law}
use Rattle.frame_laws.proofs.Classes.Operands.{IsShaped, same-here}
use Rattle.frame_laws.proofs.Classes.Spreading.{laid-keep}
use Rattle.frame_laws.proofs.Classes.Halves.{Done, halves-done, flags-done}
use Rattle.frame_laws.proofs.Classes.Halved.{halfway, sizes, same-number, in-count, half-shaped, double-bytes, reads, same-operands, halved-legal, halved-realised}

-- ---- the halves leave the control numbers

narrowed-keep : (lists : Lists) (wide h : ℕ) → all_keep_control (narrowed_flags lists wide h) ≡ true
narrowed-keep lists wide h = elim lists.clips as (λ x. all_keep_control (cond x (Narrow lists.flag truth_row wide h ∷ []) []) ≡ true) [
  | true ↦ refl
  | false ↦ refl
]

pub halves-keep : (w : ℕ) (with : Pair) (lists : Lists) → ((q : ℕ) → all_keep_control (lists.body q) ≡ true) → (g count : ℕ) → all_keep_control (halves_list w with lists g count) ≡ true
unfolding halves_list
halves-keep w with lists keep g zero = refl
halves-keep w with lists keep g (suc h) =
    let last : List MicroOp = Narrow lists.row halves_row (2 * w) h ∷ narrowed_flags lists (2 * w) h in
    keep-append (halves_list w with lists g h) (half_list w with lists g h) (halves-keep w with lists keep g h)
    (keep-append (laid_out with.b (2 * w) (2 * g + h)) (lists.body (2 * g + h) ++ last) (laid-keep with.b (2 * w) (2 * g + h))
    (keep-append (lists.body (2 * g + h)) last (keep (2 * g + h)) (narrowed-keep lists (2 * w) h)))

-- ---- one register

module _ (i : Shape) (b : Bounds) (with : Pair) (value : HalfValue) (test : HalfTest) (count columns g : ℕ) (lists : Lists) (halved : IsHalved i with value count columns) (leave : AllLeave i with value lists count) (flag : AllFlag i with test lists count leave.work) (below : g < i.registers) where
  -- what is told in the row of flags, once all halves are done
  listed-clips : (s : Slices) → clips (halved_list i with lists count g) s
      ≡ any (per_row i.width (replay (halves_list i.width with lists g count) s)) (λ p. view i.width (replay (halves_list i.width with lists g count) s) p active_row 0 && view i.width (replay (halves_list i.width with lists g count) s) p truth_row 0)
  listed-clips s =
      let w = i.width in
      let all = halves_list i.width with lists g count in
      let s1 = replay all s in
      let last = micros w (commit w halves_row (i.vd + g)) in
      let test_is : clips (flag_test w lists) s1 ≡ clips (clip_test w truth_row) s1 = ap (λ (x : Bool). clips (cond x (clip_test w truth_row) []) s1) flag.told in
      clips-append all (flag_test w lists ++ last) s
      ∙ rw (clips-none all s (halves-keep w with lists flag.keeps g count)) (clips-append (flag_test w lists) last s1
      ∙ rw (clips-none last (replay (flag_test w lists) s1) (micros-keep w (commit w halves_row (i.vd + g)))) (or_false (clips (flag_test w lists) s1)))
      ∙ test_is ∙ clip_test-clips w truth_row s1 halved.framed.width halved.framed.lanes

  halved-tells : TellsClips i b (half_clipped i.vlen i.width i.scalar with test) g (halved_list i with lists count g)
  unfolding TellsClips
  halved-tells s long splatted stand =
      let w = i.width in
      let n = 32 / w in
      let pos : 0 < i.width = halved.framed.width in
      let lanes = halved.framed.lanes in
      let vlen : i.vlen ≡ 32 * columns = halved.framed.vlen in
      let there : s.columns ≡ columns = omega arith in
      let s1 = replay (halves_list i.width with lists g count) s in
      let same : count ≤ count = omega arith in
      let done : Done i with value count columns g lists halved leave below s there splatted count s1 = halves-done i with value count columns g lists halved leave below s there splatted count same in
      let size = sizes i columns pos lanes halved.lanes vlen in
      let cols1 : s1.columns ≡ columns = done.columns_left in
      let per : per_row w s1 ≡ i.vlen / w = ap (λ (c : ℕ). c * (32 / w)) cols1 ∙ sym (register-elements w i.vlen columns pos lanes vlen) in
      let wanted : ℕ → Bool = λ e. half_clipped i.vlen w i.scalar with test (bit_in s) e in
      let active_at : ℕ → Bool = λ e. is_within b.from i.len i.masked (bit_in s 0) e in
      listed-clips s
      ∙ any-same (per_row w s1) (λ p. view w s1 p active_row 0 && view w s1 p truth_row 0) (λ p. active_at (first_of i g + p) && wanted (first_of i g + p)) (λ p l.
      let here = spot w n s1.columns p pos lanes l in
      let inside : p / n < s.columns = rw (there, sym cols1) here.inside in
      let in_s : p < per_row w s = rw (there, sym cols1) l in
      let place : p * w + 0 < 32 * columns = rw (sym cols1) (here.here 0 pos) in
      let number_is : element_number i g (p % n) (p / n) ≡ first_of i g + p = ap (λ (x : ℕ). first_of i g + x) (div-add-mod' p n) in
      let act : view w s1 p active_row 0 ≡ active_at (first_of i g + p) =
      view-in w s1 p active_row 0 pos ∙ done.kept active_row (p * w + 0) (omega arith) place ∙ sym (view-in w s p active_row 0 pos)
      ∙ ap (λ (f : ℕ → ℕ → Bool). f active_row 0) (view-element w s p pos lanes in_s)
      ∙ stand.active (p % n) (p / n) 0 here.fits inside pos ∙ ap active_at number_is in
      ap (λ (x : Bool). x && view w s1 p truth_row 0) act
      ∙ where_active (active_at (first_of i g + p)) (view w s1 p truth_row 0) (wanted (first_of i g + p)) (λ t.
      let h = halfway (columns * (32 / (2 * i.width))) p (let m : p < columns * (32 / w) = rw (sym cols1) l in omega (arith, size.lanes)) in
      let within : h.t < count = in-count i with value count columns halved size g p h.t h.rest h.is h.first (within-len b.from i.len i.masked (bit_in s 0) (first_of i g + p) t) in
      view-in w s1 p truth_row 0 pos
      ∙ ap (λ (x : ℕ). bit_in s1 truth_row (x * w + 0)) (sym h.is)
      ∙ flags-done i with value count columns g lists halved leave below s there splatted test flag count same h.t h.rest within h.inside
      ∙ ap wanted (sym (same-number i columns g h.t h.rest p size h.is))))
      ∙ ap (λ (m : ℕ). any m (λ p. active_at (first_of i g + p) && wanted (first_of i g + p))) per

-- ---- the law

pub halved_clip_law : HalvedClipLaw
unfolding bits_of
halved_clip_law i b with value test lists count s halved bounded leave flag some =
    let v = registers_of s in
    let f = halved.framed in
    let whole : 8 * (2 * i.width / 8) ≡ 2 * i.width = double-bytes i.width halved.whole in
    let same : (op : Operand) (e : ℕ) → IsShaped (doubled i) op → operand_number op i.vlen (2 * i.width) i.scalar (bits_of v) e ≡ operand_of op (size_of i) (2 * i.width) i.scalar v e =
    λ op e has. same-here (doubled i) op s e has f.vlen some whole in
    let all = i.registers * (i.vlen / i.width) in
    clip_law i b (reads with count) (halved_list i with lists count) (half_clipped i.vlen i.width i.scalar with test) (bits_of v) s (halved-legal i with value count s.columns halved) bounded
    (λ g l. halved-realised i b with value count s.columns g lists halved leave l)
    (λ g l. halved-tells i b with value test count s.columns g lists halved leave flag l)
    (λ g x y p l below less agree. let z = same-operands i with value count s.columns g p x y halved below less agree in rw (z.0, z.1) refl)
    (λ r at x h. sym (bits-registers_of s r at x (rw f.vlen at h)))
    ∙ any-same all (clips_at i (half_clipped i.vlen i.width i.scalar with test) (bits_of v)) (λ e. is_active (place_in i (mask_bit_of v 0) e) && half_clip i with test v e) (λ e l.
    ap (λ (x : Bool). is_active (place_in i (mask_bit_of v 0) e) && x) (rw (same (group with.a) e tt, same with.b e (half-shaped i with.b halved.whole halved.b)) refl))
