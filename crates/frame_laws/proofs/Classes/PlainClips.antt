-- The flag of an instruction of operands that are as wide, or laid out.
use Rattle.std.proofs.Common.{◌≡◌, ℕ, ◌+◌, ◌*◌, ◌/◌, ◌%◌, ◌<◌, Bool, ◌&&◌, List, ◌++◌, refl, sym, ◌∙◌, ap, arith}
use Rattle.std.proofs.lemmas.Nat.{div-add-mod'}
use Rattle.bit_laws.specs.Numbers.{number}
use Rattle.bit_rows.specs.Slices.{Slices}
use Rattle.cam_chain.specs.Views.{registers_of}
use Rattle.steer_net.specs.Network.{bit_in, is_within}
use Rattle.steer_net.specs.Moves.{per_row}
use Rattle.element_ops.specs.Elements.{bits_of, mask_bit_of}
use Rattle.element_ops.specs.Places.{is_active}
use Rattle.fold_laws.specs.Folds.{any}
use Rattle.fold_laws.proofs.Anys.{any-same}
use Rattle.micro_ir.specs.declared.op.MicroOp.{MicroOp}
use Rattle.micro_ir.specs.Replay.{replay, clips}
use Rattle.micro_ir.specs.Steps.{element}
use Rattle.micro_ir.specs.WorkRows.{active_row}
use Rattle.micro_ir.proofs.Lists.{clips-append, clips-none}
use Rattle.micro_ir.proofs.Lift.{replay-columns}
use Rattle.row_views.specs.Clips.{ClipsWhere}
use Rattle.row_views.specs.Views.{view}
use Rattle.row_views.proofs.Views.{spot, view-element}
use Rattle.frame_laws.specs.Shapes.{Shape, Bounds, first_of, element_number}
use Rattle.frame_laws.specs.Meaning.{place_in}
use Rattle.frame_laws.specs.Bytes.{size_of}
use Rattle.frame_laws.specs.Clips.{TellsClips, clips_at}
use Rattle.frame_laws.specs.Classes.Operands.{Operand, group, operand_number, operand_of, row_of, laid_out}
use Rattle.frame_laws.specs.Classes.Plain.{Operands, Value, with_operands, IsPlain, ClipTest, plain_clipped, plain_clip, PlainClipLaw}
use Rattle.frame_laws.proofs.Bytes.{bits-registers_of}
use Rattle.frame_laws.proofs.Clips.{register-elements, clip_law}
use Rattle.frame_laws.proofs.Classes.Operands.{IsShaped, same-here}
use Rattle.frame_laws.proofs.Classes.Spreading.{laid-keep}
use Rattle.frame_laws.proofs.Classes.Plain.{shaped, Ready, ready_slices, ready, plain-realised, reads, same-operands, plain-legal}

-- ---- a register

-- what a list tells that has what lays its operands out before it
laid-clips : (w g : ℕ) (with : Operands) (body : ℕ → List MicroOp) (s : Slices)
    → clips (with_operands w with body g) s ≡ clips (body g) (replay (laid_out with.b w g) (replay (laid_out with.a w g) s))
laid-clips w g with body s =
    let s1 = replay (laid_out with.a w g) s in
    clips-append (laid_out with.a w g) (laid_out with.b w g ++ body g) s
    ∙ rw (clips-none (laid_out with.a w g) s (laid-keep with.a w g)) (clips-append (laid_out with.b w g) (body g) s1
    ∙ rw (clips-none (laid_out with.b w g) s1 (laid-keep with.b w g)) refl)

-- the operands that a list finds in its rows are those of the registers
plain-tells : (i : Shape) (b : Bounds) (with : Operands) (value : Value) (test : ClipTest) (columns g : ℕ) (body : ℕ → List MicroOp) → IsPlain i with value columns → g < i.registers
    → ClipsWhere i.width (λ n. test (n (row_of with.a g)) (n (row_of with.b g)) (n (with.addend + g))) (body g)
    → TellsClips i b (plain_clipped i.vlen i.width i.scalar with test) g (with_operands i.width with body g)
unfolding ClipsWhere TellsClips
plain-tells i b with value test columns g body plain below tells s long splatted stand =
    let w = i.width in
    let n = 32 / w in
    let pos = plain.framed.width in
    let lanes = plain.framed.lanes in
    let s2 = ready_slices i with g s in
    let cols2 : s2.columns ≡ s.columns = replay-columns (laid_out with.b w g) (replay (laid_out with.a w g) s) ∙ replay-columns (laid_out with.a w g) s in
    let per : per_row w s2 ≡ i.vlen / w = ap (λ (c : ℕ). c * (32 / w)) cols2 ∙ sym (register-elements w i.vlen s.columns pos lanes long) in
    let a = row_of with.a g in
    let c = row_of with.b g in
    let d = with.addend + g in
    let found : ℕ → Bool = λ p. view w s2 p active_row 0 && test (number w (view w s2 p a)) (number w (view w s2 p c)) (number w (view w s2 p d)) in
    let wanted : ℕ → Bool = λ e. is_within b.from i.len i.masked (bit_in s 0) e && plain_clipped i.vlen w i.scalar with test (bit_in s) e in
    laid-clips w g with body s
    ∙ tells s2
    ∙ any-same (per_row w s2) found (λ p. wanted (first_of i g + p)) (λ p l.
    let here = spot w n s2.columns p pos lanes l in
    let inside : p / n < s.columns = rw (sym cols2) here.inside in
    let y : Ready i with g (p % n) (p / n) (bit_in s) (element w (p % n) (p / n) s) (element w (p % n) (p / n) s2) = ready i with value columns g (p % n) (p / n) s plain below long splatted here.fits inside in
    let number_is : element_number i g (p % n) (p / n) ≡ first_of i g + p = ap (λ (x : ℕ). first_of i g + x) (div-add-mod' p n) in
    ap (λ (f : ℕ → ℕ → Bool). f active_row 0 && test (number w (f a)) (number w (f c)) (number w (f d))) (view-element w s2 p pos lanes l)
    ∙ rw (y.kept active_row 0 (omega arith) pos ∙ stand.active (p % n) (p / n) 0 here.fits inside pos, y.a, y.b, y.addend) refl
    ∙ ap wanted number_is)
    ∙ ap (λ (m : ℕ). any m (λ p. wanted (first_of i g + p))) per

-- ---- the law

pub plain_clip_law : PlainClipLaw
unfolding bits_of
plain_clip_law i b with value test body s plain bounded real tells some whole =
    let v = registers_of s in
    let f = plain.framed in
    let same : (op : Operand) (e : ℕ) → IsShaped i op → operand_number op i.vlen i.width i.scalar (bits_of v) e ≡ operand_of op (size_of i) i.width i.scalar v e =
    λ op e has. same-here i op s e has f.vlen some whole in
    let all = i.registers * (i.vlen / i.width) in
    clip_law i b (reads with) (with_operands i.width with body) (plain_clipped i.vlen i.width i.scalar with test) (bits_of v) s (plain-legal i with value s.columns plain) bounded
    (λ g l. plain-realised i b with value s.columns g body plain l (real g l))
    (λ g l. plain-tells i b with value test s.columns g body plain l (tells g l))
    (λ g x y p l below less agree. let z = same-operands i with value s.columns g p x y plain below agree in rw (z.0, z.1, z.2) refl)
    (λ r at x h. sym (bits-registers_of s r at x (rw f.vlen at h)))
    ∙ any-same all (clips_at i (plain_clipped i.vlen i.width i.scalar with test) (bits_of v)) (λ e. is_active (place_in i (mask_bit_of v 0) e) && plain_clip i with test v e) (λ e l.
    ap (λ (x : Bool). is_active (place_in i (mask_bit_of v 0) e) && x) (rw (same with.a e (shaped i with.a plain.a), same with.b e (shaped i with.b plain.b), same (group with.addend) e tt) refl))
