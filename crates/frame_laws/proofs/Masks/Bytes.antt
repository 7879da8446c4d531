-- The law of masks on lists of bytes.
use Rattle.std.proofs.Common.{◌≡◌, ℕ, ◌*◌, ◌<◌, refl, sym, ◌∙◌, subst, arith, eqb}
use Rattle.cam_chain.specs.Views.{registers_of}
use Rattle.element_ops.specs.Elements.{AreRegisters, bits_of}
use Rattle.element_ops.proofs.Writing.{bits-with_mask, registers-with_mask}
use Rattle.micro_ir.specs.Replay.{replay}
use Rattle.micro_ir.proofs.Lift.{replay-columns}
use Rattle.frame_laws.specs.Bytes.{bit_of_after, mask_after}
use Rattle.frame_laws.proofs.Bytes.{same_registers, are-registers_of, bits-registers_of, after-mask}
use Rattle.frame_laws.specs.Masks.Programs.{mask_of, mask_program}
use Rattle.frame_laws.specs.Masks.Laws.{MaskLaw}
use Rattle.frame_laws.proofs.Masks.Frames.{mask_frame_law}

pub mask_law : MaskLaw
mask_law i b source body value s legal bounded told some results =
    let v = registers_of s in
    let t = replay (mask_program i b body) s in
    let size = 4 * s.columns in
    let cols : t.columns ≡ s.columns = replay-columns (mask_program i b body) s in
    let vlen : i.vlen ≡ 32 * s.columns = legal.framed.vlen in
    let are : AreRegisters size v = are-registers_of s in
    let are_t : AreRegisters size (registers_of t) = subst (λ n. AreRegisters (4 * n) (registers_of t)) cols (are-registers_of t) in
    let bit = λ (e : ℕ). eqb (bit_of_after (mask_of i) value v e) 1 in
    same_registers size (registers_of t) (mask_after (mask_of i) value v) are_t (registers-with_mask size v i.vd bit are) (λ r k register inside.
    let in_t : k < 32 * t.columns = rw cols (omega arith) in
    let in_v : k < i.vlen = omega arith in
    bits-registers_of t r k register in_t
    ∙ mask_frame_law i b source body (bits_of v) s legal bounded told (λ r at x h. sym (bits-registers_of s r at x (rw vlen at h))) r k register in_v
    ∙ after-mask (mask_of i) value v r k refl refl in_v (results k)
    ∙ sym (bits-with_mask size v i.vd bit r k are register inside))
