use Rattle.std.proofs.Common.{◌≡◌, ◌+◌, ◌*◌, ◌/◌, ◌^◌, ◌<◌, ◌≤◌, arith, refl, ◌∙◌, slice_index_or}
use Rattle.element_ops.specs.Elements.{element_at}
use Rattle.rvv_meaning.proofs.Reading.{more-bytes, few_bytes}
use Rattle.rvv_meaning.proofs.readers.el.Goals as goal

pub loop-k-preserved : goal.loop-k-preserved
loop-k-preserved c =
    let few : c.args.w / 8 ≤ 4 = few_bytes c.args.w c.requires.width in
    let byte : c.from.result < 2 ^ 8 = rw c.from.ensures ((c.type_inv.bytes (c.args.i * c.from-size.result + c.loop-k.k)).fits) in
    let within : c.loop-k.k < 4 = omega arith in
    more-bytes (λ j. slice_index_or c.args.bytes.now (c.args.i * c.from-size.result + j) 0) c.loop-k.number c.loop-k.k c.from.result c.from-in-loop-k.result
    c.loop-k.invariant.0 c.loop-k.invariant.1 c.from.ensures byte c.from-in-loop-k.ensures within

pub returns : goal.returns
unfolding element_at
returns c =
    let size : c.from-size.result ≡ c.args.w / 8 = c.from-size.ensures in
    let done : c.loop-k.k ≡ c.args.w / 8 = omega arith in
    c.loop-k.invariant.0 ∙ rw (done, size) refl
