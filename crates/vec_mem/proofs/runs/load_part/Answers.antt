use Rattle.std.proofs.Common.{◌+◌, ◌-◌, refl, ◌∙◌, ap, arith}
use Rattle.cam_chain.specs.ChainValue.{slices_of}
use Rattle.guest_mem.specs.Ranges.{range_bytes}
use Rattle.vec_mem.specs.Runs.{byte_after}
use Rattle.vec_mem.proofs.RunBytes.{run-of-register}
use Rattle.vec_mem.proofs.RunSteps.{part-bytes, part-small, cut-long, cut-form}
use Rattle.vec_mem.proofs.runs.load_part.Goals as goal

pub returns-clause-vectors : goal.returns-clause-vectors
unfolding slices_of
returns-clause-vectors c =
    let b = c.read_register.new.into in
    let taken = c.copy_out.ensures.bytes ∙ ap (range_bytes c.args.mem.now.pages c.args.address) (cut-long c.args.low c.args.count b (omega arith)) in
    c.write_register.ensures.vectors
    ∙ run-of-register (slices_of c.args.chain.now) c.args.register c.args.low (c.args.low + c.args.count) _ (λ p. byte_after c.args.mem.now.pages c.args.address (p - c.args.low)) c.requires.register c.requires.inside
    (part-bytes (slices_of c.args.chain.now) c.args.mem.now.pages c.args.register c.args.low c.args.count c.args.address b c.copy_out.new.into _ c.ranges.address.fits c.requires.inside c.read_register.ensures taken
    (cut-form c.args.low c.args.count b c.copy_out.new.into c.copy_out.new.into refl))

pub returns-clause-bytes : goal.returns-clause-bytes
returns-clause-bytes c k inside =
    let b = c.read_register.new.into in
    let taken = c.copy_out.ensures.bytes ∙ ap (range_bytes c.args.mem.now.pages c.args.address) (cut-long c.args.low c.args.count b (omega arith)) in
    part-small c.args.mem.now.pages c.args.count c.args.address k c.copy_out.new.into c.ranges.address.fits taken (c.copy_out.ensures.small k) inside
