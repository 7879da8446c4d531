use Rattle.std.proofs.Common.{ℕ, List, ◌∙◌, ap}
use Rattle.cam_chain.specs.ChainValue.{slices_of}
use Rattle.guest_mem.specs.Pages.{written}
use Rattle.vec_mem.proofs.RunSteps.{part-taken}
use Rattle.vec_mem.proofs.runs.store_part.Goals as goal

pub returns : goal.returns
unfolding slices_of
returns c =
    c.copy_in.ensures
    ∙ ap (λ (bytes : List ℕ). record c.args.mem.now { pages = written c.args.mem.now.pages c.args.address bytes })
    (part-taken (slices_of c.args.chain.now) c.args.register c.args.low c.args.count c.read_register.new.into c.requires.register c.requires.inside c.read_register.ensures)
