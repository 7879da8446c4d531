use Rattle.std.proofs.Common.{sym, ◌∙◌}
use Rattle.cam_chain.specs.ChainValue.{slices_of}
use Rattle.reduce_tree.proofs.Firsts.{first-some, first-none}
use Rattle.micro_ir.proofs.replaying.first_tag.Goals as goal

pub returns-in-Some : goal.returns-in-Some
returns-in-Some c = c.from.ensures ∙ sym (first-some (slices_of c.args.chain.now) c.in-Some.place c.in-Some.ensures)

pub returns-in-None : goal.returns-in-None
returns-in-None c = c.from-in-None.ensures ∙ sym (first-none (slices_of c.args.chain.now) c.in-None.ensures)
