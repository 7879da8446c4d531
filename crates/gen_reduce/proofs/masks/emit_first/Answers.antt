use Rattle.std.proofs.Common.{◌≡◌, ℕ, Bool, true, false, List, [], ◌∷◌, ◌++◌, ◌∙◌, append_assoc}
use Rattle.micro_ir.specs.declared.op.MicroOp.TheVariants.{Search, First}
use Rattle.micro_ir.specs.WorkRows.{active_row}
use Rattle.gen_reduce.proofs.Costs.{every-is, first-measured}
use Rattle.gen_reduce.proofs.MaskLaws.{first-makes}
use Rattle.gen_reduce.proofs.masks.emit_first.Goals as goal

pub returns-clause-ops : goal.returns-clause-ops
returns-clause-ops g c =
    let keys : List (ℕ × Bool) = (active_row, true) ∷ (c.args.at.now.a, true) ∷ [] in
    let one : c.push.new.self.ops ≡ c.args.buf.now.ops ++ Search 4294967295 keys false ∷ [] = rw c.in-Some.ensures.value at c.push.ensures.ops in
    let last : c.push-2.new.self.ops ≡ c.push.new.self.ops ++ First ∷ [] = c.push-2.ensures.ops in
    last ∙ rw (one, every-is) (simp append_assoc)

pub returns-clause-cost : goal.returns-clause-cost
returns-clause-cost g c = first-measured c.args.at.now.a

pub returns-clause-number : goal.returns-clause-number
returns-clause-number g c = first-makes c.args.at.now.a
