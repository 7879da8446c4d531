use Rattle.std.proofs.Common.{◌≡◌, ℕ, Bool, true, false, List, [], ◌∷◌, ◌++◌, ◌∙◌, append_assoc, arith}
use Rattle.micro_ir.specs.declared.op.MicroOp.TheVariants.{Search, First, Below}
use Rattle.micro_ir.specs.Pieces.{commit}
use Rattle.micro_ir.specs.Steps.{micros}
use Rattle.micro_ir.specs.WorkRows.{active_row, result_row}
use Rattle.gen_reduce.proofs.Costs.{every-is}
use Rattle.gen_reduce.proofs.masks.emit_prefix.Goals as goal

pub returns-clause-ops : goal.returns-clause-ops
returns-clause-ops c =
    let keys : List (ℕ × Bool) = (active_row, true) ∷ (c.args.at.now.a, true) ∷ [] in
    let to = c.args.at.now.to in
    let one : c.push.new.self.ops ≡ c.args.buf.now.ops ++ Search 4294967295 keys false ∷ [] = rw c.in-Some.ensures.value at c.push.ensures.ops in
    let two : c.push-2.new.self.ops ≡ c.push.new.self.ops ++ First ∷ [] = c.push-2.ensures.ops in
    let three : c.push-3.new.self.ops ≡ c.push-2.new.self.ops ++ Below result_row c.args.how ∷ [] = c.push-3.ensures.ops in
    let last : c.emit_commit.new.buf.ops ≡ c.push-3.new.self.ops ++ micros 1 (commit 1 result_row to) = c.emit_commit.ensures.ops 1 (omega arith) in
    last ∙ rw (three, two, one, every-is) (simp append_assoc)
