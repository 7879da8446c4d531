use Rattle.std.proofs.Common.{◌≡◌, false, [], ◌∷◌, ◌++◌, ◌∙◌, append_assoc}
use Rattle.micro_ir.specs.declared.op.MicroOp.TheVariants.{Search, UpdateBy}
use Rattle.micro_ir.specs.Steps.{micro}
use Rattle.micro_ir.specs.Pieces.{clear}
use Rattle.row_counts.proofs.Written.{spread-list}
use Rattle.row_counts.proofs.first.emit_spread.Goals as goal

pub returns-clause-ops : goal.returns-clause-ops
returns-clause-ops c =
    let w = c.args.width in
    let one : c.emit_clear.new.buf.ops ≡ c.args.buf.now.ops ++ micro w (clear w c.args.row) = c.emit_clear.ensures.ops w c.requires.width in
    let two : c.push.new.self.ops ≡ c.emit_clear.new.buf.ops ++ Search 4294967295 [] false ∷ [] = rw c.in-Some.ensures.value at c.push.ensures.ops in
    let last : c.push-2.new.self.ops ≡ c.push.new.self.ops ++ UpdateBy c.args.row w ∷ [] = c.push-2.ensures.ops in
    last ∙ rw (two, one, spread-list w c.args.row c.requires.width) (simp append_assoc)
