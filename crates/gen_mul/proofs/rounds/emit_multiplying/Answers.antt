use Rattle.std.proofs.Common.{◌≡◌, ℕ, false, ◌<◌, ◌++◌, ◌∙◌, append_assoc, arith}
use Rattle.micro_ir.specs.Steps.{micro, micros}
use Rattle.micro_ir.specs.Pieces.{clear}
use Rattle.row_sums.specs.Sums.{half_role}
use Rattle.gen_mul.specs.Lists.{high_row, product_rounds}
use Rattle.gen_mul.proofs.Written.{multiplying-list}
use Rattle.gen_mul.proofs.rounds.emit_multiplying.Goals as goal

pub returns-clause-ops : goal.returns-clause-ops
returns-clause-ops g c =
    let w : ℕ = g.W.Width.BITS in
    let some : 0 < w = let h = g.met.W.Width.least in omega arith in
    let one : c.emit_clear.new.buf.ops ≡ c.args.buf.now.ops ++ micro w (clear w high_row) = c.emit_clear.ensures.ops w some in
    let two : c.emit_clear-2.new.buf.ops ≡ c.emit_clear.new.buf.ops ++ micro w (clear w (half_role false)) = c.emit_clear-2.ensures.ops w some in
    let last : c.emit_rounds.new.buf.ops ≡ c.emit_clear-2.new.buf.ops ++ micros w (product_rounds w c.args.a c.args.b w) = c.emit_rounds.ensures.ops in
    last ∙ rw (two, one, multiplying-list w c.args.a c.args.b) (simp append_assoc)
