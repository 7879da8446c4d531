use Rattle.std.proofs.Common.{◌≡◌, ◌<◌, ◌++◌, ◌∙◌, append_assoc, arith}
use Rattle.micro_ir.specs.Pieces.{clear}
use Rattle.micro_ir.specs.Steps.{micro}
use Rattle.gen_mul.specs.Fractions.{overflow_row}
use Rattle.gen_mul.proofs.FractionLists.{flagging-list}
use Rattle.gen_mul.proofs.fractions.emit_flagging.Goals as goal

pub returns-clause-ops : goal.returns-clause-ops
returns-clause-ops g c =
    let w = g.W.Width.BITS in
    let some : 0 < w = let h = g.met.W.Width.least in omega arith in
    let cleared : c.emit_clear.new.buf.ops ≡ c.args.buf.now.ops ++ micro w (clear w overflow_row) = c.emit_clear.ensures.ops w some in
    c.emit_downs.ensures.ops ∙ rw (c.emit_above.ensures.ops, cleared, c.BITS.ensures, flagging-list w) (simp append_assoc)
