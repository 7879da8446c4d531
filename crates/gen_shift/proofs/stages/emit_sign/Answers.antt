use Rattle.std.proofs.Common.{◌≡◌, ◌<◌, ◌++◌, ◌∙◌, append_assoc, arith}
use Rattle.micro_ir.specs.Steps.{micro}
use Rattle.micro_ir.specs.Pieces.{clear}
use Rattle.gen_shift.specs.Rows.{sign_row}
use Rattle.gen_shift.proofs.Stays.{operand-row, one-row}
use Rattle.gen_shift.proofs.Written.{sign-list}
use Rattle.gen_shift.proofs.stages.emit_sign.Goals as goal

pub emit_above-requires-clause-rows : goal.emit_above-requires-clause-rows
emit_above-requires-clause-rows g c = one-row c.args.a (operand-row c.args.a c.requires.a)

pub returns-clause-ops : goal.returns-clause-ops
returns-clause-ops g c =
    let w = g.W.Width.BITS in
    let some : 0 < w = let h = g.met.W.Width.least in omega arith in
    let cleared : c.emit_clear.new.buf.ops ≡ c.args.buf.now.ops ++ micro w (clear w sign_row) = c.emit_clear.ensures.ops w some in
    c.emit_downs.ensures.ops ∙ rw (c.emit_above.ensures.ops, cleared, c.BITS.ensures, sign-list w c.args.a) (simp append_assoc)
