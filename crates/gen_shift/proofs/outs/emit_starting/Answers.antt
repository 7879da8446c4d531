use Rattle.std.proofs.Common.{◌≡◌, ◌<◌, ◌++◌, ◌∙◌, sym, append-nil, append_assoc, arith, false}
use Rattle.micro_ir.specs.Steps.{micro}
use Rattle.micro_ir.specs.Pieces.{clear}
use Rattle.gen_shift.specs.Rows.{last_role, more_row}
use Rattle.gen_shift.proofs.Written.{starting-none, starting-some}
use Rattle.gen_shift.proofs.outs.emit_starting.Goals as goal

pub returns-then-keeps-clause-ops : goal.returns-then-keeps-clause-ops
returns-then-keeps-clause-ops g c =
    let w = g.W.Width.BITS in
    let some : 0 < w = let h = g.met.W.Width.least in omega arith in
    let first : c.emit_clear.new.buf.ops ≡ c.args.buf.now.ops ++ micro w (clear w more_row) = c.emit_clear.ensures.ops w some in
    let second : c.emit_clear-then-keeps.new.buf.ops ≡ c.emit_clear.new.buf.ops ++ micro w (clear w (last_role false)) = c.emit_clear-then-keeps.ensures.ops w some in
    second ∙ rw (first, c.if-keeps.true, starting-some w) (simp append_assoc)

pub returns-else-keeps-clause-ops : goal.returns-else-keeps-clause-ops
returns-else-keeps-clause-ops g c = rw (c.if-keeps.false, starting-none g.W.Width.BITS) (sym (append-nil _))
