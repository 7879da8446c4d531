use Rattle.std.proofs.Common.{◌≡◌, ◌-◌, ◌<◌, [], ◌∷◌, ◌++◌, ◌∙◌, append_assoc, arith}
use Rattle.micro_ir.specs.declared.op.MicroOp.TheVariants.{Window}
use Rattle.micro_ir.specs.Pieces.{clear, above}
use Rattle.micro_ir.specs.Steps.{micro}
use Rattle.micro_ir.specs.WorkRows.{active_row}
use Rattle.row_orders.specs.Lists.{cand}
use Rattle.row_orders.proofs.Written.{begin-list}
use Rattle.row_orders.proofs.candidates.emit_beginning.Goals as goal

pub returns-clause-ops : goal.returns-clause-ops
returns-clause-ops g c =
    let w = g.W.Width.BITS in
    let some : 0 < w = let h = g.met.W.Width.least in omega arith in
    let r = c.args.source.now in
    let i = c.args.i in
    let one : c.push.new.self.ops ≡ c.args.buf.now.ops ++ Window active_row w r.first r.from r.to r.masked ∷ [] = rw c.BITS.ensures at c.push.ensures.ops in
    let two : c.emit_clear.new.buf.ops ≡ c.push.new.self.ops ++ micro w (clear w (cand i)) = rw c.candidate_row-candidates.ensures at (c.emit_clear.ensures.ops w some) in
    let last : c.emit_above.new.buf.ops ≡ c.emit_clear.new.buf.ops ++ micro w (above (active_row ∷ []) (1 ∷ []) (cand i) (w - 1) 0) =
    rw (c.BITS-2.ensures, c.candidate_row-candidates.ensures) at c.emit_above.ensures.ops in
    last ∙ rw (two, one, begin-list w r i) (simp append_assoc)
