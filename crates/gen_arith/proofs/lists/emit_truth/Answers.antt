use Rattle.std.proofs.Common.{◌≡◌, ℕ, ◌-◌, ◌<◌, [], ◌∷◌, ◌++◌, ◌∙◌, append_assoc, arith}
use Rattle.micro_ir.specs.Steps.{micro, micros}
use Rattle.micro_ir.specs.WorkRows.{carry_row, truth_row}
use Rattle.micro_ir.specs.Pieces.{above, clear}
use Rattle.gen_arith.specs.Recipes.{ripple}
use Rattle.gen_arith.specs.Kinds.{truth_tables}
use Rattle.gen_arith.proofs.Rows.{both-apart}
use Rattle.gen_arith.proofs.Written.{truth-list}
use Rattle.gen_arith.proofs.Families.{truth-tells, truth-measured}
use Rattle.gen_arith.proofs.lists.emit_truth.Goals as goal

pub returns-clause-ops : goal.returns-clause-ops
returns-clause-ops g c =
    let w : ℕ = g.W.Width.BITS in
    let some : 0 < w = let h = g.met.W.Width.least in omega arith in
    let at = c.args.at.now in
    let k = truth_tables c.args.kind in
    let carry : c.emit_clear.new.buf.ops ≡ c.args.buf.now.ops ++ micro w (clear w carry_row) = c.emit_clear.ensures.ops w some in
    let truth : c.emit_clear-2.new.buf.ops ≡ c.emit_clear.new.buf.ops ++ micro w (clear w truth_row) = c.emit_clear-2.ensures.ops w some in
    let start : c.emit_start.new.buf.ops ≡ c.emit_clear-2.new.buf.ops ++ micro w (above k.from k.from_on carry_row 0 0) = rw (c.truth_start.ensures.rows, c.truth_start.ensures.values) at c.emit_start.ensures.ops in
    let carries : c.emit_carries.new.buf.ops ≡ c.emit_start.new.buf.ops ++ micros w (ripple w (carry_row ∷ at.a ∷ at.b ∷ []) [] k.carries carry_row truth_row (w - 1)) =
    rw c.truth_carries.ensures at c.emit_carries.ensures.ops in
    let last : c.emit_table_at.new.buf.ops ≡ c.emit_carries.new.buf.ops ++ micro w (above (carry_row ∷ at.a ∷ at.b ∷ []) k.last truth_row (w - 1) 0) =
    rw (c.truth_last.ensures, c.BITS.ensures) at c.emit_table_at.ensures.ops in
    last ∙ rw (carries, start, truth, carry, truth-list k w at.a at.b) (simp append_assoc)

pub returns-clause-tells : goal.returns-clause-tells
returns-clause-tells g c =
    let w : ℕ = g.W.Width.BITS in
    let some : 0 < w = let h = g.met.W.Width.least in omega arith in
    let at = c.args.at.now in
    truth-tells c.args.kind w at some (both-apart 35 41 at.a at.b (omega arith, omega arith) (omega arith, omega arith) c.requires.a c.requires.b)

pub returns-clause-cost : goal.returns-clause-cost
returns-clause-cost g c =
    let w : ℕ = g.W.Width.BITS in
    let some : 0 < w = let h = g.met.W.Width.least in omega arith in
    truth-measured c.args.kind w c.args.at.now some
