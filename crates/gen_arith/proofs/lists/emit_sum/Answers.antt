use Rattle.std.proofs.Common.{◌≡◌, ℕ, ◌<◌, [], ◌∷◌, ◌++◌, ◌∙◌, append_assoc, arith}
use Rattle.micro_ir.specs.Steps.{micro, micros}
use Rattle.micro_ir.specs.WorkRows.{carry_row, result_row}
use Rattle.micro_ir.specs.Pieces.{above, clear, commit}
use Rattle.gen_arith.specs.Recipes.{ripple}
use Rattle.gen_arith.specs.Kinds.{sum_tables}
use Rattle.gen_arith.proofs.Rows.{both-apart}
use Rattle.gen_arith.proofs.Written.{sum-list}
use Rattle.gen_arith.proofs.Families.{sum-realises, sum-measured}
use Rattle.gen_arith.proofs.lists.emit_sum.Goals as goal

pub returns-clause-ops : goal.returns-clause-ops
returns-clause-ops g c =
    let w : ℕ = g.W.Width.BITS in
    let some : 0 < w = let h = g.met.W.Width.least in omega arith in
    let at = c.args.at.now in
    let k = sum_tables c.args.kind in
    let carry : c.emit_clear.new.buf.ops ≡ c.args.buf.now.ops ++ micro w (clear w carry_row) = c.emit_clear.ensures.ops w some in
    let start : c.emit_start.new.buf.ops ≡ c.emit_clear.new.buf.ops ++ micro w (above k.from k.from_on carry_row 0 0) = rw (c.sum_start.ensures.rows, c.sum_start.ensures.values) at c.emit_start.ensures.ops in
    let result : c.emit_clear-2.new.buf.ops ≡ c.emit_start.new.buf.ops ++ micro w (clear w result_row) = c.emit_clear-2.ensures.ops w some in
    let digits : c.emit_digits.new.buf.ops ≡ c.emit_clear-2.new.buf.ops ++ micros w (ripple w (carry_row ∷ at.a ∷ at.b ∷ []) k.digits k.carries carry_row result_row w) =
    rw (c.sum_digits.ensures, c.sum_carries.ensures) at c.emit_digits.ensures.ops in
    let last : c.emit_commit.new.buf.ops ≡ c.emit_digits.new.buf.ops ++ micros w (commit w result_row at.to) = c.emit_commit.ensures.ops w some in
    last ∙ rw (digits, result, start, carry, sum-list k w at.a at.b at.to) (simp append_assoc)

pub returns-clause-realises : goal.returns-clause-realises
returns-clause-realises g c =
    let w : ℕ = g.W.Width.BITS in
    let some : 0 < w = let h = g.met.W.Width.least in omega arith in
    let at = c.args.at.now in
    sum-realises c.args.kind w at some (both-apart 35 36 at.a at.b (omega arith, omega arith) (omega arith, omega arith) c.requires.a c.requires.b) c.requires.to

pub returns-clause-cost : goal.returns-clause-cost
returns-clause-cost g c =
    let w : ℕ = g.W.Width.BITS in
    let some : 0 < w = let h = g.met.W.Width.least in omega arith in
    sum-measured c.args.kind w c.args.at.now some c.requires.to
