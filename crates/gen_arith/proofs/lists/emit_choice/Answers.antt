use Rattle.std.proofs.Common.{◌≡◌, ℕ, ◌-◌, ◌<◌, true, [], ◌∷◌, ◌++◌, ◌∙◌, append_assoc, arith}
use Rattle.micro_ir.specs.Steps.{micro, micros}
use Rattle.micro_ir.specs.WorkRows.{result_row, truth_row}
use Rattle.micro_ir.specs.Pieces.{clear, commit, downs, everywhere}
use Rattle.gen_arith.specs.Kinds.{truth_tables, order_of, picks_of, truth_ops}
use Rattle.gen_arith.proofs.Rows.{both-apart, not-work}
use Rattle.gen_arith.proofs.Written.{choice-list}
use Rattle.gen_arith.proofs.Families.{choice-realises, choice-measured}
use Rattle.gen_arith.proofs.lists.emit_choice.Goals as goal

pub returns-clause-ops : goal.returns-clause-ops
returns-clause-ops g c =
    let w : ℕ = g.W.Width.BITS in
    let some : 0 < w = let h = g.met.W.Width.least in omega arith in
    let at = c.args.at.now in
    let k = truth_tables (order_of c.args.kind) in
    let on = picks_of c.args.kind in
    let truths : c.emit_truth.new.buf.ops ≡ c.args.buf.now.ops ++ truth_ops (order_of c.args.kind) w at = rw c.order.ensures at c.emit_truth.ensures.ops in
    let lower : c.emit_downs.new.buf.ops ≡ c.emit_truth.new.buf.ops ++ micros w (downs truth_row (w - 1)) = rw c.BITS.ensures at c.emit_downs.ensures.ops in
    let result : c.emit_clear.new.buf.ops ≡ c.emit_downs.new.buf.ops ++ micro w (clear w result_row) = c.emit_clear.ensures.ops w some in
    let picked : c.emit_everywhere.new.buf.ops ≡ c.emit_clear.new.buf.ops ++ micro w (everywhere w (truth_row ∷ at.a ∷ at.b ∷ []) on result_row true) =
    rw c.picks.ensures at (c.emit_everywhere.ensures.ops w some) in
    let last : c.emit_commit.new.buf.ops ≡ c.emit_everywhere.new.buf.ops ++ micros w (commit w result_row at.to) = c.emit_commit.ensures.ops w some in
    last ∙ rw (picked, result, lower, truths, choice-list k on w at.a at.b at.to) (simp append_assoc)

pub returns-clause-realises : goal.returns-clause-realises
returns-clause-realises g c =
    let w : ℕ = g.W.Width.BITS in
    let some : 0 < w = let h = g.met.W.Width.least in omega arith in
    let at = c.args.at.now in
    choice-realises c.args.kind w at some (both-apart 35 41 at.a at.b (omega arith, omega arith) (omega arith, omega arith) c.requires.a c.requires.b)
    (not-work 36 at.a (omega arith) (omega arith) c.requires.a) (not-work 36 at.b (omega arith) (omega arith) c.requires.b) c.requires.to

pub returns-clause-cost : goal.returns-clause-cost
returns-clause-cost g c =
    let w : ℕ = g.W.Width.BITS in
    let some : 0 < w = let h = g.met.W.Width.least in omega arith in
    choice-measured c.args.kind w c.args.at.now some c.requires.to
