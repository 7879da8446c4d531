use Rattle.std.proofs.Common.{◌≡◌, ℕ, ◌-◌, ◌<◌, ◌++◌, ◌∙◌, append_assoc, arith}
use Rattle.micro_ir.specs.Pieces.{commit}
use Rattle.micro_ir.specs.Steps.{micros}
use Rattle.micro_ir.specs.WorkRows.{truth_row}
use Rattle.gen_shift.specs.Rows.{moved_row}
use Rattle.row_sums.specs.Sums.{total_row, halved}
use Rattle.gen_fixed.specs.Kinds.{average_sign}
use Rattle.gen_fixed.specs.Lists.{carries_of, beyond_on, beyond, rounding, average_row}
use Rattle.gen_fixed.proofs.Costs.{average-measured}
use Rattle.gen_fixed.proofs.Families.{realises-average}
use Rattle.gen_fixed.proofs.Written.{halving-list, average-list}
use Rattle.gen_fixed.proofs.lists.emit_average.Goals as goal

pub returns-clause-ops : goal.returns-clause-ops
returns-clause-ops g c =
    let w : ℕ = g.W.Width.BITS in
    let some : 0 < w = let h = g.met.W.Width.least in omega arith in
    let at = c.args.at.now in
    let sign = average_sign c.args.kind in
    let first : c.emit_beyond.new.buf.ops ≡ c.args.buf.now.ops ++ micros w (beyond (carries_of at.sub) (beyond_on sign at.sub) w at.a at.b) =
    rw c.is_signed_average.ensures at c.emit_beyond.ensures.ops in
    let half : c.emit_halved.new.buf.ops ≡ c.emit_beyond.new.buf.ops ++ micros w (halved w total_row moved_row truth_row (w - 1) 0) = rw c.BITS.ensures at c.emit_halved.ensures.ops in
    let adds : c.emit_rounding.new.buf.ops ≡ c.emit_halved.new.buf.ops ++ micros w (rounding at.mode w) = c.emit_rounding.ensures.ops in
    let last : c.emit_commit.new.buf.ops ≡ c.emit_rounding.new.buf.ops ++ micros w (commit w (average_row at.mode) at.to) = rw c.averaged_row.ensures.row at (c.emit_commit.ensures.ops w some) in
    last ∙ rw (adds, half, first, average-list sign at.sub at.mode w at.a at.b at.to, halving-list (carries_of at.sub) (beyond_on sign at.sub) w at.a at.b) (simp append_assoc)

pub returns-clause-realises : goal.returns-clause-realises
returns-clause-realises g c = let h = g.met.W.Width.least in realises-average c.args.kind g.W.Width.BITS c.args.at.now (omega arith) c.requires.a c.requires.b c.requires.to

pub returns-clause-cost : goal.returns-clause-cost
returns-clause-cost g c =
    let h = g.met.W.Width.least in
    let at = c.args.at.now in
    average-measured (average_sign c.args.kind) at.sub at.mode g.W.Width.BITS at.a at.b at.to (omega arith) c.requires.to
