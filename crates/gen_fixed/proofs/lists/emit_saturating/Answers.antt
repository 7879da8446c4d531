use Rattle.std.proofs.Common.{◌≡◌, ℕ, ◌<◌, ◌++◌, ◌∙◌, append_assoc, arith}
use Rattle.micro_ir.specs.Pieces.{commit}
use Rattle.micro_ir.specs.Steps.{micros}
use Rattle.micro_ir.specs.WorkRows.{result_row}
use Rattle.row_views.specs.Clips.{clip_test}
use Rattle.gen_fixed.specs.Kinds.{has_sign, is_difference, saturating, flag_row}
use Rattle.gen_fixed.proofs.Costs.{saturating-measured}
use Rattle.gen_fixed.proofs.Families.{realises-saturating, clips-saturating}
use Rattle.gen_fixed.proofs.lists.emit_saturating.Goals as goal

pub returns-clause-ops : goal.returns-clause-ops
returns-clause-ops g c =
    let w : ℕ = g.W.Width.BITS in
    let some : 0 < w = let h = g.met.W.Width.least in omega arith in
    let at = c.args.at.now in
    let kind = c.args.kind in
    let first : c.emit_clipped.new.buf.ops ≡ c.args.buf.now.ops ++ micros w (saturating (has_sign kind) (is_difference kind) w at.a at.b) =
    rw (c.is_signed-sign.ensures, c.is_less.ensures) at c.emit_clipped.ensures.ops in
    let test : c.emit_test.new.buf.ops ≡ c.emit_clipped.new.buf.ops ++ clip_test w (flag_row (has_sign kind)) = rw (c.told_row.ensures.row, c.is_signed-sign.ensures) at c.emit_test.ensures.ops in
    let last : c.emit_commit.new.buf.ops ≡ c.emit_test.new.buf.ops ++ micros w (commit w result_row at.to) = c.emit_commit.ensures.ops w some in
    last ∙ rw (test, first) (simp append_assoc)

pub returns-clause-realises : goal.returns-clause-realises
returns-clause-realises g c = let h = g.met.W.Width.least in realises-saturating c.args.kind g.W.Width.BITS c.args.at.now (omega arith) c.requires.a c.requires.b c.requires.to

pub returns-clause-clips : goal.returns-clause-clips
returns-clause-clips g c = let h = g.met.W.Width.least in clips-saturating c.args.kind g.W.Width.BITS c.args.at.now (omega arith) g.met.W.Width.divides c.requires.a c.requires.b

pub returns-clause-cost : goal.returns-clause-cost
returns-clause-cost g c =
    let h = g.met.W.Width.least in
    let at = c.args.at.now in
    saturating-measured c.args.kind g.W.Width.BITS at.a at.b at.to (omega arith) c.requires.to
