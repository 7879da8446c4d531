use Rattle.std.proofs.Common.{◌≡◌, ◌<◌, ◌++◌, ◌∙◌, append_assoc, arith}
use Rattle.micro_ir.specs.Pieces.{commit}
use Rattle.micro_ir.specs.Steps.{micros}
use Rattle.gen_shift.proofs.Families.{width-most}
use Rattle.gen_mul.specs.Fractions.{clipped_row, clipping, quotient, rounded_row}
use Rattle.gen_mul.proofs.FractionCosts.{smul-measured}
use Rattle.gen_mul.proofs.FractionLaws.{realises-smul, clips-smul}
use Rattle.gen_mul.proofs.FractionLists.{fraction-list}
use Rattle.gen_mul.proofs.smul.emit_smul.Goals as goal

pub returns-clause-ops : goal.returns-clause-ops
returns-clause-ops g c =
    let w = g.W.Width.BITS in
    let at = c.args.at.now in
    let some : 0 < w = let h = g.met.W.Width.least in omega arith in
    let moved : c.emit_doubled.new.buf.ops ≡ c.emit_both.new.buf.ops ++ micros w (quotient w) = rw c.low_row.ensures.role at c.emit_doubled.ensures.ops in
    let bounded : c.emit_clipping.new.buf.ops ≡ c.emit_flagging.new.buf.ops ++ micros w (clipping w (rounded_row at.mode)) = rw c.quotient_row.ensures.role at c.emit_clipping.ensures.ops in
    let last : c.emit_commit.new.buf.ops ≡ c.emit_test.new.buf.ops ++ micros w (commit w clipped_row at.to) = c.emit_commit.ensures.ops w some in
    last
    ∙ rw (c.emit_test.ensures.ops, bounded, c.emit_flagging.ensures.ops, c.emit_rounding.ensures.ops, moved, c.emit_both.ensures.ops, c.emit_multiplying.ensures.ops, fraction-list at.mode w at.a at.b)
    (simp append_assoc)

pub returns-clause-realises : goal.returns-clause-realises
returns-clause-realises g c =
    let h = g.met.W.Width.least in
    realises-smul g.W.Width.BITS c.args.at.now (omega arith) c.requires.a c.requires.b c.requires.to

pub returns-clause-clips : goal.returns-clause-clips
returns-clause-clips g c =
    let h = g.met.W.Width.least in
    clips-smul g.W.Width.BITS c.args.at.now (omega arith) g.met.W.Width.divides c.requires.a c.requires.b

pub returns-clause-cost : goal.returns-clause-cost
returns-clause-cost g c =
    let h = g.met.W.Width.least in
    let at = c.args.at.now in
    smul-measured at.mode g.W.Width.BITS at.a at.b at.to (omega arith) (width-most g.W.Width.BITS g.met.W.Width.divides) c.requires.to
