use Rattle.std.proofs.Common.{◌≡◌, ◌<◌, ◌++◌, ◌∙◌, append_assoc, arith}
use Rattle.micro_ir.specs.Steps.{micros}
use Rattle.micro_ir.specs.Pieces.{commit}
use Rattle.gen_shift.specs.Rows.{rounded_row}
use Rattle.gen_shift.specs.Kinds.{rounding_ops}
use Rattle.gen_shift.proofs.Families.{realises-rounded, width-most}
use Rattle.gen_shift.proofs.RoundedCosts.{rounded-measured}
use Rattle.gen_shift.proofs.Written.{rounded-list}
use Rattle.gen_shift.proofs.rounding.emit_rounded.Goals as goal

pub returns-clause-ops : goal.returns-clause-ops
returns-clause-ops g c =
    let w = g.W.Width.BITS in
    let l = g.W.Width.LOG in
    let some : 0 < w = let h = g.met.W.Width.least in omega arith in
    let at = c.args.at.now in
    let raw : c.emit_rounding.new.buf.ops ≡ c.args.buf.now.ops ++ rounding_ops c.args.kind w l at = c.emit_rounding.ensures.ops in
    let last : c.emit_commit.new.buf.ops ≡ c.emit_rounding.new.buf.ops ++ micros w (commit w (rounded_row at.mode l) at.to) = rw c.rounding_row.ensures at (c.emit_commit.ensures.ops w some) in
    last ∙ rw (raw, rounded-list c.args.kind at.mode w l at.a at.b at.to) (simp append_assoc)

pub returns-clause-realises : goal.returns-clause-realises
returns-clause-realises g c =
    realises-rounded c.args.kind g.W.Width.BITS g.W.Width.LOG c.args.at.now g.met.W.Width.power c.requires.right c.requires.a c.requires.b c.requires.to

pub returns-clause-cost : goal.returns-clause-cost
returns-clause-cost g c =
    let at = c.args.at.now in
    rounded-measured c.args.kind at.mode g.W.Width.BITS g.W.Width.LOG at.a at.b g.met.W.Width.power at.to (width-most g.W.Width.BITS g.met.W.Width.divides) c.requires.to
