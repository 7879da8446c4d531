use Rattle.std.proofs.Common.{◌≡◌, ℕ, ◌<◌, ◌++◌, ◌∙◌, append_assoc, arith}
use Rattle.micro_ir.specs.Steps.{micros}
use Rattle.micro_ir.specs.Pieces.{commit}
use Rattle.gen_shift.proofs.Families.{width-most}
use Rattle.gen_div.specs.Lists.{starting, finishing, result_row}
use Rattle.gen_div.proofs.Costs.{division-size, division-measured}
use Rattle.gen_div.proofs.Families.{result-past, realises-division}
use Rattle.gen_div.proofs.Written.{division-list}
use Rattle.gen_div.proofs.lists.emit_division.Goals as goal

pub emit_starting-requires-clause-room : goal.emit_starting-requires-clause-room
emit_starting-requires-clause-room g c = omega (arith, division-size c.args.kind g.W.Width.BITS, c.requires.room)

pub emit_finishing-requires-clause-room : goal.emit_finishing-requires-clause-room
emit_finishing-requires-clause-room g c = omega (arith, division-size c.args.kind g.W.Width.BITS, c.requires.room, c.emit_starting.ensures.spare)

pub emit_commit-requires-clause-apart : goal.emit_commit-requires-clause-apart
emit_commit-requires-clause-apart g c = let p = result-past c.args.kind g.W.Width.BITS in rw c.finished_row.ensures.row (λ q. absurd (omega (arith, p, q)))

pub emit_commit-requires-clause-room : goal.emit_commit-requires-clause-room
emit_commit-requires-clause-room g c = omega (arith, division-size c.args.kind g.W.Width.BITS, c.requires.room, c.emit_starting.ensures.spare, c.emit_finishing.ensures.spare)

pub returns-clause-ops : goal.returns-clause-ops
returns-clause-ops g c =
    let w : ℕ = g.W.Width.BITS in
    let some : 0 < w = let h = g.met.W.Width.least in omega arith in
    let at = c.args.at.now in
    let first : c.emit_starting.new.buf.ops ≡ c.args.buf.now.ops ++ micros w (starting c.args.kind w at.a at.b) = c.emit_starting.ensures.ops in
    let rest : c.emit_finishing.new.buf.ops ≡ c.emit_starting.new.buf.ops ++ micros w (finishing c.args.kind w at.a at.b) = c.emit_finishing.ensures.ops in
    let last : c.emit_commit.new.buf.ops ≡ c.emit_finishing.new.buf.ops ++ micros w (commit w (result_row c.args.kind w) at.to) = rw c.finished_row.ensures.row at (c.emit_commit.ensures.ops w some) in
    last ∙ rw (rest, first, division-list c.args.kind w at.a at.b at.to) (simp append_assoc)

pub returns-clause-spare : goal.returns-clause-spare
returns-clause-spare g c = omega (arith, division-size c.args.kind g.W.Width.BITS, c.emit_starting.ensures.spare, c.emit_finishing.ensures.spare, c.emit_commit.ensures.spare)

pub returns-clause-realises : goal.returns-clause-realises
returns-clause-realises g c =
    let h = g.met.W.Width.least in
    realises-division c.args.kind g.W.Width.BITS c.args.at.now (omega arith) c.requires.a c.requires.b c.requires.to

pub returns-clause-cost : goal.returns-clause-cost
returns-clause-cost g c =
    let h = g.met.W.Width.least in
    let at = c.args.at.now in
    division-measured c.args.kind g.W.Width.BITS at.a at.b at.to (omega arith) (width-most g.W.Width.BITS g.met.W.Width.divides) c.requires.to
