use Rattle.std.proofs.Common.{◌≡◌, ℕ, ◌<◌, ◌++◌, ◌∙◌, append_assoc, arith}
use Rattle.micro_ir.specs.Steps.{micros}
use Rattle.micro_ir.specs.Pieces.{commit}
use Rattle.gen_shift.proofs.Families.{width-most}
use Rattle.gen_mul.specs.Lists.{multiplying, finishing, result_row}
use Rattle.gen_mul.proofs.Costs.{product-size, product-measured}
use Rattle.gen_mul.proofs.Families.{result-past, realises-product}
use Rattle.gen_mul.proofs.Written.{product-list}
use Rattle.gen_mul.proofs.lists.emit_product.Goals as goal

pub emit_multiplying-requires-clause-room : goal.emit_multiplying-requires-clause-room
emit_multiplying-requires-clause-room g c = let h = g.met.W.Width.least in omega (arith, product-size c.args.kind g.W.Width.BITS (omega arith), c.requires.room)

pub emit_finishing-requires-clause-room : goal.emit_finishing-requires-clause-room
emit_finishing-requires-clause-room g c =
    let h = g.met.W.Width.least in omega (arith, product-size c.args.kind g.W.Width.BITS (omega arith), c.requires.room, c.emit_multiplying.ensures.spare)

pub emit_commit-requires-clause-apart : goal.emit_commit-requires-clause-apart
emit_commit-requires-clause-apart g c = let p = result-past c.args.kind g.W.Width.BITS in rw c.finished_row.ensures.row (λ q. absurd (omega (arith, p, q)))

pub emit_commit-requires-clause-room : goal.emit_commit-requires-clause-room
emit_commit-requires-clause-room g c =
    let h = g.met.W.Width.least in omega (arith, product-size c.args.kind g.W.Width.BITS (omega arith), c.requires.room, c.emit_multiplying.ensures.spare, c.emit_finishing.ensures.spare)

pub returns-clause-ops : goal.returns-clause-ops
returns-clause-ops g c =
    let w : ℕ = g.W.Width.BITS in
    let some : 0 < w = let h = g.met.W.Width.least in omega arith in
    let at = c.args.at.now in
    let first : c.emit_multiplying.new.buf.ops ≡ c.args.buf.now.ops ++ micros w (multiplying w at.a at.b) = c.emit_multiplying.ensures.ops in
    let rest : c.emit_finishing.new.buf.ops ≡ c.emit_multiplying.new.buf.ops ++ micros w (finishing c.args.kind w at.a at.b at.addend) = c.emit_finishing.ensures.ops in
    let last : c.emit_commit.new.buf.ops ≡ c.emit_finishing.new.buf.ops ++ micros w (commit w (result_row c.args.kind w) at.to) = rw c.finished_row.ensures.row at (c.emit_commit.ensures.ops w some) in
    last ∙ rw (rest, first, product-list c.args.kind w at.a at.b at.addend at.to) (simp append_assoc)

pub returns-clause-spare : goal.returns-clause-spare
returns-clause-spare g c =
    let h = g.met.W.Width.least in
    omega (arith, product-size c.args.kind g.W.Width.BITS (omega arith), c.emit_multiplying.ensures.spare, c.emit_finishing.ensures.spare, c.emit_commit.ensures.spare)

pub returns-clause-realises : goal.returns-clause-realises
returns-clause-realises g c =
    let h = g.met.W.Width.least in
    realises-product c.args.kind g.W.Width.BITS c.args.at.now (omega arith) c.requires.a c.requires.b c.requires.addend c.requires.to

pub returns-clause-cost : goal.returns-clause-cost
returns-clause-cost g c =
    let h = g.met.W.Width.least in
    let at = c.args.at.now in
    product-measured c.args.kind g.W.Width.BITS at.a at.b at.addend at.to (omega arith) (width-most g.W.Width.BITS g.met.W.Width.divides) c.requires.to
