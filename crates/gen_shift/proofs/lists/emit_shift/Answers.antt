use Rattle.std.proofs.Common.{◌≡◌, ◌<◌, ◌++◌, ◌∙◌, append_assoc, arith}
use Rattle.micro_ir.specs.Steps.{micros}
use Rattle.micro_ir.specs.Pieces.{commit}
use Rattle.gen_shift.specs.Rows.{is_odd, shifted_row}
use Rattle.gen_shift.specs.Kinds.{raw_ops}
use Rattle.gen_shift.proofs.Costs.{role-row, shift-measured, shift-size}
use Rattle.gen_shift.proofs.Families.{realises-shift, width-most}
use Rattle.gen_shift.proofs.Fits.{row-high}
use Rattle.gen_shift.proofs.Written.{shift-list}
use Rattle.gen_shift.proofs.lists.emit_shift.Goals as goal

pub emit_raw-requires-clause-room : goal.emit_raw-requires-clause-room
emit_raw-requires-clause-room g c = omega (arith, c.requires.room, shift-size c.args.kind g.W.Width.BITS g.W.Width.LOG)

pub emit_commit-requires-clause-row : goal.emit_commit-requires-clause-row
emit_commit-requires-clause-row g c = rw c.raw_row.ensures (role-row (is_odd g.W.Width.LOG))

pub emit_commit-requires-clause-apart : goal.emit_commit-requires-clause-apart
emit_commit-requires-clause-apart g c = let h = row-high (is_odd g.W.Width.LOG) in rw c.raw_row.ensures (λ q. absurd (omega (arith, h, q)))

pub emit_commit-requires-clause-room : goal.emit_commit-requires-clause-room
emit_commit-requires-clause-room g c = omega (arith, c.requires.room, shift-size c.args.kind g.W.Width.BITS g.W.Width.LOG, c.emit_raw.ensures.spare)

pub returns-clause-ops : goal.returns-clause-ops
returns-clause-ops g c =
    let w = g.W.Width.BITS in
    let l = g.W.Width.LOG in
    let some : 0 < w = let h = g.met.W.Width.least in omega arith in
    let at = c.args.at.now in
    let raw : c.emit_raw.new.buf.ops ≡ c.args.buf.now.ops ++ raw_ops c.args.kind w l at = c.emit_raw.ensures.ops in
    let last : c.emit_commit.new.buf.ops ≡ c.emit_raw.new.buf.ops ++ micros w (commit w (shifted_row l) at.to) = rw c.raw_row.ensures at (c.emit_commit.ensures.ops w some) in
    last ∙ rw (raw, shift-list c.args.kind w l at.a at.b at.to) (simp append_assoc)

pub returns-clause-spare : goal.returns-clause-spare
returns-clause-spare g c = omega (arith, shift-size c.args.kind g.W.Width.BITS g.W.Width.LOG, c.emit_raw.ensures.spare, c.emit_commit.ensures.spare)

pub returns-clause-realises : goal.returns-clause-realises
returns-clause-realises g c = realises-shift c.args.kind g.W.Width.BITS g.W.Width.LOG c.args.at.now g.met.W.Width.power c.requires.a c.requires.b c.requires.to

pub returns-clause-cost : goal.returns-clause-cost
returns-clause-cost g c =
    let at = c.args.at.now in
    shift-measured c.args.kind g.W.Width.BITS g.W.Width.LOG at.a at.b at.to g.met.W.Width.power (width-most g.W.Width.BITS g.met.W.Width.divides) c.requires.to
