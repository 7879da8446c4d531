use Rattle.std.proofs.Common.{◌≡◌, ◌<◌, true, false, [], ◌∷◌, ◌++◌, ◌∙◌, append_assoc, arith}
use Rattle.micro_ir.specs.Steps.{micro, micros}
use Rattle.micro_ir.specs.Pieces.{clear, everywhere}
use Rattle.gen_shift.specs.Rows.{shift_role}
use Rattle.gen_shift.specs.Lists.{signing, starting, stages}
use Rattle.gen_shift.proofs.Costs.{raw-size}
use Rattle.gen_shift.proofs.Stays.{operand-row, one-row}
use Rattle.gen_shift.proofs.Written.{shifting-list}
use Rattle.gen_shift.proofs.lists.emit_shifting.Goals as goal

pub emit_signing-requires-clause-room : goal.emit_signing-requires-clause-room
emit_signing-requires-clause-room g c = omega (arith, c.requires.room, c.emit_starting.ensures.spare, raw-size c.args.kind c.args.keeps g.W.Width.BITS g.W.Width.LOG)

pub emit_clear-requires-clause-room : goal.emit_clear-requires-clause-room
emit_clear-requires-clause-room g c = omega (arith, c.requires.room, raw-size c.args.kind c.args.keeps g.W.Width.BITS g.W.Width.LOG, c.emit_starting.ensures.spare, c.emit_signing.ensures.spare)

pub emit_everywhere-requires-clause-rows : goal.emit_everywhere-requires-clause-rows
emit_everywhere-requires-clause-rows g c = one-row c.args.at.now.a (operand-row c.args.at.now.a c.requires.a)

pub emit_everywhere-requires-clause-room : goal.emit_everywhere-requires-clause-room
emit_everywhere-requires-clause-room g c = omega (arith, c.requires.room, raw-size c.args.kind c.args.keeps g.W.Width.BITS g.W.Width.LOG, c.emit_starting.ensures.spare, c.emit_signing.ensures.spare, c.emit_clear.ensures.spare)

pub emit_stages-requires-clause-room : goal.emit_stages-requires-clause-room
emit_stages-requires-clause-room g c =
    omega (arith, c.requires.room, raw-size c.args.kind c.args.keeps g.W.Width.BITS g.W.Width.LOG, c.emit_starting.ensures.spare, c.emit_signing.ensures.spare, c.emit_clear.ensures.spare, c.emit_everywhere.ensures.spare)

pub returns-clause-ops : goal.returns-clause-ops
returns-clause-ops g c =
    let w = g.W.Width.BITS in
    let l = g.W.Width.LOG in
    let some : 0 < w = let h = g.met.W.Width.least in omega arith in
    let at = c.args.at.now in
    let starts : c.emit_starting.new.buf.ops ≡ c.args.buf.now.ops ++ micros w (starting c.args.keeps w) = c.emit_starting.ensures.ops in
    let signs : c.emit_signing.new.buf.ops ≡ c.emit_starting.new.buf.ops ++ micros w (signing c.args.kind w at.a) = c.emit_signing.ensures.ops in
    let cleared : c.emit_clear.new.buf.ops ≡ c.emit_signing.new.buf.ops ++ micro w (clear w (shift_role false)) = c.emit_clear.ensures.ops w some in
    let copied : c.emit_everywhere.new.buf.ops ≡ c.emit_clear.new.buf.ops ++ micro w (everywhere w (at.a ∷ []) (1 ∷ []) (shift_role false) true) = c.emit_everywhere.ensures.ops w some in
    let last : c.emit_stages.new.buf.ops ≡ c.emit_everywhere.new.buf.ops ++ micros w (stages c.args.kind c.args.keeps w at.b l) = c.emit_stages.ensures.ops in
    last ∙ rw (copied, cleared, signs, starts, shifting-list c.args.kind c.args.keeps w l at.a at.b) (simp append_assoc)

pub returns-clause-spare : goal.returns-clause-spare
returns-clause-spare g c =
    omega (arith, raw-size c.args.kind c.args.keeps g.W.Width.BITS g.W.Width.LOG, c.emit_starting.ensures.spare, c.emit_signing.ensures.spare, c.emit_clear.ensures.spare, c.emit_everywhere.ensures.spare, c.emit_stages.ensures.spare)
