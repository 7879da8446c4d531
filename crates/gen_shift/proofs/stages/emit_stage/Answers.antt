use Rattle.std.proofs.Common.{◌≡◌, ◌<◌, not, ◌++◌, ◌∙◌, append_assoc, arith}
use Rattle.micro_ir.specs.Steps.{micro, micros}
use Rattle.micro_ir.specs.Pieces.{broadcast, clear}
use Rattle.gen_shift.specs.Rows.{moved_row, shift_role}
use Rattle.gen_shift.specs.Lists.{goes_up, filling, keeping, merging, slide}
use Rattle.gen_shift.proofs.Stays.{operand-row, operand-apart, three-rows}
use Rattle.gen_shift.proofs.Written.{stage-list}
use Rattle.gen_shift.proofs.stages.emit_stage.Goals as goal

pub emit_broadcast-requires-clause-row : goal.emit_broadcast-requires-clause-row
emit_broadcast-requires-clause-row g c = operand-row c.args.b c.requires.b

pub emit_broadcast-requires-clause-apart : goal.emit_broadcast-requires-clause-apart
emit_broadcast-requires-clause-apart g c = operand-apart c.args.b c.requires.b

pub emit_everywhere-requires-clause-rows : goal.emit_everywhere-requires-clause-rows
emit_everywhere-requires-clause-rows g c = three-rows c.shift_row-former.result c.shift_row-former.ensures.row

pub returns-clause-ops : goal.returns-clause-ops
returns-clause-ops g c =
    let w = g.W.Width.BITS in
    let some : 0 < w = let h = g.met.W.Width.least in omega arith in
    let former = shift_role c.args.odd in
    let next = shift_role (not c.args.odd) in
    let amount : c.emit_broadcast.new.buf.ops ≡ c.args.buf.now.ops ++ micros w (broadcast w c.args.b c.args.bit) = c.emit_broadcast.ensures.ops in
    let cleared : c.emit_clear.new.buf.ops ≡ c.emit_broadcast.new.buf.ops ++ micro w (clear w moved_row) = c.emit_clear.ensures.ops w some in
    let moved : c.emit_slide.new.buf.ops ≡ c.emit_clear.new.buf.ops ++ micro w (slide w (goes_up c.args.kind) former moved_row c.args.by) =
    rw c.shift_row-former.ensures.role at c.emit_slide.ensures.ops in
    let filled : c.emit_filling.new.buf.ops ≡ c.emit_slide.new.buf.ops ++ micros w (filling c.args.kind w c.args.by) = c.emit_filling.ensures.ops in
    let emptied : c.emit_clear-2.new.buf.ops ≡ c.emit_filling.new.buf.ops ++ micro w (clear w next) = rw c.shift_row-next.ensures.role at (c.emit_clear-2.ensures.ops w some) in
    let kept : c.emit_keeping.new.buf.ops ≡ c.emit_clear-2.new.buf.ops ++ micros w (keeping c.args.keeps w c.args.odd c.args.by) = c.emit_keeping.ensures.ops in
    let merged : c.emit_everywhere.new.buf.ops ≡ c.emit_keeping.new.buf.ops ++ micro w (merging w c.args.odd) =
    rw (c.shift_row-former.ensures.role, c.shift_row-next.ensures.role) at (c.emit_everywhere.ensures.ops w some) in
    merged ∙ rw (kept, emptied, filled, moved, cleared, amount, stage-list c.args.kind c.args.keeps w c.args.b c.args.odd c.args.bit c.args.by) (simp append_assoc)
