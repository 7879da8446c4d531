use Rattle.std.proofs.Common.{◌≡◌, ℕ, ◌+◌, ◌<◌, [], ◌∷◌, ◌++◌, length, ◌∙◌, append_assoc, arith}
use Rattle.micro_ir.specs.Steps.{micro}
use Rattle.micro_ir.specs.Tables.{values_of, step_list}
use Rattle.micro_ir.specs.WorkRows.{carry_row, result_row}
use Rattle.micro_ir.specs.Pieces.{above, clear}
use Rattle.micro_ir.specs.Increments.{step_inputs}
use Rattle.micro_ir.proofs.Incrementing.{increments, increment-cost, increment-list, start-list, start-length, stays-still, new-without}
use Rattle.micro_ir.proofs.increments.emit_increment.Goals as goal

pub emit_table-requires-clause-moved : goal.emit_table-requires-clause-moved
emit_table-requires-clause-moved g c =
    let step = c.args.step.now in
    rw c.requires.still (stays-still g.W.Width.BITS step.subs step.up c.requires.lowest)

pub emit_clear-requires-2-clause-room : goal.emit_clear-requires-2-clause-room
emit_clear-requires-2-clause-room g c =
    let step = c.args.step.now in
    let on = values_of step.on in
    let long : length (step_list step) ≡ length on + 1 = rw c.requires.still (start-length step.subs (step_inputs step) on step.out step.up c.requires.inputs c.requires.some) in
    let h = g.met.W.Width.least in
    omega (arith, c.requires.room, c.emit_table.ensures.spare, c.emit_clear.ensures.spare, long, h)

pub emit_half_sums-requires-clause-room : goal.emit_half_sums-requires-clause-room
emit_half_sums-requires-clause-room g c =
    let step = c.args.step.now in
    let on = values_of step.on in
    let long : length (step_list step) ≡ length on + 1 = rw c.requires.still (start-length step.subs (step_inputs step) on step.out step.up c.requires.inputs c.requires.some) in
    let h = g.met.W.Width.least in
    omega (arith, c.requires.room, c.emit_clear-2.ensures.spare, c.emit_table.ensures.spare, c.emit_clear.ensures.spare, long, h)

pub returns-clause-ops : goal.returns-clause-ops
returns-clause-ops g c =
    let w : ℕ = g.W.Width.BITS in
    let some : 0 < w = let h = g.met.W.Width.least in omega arith in
    let step = c.args.step.now in
    let inputs = step_inputs step in
    let on = values_of step.on in
    let carry : c.emit_clear.new.buf.ops ≡ c.args.buf.now.ops ++ micro w (clear w carry_row) = c.emit_clear.ensures.ops w some in
    let is : step_list step ≡ micro w (above inputs on carry_row 0 0) =
    rw (c.requires.still, c.requires.out) (start-list w step.subs inputs on carry_row step.up some c.requires.lowest c.requires.inputs) in
    let start : c.emit_table.new.buf.ops ≡ c.emit_clear.new.buf.ops ++ micro w (above inputs on carry_row 0 0) = rw is at c.emit_table.ensures.ops in
    let result : c.emit_clear-2.new.buf.ops ≡ c.emit_table.new.buf.ops ++ micro w (clear w result_row) = c.emit_clear-2.ensures.ops w some in
    c.emit_half_sums.ensures.ops ∙ rw (result, start, carry, increment-list w c.args.from inputs on) (simp append_assoc)

pub returns-clause-spare : goal.returns-clause-spare
returns-clause-spare g c =
    let step = c.args.step.now in
    let inputs = step_inputs step in
    let on = values_of step.on in
    let long : length (step_list step) ≡ length on + 1 = rw c.requires.still (start-length step.subs inputs on step.out step.up c.requires.inputs c.requires.some) in
    let h = g.met.W.Width.least in
    omega (arith, c.emit_half_sums.ensures.spare, c.emit_clear-2.ensures.spare, c.emit_table.ensures.spare, c.emit_clear.ensures.spare, long, h)

pub returns-clause-effect : goal.returns-clause-effect
returns-clause-effect g c =
    let w : ℕ = g.W.Width.BITS in
    let some : 0 < w = let h = g.met.W.Width.least in omega arith in
    let step = c.args.step.now in
    increments w c.args.from (step_inputs step) (values_of step.on) some (new-without carry_row (step_inputs step) 0 (rw c.requires.out at c.requires.apart)) c.requires.apart_carry c.requires.apart_result

pub returns-clause-cost : goal.returns-clause-cost
returns-clause-cost g c =
    let w : ℕ = g.W.Width.BITS in
    let some : 0 < w = let h = g.met.W.Width.least in omega arith in
    let step = c.args.step.now in
    increment-cost w c.args.from (step_inputs step) (values_of step.on) some c.requires.some
