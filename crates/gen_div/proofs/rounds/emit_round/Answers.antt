use Rattle.std.proofs.Common.{◌≡◌, ℕ, not, ◌+◌, [], ◌∷◌, ◌++◌, ◌∙◌, append_assoc, arith}
use Rattle.micro_ir.specs.Steps.{micros}
use Rattle.micro_ir.specs.WorkRows.{carry_row}
use Rattle.gen_arith.specs.Recipes.{odd_on}
use Rattle.gen_shift.proofs.Stays.{operand-row}
use Rattle.row_sums.specs.Sums.{total_row, half_role, total}
use Rattle.row_sums.proofs.Fits.{three-rows}
use Rattle.gen_div.specs.Lists.{moved_row, borrow_row, borrow_last_on, entering, choosing}
use Rattle.gen_div.proofs.Costs.{total-size}
use Rattle.gen_div.proofs.Written.{round-list}
use Rattle.gen_div.proofs.rounds.emit_round.Goals as goal

pub emit_total-requires-clause-rows : goal.emit_total-requires-clause-rows
emit_total-requires-clause-rows g c = three-rows 40 c.args.b 35 (omega arith) (operand-row c.args.b c.requires.b) (omega arith)

pub emit_total-requires-clause-room : goal.emit_total-requires-clause-room
emit_total-requires-clause-room g c =
    let size = total-size g.W.Width.BITS (let h = g.met.W.Width.least in omega arith) in
    omega (arith, size, c.requires.room, c.emit_entering.ensures.spare)

pub emit_choosing-requires-clause-room : goal.emit_choosing-requires-clause-room
emit_choosing-requires-clause-room g c =
    let size = total-size g.W.Width.BITS (let h = g.met.W.Width.least in omega arith) in
    omega (arith, size, c.requires.room, c.emit_entering.ensures.spare, c.emit_total.ensures.spare)

pub returns-clause-ops : goal.returns-clause-ops
returns-clause-ops g c =
    let w : ℕ = g.W.Width.BITS in
    let q = half_role c.args.odd in
    let r = half_role (not c.args.odd) in
    let b = c.args.b in
    let bit : c.emit_entering.new.buf.ops ≡ c.args.buf.now.ops ++ micros w (entering w q r) = rw (c.half_row.ensures.role, c.half_row-next.ensures.role) at c.emit_entering.ensures.ops in
    let sum : c.emit_total.new.buf.ops ≡ c.emit_entering.new.buf.ops ++ micros w (total w (moved_row ∷ b ∷ carry_row ∷ []) odd_on borrow_last_on total_row borrow_row) = c.emit_total.ensures.ops in
    let last : c.emit_choosing.new.buf.ops ≡ c.emit_total.new.buf.ops ++ micros w (choosing w r) = rw c.half_row-next.ensures.role at c.emit_choosing.ensures.ops in
    last ∙ rw (sum, bit, round-list w b q r) (simp append_assoc)

pub returns-clause-spare : goal.returns-clause-spare
returns-clause-spare g c =
    let size = total-size g.W.Width.BITS (let h = g.met.W.Width.least in omega arith) in
    omega (arith, size, c.emit_entering.ensures.spare, c.emit_total.ensures.spare, c.emit_choosing.ensures.spare)
