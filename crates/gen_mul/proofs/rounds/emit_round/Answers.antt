use Rattle.std.proofs.Common.{◌≡◌, ℕ, not, ◌-◌, ◌++◌, ◌∙◌, append_assoc, arith, true, refl}
use Rattle.micro_ir.specs.Steps.{micros}
use Rattle.micro_ir.specs.WorkRows.{truth_row}
use Rattle.micro_ir.specs.Pieces.{broadcast}
use Rattle.gen_shift.proofs.Stays.{operand-row}
use Rattle.row_sums.specs.Sums.{total_row, half_role, halved, total}
use Rattle.row_sums.proofs.Fits.{four-rows, one-pass}
use Rattle.row_sums.proofs.Kept.{differ}
use Rattle.gen_mul.specs.Lists.{high_row, gated, gated_sum_on, gated_carry_on}
use Rattle.gen_mul.proofs.Products.{product_works}
use Rattle.gen_mul.proofs.Families.{operand-free}
use Rattle.gen_mul.proofs.Costs.{total-size}
use Rattle.gen_mul.proofs.Written.{round-list}
use Rattle.gen_mul.proofs.rounds.emit_round.Goals as goal

pub emit_broadcast-requires-clause-row : goal.emit_broadcast-requires-clause-row
emit_broadcast-requires-clause-row g c = operand-row c.args.b c.requires.b

pub emit_broadcast-requires-clause-apart : goal.emit_broadcast-requires-clause-apart
emit_broadcast-requires-clause-apart g c = differ c.args.b 37 product_works (operand-free c.args.b c.requires.b) refl

pub emit_broadcast-requires-clause-room : goal.emit_broadcast-requires-clause-room
emit_broadcast-requires-clause-room g c = omega (arith, c.requires.room)

pub emit_total-requires-clause-rows : goal.emit_total-requires-clause-rows
emit_total-requires-clause-rows g c = four-rows 35 42 c.args.a 37 (omega arith) (omega arith) (operand-row c.args.a c.requires.a) (omega arith)

pub emit_total-requires-clause-room : goal.emit_total-requires-clause-room
emit_total-requires-clause-room g c =
    let size = total-size g.W.Width.BITS (let h = g.met.W.Width.least in omega arith) in
    omega (arith, size, c.requires.room, c.emit_broadcast.ensures.spare)

pub emit_halved-requires-clause-room : goal.emit_halved-requires-clause-room
emit_halved-requires-clause-room g c =
    let size = total-size g.W.Width.BITS (let h = g.met.W.Width.least in omega arith) in
    omega (arith, size, c.requires.room, c.emit_broadcast.ensures.spare, c.emit_total.ensures.spare)

pub emit_halved-requires-2-clause-room : goal.emit_halved-requires-2-clause-room
emit_halved-requires-2-clause-room g c =
    let h = g.met.W.Width.least in
    let size = total-size g.W.Width.BITS (omega arith) in
    let one = one-pass true (c.BITS.result - 1) (omega (arith, c.BITS.ensures)) in
    omega (arith, size, one, c.requires.room, c.emit_broadcast.ensures.spare, c.emit_total.ensures.spare, c.emit_halved.ensures.spare)

pub returns-clause-ops : goal.returns-clause-ops
returns-clause-ops g c =
    let w : ℕ = g.W.Width.BITS in
    let q = half_role c.args.odd in
    let r = half_role (not c.args.odd) in
    let cast : c.emit_broadcast.new.buf.ops ≡ c.args.buf.now.ops ++ micros w (broadcast w c.args.b c.args.bit) = c.emit_broadcast.ensures.ops in
    let sum : c.emit_total.new.buf.ops ≡ c.emit_broadcast.new.buf.ops ++ micros w (total w (gated high_row c.args.a) gated_sum_on gated_carry_on total_row truth_row) = c.emit_total.ensures.ops in
    let high : c.emit_halved.new.buf.ops ≡ c.emit_total.new.buf.ops ++ micros w (halved w total_row high_row truth_row (w - 1) 0) = rw c.BITS.ensures at c.emit_halved.ensures.ops in
    let last : c.emit_halved-2.new.buf.ops ≡ c.emit_halved.new.buf.ops ++ micros w (halved w q r total_row 0 (w - 1)) =
    rw (c.BITS.ensures, c.half_row.ensures.role, c.half_row-2.ensures.role) at c.emit_halved-2.ensures.ops in
    last ∙ rw (high, sum, cast, round-list w c.args.a c.args.b q r c.args.bit) (simp append_assoc)

pub returns-clause-spare : goal.returns-clause-spare
returns-clause-spare g c =
    let h = g.met.W.Width.least in
    let size = total-size g.W.Width.BITS (omega arith) in
    let one = one-pass true (c.BITS.result - 1) (omega (arith, c.BITS.ensures)) in
    omega (arith, size, one, c.emit_broadcast.ensures.spare, c.emit_total.ensures.spare, c.emit_halved.ensures.spare, c.emit_halved-2.ensures.spare)
