use Rattle.std.proofs.Common.{◌≡◌, ◌≢◌, true, ◌++◌, ◌∙◌, append_assoc, arith}
use Rattle.micro_ir.specs.Steps.{micros}
use Rattle.gen_shift.specs.Rows.{shifted_row, last_row, more_row}
use Rattle.gen_shift.specs.Lists.{shifting, mode_steps}
use Rattle.gen_shift.proofs.Families.{leaves-rounded, width-most}
use Rattle.gen_shift.proofs.RoundedCosts.{rounding-measured}
use Rattle.gen_shift.proofs.Written.{rounding-up}
use Rattle.gen_shift.proofs.rounding.emit_rounding.Goals as goal

pub returns-then-at-eq-DOWN-clause-leaves : goal.returns-then-at-eq-DOWN-clause-leaves
returns-then-at-eq-DOWN-clause-leaves g c = leaves-rounded c.args.kind g.W.Width.BITS g.W.Width.LOG c.args.at.now g.met.W.Width.power c.requires.right c.requires.a c.requires.b

pub returns-else-at-eq-DOWN-clause-leaves : goal.returns-else-at-eq-DOWN-clause-leaves
returns-else-at-eq-DOWN-clause-leaves g c = leaves-rounded c.args.kind g.W.Width.BITS g.W.Width.LOG c.args.at.now g.met.W.Width.power c.requires.right c.requires.a c.requires.b

pub returns-else-at-eq-DOWN-clause-ops : goal.returns-else-at-eq-DOWN-clause-ops
returns-else-at-eq-DOWN-clause-ops g c =
    let w = g.W.Width.BITS in
    let l = g.W.Width.LOG in
    let at = c.args.at.now in
    let other : at.mode ≢ 2 = λ q. absurd (omega (arith, c.if-at-eq-DOWN.false, q)) in
    let first : c.emit_shifting.new.buf.ops ≡ c.args.buf.now.ops ++ micros w (shifting c.args.kind true w l at.a at.b) = c.emit_shifting.ensures.ops in
    let last : c.emit_rest.new.buf.ops ≡ c.emit_shifting.new.buf.ops ++ micros w (mode_steps w at.mode (shifted_row l) (last_row l) more_row) = c.emit_rest.ensures.ops in
    last ∙ rw (first, rounding-up c.args.kind at.mode w l at.a at.b other) (simp append_assoc)

pub returns-else-at-eq-DOWN-clause-cost : goal.returns-else-at-eq-DOWN-clause-cost
returns-else-at-eq-DOWN-clause-cost g c =
    let at = c.args.at.now in
    rounding-measured c.args.kind at.mode g.W.Width.BITS g.W.Width.LOG at.a at.b g.met.W.Width.power (width-most g.W.Width.BITS g.met.W.Width.divides)
