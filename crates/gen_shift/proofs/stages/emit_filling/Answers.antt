use Rattle.std.proofs.Common.{◌≡◌, true, false, sym, ◌∙◌, append-nil, arith}
use Rattle.gen_shift.specs.Lists.{fills}
use Rattle.gen_shift.proofs.Written.{filling-none, filling-some}
use Rattle.gen_shift.proofs.stages.emit_filling.Goals as goal

pub emit_top-requires-clause-room : goal.emit_top-requires-clause-room
emit_top-requires-clause-room g c =
    let comes : fills c.args.kind ≡ true = sym c.is_signed.ensures ∙ c.if-is_signed.true in
    rw comes at c.requires.room

pub returns-then-is_signed-clause-ops : goal.returns-then-is_signed-clause-ops
returns-then-is_signed-clause-ops g c =
    let comes : fills c.args.kind ≡ true = sym c.is_signed.ensures ∙ c.if-is_signed.true in
    rw (filling-some c.args.kind g.W.Width.BITS c.args.by comes) c.emit_top.ensures.ops

pub returns-then-is_signed-clause-spare : goal.returns-then-is_signed-clause-spare
returns-then-is_signed-clause-spare g c =
    let comes : fills c.args.kind ≡ true = sym c.is_signed.ensures ∙ c.if-is_signed.true in
    rw comes c.emit_top.ensures.spare

pub returns-else-is_signed-clause-ops : goal.returns-else-is_signed-clause-ops
returns-else-is_signed-clause-ops g c =
    let none : fills c.args.kind ≡ false = sym c.is_signed.ensures ∙ c.if-is_signed.false in
    rw (filling-none c.args.kind g.W.Width.BITS c.args.by none) (sym (append-nil _))

pub returns-else-is_signed-clause-spare : goal.returns-else-is_signed-clause-spare
returns-else-is_signed-clause-spare g c =
    let none : fills c.args.kind ≡ false = sym c.is_signed.ensures ∙ c.if-is_signed.false in
    rw none (omega arith)
