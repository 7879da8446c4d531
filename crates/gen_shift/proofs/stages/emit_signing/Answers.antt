use Rattle.std.proofs.Common.{◌≡◌, true, false, sym, ◌∙◌, append-nil, arith}
use Rattle.gen_shift.specs.Lists.{fills}
use Rattle.gen_shift.proofs.Written.{signing-none, signing-some}
use Rattle.gen_shift.proofs.stages.emit_signing.Goals as goal

pub emit_sign-requires-clause-room : goal.emit_sign-requires-clause-room
emit_sign-requires-clause-room g c =
    let comes : fills c.args.kind ≡ true = sym c.is_signed.ensures ∙ c.if-is_signed.true in
    rw comes at c.requires.room

pub returns-then-is_signed-clause-ops : goal.returns-then-is_signed-clause-ops
returns-then-is_signed-clause-ops g c =
    let comes : fills c.args.kind ≡ true = sym c.is_signed.ensures ∙ c.if-is_signed.true in
    rw (signing-some c.args.kind g.W.Width.BITS c.args.a comes) c.emit_sign.ensures.ops

pub returns-then-is_signed-clause-spare : goal.returns-then-is_signed-clause-spare
returns-then-is_signed-clause-spare g c =
    let comes : fills c.args.kind ≡ true = sym c.is_signed.ensures ∙ c.if-is_signed.true in
    rw comes c.emit_sign.ensures.spare

pub returns-else-is_signed-clause-ops : goal.returns-else-is_signed-clause-ops
returns-else-is_signed-clause-ops g c =
    let none : fills c.args.kind ≡ false = sym c.is_signed.ensures ∙ c.if-is_signed.false in
    rw (signing-none c.args.kind g.W.Width.BITS c.args.a none) (sym (append-nil _))

pub returns-else-is_signed-clause-spare : goal.returns-else-is_signed-clause-spare
returns-else-is_signed-clause-spare g c =
    let none : fills c.args.kind ≡ false = sym c.is_signed.ensures ∙ c.if-is_signed.false in
    rw none (omega arith)
