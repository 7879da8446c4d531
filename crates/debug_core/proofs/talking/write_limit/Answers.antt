use Rattle.std.proofs.Common.{◌≡◌, true, false}
use Rattle.cape_io.proofs.Writing.{writes_none}
use Rattle.debug_words.proofs.Reading.{at_limit, below_limit}
use Rattle.debug_core.specs.Sessions.{limit_text}
use Rattle.debug_core.proofs.talking.write_limit.Goals as goal

pub returns-then-is_at_limit-clause-text : goal.returns-then-is_at_limit-clause-text
unfolding limit_text
returns-then-is_at_limit-clause-text g c = λ cut left gives.
    let e : cut ≡ true = at_limit gives (c.is_at_limit.ensures.full c.if-is_at_limit.true) in
    rw e c.write_text.ensures

pub returns-else-is_at_limit-clause-text : goal.returns-else-is_at_limit-clause-text
unfolding limit_text
returns-else-is_at_limit-clause-text g c = λ cut left gives.
    let e : cut ≡ false = below_limit gives (c.is_at_limit.ensures.less c.if-is_at_limit.false) in
    rw e (writes_none g.O.Sink _)
