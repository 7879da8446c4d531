use Rattle.std.proofs.Common.{refl}
use Rattle.report_texts.proofs.LayoutLemmas.{letter_there, three_more}
use Rattle.report_texts.proofs.layout.push_letters.Goals as goal

pub returns-clause-text : goal.returns-clause-text
returns-clause-text c =
    let perms = c.args.perms.0 in
    rw (
      c.push-3.ensures.ascii c.glyph-3.ensures.ascii,
      c.push-2.ensures.ascii c.glyph-2.ensures.ascii,
      c.push.ensures.ascii c.glyph.ensures.ascii,
      three_more c.args.line.now.bytes c.glyph.result c.glyph-2.result c.glyph-3.result,
      c.glyph.ensures.code,
      c.glyph-2.ensures.code,
      c.glyph-3.ensures.code,
      letter_there perms 2 114 c.contains.result (c.contains.ensures tt),
      letter_there perms 1 119 c.contains-2.result (c.contains-2.ensures tt),
      letter_there perms 0 120 c.contains-3.result (c.contains-3.ensures tt),
    ) refl
