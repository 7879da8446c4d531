use Rattle.std.proofs.Common.{◌<◌, arith, append_assoc}
use Rattle.std.proofs.lemmas.Grind.{common_steps}
use Rattle.bit_laws.proofs.Digits.{hex_digits_more}
use Rattle.line_text.proofs.pieces.push_hex.Goals as goal

pub loop-place-preserved : goal.loop-place-preserved
loop-place-preserved c =
    let some : 0 < c.loop-place.place = omega arith in
    let pushed = c.push.ensures.ascii c.hex_glyph.ensures.ascii in
    record {
      text = rw (pushed, append_assoc, c.hex_glyph.ensures.code, ← hex_digits_more c.loop-place.place c.args.value some) c.loop-place.invariant.text;
      room = grind (arith, common_steps, pushed);
    }
