use Rattle.std.proofs.Common.{arith, refl}
use Rattle.debug_texts.specs.ShownTexts.{bits_of, row_piece}
use Rattle.debug_texts.proofs.Pieces.{pieces_last}
use Rattle.debug_texts.proofs.rows.row_digits.Goals as goal

pub loop-j-preserved : goal.loop-j-preserved
loop-j-preserved c = record {
  text = rw (c.push_hex.ensures.text, c.loop-j.invariant.text, c.from.ensures, c.row_byte.ensures, pieces_last (row_piece (bits_of c.args.row.now)) c.args.first c.loop-j.j (omega arith)) refl;
  room = omega arith;
}
