use Rattle.std.proofs.Common.{arith, refl, false}
use Rattle.std.specs.Prelude.{slice_index_or}
use Rattle.run_texts.specs.WorkTexts.{bits_byte}
use Rattle.run_texts.proofs.PieceLemmas.{pieces_last}
use Rattle.run_texts.proofs.work.row_digits.Goals as goal

pub loop-j-preserved : goal.loop-j-preserved
loop-j-preserved c =
    let f = bits_byte (λ col. slice_index_or c.args.row.now col false) in
    record {
      text = rw (c.push_hex.ensures.text, c.loop-j.invariant.text, c.from.ensures, c.byte_of.ensures, pieces_last f c.args.first c.loop-j.j (omega arith)) refl;
      room = omega arith;
    }
