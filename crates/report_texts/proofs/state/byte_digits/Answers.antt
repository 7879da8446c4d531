use Rattle.std.proofs.Common.{arith, refl}
use Rattle.report_texts.specs.StateTexts.{vector_byte}
use Rattle.report_texts.proofs.PieceLemmas.{pieces_last}
use Rattle.report_texts.proofs.state.byte_digits.Goals as goal

pub loop-j-preserved : goal.loop-j-preserved
loop-j-preserved c = record {
  text = rw (c.push_byte.ensures.text, c.loop-j.invariant.text, c.vreg_byte.ensures, pieces_last (vector_byte c.args.machine.now.core c.args.r) c.args.first c.loop-j.j (omega arith)) refl;
  room = omega arith;
}
