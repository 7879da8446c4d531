use Rattle.std.proofs.Common.{ℕ, ◌<◌, [], ◌∷◌, refl, sym, append-nil, arith}
use Rattle.std.specs.Prelude.{IsTrue}
use Rattle.std.proofs.lemmas.Bool.{lt-ltb}
use Rattle.micro_ir.specs.Folding.{are_rows}
use Rattle.gen_arith.proofs.Written.{one-more}
use Rattle.gen_div.specs.Lists.{nonzero_row}
use Rattle.gen_div.proofs.Families.{signed-row}
use Rattle.gen_div.proofs.Written.{gathering-none, gathering-more}
use Rattle.gen_div.proofs.signs.emit_gathering.Goals as goal

two-rows : (p q : ℕ) → p < 64 → q < 64 → IsTrue (are_rows (p ∷ q ∷ []))
two-rows p q a b = rw (lt-ltb p 64 a, lt-ltb q 64 b) refl

pub loop-bit-init : goal.loop-bit-init
loop-bit-init g c = record { ops = rw (gathering-none g.W.Width.BITS nonzero_row c.args.b) (sym (append-nil _)); spare = omega arith }

pub emit_above-requires-clause-rows : goal.emit_above-requires-clause-rows
emit_above-requires-clause-rows g c = two-rows 53 c.args.b (omega arith) (signed-row c.args.b c.requires.b)

pub loop-bit-preserved : goal.loop-bit-preserved
loop-bit-preserved g c = record {
  ops = one-more _ _ _ c.emit_above.ensures.ops c.loop-bit.invariant.ops (gathering-more g.W.Width.BITS nonzero_row c.args.b c.loop-bit.bit);
  spare = omega (arith, c.emit_above.ensures.spare, c.loop-bit.invariant.spare);
}
