use Rattle.std.proofs.Common.{arith}
use Rattle.debug_words.proofs.Pieces.{first_piece}
use Rattle.debug_words.proofs.words.piece_len.Goals as goal

pub returns-then-byte-eq-SPACE-clause-piece : goal.returns-then-byte-eq-SPACE-clause-piece
returns-then-byte-eq-SPACE-clause-piece c = first_piece c.args.bytes.now c.loop-i.i (omega arith) c.loop-i.invariant (λ within. omega arith)

pub returns-clause-piece : goal.returns-clause-piece
returns-clause-piece c = first_piece c.args.bytes.now _ (omega arith) (λ k below. c.loop-i.invariant k (omega arith)) (λ within. absurd (omega arith))
