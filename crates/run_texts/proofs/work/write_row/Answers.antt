use Rattle.std.proofs.Common.{◌≡◌, ◌+◌, ◌-◌, ◌/◌, true, false, length, arith}
use Rattle.std.specs.Prelude.{slice_index_or}
use Rattle.std.proofs.lemmas.Result.{err_from_is_err_and}
use Rattle.cape_io.proofs.Writing.{writes_more, writes_none, writes_stopped}
use Rattle.run_texts.specs.WorkTexts.{bits_byte, bits_text}
use Rattle.run_texts.proofs.PieceLemmas.{pieces, pieces_split, pieces_done}
use Rattle.run_texts.proofs.work.write_row.Goals as goal

pub loop-first-init : goal.loop-first-init
unfolding bits_text pieces
loop-first-init g c =
    let all : c.div_ceil-bytes.result - 0 ≡ (length c.args.row.now + 7) / 8 = omega arith in
    record { bound = omega arith; continues = rw all (λ went end written. written) }

pub loop-first-preserved : goal.loop-first-preserved
loop-first-preserved g c =
    let f = bits_byte (λ col. slice_index_or c.args.row.now col false) in
    record {
      bound = omega arith;
      continues = λ went end written. c.loop-first.invariant.continues went end
          (rw (pieces_split f c.loop-first.first (c.loop-first.first + c.min.result) c.div_ceil-bytes.result (omega arith) (omega arith))
          (writes_more g.E.Sink _ _ went _ _ end (rw c.row_digits.ensures at c.in_ok-write_piece.ensures) written));
    }

pub returns-in_err-write_piece : goal.returns-in_err-write_piece
returns-in_err-write_piece g c =
    let f = bits_byte (λ col. slice_index_or c.args.row.now col false) in
    let p = err_from_is_err_and c.from_residual.result c.from_residual.ensures.1 in
    rw p.1 (c.loop-first.invariant.continues false _
    (rw (pieces_split f c.loop-first.first (c.loop-first.first + c.min.result) c.div_ceil-bytes.result (omega arith) (omega arith))
    (writes_stopped g.E.Sink _ _ _ _ (rw c.row_digits.ensures at c.in_err-write_piece.ensures))))

pub returns : goal.returns
returns g c =
    let f = bits_byte (λ col. slice_index_or c.args.row.now col false) in
    c.loop-first.invariant.continues true _ (rw (pieces_done f c.loop-first.first c.div_ceil-bytes.result (omega arith)) (writes_none g.E.Sink _))
