use Rattle.std.proofs.Common.{◌≡◌, ◌+◌, ◌-◌, true, false, length, arith}
use Rattle.std.proofs.lemmas.Result.{err_from_is_err_and}
use Rattle.cape_io.proofs.Writing.{writes_more, writes_none, writes_stopped}
use Rattle.debug_texts.specs.ShownTexts.{bits_of, row_piece, row_text, bytes_for}
use Rattle.debug_texts.proofs.Pieces.{pieces, pieces_split, pieces_done}
use Rattle.debug_texts.proofs.rows.write_row.Goals as goal

pub loop-first-init : goal.loop-first-init
unfolding row_text pieces
loop-first-init g c =
    let all : c.div_ceil-bytes.result - 0 ≡ bytes_for (length c.args.row.now) = omega arith in
    record { bound = omega arith; continues = rw all (λ went end written. written) }

pub loop-first-preserved : goal.loop-first-preserved
loop-first-preserved g c =
    let f = row_piece (bits_of c.args.row.now) in
    record {
      bound = omega arith;
      continues = λ went end written. c.loop-first.invariant.continues went end
          (rw (pieces_split f c.loop-first.first (c.loop-first.first + c.min.result) c.div_ceil-bytes.result (omega arith) (omega arith))
          (writes_more g.O.Sink _ _ went _ _ end (rw c.row_digits.ensures at c.in_ok-write_line.ensures) written));
    }

pub returns-in_err-write_line : goal.returns-in_err-write_line
returns-in_err-write_line g c =
    let f = row_piece (bits_of c.args.row.now) in
    let p = err_from_is_err_and c.from_residual.result c.from_residual.ensures.1 in
    rw p.1 (c.loop-first.invariant.continues false _
    (rw (pieces_split f c.loop-first.first (c.loop-first.first + c.min.result) c.div_ceil-bytes.result (omega arith) (omega arith))
    (writes_stopped g.O.Sink _ _ _ _ (rw c.row_digits.ensures at c.in_err-write_line.ensures))))

pub returns : goal.returns
returns g c =
    c.loop-first.invariant.continues true _ (rw (pieces_done (row_piece (bits_of c.args.row.now)) c.loop-first.first c.div_ceil-bytes.result (omega arith)) (writes_none g.O.Sink _))
