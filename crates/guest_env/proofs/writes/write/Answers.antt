use Rattle.std.proofs.Common.{true}
use Rattle.guest_env.proofs.Writing.{written-none, bytes_out-none, bytes_err-none, to_err-out, to_out-err}
use Rattle.guest_env.proofs.writes.write.Goals as goal

pub returns-then-not-is_output-clause-to_out : goal.returns-then-not-is_output-clause-to_out
returns-then-not-is_output-clause-to_out g c =
    rw (← c.if-not-is_output.ensures, bytes_out-none c.args.merged c.args.descriptor) (written-none g.O.Sink c.args.address true c.args.out.now)

pub returns-then-not-is_allowed-clause-to_out : goal.returns-then-not-is_allowed-clause-to_out
returns-then-not-is_allowed-clause-to_out g c =
    rw (← c.if-not-is_output.ensures, ← c.if-not-is_allowed.ensures, bytes_out-none c.args.merged c.args.descriptor) (written-none g.O.Sink c.args.address true c.args.out.now)

pub returns-then-not-is_output-clause-to_err : goal.returns-then-not-is_output-clause-to_err
returns-then-not-is_output-clause-to_err g c =
    rw (← c.if-not-is_output.ensures, bytes_err-none c.args.merged c.args.descriptor) (written-none g.E.Sink c.args.address true c.args.err.now)

pub returns-then-not-is_allowed-clause-to_err : goal.returns-then-not-is_allowed-clause-to_err
returns-then-not-is_allowed-clause-to_err g c =
    rw (← c.if-not-is_output.ensures, ← c.if-not-is_allowed.ensures, bytes_err-none c.args.merged c.args.descriptor) (written-none g.E.Sink c.args.address true c.args.err.now)

pub returns-in_err-write_range-clause-to_out : goal.returns-in_err-write_range-clause-to_out
returns-in_err-write_range-clause-to_out g c =
    rw (to_err-out c.args.merged c.args.descriptor _ c.if-descriptor-eq-ERROR_OUTPUT.either) (written-none g.O.Sink c.args.address _ c.args.out.now)

pub returns-in_err-write_range-2-clause-to_err : goal.returns-in_err-write_range-2-clause-to_err
returns-in_err-write_range-2-clause-to_err g c =
    rw (to_out-err c.args.merged c.args.descriptor _ c.if-descriptor-eq-ERROR_OUTPUT.false) (written-none g.E.Sink c.args.address _ c.args.err.now)

pub returns-in_ok-write_range-clause-to_out : goal.returns-in_ok-write_range-clause-to_out
returns-in_ok-write_range-clause-to_out g c =
    rw (to_err-out c.args.merged c.args.descriptor _ c.if-descriptor-eq-ERROR_OUTPUT.either) (written-none g.O.Sink c.args.address _ c.args.out.now)

pub returns-in_ok-write_range-2-clause-to_err : goal.returns-in_ok-write_range-2-clause-to_err
returns-in_ok-write_range-2-clause-to_err g c =
    rw (to_out-err c.args.merged c.args.descriptor _ c.if-descriptor-eq-ERROR_OUTPUT.false) (written-none g.E.Sink c.args.address _ c.args.err.now)
