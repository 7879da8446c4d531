use Rattle.std.proofs.Common.{◌≡◌, ◌≤◌, ◌+◌, ◌*◌, ◌<◌, ◌∙◌, sym, refl, ap, arith, true, false, Err}
use Rattle.std.proofs.lemmas.Result.{err_from_is_err_and}
use Rattle.cape_io.specs.Views.{views}
use Rattle.debug_commands.proofs.Steps.{quiet_both, rose_from}
use Rattle.debug_commands.specs.declared.performing.SessionFault.TheVariants.{ReadFault, WriteFault}
use Rattle.debug_core.specs.Sessions.{is_quit}
use Rattle.debug_core.proofs.Saying.{so_first, so_more, so_fault, so_read, so_quit, so_stop, so_end, so_end_fails}
use Rattle.debug_core.proofs.Whole.{first_count, whole_answered, part_answered, whole_reads, on_ok_by, on_err_by, cause_by, either_rose}
use Rattle.debug_core.proofs.talking.talk.Goals as goal

pub lines-init : goal.lines-init
lines-init g c = record {
  on = so_first _ _ _;
  live = c.requires.live;
  length = c.requires.length;
  count = first_count c.args.reader.now _ c.requires.none_pending c.requires.none_taken c.requires.count;
  quiet_commands = refl;
  quiet = record { input = refl; out = refl; err = refl };
}

pub lines-preserved : goal.lines-preserved
lines-preserved g c = record {
  on = so_more c.lines.invariant.on (c.in-Ok.ensures.line c.if-not-there.false) (sym (ap is_quit c.command_in-command.ensures.value) ∙ sym c.ends.ensures ∙ c.if-ends.false) (rw c.command_in-command.ensures.value at c.in_ok-perform.ensures.moves);
  live = c.in_ok-perform.ensures.live;
  length = rw c.perform.ensures.columns (c.perform.ensures.length ∙ c.lines.invariant.length);
  count = omega (arith, c.in-Ok.ensures.budget c.if-not-there.false, c.perform.ensures.count, c.command_in-command.ensures.few, c.lines.invariant.count);
  quiet_commands = c.in-Ok.ensures.quiet ∙ c.lines.invariant.quiet_commands;
  quiet = quiet_both c.lines.invariant.quiet c.in_ok-perform.ensures.quiet;
}

pub returns-in-Err-clause-prefixes : goal.returns-in-Err-clause-prefixes
returns-in-Err-clause-prefixes g c = part_answered (views g.S.Source g.O.Sink g.E.Sink c.args.input.now c.args.out.now c.args.err.now) (views g.S.Source g.O.Sink g.E.Sink c.lines.input c.lines.out c.lines.err) c.requires.none_pending c.requires.none_taken c.requires.no_breaks c.requires.no_pages (so_stop c.lines.invariant.on)

pub returns-then-not-there-clause-answers : goal.returns-then-not-there-clause-answers
returns-then-not-there-clause-answers g c = on_ok_by c.finish.result (λ ok.
    whole_answered (views g.S.Source g.O.Sink g.E.Sink c.args.input.now c.args.out.now c.args.err.now) (views g.S.Source g.O.Sink g.E.Sink c.lines.input c.finish.new.out c.lines.err) c.requires.none_pending c.requires.none_taken c.requires.no_breaks c.requires.no_pages (so_end c.lines.invariant.on (c.in-Ok.ensures.none c.if-not-there.true) (λ cut gives. rw ok at (c.finish.ensures.text cut _ gives))))

pub returns-then-not-there-clause-prefixes : goal.returns-then-not-there-clause-prefixes
returns-then-not-there-clause-prefixes g c = on_err_by c.finish.result (λ fails.
    part_answered (views g.S.Source g.O.Sink g.E.Sink c.args.input.now c.args.out.now c.args.err.now) (views g.S.Source g.O.Sink g.E.Sink c.lines.input c.finish.new.out c.lines.err) c.requires.none_pending c.requires.none_taken c.requires.no_breaks c.requires.no_pages (so_end_fails c.lines.invariant.on (c.in-Ok.ensures.none c.if-not-there.true) (λ cut gives. rw fails at (c.finish.ensures.text cut _ gives))))

pub returns-then-ends-clause-answers : goal.returns-then-ends-clause-answers
returns-then-ends-clause-answers g c =
    whole_answered (views g.S.Source g.O.Sink g.E.Sink c.args.input.now c.args.out.now c.args.err.now) (views g.S.Source g.O.Sink g.E.Sink c.lines.input c.lines.out c.lines.err) c.requires.none_pending c.requires.none_taken c.requires.no_breaks c.requires.no_pages (so_quit c.lines.invariant.on (c.in-Ok.ensures.line c.if-not-there.false) (sym (ap is_quit c.command_in-command.ensures.value) ∙ sym c.ends.ensures ∙ c.if-ends.true))

pub returns-in_err-perform-clause-prefixes : goal.returns-in_err-perform-clause-prefixes
returns-in_err-perform-clause-prefixes g c =
    let p = err_from_is_err_and c.from_residual.result c.from_residual.ensures.1 in
    rw p.1 (part_answered (views g.S.Source g.O.Sink g.E.Sink c.args.input.now c.args.out.now c.args.err.now) (views g.S.Source g.O.Sink g.E.Sink c.perform.new.input c.perform.new.out c.perform.new.err) c.requires.none_pending c.requires.none_taken c.requires.no_breaks c.requires.no_pages (so_fault c.lines.invariant.on (c.in-Ok.ensures.line c.if-not-there.false) (sym (ap is_quit c.command_in-command.ensures.value) ∙ sym c.ends.ensures ∙ c.if-ends.false) (rw c.command_in-command.ensures.value at c.in_err-perform.ensures.moves)))

pub returns-in_err-perform-clause-cause : goal.returns-in_err-perform-clause-cause
returns-in_err-perform-clause-cause g c =
    let p = err_from_is_err_and c.from_residual.result c.from_residual.ensures.1 in
    rw p.1 (cause_by p.0 _ _ _
    (λ is.
    let fault : c.in_err-perform.field-0.0 ≡ ReadFault = cc (p.2, is) in (
      rose_from c.lines.invariant.quiet.input (c.in_err-perform.ensures.rose_input (ap Err fault)),
      whole_reads (views g.S.Source g.O.Sink g.E.Sink c.args.input.now c.args.out.now c.args.err.now) c.requires.none_pending c.requires.none_taken c.requires.no_breaks c.requires.no_pages (so_read c.lines.invariant.on (c.in-Ok.ensures.line c.if-not-there.false) (sym (ap is_quit c.command_in-command.ensures.value) ∙ sym c.ends.ensures ∙ c.if-ends.false) (rw c.command_in-command.ensures.value at (c.in_err-perform.ensures.reads (ap Err fault)))),
    ))
    (λ is.
    let fault : c.in_err-perform.field-0.0 ≡ WriteFault = cc (p.2, is) in
    either_rose c.lines.invariant.quiet.out c.lines.invariant.quiet.err (c.in_err-perform.ensures.rose_output (ap Err fault))))
