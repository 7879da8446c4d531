use Rattle.std.proofs.Common.{None, inl, inr, refl}
use Rattle.cape_io.specs.Views.{devices}
use Rattle.machine.proofs.Carried.{appends_none}
use Rattle.report_texts.specs.Lines.{refused_line}
use Rattle.cape_top.specs.declared.ending.Status.TheVariants.{NoMemory, ReadFault, Refused}
use Rattle.cape_top.proofs.DebugLemmas.{debug_held, debug_none, debug_refused}
use Rattle.cape_top.proofs.StatusLemmas.{no_refusal_of_session, refusal_by}
use Rattle.cape_top.proofs.TopLemmas.{writes_err}
use Rattle.cape_top.proofs.debugging.debug.Goals as goal

pub returns-in-Err-ReadFault-clause-ends : goal.returns-in-Err-ReadFault-clause-ends
returns-in-Err-ReadFault-clause-ends g c =
    let d = devices g.S.Source g.O.Sink g.E.Sink c.args.input.now c.args.input.now c.args.out.now c.args.out.now c.args.err.now c.args.err.now in
    debug_none c.args.options d ReadFault None _ _ (inl tt) record { gains_out = appends_none _; gains_err = appends_none _ }

pub returns-in-Err-NoMemory-clause-ends : goal.returns-in-Err-NoMemory-clause-ends
returns-in-Err-NoMemory-clause-ends g c =
    let d = devices g.S.Source g.O.Sink g.E.Sink c.args.input.now c.args.input.now c.args.out.now c.args.out.now c.args.err.now c.args.err.now in
    debug_none c.args.options d NoMemory None _ _ (inr refl) record { gains_out = appends_none _; gains_err = appends_none _ }

pub returns-in-Err-Refused-clause-ends : goal.returns-in-Err-Refused-clause-ends
returns-in-Err-Refused-clause-ends g c =
    let d = devices g.S.Source g.O.Sink g.E.Sink c.args.input.now c.args.input.now c.args.out.now c.args.out.now c.args.err.now c.refuse.new.err in
    let fault = c.in-Err-Refused.fault in
    let is = rw c.in-Err-Refused.field-0-is at c.in-Err-Refused.ensures.refused in
    debug_refused c.args.options d c.refuse.result None _ _ fault is
    (writes_err g.S.Source g.O.Sink g.E.Sink _ c.refuse.result (Refused fault) None tt refl c.args.input.now (refused_line fault) c.args.out.now c.args.err.now c.refuse.new.err
    (λ P holds. holds)
    (rw c.in-Err-Refused.fault-is at c.refuse.ensures.only) (rw c.in-Err-Refused.fault-is at c.refuse.ensures.said) (rw c.in-Err-Refused.fault-is at c.refuse.ensures.fails))

pub returns-in-Err-Refused-clause-refused : goal.returns-in-Err-Refused-clause-refused
returns-in-Err-Refused-clause-refused g c =
    refusal_by _ c.refuse.result c.in-Err-Refused.fault (rw c.in-Err-Refused.field-0-is at c.in-Err-Refused.ensures.refused) (rw c.in-Err-Refused.fault-is at c.refuse.ensures.only)

pub returns-in-Err-ReadFault-read_input-clause-ends : goal.returns-in-Err-ReadFault-read_input-clause-ends
returns-in-Err-ReadFault-read_input-clause-ends g c =
    let d = devices g.S.Source g.O.Sink g.E.Sink c.args.input.now c.args.input.now c.args.out.now c.args.out.now c.args.err.now c.args.err.now in
    debug_none c.args.options d ReadFault None _ _ (inl tt) record { gains_out = appends_none _; gains_err = appends_none _ }

pub returns-in-Err : goal.returns-in-Err
returns-in-Err g c =
    let d = devices g.S.Source g.O.Sink g.E.Sink c.args.input.now c.args.input.now c.args.out.now c.args.out.now c.args.err.now c.args.err.now in
    record {
      ends = debug_none c.args.options d NoMemory None _ _ (inr refl) record { gains_out = appends_none _; gains_err = appends_none _ };
      only = inr (inr (inr refl));
      refused = λ f is. absurd (cc);
      absent = λ is. absurd (rw is at c.in-Ok.ensures.loaded);
      read = λ is. cc;
      write = λ is. cc;
    }

pub returns-clause-refused : goal.returns-clause-refused
returns-clause-refused g c = no_refusal_of_session _ c.hold.result c.hold.ensures.only

pub returns-clause-ends : goal.returns-clause-ends
returns-clause-ends g c =
    let d = devices g.S.Source g.O.Sink g.E.Sink c.args.input.now c.hold.new.commands c.args.out.now c.hold.new.out c.args.err.now c.hold.new.err in
    let read = rw (c.in-Ok.ensures.same.names, c.in-Ok.ensures.same.known) at c.in-Ok-read_input.ensures.read in
    debug_held c.args.options d c.hold.result None _ _ c.in-Ok.loaded c.in-Ok-read_input.given.items c.in-Ok.ensures.loaded read (rw c.as_slice.ensures.value at c.hold.ensures.ends)
