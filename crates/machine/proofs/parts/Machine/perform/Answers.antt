use Rattle.std.proofs.Common.{◌≡◌, [], refl, sym, ap, ◌∙◌}
use Rattle.cape_io.specs.Views.{views, devices}
use Rattle.rvv_meaning.specs.declared.Flow.TheVariants.{Next, Jump, Trap, Call}
use Rattle.rvv_meaning.specs.States.{Core, effect_at}
use Rattle.machine.proofs.Carried.{emptied, still, carries-scalar, carries-call, scalar-quiet, quiet-out, quiet-err, call_asks, call_gains_out, call_gains_err, calls-at}
use Rattle.machine.proofs.Returns.{ok-one, err-fact}
use Rattle.machine.proofs.parts.Machine.perform.Goals as goal

pub returns-in-Next-clause-carries : goal.returns-in-Next-clause-carries
returns-in-Next-clause-carries g c =
    let goes : (effect_at c.args.i.now c.args.self.now.core).flow ≡ Next = sym c.in-Next.ensures.flow in (
      [],
      carries-scalar c.args.self.now c.retire_to.new.self (views g.S.Source g.O.Sink g.E.Sink c.args.input.now c.args.out.now c.args.err.now) c.args.i.now Next c.requires.there goes refl
          (emptied c.args.self.now c.retire_to.new.self _ c.requires.empty (c.retire_to.ensures ∙ rw (c.next_pc.ensures, c.execute.ensures.core) refl)),
    )

pub returns-in-Next-clause-to_out : goal.returns-in-Next-clause-to_out
returns-in-Next-clause-to_out g c =
    let goes : (effect_at c.args.i.now c.args.self.now.core).flow ≡ Next = sym c.in-Next.ensures.flow in
    quiet-out g.O.Sink _ c.args.merged c.args.self.now.core c.args.out.now (scalar-quiet c.args.i.now Next c.args.self.now.core c.requires.there goes refl)

pub returns-in-Next-clause-to_err : goal.returns-in-Next-clause-to_err
returns-in-Next-clause-to_err g c =
    let goes : (effect_at c.args.i.now c.args.self.now.core).flow ≡ Next = sym c.in-Next.ensures.flow in
    quiet-err g.E.Sink _ c.args.merged c.args.self.now.core c.args.err.now (scalar-quiet c.args.i.now Next c.args.self.now.core c.requires.there goes refl)

pub returns-in-Jump-clause-carries : goal.returns-in-Jump-clause-carries
returns-in-Jump-clause-carries g c =
    let goes : (effect_at c.args.i.now c.args.self.now.core).flow ≡ Jump c.in-Jump.target = sym c.in-Jump.ensures.flow in (
      [],
      carries-scalar c.args.self.now c.retire_to-in-Jump.new.self (views g.S.Source g.O.Sink g.E.Sink c.args.input.now c.args.out.now c.args.err.now) c.args.i.now (Jump c.in-Jump.target) c.requires.there goes refl
          (emptied c.args.self.now c.retire_to-in-Jump.new.self _ c.requires.empty (c.retire_to-in-Jump.ensures ∙ rw c.execute.ensures.core refl)),
    )

pub returns-in-Jump-clause-to_out : goal.returns-in-Jump-clause-to_out
returns-in-Jump-clause-to_out g c =
    let goes : (effect_at c.args.i.now c.args.self.now.core).flow ≡ Jump c.in-Jump.target = sym c.in-Jump.ensures.flow in
    quiet-out g.O.Sink _ c.args.merged c.args.self.now.core c.args.out.now (scalar-quiet c.args.i.now (Jump c.in-Jump.target) c.args.self.now.core c.requires.there goes refl)

pub returns-in-Jump-clause-to_err : goal.returns-in-Jump-clause-to_err
returns-in-Jump-clause-to_err g c =
    let goes : (effect_at c.args.i.now c.args.self.now.core).flow ≡ Jump c.in-Jump.target = sym c.in-Jump.ensures.flow in
    quiet-err g.E.Sink _ c.args.merged c.args.self.now.core c.args.err.now (scalar-quiet c.args.i.now (Jump c.in-Jump.target) c.args.self.now.core c.requires.there goes refl)

pub returns-in-Trap-clause-carries : goal.returns-in-Trap-clause-carries
returns-in-Trap-clause-carries g c =
    let goes : (effect_at c.args.i.now c.args.self.now.core).flow ≡ Trap c.in-Trap.trap = sym c.in-Trap.ensures.flow in (
      [],
      carries-scalar c.args.self.now c.stop.new.self (views g.S.Source g.O.Sink g.E.Sink c.args.input.now c.args.out.now c.args.err.now) c.args.i.now (Trap c.in-Trap.trap) c.requires.there goes refl
          (emptied c.args.self.now c.stop.new.self _ c.requires.empty (c.stop.ensures ∙ rw c.execute.ensures.core refl)),
    )

pub returns-in-Trap-clause-to_out : goal.returns-in-Trap-clause-to_out
returns-in-Trap-clause-to_out g c =
    let goes : (effect_at c.args.i.now c.args.self.now.core).flow ≡ Trap c.in-Trap.trap = sym c.in-Trap.ensures.flow in
    quiet-out g.O.Sink _ c.args.merged c.args.self.now.core c.args.out.now (scalar-quiet c.args.i.now (Trap c.in-Trap.trap) c.args.self.now.core c.requires.there goes refl)

pub returns-in-Trap-clause-to_err : goal.returns-in-Trap-clause-to_err
returns-in-Trap-clause-to_err g c =
    let goes : (effect_at c.args.i.now c.args.self.now.core).flow ≡ Trap c.in-Trap.trap = sym c.in-Trap.ensures.flow in
    quiet-err g.E.Sink _ c.args.merged c.args.self.now.core c.args.err.now (scalar-quiet c.args.i.now (Trap c.in-Trap.trap) c.args.self.now.core c.requires.there goes refl)

pub returns-in-Call-clause-carries : goal.returns-in-Call-clause-carries
returns-in-Call-clause-carries g c =
    let calls : (effect_at c.args.i.now c.args.self.now.core).flow ≡ Call = sym c.in-Call.ensures.flow in
    let same : c.execute.new.self ≡ c.args.self.now = c.execute.ensures.core ∙ ap (λ (core : Core). record c.args.self.now { core = core }) (still c.args.i.now c.args.self.now.core calls) in
    ok-one c.call.result (rw same at c.call.ensures.called) (λ w.
    (w.0, carries-call c.args.self.now c.call.new.self (devices g.S.Source g.O.Sink g.E.Sink c.args.input.now c.call.new.input c.args.out.now c.call.new.out c.args.err.now c.call.new.err) c.args.i.now c.requires.there calls c.requires.empty w.0 w.1))

pub returns-in-Call-clause-stays : goal.returns-in-Call-clause-stays
returns-in-Call-clause-stays g c =
    let calls : (effect_at c.args.i.now c.args.self.now.core).flow ≡ Call = sym c.in-Call.ensures.flow in
    let same : c.execute.new.self ≡ c.args.self.now = c.execute.ensures.core ∙ ap (λ (core : Core). record c.args.self.now { core = core }) (still c.args.i.now c.args.self.now.core calls) in
    rw same at c.call.ensures.stays

pub returns-in-Call-clause-calls : goal.returns-in-Call-clause-calls
returns-in-Call-clause-calls g c =
    let calls : (effect_at c.args.i.now c.args.self.now.core).flow ≡ Call = sym c.in-Call.ensures.flow in
    let same : c.execute.new.self ≡ c.args.self.now = c.execute.ensures.core ∙ ap (λ (core : Core). record c.args.self.now { core = core }) (still c.args.i.now c.args.self.now.core calls) in
    err-fact c.call.result (calls-at c.args.i.now c.args.self.now.core c.requires.there calls)

pub returns-in-Call-clause-fails : goal.returns-in-Call-clause-fails
returns-in-Call-clause-fails g c =
    let calls : (effect_at c.args.i.now c.args.self.now.core).flow ≡ Call = sym c.in-Call.ensures.flow in
    let same : c.execute.new.self ≡ c.args.self.now = c.execute.ensures.core ∙ ap (λ (core : Core). record c.args.self.now { core = core }) (still c.args.i.now c.args.self.now.core calls) in
    rw same at c.call.ensures.fails

pub returns-in-Call-clause-to_out : goal.returns-in-Call-clause-to_out
returns-in-Call-clause-to_out g c =
    let calls : (effect_at c.args.i.now c.args.self.now.core).flow ≡ Call = sym c.in-Call.ensures.flow in
    let same : c.execute.new.self ≡ c.args.self.now = c.execute.ensures.core ∙ ap (λ (core : Core). record c.args.self.now { core = core }) (still c.args.i.now c.args.self.now.core calls) in
    rw (call_gains_out c.args.i.now c.args.self.now.core c.requires.there calls c.args.merged) (rw same at c.call.ensures.to_out)

pub returns-in-Call-clause-to_err : goal.returns-in-Call-clause-to_err
returns-in-Call-clause-to_err g c =
    let calls : (effect_at c.args.i.now c.args.self.now.core).flow ≡ Call = sym c.in-Call.ensures.flow in
    let same : c.execute.new.self ≡ c.args.self.now = c.execute.ensures.core ∙ ap (λ (core : Core). record c.args.self.now { core = core }) (still c.args.i.now c.args.self.now.core calls) in
    rw (call_gains_err c.args.i.now c.args.self.now.core c.requires.there calls c.args.merged) (rw same at c.call.ensures.to_err)

pub returns-in-Call-clause-input_stays : goal.returns-in-Call-clause-input_stays
returns-in-Call-clause-input_stays g c =
    let calls : (effect_at c.args.i.now c.args.self.now.core).flow ≡ Call = sym c.in-Call.ensures.flow in
    let same : c.execute.new.self ≡ c.args.self.now = c.execute.ensures.core ∙ ap (λ (core : Core). record c.args.self.now { core = core }) (still c.args.i.now c.args.self.now.core calls) in
    λ none. (rw same at c.call.ensures.input_stays) (sym (call_asks c.args.i.now c.args.self.now.core c.requires.there calls) ∙ none)
