use Rattle.std.proofs.Common.{◌∙◌, ap}
use Rattle.cape_io.specs.Views.{devices}
use Rattle.rvv_meaning.proofs.Allowing.{step-allowed}
use Rattle.rvv_meaning.specs.States.{Core, core_after}
use Rattle.machine.specs.Moments.{Held}
use Rattle.machine.proofs.GoingOn.{resumed-step}
use Rattle.machine.proofs.Showing.{goes_carried, faults_failed, carries_forgotten}
use Rattle.machine.proofs.parts.Machine.step.Goals as goal

pub returns-in-Ok-clause-carries : goal.returns-in-Ok-clause-carries
returns-in-Ok-clause-carries g c =
    let w = rw c.forget.ensures at c.in-Ok.ensures.carries in
    (w.0, carries_forgotten c.args.self.now c.carry_out.new.self w.0 (devices g.S.Source g.O.Sink g.E.Sink c.args.input.now c.carry_out.new.input c.args.out.now c.carry_out.new.out c.args.err.now c.carry_out.new.err) w.1)

pub returns-in-Ok-clause-goes : goal.returns-in-Ok-clause-goes
returns-in-Ok-clause-goes g c =
    let w = rw c.forget.ensures at c.in-Ok.ensures.carries in
    let out = rw c.forget.ensures at c.in-Ok.ensures.to_out in
    let err = rw c.forget.ensures at c.in-Ok.ensures.to_err in
    goes_carried c.args.merged c.args.self.now (devices g.S.Source g.O.Sink g.E.Sink c.args.input.now c.carry_out.new.input c.args.out.now c.carry_out.new.out c.args.err.now c.carry_out.new.err) c.carry_out.new.self w.0
    (carries_forgotten c.args.self.now c.carry_out.new.self w.0 (devices g.S.Source g.O.Sink g.E.Sink c.args.input.now c.carry_out.new.input c.args.out.now c.carry_out.new.out c.args.err.now c.carry_out.new.err) w.1) out.gained err.gained

pub returns-in-Ok-clause-allowed : goal.returns-in-Ok-clause-allowed
returns-in-Ok-clause-allowed g c =
    let w = rw c.forget.ensures at c.in-Ok.ensures.carries in
    (w.0, w.1.took, rw w.1.core (step-allowed c.args.self.now.core w.0))

pub returns-in-Ok-clause-resumes : goal.returns-in-Ok-clause-resumes
returns-in-Ok-clause-resumes g c = λ before i address traps is.
    let w = rw c.forget.ensures at c.in-Ok.ensures.carries in
    w.1.core ∙ ap (λ (k : Core). core_after k w.0) is ∙ resumed-step before i address w.0 traps

pub returns-in-Ok-clause-quiet : goal.returns-in-Ok-clause-quiet
returns-in-Ok-clause-quiet g c = record { input = c.in-Ok.ensures.carries.1.quiet; out = c.in-Ok.ensures.to_out.counts; err = c.in-Ok.ensures.to_err.counts }

pub returns-in-Err-clause-prefixes : goal.returns-in-Err-clause-prefixes
returns-in-Err-clause-prefixes g c =
    let out = rw c.forget.ensures at c.in-Err.ensures.to_out in
    let err = rw c.forget.ensures at c.in-Err.ensures.to_err in
    faults_failed c.args.merged c.args.self.now (devices g.S.Source g.O.Sink g.E.Sink c.args.input.now c.carry_out.new.input c.args.out.now c.carry_out.new.out c.args.err.now c.carry_out.new.err) out.gained err.gained

pub returns-in-Err-clause-fails : goal.returns-in-Err-clause-fails
returns-in-Err-clause-fails g c =
    let same = ap (λ (h : Held). h.core) c.self.view_is in
    rw same (rw c.forget.ensures at c.in-Err.ensures.fails)

pub returns-in-Ok-clause-to_out : goal.returns-in-Ok-clause-to_out
returns-in-Ok-clause-to_out g c = rw c.forget.ensures at c.in-Ok.ensures.to_out

pub returns-in-Ok-clause-out_stays : goal.returns-in-Ok-clause-out_stays
returns-in-Ok-clause-out_stays g c = let written = rw c.forget.ensures at c.in-Ok.ensures.to_out in written.stays

pub returns-in-Ok-clause-to_err : goal.returns-in-Ok-clause-to_err
returns-in-Ok-clause-to_err g c = rw c.forget.ensures at c.in-Ok.ensures.to_err

pub returns-in-Ok-clause-err_stays : goal.returns-in-Ok-clause-err_stays
returns-in-Ok-clause-err_stays g c = let written = rw c.forget.ensures at c.in-Ok.ensures.to_err in written.stays

pub returns-in-Err-clause-to_out : goal.returns-in-Err-clause-to_out
returns-in-Err-clause-to_out g c = rw c.forget.ensures at c.in-Err.ensures.to_out

pub returns-in-Err-clause-out_stays : goal.returns-in-Err-clause-out_stays
returns-in-Err-clause-out_stays g c = let written = rw c.forget.ensures at c.in-Err.ensures.to_out in written.stays

pub returns-in-Err-clause-to_err : goal.returns-in-Err-clause-to_err
returns-in-Err-clause-to_err g c = rw c.forget.ensures at c.in-Err.ensures.to_err

pub returns-in-Err-clause-err_stays : goal.returns-in-Err-clause-err_stays
returns-in-Err-clause-err_stays g c = let written = rw c.forget.ensures at c.in-Err.ensures.to_err in written.stays
