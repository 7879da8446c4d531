use Rattle.std.proofs.Common.{◌≡◌, ◌≤◌, ◌+◌, ◌-◌, ◌∙◌, suc, refl, ap, arith}
use Rattle.std.proofs.lemmas.Result.{err_from_is_err_and}
use Rattle.cape_io.specs.Views.{views}
use Rattle.machine.specs.Moments.{Held}
use Rattle.machine.specs.Views.{AsksNothing, AddsNoOut, AddsNoErr}
use Rattle.machine.proofs.Carried.{none_merged}
use Rattle.machine.proofs.Failing.{one-later, quiet-both}
use Rattle.machine.proofs.Runs.{runs_first, runs_step, runs_last, runs_fault, runs_stands, runs_each, runs_done, count_more}
use Rattle.machine.proofs.Modes.{ran_runs, others_stopped, running_runs}
use Rattle.machine.proofs.parts.Machine.run.Goals as goal

pub returns-in_err-answer-clause-prefixes : goal.returns-in_err-answer-clause-prefixes
returns-in_err-answer-clause-prefixes g c =
    let left : c.args.n - c.loop-i.i ≡ suc (c.args.n - (c.loop-i.i + 1)) = omega arith in
    let on = rw left at c.loop-i.invariant.on in
    let p = err_from_is_err_and c.from_residual.result c.from_residual.ensures.1 in
    rw p.1 (runs_fault c.args.n (c.args.n - (c.loop-i.i + 1)) c.args.merged c.args.self.now c.loop-i.self c.step.new.self (views g.S.Source g.O.Sink g.E.Sink c.args.input.now c.args.out.now c.args.err.now) (views g.S.Source g.O.Sink g.E.Sink c.loop-i.input c.loop-i.out c.loop-i.err) (views g.S.Source g.O.Sink g.E.Sink c.step.new.input c.step.new.out c.step.new.err) on (running_runs _ c.loop-i.invariant.running) c.in_err-answer.ensures.prefixes)

pub returns-in_err-answer-clause-stands : goal.returns-in_err-answer-clause-stands
returns-in_err-answer-clause-stands g c =
    let left : c.args.n - c.loop-i.i ≡ suc (c.args.n - (c.loop-i.i + 1)) = omega arith in
    let on = rw left at c.loop-i.invariant.on in
    let more : suc (c.args.n - (c.loop-i.i + 1)) ≤ c.args.n = omega arith in
    let p = err_from_is_err_and c.from_residual.result c.from_residual.ensures.1 in
    rw (p.1, p.2) (runs_stands c.args.n (c.args.n - (c.loop-i.i + 1)) c.args.merged c.args.self.now c.loop-i.self c.step.new.self (views g.S.Source g.O.Sink g.E.Sink c.args.input.now c.args.out.now c.args.err.now) (views g.S.Source g.O.Sink g.E.Sink c.loop-i.input c.loop-i.out c.loop-i.err) (views g.S.Source g.O.Sink g.E.Sink c.step.new.input c.step.new.out c.step.new.err) _ more on c.loop-i.invariant.running c.in_err-answer.ensures.stays (c.in_err-answer.ensures.calls, c.in_err-answer.ensures.fails.asks) c.in_err-answer.ensures.fails.memory c.in_err-answer.ensures.prefixes)

pub returns-in_err-answer-clause-cause : goal.returns-in_err-answer-clause-cause
returns-in_err-answer-clause-cause g c =
    let p = err_from_is_err_and c.from_residual.result c.from_residual.ensures.1 in
    rw (p.1, p.2, ap (λ (h : Held). h.core.regs) c.in_err-answer.ensures.stays) (one-later _ c.args.merged _ (views g.S.Source g.O.Sink g.E.Sink c.args.input.now c.args.out.now c.args.err.now) (views g.S.Source g.O.Sink g.E.Sink c.loop-i.input c.loop-i.out c.loop-i.err) (views g.S.Source g.O.Sink g.E.Sink c.step.new.input c.step.new.out c.step.new.err) c.loop-i.invariant.quiet c.in_err-answer.ensures.fails.one)

pub returns-in-Exited-clause-goes : goal.returns-in-Exited-clause-goes
returns-in-Exited-clause-goes g c =
    let left : c.args.n - c.loop-i.i ≡ suc (c.args.n - (c.loop-i.i + 1)) = omega arith in
    let on = rw left at c.loop-i.invariant.on in
    runs_last c.args.n (c.args.n - (c.loop-i.i + 1)) c.args.merged c.args.self.now c.loop-i.self c.step.new.self (views g.S.Source g.O.Sink g.E.Sink c.args.input.now c.args.out.now c.args.err.now) (views g.S.Source g.O.Sink g.E.Sink c.loop-i.input c.loop-i.out c.loop-i.err) (views g.S.Source g.O.Sink g.E.Sink c.step.new.input c.step.new.out c.step.new.err) on (running_runs _ c.loop-i.invariant.running) c.in_ok-answer.ensures.goes (others_stopped _ c.in_ok-answer.answer c.in_ok-answer.ensures.answer c.in-Exited.is)

pub returns-in-Exited-clause-quiet : goal.returns-in-Exited-clause-quiet
returns-in-Exited-clause-quiet g c = quiet-both (views g.S.Source g.O.Sink g.E.Sink c.args.input.now c.args.out.now c.args.err.now) (views g.S.Source g.O.Sink g.E.Sink c.loop-i.input c.loop-i.out c.loop-i.err) (views g.S.Source g.O.Sink g.E.Sink c.step.new.input c.step.new.out c.step.new.err) c.loop-i.invariant.quiet c.in_ok-answer.ensures.quiet

pub loop-i-init : goal.loop-i-init
loop-i-init g c =
    let whole : c.args.n - 0 ≡ c.args.n = omega arith in
    record {
      on = rw whole (runs_first c.args.n c.args.merged c.args.self.now (views g.S.Source g.O.Sink g.E.Sink c.args.input.now c.args.out.now c.args.err.now));
      running = c.requires.running;
      live = c.requires.live;
      count = omega arith;
      length = refl;
      quiet = record { input = refl; out = refl; err = refl };
      input_stays = λ each. refl;
      out_stays = λ each. refl;
      err_stays = λ each. refl;
      merged_out = λ is. refl;
    }

pub loop-i-preserved : goal.loop-i-preserved
loop-i-preserved g c =
    let left : c.args.n - c.loop-i.i ≡ suc (c.args.n - (c.loop-i.i + 1)) = omega arith in
    let on = rw left at c.loop-i.invariant.on in
    let more : suc (c.args.n - (c.loop-i.i + 1)) ≤ c.args.n = omega arith in
    record {
      on = runs_step c.args.n (c.args.n - (c.loop-i.i + 1)) c.args.merged c.args.self.now c.loop-i.self c.step.new.self (views g.S.Source g.O.Sink g.E.Sink c.args.input.now c.args.out.now c.args.err.now) (views g.S.Source g.O.Sink g.E.Sink c.loop-i.input c.loop-i.out c.loop-i.err) (views g.S.Source g.O.Sink g.E.Sink c.step.new.input c.step.new.out c.step.new.err) more on (running_runs _ c.loop-i.invariant.running) c.in_ok-answer.ensures.goes;
      running = ran_runs _ c.in_ok-answer.answer c.in_ok-answer.ensures.answer c.in-Ran.is;
      live = c.in_ok-answer.ensures.live;
      count = count_more _ _ _ _ c.in_ok-answer.ensures.count c.loop-i.invariant.count;
      length = c.in_ok-answer.ensures.length ∙ c.loop-i.invariant.length;
      quiet = quiet-both (views g.S.Source g.O.Sink g.E.Sink c.args.input.now c.args.out.now c.args.err.now) (views g.S.Source g.O.Sink g.E.Sink c.loop-i.input c.loop-i.out c.loop-i.err) (views g.S.Source g.O.Sink g.E.Sink c.step.new.input c.step.new.out c.step.new.err) c.loop-i.invariant.quiet c.in_ok-answer.ensures.quiet;
      input_stays = λ each. c.in_ok-answer.ensures.input_stays (runs_each c.args.n (c.args.n - (c.loop-i.i + 1)) c.args.merged c.args.self.now c.loop-i.self (views g.S.Source g.O.Sink g.E.Sink c.args.input.now c.args.out.now c.args.err.now) (views g.S.Source g.O.Sink g.E.Sink c.loop-i.input c.loop-i.out c.loop-i.err) AsksNothing more on c.loop-i.invariant.running each) ∙ c.loop-i.invariant.input_stays each;
      out_stays = λ each. c.in_ok-answer.ensures.out_stays (runs_each c.args.n (c.args.n - (c.loop-i.i + 1)) c.args.merged c.args.self.now c.loop-i.self (views g.S.Source g.O.Sink g.E.Sink c.args.input.now c.args.out.now c.args.err.now) (views g.S.Source g.O.Sink g.E.Sink c.loop-i.input c.loop-i.out c.loop-i.err) (AddsNoOut c.args.merged) more on c.loop-i.invariant.running each) ∙ c.loop-i.invariant.out_stays each;
      err_stays = λ each. c.in_ok-answer.ensures.err_stays (runs_each c.args.n (c.args.n - (c.loop-i.i + 1)) c.args.merged c.args.self.now c.loop-i.self (views g.S.Source g.O.Sink g.E.Sink c.args.input.now c.args.out.now c.args.err.now) (views g.S.Source g.O.Sink g.E.Sink c.loop-i.input c.loop-i.out c.loop-i.err) (AddsNoErr c.args.merged) more on c.loop-i.invariant.running each) ∙ c.loop-i.invariant.err_stays each;
      merged_out = λ is. c.in_ok-answer.ensures.out_stays (none_merged c.args.merged c.loop-i.self.core is) ∙ c.loop-i.invariant.merged_out is;
    }

pub returns-clause-goes : goal.returns-clause-goes
returns-clause-goes g c =
    let none : c.args.n - c.loop-i.i ≡ 0 = omega arith in
    let on = rw none at c.loop-i.invariant.on in
    runs_done c.args.n c.args.merged c.args.self.now c.loop-i.self _ on

pub returns-in_err-answer-clause-input_stays : goal.returns-in_err-answer-clause-input_stays
returns-in_err-answer-clause-input_stays g c =
    let left : c.args.n - c.loop-i.i ≡ suc (c.args.n - (c.loop-i.i + 1)) = omega arith in
    let on = rw left at c.loop-i.invariant.on in
    let more : suc (c.args.n - (c.loop-i.i + 1)) ≤ c.args.n = omega arith in
    λ each. c.in_err-answer.ensures.input_stays (runs_each c.args.n (c.args.n - (c.loop-i.i + 1)) c.args.merged c.args.self.now c.loop-i.self (views g.S.Source g.O.Sink g.E.Sink c.args.input.now c.args.out.now c.args.err.now) (views g.S.Source g.O.Sink g.E.Sink c.loop-i.input c.loop-i.out c.loop-i.err) AsksNothing more on c.loop-i.invariant.running each) ∙ c.loop-i.invariant.input_stays each

pub returns-in_err-answer-clause-out_stays : goal.returns-in_err-answer-clause-out_stays
returns-in_err-answer-clause-out_stays g c =
    let left : c.args.n - c.loop-i.i ≡ suc (c.args.n - (c.loop-i.i + 1)) = omega arith in
    let on = rw left at c.loop-i.invariant.on in
    let more : suc (c.args.n - (c.loop-i.i + 1)) ≤ c.args.n = omega arith in
    λ each. c.in_err-answer.ensures.out_stays (runs_each c.args.n (c.args.n - (c.loop-i.i + 1)) c.args.merged c.args.self.now c.loop-i.self (views g.S.Source g.O.Sink g.E.Sink c.args.input.now c.args.out.now c.args.err.now) (views g.S.Source g.O.Sink g.E.Sink c.loop-i.input c.loop-i.out c.loop-i.err) (AddsNoOut c.args.merged) more on c.loop-i.invariant.running each) ∙ c.loop-i.invariant.out_stays each

pub returns-in_err-answer-clause-err_stays : goal.returns-in_err-answer-clause-err_stays
returns-in_err-answer-clause-err_stays g c =
    let left : c.args.n - c.loop-i.i ≡ suc (c.args.n - (c.loop-i.i + 1)) = omega arith in
    let on = rw left at c.loop-i.invariant.on in
    let more : suc (c.args.n - (c.loop-i.i + 1)) ≤ c.args.n = omega arith in
    λ each. c.in_err-answer.ensures.err_stays (runs_each c.args.n (c.args.n - (c.loop-i.i + 1)) c.args.merged c.args.self.now c.loop-i.self (views g.S.Source g.O.Sink g.E.Sink c.args.input.now c.args.out.now c.args.err.now) (views g.S.Source g.O.Sink g.E.Sink c.loop-i.input c.loop-i.out c.loop-i.err) (AddsNoErr c.args.merged) more on c.loop-i.invariant.running each) ∙ c.loop-i.invariant.err_stays each

pub returns-in_err-answer-clause-merged_out : goal.returns-in_err-answer-clause-merged_out
returns-in_err-answer-clause-merged_out g c = λ is. c.in_err-answer.ensures.out_stays (none_merged c.args.merged c.loop-i.self.core is) ∙ c.loop-i.invariant.merged_out is

pub returns-in-Exited-clause-input_stays : goal.returns-in-Exited-clause-input_stays
returns-in-Exited-clause-input_stays g c =
    let left : c.args.n - c.loop-i.i ≡ suc (c.args.n - (c.loop-i.i + 1)) = omega arith in
    let on = rw left at c.loop-i.invariant.on in
    let more : suc (c.args.n - (c.loop-i.i + 1)) ≤ c.args.n = omega arith in
    λ each. c.in_ok-answer.ensures.input_stays (runs_each c.args.n (c.args.n - (c.loop-i.i + 1)) c.args.merged c.args.self.now c.loop-i.self (views g.S.Source g.O.Sink g.E.Sink c.args.input.now c.args.out.now c.args.err.now) (views g.S.Source g.O.Sink g.E.Sink c.loop-i.input c.loop-i.out c.loop-i.err) AsksNothing more on c.loop-i.invariant.running each) ∙ c.loop-i.invariant.input_stays each

pub returns-in-Exited-clause-out_stays : goal.returns-in-Exited-clause-out_stays
returns-in-Exited-clause-out_stays g c =
    let left : c.args.n - c.loop-i.i ≡ suc (c.args.n - (c.loop-i.i + 1)) = omega arith in
    let on = rw left at c.loop-i.invariant.on in
    let more : suc (c.args.n - (c.loop-i.i + 1)) ≤ c.args.n = omega arith in
    λ each. c.in_ok-answer.ensures.out_stays (runs_each c.args.n (c.args.n - (c.loop-i.i + 1)) c.args.merged c.args.self.now c.loop-i.self (views g.S.Source g.O.Sink g.E.Sink c.args.input.now c.args.out.now c.args.err.now) (views g.S.Source g.O.Sink g.E.Sink c.loop-i.input c.loop-i.out c.loop-i.err) (AddsNoOut c.args.merged) more on c.loop-i.invariant.running each) ∙ c.loop-i.invariant.out_stays each

pub returns-in-Exited-clause-err_stays : goal.returns-in-Exited-clause-err_stays
returns-in-Exited-clause-err_stays g c =
    let left : c.args.n - c.loop-i.i ≡ suc (c.args.n - (c.loop-i.i + 1)) = omega arith in
    let on = rw left at c.loop-i.invariant.on in
    let more : suc (c.args.n - (c.loop-i.i + 1)) ≤ c.args.n = omega arith in
    λ each. c.in_ok-answer.ensures.err_stays (runs_each c.args.n (c.args.n - (c.loop-i.i + 1)) c.args.merged c.args.self.now c.loop-i.self (views g.S.Source g.O.Sink g.E.Sink c.args.input.now c.args.out.now c.args.err.now) (views g.S.Source g.O.Sink g.E.Sink c.loop-i.input c.loop-i.out c.loop-i.err) (AddsNoErr c.args.merged) more on c.loop-i.invariant.running each) ∙ c.loop-i.invariant.err_stays each

pub returns-in-Exited-clause-merged_out : goal.returns-in-Exited-clause-merged_out
returns-in-Exited-clause-merged_out g c = λ is. c.in_ok-answer.ensures.out_stays (none_merged c.args.merged c.loop-i.self.core is) ∙ c.loop-i.invariant.merged_out is
