use Rattle.std.proofs.Common.{◌≡◌, ◌≤◌, ◌+◌, ◌-◌, ◌∙◌, suc, refl, sym, arith, []}
use Rattle.std.proofs.lemmas.Result.{err_from_is_err_and}
use Rattle.cape_io.specs.Views.{views}
use Rattle.machine.specs.declared.answers.DeviceFault.TheVariants.{ReadFault}
use Rattle.debug_commands.proofs.Steps.{steps_first, steps_more, steps_end, steps_fail, steps_done, steps_read, quiet_both, rose_from, read_rose, write_rose, read_asked}
use Rattle.debug_commands.proofs.stepping.advance.Goals as goal

pub loop-i-init : goal.loop-i-init
loop-i-init g c =
    let whole : c.args.k - 0 ≡ c.args.k = omega arith in
    record {
      on = rw whole (steps_first c.args.breaks.now c.args.k _);
      live = c.requires.live;
      count = omega arith;
      length = refl;
      quiet = record { input = refl; out = refl; err = refl };
    }

pub returns-then-not-goes_on-clause-moves : goal.returns-then-not-goes_on-clause-moves
returns-then-not-goes_on-clause-moves g c = steps_end c.loop-i.invariant.on (sym c.goes_on.ensures.value ∙ c.if-not-goes_on.true)

pub loop-i-preserved : goal.loop-i-preserved
loop-i-preserved g c =
    let left : c.args.k - c.loop-i.i ≡ suc (c.args.k - (c.loop-i.i + 1)) = omega arith in
    record {
      on = steps_more c.in_ok-step.ensures.goes (sym c.goes_on.ensures.value ∙ c.if-not-goes_on.false) (rw left at c.loop-i.invariant.on);
      live = c.in_ok-step.ensures.live;
      count = omega (arith, c.in_ok-step.ensures.count, c.loop-i.invariant.count);
      length = c.step.ensures.length ∙ c.loop-i.invariant.length;
      quiet = quiet_both c.loop-i.invariant.quiet c.in_ok-step.ensures.quiet;
    }

pub returns-clause-moves : goal.returns-clause-moves
returns-clause-moves g c =
    let none : c.args.k - c.loop-i.i ≡ 0 = omega arith in
    steps_done (rw none at c.loop-i.invariant.on)

pub returns-in_err-step-clause-moves : goal.returns-in_err-step-clause-moves
returns-in_err-step-clause-moves g c =
    let left : c.args.k - c.loop-i.i ≡ suc (c.args.k - (c.loop-i.i + 1)) = omega arith in
    let p = err_from_is_err_and c.from_residual.result c.from_residual.ensures.1 in
    rw p.1 (steps_fail (views g.S.Source g.O.Sink g.E.Sink c.step.new.input c.step.new.out c.step.new.err) c.in_err-step.ensures.prefixes (sym c.goes_on.ensures.value ∙ c.if-not-goes_on.false) (rw left at c.loop-i.invariant.on))

pub returns-in_err-step-clause-reads : goal.returns-in_err-step-clause-reads
returns-in_err-step-clause-reads g c = λ is.
    let left : c.args.k - c.loop-i.i ≡ suc (c.args.k - (c.loop-i.i + 1)) = omega arith in
    let p = err_from_is_err_and c.from_residual.result c.from_residual.ensures.1 in
    let fault : c.in_err-step.field-0.0 ≡ ReadFault = cc (p.1, p.2, is) in
    steps_read (read_asked (rw fault at c.in_err-step.ensures.fails) c.in_err-step.ensures.calls) (sym c.goes_on.ensures.value ∙ c.if-not-goes_on.false) (rw left at c.loop-i.invariant.on)
