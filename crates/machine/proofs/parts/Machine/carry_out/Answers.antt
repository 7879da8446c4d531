use Rattle.std.proofs.Common.{◌≡◌, ◌∙◌, sym, ap, []}
use Rattle.cape_io.specs.Views.{views}
use Rattle.rvv_meaning.specs.States.{next}
use Rattle.rvv_meaning.specs.declared.Meaning.TheVariants.{Vector}
use Rattle.rvv_meaning.specs.declared.Next.TheVariants.{Perform}
use Rattle.machine.proofs.Carried.{emptied, carries-stop, stop-quiet, vector-quiet, quiet-out, quiet-err}
use Rattle.machine.proofs.parts.Machine.carry_out.Goals as goal

pub returns-in-Stop-clause-carries : goal.returns-in-Stop-clause-carries
returns-in-Stop-clause-carries g c = (
  [],
  carries-stop c.args.self.now c.stop.new.self (views g.S.Source g.O.Sink g.E.Sink c.args.input.now c.args.out.now c.args.err.now) c.in-Stop.mode (sym c.next.ensures.is ∙ c.in-Stop.is)
      (emptied c.args.self.now c.stop.new.self _ c.requires.empty c.stop.ensures),
)

pub perform-requires-clause-there : goal.perform-requires-clause-there
perform-requires-clause-there g c = sym c.next.ensures.is ∙ c.in-Perform-Scalar.is ∙ ap Perform c.in-Perform-Scalar.field-0-is

pub returns-in-Perform-Vector-clause-carries : goal.returns-in-Perform-Vector-clause-carries
returns-in-Perform-Vector-clause-carries g c = ([], c.perform_vector.ensures.carries (views g.S.Source g.O.Sink g.E.Sink c.args.input.now c.args.out.now c.args.err.now))

pub returns-in-Stop-clause-to_out : goal.returns-in-Stop-clause-to_out
returns-in-Stop-clause-to_out g c = quiet-out g.O.Sink _ c.args.merged c.args.self.now.core c.args.out.now (stop-quiet c.in-Stop.mode c.args.self.now.core (sym c.next.ensures.is ∙ c.in-Stop.is))

pub returns-in-Perform-Vector-clause-to_out : goal.returns-in-Perform-Vector-clause-to_out
returns-in-Perform-Vector-clause-to_out g c =
    let there : next c.args.self.now.core ≡ Perform (Vector c.in-Perform-Vector.i) = sym c.next.ensures.is ∙ c.in-Perform-Vector.is ∙ ap Perform c.in-Perform-Vector.field-0-is in
    quiet-out g.O.Sink _ c.args.merged c.args.self.now.core c.args.out.now (vector-quiet c.in-Perform-Vector.i c.args.self.now.core there)

pub returns-in-Stop-clause-to_err : goal.returns-in-Stop-clause-to_err
returns-in-Stop-clause-to_err g c = quiet-err g.E.Sink _ c.args.merged c.args.self.now.core c.args.err.now (stop-quiet c.in-Stop.mode c.args.self.now.core (sym c.next.ensures.is ∙ c.in-Stop.is))

pub returns-in-Perform-Vector-clause-to_err : goal.returns-in-Perform-Vector-clause-to_err
returns-in-Perform-Vector-clause-to_err g c =
    let there : next c.args.self.now.core ≡ Perform (Vector c.in-Perform-Vector.i) = sym c.next.ensures.is ∙ c.in-Perform-Vector.is ∙ ap Perform c.in-Perform-Vector.field-0-is in
    quiet-err g.E.Sink _ c.args.merged c.args.self.now.core c.args.err.now (vector-quiet c.in-Perform-Vector.i c.args.self.now.core there)
