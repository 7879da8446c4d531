use Rattle.std.proofs.Common.{◌≡◌, ◌∙◌, ap, true, arith}
use Rattle.rvv_meaning.specs.States.{Core}
use Rattle.machine.specs.Moments.{Held}
use Rattle.machine.proofs.Carried.{emptied, carries-configuration}
use Rattle.machine.proofs.Configurations.{computes, vector-retires, vector-length}
use Rattle.machine.proofs.parts.Machine.perform_vector.Goals as goal

pub returns-in-Config-clause-carries : goal.returns-in-Config-clause-carries
returns-in-Config-clause-carries c = λ v.
    carries-configuration c.args.self.now c.configure.new.self v c.in-Config.op c.args.i.now c.requires.there c.in-Config.is
    (emptied c.args.self.now c.configure.new.self _ c.requires.empty c.configure.ensures)

pub returns-in-Config-clause-count : goal.returns-in-Config-clause-count
returns-in-Config-clause-count c =
    let retired = ap (λ (h : Held). h.core.csrs.retired) c.configure.ensures in
    let few = vector-retires c.args.i.now c.args.self.now.core in
    omega arith

pub returns-in-Config-clause-length : goal.returns-in-Config-clause-length
returns-in-Config-clause-length c = ap (λ (h : Held). h.core.csrs.vlen) c.configure.ensures ∙ vector-length c.args.i.now c.args.self.now.core

pub compute-requires-clause-computed : goal.compute-requires-clause-computed
compute-requires-clause-computed c = computes c.args.i.now.op c.in-Opi.is
