use Rattle.std.proofs.Common.{◌≡◌, ◌∙◌, List, refl, sym, ap, true, false, arith}
use Rattle.micro_ir.specs.declared.op.MicroOp.{MicroOp}
use Rattle.rvv_meaning.specs.States.{Core}
use Rattle.machine.specs.Moments.{Held}
use Rattle.machine.proofs.Carried.{emptied, carries-program, carries-number, carries-permuted}
use Rattle.machine.proofs.Configurations.{vector-retires, vector-length}
use Rattle.machine.proofs.parts.Machine.compute.Goals as goal

pub returns-then-engine-clause-carries : goal.returns-then-engine-clause-carries
returns-then-engine-clause-carries c = λ v.
    carries-program c.args.self.now c.run_program.new.self v c.args.i.now c.requires.there c.requires.computed (sym c.engine.ensures.value ∙ c.if-engine.true)
    c.run_program.ensures.core c.run_program.ensures.slices c.run_program.ensures.last c.run_program.ensures.counts c.run_program.ensures.control c.run_program.ensures.live

pub returns-then-engine-clause-count : goal.returns-then-engine-clause-count
returns-then-engine-clause-count c =
    let retired = ap (λ (k : Core). k.csrs.retired) c.run_program.ensures.core in
    let few = vector-retires c.args.i.now c.args.self.now.core in
    omega arith

pub returns-then-engine-clause-length : goal.returns-then-engine-clause-length
returns-then-engine-clause-length c = ap (λ (k : Core). k.csrs.vlen) c.run_program.ensures.core ∙ vector-length c.args.i.now c.args.self.now.core

pub returns-then-leaves_number-clause-carries : goal.returns-then-leaves_number-clause-carries
returns-then-leaves_number-clause-carries c = λ v.
    carries-number c.args.self.now c.move_out.new.self v c.args.i.now c.requires.there c.requires.computed (sym c.engine.ensures.value ∙ c.if-engine.false) (sym c.leaves_number.ensures ∙ c.if-leaves_number.true)
    (emptied c.args.self.now c.move_out.new.self _ c.requires.empty c.move_out.ensures)

pub returns-then-leaves_number-clause-count : goal.returns-then-leaves_number-clause-count
returns-then-leaves_number-clause-count c =
    let retired = ap (λ (h : Held). h.core.csrs.retired) c.move_out.ensures in
    let few = vector-retires c.args.i.now c.args.self.now.core in
    omega arith

pub returns-then-leaves_number-clause-length : goal.returns-then-leaves_number-clause-length
returns-then-leaves_number-clause-length c = ap (λ (h : Held). h.core.csrs.vlen) c.move_out.ensures ∙ vector-length c.args.i.now c.args.self.now.core

pub returns-else-leaves_number-clause-carries : goal.returns-else-leaves_number-clause-carries
returns-else-leaves_number-clause-carries c = λ v.
    carries-permuted c.args.self.now c.move_elements.new.self v c.args.i.now c.requires.there c.requires.computed (sym c.engine.ensures.value ∙ c.if-engine.false) (sym c.leaves_number.ensures ∙ c.if-leaves_number.false)
    c.move_elements.ensures.core c.move_elements.ensures.slices
    (c.move_elements.ensures.rest ∙ ap (λ (ops : List MicroOp). record c.args.self.now { core = c.move_elements.new.self.core; chain = c.move_elements.new.self.chain; last = ops }) c.requires.empty)
    c.move_elements.ensures.counts

pub returns-else-leaves_number-clause-count : goal.returns-else-leaves_number-clause-count
returns-else-leaves_number-clause-count c =
    let retired = ap (λ (k : Core). k.csrs.retired) c.move_elements.ensures.core in
    let few = vector-retires c.args.i.now c.args.self.now.core in
    omega arith

pub returns-else-leaves_number-clause-length : goal.returns-else-leaves_number-clause-length
returns-else-leaves_number-clause-length c = ap (λ (k : Core). k.csrs.vlen) c.move_elements.ensures.core ∙ vector-length c.args.i.now c.args.self.now.core
