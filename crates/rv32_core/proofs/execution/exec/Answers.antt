use Rattle.std.proofs.Common.{◌≤◌, ap, sym, subst, arith}
use Rattle.rv32_decode.proofs.Meaning.{registers_if_spelled}
use Rattle.rvv_meaning.specs.Scalar.{Effect, effect}
use Rattle.rvv_meaning.specs.declared.Csrs.{Csrs}
use Rattle.vtype_cfg.proofs.Lengths.{vlen_from}
use Rattle.rv32_core.specs.Keeping.{Keeps}
use Rattle.rv32_core.proofs.Keeping.{executed-keeps}
use Rattle.rv32_core.proofs.execution.exec.Goals as goal

pub perform-requires-clause-registers : goal.perform-requires-clause-registers
perform-requires-clause-registers c = registers_if_spelled c.args.i.now c.requires.spelled

pub perform-requires-clause-vlen : goal.perform-requires-clause-vlen
perform-requires-clause-vlen c = let least : 32 ≤ c.args.csrs.now.vlen = vlen_from c.args.csrs.now.vlen c.requires.vlen in omega arith

pub returns-clause-flow : goal.returns-clause-flow
unfolding effect
returns-clause-flow c = ap (λ (e : Effect). e.flow) c.perform.ensures

pub returns-clause-regs : goal.returns-clause-regs
unfolding effect
returns-clause-regs c = ap (λ (e : Effect). e.regs) c.perform.ensures

pub returns-clause-csrs : goal.returns-clause-csrs
unfolding effect
returns-clause-csrs c = ap (λ (e : Effect). e.csrs) c.perform.ensures

pub returns-clause-mem : goal.returns-clause-mem
unfolding effect
returns-clause-mem c = ap (λ (e : Effect). e.mem) c.perform.ensures

pub returns-clause-keeps : goal.returns-clause-keeps
unfolding effect
returns-clause-keeps c =
    let same = ap (λ (e : Effect). e.csrs) c.perform.ensures in
    subst (λ (v : Csrs). Keeps c.args.csrs.now v) (sym same) (executed-keeps c.args.i.now c.args.pc c.args.regs.now c.args.csrs.now c.args.mem.now c.requires.vxrm)
