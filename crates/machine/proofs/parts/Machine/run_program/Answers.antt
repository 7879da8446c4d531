use Rattle.std.proofs.Common.{◌≡◌, ◌*◌, ℕ, Bool, true, false, cond, Some, List, refl, sym, ◌∙◌, ap}
use Rattle.cam_chain.specs.ChainValue.{slices_of}
use Rattle.cam_chain.specs.Views.{registers_of}
use Rattle.rvv_meaning.specs.States.{Core, cfg_at}
use Rattle.rvv_meaning.specs.Vectors.{scalar_operand}
use Rattle.machine.proofs.Engine.{replayed-slices, replayed-counts, replayed-control}
use Rattle.machine.proofs.Programmed.{program-core}
use Rattle.machine.proofs.parts.Machine.run_program.Goals as goal

pub returns-clause-core : goal.returns-clause-core
returns-clause-core c =
    let old = c.self.inside.chain in
    let ops = c.plan.new.buf.ops in
    let i = c.args.i.now in
    let core : Core = record { regs = c.self.inside.regs; pc = c.self.inside.pc; csrs = c.self.inside.csrs; mem = c.self.inside.mem; vectors = registers_of (slices_of old); mode = c.self.inside.mode; policy = c.self.inside.policy } in
    let is : c.cfg-cfg.result ≡ cfg_at core = rw (c.cfg-cfg.ensures.is, ← c.self.view_is) refl in
    let scalar : c.scalar_of-scalar.result ≡ scalar_operand i core.regs = rw (c.scalar_of-scalar.ensures, ← c.self.view_is) refl in
    let after = replayed-slices old c.replay.new.chain c.replay.new.ctl ops c.ops.result.now c.ops.ensures.value c.replay.ensures.slices in
    let control = replayed-control old c.replay.new.ctl ops c.ops.result.now c.ops.ensures.value c.replay.ensures.control in
    rw (c.take_number.ensures, after, control, ← c.self.view_is) (program-core i core old ops refl (rw (is, scalar) at c.plan.ensures.realises) c.self.invariant.vlen c.requires.computed)

pub returns-clause-slices : goal.returns-clause-slices
returns-clause-slices c =
    replayed-slices c.self.inside.chain c.replay.new.chain c.replay.new.ctl c.plan.new.buf.ops c.ops.result.now c.ops.ensures.value c.replay.ensures.slices
    ∙ rw (c.plan.ensures.program, c.scalar_of-scalar.ensures, c.cfg-cfg.ensures.is, ← c.self.view_is) refl

pub returns-clause-counts : goal.returns-clause-counts
returns-clause-counts c =
    replayed-counts c.self.inside.chain.counts c.replay.new.chain.counts c.plan.new.buf.ops c.ops.result.now c.ops.ensures.value c.replay.ensures.counted
    ∙ rw (c.plan.ensures.program, c.scalar_of-scalar.ensures, c.cfg-cfg.ensures.is, ← c.self.view_is) refl

pub returns-clause-control : goal.returns-clause-control
returns-clause-control c =
    replayed-control c.self.inside.chain c.replay.new.ctl c.plan.new.buf.ops c.ops.result.now c.ops.ensures.value c.replay.ensures.control
    ∙ rw (c.plan.ensures.program, c.scalar_of-scalar.ensures, c.cfg-cfg.ensures.is, ← c.self.view_is) refl
