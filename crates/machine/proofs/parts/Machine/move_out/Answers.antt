use Rattle.std.proofs.Common.{◌≡◌, ◌+◌, ◌/◌, true, Some, refl, sym, ◌∙◌, ap}
use Rattle.micro_ir.proofs.Lists.{or_false}
use Rattle.bit_laws.specs.Signed.{extended}
use Rattle.cam_chain.specs.ChainValue.{slices_of}
use Rattle.cam_chain.specs.Views.{registers_of}
use Rattle.element_ops.specs.Elements.{element_of}
use Rattle.rvv_meaning.specs.States.{Core, cfg_at, vtype_at}
use Rattle.rvv_meaning.specs.Vectors.{scalar_operand, number_effect}
use Rattle.rvv_meaning.specs.Whole.{number}
use Rattle.machine.specs.Moments.{Held}
use Rattle.machine.proofs.Configurations.{left-is}
use Rattle.machine.proofs.Moving.{moves-out, out-left}
use Rattle.machine.proofs.parts.Machine.move_out.Goals as goal

pub first_element-value-requires-clause-out : goal.first_element-value-requires-clause-out
first_element-value-requires-clause-out c = moves-out c.args.i.now c.requires.makes c.requires.apart

pub returns : goal.returns
unfolding number_effect
returns c =
    let i = c.args.i.now in
    let core = c.args.self.now.core in
    let named = moves-out i c.requires.makes c.requires.apart in
    let n = extended true (vtype_at core).sew 32 (element_of (core.csrs.vlen / 8) core.vectors i.vs2 (vtype_at core).sew 0) in
    let left = left-is i core (number n) (out-left i (cfg_at core) (scalar_operand i core.regs) core.vectors named) in
    c.retire_to.ensures
    ∙ rw (left, or_false core.csrs.vxsat, c.next_pc.ensures, c.set.ensures, c.first_element-value.ensures, ← c.self.view_is) refl
