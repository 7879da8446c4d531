use Rattle.std.proofs.Common.{◌≡◌, ◌+◌, ◌*◌, ◌/◌, ℕ, List, true, false, Some, refl, sym, ◌∙◌, ap}
use Rattle.cam_chain.specs.ChainValue.{slices_of}
use Rattle.cam_chain.specs.Views.{registers_of}
use Rattle.rvv_meaning.specs.Elementwise.{is_ones}
use Rattle.rvv_meaning.specs.States.{Core, cfg_at, vector_effect_at}
use Rattle.rvv_meaning.specs.Vectors.{scalar_operand}
use Rattle.machine.specs.Moments.{Held, with_registers}
use Rattle.machine.proofs.Following.{registers-follow}
use Rattle.machine.proofs.Moving.{Moved, moved, moved-core, moved-vectors}
use Rattle.machine.proofs.parts.Machine.move_elements.Goals as goal

pub returns-clause-core : goal.returns-clause-core
returns-clause-core c =
    let i = c.args.i.now in
    let core : Core = record { regs = c.self.inside.regs; pc = c.self.inside.pc; csrs = c.self.inside.csrs; mem = c.self.inside.mem; vectors = registers_of (slices_of c.self.inside.chain); mode = c.self.inside.mode; policy = c.self.inside.policy } in
    let is : c.cfg-cfg.result ≡ cfg_at core = rw (c.cfg-cfg.ensures.is, ← c.self.view_is) refl in
    let it = moved i core (registers_of (slices_of c.permute.new.chain)) c.requires.computed c.requires.registers (rw is at (c.permute.ensures.vectors (scalar_operand i core.regs))) in
    ap (λ (h : Held). h.core) c.retire_to.ensures
    ∙ rw (c.next_pc.ensures, ← c.self.view_is) (moved-core i core (registers_of (slices_of c.permute.new.chain)) it)

pub returns-clause-slices : goal.returns-clause-slices
returns-clause-slices c =
    let i = c.args.i.now in
    let core : Core = record { regs = c.self.inside.regs; pc = c.self.inside.pc; csrs = c.self.inside.csrs; mem = c.self.inside.mem; vectors = registers_of (slices_of c.self.inside.chain); mode = c.self.inside.mode; policy = c.self.inside.policy } in
    let is : c.cfg-cfg.result ≡ cfg_at core = rw (c.cfg-cfg.ensures.is, ← c.self.view_is) refl in
    let it = moved i core (registers_of (slices_of c.permute.new.chain)) c.requires.computed c.requires.registers (rw is at (c.permute.ensures.vectors (scalar_operand i core.regs))) in
    let left = moved-vectors i core (registers_of (slices_of c.permute.new.chain)) it in
    ap (λ (h : Held). slices_of h.chain) c.retire_to.ensures
    ∙ registers-follow c.self.inside.chain c.permute.new.chain c.permute.ensures.rest
    ∙ rw (← c.self.view_is, left) refl
