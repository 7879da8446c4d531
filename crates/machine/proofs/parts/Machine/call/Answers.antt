use Rattle.std.proofs.Common.{Err, refl, sym, ap, ◌∙◌}
use Rattle.cam_chain.specs.ChainValue.{slices_of}
use Rattle.cam_chain.specs.Views.{registers_of}
use Rattle.rvv_meaning.specs.declared.Mode.TheVariants.{Exited}
use Rattle.rvv_meaning.specs.States.{Core}
use Rattle.machine.specs.Moments.{Held}
use Rattle.machine.proofs.Failing.{read-fails, write-fails}
use Rattle.machine.proofs.Returns.{called-back, called-exit}
use Rattle.machine.proofs.parts.Machine.call.Goals as goal

pub returns-in-Ok-Back-clause-called : goal.returns-in-Ok-Back-clause-called
returns-in-Ok-Back-clause-called g c =
    let w = c.in-Ok-Back.ensures.answered in
    let core : Core = record { regs = c.self.inside.regs; pc = c.self.inside.pc; csrs = c.self.inside.csrs; mem = c.self.inside.mem; vectors = registers_of (slices_of c.self.inside.chain); mode = c.self.inside.mode; policy = c.self.inside.policy } in
    let back = called-back core w.taken (sym c.in-Ok-Back.ensures.flow ∙ c.in-Ok-Back.field-0-is) in
    rw (← c.self.view_is) (w.taken, record { took = w.took; quiet = w.quiet; leaves = c.retire_to.ensures ∙ rw (back, c.next_pc.ensures, w.registers, w.memory) refl })

pub returns-in-Ok-Exit-clause-called : goal.returns-in-Ok-Exit-clause-called
returns-in-Ok-Exit-clause-called g c =
    let w = c.in-Ok-Exit.ensures.answered in
    let core : Core = record { regs = c.self.inside.regs; pc = c.self.inside.pc; csrs = c.self.inside.csrs; mem = c.self.inside.mem; vectors = registers_of (slices_of c.self.inside.chain); mode = c.self.inside.mode; policy = c.self.inside.policy } in
    let exit = called-exit core w.taken c.in-Ok-Exit.code (sym c.in-Ok-Exit.ensures.flow ∙ c.in-Ok-Exit.field-0-is) in
    let stopped = ap (λ (h : Held). record h { core = record h.core { mode = Exited c.in-Ok-Exit.code } }) (c.self-in-Ok-Exit.view_is ∙ c.retire_to-in-Ok-Exit.ensures) in
    rw (← c.self.view_is) (w.taken, record { took = w.took; quiet = w.quiet; leaves = stopped ∙ rw (exit, c.next_pc-in-Ok-Exit.ensures, w.registers, w.memory) refl })

pub returns-in-Err-ReadFault-clause-fails : goal.returns-in-Err-ReadFault-clause-fails
returns-in-Err-ReadFault-clause-fails g c =
    let core : Core = record { regs = c.self.inside.regs; pc = c.self.inside.pc; csrs = c.self.inside.csrs; mem = c.self.inside.mem; vectors = registers_of (slices_of c.self.inside.chain); mode = c.self.inside.mode; policy = c.self.inside.policy } in
    rw (← c.self.view_is) (read-fails g.S.Source g.O.Sink g.E.Sink c.args.merged core (record core { regs = c.call.new.regs; mem = c.call.new.mem }) _ _ _ _ _ _
    c.in-Err-ReadFault.ensures.to_out c.in-Err-ReadFault.ensures.to_err (c.in-Err-ReadFault.ensures.read_fault (ap Err c.in-Err-ReadFault.field-0-is)))

pub returns-in-Err-WriteFault-clause-fails : goal.returns-in-Err-WriteFault-clause-fails
returns-in-Err-WriteFault-clause-fails g c =
    let core : Core = record { regs = c.self.inside.regs; pc = c.self.inside.pc; csrs = c.self.inside.csrs; mem = c.self.inside.mem; vectors = registers_of (slices_of c.self.inside.chain); mode = c.self.inside.mode; policy = c.self.inside.policy } in
    rw (← c.self.view_is) (write-fails g.S.Source g.O.Sink g.E.Sink c.args.merged core (record core { regs = c.call.new.regs; mem = c.call.new.mem }) _ _ _ _ _ _
    c.in-Err-WriteFault.ensures.to_out c.in-Err-WriteFault.ensures.to_err c.in-Err-WriteFault.ensures.input_stays (c.in-Err-WriteFault.ensures.write_fault (ap Err c.in-Err-WriteFault.field-0-is)))

pub returns-in-Ok-Back-clause-to_out : goal.returns-in-Ok-Back-clause-to_out
returns-in-Ok-Back-clause-to_out g c = rw (← c.self.view_is) c.in-Ok-Back.ensures.to_out

pub returns-in-Ok-Back-clause-to_err : goal.returns-in-Ok-Back-clause-to_err
returns-in-Ok-Back-clause-to_err g c = rw (← c.self.view_is) c.in-Ok-Back.ensures.to_err

pub returns-in-Ok-Exit-clause-to_out : goal.returns-in-Ok-Exit-clause-to_out
returns-in-Ok-Exit-clause-to_out g c = rw (← c.self.view_is) c.in-Ok-Exit.ensures.to_out

pub returns-in-Ok-Exit-clause-to_err : goal.returns-in-Ok-Exit-clause-to_err
returns-in-Ok-Exit-clause-to_err g c = rw (← c.self.view_is) c.in-Ok-Exit.ensures.to_err

pub returns-in-Err-ReadFault-clause-to_out : goal.returns-in-Err-ReadFault-clause-to_out
returns-in-Err-ReadFault-clause-to_out g c = rw (← c.self.view_is) c.in-Err-ReadFault.ensures.to_out

pub returns-in-Err-ReadFault-clause-to_err : goal.returns-in-Err-ReadFault-clause-to_err
returns-in-Err-ReadFault-clause-to_err g c = rw (← c.self.view_is) c.in-Err-ReadFault.ensures.to_err

pub returns-in-Err-WriteFault-clause-to_out : goal.returns-in-Err-WriteFault-clause-to_out
returns-in-Err-WriteFault-clause-to_out g c = rw (← c.self.view_is) c.in-Err-WriteFault.ensures.to_out

pub returns-in-Err-WriteFault-clause-to_err : goal.returns-in-Err-WriteFault-clause-to_err
returns-in-Err-WriteFault-clause-to_err g c = rw (← c.self.view_is) c.in-Err-WriteFault.ensures.to_err
