use Rattle.std.proofs.Common.{◌≡◌, refl, rules}
use Rattle.debug_commands.proofs.Answering.{goes_advanced, put_fails, advance_fails, reads_resumed}
use Rattle.debug_commands.proofs.performing.step_on.Goals as goal

pub returns-in-Err-ReadFault-clause-moves : goal.returns-in-Err-ReadFault-clause-moves
returns-in-Err-ReadFault-clause-moves g c = advance_fails c.args.breaks.now c.args.k (rw c.resume.ensures at c.in-Err-ReadFault.ensures.moves)

pub returns-in-Err-ReadFault-clause-reads : goal.returns-in-Err-ReadFault-clause-reads
returns-in-Err-ReadFault-clause-reads g c = λ is. reads_resumed c.args.breaks.now c.args.k (rw c.resume.ensures at (c.in-Err-ReadFault.ensures.reads (search rules)))

pub returns-in-Err-WriteFault-clause-moves : goal.returns-in-Err-WriteFault-clause-moves
returns-in-Err-WriteFault-clause-moves g c = advance_fails c.args.breaks.now c.args.k (rw c.resume.ensures at c.in-Err-WriteFault.ensures.moves)

pub returns-in-Ok-write_whereabouts-clause-moves : goal.returns-in-Ok-write_whereabouts-clause-moves
returns-in-Ok-write_whereabouts-clause-moves g c = goes_advanced c.args.breaks.now c.args.k (rw c.resume.ensures at c.in-Ok.ensures.moves) c.in-Ok-write_whereabouts.ensures.gained

pub returns-in-Err-clause-moves : goal.returns-in-Err-clause-moves
returns-in-Err-clause-moves g c = put_fails c.args.breaks.now c.args.k (rw c.resume.ensures at c.in-Ok.ensures.moves) c.in-Err.ensures.gained
