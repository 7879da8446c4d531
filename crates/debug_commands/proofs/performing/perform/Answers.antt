use Rattle.std.proofs.Common.{◌≡◌, is_ok}
use Rattle.debug_words.specs.declared.command.Command.TheVariants.{Break, Map, Show}
use Rattle.debug_commands.proofs.Answering.{moves_step, moves_cont, reads_step, reads_cont, moves_answered, shown_stays, shown_is, break_leads, break_is, map_leads, map_is, map_fails, goes_quit}
use Rattle.debug_commands.proofs.performing.perform.Goals as goal

pub returns-in-Step-clause-moves : goal.returns-in-Step-clause-moves
returns-in-Step-clause-moves g c = rw c.in-Step.is (moves_step c.in-Step.k (is_ok c.step_on.result) _ _ c.step_on.ensures.moves)

pub returns-in-Step-clause-reads : goal.returns-in-Step-clause-reads
returns-in-Step-clause-reads g c = λ is. rw c.in-Step.is (reads_step c.in-Step.k (c.step_on.ensures.reads is))

pub returns-in-Cont-clause-moves : goal.returns-in-Cont-clause-moves
returns-in-Cont-clause-moves g c = rw c.in-Cont.is (moves_cont c.in-Cont.k (is_ok c.step_on-in-Cont.result) _ _ (rw c.breaks.ensures at c.step_on-in-Cont.ensures.moves))

pub returns-in-Cont-clause-reads : goal.returns-in-Cont-clause-reads
returns-in-Cont-clause-reads g c = λ is. rw c.in-Cont.is (reads_cont c.in-Cont.k (rw c.breaks.ensures at (c.step_on-in-Cont.ensures.reads is)))

pub returns-in-Break-clause-moves : goal.returns-in-Break-clause-moves
returns-in-Break-clause-moves g c =
    rw (c.in-Break.is, c.written.ensures.same, c.answer_break.ensures.breaks)
    (moves_answered g.O.Sink (Break c.in-Break.address) (is_ok c.answer_break.result) (break_leads c.in-Break.address) (break_is c.in-Break.address) c.answer_break.ensures.text)

pub returns-in-Ok-clause-moves : goal.returns-in-Ok-clause-moves
returns-in-Ok-clause-moves g c =
    rw (c.in-Map.is, c.written-in-Ok.ensures.same, c.in-Ok.ensures.core, c.in-Ok.ensures.pages)
    (moves_answered g.O.Sink (Map c.in-Map.address) (is_ok c.write_mapping.result) (map_leads c.in-Map.address _ c.in-Ok.ensures.what) (map_is c.in-Map.address _ c.in-Ok.ensures.what) c.write_mapping.ensures)

pub returns-in-Err-clause-moves : goal.returns-in-Err-clause-moves
returns-in-Err-clause-moves g c = rw (c.in-Map.is, c.in-Err.ensures.machine_kept, c.in-Err.ensures.desk_kept) (map_fails c.in-Map.address)

pub returns-in-Quit-clause-moves : goal.returns-in-Quit-clause-moves
returns-in-Quit-clause-moves g c = rw c.in-Quit.is goes_quit

pub returns-in-Show-clause-moves : goal.returns-in-Show-clause-moves
returns-in-Show-clause-moves g c =
    rw (c.in-Show.is, c.written-in-Show.ensures.same, c.write_shown.ensures.stays)
    (moves_answered g.O.Sink (Show c.in-Show.shown) (is_ok c.write_shown.result) (shown_stays c.in-Show.shown) (shown_is c.in-Show.shown) c.write_shown.ensures.text)
