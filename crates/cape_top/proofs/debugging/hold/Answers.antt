use Rattle.std.proofs.Common.{refl, true}
use Rattle.cape_io.specs.Views.{source_view}
use Rattle.cape_top.specs.Debugging.{loaded_moment}
use Rattle.cape_top.proofs.DebugLemmas.{cut_of, session_cut, session_done}
use Rattle.cape_top.proofs.TopLemmas.{memory_in, shows_start_so}
use Rattle.cape_top.proofs.debugging.hold.Goals as goal

pub returns-in-Ok-session-clause-ends : goal.returns-in-Ok-session-clause-ends
returns-in-Ok-session-clause-ends g c =
    let l = c.args.loaded in
    let o = c.args.options in
    session_done (loaded_moment o l c.args.given.now) c.in-Ok.machine c.session.new.machine (source_view g.S.Source c.args.commands.now) (source_view g.S.Source c.session.new.commands) _
    (shows_start_so true o.vlen o.policy l.entry_pc (memory_in l) c.args.given.now c.in-Ok.machine _ (rw c.in-Ok-new.ensures refl) c.in-Ok.ensures.core c.in-Ok.ensures.slices c.in-Ok.ensures.last
    c.in-Ok.ensures.counts c.in-Ok.ensures.control)
    c.in-Ok-session.ensures.answers

pub returns-clause-ends : goal.returns-clause-ends
returns-clause-ends g c =
    let l = c.args.loaded in
    let o = c.args.options in
    rw c.status_of.ensures (session_cut (loaded_moment o l c.args.given.now) c.in-Ok.machine c.session.new.machine (source_view g.S.Source c.args.commands.now)
    (source_view g.S.Source c.session.new.commands) _
    (shows_start_so true o.vlen o.policy l.entry_pc (memory_in l) c.args.given.now c.in-Ok.machine _ (rw c.in-Ok-new.ensures refl) c.in-Ok.ensures.core c.in-Ok.ensures.slices c.in-Ok.ensures.last
    c.in-Ok.ensures.counts c.in-Ok.ensures.control)
    _ (cut_of c.in-Err.fault) c.in-Err.ensures.prefixes)
