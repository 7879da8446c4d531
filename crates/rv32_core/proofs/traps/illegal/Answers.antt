use Rattle.std.proofs.Common.{sym, ◌∙◌}
use Rattle.rv32_core.proofs.WordLaws.{word_of-is}
use Rattle.rv32_core.proofs.traps.illegal.Goals as goal

pub returns : goal.returns
returns c =
    let s = c.requires in
    let word = c.bits.ensures s.word s.fits s.meant ∙ sym (word_of-is c.args.i.now s) in
    rw (← word) c.trap.ensures
