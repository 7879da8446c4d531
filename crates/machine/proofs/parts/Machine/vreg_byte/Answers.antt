use Rattle.std.proofs.Common.{◌*◌, ◌<◌, arith, ap}
use Rattle.cam_chain.specs.ChainValue.{slices_of}
use Rattle.machine.specs.Moments.{Held}
use Rattle.machine.proofs.Starts.{word-byte}
use Rattle.machine.proofs.parts.Machine.vreg_byte.Goals as goal

pub returns : goal.returns
unfolding slices_of
returns c =
    let inside : c.args.j < 4 * c.self.inside.chain.columns = omega (arith, c.requires.place, ap (λ (m : Held). m.core.csrs.vlen) c.self.view_is) in
    rw (← c.self.view_is) (word-byte (slices_of c.self.inside.chain) c.read_word-word.result c.args.r c.args.j c.requires.register inside c.read_word-word.ensures)
