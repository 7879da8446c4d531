-- A number below a power of two and a multiple of that power have no bit in common.
use Rattle.std.proofs.Common.{◌*◌, ◌^◌, ◌<◌, ◌∙◌}
use Rattle.std.proofs.Math.Nat.{add_comm, mod-eq_of_lt}
use Rattle.std.proofs.lemmas.Nat.{or_comm, or_shifted}
use Rattle.rvv_decode.proofs.encode.with_field.Goals as goal

pub returns : goal.returns
returns c =
    let field = c.args.field * 2 ^ c.args.low in
    let fits : field < 2 ^ 32 = c.requires.fits in
    rw (mod-eq_of_lt fits)
    (or_comm c.args.word field ∙ or_shifted c.args.field c.args.low c.args.word c.requires.above ∙ add_comm field c.args.word)
