-- One less than a power of two is a mask of so many bits.
use Rattle.std.proofs.Common.{◌^◌, ◌/◌, ◌<◌}
use Rattle.std.proofs.lemmas.Nat.{and_mask, one_shl}
use Rattle.rvv_decode.proofs.fields.bits_at.Goals as goal

pub returns : goal.returns
returns c =
    let below : c.args.width < 32 = c.requires.width in
    rw (one_shl c.args.width 32 below) (and_mask (c.args.word / 2 ^ c.args.low) c.args.width)
