use Rattle.std.proofs.Common.{◌-◌, ◌/◌, ◌^◌, ap, ◌∙◌}
use Rattle.std.specs.Prelude.{bit_and}
use Rattle.std.proofs.lemmas.Nat.{and_mask, one_shl}
use Rattle.rv32_decode.proofs.fields.bits_at.Goals as goal

pub returns-clause-value : goal.returns-clause-value
returns-clause-value c =
    let n = c.args.word / 2 ^ c.args.low in
    ap (λ m. bit_and n (m - 1)) (one_shl c.args.width 32 c.requires.narrow) ∙ and_mask n c.args.width
