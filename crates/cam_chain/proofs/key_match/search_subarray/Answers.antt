use Rattle.std.proofs.Common.{◌<◌, ◌∙◌, length, arith, sym}
use Rattle.bit_rows.proofs.Rows.{zip_bit}
use Rattle.cam_chain.proofs.Searching.{joined, alone}
use Rattle.cam_chain.proofs.key_match.search_subarray.Goals as goal

pub returns-then-join-clause-each : goal.returns-then-join-clause-each
returns-then-join-clause-each c = λ k h.
    let l : k < length c.args.scratch.now = omega (arith, h, c.requires.scratch) in
    zip_bit _ _ _ _ k c.or_with.ensures.bits (sym (c.match_keys.ensures.len ∙ c.requires.scratch)) h
    ∙ joined _ _ _ _ c.if-join.true (c.match_keys.ensures.each k l)

pub returns-else-join-clause-each : goal.returns-else-join-clause-each
returns-else-join-clause-each c = λ k h. alone _ _ _ _ c.if-join.false (c.match_keys-else-join.ensures.each k h)
