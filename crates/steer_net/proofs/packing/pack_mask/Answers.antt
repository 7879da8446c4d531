use Rattle.std.proofs.Common.{not, eqb, sym, ◌∙◌}
use Rattle.std.proofs.lemmas.Bool.{and_parts}
use Rattle.steer_net.proofs.SubarrayRows.{apart}
use Rattle.steer_net.proofs.packing.pack_mask.Goals as goal

pub pack_subarrays-requires-clause-apart_from : goal.pack_subarrays-requires-clause-apart_from
pack_subarrays-requires-clause-apart_from g c = apart c.args.to c.args.from (and_parts (not (eqb c.args.to c.args.from)) (not (eqb c.args.to c.args.under)) (sym c.is_apart.ensures ∙ c.if-is_apart.true)).0

pub pack_subarrays-requires-clause-apart_under : goal.pack_subarrays-requires-clause-apart_under
pack_subarrays-requires-clause-apart_under g c = apart c.args.to c.args.under (and_parts (not (eqb c.args.to c.args.from)) (not (eqb c.args.to c.args.under)) (sym c.is_apart.ensures ∙ c.if-is_apart.true)).1
