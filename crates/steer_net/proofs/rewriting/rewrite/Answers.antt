use Rattle.std.proofs.Common.{◌∙◌}
use Rattle.steer_net.proofs.Rewritten.{source_trimmed, rewritten_all}
use Rattle.steer_net.proofs.rewriting.rewrite.Goals as goal

pub write_subarrays-requires-clause-trimmed : goal.write_subarrays-requires-clause-trimmed
write_subarrays-requires-clause-trimmed g c k l = source_trimmed c.read_source.new.subarrays c.args.source c.args.width (g.P.Planes.slices c.args.p.now) k (c.read_source.ensures k l)

pub returns-clause-slices : goal.returns-clause-slices
returns-clause-slices g c =
    c.write_subarrays.ensures.slices ∙ rewritten_all c.read_source.new.subarrays c.args.source c.args.width c.args.row (g.P.Planes.slices c.args.p.now) c.read_source.ensures
