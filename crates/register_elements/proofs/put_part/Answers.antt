use Rattle.std.proofs.Common.{arith}
use Rattle.cam_chain.proofs.Registers.{raw-small}
use Rattle.register_elements.proofs.put_part.Goals as goal

pub overflow_mul-made-2 : goal.overflow_mul-made-2
overflow_mul-made-2 c = let h = raw-small c.from-old.result c.args.from c.args.size c.from.result (omega arith) c.requires in omega arith

pub overflow_add-made-2 : goal.overflow_add-made-2
overflow_add-made-2 c = let h = raw-small c.from-old.result c.args.from c.args.size c.from.result (omega arith) c.requires in omega arith

pub overflow_cast-result : goal.overflow_cast-result
overflow_cast-result c = let h = raw-small c.from-old.result c.args.from c.args.size c.from.result (omega arith) c.requires in omega arith
