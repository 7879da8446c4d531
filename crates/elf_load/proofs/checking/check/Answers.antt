use Rattle.elf_load.proofs.FaultOrder.{fault-in_header, fault-in_segments}
use Rattle.elf_load.proofs.checking.check.Goals as goal

pub returns-in-Some-clause-refused : goal.returns-in-Some-clause-refused
returns-in-Some-clause-refused c = fault-in_header c.args.image.now _ c.in-Some.ensures

pub returns-in-Some-segment_fault-clause-refused : goal.returns-in-Some-segment_fault-clause-refused
returns-in-Some-segment_fault-clause-refused c = fault-in_segments c.args.image.now _ c.in_default.ensures c.in-Some-segment_fault.ensures
