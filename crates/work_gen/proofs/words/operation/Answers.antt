use Rattle.std.proofs.Common.{◌%◌}
use Rattle.work_gen.proofs.Programs.{operations-room}
use Rattle.work_gen.proofs.words.operation.Goals as goal

pub returns-clause-room : goal.returns-clause-room
returns-clause-room c = operations-room (c.args.kind % 16)
