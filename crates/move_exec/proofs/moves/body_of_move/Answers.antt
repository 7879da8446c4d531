use Rattle.move_exec.proofs.Valid.{valid-setting, valid-length}
use Rattle.move_exec.proofs.moves.body_of_move.Goals as goal

pub vlmax-requires-clause-setting : goal.vlmax-requires-clause-setting
vlmax-requires-clause-setting c = valid-setting c.args.cfg.now c.requires.valid

pub vlmax-requires-clause-length : goal.vlmax-requires-clause-length
vlmax-requires-clause-length c = valid-length c.args.cfg.now c.requires.valid
