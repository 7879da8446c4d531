-- What was configured can stand in place.
use Rattle.vtype_cfg.proofs.Configured.{configured_in_place}
use Rattle.vtype_cfg.proofs.configuration.set_vl.Goals as goal

pub returns-clause-setting : goal.returns-clause-setting
returns-clause-setting c =
    (configured_in_place c.configured.result c.args.old.now c.args.old_vl c.args.avl c.args.vtypei c.args.vlen c.configured.ensures c.requires.length).setting

pub returns-clause-length : goal.returns-clause-length
returns-clause-length c =
    (configured_in_place c.configured.result c.args.old.now c.args.old_vl c.args.avl c.args.vtypei c.args.vlen c.configured.ensures c.requires.length).length
