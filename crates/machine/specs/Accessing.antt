-- How a machine ends a load or a store.
use Rattle.std.specs.Prelude.{Result, Ok, Err}
use Rattle.rvv_meaning.specs.States.{Core, advanced, trap}
use Rattle.vec_mem.specs.declared.loads.VecFault.{VecFault}
use Rattle.vtype_cfg.specs.declared.configuration.Cfg.{Cfg}

-- the machine with the length and the first element of a configuration
abbrev pub with_cfg : Cfg → Core → Core
with_cfg cfg c = record c { csrs = record c.csrs { vstart = cfg.vstart; vl = cfg.vl } }

-- It retires, or it traps: an answer of the call ends so, which left this configuration.
abbrev pub core_ended : {T : Type 0} → Result T VecFault → Cfg → Core → Core
core_ended (Ok done) cfg c = advanced (with_cfg cfg c)
core_ended (Err fault) cfg c = record (with_cfg cfg c) { mode = trap fault.cause fault.address c }
