use Rattle.std.proofs.Common.{take}
use Rattle.micro_ir.proofs.Keeping.{rows-keep}
use Rattle.micro_ir.proofs.Lists.{clips-none}
use Rattle.micro_ir.specs.Tables.{rows_list, step_list, values_of}
use Rattle.flag_laws.proofs.Tables.{table-keep}
use Rattle.flag_laws.proofs.tables_flag_law.Goals as goal

pub returns : goal.returns
returns c = record {
  apart = λ step s. clips-none (step_list step) s (table-keep step.subs (take step.n step.inputs) (values_of step.on) step.out step.up step.times);
  any = λ subs inputs on out up times s. clips-none (rows_list subs inputs on out up times) s (rows-keep subs inputs on out up times);
}
