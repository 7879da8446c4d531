-- A word that means the instruction is spelled by its fields.
use Rattle.std.proofs.Common.{◌∙◌}
use Rattle.rvv_decode.specs.declared.instruction.VOp.TheVariants.{Opi, Opm, Config, Memory}
use Rattle.rvv_decode.proofs.Spelled.{read, in_range}
use Rattle.rvv_decode.proofs.instruction.VInstr.bits.Goals as goal

pub opi_word-requires : goal.opi_word-requires
opi_word-requires c = in_range _ c.requires

pub opm_word-requires : goal.opm_word-requires
opm_word-requires c = in_range _ c.requires

pub config_word-requires-clause-fields : goal.config_word-requires-clause-fields
config_word-requires-clause-fields c = in_range _ c.requires

pub config_word-requires-clause-layout : goal.config_word-requires-clause-layout
config_word-requires-clause-layout c = (read (Config c.in-Config.op) _ _ c.in-Config.is c.requires.fits c.requires.meant).name

pub memory_word-requires-clause-fields : goal.memory_word-requires-clause-fields
memory_word-requires-clause-fields c = in_range _ c.requires

pub memory_word-requires-clause-layout : goal.memory_word-requires-clause-layout
memory_word-requires-clause-layout c = (read (Memory c.in-Memory.op) _ _ c.in-Memory.is c.requires.fits c.requires.meant).name

pub returns-in-Opi : goal.returns-in-Opi
returns-in-Opi c word fits meant = c.opi_word.ensures ∙ (read (Opi c.in-Opi.op) _ word c.in-Opi.is fits meant).word

pub returns-in-Opm : goal.returns-in-Opm
returns-in-Opm c word fits meant = c.opm_word.ensures ∙ (read (Opm c.in-Opm.op) _ word c.in-Opm.is fits meant).word

pub returns-in-Config : goal.returns-in-Config
returns-in-Config c word fits meant = c.config_word.ensures ∙ (read (Config c.in-Config.op) _ word c.in-Config.is fits meant).word

pub returns-in-Memory : goal.returns-in-Memory
returns-in-Memory c word fits meant = c.memory_word.ensures ∙ (read (Memory c.in-Memory.op) _ word c.in-Memory.is fits meant).word
