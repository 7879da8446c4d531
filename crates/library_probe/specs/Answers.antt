-- What is told of a word that means an instruction, or none.
use Rattle.std.specs.Prelude.{Option, Some, None}
use Rattle.rvv_decode.specs.declared.instruction.VInstr.{VInstr}
use Rattle.vtype_cfg.specs.Settings.{vtype_of}
use Rattle.vtype_cfg.specs.Legality.{is_legal}
use Rattle.library_probe.specs.declared.words.Question.{Question}
use Rattle.library_probe.specs.declared.words.Answer as answer

abbrev pub answer_of : Question → Option VInstr → answer.Answer
answer_of q None = answer.TheVariants.None
answer_of q (Some i) = answer.TheVariants.Row q.word (is_legal i (vtype_of q.vtype) q.vstart)
