use Rattle.rv32_decode.proofs.Meaning.{registers_if_spelled}
use Rattle.rv32_decode.proofs.instruction.Instr.bits.Goals as goal

pub operands-requires : goal.operands-requires
operands-requires c = registers_if_spelled c.args.self.now c.requires
