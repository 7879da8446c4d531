-- The order in which the fields of a word are tested, and what is found so.
use Rattle.std.specs.Prelude.{ℕ, List, [], ◌∷◌, Option}
use Rattle.word_rows.specs.Tree.{Tree, leaf, walk, cases, values}
use Rattle.rv32_decode.specs.Opcodes as opcode
use Rattle.rv32_decode.specs.Rows.{rows, instruction_of}
use Rattle.rv32_decode.specs.declared.instruction.Instr.{Instr}

-- f3 is one of these, or f7 is
abbrev f3_in : List ℕ → Tree
f3_in vs = values 12 3 vs leaf

abbrev f7_in : List ℕ → Tree
f7_in vs = values 25 7 vs leaf

abbrev immediate_tests : Tree
immediate_tests = cases 12 3 ((0, leaf) ∷ (1, f7_in (0 ∷ [])) ∷ (2, leaf) ∷ (3, leaf) ∷ (4, leaf) ∷ (5, f7_in (0 ∷ 0b0100000 ∷ [])) ∷ (6, leaf) ∷ (7, leaf) ∷ []) leaf

abbrev any_f3 : Tree
any_f3 = f3_in (0 ∷ 1 ∷ 2 ∷ 3 ∷ 4 ∷ 5 ∷ 6 ∷ 7 ∷ [])

abbrev register_tests : Tree
register_tests = cases 25 7 ((0, any_f3) ∷ (1, any_f3) ∷ (0b0100000, f3_in (0 ∷ 5 ∷ [])) ∷ []) leaf

abbrev system_tests : Tree
system_tests = cases 12 3 ((0, values 0 32 (0x00000073 ∷ 0x00100073 ∷ []) leaf) ∷ (1, leaf) ∷ (2, leaf) ∷ (3, leaf) ∷ (5, leaf) ∷ (6, leaf) ∷ (7, leaf) ∷ []) leaf

abbrev pub tests : Tree
tests = cases 0 7 (
    (opcode.lui, leaf)
    ∷ (opcode.auipc, leaf)
    ∷ (opcode.jal, leaf)
    ∷ (opcode.jalr, f3_in (0 ∷ []))
    ∷ (opcode.branch, f3_in (0 ∷ 1 ∷ 4 ∷ 5 ∷ 6 ∷ 7 ∷ []))
    ∷ (opcode.load, f3_in (0 ∷ 1 ∷ 2 ∷ 4 ∷ 5 ∷ []))
    ∷ (opcode.store, f3_in (0 ∷ 1 ∷ 2 ∷ []))
    ∷ (opcode.op_imm, immediate_tests)
    ∷ (opcode.op_reg, register_tests)
    ∷ (opcode.misc_mem, f3_in (0 ∷ 1 ∷ []))
    ∷ (opcode.system, system_tests)
    ∷ []) leaf

-- the instruction that the tests find
unfoldable pub found : ℕ → Option Instr
found word = instruction_of (walk tests 0 0 rows word) word
