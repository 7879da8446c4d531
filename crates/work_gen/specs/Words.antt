-- The words of a workload: it gives each vector register but the first some content, then makes blocks of a setting and one
-- vector instruction, and exits with a number that depends on the last two registers.
use Rattle.std.specs.Prelude.{ℕ, zero, suc, ◌+◌, ◌*◌, ◌/◌, ◌%◌, ◌^◌, List, [], ◌∷◌, ◌++◌, slice_index}
use Rattle.work_gen.specs.Draws.{advanced, drawn, state_after, draw}

-- vsetvli x5, x0, e32, m1, ta, ma
abbrev pub setting_of_words : ℕ
setting_of_words = 0x0d0072d7

-- lui x6 with the high twenty bits of a number
abbrev pub lui_word : ℕ → ℕ
lui_word number = number / 2 ^ 12 * 2 ^ 12 + 0x337

-- vid.v of a register
abbrev pub vid_word : ℕ → ℕ
vid_word r = 0x5208a057 + 2 ^ 7 * r

-- vadd.vx of a register, itself and x6
abbrev pub vadd_word : ℕ → ℕ
vadd_word r = 0x02034057 + (2 ^ 20 + 2 ^ 7) * r

-- what gives a register its content: each element is its number plus a number that was drawn
abbrev pub filling : ℕ → ℕ → List ℕ
filling number r = lui_word number ∷ vid_word r ∷ vadd_word r ∷ []

-- that of some registers from one on, from a state on
unfoldable pub fillings : ℕ → ℕ → ℕ → List ℕ
fillings zero r state = []
fillings (suc n) r state = filling (drawn (advanced state)) r ++ fillings n (r + 1) (advanced state)

-- the vector registers, but the first
abbrev pub filled_registers : ℕ
filled_registers = 31

-- vsetvli x5, x0 with elements of 8, 16 or 32 bits, m1, ta, ma
abbrev pub setting_word : ℕ → ℕ
setting_word number = 0x0c0072d7 + 2 ^ 23 * (number % 3)

-- the word of an operation on vector registers, without a mask and with its registers 0, by its operation code: that of
-- the group of additions, and that of the group of multiplications
abbrev pub additive : ℕ → ℕ
additive code = 2 ^ 26 * code + 0x02000057

abbrev pub multiplicative : ℕ → ℕ
multiplicative code = 2 ^ 26 * code + 0x02002057

-- vadd, vsub, vminu, vmax, vand, vor, vxor, vsll, vsra, vsadd; vmul, vmulhu, vdivu, vrem, vmacc, vaadd
abbrev pub operations : List ℕ
operations =
    additive 0x00 ∷ additive 0x02 ∷ additive 0x04 ∷ additive 0x07 ∷ additive 0x09 ∷ additive 0x0a ∷ additive 0x0b ∷ additive 0x25 ∷ additive 0x29 ∷ additive 0x21
    ∷ multiplicative 0x25 ∷ multiplicative 0x24 ∷ multiplicative 0x20 ∷ multiplicative 0x23 ∷ multiplicative 0x2d ∷ multiplicative 0x09 ∷ []

-- the operation, its destination, which is not the first register, and its two sources, by four numbers
abbrev pub operation_word : ℕ → ℕ → ℕ → ℕ → ℕ
operation_word kind vd vs1 vs2 =
    slice_index operations (kind % 16) + 2 ^ 7 * (1 + vd % 31) + 2 ^ 15 * (vs1 % 32) + 2 ^ 20 * (vs2 % 32)

-- a setting and an operation, by the next five draws
unfoldable pub block : ℕ → List ℕ
block state =
    setting_word (draw 0 state) ∷ operation_word (draw 1 state) (draw 2 state) (draw 3 state) (draw 4 state) ∷ []

-- how many draws a block takes
abbrev pub draws_of_block : ℕ
draws_of_block = 5

-- some blocks, from a state on
unfoldable pub blocks : ℕ → ℕ → List ℕ
blocks zero state = []
blocks (suc n) state = block state ++ blocks n (state_after draws_of_block state)

-- vredxor.vs v1, v31, v30; vmv.x.s x10, v1; addi x17, x0, 93; ecall
abbrev pub ending : List ℕ
ending = setting_of_words ∷ 0x0fff20d7 ∷ 0x42102557 ∷ 0x05d00893 ∷ 0x00000073 ∷ []

-- the words of a workload with so many blocks
unfoldable pub program : ℕ → ℕ → List ℕ
program seed size =
    setting_of_words ∷ fillings filled_registers 1 seed ++ (blocks size (state_after filled_registers seed) ++ ending)
