-- Jumps and branches (section 2.5).
use Rattle.std.specs.Prelude.{◌==◌, not, ℕ, ◌-◌, ◌%◌, Bool, nat_lt, int_lt}
use Rattle.rvv_meaning.specs.Scalar.Arithmetic.{signed}

-- the bytes of an instruction word (section 1.5)
abbrev pub word_size : ℕ
word_size = 4

-- a target must be a multiple of the size of a word (section 2.5)
abbrev pub is_aligned : ℕ → Bool
is_aligned target = target % word_size == 0

-- an address with its lowest bit cleared (section 2.5.1, jalr)
abbrev pub even : ℕ → ℕ
even address = address - address % 2

-- The conditions of branches, under the names of their instructions (section 2.5.2).

-- equal (section 2.5.2)
abbrev pub beq : ℕ → ℕ → Bool
beq a b = a == b

-- not equal (section 2.5.2)
abbrev pub bne : ℕ → ℕ → Bool
bne a b = not (a == b)

-- less, as numbers with a sign (section 2.5.2)
abbrev pub blt : ℕ → ℕ → Bool
blt a b = int_lt (signed a) (signed b)

-- at least, as numbers with a sign (section 2.5.2)
abbrev pub bge : ℕ → ℕ → Bool
bge a b = not (int_lt (signed a) (signed b))

-- less, as numbers without a sign (section 2.5.2)
abbrev pub bltu : ℕ → ℕ → Bool
bltu a b = nat_lt a b

-- at least, as numbers without a sign (section 2.5.2)
abbrev pub bgeu : ℕ → ℕ → Bool
bgeu a b = not (nat_lt a b)
