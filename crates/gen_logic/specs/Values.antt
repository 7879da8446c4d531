-- The values of the kinds that act bit by bit.
use Rattle.std.specs.Prelude.{ℕ, Bool, true, false, cond, not, ◌&&◌, ◌||◌, bit_and, bit_or, bit_xor}
use Rattle.bit_laws.specs.Numbers.{number, bit_of}
use Rattle.gen_logic.specs.declared.kinds.Logic.{Logic}
use Rattle.gen_logic.specs.declared.kinds.Logic.TheVariants.{And, Or, Xor, Nand, Nor, Xnor, Andn, Orn, First, Second, Merge}

-- one bit or the other, and not both
abbrev pub differs : Bool → Bool → Bool
differs true b = not b
differs false b = b

-- not both bits; none of them; both or none; the first and not the second; the first, or not the second
abbrev pub nand : Bool → Bool → Bool
nand x y = not (x && y)

abbrev pub nor : Bool → Bool → Bool
nor x y = not (x || y)

abbrev pub xnor : Bool → Bool → Bool
xnor x y = not (differs x y)

abbrev pub and_not : Bool → Bool → Bool
and_not x y = x && not y

abbrev pub or_not : Bool → Bool → Bool
or_not x y = x || not y

-- the number of w bits that are the truths of the bits of two numbers
abbrev pub bitwise : (Bool → Bool → Bool) → (w a b : ℕ) → ℕ
bitwise truth w a b = number w (λ j. truth (bit_of a j) (bit_of b j))

-- the mask is an operand of the kind
abbrev pub takes_mask : Logic → Bool
takes_mask Merge = true
takes_mask _ = false

-- the bit that a kind makes of the mask bit and the bits x and y of the rows
abbrev pub truth_of : Logic → (m x y : Bool) → Bool
truth_of And m x y = x && y
truth_of Or m x y = x || y
truth_of Xor m x y = differs x y
truth_of Nand m x y = nand x y
truth_of Nor m x y = nor x y
truth_of Xnor m x y = xnor x y
truth_of Andn m x y = and_not x y
truth_of Orn m x y = or_not x y
truth_of First m x y = x
truth_of Second m x y = y
truth_of Merge m x y = cond m y x

-- the number that it makes of the mask bit and the numbers of w bits of the rows
abbrev pub value_of : Logic → (w a b : ℕ) → (m : Bool) → ℕ
value_of And w a b m = bit_and a b
value_of Or w a b m = bit_or a b
value_of Xor w a b m = bit_xor a b
value_of Nand w a b m = bitwise nand w a b
value_of Nor w a b m = bitwise nor w a b
value_of Xnor w a b m = bitwise xnor w a b
value_of Andn w a b m = bitwise and_not w a b
value_of Orn w a b m = bitwise or_not w a b
value_of First w a b m = a
value_of Second w a b m = b
value_of Merge w a b m = cond m b a
