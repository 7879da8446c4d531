-- What an instruction makes of the registers, bit by bit: their elements are numbers, computed from the registers as they
-- were before the instruction.
use Rattle.std.specs.Prelude.{ℕ, Bool, ◌&&◌}
use Rattle.bit_laws.specs.Numbers.{low}
use Rattle.element_ops.specs.Places.{Place, prestart, active, masked_off, tail, place_of, agnostic_value}
use Rattle.element_ops.specs.Elements.{Registers, element_in, with_elements_in}
use Rattle.frame_laws.specs.Shapes.{Shape}

-- the place of an element of the destination
abbrev pub place_in : Shape → (mask : ℕ → Bool) → ℕ → Place
place_in i mask e = place_of i.vstart i.from i.len i.masked mask e

-- what an element becomes, from the value that is computed for it and from what it was
abbrev pub outcome : Shape → (value old : ℕ) → Place → ℕ
outcome i value old prestart = old
outcome i value old active = low i.width value
outcome i value old masked_off = agnostic_value (i.ones && i.vma) i.width old
outcome i value old tail = agnostic_value (i.ones && i.tail) i.width old

-- element e of the destination after the instruction
unfoldable pub element_after : Shape → Registers → ℕ → ℕ
element_after i v e = outcome i (i.result v e (v 0 e)) (element_in i.vlen v i.vd i.width e) (place_in i (v 0) e)

-- the registers once the first g registers of the destination are written
unfoldable pub written : Shape → (g : ℕ) → Registers → Registers
written i g v = with_elements_in i.vlen v i.vd g i.width (element_after i v)

-- the registers after the instruction
abbrev pub after : Shape → Registers → Registers
after i v = written i i.registers v
