-- The registers x0 to x31, as a list of 32 numbers below 2^32.
use Rattle.std.specs.Prelude.{◌==◌, ℕ, List, slice_set, if◌then◌else◌}

-- the registers after a write; one of x0 is dropped (section 2.1)
abbrev pub written : List ℕ → ℕ → ℕ → List ℕ
written regs r value = if r == 0 then regs else slice_set regs r value
