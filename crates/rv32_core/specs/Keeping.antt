-- What every instruction keeps of the control registers.
use Rattle.std.specs.Prelude.{◌≡◌, ◌≤◌, ◌<◌}
use Rattle.rvv_meaning.specs.declared.Csrs.{Csrs}

-- The length of a vector register, the vector length, the vector type and the retired count stay; vxrm is a rounding mode,
-- and vstart the number of an element of a register of bits where it was one.
pub record Keeps (old now : Csrs) : Type 0 where
  pub vlen : now.vlen ≡ old.vlen
  pub vl : now.vl ≡ old.vl
  pub vtype : now.vtype ≡ old.vtype
  pub retired : now.retired ≡ old.retired
  pub vxrm : now.vxrm ≤ 3
  pub vstart : old.vstart < old.vlen → now.vstart < now.vlen
