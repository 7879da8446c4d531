-- The ways to change a control register.
use Rattle.std.specs.Prelude.{ℕ}
use Rattle.rvv_meaning.specs.Scalar.ControlRegisters as control
use Rattle.rv32_core.specs.declared.control_registers.Update.{Update}
use Rattle.rv32_core.specs.declared.control_registers.Update.TheVariants.{Replace, Set, Clear}

-- what is written, from what the register held and the operand
abbrev pub value_of : Update → ℕ → ℕ → ℕ
value_of Replace = control.csrrw
value_of Set = control.csrrs
value_of Clear = control.csrrc
