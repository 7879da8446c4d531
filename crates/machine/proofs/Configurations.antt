-- The configuration that a machine holds is valid, and what a vector instruction leaves of the counts.
use Rattle.std.proofs.Common.{◌≡◌, ℕ, ◌+◌, ◌<◌, ◌≤◌, true, ◌⊎◌, inl, inr, [], Option, None, Some, refl, ap, arith}
use Rattle.std.specs.Option.{option_map, option_map_or}
use Rattle.std.specs.Prelude.{IsTrue, is_some, nat_le, nat_lt}
use Rattle.std.proofs.lemmas.Bool.Decides.{nat_tests}
use Rattle.rvv_decode.specs.declared.instruction.ConfigOp.{ConfigOp}
use Rattle.rvv_decode.specs.declared.instruction.OpiOp.{OpiOp}
use Rattle.rvv_decode.specs.declared.instruction.OpmOp.{OpmOp}
use Rattle.rvv_decode.specs.declared.instruction.MemoryOp.{MemoryOp}
use Rattle.rvv_decode.specs.declared.instruction.VInstr.{VInstr}
use Rattle.rvv_decode.specs.declared.instruction.VOp.{VOp}
use Rattle.rvv_decode.specs.declared.instruction.VOp.TheVariants.{Opi, Opm, Config, Memory as Moves}
use Rattle.vtype_cfg.specs.declared.configuration.Cfg.{Cfg}
use Rattle.vtype_cfg.specs.Settings.{is_legal_vlen, is_vill_or_supported, is_valid, vlmax}
use Rattle.rvv_meaning.specs.Operations.{operation_for}
use Rattle.rvv_meaning.specs.States.{Core, cfg_at, after_flow, with_vector_effect, executed_vector, vector_effect_at}
use Rattle.rvv_meaning.specs.Whole.{Left, elements, number, whole_for}
use Rattle.rvv_meaning.specs.Vectors.{VectorEffect, left_by, left_of, scalar_operand, is_computed, configuration_effect, elements_effect, number_effect, access_outcome, flow_after, access_effect, left_effect, no_effect, effect_by, vector_effect}

pub valid-cfg : (c : Cfg) → IsTrue (is_legal_vlen c.vlen) → IsTrue (is_vill_or_supported c.vtype) → c.vl ≤ vlmax c.vtype c.vlen → c.vstart < c.vlen → c.vxrm ≤ 3 → IsTrue (is_valid c)
unfolding is_valid
valid-cfg c legal setting most starts rounding =
    let few : nat_le c.vl (vlmax c.vtype c.vlen) ≡ true = grind (arith, nat_tests) in
    let inside : nat_lt c.vstart c.vlen ≡ true = grind (arith, nat_tests) in
    let mode : nat_le c.vxrm 3 ≡ true = grind (arith, nat_tests) in
    rw (legal, setting, few, inside, mode) refl

-- all but configurations, loads and stores computes from the registers
pub computes : (op : VOp) → ((o : OpiOp) × (op ≡ Opi o)) ⊎ ((o : OpmOp) × (op ≡ Opm o)) → is_computed op ≡ true
computes op (inl (o, is)) = rw is refl
computes op (inr (o, is)) = rw is refl

-- ---- what a vector instruction leaves

module _ (i : VInstr) (c : Core) where
  -- the machine with an effect
  abbrev left_with : VectorEffect → Core
  left_with e = after_flow e.flow (with_vector_effect e c) []

  -- it retires or stops, and a vector register is as long as before
  abbrev Retires : VectorEffect → Type 0
  Retires e = ((left_with e).csrs.retired ≤ c.csrs.retired + 1) × ((left_with e).csrs.vlen ≡ c.csrs.vlen)

  once : c.csrs.retired + 1 ≤ c.csrs.retired + 1
  once = omega arith

  retires-for : (l : Option Left) → Retires (option_map_or (left_effect i c.pc c.regs c.csrs c.mem c.vectors c.policy) l (no_effect i c.pc c.regs c.csrs c.mem c.vectors c.policy))
  unfolding elements_effect number_effect
  retires-for None = (once, refl)
  retires-for (Some (elements e)) = (once, refl)
  retires-for (Some (number n)) = (once, refl)

  retires-access : (op : MemoryOp) (o : Option (ℕ × ℕ))
      → ((after_flow (flow_after i c.pc c.regs c.csrs c.mem c.vectors c.policy op o) (with_vector_effect (access_effect i c.pc c.regs c.csrs c.mem c.vectors c.policy op) c) []).csrs.retired ≤ c.csrs.retired + 1)
      × ((after_flow (flow_after i c.pc c.regs c.csrs c.mem c.vectors c.policy op o) (with_vector_effect (access_effect i c.pc c.regs c.csrs c.mem c.vectors c.policy op) c) []).csrs.vlen ≡ c.csrs.vlen)
  unfolding access_effect
  retires-access op None = (once, refl)
  retires-access op (Some stop) = (omega arith, refl)

  retires-by : (op : VOp) → Retires (effect_by i c.pc c.regs c.csrs c.mem c.vectors c.policy op)
  unfolding configuration_effect access_effect
  retires-by (Config op) = (once, refl)
  retires-by (Opi op) = retires-for (left_by (Opi op) i (cfg_at c) (scalar_operand i c.regs) c.vectors)
  retires-by (Opm op) = retires-for (left_by (Opm op) i (cfg_at c) (scalar_operand i c.regs) c.vectors)
  retires-by (Moves op) = retires-access op (access_outcome i c.pc c.regs c.csrs c.mem c.vectors c.policy).fault

  pub vector-retires : (executed_vector i c).csrs.retired ≤ c.csrs.retired + 1
  unfolding vector_effect
  vector-retires = (retires-by i.op).0

  pub vector-length : (executed_vector i c).csrs.vlen ≡ c.csrs.vlen
  unfolding vector_effect
  vector-length = (retires-by i.op).1

  -- a configuration
  pub configured-is : (op : ConfigOp) → i.op ≡ Config op → executed_vector i c ≡ left_with (configuration_effect i c.pc c.regs c.csrs c.mem c.vectors c.policy op)
  unfolding vector_effect
  configured-is op named = rw named refl

  -- an instruction that leaves this of the registers
  left-by : (l : Left) (op : VOp) → left_by op i (cfg_at c) (scalar_operand i c.regs) c.vectors ≡ Some l
      → effect_by i c.pc c.regs c.csrs c.mem c.vectors c.policy op ≡ left_effect i c.pc c.regs c.csrs c.mem c.vectors c.policy l
  unfolding operation_for whole_for
  left-by l (Config op) is = cc
  left-by l (Opi op) is = rw is refl
  left-by l (Opm op) is = rw is refl
  left-by l (Moves op) is = cc

  pub left-is : (l : Left) → left_of i (cfg_at c) (scalar_operand i c.regs) c.vectors ≡ Some l
      → executed_vector i c ≡ left_with (left_effect i c.pc c.regs c.csrs c.mem c.vectors c.policy l)
  unfolding vector_effect
  left-is l is = ap left_with (left-by l i.op is)

  pub effect-is : (l : Left) → left_of i (cfg_at c) (scalar_operand i c.regs) c.vectors ≡ Some l
      → vector_effect_at i c ≡ left_effect i c.pc c.regs c.csrs c.mem c.vectors c.policy l
  unfolding vector_effect
  effect-is l is = left-by l i.op is
