-- What a vector instruction leaves: one effect for all, configurations, loads and stores among them.
use Rattle.std.specs.Prelude.{◌==◌, not, ◌||◌, ℕ, Bool, true, false, List, Option, None, Some, is_some, slice_index, if◌then◌else◌}
use Rattle.std.specs.Option.{option_map, option_map_or}
use Rattle.guest_mem.specs.Pages.{Memory}
use Rattle.rvv_decode.specs.declared.instruction.ConfigOp.{ConfigOp}
use Rattle.rvv_decode.specs.declared.instruction.ConfigOp.TheVariants.{Vsetvli, Vsetivli, Vsetvl}
use Rattle.rvv_decode.specs.declared.instruction.Form.{Form}
use Rattle.rvv_decode.specs.declared.instruction.Form.TheVariants.{V, X, I}
use Rattle.rvv_decode.specs.declared.instruction.MemoryOp.{MemoryOp}
use Rattle.rvv_decode.specs.declared.instruction.VInstr.{VInstr}
use Rattle.rvv_decode.specs.declared.instruction.VOp.{VOp}
use Rattle.rvv_decode.specs.declared.instruction.VOp.TheVariants.{Config, Memory as Moves}
use Rattle.vtype_cfg.specs.declared.configuration.Avl.{Avl}
use Rattle.vtype_cfg.specs.declared.configuration.Avl.TheVariants.{Given, Max, Keep}
use Rattle.vtype_cfg.specs.declared.configuration.Cfg.{Cfg}
use Rattle.vtype_cfg.specs.declared.configuration.Policy.{Policy}
use Rattle.vtype_cfg.specs.declared.configuration.Policy.TheVariants.{Keep as Kept}
use Rattle.vtype_cfg.specs.declared.vtype.Vtype.{Vtype}
use Rattle.vtype_cfg.specs.Settings.{vtype_of, bits_of, configured}
use Rattle.rvv_meaning.specs.declared.Csrs.{Csrs}
use Rattle.rvv_meaning.specs.declared.Flow.{Flow}
use Rattle.rvv_meaning.specs.declared.Flow.TheVariants.{Next, Trap as Traps}
use Rattle.rvv_meaning.specs.Elementwise.{Elementwise, cfg_of, registers_by, clips}
use Rattle.rvv_meaning.specs.LoadsAndStores.{Outcome, outcome}
use Rattle.rvv_meaning.specs.Operations.{Operation, operation_for, on_elements}
use Rattle.rvv_meaning.specs.Scalar.{load_fault, store_fault}
use Rattle.rvv_meaning.specs.Scalar.Registers.{written}
use Rattle.rvv_meaning.specs.VectorAccesses.{is_store}
use Rattle.rvv_meaning.specs.Whole.{Left, elements, number, Leaving, whole_for}

-- What a vector instruction leaves: where the program goes on, the scalar registers, the control registers, the memory, and
-- the vector registers, where `ones` says which of the agnostic elements become all ones, element by element.
pub record VectorEffect : Type 0 where
  pub flow : Flow
  pub regs : List ℕ
  pub csrs : Csrs
  pub mem : Memory
  pub vectors : (ones : ℕ → Bool) → List (List ℕ)

-- how many elements a configuration asks for (vector extension 1.0, section 6.2): an immediate; or what x[rs1] holds where
-- rs1 is not x0; or all that a group has where rd is not x0; or as many as before
abbrev pub length_of_register : VInstr → List ℕ → Avl
length_of_register i regs = if not (i.vs1 == 0) then Given (slice_index regs i.vs1) else if not (i.vd == 0) then Max else Keep

abbrev pub length_asked : ConfigOp → VInstr → List ℕ → Avl
length_asked Vsetivli i regs = Given i.vs1
length_asked Vsetvli i regs = length_of_register i regs
length_asked Vsetvl i regs = length_of_register i regs

-- the bits of the vector type that it asks for: an immediate, or what x[rs2] holds (section 6.1)
abbrev pub setting_asked : ConfigOp → VInstr → List ℕ → ℕ
setting_asked Vsetivli i regs = i.zimm
setting_asked Vsetvli i regs = i.zimm
setting_asked Vsetvl i regs = slice_index regs i.vs2

-- the scalar that an instruction takes: what x[rs1] holds in a form with a scalar
abbrev pub scalar_in_form : Form → VInstr → List ℕ → ℕ
scalar_in_form V i regs = 0
scalar_in_form X i regs = slice_index regs i.vs1
scalar_in_form I i regs = 0

abbrev pub scalar_operand : VInstr → List ℕ → ℕ
scalar_operand i regs = scalar_in_form i.form i regs

-- What an instruction leaves of these registers: by its operation on elements at the same place, or as a whole, for which it
-- plays no part what becomes of agnostic elements. None is left of a configuration, a load or a store.
abbrev pub left_as : Option Operation → Option Leaving → VInstr → Cfg → (scalar : ℕ) → (vectors : List (List ℕ)) → Option Left
left_as (Some o) whole i c scalar vectors = Some (elements (on_elements i c scalar o))
left_as None whole i c scalar vectors = option_map (λ leaving. leaving i (record c { policy = Kept }) scalar vectors) whole

abbrev pub left_by : VOp → VInstr → Cfg → (scalar : ℕ) → (vectors : List (List ℕ)) → Option Left
left_by op i c scalar vectors = left_as (operation_for op) (whole_for op) i c scalar vectors

abbrev pub left_of : VInstr → Cfg → (scalar : ℕ) → (vectors : List (List ℕ)) → Option Left
left_of i c scalar vectors = left_by i.op i c scalar vectors

-- whether an instruction computes from the vector registers: all but configurations, loads and stores
abbrev pub is_computed : VOp → Bool
is_computed (Config op) = false
is_computed (Moves op) = false
is_computed op = true

-- What an instruction finds: its place, the scalar registers, the control registers, the memory, the vector registers, and
-- what becomes of agnostic elements.
module _ (i : VInstr) (pc : ℕ) (regs : List ℕ) (csrs : Csrs) (mem : Memory) (vectors : List (List ℕ)) (policy : Policy) where
  -- the control registers after an instruction that completes: vstart is 0, and vxsat is set where an element was clipped
  abbrev pub completed : (clipped : Bool) → Csrs
  completed clipped = record csrs { vstart = 0; vxsat = csrs.vxsat || clipped }

  -- a configuration: the new vector type and length, and the length in rd (section 6)
  abbrev pub setting_effect : Vtype × ℕ → VectorEffect
  setting_effect new = record {
    flow = Next;
    regs = written regs i.vd new.1;
    csrs = record csrs { vstart = 0; vl = new.1; vtype = bits_of new.0 };
    mem = mem;
    vectors = λ ones. vectors;
  }

  unfoldable pub configuration_effect : ConfigOp → VectorEffect
  configuration_effect op = setting_effect (configured (vtype_of csrs.vtype) csrs.vl (length_asked op i regs) (setting_asked op i regs) csrs.vlen)

  -- an instruction that writes elements of registers
  unfoldable pub elements_effect : Elementwise → VectorEffect
  elements_effect e = record {
    flow = Next;
    regs = regs;
    csrs = completed (clips (cfg_of csrs policy) e vectors);
    mem = mem;
    vectors = λ ones. registers_by (cfg_of csrs policy) e vectors ones;
  }

  -- an instruction that writes a number into a scalar register
  unfoldable pub number_effect : ℕ → VectorEffect
  number_effect n = record { flow = Next; regs = written regs i.vd n; csrs = completed false; mem = mem; vectors = λ ones. vectors }

  abbrev pub left_effect : Left → VectorEffect
  left_effect (elements e) = elements_effect e
  left_effect (number n) = number_effect n

  -- what a load or a store leaves that finds a base in x[rs1] and a stride in x[rs2]
  abbrev pub access_outcome : Outcome
  access_outcome = outcome i (cfg_of csrs policy) (slice_index regs i.vs1) (slice_index regs i.vs2) vectors mem.pages

  -- where the program goes on after it: where it stopped at an element it traps, and the value is the first bad address
  abbrev pub flow_after : MemoryOp → Option (ℕ × ℕ) → Flow
  flow_after op None = Next
  flow_after op (Some stop) = Traps record { cause = if is_store op then store_fault else load_fault; pc = pc; value = stop.1 }

  -- a load or a store; at a trap the elements that were moved stay so, and vstart is the element that it stopped at
  unfoldable pub access_effect : MemoryOp → VectorEffect
  access_effect op = record {
    flow = flow_after op access_outcome.fault;
    regs = regs;
    csrs = record csrs { vstart = access_outcome.cfg.vstart; vl = access_outcome.cfg.vl };
    mem = record mem { pages = access_outcome.pages };
    vectors = access_outcome.vectors;
  }

  -- what an instruction leaves that leaves nothing: there is none
  abbrev pub no_effect : VectorEffect
  no_effect = record { flow = Next; regs = regs; csrs = csrs; mem = mem; vectors = λ ones. vectors }

  -- what the instruction leaves
  abbrev pub effect_by : VOp → VectorEffect
  effect_by (Config op) = configuration_effect op
  effect_by (Moves op) = access_effect op
  effect_by op = option_map_or left_effect (left_by op i (cfg_of csrs policy) (scalar_operand i regs) vectors) no_effect

  unfoldable pub vector_effect : VectorEffect
  vector_effect = effect_by i.op
