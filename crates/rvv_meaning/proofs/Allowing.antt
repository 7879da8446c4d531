-- Every step leaves what the law of agnostic elements allows.
use Rattle.std.proofs.Common.{◌≡◌, ℕ, zero, suc, Bool, true, false, ◌&&◌, ◌||◌, List, Option, Some, None, refl, ◌∙◌, ap}
use Rattle.std.specs.Option.{option_map, option_map_or}
use Rattle.std.specs.Prelude.{[], slice_index, if◌then◌else◌}
use Rattle.element_ops.specs.Places.{is_active}
use Rattle.rv32_decode.specs.declared.instruction.Instr.{Instr}
use Rattle.rvv_decode.specs.declared.instruction.MemoryOp.{MemoryOp}
use Rattle.rvv_decode.specs.declared.instruction.MemoryOp.TheVariants.{LoadUnitStride, LoadWholeRegister, LoadMask, LoadFaultOnlyFirst, LoadIndexedUnordered, LoadStrided, LoadIndexedOrdered, StoreUnitStride, StoreWholeRegister, StoreMask, StoreIndexedUnordered, StoreStrided, StoreIndexedOrdered}
use Rattle.rvv_decode.specs.declared.instruction.VInstr.{VInstr}
use Rattle.rvv_decode.specs.declared.instruction.VOp.{VOp}
use Rattle.rvv_decode.specs.declared.instruction.VOp.TheVariants.{Opi, Opm, Config, Memory as Moves}
use Rattle.vtype_cfg.specs.declared.configuration.Cfg.{Cfg}
use Rattle.vtype_cfg.specs.declared.configuration.Policy.{Policy}
use Rattle.vtype_cfg.specs.declared.configuration.Policy.TheVariants.{Keep}
use Rattle.rvv_meaning.specs.declared.accesses.Access.{Access}
use Rattle.rvv_meaning.specs.declared.accesses.Offset.{Offset}
use Rattle.rvv_meaning.specs.declared.accesses.Offset.TheVariants.{Step, Index}
use Rattle.rvv_meaning.specs.declared.Flow.{Flow}
use Rattle.rvv_meaning.specs.declared.Flow.TheVariants.{Next as GoesOn, Jump, Call as Calls, Trap as Traps}
use Rattle.rvv_meaning.specs.declared.Meaning.TheVariants.{Scalar, Vector}
use Rattle.rvv_meaning.specs.declared.Next.{Next}
use Rattle.rvv_meaning.specs.declared.Next.TheVariants.{Stop, Perform}
use Rattle.rvv_meaning.specs.Elementwise.{Elementwise, cfg_of, is_ones, place, registers_by, element_after, clips_below}
use Rattle.rvv_meaning.specs.LoadsAndStores.{Outcome, outcome_by, outcome, loads, stores, cfg_after, stop, moved, bad, address, field_address, registers_loaded, loaded_by, slot_after, bytes_of, stored_all, pages_stored}
use Rattle.rvv_meaning.specs.VectorAccesses.{is_store, access_of, shape_of, trims_of}
use Rattle.rvv_meaning.specs.Operations.{Operation, operation_for, elements_at, on_elements}
use Rattle.rvv_meaning.specs.Whole.{Left, elements, number, Leaving, whole_for}
use Rattle.rvv_meaning.specs.Vectors.{VectorEffect, left_as, number_effect, scalar_operand, completed, configuration_effect, elements_effect, access_outcome, flow_after, access_effect, left_effect, no_effect, effect_by, vector_effect}
use Rattle.rvv_meaning.specs.States.{Core, next, core_after, carried_out, after_flow, called, executed_vector, vector_effect_at, with_vector_effect, with_effect, effect_at}
use Rattle.rvv_meaning.specs.Allowed.{MayHold, Allowed}

-- the machine where agnostic elements are kept
abbrev kept : Core → Core
kept c = record c { policy = Keep }

-- two outcomes of loads and stores that leave the same, whatever the policies of their configurations are
record Alike (a b : Outcome) : Type 0 where
  vstart : a.cfg.vstart ≡ b.cfg.vstart
  vl : a.cfg.vl ≡ b.cfg.vl
  vectors : a.vectors ≡ b.vectors
  pages : a.pages ≡ b.pages
  fault : a.fault ≡ b.fault

module _ (c : Core) (taken : List ℕ) where
  -- what comes next does not depend on the policy
  next-same : next (kept c) ≡ next c
  unfolding next
  next-same = refl

  -- a scalar instruction leaves the vector registers
  scalar-holds : (flow : Flow) (i : Instr) → (after_flow flow (with_effect (effect_at i c) c) taken).vectors ≡ c.vectors
  unfolding called
  scalar-holds GoesOn i = refl
  scalar-holds (Jump target) i = refl
  scalar-holds Calls i = refl
  scalar-holds (Traps t) i = refl

  scalar-same : (flow : Flow) (i : Instr) → after_flow flow (with_effect (effect_at i c) c) taken ≡ record (after_flow flow (with_effect (effect_at i (kept c)) (kept c)) taken) { vectors = (after_flow flow (with_effect (effect_at i c) c) taken).vectors; policy = c.policy }
  unfolding called
  scalar-same GoesOn i = refl
  scalar-same (Jump target) i = refl
  scalar-same Calls i = refl
  scalar-same (Traps t) i = refl

  -- ---- the effect of a vector instruction does not depend on the policy

  module _ (i : VInstr) (p q : Policy) where
    clips-same : (e : Elementwise) (n : ℕ) → clips_below (cfg_of c.csrs p) e c.vectors n ≡ clips_below (cfg_of c.csrs q) e c.vectors n
    unfolding clips_below
    clips-same e zero = refl
    clips-same e (suc n) = ap (λ (b : Bool). b || (is_active (place (cfg_of c.csrs p) e c.vectors n) && e.clipped c.vectors n)) (clips-same e n)

    vectors-same : (e : Elementwise) → registers_by (cfg_of c.csrs p) e c.vectors ≡ registers_by (cfg_of c.csrs q) e c.vectors
    unfolding registers_by element_after
    vectors-same e = refl

    left-same : (l : Left) → left_effect i c.pc c.regs c.csrs c.mem c.vectors p l ≡ left_effect i c.pc c.regs c.csrs c.mem c.vectors q l
    unfolding elements_effect number_effect
    left-same (elements e) = λ z. record {
      flow = GoesOn;
      regs = c.regs;
      csrs = completed i c.pc c.regs c.csrs c.mem c.vectors p (clips-same e e.len z);
      mem = c.mem;
      vectors = vectors-same e z;
    }
    left-same (number n) = refl

    operation-same : (o : Operation) → on_elements i (cfg_of c.csrs p) (scalar_operand i c.regs) o ≡ on_elements i (cfg_of c.csrs q) (scalar_operand i c.regs) o
    unfolding elements_at
    operation-same o = refl

    same-for : (o : Option Operation) (w : Option Leaving)
        → option_map_or (left_effect i c.pc c.regs c.csrs c.mem c.vectors p) (left_as o w i (cfg_of c.csrs p) (scalar_operand i c.regs) c.vectors) (no_effect i c.pc c.regs c.csrs c.mem c.vectors p)
        ≡ option_map_or (left_effect i c.pc c.regs c.csrs c.mem c.vectors q) (left_as o w i (cfg_of c.csrs q) (scalar_operand i c.regs) c.vectors) (no_effect i c.pc c.regs c.csrs c.mem c.vectors q)
    same-for None None = refl
    same-for None (Some leaving) = left-same (leaving i (record (cfg_of c.csrs p) { policy = Keep }) (scalar_operand i c.regs) c.vectors)
    same-for (Some o) w =
        left-same (elements (on_elements i (cfg_of c.csrs p) (scalar_operand i c.regs) o))
        ∙ ap (λ (e : Elementwise). left_effect i c.pc c.regs c.csrs c.mem c.vectors q (elements e)) (operation-same o)

    -- the configurations that the two policies give
    abbrev first : Cfg
    first = cfg_of c.csrs p

    abbrev second : Cfg
    second = cfg_of c.csrs q

    access-alike : (op : MemoryOp) (stride : ℕ) → access_of op i first stride ≡ access_of op i second stride
    unfolding access_of shape_of trims_of
    access-alike LoadUnitStride stride = refl
    access-alike LoadWholeRegister stride = refl
    access-alike LoadMask stride = refl
    access-alike LoadFaultOnlyFirst stride = refl
    access-alike LoadIndexedUnordered stride = refl
    access-alike LoadStrided stride = refl
    access-alike LoadIndexedOrdered stride = refl
    access-alike StoreUnitStride stride = refl
    access-alike StoreWholeRegister stride = refl
    access-alike StoreMask stride = refl
    access-alike StoreIndexedUnordered stride = refl
    access-alike StoreStrided stride = refl
    access-alike StoreIndexedOrdered stride = refl

    stores-alike : (t : Access) (o : Offset) (base : ℕ) → Alike (stores first (record t { offset = o }) base c.vectors c.mem.pages) (stores second (record t { offset = o }) base c.vectors c.mem.pages)
    unfolding stores cfg_after stop moved bad address bytes_of stored_all pages_stored
    stores-alike t (Step n) base = record { vstart = refl; vl = refl; vectors = refl; pages = refl; fault = refl }
    stores-alike t (Index r w) base = record { vstart = refl; vl = refl; vectors = refl; pages = refl; fault = refl }

    loads-alike : (t : Access) (o : Offset) (base : ℕ) → Alike (loads first (record t { offset = o }) base c.vectors c.mem.pages) (loads second (record t { offset = o }) base c.vectors c.mem.pages)
    unfolding loads cfg_after stop moved bad address field_address registers_loaded loaded_by slot_after
    loads-alike t (Step n) base = record { vstart = refl; vl = refl; vectors = refl; pages = refl; fault = refl }
    loads-alike t (Index r w) base = record { vstart = refl; vl = refl; vectors = refl; pages = refl; fault = refl }

    alike-at : (t : Access) (base : ℕ) (b : Bool) → Alike (if b then stores first t base c.vectors c.mem.pages else loads first t base c.vectors c.mem.pages) (if b then stores second t base c.vectors c.mem.pages else loads second t base c.vectors c.mem.pages)
    alike-at t base true = stores-alike t t.offset base
    alike-at t base false = loads-alike t t.offset base

    alike-by : (base stride : ℕ) (op : VOp) → Alike (outcome_by op i first base stride c.vectors c.mem.pages) (outcome_by op i second base stride c.vectors c.mem.pages)
    alike-by base stride (Config op) = record { vstart = refl; vl = refl; vectors = refl; pages = refl; fault = refl }
    alike-by base stride (Opi op) = record { vstart = refl; vl = refl; vectors = refl; pages = refl; fault = refl }
    alike-by base stride (Opm op) = record { vstart = refl; vl = refl; vectors = refl; pages = refl; fault = refl }
    alike-by base stride (Moves op) = rw (access-alike op stride) (alike-at (access_of op i second stride) base (is_store op))

    alike : Alike (access_outcome i c.pc c.regs c.csrs c.mem c.vectors p) (access_outcome i c.pc c.regs c.csrs c.mem c.vectors q)
    unfolding outcome
    alike = alike-by (slice_index c.regs i.vs1) (slice_index c.regs i.vs2) i.op

    access-same : (op : MemoryOp) → access_effect i c.pc c.regs c.csrs c.mem c.vectors p op ≡ access_effect i c.pc c.regs c.csrs c.mem c.vectors q op
    unfolding access_effect
    access-same op = λ z. record {
      flow = flow_after i c.pc c.regs c.csrs c.mem c.vectors p op (alike.fault z);
      regs = c.regs;
      csrs = record c.csrs { vstart = alike.vstart z; vl = alike.vl z };
      mem = record c.mem { pages = alike.pages z };
      vectors = alike.vectors z;
    }

    same-by : (op : VOp) → effect_by i c.pc c.regs c.csrs c.mem c.vectors p op ≡ effect_by i c.pc c.regs c.csrs c.mem c.vectors q op
    unfolding configuration_effect
    same-by (Config op) = refl
    same-by (Opi op) = same-for (operation_for (Opi op)) (whole_for (Opi op))
    same-by (Opm op) = same-for (operation_for (Opm op)) (whole_for (Opm op))
    same-by (Moves op) = access-same op

    effect-same : vector_effect i c.pc c.regs c.csrs c.mem c.vectors p ≡ vector_effect i c.pc c.regs c.csrs c.mem c.vectors q
    unfolding vector_effect
    effect-same = same-by i.op

  -- ---- what a vector instruction leaves

  -- the machine with an effect
  abbrev left_by : VectorEffect → Core → Core
  left_by e core = after_flow e.flow (with_vector_effect e core) []

  vectors-left : (flow : Flow) (e : VectorEffect) → (after_flow flow (with_vector_effect e c) []).vectors ≡ e.vectors (λ element. is_ones c.policy)
  unfolding called
  vectors-left GoesOn e = refl
  vectors-left (Jump target) e = refl
  vectors-left Calls e = refl
  vectors-left (Traps t) e = refl

  kept-left : (flow : Flow) (e : VectorEffect) → after_flow flow (with_vector_effect e c) [] ≡ record (after_flow flow (with_vector_effect e (kept c)) []) { vectors = (after_flow flow (with_vector_effect e c) []).vectors; policy = c.policy }
  unfolding called
  kept-left GoesOn e = refl
  kept-left (Jump target) e = refl
  kept-left Calls e = refl
  kept-left (Traps t) e = refl

  vector : (i : VInstr) → MayHold (Perform (Vector i)) c (executed_vector i c).vectors
      × (executed_vector i c ≡ record (executed_vector i (kept c)) { vectors = (executed_vector i c).vectors; policy = c.policy })
  vector i =
      let e = vector_effect_at i c in (
        ((λ element. is_ones c.policy), vectors-left e.flow e),
        kept-left e.flow e ∙ ap (λ (x : VectorEffect). record (left_by x (kept c)) { vectors = (executed_vector i c).vectors; policy = c.policy }) (effect-same i c.policy Keep),
      )

  carried : (n : Next) → MayHold n c (carried_out n c taken).vectors × (carried_out n c taken ≡ record (carried_out n (kept c) taken) { vectors = (carried_out n c taken).vectors; policy = c.policy })
  carried (Stop mode) = (refl, refl)
  carried (Perform (Scalar i)) = (scalar-holds (effect_at i c).flow i, scalar-same (effect_at i c).flow i)
  carried (Perform (Vector i)) = vector i

  pub step-allowed : Allowed c taken (core_after c taken)
  unfolding core_after
  step-allowed = rw next-same (carried (next c))
