-- What a load or a store leaves in the machine, as its call tells it.
use Rattle.std.proofs.Common.{◌≡◌, ℕ, ◌<◌, ◌≤◌, Bool, true, false, not, List, [], Option, Some, None, Result, Ok, Err, refl, sym, ◌∙◌, ap}
use Rattle.std.specs.Prelude.{OnOk, IfErr, IsTrue, slice_index, if◌then◌else◌}
use Rattle.std.proofs.lemmas.Bool.{and_parts, leb-true, ltb-true, not-true, false≢true}
use Rattle.guest_mem.specs.Pages.{Pages, Memory as GuestMemory}
use Rattle.rvv_decode.specs.declared.instruction.MemoryOp.{MemoryOp}
use Rattle.rvv_decode.specs.declared.instruction.VInstr.{VInstr}
use Rattle.rvv_decode.specs.declared.instruction.VOp.{VOp}
use Rattle.rvv_decode.specs.declared.instruction.VOp.TheVariants.{Opi, Opm, Config, Memory}
use Rattle.vtype_cfg.specs.declared.configuration.Cfg.{Cfg}
use Rattle.vtype_cfg.specs.Settings.{is_valid, vlmax}
use Rattle.rvv_meaning.specs.Elementwise.{is_ones}
use Rattle.rvv_meaning.specs.LoadsAndStores.{Outcome, cfg_after, loads, stores, outcome_by, outcome}
use Rattle.rvv_meaning.specs.Scalar.{load_fault, store_fault}
use Rattle.rvv_meaning.specs.States.{Core, cfg_at, vtype_at, after_flow, with_vector_effect, executed_vector, vector_effect_at}
use Rattle.rvv_meaning.specs.VectorAccesses.{access_of, is_store, reads_memory, writes_memory}
use Rattle.rvv_meaning.specs.Vectors.{VectorEffect, flow_after, access_effect, effect_by, vector_effect}
use Rattle.vec_mem.specs.declared.loads.VecFault.{VecFault}
use Rattle.cam_chain.specs.ChainValue.{ChainValue}
use Rattle.micro_ir.specs.declared.op.MicroOp.{MicroOp}
use Rattle.machine.specs.Accessing.{core_ended}
use Rattle.machine.specs.Moments.{Held}

-- ---- the outcome

-- the vector type and the length of a register stay, a load leaves the pages, and a store the registers
pub record Keeps (reads writes : Bool) (c : Cfg) (v : List (List ℕ)) (p : Pages) (o : Outcome) : Type 0 where
  pub vtype : o.cfg.vtype ≡ c.vtype
  pub vlen : o.cfg.vlen ≡ c.vlen
  pub cfg : o.cfg ≡ record c { vstart = o.cfg.vstart; vl = o.cfg.vl }
  pub pages : reads ≡ true → o.pages ≡ p
  pub vectors : writes ≡ true → (ones : ℕ → Bool) → o.vectors ones ≡ v

module _ (i : VInstr) (c : Cfg) (base stride : ℕ) (v : List (List ℕ)) (p : Pages) where
  keeps-by : (op : VOp) → Keeps (reads_memory op) (writes_memory op) c v p (outcome_by op i c base stride v p)
  unfolding loads stores cfg_after
  keeps-by (Opi op) = record { vtype = refl; vlen = refl; cfg = refl; pages = λ never. refl; vectors = λ never ones. refl }
  keeps-by (Opm op) = record { vtype = refl; vlen = refl; cfg = refl; pages = λ never. refl; vectors = λ never ones. refl }
  keeps-by (Config op) = record { vtype = refl; vlen = refl; cfg = refl; pages = λ never. refl; vectors = λ never ones. refl }
  keeps-by (Memory op) = elim (is_store op) as (λ b. Keeps (not b) b c v p (if b then stores c (access_of op i c stride) base v p else loads c (access_of op i c stride) base v p)) [
    | true ↦ record { vtype = refl; vlen = refl; cfg = refl; pages = λ never. absurd (false≢true never); vectors = λ is ones. refl }
    | false ↦ record { vtype = refl; vlen = refl; cfg = refl; pages = λ is. refl; vectors = λ never. absurd (false≢true never) }
  ]

  pub outcome-keeps : Keeps (reads_memory i.op) (writes_memory i.op) c v p (outcome i c base stride v p)
  unfolding outcome
  outcome-keeps = keeps-by i.op

-- ---- the machine

-- the name of an instruction that reads or writes memory
pub record NameOf (op : VOp) (stores_too : Bool) : Type 0 where
  pub name : MemoryOp
  pub is : op ≡ Memory name
  pub stores : is_store name ≡ stores_too

pub name-of-load : (op : VOp) → reads_memory op ≡ true → NameOf op false
name-of-load (Memory op) reads = record { name = op; is = refl; stores = not-true (is_store op) reads }
name-of-load (Opi op) reads = absurd (false≢true reads)
name-of-load (Opm op) reads = absurd (false≢true reads)
name-of-load (Config op) reads = absurd (false≢true reads)

pub name-of-store : (op : VOp) → writes_memory op ≡ true → NameOf op true
name-of-store (Memory op) writes = record { name = op; is = refl; stores = writes }
name-of-store (Opi op) writes = absurd (false≢true writes)
name-of-store (Opm op) writes = absurd (false≢true writes)
name-of-store (Config op) writes = absurd (false≢true writes)

module _ (i : VInstr) (c : Core) (stores_too : Bool) (named : NameOf i.op stores_too) where
  abbrev pub left : Outcome
  left = outcome i (cfg_at c) (slice_index c.regs i.vs1) (slice_index c.regs i.vs2) c.vectors c.mem.pages

  abbrev pub op : MemoryOp
  op = named.name

  -- the machine with what was moved
  abbrev pub moved_core : Core
  moved_core = record c { mem = record c.mem { pages = left.pages }; vectors = left.vectors (λ element. is_ones c.policy) }

  abbrev pub left_with : VectorEffect → Core
  left_with e = after_flow e.flow (with_vector_effect e c) []

  effect-is : (o : VOp) → o ≡ Memory op → effect_by i c.pc c.regs c.csrs c.mem c.vectors c.policy o ≡ access_effect i c.pc c.regs c.csrs c.mem c.vectors c.policy op
  effect-is o is = rw is refl

  pub executed-is : executed_vector i c ≡ left_with (access_effect i c.pc c.regs c.csrs c.mem c.vectors c.policy op)
  unfolding vector_effect
  executed-is = ap left_with (effect-is i.op named.is)

  -- an answer that tells the fault
  ended-by : {T : Type 0} (o : Option (ℕ × ℕ)) (r : Result T VecFault) → OnOk r (o ≡ None) → IfErr r (λ f. o ≡ Some (f.element, f.address)) → IfErr r (λ f. f.cause ≡ (if stores_too then store_fault else load_fault))
      → core_ended r left.cfg moved_core ≡ after_flow (flow_after i c.pc c.regs c.csrs c.mem c.vectors c.policy op o) (with_vector_effect (access_effect i c.pc c.regs c.csrs c.mem c.vectors c.policy op) c) []
  unfolding access_effect
  ended-by o (Ok done) none is cause = rw none refl
  ended-by o (Err f) none is cause = rw (is, cause, named.stores) refl

  pub ended-is : {T : Type 0} (r : Result T VecFault) → OnOk r (left.fault ≡ None) → IfErr r (λ f. left.fault ≡ Some (f.element, f.address)) → IfErr r (λ f. f.cause ≡ (if stores_too then store_fault else load_fault))
      → core_ended r left.cfg moved_core ≡ executed_vector i c
  unfolding access_effect
  ended-is r none is cause = ended-by left.fault r none is cause ∙ sym executed-is

  -- what it leaves in the registers
  pub effect-vectors : (vector_effect_at i c).vectors ≡ left.vectors
  unfolding vector_effect access_effect
  effect-vectors = ap (λ (e : VectorEffect). e.vectors) (effect-is i.op named.is)

-- ---- as the calls tell it

-- the vector length and the first element after it
pub cfg-left : (i : VInstr) (c : Core) (cfg new : Cfg) (base stride : ℕ) (v : List (List ℕ)) (p : Pages) → cfg ≡ cfg_at c → new ≡ (outcome i cfg base stride v p).cfg → IsTrue (is_valid new)
    → (new.vl ≤ vlmax (vtype_at c) c.csrs.vlen) × (new.vstart < c.csrs.vlen)
unfolding is_valid
cfg-left i c cfg new base stride v p is left valid =
    let keeps = outcome-keeps i cfg base stride v p in
    let vtype : new.vtype ≡ vtype_at c = ap (λ (x : Cfg). x.vtype) left ∙ keeps.vtype ∙ ap (λ (x : Cfg). x.vtype) is in
    let vlen : new.vlen ≡ c.csrs.vlen = ap (λ (x : Cfg). x.vlen) left ∙ keeps.vlen ∙ ap (λ (x : Cfg). x.vlen) is in
    let a = and_parts _ _ valid in
    let b = and_parts _ _ a.0 in
    let d = and_parts _ _ b.0 in
    let most : new.vl ≤ vlmax new.vtype new.vlen = leb-true _ _ d.1 in
    let starts : new.vstart < new.vlen = ltb-true _ _ b.1 in
    (rw (vtype, vlen) at most, rw vlen at starts)

-- a load
module _ {T : Type 0} (i : VInstr) (c : Core) (cfg new : Cfg) (base stride : ℕ) (r : Result T VecFault) (is : cfg ≡ cfg_at c) (first : base ≡ slice_index c.regs i.vs1) (second : stride ≡ slice_index c.regs i.vs2) where
  module _ (loads : reads_memory i.op ≡ true) (registers : List (List ℕ))
      (cfg_is : new ≡ (outcome i cfg base stride c.vectors c.mem.pages).cfg) (registers_are : registers ≡ (outcome i cfg base stride c.vectors c.mem.pages).vectors (λ element. is_ones cfg.policy)) where
    pub load-ended : OnOk r ((outcome i cfg base stride c.vectors c.mem.pages).fault ≡ None) → IfErr r (λ f. (outcome i cfg base stride c.vectors c.mem.pages).fault ≡ Some (f.element, f.address)) → IfErr r (λ f. f.cause ≡ load_fault)
        → core_ended r new (record c { vectors = registers }) ≡ executed_vector i c
    load-ended ok fault cause =
        let named = name-of-load i.op loads in
        let keeps = outcome-keeps i (cfg_at c) (slice_index c.regs i.vs1) (slice_index c.regs i.vs2) c.vectors c.mem.pages in
        let left_is = rw (is, first, second) at cfg_is in
        let left_are = rw (is, first, second) at registers_are in
        let goes = rw (is, first, second) at ok in
        let stops = rw (is, first, second) at fault in
        rw (left_is, left_are) (rw (keeps.pages loads) at (ended-is i c false named r goes stops cause))

    pub load-registers : registers ≡ (vector_effect_at i c).vectors (λ element. is_ones c.policy)
    load-registers =
        let left_are = rw (is, first, second) at registers_are in
        left_are ∙ sym (ap (λ (vectors : (ℕ → Bool) → List (List ℕ)). vectors (λ element. is_ones c.policy)) (effect-vectors i c false (name-of-load i.op loads)))

  -- a store
  module _ (stores : writes_memory i.op ≡ true) (mem : GuestMemory)
      (cfg_is : new ≡ (outcome i cfg base stride c.vectors c.mem.pages).cfg) (mem_is : mem ≡ record c.mem { pages = (outcome i cfg base stride c.vectors c.mem.pages).pages }) where
    pub store-ended : OnOk r ((outcome i cfg base stride c.vectors c.mem.pages).fault ≡ None) → IfErr r (λ f. (outcome i cfg base stride c.vectors c.mem.pages).fault ≡ Some (f.element, f.address)) → IfErr r (λ f. f.cause ≡ store_fault)
        → core_ended r new (record c { mem = mem }) ≡ executed_vector i c
    store-ended ok fault cause =
        let named = name-of-store i.op stores in
        let keeps = outcome-keeps i (cfg_at c) (slice_index c.regs i.vs1) (slice_index c.regs i.vs2) c.vectors c.mem.pages in
        let left_is = rw (is, first, second) at cfg_is in
        let left_mem = rw (is, first, second) at mem_is in
        let goes = rw (is, first, second) at ok in
        let stops = rw (is, first, second) at fault in
        rw (left_is, left_mem) (rw (keeps.vectors stores (λ element. is_ones c.policy)) at (ended-is i c true named r goes stops cause))

-- a call that leaves all but the core and the chain leaves no program where there was none
pub rest-of : (old new : Held) (core : Core) (chain : ChainValue) → old.last ≡ [] → new ≡ record old { core = core; chain = chain } → new ≡ record old { core = new.core; chain = new.chain; last = [] }
rest-of old new core chain none is = rw is (ap (λ (ops : List MicroOp). record old { core = core; chain = chain; last = ops }) none)
