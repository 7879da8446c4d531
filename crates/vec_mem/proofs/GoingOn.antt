-- An instruction that trapped in a load or a store goes on.
use Rattle.std.proofs.Common.{◌≡◌, ℕ, ◌*◌, ◌/◌, ◌<◌, Bool, true, false, cond, ◌||◌, IsTrue, List, Option, Some, None, is_some, refl, sym, ap, arith, ⊎_elim}
use Rattle.std.specs.Option.{option_map}
use Rattle.std.proofs.lemmas.Bool.{or_cases, false≢true}
use Rattle.element_ops.specs.Elements.{AreRegisters}
use Rattle.guest_mem.specs.Pages.{Pages, with_page}
use Rattle.rvv_decode.specs.Ranges.{IsInRange}
use Rattle.rvv_decode.specs.declared.instruction.MemoryOp.{MemoryOp}
use Rattle.rvv_decode.specs.declared.instruction.MemoryOp.TheVariants.{LoadUnitStride, LoadWholeRegister, LoadMask, LoadFaultOnlyFirst, LoadIndexedUnordered, LoadStrided, LoadIndexedOrdered, StoreUnitStride, StoreWholeRegister, StoreMask, StoreIndexedUnordered, StoreStrided, StoreIndexedOrdered}
use Rattle.rvv_decode.specs.declared.instruction.VInstr.{VInstr}
use Rattle.rvv_decode.specs.declared.instruction.VOp.{VOp}
use Rattle.rvv_decode.specs.declared.instruction.VOp.TheVariants.{Opi, Opm, Config, Memory}
use Rattle.vtype_cfg.specs.declared.configuration.Cfg.{Cfg}
use Rattle.vtype_cfg.specs.declared.vtype.Vtype.{Vtype}
use Rattle.vtype_cfg.specs.Classes.{class_of, memory_class, starts_at_zero}
use Rattle.vtype_cfg.specs.Legality.{is_legal, obeys_rules, may_start_at}
use Rattle.vtype_cfg.specs.Settings.{is_valid}
use Rattle.vtype_cfg.proofs.Lengths.{vlen_from, vlen_words}
use Rattle.rvv_meaning.specs.Elementwise.{size_of, is_ones}
use Rattle.rvv_meaning.specs.LoadsAndStores.{with_address, bad, stop, traps_at, trapped, cfg_after, registers_loaded, pages_stored, loads, stores, outcome}
use Rattle.rvv_meaning.specs.VectorAccesses.{access_of, shape_of, trims_of, reads_memory, writes_memory}
use Rattle.rvv_meaning.specs.declared.accesses.Access.{Access}
use Rattle.vec_mem.specs.Resumption.{AsOnce, policy_ones, going_on, GoesOn, ResumeLaw}
use Rattle.vec_mem.specs.Steps.{Fits, FitsLoad}
use Rattle.legal_groups.proofs.Valid.{held}
use Rattle.vec_mem.proofs.Legal.{access-fits, load-fits}
use Rattle.vec_mem.proofs.Loading.{below}
use Rattle.vec_mem.proofs.Outcomes.{outcome-of-load, outcome-of-store, reads}
use Rattle.vec_mem.proofs.Resuming.{resumed, loads-resumed}
use Rattle.vec_mem.proofs.Restoring.{added-extends, stores-resumed}

-- ---- the instruction from another element on

-- what it moves does not depend on the first element
access-again : (op : MemoryOp) (i : VInstr) (c : Cfg) (e stride : ℕ) → access_of op i c stride ≡ access_of op i (resumed c e) stride
unfolding access_of shape_of trims_of
access-again LoadUnitStride i c e stride = refl
access-again LoadWholeRegister i c e stride = refl
access-again LoadMask i c e stride = refl
access-again LoadFaultOnlyFirst i c e stride = refl
access-again LoadIndexedUnordered i c e stride = refl
access-again LoadStrided i c e stride = refl
access-again LoadIndexedOrdered i c e stride = refl
access-again StoreUnitStride i c e stride = refl
access-again StoreWholeRegister i c e stride = refl
access-again StoreMask i c e stride = refl
access-again StoreIndexedUnordered i c e stride = refl
access-again StoreStrided i c e stride = refl
access-again StoreIndexedOrdered i c e stride = refl

starts-anywhere : (op : MemoryOp) → starts_at_zero (memory_class op) ≡ false
unfolding memory_class starts_at_zero
starts-anywhere LoadUnitStride = refl
starts-anywhere LoadWholeRegister = refl
starts-anywhere LoadMask = refl
starts-anywhere LoadFaultOnlyFirst = refl
starts-anywhere LoadIndexedUnordered = refl
starts-anywhere LoadStrided = refl
starts-anywhere LoadIndexedOrdered = refl
starts-anywhere StoreUnitStride = refl
starts-anywhere StoreWholeRegister = refl
starts-anywhere StoreMask = refl
starts-anywhere StoreIndexedUnordered = refl
starts-anywhere StoreStrided = refl
starts-anywhere StoreIndexedOrdered = refl

-- it is legal from every element on
legal-anywhere : (i : VInstr) (vt : Vtype) (a b : ℕ) (op : MemoryOp) → i.op ≡ Memory op → is_legal i vt a ≡ true → is_legal i vt b ≡ true
unfolding is_legal obeys_rules may_start_at
legal-anywhere i vt a b op is legal =
    let class : class_of i.op ≡ memory_class op = ap class_of is in
    rw (class, starts-anywhere op) (rw (class, starts-anywhere op) at legal)

-- ---- the stop of a trap

record StopsAt (t : Access) (o : Option ℕ) : Type 0 where
  element : ℕ
  at : o ≡ Some element
  traps : traps_at t element ≡ true

stops-at : (t : Access) (f : ℕ → ℕ × ℕ) (o : Option ℕ) → is_some (option_map f (trapped t o)) ≡ true → StopsAt t o
stops-at t f None there = absurd (false≢true there)
stops-at t f (Some e) there = record { element = e; at = refl; traps = by (traps_at t e) there }
  where
    by : (m : Bool) → is_some (option_map f (cond m (Some e) None)) ≡ true → m ≡ true
    by true h = refl
    by false h = absurd (false≢true h)

-- the configuration after it
cfg-at : (c : Cfg) (t : Access) (o : Option ℕ) (s : StopsAt t o) → cfg_after c t o ≡ resumed c s.element
unfolding cfg_after
cfg-at c t o s = rw (s.at, s.traps) refl

-- ---- the law

module _ (i : VInstr) (c : Cfg) (base stride : ℕ) (v : List (List ℕ)) (p : Pages) (q : ℕ) (range : IsInRange i) (legal : is_legal i c.vtype c.vstart ≡ true) (valid : IsTrue (is_valid c)) (are : AreRegisters (size_of c) v) (op : MemoryOp) (is : i.op ≡ Memory op) where
  abbrev n : ℕ
  n = c.vlen / 32

  words : c.vlen ≡ 32 * n
  words = sym (vlen_words c.vlen (held c valid).vlen)

  bytes : size_of c ≡ 4 * n
  bytes = omega (arith, words)

  some : 0 < n
  some = omega (arith, vlen_from c.vlen (held c valid).vlen)

  abbrev t : Access
  t = access_of op i c stride

  abbrev more : Pages
  more = with_page p q

  fits : Fits c t
  fits = access-fits i c n stride valid words range legal op is

  module _ (load : reads_memory i.op ≡ true) where
    fits-load : FitsLoad c t
    fits-load = load-fits i c n stride valid words range legal op is (reads i.op op is load)

    module _ (s : StopsAt t (stop c t base v 4 p)) where
      abbrev registers : List (List ℕ)
      registers = below c t n bytes fits base v p (is_ones c.policy) are s.element

      registers-are : registers_loaded c t base v p (policy_ones c) ≡ registers
      unfolding registers_loaded
      registers-are = rw s.at refl

      load-left : ((loads c t base v p).cfg ≡ resumed c s.element) × ((loads c t base v p).vectors (policy_ones c) ≡ registers) × ((loads c t base v p).pages ≡ p)
      unfolding loads
      load-left = (cfg-at c t (stop c t base v 4 p) s, registers-are, refl)

      load-once : AsOnce (policy_ones c) (going_on i c base stride (loads c t base v p) q) (outcome i c base stride v more)
      load-once =
          let left = load-left in
          let again : outcome i (resumed c s.element) base stride registers more ≡ loads (resumed c s.element) t base registers more = outcome-of-load i (resumed c s.element) base stride registers more op is t (access-again op i c s.element stride) load in
          let whole : outcome i c base stride v more ≡ loads c t base v more = outcome-of-load i c base stride v more op is t refl load in
          rw (left.0, left.1, left.2, again, whole) (loads-resumed c t n bytes fits fits-load base v p more are some s.element s.at (added-extends p q))

    stops-load : is_some (loads c t base v p).fault ≡ true → StopsAt t (stop c t base v 4 p)
    unfolding loads
    stops-load there = stops-at t (with_address (bad c t base v 4 p)) (stop c t base v 4 p) there

    load-goes_on : is_some (outcome i c base stride v p).fault ≡ true → GoesOn i c base stride v p q
    load-goes_on there =
        let first : outcome i c base stride v p ≡ loads c t base v p = outcome-of-load i c base stride v p op is t refl load in
        let s = stops-load (rw first at there) in
        let left = load-left s in
        record { legal = rw (first, left.0) (legal-anywhere i c.vtype c.vstart s.element op is legal); once = rw first (load-once s) }

  module _ (store : writes_memory i.op ≡ true) where
    module _ (s : StopsAt t (stop c t base v 2 p)) where
      store-left : ((stores c t base v p).cfg ≡ resumed c s.element) × ((stores c t base v p).vectors (policy_ones c) ≡ v) × ((stores c t base v p).pages ≡ pages_stored c t base v p)
      unfolding stores
      store-left = (cfg-at c t (stop c t base v 2 p) s, refl, refl)

      store-once : AsOnce (policy_ones c) (going_on i c base stride (stores c t base v p) q) (outcome i c base stride v more)
      store-once =
          let left = store-left in
          let stopped = with_page (pages_stored c t base v p) q in
          let again : outcome i (resumed c s.element) base stride v stopped ≡ stores (resumed c s.element) t base v stopped = outcome-of-store i (resumed c s.element) base stride v stopped op is t (access-again op i c s.element stride) store in
          let whole : outcome i c base stride v more ≡ stores c t base v more = outcome-of-store i c base stride v more op is t refl store in
          rw (left.0, left.1, left.2, again, whole) (stores-resumed c t fits base v p q s.element s.at (policy_ones c))

    stops-store : is_some (stores c t base v p).fault ≡ true → StopsAt t (stop c t base v 2 p)
    unfolding stores
    stops-store there = stops-at t (with_address (bad c t base v 2 p)) (stop c t base v 2 p) there

    store-goes_on : is_some (outcome i c base stride v p).fault ≡ true → GoesOn i c base stride v p q
    store-goes_on there =
        let first : outcome i c base stride v p ≡ stores c t base v p = outcome-of-store i c base stride v p op is t refl store in
        let s = stops-store (rw first at there) in
        let left = store-left s in
        record { legal = rw (first, left.0) (legal-anywhere i c.vtype c.vstart s.element op is legal); once = rw first (store-once s) }

-- the name of an instruction that moves memory
record NameOf (o : VOp) : Type 0 where
  name : MemoryOp
  is : o ≡ Memory name

name-of : (o : VOp) → (reads_memory o || writes_memory o) ≡ true → NameOf o
name-of (Memory op) moves = record { name = op; is = refl }
name-of (Opi op) moves = absurd (false≢true moves)
name-of (Opm op) moves = absurd (false≢true moves)
name-of (Config op) moves = absurd (false≢true moves)

pub resume_law : ResumeLaw
resume_law i c base stride v p q moves range legal valid are there =
    let named = name-of i.op moves in
    ⊎_elim
    (λ (load : reads_memory i.op ≡ true). load-goes_on i c base stride v p q range legal valid are named.name named.is load there)
    (λ (store : writes_memory i.op ≡ true). store-goes_on i c base stride v p q range legal valid are named.name named.is store there)
    (or_cases (reads_memory i.op) (writes_memory i.op) moves)
