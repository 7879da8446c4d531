-- What an instruction leaves, as its access says it; and the configuration after it is valid.
use Rattle.std.proofs.Common.{◌≡◌, ℕ, ◌-◌, ◌*◌, ◌^◌, ◌<◌, ◌≤◌, Bool, true, false, cond, not, nat_le, nat_lt, ◌&&◌, IsTrue, List, Option, Some, None, is_some, unwrap_or, ltb, refl, sym, ◌∙◌, ap, arith, ◌⊎◌, inl, inr}
use Rattle.std.proofs.lemmas.Bool.{and_parts, not-true, false≢true}
use Rattle.std.proofs.lemmas.Bool.Decides.{nat_tests}
use Rattle.guest_mem.specs.Pages.{Pages}
use Rattle.rvv_decode.specs.declared.instruction.MemoryOp.{MemoryOp}
use Rattle.rvv_decode.specs.declared.instruction.MemoryOp.TheVariants.{LoadUnitStride, LoadWholeRegister, LoadMask, LoadFaultOnlyFirst, LoadIndexedUnordered, LoadStrided, LoadIndexedOrdered, StoreUnitStride, StoreWholeRegister, StoreMask, StoreIndexedUnordered, StoreStrided, StoreIndexedOrdered}
use Rattle.rvv_decode.specs.declared.instruction.VInstr.{VInstr}
use Rattle.rvv_decode.specs.declared.instruction.VOp.{VOp}
use Rattle.rvv_decode.specs.declared.instruction.VOp.TheVariants.{Memory}
use Rattle.vtype_cfg.specs.declared.configuration.Cfg.{Cfg}
use Rattle.vtype_cfg.specs.Classes.{memory_class, needs_no_setting}
use Rattle.vtype_cfg.specs.Legality.{is_legal}
use Rattle.vtype_cfg.specs.Settings.{is_valid, vlmax}
use Rattle.vtype_cfg.proofs.Supported.{setting_bounded, vlen_bounded}
use Rattle.rvv_meaning.specs.LoadsAndStores.{bad, is_unmasked, moved, stop, cfg_after, loads, stores, outcome_by, outcome}
use Rattle.rvv_meaning.specs.Scalar.Accesses.{to_read, to_write}
use Rattle.rvv_meaning.specs.VectorAccesses.{whole, access_of, shape_of, trims_of, is_store, reads_memory, writes_memory}
use Rattle.rvv_meaning.specs.declared.accesses.Access.{Access}
use Rattle.vec_mem.specs.Steps.{Fits}
use Rattle.vec_mem.proofs.Finding.{find-range}
use Rattle.legal_groups.proofs.Valid.{held}
use Rattle.vec_mem.proofs.Legal.{length-short, has-setting}

-- ---- what the table asks for

pub record TableFor (op : MemoryOp) (c : Cfg) : Type 0 where
  pub sew : (shape_of op ≡ whole) ⊎ (8 ≤ c.vtype.sew)
  pub most : c.vtype.sew ≤ 32
  pub lmul : c.vtype.lmul8 ≤ 64
  pub vlen : c.vlen ≤ 2 ^ 16
  pub length : c.vl ≤ 2 ^ 16

pub table-for : (i : VInstr) (c : Cfg) (op : MemoryOp) → IsTrue (is_valid c) → is_legal i c.vtype c.vstart ≡ true → i.op ≡ Memory op → TableFor op c
unfolding shape_of memory_class needs_no_setting
table-for i c op valid legal is =
    let all = held c valid in
    let bounds = setting_bounded c.vtype all.setting in
    let most : c.vlen ≤ 65536 = vlen_bounded c.vlen all.vlen in
    let short : c.vl ≤ c.vlen = length-short c valid in
    record { sew = by op is; most = bounds.greatest_sew; lmul = bounds.greatest_lmul; vlen = most; length = omega arith }
  where
    by : (op : MemoryOp) → i.op ≡ Memory op → (shape_of op ≡ whole) ⊎ (8 ≤ c.vtype.sew)
    by LoadWholeRegister is = inl refl
    by StoreWholeRegister is = inl refl
    by LoadUnitStride is = inr ((setting_bounded c.vtype (held c valid).setting).least_sew (has-setting i c.vtype c.vstart LoadUnitStride legal is refl))
    by LoadMask is = inr ((setting_bounded c.vtype (held c valid).setting).least_sew (has-setting i c.vtype c.vstart LoadMask legal is refl))
    by LoadFaultOnlyFirst is = inr ((setting_bounded c.vtype (held c valid).setting).least_sew (has-setting i c.vtype c.vstart LoadFaultOnlyFirst legal is refl))
    by LoadIndexedUnordered is = inr ((setting_bounded c.vtype (held c valid).setting).least_sew (has-setting i c.vtype c.vstart LoadIndexedUnordered legal is refl))
    by LoadStrided is = inr ((setting_bounded c.vtype (held c valid).setting).least_sew (has-setting i c.vtype c.vstart LoadStrided legal is refl))
    by LoadIndexedOrdered is = inr ((setting_bounded c.vtype (held c valid).setting).least_sew (has-setting i c.vtype c.vstart LoadIndexedOrdered legal is refl))
    by StoreUnitStride is = inr ((setting_bounded c.vtype (held c valid).setting).least_sew (has-setting i c.vtype c.vstart StoreUnitStride legal is refl))
    by StoreMask is = inr ((setting_bounded c.vtype (held c valid).setting).least_sew (has-setting i c.vtype c.vstart StoreMask legal is refl))
    by StoreIndexedUnordered is = inr ((setting_bounded c.vtype (held c valid).setting).least_sew (has-setting i c.vtype c.vstart StoreIndexedUnordered legal is refl))
    by StoreStrided is = inr ((setting_bounded c.vtype (held c valid).setting).least_sew (has-setting i c.vtype c.vstart StoreStrided legal is refl))
    by StoreIndexedOrdered is = inr ((setting_bounded c.vtype (held c valid).setting).least_sew (has-setting i c.vtype c.vstart StoreIndexedOrdered legal is refl))

-- ---- the outcome

-- whether an instruction of a name reads or writes
pub reads : (o : VOp) (op : MemoryOp) → o ≡ Memory op → reads_memory o ≡ true → is_store op ≡ false
reads o op is test = not-true (is_store op) (rw is at test)

pub writes : (o : VOp) (op : MemoryOp) → o ≡ Memory op → writes_memory o ≡ true → is_store op ≡ true
writes o op is test = rw is at test

module _ (i : VInstr) (c : Cfg) (base stride : ℕ) (v : List (List ℕ)) (p : Pages) (op : MemoryOp) where
  by-load : (o : VOp) → o ≡ Memory op → is_store op ≡ false → outcome_by o i c base stride v p ≡ loads c (access_of op i c stride) base v p
  by-load o is reading = rw (is, reading) refl

  by-store : (o : VOp) → o ≡ Memory op → is_store op ≡ true → outcome_by o i c base stride v p ≡ stores c (access_of op i c stride) base v p
  by-store o is writing = rw (is, writing) refl

  module _ (is : i.op ≡ Memory op) (t : Access) (moves : t ≡ access_of op i c stride) where
    pub outcome-of-load : reads_memory i.op ≡ true → outcome i c base stride v p ≡ loads c t base v p
    unfolding outcome
    outcome-of-load test = by-load i.op is (reads i.op op is test) ∙ sym (ap (λ (x : Access). loads c x base v p) moves)

    pub outcome-of-store : writes_memory i.op ≡ true → outcome i c base stride v p ≡ stores c t base v p
    unfolding outcome
    outcome-of-store test = by-store i.op is (writes i.op op is test) ∙ sym (ap (λ (x : Access). stores c x base v p) moves)

-- ---- the configuration after it

valid-with : (c : Cfg) (vl vstart : ℕ) → IsTrue (is_valid c) → vl ≤ c.vl → vstart < c.vlen → IsTrue (is_valid (record c { vstart = vstart; vl = vl }))
unfolding is_valid
valid-with c vl vstart valid less inside =
    let all = held c valid in
    let length = all.length in
    let few : nat_le vl (vlmax c.vtype c.vlen) ≡ true = grind (arith, nat_tests) in
    let starts : nat_lt vstart c.vlen ≡ true = grind (arith, nat_tests) in
    let mode : nat_le c.vxrm 3 ≡ true = (and_parts _ _ valid).1 in
    rw (all.vlen, all.setting, few, starts, mode) refl

-- only an access that moves vl elements trims the vector length
trimmed-len : (op : MemoryOp) (i : VInstr) (c : Cfg) (stride : ℕ) → (access_of op i c stride).trims ≡ true → (access_of op i c stride).len ≡ c.vl
unfolding access_of shape_of trims_of
trimmed-len LoadUnitStride i c stride trims = refl
trimmed-len LoadWholeRegister i c stride trims = absurd (false≢true trims)
trimmed-len LoadMask i c stride trims = absurd (false≢true trims)
trimmed-len LoadFaultOnlyFirst i c stride trims = refl
trimmed-len LoadIndexedUnordered i c stride trims = refl
trimmed-len LoadStrided i c stride trims = refl
trimmed-len LoadIndexedOrdered i c stride trims = refl
trimmed-len StoreUnitStride i c stride trims = refl
trimmed-len StoreWholeRegister i c stride trims = absurd (false≢true trims)
trimmed-len StoreMask i c stride trims = absurd (false≢true trims)
trimmed-len StoreIndexedUnordered i c stride trims = refl
trimmed-len StoreStrided i c stride trims = refl
trimmed-len StoreIndexedOrdered i c stride trims = refl

module _ (c : Cfg) (t : Access) (n : ℕ) (words : c.vlen ≡ 32 * n) (fits : Fits c t) (trims : t.trims ≡ true → t.len ≡ c.vl) (valid : IsTrue (is_valid c)) where
  -- a configuration after a stop at an element of the access, or at none
  valid-after : (o : Option ℕ) → ((e : ℕ) → o ≡ Some e → e < t.len) → IsTrue (is_valid (cfg_after c t o))
  unfolding cfg_after
  valid-after None inside = valid-with c c.vl 0 valid (omega arith) (omega (arith, fits.wide))
  valid-after (Some e) inside = by t.trims refl (ltb 0 e) refl
    where
      below : e < c.vlen
      below = let short = fits.short in let l = inside e refl in omega arith

      by : (m : Bool) → t.trims ≡ m → (k : Bool) → ltb 0 e ≡ k → IsTrue (is_valid (record c { vstart = unwrap_or (cond (not (t.trims && ltb 0 e)) (Some e) None) 0; vl = cond (not (t.trims && ltb 0 e)) c.vl e }))
      by false trimmed k first = rw trimmed (valid-with c c.vl e valid (omega arith) below)
      by true trimmed false first = rw (trimmed, first) (valid-with c c.vl e valid (omega arith) below)
      by true trimmed true first =
          let less : e ≤ c.vl = let same = trims trimmed in let l = inside e refl in omega arith in
          rw (trimmed, first) (valid-with c e 0 valid less (omega (arith, fits.wide)))

  stop-inside : (base need : ℕ) (v : List (List ℕ)) (p : Pages) (e : ℕ) → stop c t base v need p ≡ Some e → e < t.len
  unfolding stop moved
  stop-inside base need v p e found =
      let h = find-range (λ x. is_some (bad c t base v need p x)) (is_unmasked c t base v) c.vstart (t.len - c.vstart) e found in
      omega (arith, h.0, h.1)

  pub valid-after-load : (base : ℕ) (v : List (List ℕ)) (p : Pages) → IsTrue (is_valid (loads c t base v p).cfg)
  unfolding loads
  valid-after-load base v p = valid-after (stop c t base v to_read p) (stop-inside base to_read v p)

  pub valid-after-store : (base : ℕ) (v : List (List ℕ)) (p : Pages) → IsTrue (is_valid (stores c t base v p).cfg)
  unfolding stores
  valid-after-store base v p = valid-after (stop c t base v to_write p) (stop-inside base to_write v p)

pub trims-by-length : (op : MemoryOp) (i : VInstr) (c : Cfg) (stride : ℕ) (t : Access) → t ≡ access_of op i c stride → t.trims ≡ true → t.len ≡ c.vl
trims-by-length op i c stride t moves = rw moves (trimmed-len op i c stride)
