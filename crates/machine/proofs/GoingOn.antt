-- A machine that trapped in a load or a store goes on.
use Rattle.std.proofs.Common.{◌≡◌, ℕ, Bool, true, false, ◌||◌, List, [], ◌∷◌, Option, Some, None, is_some, refl, sym, ◌∙◌, ap, arith, ⊎_elim}
use Rattle.std.specs.Prelude.{slice_index, if◌then◌else◌}
use Rattle.std.proofs.lemmas.Bool.{or_cases, false≢true}
use Rattle.guest_mem.specs.Mapping.{SamePerms}
use Rattle.guest_mem.specs.Pages.{Pages, first_bad, loaded, with_page, written}
use Rattle.guest_mem.proofs.Mapping.{bad-by-perms, range-same, same-written}
use Rattle.rv32_decode.specs.declared.instruction.Instr.{Instr}
use Rattle.rv32_decode.specs.Rows.{means}
use Rattle.rvv_decode.specs.Rows.{means as means_vector}
use Rattle.rvv_decode.specs.declared.instruction.VInstr.{VInstr}
use Rattle.rvv_decode.specs.declared.instruction.VOp.{VOp}
use Rattle.rvv_decode.specs.declared.instruction.VOp.TheVariants.{Opi, Opm, Config, Memory}
use Rattle.vtype_cfg.specs.declared.configuration.Cfg.{Cfg}
use Rattle.vtype_cfg.specs.Legality.{is_legal}
use Rattle.rvv_meaning.specs.declared.Meaning.TheVariants.{Vector}
use Rattle.rvv_meaning.specs.declared.Mode.TheVariants.{Running}
use Rattle.rvv_meaning.specs.declared.Next.TheVariants.{Stop, Perform}
use Rattle.rvv_meaning.specs.declared.accesses.Access.{Access}
use Rattle.rvv_meaning.specs.Elementwise.{is_ones}
use Rattle.rvv_meaning.specs.LoadsAndStores.{Outcome, address, bytes_of, stored_all, pages_stored, loads, stores, outcome_by, outcome}
use Rattle.rvv_meaning.specs.States.{Core, cfg_at, vtype_at, trap, next, next_for, next_scalar, next_vector, execute, word_size, fetch_fault, core_after, after_flow, executed_vector, is_running}
use Rattle.rvv_meaning.specs.VectorAccesses.{access_of, is_store, reads_memory, writes_memory}
use Rattle.rvv_meaning.specs.Vectors.{flow_after, access_effect}
use Rattle.vec_mem.specs.Resumption.{GoesOn}
use Rattle.vec_mem.proofs.GoingOn.{resume_law as access_law}
use Rattle.vec_mem.proofs.Restoring.{added-extends}
use Rattle.machine.specs.Resuming.{resumed, mapped, TrapsAtAccess, ResumeLaw}
use Rattle.machine.proofs.Accessed.{Keeps, outcome-keeps, NameOf, name-of-load, name-of-store, left, executed-is}

-- ---- what comes at pc

-- what is known where a vector instruction comes
record Found (c : Core) (i : VInstr) : Type 0 where
  fine : first_bad c.mem.pages execute c.pc word_size ≡ None
  scalar : means (loaded c.mem.pages c.pc word_size) ≡ None
  vector : means_vector (loaded c.mem.pages c.pc word_size) ≡ Some i
  legal : is_legal i (vtype_at c) c.csrs.vstart ≡ true

found : (c : Core) (i : VInstr) → next c ≡ Perform (Vector i) → Found c i
unfolding next
found c i there = by (first_bad c.mem.pages execute c.pc word_size) refl there
  where
    word : ℕ
    word = loaded c.mem.pages c.pc word_size

    at_legal : (j : VInstr) (l : Bool) → first_bad c.mem.pages execute c.pc word_size ≡ None → means word ≡ None → means_vector word ≡ Some j
        → is_legal j (vtype_at c) c.csrs.vstart ≡ l
        → (if l then Perform (Vector j) else Stop (trap 2 word c)) ≡ Perform (Vector i) → Found c i
    at_legal j true fine scalar vector legal e =
        let same : j ≡ i = cc in
        record { fine = fine; scalar = scalar; vector = rw same at vector; legal = rw same at legal }
    at_legal j false fine scalar vector legal e = cc

    at_vector : (o : Option VInstr) → first_bad c.mem.pages execute c.pc word_size ≡ None → means word ≡ None → means_vector word ≡ o → next_vector c word o ≡ Perform (Vector i) → Found c i
    at_vector None fine scalar vector e = cc
    at_vector (Some j) fine scalar vector e = at_legal j (is_legal j (vtype_at c) c.csrs.vstart) fine scalar vector refl e

    at_scalar : (o : Option Instr) → first_bad c.mem.pages execute c.pc word_size ≡ None → means word ≡ o → next_scalar c word o ≡ Perform (Vector i) → Found c i
    at_scalar None fine scalar e = at_vector (means_vector word) fine scalar refl e
    at_scalar (Some s) fine scalar e = cc

    by : (o : Option ℕ) → first_bad c.mem.pages execute c.pc word_size ≡ o → (if is_some o then Stop (trap fetch_fault c.pc c) else next_for c word) ≡ Perform (Vector i) → Found c i
    by None fine e = at_scalar (means word) fine refl e
    by (Some a) fine e = cc

-- and where it comes so
comes : (c : Core) (i : VInstr) → Found c i → next c ≡ Perform (Vector i)
unfolding next
comes c i f = rw (f.fine, f.scalar, f.vector, f.legal) refl

-- ---- permissions

perms-stored : (c : Cfg) (t : Access) (base : ℕ) (v : List (List ℕ)) (p : Pages) (es : List ℕ) → SamePerms (stored_all c t base v p es) p
unfolding stored_all
perms-stored c t base v p [] = λ x. refl
perms-stored c t base v p (e ∷ es) =
    λ x. perms-stored c t base v (written p (address c t base v e) (bytes_of c t v e)) es x ∙ same-written p p (address c t base v e) (bytes_of c t v e) (λ y. refl) x

perms-of-stores : (c : Cfg) (t : Access) (base : ℕ) (v : List (List ℕ)) (p : Pages) → SamePerms (stores c t base v p).pages p
unfolding stores pages_stored
perms-of-stores c t base v p = perms-stored c t base v p _

perms-of-loads : (c : Cfg) (t : Access) (base : ℕ) (v : List (List ℕ)) (p : Pages) → SamePerms (loads c t base v p).pages p
unfolding loads
perms-of-loads c t base v p = λ x. refl

perms-of-either : (c : Cfg) (t : Access) (base : ℕ) (v : List (List ℕ)) (p : Pages) (b : Bool) → SamePerms (if b then stores c t base v p else loads c t base v p).pages p
perms-of-either c t base v p true = perms-of-stores c t base v p
perms-of-either c t base v p false = perms-of-loads c t base v p

perms-by : (i : VInstr) (c : Cfg) (base stride : ℕ) (v : List (List ℕ)) (p : Pages) (op : VOp) → SamePerms (outcome_by op i c base stride v p).pages p
perms-by i c base stride v p (Opi op) = λ x. refl
perms-by i c base stride v p (Opm op) = λ x. refl
perms-by i c base stride v p (Config op) = λ x. refl
perms-by i c base stride v p (Memory op) = perms-of-either c (access_of op i c stride) base v p (is_store op)

perms-left : (i : VInstr) (c : Cfg) (base stride : ℕ) (v : List (List ℕ)) (p : Pages) → SamePerms (outcome i c base stride v p).pages p
unfolding outcome
perms-left i c base stride v p = perms-by i c base stride v p i.op

-- ---- the law

-- the name of an instruction that moves memory, with whether it stores
record Named (i : VInstr) : Type 0 where
  stores_too : Bool
  name : NameOf i.op stores_too

named : (i : VInstr) → (reads_memory i.op || writes_memory i.op) ≡ true → Named i
named i moves =
    ⊎_elim
    (λ (load : reads_memory i.op ≡ true). record { stores_too = false; name = name-of-load i.op load })
    (λ (store : writes_memory i.op ≡ true). record { stores_too = true; name = name-of-store i.op store })
    (or_cases (reads_memory i.op) (writes_memory i.op) moves)

module _ (c : Core) (i : VInstr) (q : ℕ) (h : TrapsAtAccess c i) (nm : Named i) where
  abbrev base : ℕ
  base = slice_index c.regs i.vs1

  abbrev stride : ℕ
  stride = slice_index c.regs i.vs2

  -- what the access leaves, and the machine with it that runs again
  abbrev r : Outcome
  r = outcome i (cfg_at c) base stride c.vectors c.mem.pages

  abbrev again : Core
  again = record c {
    csrs = record c.csrs { vstart = r.cfg.vstart; vl = r.cfg.vl };
    mem = record c.mem { pages = with_page r.pages q };
    vectors = r.vectors (λ element. is_ones c.policy);
    mode = Running;
  }

  abbrev whole : Core
  whole = mapped q c

  -- a machine after the access, by its fault
  abbrev after : Core → Outcome → Option (ℕ × ℕ) → Core
  after k o f =
      after_flow (flow_after i k.pc k.regs k.csrs k.mem k.vectors k.policy nm.name.name f)
      (record k { csrs = record k.csrs { vstart = o.cfg.vstart; vl = o.cfg.vl }; mem = record k.mem { pages = o.pages }; vectors = o.vectors (λ element. is_ones k.policy) }) []

  executed-after : (k : Core) → executed_vector i k ≡ after k (left i k nm.stores_too nm.name) (left i k nm.stores_too nm.name).fault
  unfolding access_effect
  executed-after k = executed-is i k nm.stores_too nm.name

  core-is : core_after c [] ≡ after c r r.fault
  unfolding core_after
  core-is = rw h.there (executed-after c)

  -- it trapped
  trapped-by : (f : Option (ℕ × ℕ)) → is_running (after c r f).mode ≡ false → is_some f ≡ true
  trapped-by (Some f) stopped = refl
  trapped-by None stopped = absurd (false≢true (sym (sym (ap is_running h.running) ∙ stopped)))

  trapped : is_some r.fault ≡ true
  trapped = trapped-by r.fault (sym (ap (λ (k : Core). is_running k.mode) core-is) ∙ h.traps)

  -- so it is this machine that runs again
  goes-by : (f : Option (ℕ × ℕ)) → is_some f ≡ true → mapped q (resumed (after c r f)) ≡ again
  goes-by (Some f) there = refl
  goes-by None there = absurd (false≢true there)

  goes : mapped q (resumed (core_after c [])) ≡ again
  goes = ap (λ (k : Core). mapped q (resumed k)) core-is ∙ goes-by r.fault trapped

  pages-by : (f : Option (ℕ × ℕ)) → (after c r f).mem.pages ≡ r.pages
  pages-by (Some f) = refl
  pages-by None = refl

  keeps : Keeps (reads_memory i.op) (writes_memory i.op) (cfg_at c) c.vectors c.mem.pages r
  keeps = outcome-keeps i (cfg_at c) base stride c.vectors c.mem.pages

  first : Found c i
  first = found c i h.there

  law : GoesOn i (cfg_at c) base stride c.vectors c.mem.pages q
  law = access_law i (cfg_at c) base stride c.vectors c.mem.pages q h.moves h.range first.legal h.valid h.registers trapped

  -- ---- the instruction comes again

  fine-left : first_bad r.pages execute c.pc word_size ≡ None
  fine-left = bad-by-perms r.pages c.mem.pages execute c.pc word_size (perms-left i (cfg_at c) base stride c.vectors c.mem.pages) ∙ first.fine

  same-left : (first_bad (with_page r.pages q) execute c.pc word_size ≡ None) × (loaded (with_page r.pages q) c.pc word_size ≡ loaded r.pages c.pc word_size)
  same-left = range-same r.pages (with_page r.pages q) execute c.pc word_size (added-extends r.pages q) (omega arith) h.pc fine-left

  same-whole : (first_bad (with_page c.mem.pages q) execute c.pc word_size ≡ None) × (loaded (with_page c.mem.pages q) c.pc word_size ≡ loaded c.mem.pages c.pc word_size)
  same-whole = range-same c.mem.pages (with_page c.mem.pages q) execute c.pc word_size (added-extends c.mem.pages q) (omega arith) h.pc first.fine

  word-again : loaded (with_page r.pages q) c.pc word_size ≡ loaded c.mem.pages c.pc word_size
  word-again =
      let pages : (core_after c []).mem.pages ≡ r.pages = ap (λ (k : Core). k.mem.pages) core-is ∙ pages-by r.fault in
      same-left.1 ∙ ap (λ (p : Pages). loaded p c.pc word_size) (sym pages) ∙ h.word

  next-again : next again ≡ Perform (Vector i)
  next-again =
      comes again i (record {
        fine = same-left.0;
        scalar = ap means word-again ∙ first.scalar;
        vector = ap means_vector word-again ∙ first.vector;
        legal = rw keeps.vtype at law.legal;
      })

  next-whole : next whole ≡ Perform (Vector i)
  next-whole =
      comes whole i (record {
        fine = same-whole.0;
        scalar = ap means same-whole.1 ∙ first.scalar;
        vector = ap means_vector same-whole.1 ∙ first.vector;
        legal = first.legal;
      })

  -- ---- what it leaves

  abbrev left_again : Outcome
  left_again = left i again nm.stores_too nm.name

  abbrev left_whole : Outcome
  left_whole = left i whole nm.stores_too nm.name

  cfg-again : cfg_at again ≡ r.cfg
  cfg-again = sym keeps.cfg

  going : left_again ≡ outcome i r.cfg base stride (r.vectors (λ element. is_ones c.policy)) (with_page r.pages q)
  going = ap (λ (k : Cfg). outcome i k base stride (r.vectors (λ element. is_ones c.policy)) (with_page r.pages q)) cfg-again

  -- a machine that ran, after an access that left this
  abbrev ran : (vstart vl : ℕ) (pages : Pages) (vectors : List (List ℕ)) → Option (ℕ × ℕ) → Core
  ran vstart vl pages vectors f =
      after_flow (flow_after i c.pc c.regs c.csrs c.mem c.vectors c.policy nm.name.name f)
      (record c { csrs = record c.csrs { vstart = vstart; vl = vl }; mem = record c.mem { pages = pages }; vectors = vectors; mode = Running }) []

  ran-whole : (f : Option (ℕ × ℕ)) → ran left_whole.cfg.vstart left_whole.cfg.vl left_whole.pages (left_whole.vectors (λ element. is_ones c.policy)) f ≡ after whole left_whole f
  ran-whole (Some f) = refl
  ran-whole None = rw h.running refl

  same : after again left_again left_again.fault ≡ after whole left_whole left_whole.fault
  same =
      let cfg : left_again.cfg ≡ left_whole.cfg = ap (λ (o : Outcome). o.cfg) going ∙ law.once.cfg in
      let pages : left_again.pages ≡ left_whole.pages = ap (λ (o : Outcome). o.pages) going ∙ law.once.pages in
      let vectors : left_again.vectors (λ element. is_ones c.policy) ≡ left_whole.vectors (λ element. is_ones c.policy) = ap (λ (o : Outcome). o.vectors (λ element. is_ones c.policy)) going ∙ law.once.vectors in
      let fault : left_again.fault ≡ left_whole.fault = ap (λ (o : Outcome). o.fault) going ∙ law.once.fault in
      (λ z. ran (cfg z).vstart (cfg z).vl (pages z) (vectors z) (fault z)) ∙ ran-whole left_whole.fault

  goes-on : (taken : List ℕ) → core_after (mapped q (resumed (core_after c []))) taken ≡ core_after whole []
  unfolding core_after
  goes-on taken = rw goes (rw (next-again, next-whole) (executed-after again ∙ same ∙ sym (executed-after whole)))

-- whatever bytes the step took: it asks for none
pub resumed-step : (c : Core) (i : VInstr) (q : ℕ) (taken : List ℕ) → TrapsAtAccess c i → core_after (mapped q (resumed (core_after c []))) taken ≡ core_after (mapped q c) []
resumed-step c i q taken h = goes-on c i q h (named i h.moves) taken

pub resume_law : ResumeLaw
resume_law c i q h = resumed-step c i q [] h
